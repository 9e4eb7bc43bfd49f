use Rattle.std.proofs.Common.{◌≡◌, Bool, false, sym, ap, subst, ◌∙◌}
use Rattle.std.specs.Prelude.{IfOk, if◌then◌else◌}
use Rattle.f77_ast.specs.PlainStmt.{loop_tree}
use Rattle.f77_ast.specs.declared.marks.Mark.{Mark}
use Rattle.f77_ast.specs.declared.marks.Mark.TheVariants.{Serial}
use Rattle.f77_ast.specs.declared.marks.Reason.TheVariants.{InputOutput}
use Rattle.loop_marker.specs.Jumps.{body_of, may_have_io}
use Rattle.loop_marker.specs.Variables.{inner_in}
use Rattle.loop_marker.specs.Known.{known_module}
use Rattle.loop_marker.specs.Marks.{by_step}
use Rattle.loop_marker.proofs.loops.by_io.Goals as goal

pub returns : goal.returns
returns c =
    let k = known_module c.args.a.now in
    let n = c.args.at in
    let l = loop_tree c.args.l.now in
    let none : may_have_io k.effects (body_of l) ≡ false = sym c.may_have_io.ensures ∙ c.if-may_have_io.false in
    let body = c.in_ok-body_of.ensures.defined in
    let uses = c.in_ok-uses_of.ensures.defined in
    let inner = c.in_ok-inner_in.ensures in
    let made =
    (λ t. by_step k (body t) (uses t) l (inner t))
    ∙ sym (ap (λ (b : Bool). if b then Serial InputOutput else by_step k (k.body l) (k.uses n l) l (inner_in k.names k.tree l)) none) in
    subst (λ (m : Mark). IfOk c.by_step.result (λ x. x ≡ m)) made c.by_step.ensures
