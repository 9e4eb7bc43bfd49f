use Rattle.std.proofs.Common.{◌∙◌, sym}
use Rattle.f77_ast.specs.PlainDecl.{module_tree}
use Rattle.f77_parser.proofs.PlainLaws.{elaborated-plain}
use Rattle.f77_parser.proofs.ElaborateLaws.{elaborated-walked}
use Rattle.f77_parser.proofs.elaboration.elaborate.Goals as goal

pub returns-then-has_no_values : goal.returns-then-has_no_values
returns-then-has_no_values c =
    c.unchanged.ensures
    ∙ sym (elaborated-plain (module_tree c.args.written) c.in_ok-bounded.bounded c.in_ok-bounded.ensures (c.is_empty.ensures.0 c.if-is_empty.true) (sym c.has_no_values.ensures ∙ c.if-has_no_values.true))

pub returns : goal.returns
returns c =
    c.with_body.ensures
    ∙ elaborated-walked (module_tree c.args.written) _ _ _ (c.in_ok-known.ensures c.in_ok-bounded.ensures) c.in_ok-body.ensures.tree (rw c.new.ensures at c.in_ok-body.ensures.values)
