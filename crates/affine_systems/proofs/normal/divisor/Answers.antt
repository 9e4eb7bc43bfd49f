use Rattle.std.proofs.Common.{◌∙◌, ◌+◌, pos, ap, arith, drop, get_or, SFits, to_z-of_z, rules, unsigned_abs, ◌≡◌}
use Rattle.std.specs.Int.{w128}
use Rattle.affine_systems.specs.declared.row.Var.TheVariants.{Cell}
use Rattle.affine_systems.specs.Terms.{term}
use Rattle.affine_systems.specs.Normal.{gcd, gcd_of}
use Rattle.affine_systems.proofs.GcdSteps.{divisor_end, divisor_one, gcd_of-drop}
use Rattle.affine_systems.proofs.GcdLaws.{gcd_of-from}
use Rattle.affine_systems.proofs.normal.divisor.Goals as goal

pub loop-t-init : goal.loop-t-init
loop-t-init c = ap (gcd_of c.args.terms.now) c.gcd-g.ensures ∙ gcd_of-from c.args.terms.now c.args.size c.args.start c.requires

pub returns-clause-defined : goal.returns-clause-defined
returns-clause-defined c =
    let d = divisor_end c.args.terms.now c.args.start c.loop-t.g c.loop-t.t-index c.loop-t-test.false c.loop-t.invariant in
    omega (arith, d, c.max.ensures)

pub returns-then-g-eq1-clause-defined : goal.returns-then-g-eq1-clause-defined
returns-then-g-eq1-clause-defined c =
    let ts = c.args.terms.now in
    let i = c.loop-t.t-index in
    let x = get_or ts i (term (Cell 0) (pos 0)) in
    let f : SFits w128 x.factor = search rules in
    let k : c.gcd-g-in-loop-t.result ≡ gcd (unsigned_abs x.factor) c.loop-t.g = c.gcd-g-in-loop-t.ensures ∙ ap (λ n. gcd n c.loop-t.g) (c.unsigned_abs.ensures.value ∙ ap unsigned_abs (to_z-of_z f)) in
    divisor_one ts (drop (i + 1) ts) c.args.start c.gcd-g-in-loop-t.result c.if-g-eq1.true
    (ap (gcd_of (drop (i + 1) ts)) k ∙ (gcd_of-drop ts i c.loop-t.g (term (Cell 0) (pos 0)) c.loop-t-test.true ∙ c.loop-t.invariant))
