use Rattle.std.proofs.Common.{◌≡◌, ◌∙◌, suc, ◌+◌, ◌-◌, ◌<◌, length, take, drop, add-one, arith, ap, refl, sym, subst, pos}
use Rattle.affine_systems.specs.declared.row.Var.TheVariants.{Cell}
use Rattle.affine_systems.specs.Terms.{term}
use Rattle.affine_systems.proofs.Merges.{slice_rest}
use Rattle.cases_rows.specs.Given.{AreGiven}
use Rattle.cases_rows.proofs.GivenSteps.{given-more}
use Rattle.cases_rows.proofs.given.are_terms.Goals as goal

pub loop-i-preserved : goal.loop-i-preserved
loop-i-preserved c =
    let ts = c.args.terms.now in
    let m = c.loop-i.invariant.0 in
    let k = c.loop-i.i - 1 in
    let l : k < length ts = omega (arith, m) in
    let e : suc k ≡ c.loop-i.i = omega arith in (
      omega (arith, m),
      given-more ts (take (length ts - (k + 1)) (drop (k + 1) ts)) k (term (Cell 0) (pos 0)) l (c.if-not-is_term.ensures refl) (slice_rest ts (k + 1) ∙ ap (λ n. drop n ts) (add-one k)) (c.if-not-comes_before.ensures refl)
          (subst (λ n. AreGiven (drop n ts)) (sym e) c.loop-i.invariant.1),
    )
