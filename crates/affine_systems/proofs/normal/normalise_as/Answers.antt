use Rattle.std.proofs.Common.{List, refl, sym, subst}
use Rattle.affine_systems.specs.declared.row.Term.{Term}
use Rattle.affine_systems.specs.declared.row.Norm.TheVariants as answer
use Rattle.affine_systems.specs.Normal.{IsSize, Normal, Answers}
use Rattle.affine_systems.proofs.GcdLaws.{too_big}
use Rattle.affine_systems.proofs.normal.normalise_as.Goals as goal

pub returns-then-stays_big : goal.returns-then-stays_big
returns-then-stays_big c =
    let r = c.args.row.now in
    let least = c.size_range-least.result.0 in
    let most = c.size_range-least.result.1 in
    let a : IsSize least r.terms = subst (λ (ts : List Term). IsSize least ts) c.as_slice.ensures c.size_range-least.ensures.least in
    let b : IsSize most r.terms = subst (λ (ts : List Term). IsSize most ts) c.as_slice.ensures c.size_range-least.ensures.most in
    let k = c.stays_big.ensures c.if-stays_big.true in
    subst (λ (n : Normal). Answers n answer.TooBig r r) (sym (too_big c.args.rational r least most c.if-not-row.true a b k.0 k.1)) (refl, refl)
