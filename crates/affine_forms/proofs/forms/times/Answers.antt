use Rattle.std.proofs.Common.{◌∙◌, sym, subst, pos, [], ◌+ℤ◌, ◌*ℤ◌}
use Rattle.affine_systems.specs.Rows.{combined_terms}
use Rattle.affine_systems.specs.Terms.{Ascends}
use Rattle.affine_systems.proofs.AscendLaws.{ascends-combined}
use Rattle.affine_forms.proofs.SmallLaws.{limited_same, plus_nothing, unchanged, small_unchanged}
use Rattle.affine_forms.proofs.forms.times.Goals as goal

pub limit-requires : goal.limit-requires
limit-requires c =
    let k = small_unchanged c.args.k c.requires.factor in
    let e = c.in_ok-terms.ensures ∙ (λ i. combined_terms (k i) (c.as_slice.ensures i) (pos 0) []) in
    subst Ascends (sym e) (ascends-combined c.args.k c.args.f.now.terms (pos 0) [])

pub returns-clause-defined : goal.returns-clause-defined
returns-clause-defined c =
    let k = small_unchanged c.args.k c.requires.factor in
    let m = small_unchanged c.args.f.now.constant c.requires.form.1 in
    limited_same _ _ _ _ _ c.limit.ensures.defined
    (c.in_ok-terms.ensures ∙ (λ i. combined_terms (k i) (c.as_slice.ensures i) (pos 0) []))
    (unchanged c.blend-constant.result c.blend-constant.ensures.below ∙ c.blend-constant.ensures.defined ∙ (λ i. (k i *ℤ m i) +ℤ pos 0) ∙ plus_nothing _)
