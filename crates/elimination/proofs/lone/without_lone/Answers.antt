use Rattle.std.proofs.Common.{◌∙◌, List, take, ap, sym, subst, rules}
use Rattle.std.proofs.lemmas.Fn.{filter_same}
use Rattle.affine_systems.specs.declared.items.Item.{Item}
use Rattle.affine_systems.specs.Items.{rows_of}
use Rattle.affine_systems.specs.Given.{AreNormal}
use Rattle.affine_systems.specs.Lone.{AllHaveTerms, IsClosed, has_terms, left_by, AllLone}
use Rattle.elimination.proofs.LoneSteps.{all_kept}
use Rattle.elimination.proofs.lone.without_lone.Goals as goal

pub returns-clause-left : goal.returns-clause-left
returns-clause-left c =
    let t = subst AllHaveTerms c.as_slice-2.ensures.value (c.is_closed.ensures.terms c.if-not-is_closed.false) in
    filter_same _ has_terms _ (λ x b f k. search rules) _ _ c.retain.ensures.filtered
    ∙ (c.blank_lone-done.ensures.left ∙ ap (left_by (take c.blank_lone-done.result c.args.vars.now)) (all_kept c.args.items.items t))

pub returns-clause-lone : goal.returns-clause-lone
returns-clause-lone c =
    let t = subst AllHaveTerms c.as_slice-2.ensures.value (c.is_closed.ensures.terms c.if-not-is_closed.false) in
    subst (AllLone (take c.blank_lone-done.result c.args.vars.now)) (all_kept c.args.items.items t) c.blank_lone-done.ensures.lone

pub returns-clause-closed : goal.returns-clause-closed
returns-clause-closed c l q n =
    subst (λ (js : List Item). IsClosed q (rows_of js)) c.as_slice-2.ensures.value
    (c.is_closed.ensures.closed c.if-not-is_closed.false q (subst (λ (js : List Item). AreNormal q (rows_of js)) (sym c.as_slice-2.ensures.value) n))
