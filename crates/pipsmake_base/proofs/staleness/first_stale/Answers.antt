use Rattle.std.proofs.Common.{true, false, List, [], map, sym, ap, ◌∙◌, subst}
use Rattle.base_json.specs.Distinct.{are_new}
use Rattle.base_text.specs.declared.base.BaseModule.{BaseModule}
use Rattle.base_text.specs.Modules.{module_names_in}
use Rattle.pipsmake_db.specs.State.{texts_of}
use Rattle.pipsmake_base.specs.Saved.{text_at, texts_in}
use Rattle.pipsmake_base.specs.Stale.{IsStale}
use Rattle.pipsmake_base.proofs.LoadLaws.{in_plain}
use Rattle.pipsmake_base.proofs.StaleLaws.{FirstRest, first_none, first_more, first_found, none_found, stale_or_saved}
use Rattle.pipsmake_base.proofs.staleness.first_stale.Goals as goal
use Rattle.pipsmake_db.proofs.CallEquations.PositionSteps.{first-rest}
use Rattle.fx_lists.proofs.Lists.{none_left as no-more}

pub over_texts-requires : goal.over_texts-requires
over_texts-requires c = ap (λ (ms : List BaseModule). are_new [] (module_names_in ms)) c.as_slice.ensures ∙ c.requires.once

pub loop-rest-init : goal.loop-rest-init
loop-rest-init c =
    let base = c.args.base.now in
    record {
      in_some = in_plain c.in_ok-plain.plain (map text_at c.as_slice.result.now) c.in_ok-plain.ensures;
      texts = c.in_ok-plain.ensures.texts ∙ ap (map text_at) c.as_slice.ensures;
      first = subst (FirstRest (texts_in base) base.results) (sym c.as_slice-rest.ensures) (first_none (texts_in base) base.results);
    }

pub returns-then-stale-clause-first : goal.returns-then-stale-clause-first
returns-then-stale-clause-first c =
    let base = c.args.base.now in
    let parts = first-rest c.loop-rest.rest.now c.stored-item.result _ c.in-len1-up.len_at_least c.stored-item.is in
    let is : IsStale (texts_in base) c.stored-item.result true = subst (λ ts. IsStale ts c.stored-item.result true) c.loop-rest.invariant.texts (subst (IsStale (texts_of c.loop-rest.plain) c.stored-item.result) c.if-stale.true c.in_ok-stale.ensures.is) in
    first_found (texts_in base) base.results c.stored-item.result _ c.in_ok-key.key (subst (FirstRest (texts_in base) base.results) parts c.loop-rest.invariant.first) is c.in_ok-key.ensures

pub returns-then-stale-clause-none : goal.returns-then-stale-clause-none
returns-then-stale-clause-none c =
    let base = c.args.base.now in
    stale_or_saved (texts_in base) base.results _ (returns-then-stale-clause-first c)

pub loop-rest-preserved : goal.loop-rest-preserved
loop-rest-preserved c =
    let base = c.args.base.now in
    let parts = first-rest c.loop-rest.rest.now c.stored-item.result _ c.in-len1-up.len_at_least c.stored-item.is in
    let is : IsStale (texts_in base) c.stored-item.result false = subst (λ ts. IsStale ts c.stored-item.result false) c.loop-rest.invariant.texts (subst (IsStale (texts_of c.loop-rest.plain) c.stored-item.result) c.if-stale.false c.in_ok-stale.ensures.is) in
    record {
      in_some = c.in_ok-stale.ensures.in_some;
      texts = c.in_ok-stale.ensures.texts ∙ c.loop-rest.invariant.texts;
      first = first_more (texts_in base) base.results c.stored-item.result _ (subst (FirstRest (texts_in base) base.results) parts c.loop-rest.invariant.first) is;
    }

pub returns-clause-first : goal.returns-clause-first
returns-clause-first c =
    let base = c.args.base.now in
    none_found (texts_in base) base.results (subst (FirstRest (texts_in base) base.results) (no-more c.loop-rest.rest.now c.in_default.len_below) c.loop-rest.invariant.first)

pub returns-clause-none : goal.returns-clause-none
returns-clause-none c = let base = c.args.base.now in stale_or_saved (texts_in base) base.results _ (returns-clause-first c)
