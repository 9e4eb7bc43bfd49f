use Rattle.std.proofs.Common.{◌≡◌, ℕ, true, List, None, refl, sym, ◌∙◌, subst}
use Rattle.session_texts.specs.pipsmake_rules.Neighbours.{has_name}
use Rattle.session_texts.specs.pipsmake_meaning.Texts.{ModuleText, names_in}
use Rattle.pipsmake_db.specs.Links.{AreLinks}
use Rattle.pipsmake_db.specs.Outlines.{outline_of}
use Rattle.pipsmake_db.specs.Refusals.{link_refusal}
use Rattle.pipsmake_db.specs.State.{texts_of}
use Rattle.pipsmake_db.proofs.PrintLemmas.{AllThere, SoFar, SoFarAnyway, SoFarStored, all_there, others_there, none_yet, none_anyway, none_stored_yet, next_printed, one_more, more_anyway, more_stored, no_more, prints_anyway, prints_stored}
use Rattle.pipsmake_db.proofs.print.print_rest.Goals as goal
use Rattle.call_equations.proofs.PositionSteps.{first-rest as first_rest}
use Rattle.fx_lists.proofs.Lists.{none_left}

pub loop-rest-init : goal.loop-rest-init
loop-rest-init c = record {
  links = c.requires.links;
  linked = c.requires.linked;
  there = subst (AllThere (names_in (texts_of c.args.db.now))) (sym c.requires.names) (all_there (names_in (texts_of c.args.db.now)));
  same = c.none_walked-walked.ensures.keys ∙ sym c.none_walked-walked.ensures.listed;
  texts = refl;
  anyway = none_anyway c.args.names.now (record { made = c.new.result; text = c.new-2.result }) c.args.db.now c.none_walked-walked.result.listed c.requires.names c.new.ensures c.none_walked-walked.ensures.listed;
  stored = λ stored r. none_stored_yet c.args.show stored c.args.names.now (record { made = c.new.result; text = c.new-2.result }) c.args.db.now c.none_walked-walked.result.listed r c.requires.names c.new.ensures c.new-2.ensures c.none_walked-walked.ensures.listed;
  so_far = λ s at. none_yet c.args.show s c.args.names.now (record { made = c.new.result; text = c.new-2.result }) c.args.db.now c.none_walked-walked.result.listed at c.requires.names c.new.ensures c.new-2.ensures c.none_walked-walked.ensures.listed;
}

pub loop-rest-preserved : goal.loop-rest-preserved
loop-rest-preserved c =
    let parts = first_rest c.loop-rest.rest.now c.name-item.result _ c.in-len1-up.len_at_least c.name-item.is in
    let p = c.in_ok-print_next.ensures.prints in
    let i = c.loop-rest.invariant in
    let there : has_name (names_in (texts_of c.loop-rest.db)) c.name-item.result ≡ true = (subst (AllThere (names_in (texts_of c.loop-rest.db))) parts i.there).0 in
    record {
      links = subst (λ (ts : List ModuleText). AreLinks c.args.links.now ts) (sym p.texts) i.links;
      linked = subst (λ (ts : List ModuleText). link_refusal ts ≡ None) (sym p.texts) i.linked;
      there = others_there (texts_of c.loop-rest.db) (texts_of c.print_next.new.db) c.loop-rest.rest.now c.name-item.result _ p.texts parts i.there;
      same = p.walked.keys ∙ sym p.walked.listed;
      texts = p.texts ∙ i.texts;
      anyway = (let a = subst (λ (r : List (List ℕ)). SoFarAnyway (texts_of c.args.db.now) (outline_of c.args.db.now) r c.loop-rest.prints c.loop-rest.db c.loop-rest.walked.listed) parts i.anyway in
          more_anyway (texts_of c.args.db.now) c.args.show c.name-item.result c.loop-rest.db c.print_next.new.db c.loop-rest.walked.listed c.print_next.new.walked c.loop-rest.prints c.print_next.new.prints i.texts i.anyway.order p (outline_of c.args.db.now) _ a);
      stored = λ stored r. (let h = subst (λ (r : List (List ℕ)). SoFarStored (texts_of c.args.db.now) c.args.show stored r c.loop-rest.prints c.loop-rest.db c.loop-rest.walked.listed) parts (i.stored stored r) in
          more_stored (texts_of c.args.db.now) c.args.show c.name-item.result c.loop-rest.db c.print_next.new.db c.loop-rest.walked.listed c.print_next.new.walked c.loop-rest.prints c.print_next.new.prints i.texts i.anyway.order p
          (subst (λ (ts : List ModuleText). has_name (names_in ts) c.name-item.result ≡ true) i.texts there) (subst (λ (ts : List ModuleText). link_refusal ts ≡ None) i.texts i.linked) stored _ h);
      so_far = λ s at. (let h = subst (λ (r : List (List ℕ)). SoFar c.args.show s r c.loop-rest.prints c.loop-rest.db c.loop-rest.walked.listed) parts (i.so_far s at) in
          one_more c.args.show s c.name-item.result _ c.loop-rest.prints c.print_next.new.prints c.loop-rest.db c.print_next.new.db c.loop-rest.walked.listed c.print_next.new.walked.listed h
          (next_printed c.tables_ignore_places.ensures c.graphs_ignore_places.ensures c.texts_are_shown.ensures c.args.show h.mid c.name-item.result c.loop-rest.db c.print_next.new.db c.loop-rest.walked.listed c.print_next.new.walked
          c.loop-rest.prints c.print_next.new.prints h.is_in
          (subst (λ (ts : List ModuleText). has_name (names_in ts) c.name-item.result ≡ true) h.is_in.texts there)
          (subst (λ (ts : List ModuleText). link_refusal ts ≡ None) h.is_in.texts i.linked) h.covers h.fresh p));
    }

pub returns-clause-prints : goal.returns-clause-prints
returns-clause-prints c = record {
  texts = c.loop-rest.invariant.texts;
  anyway = prints_anyway c.args.db.now c.loop-rest.db c.loop-rest.prints c.loop-rest.walked.listed
      (subst (λ (r : List (List ℕ)). SoFarAnyway (texts_of c.args.db.now) (outline_of c.args.db.now) r c.loop-rest.prints c.loop-rest.db c.loop-rest.walked.listed) (none_left c.loop-rest.rest.now c.in_default.len_below) c.loop-rest.invariant.anyway);
  rests = λ stored r. prints_stored (texts_of c.args.db.now) c.args.show stored c.loop-rest.db c.loop-rest.prints c.loop-rest.walked.listed c.loop-rest.invariant.texts
      (subst (λ (r : List (List ℕ)). SoFarStored (texts_of c.args.db.now) c.args.show stored r c.loop-rest.prints c.loop-rest.db c.loop-rest.walked.listed) (none_left c.loop-rest.rest.now c.in_default.len_below) (c.loop-rest.invariant.stored stored r));
  from = λ s at. no_more c.args.show s c.loop-rest.prints c.loop-rest.db c.loop-rest.walked.listed
      (subst (λ (r : List (List ℕ)). SoFar c.args.show s r c.loop-rest.prints c.loop-rest.db c.loop-rest.walked.listed) (none_left c.loop-rest.rest.now c.in_default.len_below) (c.loop-rest.invariant.so_far s at));
}
