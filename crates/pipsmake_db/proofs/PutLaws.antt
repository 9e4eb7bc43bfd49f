-- Texts of modules that are put.
use Rattle.std.proofs.Common.{◌≡◌, ℕ, true, List, [], map, ap, ◌∙◌, subst}
use Rattle.session_texts.specs.pipsmake_meaning.Texts.{names_in}
use Rattle.session_texts.specs.pipsmake_meaning.MemoCells.{Forgets}
use Rattle.laws_database.specs.Laws.{TextsMayChange, TextsMayGo, ResultsMayGo}
use Rattle.session_texts.specs.pipsmake_rules.Neighbours.{has_name}
use Rattle.session_texts.specs.declared.source.Source.{Source}
use Rattle.session_texts.specs.Changes.{replaced, without}
use Rattle.session_texts.specs.Laws.{TextOfPut, PutsKeep, TextOfReplaced, TextOfWithout, WithoutKeep}
use Rattle.session_texts.specs.Modules.{AreSources, NamesDiffer, source_text}
use Rattle.session_texts.proofs.AtPlaces.{are_modules}
use Rattle.result_store.specs.declared.row.Row.{Row}
use Rattle.result_store.specs.Rows.{memo_cells_of}
use Rattle.pipsmake_db.specs.declared.db.Db.{Db}
use Rattle.pipsmake_db.specs.declared.texts.Seen.{Seen}
use Rattle.pipsmake_db.specs.Calls.{Loses, Drops}
use Rattle.pipsmake_db.specs.Puts.{Puts, PutsOnly}
use Rattle.pipsmake_db.specs.State.{texts_of, memo_cells_in, gone_of}
use Rattle.pipsmake_db.specs.Texts.{StandsStill, RestsOnSame, ArePlaced, KeepsTexts, TextsStay, StaysWithout, StandsWithout}
use Rattle.pipsmake_db.proofs.RestLaws.{rests_same, same_gone, rests_put, rests_put_only}
use Rattle.pipsmake_db.proofs.TextLaws.{replaced_stands, all_replaced_stands, dropped_stands, placed_still}

-- values were seen, and nothing else was changed
pub loses_seen : (old new : Db) → new.linked ≡ old.linked → new.fresh ≡ old.fresh → StandsStill (memo_cells_in old) (memo_cells_in new) → Loses old new
loses_seen old new l f still = record {
  texts = l;
  fresh = f;
  stands = λ s i. ([], record { texts = l ∙ i.texts; stands = still s.texts s.made i.stands; fresh = f ∙ i.fresh });
}

module _ (change : TextsMayChange) (text_of_put : TextOfPut) (puts : PutsKeep) (old new : Db) (found : List Source) (sources : AreSources found) (seen : List Seen) (mid : List Row) (names : List (List ℕ)) (named : names ≡ names_in (map source_text found))
    (still : StandsStill (memo_cells_in old) (memo_cells_of mid)) (rests : RestsOnSame (memo_cells_in old) (memo_cells_of mid)) (placed : ArePlaced (memo_cells_of mid) (map source_text found) seen) (fresh : new.fresh ≡ [])
    (text_of_replaced : TextOfReplaced) (differ : NamesDiffer (map source_text found)) where
  pub are_put : new.linked ≡ replaced old.linked (map source_text found) → KeepsTexts (memo_cells_of mid) seen (memo_cells_in new) → Puts old new (map source_text found) names
  are_put texts keeps = record {
    named = named;
    texts = texts;
    fresh = fresh;
    rests = rests_put old new (map source_text found) (memo_cells_of mid) differ (keeps (map source_text found) placed) text_of_replaced texts rests;
    leads = λ s i. (record {
      texts = texts ∙ ap (λ ts. replaced ts (map source_text found)) i.texts;
      stands = replaced_stands change text_of_put puts (map source_text found) (memo_cells_of mid) (memo_cells_in new) s.texts s.made (are_modules found sources) (keeps (map source_text found) placed) (still s.texts s.made i.stands);
      fresh = fresh;
    });
  }

  pub are_put_only : (texts_go : TextsMayGo) (before : List (List ℕ)) (left : List Row) → before ≡ names_in (texts_of old) → new.linked ≡ map source_text found
      → TextsStay (memo_cells_of mid) (memo_cells_of left) → StandsWithout (memo_cells_of mid) (gone_of (map source_text found) before) (memo_cells_of left) → StaysWithout (memo_cells_of mid) (gone_of (map source_text found) before) (memo_cells_of left) → KeepsTexts (memo_cells_of left) seen (memo_cells_in new) → PutsOnly old new (map source_text found) names
  are_put_only texts_go before left are texts stay without all_stay keeps = record {
    named = named;
    texts = texts;
    fresh = fresh;
    rests =
        rests_put_only old new (map source_text found) (memo_cells_of left) differ (keeps (map source_text found) (placed_still (memo_cells_of mid) (memo_cells_of left) stay (map source_text found) seen placed)) texts
        (λ same ts d r. rests_same (memo_cells_of mid) (memo_cells_of left) (all_stay (same_gone (texts_of old) (texts_of new) (map source_text found) before are texts same)) ts d (rests ts d r));
    leads = λ s i. (record {
      texts = texts;
      stands =
          all_replaced_stands change text_of_put puts texts_go text_of_replaced (map source_text found) (memo_cells_of left) (memo_cells_in new) s.texts _ (are_modules found sources) differ
          (keeps (map source_text found) (placed_still (memo_cells_of mid) (memo_cells_of left) stay (map source_text found) seen placed))
          (subst (λ xs. StandsWithout (memo_cells_of mid) (gone_of (map source_text found) xs) (memo_cells_of left)) (are ∙ ap names_in i.texts) without s.texts s.made (still s.texts s.made i.stands));
      fresh = fresh;
    });
  }

module _ (results_go : ResultsMayGo) (texts_go : TextsMayGo) (text_of_without : TextOfWithout) (keep : WithoutKeep) (old new : Db) (x : List ℕ) where
  pub drops : has_name (names_in (texts_of old)) x ≡ true → new.linked ≡ without x old.linked → Forgets (memo_cells_in old) (memo_cells_in new) x → new.fresh ≡ [] → Drops old new x
  drops there texts forgets fresh = record {
    was_there = there;
    texts = texts;
    fresh = fresh;
    leads = λ s i. (record {
      texts = texts ∙ ap (without x) i.texts;
      stands = dropped_stands results_go texts_go text_of_without keep (memo_cells_in old) (memo_cells_in new) s.texts s.made x forgets i.stands;
      fresh = fresh;
    });
  }
