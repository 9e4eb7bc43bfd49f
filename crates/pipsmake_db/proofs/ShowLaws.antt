-- The text that shows what is kept.
use Rattle.std.proofs.Common.{◌≡◌, ℕ, true, List, [], ◌∷◌, ◌++◌, map, Some, None, refl, sym, ap, ◌∙◌, subst}
use Rattle.std.specs.Prelude.{codes, option_map, option_and_then, IfSome}
use Rattle.serde_json.specs.Written.{compact_text}
use Rattle.f77_ast.specs.declared.symbol.Symbol.{Symbol}
use Rattle.f77_ast.specs.Index.{names_of}
use Rattle.f77_ast.specs.Symbols.{symbol_tree}
use Rattle.session_texts.specs.pipsmake_rules.declared.kind.Kind.{Kind}
use Rattle.session_texts.specs.pipsmake_rules.declared.kind.Kind.TheVariants as kind
use Rattle.session_texts.specs.pipsmake_rules.declared.key.Key.{Key}
use Rattle.session_texts.specs.pipsmake_rules.Neighbours.{has_name}
use Rattle.session_texts.proofs.PipsmakeRules.WalkLaws.{complete}
use Rattle.base_values.specs.declared.stored.StoredValue.{StoredValue}
use Rattle.base_values.specs.Written.{stored_data}
use Rattle.result_lines.specs.declared.show.Show.{Show}
use Rattle.call_graph.specs.CallsIn.{Each}
use Rattle.session_texts.specs.pipsmake_meaning.Texts.{ModuleText, AreModules, names_in, graph_of}
use Rattle.session_texts.specs.pipsmake_meaning.Definitions.{module_named, definition, results_in, text_shown}
use Rattle.session_texts.specs.pipsmake_meaning.MemoCells.{MemoCells, value_under, kept_of}
use Rattle.session_texts.specs.pipsmake_meaning.Values.{result}
use Rattle.laws_database.specs.Stands.{Valuation, HasValue}
use Rattle.session_texts.specs.pipsmake_meaning.Rules.{transformers_in, preconditions_in, regions_in, ins_in, outs_in, marks_in, results_from, kept_results, text_with}
use Rattle.laws_database.specs.Laws.{CanMake, walk_in, IsDefined, MakingMayStop, TextsAreShown}
use Rattle.laws_database.specs.Unverified.{IsStored, stored_results, value_with, RestsOn, RestingStays}
use Rattle.session_texts.specs.pipsmake_meaning.Making.{BringsAll}
use Rattle.laws_database.proofs.Modules.{linked}
use Rattle.laws_database.specs.ProgramTexts.{text_named}
use Rattle.result_making.specs.Making.{text_made}
use Rattle.pipsmake_db.specs.Kept.{json_kept, text_kept, IsShown}
use Rattle.pipsmake_db.specs.declared.show.Ready.{Ready}
use Rattle.result_store.specs.Rows.{memo_cells_of}
use Rattle.pipsmake_db.specs.Shown.{json_with, json_line, text_for, text_of_results, printed_from, text_from}
use Rattle.pipsmake_db.specs.Calls.{key, Makes, ShowsLinked}
use Rattle.pipsmake_db.specs.Fresh.{keys_put}
use Rattle.pipsmake_db.specs.Refusals.{owner_refusal, links_refusal}
use Rattle.pipsmake_db.specs.State.{texts_of, memo_cells_in}
use Rattle.pipsmake_db.specs.declared.db.Db.{Db}
use Rattle.pipsmake_db.specs.declared.db.Shown.{Shown}
use Rattle.pipsmake_db.proofs.AskedLaws.{can_make}
use Rattle.pipsmake_db.proofs.MakeLaws.{makes, leads, brings_linked, fresh_linked}
use Rattle.laws_database.proofs.Whole.{graph_in_order}
pub use Rattle.f77_meaning.proofs.SymbolNames.{names-same as names_are}

-- ---- names of symbols

pub line_is : (ss : List Symbol) (v : StoredValue) (t : List ℕ) → t ≡ compact_text (stored_data (names_of ss) v) → t ++ codes "\n" ≡ json_line (map symbol_tree ss) v
line_is ss v t e = ap (λ u. u ++ codes "\n") (e ∙ ap (λ names. compact_text (stored_data names v)) (names_are ss))

-- ---- the last of a walk

last : (P : Key → Type 0) (before : List Key) (k : Key) → Each P (before ++ k ∷ []) → P k
last P [] k h = h.0
last P (j ∷ before) k h = last P before k h.1

pub asked_defined : (sh : MemoCells) (ts : List ModuleText) (k : Key) → Each (IsDefined sh ts) (walk_in ts k) → IsDefined sh ts k
asked_defined sh ts k are =
    let end = (complete (names_in ts) (graph_of ts) k (graph_in_order ts)).1 in
    last (IsDefined sh ts) end.0 k (subst (Each (IsDefined sh ts)) end.1 are)

-- ---- the text

module _ (shown : TextsAreShown) (sh : MemoCells) (ts : List ModuleText) (ms : AreModules ts) (show : Show) (x : List ℕ) where
  printed_is : CanMake ts kind.Printed x → Each (IsDefined sh ts) (walk_in ts (key kind.Printed x)) → text_made sh ts x show ≡ text_named show ts x
  printed_is can are =
      let s = shown sh ts x show ms can are in
      ap (option_and_then (λ m. text_with sh m x show)) s.2 ∙ s.4
      ∙ sym (ap (option_and_then (λ m. option_map (text_shown show m) (results_in ts x))) s.2 ∙ ap (option_map (text_shown show s.0)) s.3)

  json_is : (k : Kind) → Each (IsDefined sh ts) (walk_in ts (key k x)) → json_kept sh ts k x ≡ json_with (module_named ts x) (definition ts k x)
  json_is k are = ap (json_with (module_named ts x)) (asked_defined sh ts (key k x) are)

  pub text_is : (k : Kind) → CanMake ts k x → Each (IsDefined sh ts) (walk_in ts (key k x)) → text_kept sh ts show k x ≡ text_for ts show k x
  text_is kind.Parsed can are = refl
  text_is kind.Lines can are = refl
  text_is kind.Symbols can are = refl
  text_is kind.CallGraph can are = refl
  text_is kind.Effects can are = json_is kind.Effects are
  text_is kind.Transformers can are = json_is kind.Transformers are
  text_is kind.Preconditions can are = json_is kind.Preconditions are
  text_is kind.Regions can are = json_is kind.Regions are
  text_is kind.InRegions can are = json_is kind.InRegions are
  text_is kind.OutRegions can are = json_is kind.OutRegions are
  text_is kind.Marks can are = json_is kind.Marks are
  text_is kind.Printed can are = printed_is can are

-- ---- over stored results, whatever they are

stored_with : (ts : List ModuleText) (stored : Valuation) (k : Kind) (x : List ℕ) → IsStored k → value_with ts stored k x ≡ stored k x
stored_with ts stored kind.Parsed x s = absurd s
stored_with ts stored kind.Lines x s = absurd s
stored_with ts stored kind.Symbols x s = absurd s
stored_with ts stored kind.CallGraph x s = absurd s
stored_with ts stored kind.Effects x s = refl
stored_with ts stored kind.Transformers x s = refl
stored_with ts stored kind.Preconditions x s = refl
stored_with ts stored kind.Regions x s = refl
stored_with ts stored kind.InRegions x s = refl
stored_with ts stored kind.OutRegions x s = refl
stored_with ts stored kind.Marks x s = refl
stored_with ts stored kind.Printed x s = absurd s

module _ (sh : MemoCells) (ts : List ModuleText) (stored : Valuation) (rests : RestsOn sh ts (value_with ts stored)) (x : List ℕ) (named : has_name (names_in ts) x ≡ true) where
  stored_kept : (k : Kind) → IsStored k → kept_of sh k x ≡ stored k x
  stored_kept k s =
      let there = rests.stored k x s named in
      let has : HasValue sh ts (value_with ts stored) (key k x) there.0 = subst (λ o. IfSome o (λ kept. HasValue sh ts (value_with ts stored) (key k x) kept)) there.1 (rests.keeps.kept k x) in
      ap (value_under (sh (result k) x).values) there.1 ∙ has.at ∙ sym has.is ∙ stored_with ts stored k x s

  pub all_kept : kept_results sh x ≡ stored_results stored x
  all_kept =
      λ i. results_from (option_and_then transformers_in (stored_kept kind.Transformers tt i)) (option_and_then preconditions_in (stored_kept kind.Preconditions tt i)) (option_and_then regions_in (stored_kept kind.Regions tt i))
      (option_and_then ins_in (stored_kept kind.InRegions tt i)) (option_and_then outs_in (stored_kept kind.OutRegions tt i)) (option_and_then marks_in (stored_kept kind.Marks tt i))

  json_stored : (k : Kind) → IsStored k → json_kept sh ts k x ≡ json_with (module_named ts x) (stored k x)
  json_stored k s = ap (json_with (module_named ts x)) (stored_kept k s)

  printed_stored : (show : Show) → text_made sh ts x show ≡ printed_from ts stored show x
  printed_stored show = λ i. option_and_then (λ m. option_map (text_of_results show m) (all_kept i)) (module_named ts x)

module _ (sh : MemoCells) (ts : List ModuleText) (stored : Valuation) (rests : RestsOn sh ts (value_with ts stored)) (show : Show) (x : List ℕ) where
  pub text_stored : (k : Kind) → CanMake ts k x → text_kept sh ts show k x ≡ text_from ts stored show k x
  text_stored kind.Parsed can = refl
  text_stored kind.Lines can = refl
  text_stored kind.Symbols can = refl
  text_stored kind.CallGraph can = refl
  text_stored kind.Effects can = json_stored sh ts stored rests x can.1 kind.Effects tt
  text_stored kind.Transformers can = json_stored sh ts stored rests x can.1 kind.Transformers tt
  text_stored kind.Preconditions can = json_stored sh ts stored rests x can.1 kind.Preconditions tt
  text_stored kind.Regions can = json_stored sh ts stored rests x can.1 kind.Regions tt
  text_stored kind.InRegions can = json_stored sh ts stored rests x can.1 kind.InRegions tt
  text_stored kind.OutRegions can = json_stored sh ts stored rests x can.1 kind.OutRegions tt
  text_stored kind.Marks can = json_stored sh ts stored rests x can.1 kind.Marks tt
  text_stored kind.Printed can = printed_stored sh ts stored rests x can.1 show

-- ---- what is shown

module _ (may_stop : MakingMayStop) (rests : RestingStays) (shown : TextsAreShown) (old new : Db) (k : Kind) (x : List ℕ) (owned : owner_refusal (texts_of old) k x ≡ None) (links : links_refusal (texts_of old) k ≡ None) (texts : new.linked ≡ old.linked) where
  made : (s : Shown) → BringsAll (memo_cells_in old) (texts_of old) (walk_in (texts_of old) (key k x)) s.made (memo_cells_in new) → new.fresh ≡ keys_put old.fresh (walk_in (texts_of old) (key k x)) → Makes old new (key k x) s.made
  made s b fresh = makes may_stop old new k x owned links texts rests s.made b fresh

  pub shows : (show : Show) (s : Shown) → BringsAll (memo_cells_in old) (texts_of old) (walk_in (texts_of old) (key k x)) s.made (memo_cells_in new) → new.fresh ≡ keys_put old.fresh (walk_in (texts_of old) (key k x))
      → text_kept (memo_cells_in new) (texts_of old) show k x ≡ Some s.text → ShowsLinked old new k x show s
  shows show s b fresh text = record {
    links = links;
    shows = record {
      makes = made s b fresh;
      rests = λ stored r. (
          let kept : RestsOn (memo_cells_in new) (texts_of old) (value_with (texts_of old) stored) = subst (λ ts. RestsOn (memo_cells_in new) ts (value_with ts stored)) texts ((made s b fresh).rests stored r).rests.kept in
          sym (text_stored (memo_cells_in new) (texts_of old) stored kept show x k (can_make (texts_of old) k x owned links)) ∙ text
          );
      text = λ st i. sym (text_is shown (memo_cells_in new) (texts_of old) (subst AreModules (sym i.texts) i.stands.modules) show x k (can_make (texts_of old) k x owned links)
          (subst (λ ts. Each (IsDefined (memo_cells_in new) ts) (walk_in ts (key k x))) (sym i.texts) (leads may_stop old new k x owned links texts s.made b st i).defined)) ∙ text;
    };
  }

module _ (may_stop : MakingMayStop) (rests : RestingStays) (shown : TextsAreShown) (old mid after new : Db) (k : Kind) (x : List ℕ) (owned : owner_refusal (texts_of old) k x ≡ None) (links : links_refusal (texts_of old) k ≡ None)
    (same : mid.linked ≡ old.linked) (store : mid.store ≡ old.store) (fresh : mid.fresh ≡ old.fresh) (back : new.linked ≡ mid.linked) (kept : new.store ≡ after.store) where
  pub shows_linked : (show : Show) (r : Ready) → IsShown mid k x show after r → new.fresh ≡ r.brought.fresh → ShowsLinked old new k x show (record { made = r.brought.made; text = r.text })
  shows_linked show r h f =
      shows may_stop rests shown old new k x owned links (back ∙ same) show (record { made = r.brought.made; text = r.text })
      (brings_linked may_stop old mid after new k x owned links same store fresh back kept r.brought.made h.brought.brings)
      (f ∙ fresh_linked may_stop old mid after new k x owned links same store fresh back kept r.brought.fresh h.brought.fresh)
      (ap (λ rows. text_kept (memo_cells_of rows) (texts_of old) show k x) kept ∙ ap (λ ts. text_kept (memo_cells_in after) ts show k x) (sym same) ∙ h.text)
