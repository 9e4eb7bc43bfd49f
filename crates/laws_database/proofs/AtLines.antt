-- What each result is does not depend on the lines at which texts begin.
use Rattle.std.proofs.Common.{◌≡◌, ℕ, List, [], ◌∷◌, ◌++◌, map, Option, Some, None, refl, sym, ap, ◌∙◌, subst}
use Rattle.std.specs.Prelude.{bytes_eq, option_map, option_and_then, option_to_list, IfSome, Result, Ok, Err, if◌then◌else◌}
use Rattle.call_graph.specs.declared.graph.Graph.{Graph}
use Rattle.call_graph.specs.declared.refusal.Fault.{Fault}
use Rattle.call_graph.specs.Links.{link_of}
use Rattle.f77_meaning.specs.Modules.{known_of}
use Rattle.session_texts.specs.pipsmake_meaning.ResultEntries.{results_of_modules, results_for}
use Rattle.session_texts.specs.pipsmake_rules.declared.kind.Kind.{Kind}
use Rattle.session_texts.specs.pipsmake_rules.declared.kind.Kind.TheVariants as kind
use Rattle.session_texts.specs.pipsmake_rules.declared.key.Key.{Key}
use Rattle.session_texts.specs.pipsmake_rules.Needs.{needs_of}
use Rattle.session_texts.specs.pipsmake_rules.Neighbours.{has_name}
use Rattle.session_texts.specs.pipsmake_meaning.Values.{source, parsed, lines, symbols, effects, transformers, preconditions, regions, ins, outs, marks, text, result}
use Rattle.session_texts.specs.pipsmake_meaning.Texts.{ModuleText, ReadModule, module_read, IsModule, AreModules, modules_in, trees_in, tables_in, names_in, links_in, known_in, graph_or_none, graph_of, text_of, SameTexts}
use Rattle.session_texts.specs.pipsmake_meaning.Definitions.{module_named, results_with, results_in, graph_found, printed_with, definition}
use Rattle.session_texts.specs.pipsmake_meaning.Session.{needs_in}
use Rattle.session_texts.specs.pipsmake_meaning.MemoCells.{MemoCells, Kept, kept_value}
use Rattle.laws_database.specs.Stands.{text_needed, AreStamps, Valuation, needed_with, HasValue}
use Rattle.laws_database.specs.Unverified.{stored_results, printed_with_results, value_with, LinesMayChange}

modules_same : (ts us : List ModuleText) → SameTexts ts us → modules_in ts ≡ modules_in us
modules_same [] [] s = refl
modules_same [] (u ∷ us) s = absurd s
modules_same (t ∷ ts) [] s = absurd s
modules_same (t ∷ ts) (u ∷ us) s = let rest = modules_same ts us s.2 in λ i. option_to_list (module_read (s.1 i)) ++ rest i

pub names_same : (ts us : List ModuleText) → SameTexts ts us → names_in ts ≡ names_in us
names_same [] [] s = refl
names_same [] (u ∷ us) s = absurd s
names_same (t ∷ ts) [] s = absurd s
names_same (t ∷ ts) (u ∷ us) s = let rest = names_same ts us s.2 in λ i. s.0 i ∷ rest i

pub text_same : (ts us : List ModuleText) → SameTexts ts us → (x : List ℕ) → text_of ts x ≡ text_of us x
text_same [] [] s x = refl
text_same [] (u ∷ us) s x = absurd s
text_same (t ∷ ts) [] s x = absurd s
text_same (t ∷ ts) (u ∷ us) s x = let rest = text_same ts us s.2 x in λ i. if bytes_eq (s.0 i) x then Some (s.1 i) else rest i

still_modules : (ts us : List ModuleText) → SameTexts ts us → AreModules ts → AreModules us
still_modules [] [] s ms = tt
still_modules [] (u ∷ us) s ms = absurd s
still_modules (t ∷ ts) [] s ms = absurd s
still_modules (t ∷ ts) (u ∷ us) s ms = (one ms.0, still_modules ts us s.2 ms.1)
  where
    one : IsModule t → IsModule u
    one m = record { found = m.found; is_read = ap module_read (sym s.1) ∙ m.is_read; is_named = m.is_named ∙ s.0 }

module _ (ts us : List ModuleText) (s : SameTexts ts us) where
  trees_same : trees_in ts ≡ trees_in us
  trees_same = ap (map (λ (m : ReadModule). m.module_is)) (modules_same ts us s)

  tables_same : tables_in ts ≡ tables_in us
  tables_same = ap (map (λ (m : ReadModule). m.table)) (modules_same ts us s)

  links_same : links_in ts ≡ links_in us
  links_same = λ i. link_of (trees_same i) (tables_same i)

  known_same : known_in ts ≡ known_in us
  known_same = λ i. known_of (trees_same i) (tables_same i)

  graph_same : graph_of ts ≡ graph_of us
  graph_same = ap graph_or_none links_same

  needs_same : (k : Key) → needs_in ts k ≡ needs_in us k
  needs_same k = λ i. needs_of (names_same ts us s i) (graph_same i) k

  named_same : (x : List ℕ) → module_named ts x ≡ module_named us x
  named_same x = ap (option_and_then module_read) (text_same ts us s x)

  with_same : (x : List ℕ) (r : Result Graph Fault) → results_with ts r x ≡ results_with us r x
  with_same x (Ok g) = ap (λ ks. results_for (results_of_modules ks g) x) known_same
  with_same x (Err f) = refl

  results_same : (x : List ℕ) → results_in ts x ≡ results_in us x
  results_same x = ap (λ r. results_with ts r x) links_same ∙ with_same x (links_in us)

  pub definition_same : (k : Kind) (x : List ℕ) → definition ts k x ≡ definition us k x
  definition_same kind.Parsed x = ap (option_map (λ m. parsed m.module_is.module_read)) (named_same x)
  definition_same kind.Lines x = ap (option_map (λ m. lines m.module_is.places)) (named_same x)
  definition_same kind.Symbols x = ap (option_map (λ m. symbols m.table)) (named_same x)
  definition_same kind.CallGraph x = ap graph_found links_same
  definition_same kind.Effects x = ap (option_map (λ f. effects f.effects)) (results_same x)
  definition_same kind.Transformers x = ap (option_map (λ f. transformers f.transformers)) (results_same x)
  definition_same kind.Preconditions x = ap (option_map (λ f. preconditions f.preconditions)) (results_same x)
  definition_same kind.Regions x = ap (option_map (λ f. regions f.regions)) (results_same x)
  definition_same kind.InRegions x = ap (option_map (λ f. ins f.ins)) (results_same x)
  definition_same kind.OutRegions x = ap (option_map (λ f. outs f.outs)) (results_same x)
  definition_same kind.Marks x = ap (option_map (λ f. marks f.marks)) (results_same x)
  definition_same kind.Printed x = λ i. printed_with (named_same x i) (results_same x i)

  value_same : (stored : Valuation) (k : Kind) (x : List ℕ) → value_with ts stored k x ≡ value_with us stored k x
  value_same stored kind.Parsed x = definition_same kind.Parsed x
  value_same stored kind.Lines x = definition_same kind.Lines x
  value_same stored kind.Symbols x = definition_same kind.Symbols x
  value_same stored kind.CallGraph x = definition_same kind.CallGraph x
  value_same stored kind.Effects x = refl
  value_same stored kind.Transformers x = refl
  value_same stored kind.Preconditions x = refl
  value_same stored kind.Regions x = refl
  value_same stored kind.InRegions x = refl
  value_same stored kind.OutRegions x = refl
  value_same stored kind.Marks x = refl
  value_same stored kind.Printed x = ap (option_and_then (λ m. option_map (printed_with_results m) (stored_results stored x))) (named_same x)

  text_needed_same : (k : Kind) (x : List ℕ) → text_needed ts k x ≡ text_needed us k x
  text_needed_same kind.Parsed x = λ i. record { item = text; name = x; value = option_map source (text_same ts us s x i) } ∷ []
  text_needed_same kind.Lines x = λ i. record { item = text; name = x; value = option_map source (text_same ts us s x i) } ∷ []
  text_needed_same kind.Symbols x = refl
  text_needed_same kind.CallGraph x = refl
  text_needed_same kind.Effects x = refl
  text_needed_same kind.Transformers x = refl
  text_needed_same kind.Preconditions x = refl
  text_needed_same kind.Regions x = refl
  text_needed_same kind.InRegions x = refl
  text_needed_same kind.OutRegions x = refl
  text_needed_same kind.Marks x = refl
  text_needed_same kind.Printed x = refl

  needed_same : (stored : Valuation) (k : Key) → needed_with ts (value_with ts stored) k ≡ needed_with us (value_with us stored) k
  needed_same stored k =
      λ i. text_needed_same k.kind k.name i ++ map (λ (n : Key). record { item = result n.kind; name = n.name; value = value_same stored n.kind n.name i }) (needs_same k i)

  values_still : (sh : MemoCells) (stored : Valuation) (k : Key) (o : Option Kept) → IfSome o (λ kept. HasValue sh ts (value_with ts stored) k kept) → IfSome o (λ kept. HasValue sh us (value_with us stored) k kept)
  values_still sh stored k None h = tt
  values_still sh stored k (Some kept) h = record {
    value = h.value;
    is = sym (value_same stored k.kind k.name) ∙ h.is;
    at = h.at;
    needs = subst (AreStamps sh kept.needs) (needed_same stored k) h.needs;
  }

pub lines_may_change : LinesMayChange
lines_may_change sh ts us stored r s = record {
  keeps = record {
    modules = still_modules ts us s r.keeps.modules;
    texts = λ x. subst (λ o. IfSome o (λ t. kept_value (sh text x) ≡ Some (source t))) (text_same ts us s x) (r.keeps.texts x);
    distinct = r.keeps.distinct;
    kept = λ k x. values_still ts us s sh stored (record { kind = k; name = x }) ((sh (result k) x).kept) (r.keeps.kept k x);
  };
  stored = λ k x i n. r.stored k x i (ap (λ xs. has_name xs x) (names_same ts us s) ∙ n);
}
