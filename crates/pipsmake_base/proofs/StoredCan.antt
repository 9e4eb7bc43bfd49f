-- A result of a stored kind that was up to date at some texts can be made of the present ones.
use Rattle.std.proofs.Common.{◌≡◌, ℕ, Bool, true, false, ◌||◌, List, [], ◌∷◌, Option, Some, None, refl, sym, ap, ◌∙◌, subst}
use Rattle.std.specs.Prelude.{bytes_eq, option_map, option_and_then, Result, Ok, Err, if◌then◌else◌}
use Rattle.std.proofs.lemmas.Slice.Eq.{bytes_eq-Decides}
use Rattle.call_graph.specs.declared.graph.Graph.{Graph}
use Rattle.call_graph.specs.declared.refusal.Fault.{Fault}
use Rattle.loop_marker.specs.Results.{ModuleResults}
use Rattle.call_graph.specs.CallsIn.{Each}
use Rattle.pipsmake_db.specs.pipsmake_meaning.ResultEntries.{results_of_modules, name_in, results_for}
use Rattle.pipsmake_db.specs.laws_database.ResultLaws.{IsFound}
use Rattle.pipsmake_db.proofs.LawsDatabase.ResultEntries.{modules_have_entries}
use Rattle.pipsmake_db.specs.pipsmake_rules.declared.kind.Kind.{Kind}
use Rattle.pipsmake_db.specs.pipsmake_rules.declared.kind.Kind.TheVariants as kind
use Rattle.pipsmake_db.specs.pipsmake_rules.Keys.{key_of}
use Rattle.pipsmake_db.specs.pipsmake_rules.Neighbours.{has_name}
use Rattle.pipsmake_db.specs.pipsmake_meaning.Values.{Value, parsed, effects, transformers, preconditions, regions, ins, outs, marks}
use Rattle.pipsmake_db.specs.pipsmake_meaning.Texts.{ModuleText, ReadModule, module_read, AreModules, trees_in, tables_in, names_in, links_in, known_in, text_of}
use Rattle.pipsmake_db.specs.pipsmake_meaning.Definitions.{module_named, results_with, results_in, graph_found, definition}
use Rattle.pipsmake_db.specs.pipsmake_meaning.Session.{needs_in, SameValue}
use Rattle.pipsmake_db.specs.laws_database.Laws.{AreLinked}
use Rattle.pipsmake_db.specs.laws_database.Unverified.{IsStored}
use Rattle.pipsmake_db.proofs.LawsDatabase.Stamps.{SameNeeds}
use Rattle.pipsmake_db.proofs.LawsDatabase.Modules.{read_at, linked}
use Rattle.pipsmake_db.proofs.LawsDatabase.Made.{said_each}
use Rattle.pipsmake_db.proofs.LawsDatabase.Linked.{known_named}
use Rattle.pipsmake_db.proofs.LawsDatabase.Whole.{some_mapped, text_named, read_named, linked_result, said_name}

-- ---- what has a value is of texts that link, and of one of their modules

module _ (ts : List ModuleText) (ms : AreModules ts) (x : List ℕ) where
  result_can : (f : ModuleResults) → results_in ts x ≡ Some f → AreLinked ts × (has_name (names_in ts) x ≡ true)
  result_can f e =
      let r = linked_result ts x f e in
      let fs = results_of_modules (known_in ts) r.0 in
      let i : IsFound (known_in ts) fs f = said_each (IsFound (known_in ts) fs) fs x f (modules_have_entries (trees_in ts) (tables_in ts) r.0 (linked ts r.0 r.1)).found r.2 in
      ((r.0, r.1), subst (λ y. has_name (names_in ts) y ≡ true) ((bytes_eq-Decides (name_in f) x).0 (said_name fs x f r.2)) (known_named ts ms i.at f.known i.is_module))

  of_result : (f : ModuleResults → Value) (v : Value) → option_map f (results_in ts x) ≡ Some v → AreLinked ts × (has_name (names_in ts) x ≡ true)
  of_result f v e = let r = some_mapped f (results_in ts x) v e in result_can r.0 r.1

-- ---- stored kinds

-- a result of a stored kind that has a value is of a module of texts that link
pub stored_can : (ts : List ModuleText) (ms : AreModules ts) (k : Kind) (x : List ℕ) (v : Value) → IsStored k → definition ts k x ≡ Some v → AreLinked ts × (has_name (names_in ts) x ≡ true)
stored_can ts ms kind.Parsed x v s e = absurd s
stored_can ts ms kind.Lines x v s e = absurd s
stored_can ts ms kind.Symbols x v s e = absurd s
stored_can ts ms kind.CallGraph x v s e = absurd s
stored_can ts ms kind.Effects x v s e = of_result ts ms x (λ f. effects f.effects) v e
stored_can ts ms kind.Transformers x v s e = of_result ts ms x (λ f. transformers f.transformers) v e
stored_can ts ms kind.Preconditions x v s e = of_result ts ms x (λ f. preconditions f.preconditions) v e
stored_can ts ms kind.Regions x v s e = of_result ts ms x (λ f. regions f.regions) v e
stored_can ts ms kind.InRegions x v s e = of_result ts ms x (λ f. ins f.ins) v e
stored_can ts ms kind.OutRegions x v s e = of_result ts ms x (λ f. outs f.outs) v e
stored_can ts ms kind.Marks x v s e = of_result ts ms x (λ f. marks f.marks) v e
stored_can ts ms kind.Printed x v s e = absurd s

-- what each of them needs first
first_needs : (old ts : List ModuleText) (x : List ℕ) (k : Kind) → IsStored k → Each (SameValue old ts) (needs_in ts (record { kind = k; name = x })) → SameValue old ts (key_of kind.Parsed x) × SameValue old ts (key_of kind.CallGraph x)
first_needs old ts x kind.Parsed s h = absurd s
first_needs old ts x kind.Lines s h = absurd s
first_needs old ts x kind.Symbols s h = absurd s
first_needs old ts x kind.CallGraph s h = absurd s
first_needs old ts x kind.Effects s h = (h.0, h.1.1.0)
first_needs old ts x kind.Transformers s h = (h.0, h.1.1.0)
first_needs old ts x kind.Preconditions s h = (h.0, h.1.1.0)
first_needs old ts x kind.Regions s h = (h.0, h.1.1.0)
first_needs old ts x kind.InRegions s h = (h.0, h.1.1.0)
first_needs old ts x kind.OutRegions s h = (h.0, h.1.1.0)
first_needs old ts x kind.Marks s h = (h.0, h.1.1.0)
first_needs old ts x kind.Printed s h = absurd s

graph_links : (ts : List ModuleText) (g : Graph) (r : Result Graph Fault) → links_in ts ≡ r → graph_found r ≡ graph_found (Ok g) → AreLinked ts
graph_links ts g (Ok d) q w = (d, q)
graph_links ts g (Err f) q w = cc

abbrev parsed_of : ReadModule → Value
parsed_of m = parsed m.module_is.module_read

named_by : (ts : List ModuleText) (x : List ℕ) (v : Value) → option_map parsed_of (module_named ts x) ≡ Some v → has_name (names_in ts) x ≡ true
named_by ts x v e = let p = some_mapped parsed_of (module_named ts x) v e in read_named ts x p.0 p.1

-- where it was up to date for these texts, they link and have the module
pub current_can : (old ts : List ModuleText) (mo : AreModules old) (k : Kind) (x : List ℕ) (v : Value) → IsStored k → definition old k x ≡ Some v → SameNeeds old ts (record { kind = k; name = x }) → AreLinked ts × (has_name (names_in ts) x ≡ true)
current_can old ts mo k x v s e same =
    let can : AreLinked old × (has_name (names_in old) x ≡ true) = stored_can old mo k x v s e in
    let firsts : SameValue old ts (key_of kind.Parsed x) × SameValue old ts (key_of kind.CallGraph x) = first_needs old ts x k s same.values in
    let graph_is : graph_found (links_in ts) ≡ graph_found (Ok can.0.0) = sym firsts.1 ∙ ap graph_found can.0.1 in
    let r = read_at old mo x can.1 in
    let tree_is : option_map parsed_of (module_named ts x) ≡ Some (parsed_of r.read) = sym firsts.0 ∙ ap (option_map parsed_of) r.is_read in
    (graph_links ts can.0.0 (links_in ts) refl graph_is, named_by ts x (parsed_of r.read) tree_is)
