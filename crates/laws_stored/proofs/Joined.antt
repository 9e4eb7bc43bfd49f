-- Each result of a program, as it is defined for texts and the name of a module, fits that module.
use Rattle.std.proofs.Common.{◌≡◌, ℕ, Bool, true, false, ◌||◌, List, [], ◌∷◌, Option, Some, None, Ok, Err, refl, sym, ap, ◌∙◌, subst}
use Rattle.std.specs.Prelude.{if◌then◌else◌, bytes_eq, option_map, option_and_then, Result}
use Rattle.f77_meaning.specs.Modules.{Known, symbol_names}
use Rattle.call_graph.specs.declared.graph.Graph.{Graph}
use Rattle.call_graph.specs.declared.refusal.Fault.{Fault}
use Rattle.loop_marker.specs.Results.{ModuleResults}
use Rattle.session_texts.specs.pipsmake_rules.declared.kind.Kind.{Kind}
use Rattle.session_texts.specs.pipsmake_rules.declared.kind.Kind.TheVariants as kind
use Rattle.session_texts.specs.pipsmake_rules.Neighbours.{has_name}
use Rattle.laws_programs.proofs.Layouts.BlockChains.{blocks_have_a_chain}
use Rattle.session_texts.specs.pipsmake_meaning.ResultEntries.{results_of_modules, name_in, results_for}
use Rattle.laws_database.specs.ResultEquations.{FollowsFrom}
use Rattle.laws_database.proofs.ResultFollows.{results_follow}
use Rattle.base_values.specs.declared.stored.StoredValue.{StoredValue}
use Rattle.base_values.specs.declared.stored.StoredValue.TheVariants as stored
use Rattle.base_values.specs.Naming.{AreNames}
use Rattle.base_values.specs.Read.{stored_of}
use Rattle.base_values.specs.Written.{stored_data}
use Rattle.base_values.specs.Sizes.{kind_of}
use Rattle.base_values.specs.Fits.{StoredFits}
use Rattle.base_values.specs.Laws.{WrittenIsRead, FitsIsSmall}
use Rattle.session_texts.specs.pipsmake_meaning.Texts.{ModuleText, ReadModule, module_read, AreModules, trees_in, tables_in, names_in, links_in, known_in, text_of}
use Rattle.session_texts.specs.pipsmake_meaning.Values.{Value, effects, transformers, preconditions, regions, ins, outs, marks}
use Rattle.session_texts.specs.pipsmake_meaning.Definitions.{module_named, results_with, results_in, definition}
use Rattle.session_texts.specs.pipsmake_meaning.Rules.{known}
use Rattle.laws_database.proofs.Made.{said_each}
use Rattle.laws_database.proofs.Modules.{Entry, read_at, linked, entry_of}
use Rattle.laws_stored.specs.Stored.{is_stored, as_stored}
use Rattle.laws_stored.specs.Stored as specs
use Rattle.laws_stored.specs.Laws.{IsCounted, TablesHaveNames, FitsItsModule, DefinedResultsFit, DefinedResultsAreReadAgain}
use Rattle.laws_stored.proofs.Symbols.{ModuleNamed}
use Rattle.laws_stored.proofs.TableNames.{modules_named}
use Rattle.laws_stored.proofs.Phases.{each_of}
use Rattle.laws_stored.proofs.Texts.{read_as, all_read}
use Rattle.laws_stored.proofs.Words.{names_are}
use Rattle.laws_stored.proofs.Entries.{EntryTold, entries_told, names_of, EntryFits, entry_fits}
use Rattle.laws_database.proofs.Same.{read_is}
use Rattle.laws_database.proofs.Whole.{text_named}
use Rattle.f77_meaning.proofs.SymbolNames.{few_names}
use Rattle.fx_lists.proofs.Every.{Every}
use Rattle.fx_lists.proofs.Options.{some_is}

-- ---- names

pub tables_have_names : TablesHaveNames
tables_have_names text m e few = let b = read_as text m e in names_are m.module_is m.table b.built b.tabled (few_names m.table few)

-- a module of a name, by its text
record IsNamed (ts : List ModuleText) (x : List ℕ) (m : ReadModule) : Type 0 where
  there : has_name (names_in ts) x ≡ true
  text : List ℕ
  is_read : module_read text ≡ Some m

is_named : (ts : List ModuleText) (x : List ℕ) (m : ReadModule) → module_named ts x ≡ Some m → IsNamed ts x m
is_named ts x m e = go (text_of ts x) refl e
  where
    go : (o : Option (List ℕ)) → text_of ts x ≡ o → option_and_then module_read o ≡ Some m → IsNamed ts x m
    go None q w = cc
    go (Some t) q w = record { there = text_named ts x t q; text = t; is_read = w }

-- ---- the results of a name

linked_result : (ts : List ModuleText) (x : List ℕ) (f : ModuleResults) → results_in ts x ≡ Some f → (g : Graph) × (links_in ts ≡ Ok g)
linked_result ts x f e = go (links_in ts) refl e
  where
    go : (r : Result Graph Fault) → links_in ts ≡ r → results_with ts r x ≡ Some f → (g : Graph) × (links_in ts ≡ Ok g)
    go (Ok g) q w = (g, q)
    go (Err a) q w = cc

results_of_program : (P : ModuleResults → Type 0) (fs : List ModuleResults) (x : List ℕ) (f : ModuleResults) → Every P fs → results_for fs x ≡ Some f → P f
results_of_program P [] x f h e = cc
results_of_program P (d ∷ fs) x f h e = go (bytes_eq (name_in d) x) e (results_of_program P fs x f h.1)
  where
    go : (b : Bool) → (if b then Some d else results_for fs x) ≡ Some f → (results_for fs x ≡ Some f → P f) → P f
    go true q ih = let same : d ≡ f = cc in subst P same h.0
    go false q ih = ih q

-- they fit the module
record NameFits (m : ReadModule) (f : ModuleResults) : Type 0 where
  module_is : f.known ≡ known m
  fits : EntryFits f

module _ (ts : List ModuleText) (ms : AreModules ts) (x : List ℕ) (m : ReadModule) (e : module_named ts x ≡ Some m) (few : IsCounted m) where
  name_fits : (f : ModuleResults) → results_in ts x ≡ Some f → NameFits m f
  name_fits f w =
      let named = is_named ts x m e in
      let link = linked_result ts x f w in
      let g = link.0 in
      let r = read_at ts ms x named.there in
      let h : Entry ts g x r.read = entry_of ts g link.1 x r in
      let same : h.entry ≡ f = some_is h.entry f (sym h.result ∙ w) in
      let module_same : r.read ≡ m = read_is r.read m (sym r.is_read ∙ e) in
      let is : h.entry.known ≡ known m = h.is_of ∙ ap known module_same in
      let read = all_read ts ms in
      let ks = known_in ts in
      let each : Every ModuleNamed ks = each_of ModuleNamed ks (modules_named blocks_have_a_chain (trees_in ts) (tables_in ts) read.built read.tabled) in
      let all = results_of_modules ks g in
      let told = results_of_program (EntryTold g.untracked) all x h.entry (entries_told (trees_in ts) (tables_in ts) g read.tabled each) h.said in
      let follows = said_each (FollowsFrom g all) all x h.entry (results_follow (trees_in ts) (tables_in ts) g (linked ts g link.1)) h.said in
      let are : AreNames (symbol_names h.entry.known.symbols) = subst (λ (k : Known). AreNames (symbol_names k.symbols)) (sym is) (tables_have_names named.text m named.is_read few) in
      subst (NameFits m) same (record { module_is = is; fits = entry_fits g all h.entry follows told are })

  -- ---- the laws

  value_fits : (k : Kind) (f : ModuleResults) (v : Value) (s : StoredValue) → f.known ≡ known m → as_stored v ≡ Some s → kind_of s ≡ k → StoredFits (names_of f.known) s → FitsItsModule m k v
  value_fits k f v s is a b h = record { stored = s; is = a; kind = b; fits = subst (λ (q : Known). StoredFits (names_of q) s) is h }

  module _ (k : Kind) (to : ModuleResults → Value) (as' : ModuleResults → StoredValue) (are : (f : ModuleResults) → as_stored (to f) ≡ Some (as' f)) (kinds : (f : ModuleResults) → kind_of (as' f) ≡ k)
      (fit : (f : ModuleResults) → EntryFits f → StoredFits (names_of f.known) (as' f)) where
    mapped : (v : Value) → option_map to (results_in ts x) ≡ Some v → FitsItsModule m k v
    mapped v h = go (results_in ts x) refl h
      where
        go : (o : Option ModuleResults) → results_in ts x ≡ o → option_map to o ≡ Some v → FitsItsModule m k v
        go None q w = cc
        go (Some f) q w = (let n = name_fits f q in let same : to f ≡ v = cc in subst (FitsItsModule m k) same (value_fits k f (to f) (as' f) n.module_is (are f) (kinds f) (fit f n.fits)))

  result_fits : (k : Kind) (v : Value) → is_stored k ≡ true → definition ts k x ≡ Some v → FitsItsModule m k v
  result_fits kind.Parsed v i d = cc
  result_fits kind.Lines v i d = cc
  result_fits kind.Symbols v i d = cc
  result_fits kind.CallGraph v i d = cc
  result_fits kind.Effects v i d = mapped kind.Effects (λ f. effects f.effects) (λ f. stored.Effects f.effects) (λ f. refl) (λ f. refl) (λ f h. h.effects) v d
  result_fits kind.Transformers v i d = mapped kind.Transformers (λ f. transformers f.transformers) (λ f. stored.Transformers f.transformers) (λ f. refl) (λ f. refl) (λ f h. h.transformers) v d
  result_fits kind.Preconditions v i d = mapped kind.Preconditions (λ f. preconditions f.preconditions) (λ f. stored.Preconditions f.preconditions) (λ f. refl) (λ f. refl) (λ f h. h.preconditions) v d
  result_fits kind.Regions v i d = mapped kind.Regions (λ f. regions f.regions) (λ f. stored.Regions f.regions) (λ f. refl) (λ f. refl) (λ f h. h.regions) v d
  result_fits kind.InRegions v i d = mapped kind.InRegions (λ f. ins f.ins) (λ f. stored.InRegions f.ins) (λ f. refl) (λ f. refl) (λ f h. h.ins) v d
  result_fits kind.OutRegions v i d = mapped kind.OutRegions (λ f. outs f.outs) (λ f. stored.OutRegions f.outs) (λ f. refl) (λ f. refl) (λ f h. h.outs) v d
  result_fits kind.Marks v i d = mapped kind.Marks (λ f. marks f.marks) (λ f. stored.Marks f.marks) (λ f. refl) (λ f. refl) (λ f h. h.marks) v d
  result_fits kind.Printed v i d = cc

pub defined_results_fit : DefinedResultsFit
defined_results_fit ts k x m v ms e few i d = result_fits ts ms x m e few k v i d

-- ---- read again

pub read_again : WrittenIsRead → FitsIsSmall → DefinedResultsAreReadAgain
read_again written small ts k x m v ms e few i d =
    let named = is_named ts x m e in
    let are = tables_have_names named.text m named.is_read few in
    let h = defined_results_fit ts k x m v ms e few i d in
    let names = specs.names_in m in
    let back : stored_of names (kind_of h.stored) (stored_data names.names h.stored) ≡ Some h.stored = written names h.stored are h.fits in
    record { stored = h.stored; is = h.is; read = subst (λ (q : Kind). stored_of names q (stored_data names.names h.stored) ≡ Some h.stored) h.kind back; small = small names h.stored h.fits }
