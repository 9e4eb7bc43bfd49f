-- A main program that calls no module is such as the law on its runs asks, where the program is read.
use Rattle.std.proofs.Common.{◌≡◌, ℕ, zero, suc, ◌-◌, Bool, true, false, not, length, List, [], ◌∷◌, Some, None, Result, Ok, refl, sym, ap, ◌∙◌, subst}
use Rattle.std.specs.Prelude.{if◌then◌else◌, ◌&&◌, ◌||◌, slice_get}
use Rattle.std.proofs.lemmas.Bool.{and_parts, or_from, not-true}
use Rattle.f77_ast.specs.Trees.{StmtTrees}
use Rattle.f77_ast.specs.DeclTrees.{ParsedTree}
use Rattle.f77_ast.specs.Programs.{program_plan}
use Rattle.f77_ast.specs.declared.symbol.Place.{Place}
use Rattle.f77_ast.specs.declared.symbol.Place.TheVariants as place
use Rattle.f77_ast.specs.declared.symbol.InitialRun.{InitialRun}
use Rattle.f77_ast.specs.declared.variable.Unit.{Unit as BlockUnit}
use Rattle.f77_ast.specs.Symbols.{SymbolTree}
use Rattle.f77_ast.specs.Shared.{symbol_at}
use Rattle.laws_programs.specs.roundtrip_programs.Statements.Formed.{Each}
use Rattle.laws_programs.specs.SymbolTables.Shapes.{BodiesAreShaped}
use Rattle.tracked_cells.specs.Equivalences.{equivalenced_names}
use Rattle.tracked_cells.specs.Standing.{is_plain, untracks}
use Rattle.tracked_cells.specs.Untracked.{untracked_of}
use Rattle.tracked_cells.specs.Tracked.{is_alone, is_tracked, tracked_of}
use Rattle.call_graph.specs.declared.graph.Graph.{Graph}
use Rattle.call_graph.specs.Faults.{unless}
use Rattle.call_graph.specs.Modules.{too_many, name_twice, main_twice, no_main}
use Rattle.call_graph.specs.Links.{module_fault, joined_of, named_of, link_of}
use Rattle.f77_meaning.specs.Areas.{Area, block, group}
use Rattle.f77_meaning.specs.Modules.{Known, known_of, fixed}
use Rattle.f77_meaning.specs.Linked.{numbering, main_of, initial, program_of}
use Rattle.f77_meaning.specs.Laws.{area_of, LinkedHaveBlocks, CommonCellsAreAlone}
use Rattle.f77_meaning.specs.Occurrences.{Occurrence}
use Rattle.f77_meaning.specs.Claimed.{InEveryRun}
use Rattle.laws_programs.specs.Storage.Programs.{IsLinked, IsModule, IsCell, known}
use Rattle.laws_programs.specs.Storage.CellLaws.{CellsAreScalars}
use Rattle.laws_programs.proofs.Storage.ModuleLaws.{known_module, untracked_are}
use Rattle.laws_programs.specs.Storage.ScopeLaws.{IsScopeOf, FlagsTellCells, DataInitialisesScalars}
use Rattle.laws_programs.specs.Effects.Tables.{HasNoDummy, DummiesLead}
use Rattle.laws_programs.specs.Effects.Tables as given
use Rattle.laws_programs.specs.Programs.{AreTables, IsProgram}
use Rattle.laws_programs.specs.Laws.{ModulesAreRead, ProgramsAreLinked}
use Rattle.laws_programs.proofs.Sources.{IsBuilt, all_built}
use Rattle.affine_forms.specs.Scalars.{is_cell}
use Rattle.preconditions.specs.call_translation.Scopes.{ScopeTree}
use Rattle.preconditions.specs.transformers.Lists.{transformer_at}
use Rattle.preconditions.specs.transformers.Modules.{transformers_of}
use Rattle.preconditions.specs.Entry.{main_entry}
use Rattle.preconditions.specs.Modules.{preconditions_of}
use Rattle.call_graph.specs.CallsIn.{list_calls}
use Rattle.laws_analyses.specs.Statements.Results.{ScalarsHold}
use Rattle.laws_analyses.specs.Statements.Laws.{scope_of, no_callees, is_dummy, has_dummy, FirstValue, IsAlone, IsMainAlone, MainHolds}
use Rattle.laws_analyses.specs.ScalarLaws.{AcceptedDataStaysInLocals, NamesAgree, MainsAreAlone, ResultsHold, ReadMainsHold}
use Rattle.laws_analyses.proofs.ThroughoutLaws.{throughout_more}
use Rattle.laws_analyses.proofs.MainCallees.{callees_aside}
use Rattle.laws_programs.proofs.Whole.{bodies_numbered}
use Rattle.laws_analyses.proofs.TargetLaws.{body_lacks_none}
use Rattle.f77_meaning.proofs.LinkedLaws.{passed}
use Rattle.laws_programs.proofs.Effects.Once.{main_of_linked as some_main}
use Rattle.f77_ast.proofs.StorageLaws.{from_number as numbered_place}

-- ---- the main program among the modules

-- a main program, by its place
pub record MainOf (ps : List ParsedTree) (sss : List (List SymbolTree)) : Type 0 where
  pub at : ℕ
  pub parsed : ParsedTree
  pub table : List SymbolTree
  pub is_module : IsModule ps sss at parsed table
  pub main : parsed.module_read.main ≡ true
  pub is_main : main_of (known_of ps sss) ≡ known parsed table

pub main_from : (ps : List ParsedTree) (sss : List (List SymbolTree)) → AreTables ps sss → no_main ps ≡ None → MainOf ps sss
main_from [] [] t e = cc
main_from [] (ss ∷ sss) t e = absurd t
main_from (p ∷ ps) [] t e = absurd t
main_from (p ∷ ps) (ss ∷ sss) t e = go p.module_read.main refl e (λ k. main_from ps sss t.1 k)
  where
    go : (b : Bool) → p.module_read.main ≡ b → (if b then None else no_main ps) ≡ None → (no_main ps ≡ None → MainOf ps sss) → MainOf (p ∷ ps) (ss ∷ sss)
    go true q k ih = record { at = zero; parsed = p; table = ss; is_module = record { parsed = refl; table = refl }; main = q; is_main = ap (λ b. if b then known p ss else main_of (known_of ps sss)) q }
    go false q k ih =
        let r = ih k in
        record {
          at = suc r.at;
          parsed = r.parsed;
          table = r.table;
          is_module = record { parsed = r.is_module.parsed; table = r.is_module.table };
          main = r.main;
          is_main = ap (λ b. if b then known p ss else main_of (known_of ps sss)) q ∙ r.is_main;
        }

pub built_at : (ps : List ParsedTree) → Each IsBuilt ps → (i : ℕ) (p : ParsedTree) → slice_get ps i ≡ Some p → IsBuilt p
built_at [] b i p e = cc
built_at (q ∷ ps) b zero p e = let same : q ≡ p = cc in subst IsBuilt same b.first
built_at (q ∷ ps) b (suc i) p e = built_at ps b.others i p e

-- ---- dummies

no_dummy : (q : Place) → given.is_dummy q ≡ false → is_dummy q ≡ false
no_dummy (place.Local g o) h = refl
no_dummy (place.Dummy k) h = h
no_dummy (place.Block b o) h = refl
no_dummy (place.Constant v) h = refl

has_none : (ss : List SymbolTree) → HasNoDummy ss → has_dummy ss ≡ false
has_none [] h = refl
has_none (s ∷ ss) h = or_from (is_dummy s.place) (has_dummy ss) (no_dummy s.place h.0) (has_none ss h.1)

none_at : (ss : List SymbolTree) → HasNoDummy ss → (i : ℕ) (s : SymbolTree) → slice_get ss i ≡ Some s → is_dummy s.place ≡ false
none_at [] h i s e = cc
none_at (t ∷ ss) h zero s e = let same : t ≡ s = cc in ap (λ z. is_dummy z.place) (sym same) ∙ no_dummy t.place h.0
none_at (t ∷ ss) h (suc i) s e = none_at ss h.1 i s e

-- ---- tracked cells

cell_area : (m : List ℕ) (names : List (List ℕ)) (ss : List SymbolTree) (us : List BlockUnit) (q : Place) → is_dummy q ≡ false → is_alone names ss us q ≡ true → (a : Area) × (area_of m q ≡ Some a)
cell_area m names ss us (place.Local g o) d h = (group m g, refl)
cell_area m names ss us (place.Dummy k) d h = cc
cell_area m names ss us (place.Block b o) d h = (block b, refl)
cell_area m names ss us (place.Constant v) d h = cc

cell_alone : (names : List (List ℕ)) (ss : List SymbolTree) (us : List BlockUnit) (q : Place) → is_dummy q ≡ false → is_alone names ss us q ≡ true → ((b : List ℕ) (o : ℕ) → q ≡ place.Block b o → untracks names ss (place.Block b o) ≡ false) → untracks names ss q ≡ false
cell_alone names ss us (place.Local g o) d h f = not-true (untracks names ss (place.Local g o)) h
cell_alone names ss us (place.Dummy k) d h f = cc
cell_alone names ss us (place.Block b o) d h f = f b o refl
cell_alone names ss us (place.Constant v) d h f = cc

-- ---- programs

module _ (names_agree : NamesAgree) (data_lies : AcceptedDataStaysInLocals) (are_read : ModulesAreRead) (are_linked : ProgramsAreLinked) (are_shaped : BodiesAreShaped) (tell : FlagsTellCells) (are_scalars : CellsAreScalars) (begin : DataInitialisesScalars) (common_alone : CommonCellsAreAlone) (have_blocks : LinkedHaveBlocks) where
  module _ (ps : List ParsedTree) (sss : List (List SymbolTree)) (g : Graph) (x : IsProgram ps sss g) (r : MainOf ps sss) where
    abbrev p : ParsedTree
    p = r.parsed

    abbrev ss : List SymbolTree
    ss = r.table

    abbrev flags : List Bool
    flags = tracked_of p.module_read ss g.untracked

    linked : IsLinked ps sss g
    linked = (are_linked ps sss g x).0

    is_scope : IsScopeOf g p ss (scope_of ss flags)
    is_scope = record { symbols = refl; tracked = refl }

    -- a main program has no dummies
    none : HasNoDummy ss
    none =
        let read = are_read x.lines ps sss x.parsed x.tables r.at (known p ss) (known_module ps sss r.at p ss r.is_module) in
        subst (λ (ds : List (List ℕ)). DummiesLead (length ds) 1 ss) (read.main r.main) read.dummies

    cell : (n : ℕ) → is_cell flags n ≡ true → IsAlone (known p ss) n
    cell n t = go (tell g p ss (scope_of ss flags) is_scope n t)
      where
        go : (s : SymbolTree) × IsCell g p ss n s → IsAlone (known p ss) n
        go (s, c) =
            let at = numbered_place ss n s c.is_symbol in
            let d = none_at ss none (n - 1) s at in
            let h = (and_parts (is_plain (equivalenced_names p.module_read) s) (is_alone (equivalenced_names p.module_read) ss g.untracked s.place) c.tracked).1 in
            let a = cell_area p.module_read.name (equivalenced_names p.module_read) ss g.untracked s.place d h in
            let tracked = subst (λ us. is_tracked (equivalenced_names p.module_read) ss us s ≡ true) (untracked_are ps sss g x.links) c.tracked in
            record {
              symbol = s;
              is_symbol = c.is_symbol;
              scalar = (are_scalars g p ss n s c).1;
              area = a.0;
              lies = a.1;
              alone = cell_alone (equivalenced_names p.module_read) ss g.untracked s.place d h (λ b o q. common_alone ps sss r.at (n - 1) (equivalenced_names p.module_read) ss s b o r.is_module.table at q tracked r.at p ss r.is_module.parsed r.is_module.table);
            }

    first_value : (n : ℕ) (s : SymbolTree) → symbol_at ss n ≡ Some s → is_cell flags n ≡ true → FirstValue s.initial (initial (known_of ps sss) g (fixed (numbering (known_of ps sss) g) (known p ss) n).first).number
    first_value n s e t = go s.initial refl
      where
        go : (rs : List InitialRun) → s.initial ≡ rs → FirstValue rs (initial (known_of ps sss) g (fixed (numbering (known_of ps sss) g) (known p ss) n).first).number
        go [] q = tt
        go (i ∷ rs) q = ap (λ c. c.number) (begin ps sss g linked (data_lies x.lines ps sss x.parsed x.tables) r.at p ss r.is_module (scope_of ss flags) is_scope n s i rs t e q)

    alone : list_calls p.module_read.body ≡ [] → IsMainAlone (known_of ps sss) g (known p ss) flags
    alone c =
        let built = built_at ps (all_built x.lines ps x.parsed) r.at p r.is_module.parsed in
        let table = (are_linked ps sss g x).1 r.at p ss r.is_module in
        record {
          at = r.at;
          is_module = known_module ps sss r.at p ss r.is_module;
          is_main = r.is_main;
          blocks = have_blocks ps sss g linked.many x.links;
          no_call = c;
          targets = body_lacks_none ss p.module_read built.well built.formed (are_shaped p ss table);
          no_dummy = has_none ss none;
          cells = cell;
          agrees = names_agree p ss g.untracked table;
          numbered = bodies_numbered x.lines ps x.parsed r.at p r.is_module.parsed;
          values = first_value;
        }

  pub mains_are_alone : MainsAreAlone
  mains_are_alone ps sss g x =
      let r = main_from ps sss x.tables (some_main ps sss g x.links) in
      subst (λ (k : Known). list_calls k.read.body ≡ [] → IsMainAlone (known_of ps sss) g k (tracked_of k.read k.symbols g.untracked)) (sym r.is_main) (alone ps sss g x r)

-- ---- results

-- what is said of a statement is what its results say
says : (body : StmtTrees) (m : ScopeTree) (n : ℕ) (x : Occurrence) → ScalarsHold body m no_callees (main_entry m) n x →
    (let ts = transformers_of body m no_callees in ResultsHold m ts (preconditions_of body m (transformer_at ts.at) (main_entry m)) n x)
says body m zero x h = h
says body m (suc n) x h = h

pub read_mains_hold : MainsAreAlone → MainHolds → ReadMainsHold
read_mains_hold alone holds ps sss g cs x c =
    let ks = known_of ps sss in
    let k = main_of ks in
    let flags = tracked_of k.read k.symbols g.untracked in
    let m = scope_of k.symbols flags in
    let body = k.read.body in
    let plan = program_of ks g in
    subst (λ ts. InEveryRun ks g (λ y. ResultsHold m ts (preconditions_of body m (transformer_at ts.at) (main_entry m)) y.spot.statement y)) (callees_aside m no_callees cs body c)
    (λ turns input. throughout_more (λ y. ScalarsHold body m no_callees (main_entry m) y.spot.statement y)
    (λ y. let ts = transformers_of body m no_callees in ResultsHold m ts (preconditions_of body m (transformer_at ts.at) (main_entry m)) y.spot.statement y)
    (λ y h. says body m y.spot.statement y h) (program_plan plan turns) plan.initial input (λ f s i. []) (holds ks g k flags (alone ps sss g x c) turns input))
