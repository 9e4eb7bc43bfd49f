-- Programs that are read: what is claimed of the units of variables holds at each DO, in every run.
use Rattle.std.proofs.Common.{◌≡◌, ℕ, List, ◌∷◌, ◌++◌, sym, ap, ◌∙◌, subst}
use Rattle.f77_ast.specs.DeclTrees.{ParsedTree}
use Rattle.f77_ast.specs.Programs.{program_plan}
use Rattle.f77_ast.specs.StatementNumbers.{HasNumbers}
use Rattle.f77_ast.specs.Symbols.{SymbolTree}
use Rattle.f77_ast.specs.declared.results.Results.{Results}
use Rattle.call_graph.specs.declared.graph.Graph.{Graph}
use Rattle.f77_meaning.specs.Modules.{Known, known_of, names, fixed, dummies_from}
use Rattle.f77_meaning.specs.Linked.{numbering, program_of}
use Rattle.in_out_regions.specs.region_sets.declared.region.Region.{Region}
use Rattle.in_out_regions.specs.array_regions.Calls.{Callees as Summaries}
use Rattle.loop_marker.specs.module_phases.RegionPhases.{regions_found}
use Rattle.loop_marker.specs.module_phases.OutPhases.{ModuleOuts}
use Rattle.loop_marker.specs.module_phases.ScalarPhases.{scope_of, Analysis, analyses}
use Rattle.laws_programs.proofs.Sources.{all_built}
use Rattle.laws_programs.proofs.Tables.{programs_are_linked}
use Rattle.laws_programs.proofs.Whole.{modules_are_read}
use Rattle.laws_programs.specs.roundtrip_programs.ModuleTexts.Cards.{statements_of}
use Rattle.call_graph.specs.CallsIn.{Each}
use Rattle.laws_programs.specs.Storage.Programs.{IsLinked, IsModule, known}
use Rattle.laws_programs.proofs.Storage.ModuleLaws.{known_module}
use Rattle.laws_analyses.specs.Calls.Parts.{Part}
use Rattle.laws_analyses.specs.Parts.{part_of}
use Rattle.laws_analyses.specs.Analysed.{part_named}
use Rattle.laws_analyses.specs.JumpLaws.{JumpsStayInside}
use Rattle.laws_analyses.specs.Results.{callees_of_all, analysed_entry, analysed_sites}
use Rattle.laws_analyses.specs.ScalarLaws.{NamesAgree, AcceptedDataStaysInLocals}
use Rattle.laws_analyses.proofs.Analyses.{Located, all_located}
use Rattle.laws_analyses.proofs.IntegerLaws.{integers_fit}
use Rattle.laws_analyses.proofs.MainLaws.{main_from, built_at}
use Rattle.laws_analyses.proofs.Modules.{module_named_is}
use Rattle.laws_analyses.proofs.Whole.{analyses_follow, settled, ready}
use Rattle.laws_analyses.specs.Regions.Accepted.{after, summaries_of as reads_of}
use Rattle.laws_analyses.specs.Regions.Programs.{regions_in_part}
use Rattle.laws_analyses.proofs.Regions.Carrying.{LinkLaws}
use Rattle.laws_analyses.proofs.Regions.Parts.{program, program_is}
use Rattle.laws_analyses.proofs.Regions.Summaries as regions
use Rattle.laws_analyses.proofs.Regions.ToldBlocks.{blocks_told}
use Rattle.laws_analyses.proofs.Regions.ToldSymbols.{names_told}
use Rattle.laws_marks.specs.InAccepted.{summaries_of}
use Rattle.laws_marks.specs.InTogether.{LocalsAreSavedTogether}
use Rattle.laws_marks.proofs.InAccepted.{all_laid, main_laid}
use Rattle.laws_marks.proofs.InLayouts.{may_name}
use Rattle.laws_marks.proofs.InWhole.{part_first, parts_first}
use Rattle.laws_marks.specs.ConflictExecutions.{Execution}
use Rattle.laws_marks.proofs.ConflictAccepted.{found_regions, each_back}
use Rattle.laws_marks.proofs.ConflictEach.{plan_more}
use Rattle.laws_marks.proofs.OutSummaries.{outs_at, Placed, outs_placed}
use Rattle.laws_marks.specs.Units.{UnitsStand, PartUnitsStand, EachUnitsStand, ModuleUnitsStand}
use Rattle.laws_marks.specs.DeadLaws.{outs_of, AllUnitsStand, ReadUnitsStand}
use Rattle.laws_marks.proofs.Reached.{units_hold}
use Rattle.laws_analyses.proofs.Claimed.{all_of_each}
use Rattle.laws_programs.proofs.Effects.Once.{main_of_linked as some_main}
use Rattle.laws_analyses.proofs.Regions.Accepted.{cards_of_held}
use Rattle.in_out_regions.specs.region_sets.Lists.{set_at}
use Rattle.call_graph.proofs.EachLaws.{each_more}

-- ---- lists

-- ---- what is claimed of a part is what is claimed of its module

module _ (ps : List ParsedTree) (sss : List (List SymbolTree)) (g : Graph) (l : IsLinked ps sss g) (numbered : (i : ℕ) (p : ParsedTree) (ss : List SymbolTree) → IsModule ps sss i p ss → HasNumbers p.module_read.body) where
  abbrev rs : List ℕ → Summaries
  rs = reads_of g (analyses (known_of ps sss) g)

  abbrev part : Known → Part
  part k = part_of (known_of ps sss) g (callees_of_all (known_of ps sss) g) (analysed_entry (known_of ps sss) g k) k

  abbrev of : List ℕ → Part
  of = part_named (known_of ps sss) g (callees_of_all (known_of ps sss) g) (analysed_entry (known_of ps sss) g)

  module _ (x : Execution) (h : EachUnitsStand (known_of ps sss) g (callees_of_all (known_of ps sss) g) (reads_of g (analyses (known_of ps sss) g)) (part_named (known_of ps sss) g (callees_of_all (known_of ps sss) g) (analysed_entry (known_of ps sss) g)) x) where
    at_place : (front : List Analysis) (a : Analysis) (rest : List Analysis) → analyses (known_of ps sss) g ≡ front ++ a ∷ rest → a.found.known.read.name ≡ x.spot.module_name → ModuleUnitsStand (known_of ps sss) g (outs_at g front a rest).known x
    at_place front a rest parts n this_loop e =
        let r = (each_back ps sss g l numbered (Located ps sss g l (analyses (known_of ps sss) g)) front (a ∷ rest) (subst (Each (Located ps sss g l (analyses (known_of ps sss) g))) parts (all_located ps sss g l))).0 in
        let name = a.found.known.read.name in
        let same : regions_found g.untracked (after g.untracked rest) a ≡ regions_in_part g (callees_of_all (known_of ps sss) g) (rs name) (part a.found.known) =
        ap (λ (c : Summaries). regions_found g.untracked c a) (sym (regions.summaries_are ps sss g l front a rest parts)) ∙ found_regions ps sss g l numbered a r (rs name) in
        let named : of name ≡ part a.found.known = ap part (module_named_is ps sss g l r.good.at a.found.known r.good.is_module) in
        let there : of x.spot.module_name ≡ part a.found.known = ap of (sym n) ∙ named in
        let here = subst (λ (p : Part). PartUnitsStand (known_of ps sss) g (callees_of_all (known_of ps sss) g) (rs p.routine.name) p x) there h in
        subst (λ (R : Results (List Region)). UnitsStand (known_of ps sss) g (names a.found.known.symbols) (fixed (numbering (known_of ps sss) g) a.found.known) (dummies_from 1 a.found.known.symbols) (scope_of g.untracked a.found.known) (set_at R.at x.spot.statement) this_loop x) (sym same) (here this_loop e)

    holds_of : (f : ModuleOuts) → Placed g (analyses (known_of ps sss) g) f → f.known.known.analysis.found.known.read.name ≡ x.spot.module_name → ModuleUnitsStand (known_of ps sss) g f.known x
    holds_of f q n = subst (λ (z : ModuleOuts). z.known.known.analysis.found.known.read.name ≡ x.spot.module_name → ModuleUnitsStand (known_of ps sss) g z.known x) (sym q.is) (λ e. at_place q.front q.analysis q.rest q.parts e) n

    follows : AllUnitsStand (known_of ps sss) g (outs_of ps sss g) x
    follows =
        let P : ModuleOuts → Type 0 = λ f. f.known.known.analysis.found.known.read.name ≡ x.spot.module_name → ModuleUnitsStand (known_of ps sss) g f.known x in
        all_of_each P (outs_of ps sss g) (each_more (Placed g (analyses (known_of ps sss) g)) P (outs_of ps sss g) holds_of (outs_placed g (analyses (known_of ps sss) g)))

-- ---- programs that are read

-- where what is said of names, of DATA, of jumps, of links and of saved locals holds, what is claimed of units holds in every run of a program that is read
pub read_units_stand : NamesAgree → AcceptedDataStaysInLocals → JumpsStayInside → LinkLaws → LocalsAreSavedTogether → ReadUnitsStand
read_units_stand agree lies stays laws together ps sss g x turns input =
    let ks = known_of ps sss in
    let cs = callees_of_all ks g in
    let sites = analysed_sites ks g in
    let entry = analysed_entry ks g in
    let of = part_named ks g cs entry in
    let linked = programs_are_linked ps sss g x in
    let r = main_from ps sss x.tables (some_main ps sss g x.links) in
    let main = known r.parsed r.table in
    let is = known_module ps sss r.at r.parsed r.table r.is_module in
    let alone = (modules_are_read x.lines ps sss x.parsed x.tables r.at main is).main r.main in
    let settle = settled agree stays ps sss g x in
    let prepared = ready agree stays ps sss g x in
    let analysed = analyses_follow ps sss g linked.0 (λ i p ss m. (settle i p ss m).numbered) in
    let initialised = lies x.lines ps sss x.parsed x.tables in
    let fit = integers_fit x.lines ps sss x.parsed x.tables in
    let plain = λ (i : ℕ) (p : ParsedTree) (ss : List SymbolTree) (m : IsModule ps sss i p ss). (modules_are_read x.lines ps sss x.parsed x.tables i (known p ss) (known_module ps sss i p ss m)).name in
    let told = λ (i : ℕ) (p : ParsedTree) (ss : List SymbolTree) (m : IsModule ps sss i p ss). (let built = built_at ps (all_built x.lines ps x.parsed) i p m.parsed in names_told p ss built.well (cards_of_held (statements_of p.module_read) built.formed) (linked.1 i p ss m)) in
    let blocks = λ (i : ℕ) (p : ParsedTree) (ss : List SymbolTree) (m : IsModule ps sss i p ss). (let built = built_at ps (all_built x.lines ps x.parsed) i p m.parsed in blocks_told p ss (cards_of_held (statements_of p.module_read) built.formed) (linked.1 i p ss m)) in
    let whole = program ps sss g linked.0 linked.1 prepared cs sites entry analysed initialised r.at r.parsed r.table r.is_module r.is_main r.main alone in
    let is_program = program_is ps sss g linked.0 linked.1 prepared cs sites entry analysed initialised r.at r.parsed r.table r.is_module r.is_main r.main alone in
    let rm = main_laid ps sss g linked.0 linked.1 x.tables prepared analysed fit together plain told blocks r.at r.parsed r.table r.is_module in
    let re = all_laid ps sss g linked.0 linked.1 x.tables prepared analysed fit together plain told blocks in
    let each = units_hold _ cs sites of (may_name ps sss g) _ _ _ whole ks g (reads_of g (analyses ks g)) (summaries_of g (analyses ks g))
    (λ n. (
      part_first ks g _ cs (reads_of g (analyses ks g)) (summaries_of g (analyses ks g)) (may_name ps sss g) laws sites of n _ re whole.parts_analysed _ whole.sane whole.analysed rm,
      parts_first ks g _ cs (reads_of g (analyses ks g)) (summaries_of g (analyses ks g)) (may_name ps sss g) laws sites of n _ re whole.parts_analysed,
    )) is_program in
    plan_more (EachUnitsStand ks g cs (reads_of g (analyses ks g)) of) (AllUnitsStand ks g (outs_of ps sss g))
    (λ y h. follows ps sss g linked.0 (λ i p ss m. (settle i p ss m).numbered) y h) (program_plan (program_of ks g) turns) (program_of ks g).initial input (each turns input)
