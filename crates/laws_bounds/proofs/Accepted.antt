-- Programs that are read: a reference that is found safe stays inside its array, in every run.
use Rattle.std.proofs.Common.{◌≡◌, ℕ, zero, suc, List, [], ◌∷◌, Option, Some, None, sym, ap, ◌∙◌, subst, refl}
use Rattle.std.specs.Prelude.{All, IfSome}
use Rattle.std.proofs.lemmas.List.Elements.{All-nil, All-cons, All-head, All-tail}
use Rattle.affine_systems.specs.declared.row.Var.TheVariants.{Cell}
use Rattle.affine_systems.specs.declared.row.System.{System}
use Rattle.affine_systems.specs.Points.{Point, HoldsAll}
use Rattle.f77_ast.specs.DeclTrees.{ParsedTree}
use Rattle.f77_ast.specs.Programs.{program_plan}
use Rattle.f77_ast.specs.Store.{Content, Store}
use Rattle.f77_ast.specs.Steps.{Spot}
use Rattle.f77_ast.specs.Runs.{Event}
use Rattle.f77_ast.specs.Places.{Places}
use Rattle.f77_ast.specs.Plans.{Plan}
use Rattle.f77_ast.specs.Executions.{run_of}
use Rattle.f77_ast.specs.Symbols.{SymbolTree}
use Rattle.f77_ast.specs.declared.results.Results.{Results}
use Rattle.call_graph.specs.declared.graph.Graph.{Graph}
use Rattle.f77_meaning.specs.Modules.{Known, known_of, names}
use Rattle.f77_meaning.specs.Linked.{program_of}
use Rattle.f77_meaning.specs.Occurrences.{places_in}
use Rattle.f77_meaning.specs.Claims.{PreconditionHolds}
use Rattle.affine_forms.specs.Claims.{unit_in, numbers_of}
use Rattle.preconditions.specs.transformer_algebra.declared.transformer.Transformer.{Transformer}
use Rattle.preconditions.specs.transformers.Lists.{value_at}
use Rattle.in_out_regions.specs.call_equations.Sides.{changed_cells}
use Rattle.bound_check.specs.loop_marker.module_phases.ScalarPhases.{scope_of, Analysis, analyses}
use Rattle.bound_check.specs.loop_marker.dependence_test.Body.{or_no_rows}
use Rattle.laws_programs.proofs.Sources.{all_built}
use Rattle.laws_programs.proofs.Tables.{programs_are_linked}
use Rattle.laws_programs.proofs.Whole.{modules_are_read}
use Rattle.laws_programs.specs.roundtrip_programs.ModuleTexts.Cards.{statements_of}
use Rattle.laws_programs.specs.Storage.Programs.{IsLinked, IsModule, known}
use Rattle.laws_programs.proofs.Storage.ModuleLaws.{known_module}
use Rattle.laws_analyses.specs.Statements.Results.{SystemHolds}
use Rattle.laws_analyses.specs.Calls.Parts.{Part}
use Rattle.laws_analyses.specs.Parts.{part_of}
use Rattle.laws_analyses.specs.Analysed.{part_named}
use Rattle.laws_analyses.specs.Claims.{precondition_in, is_tracked, AnalysisHolds, AnalysesHold}
use Rattle.laws_analyses.specs.JumpLaws.{JumpsStayInside}
use Rattle.laws_analyses.specs.Laws.{ReadAnalysesHold}
use Rattle.laws_analyses.specs.Results.{callees_of_all, analysed_entry, analysed_sites}
use Rattle.laws_analyses.specs.ScalarLaws.{NamesAgree, AcceptedDataStaysInLocals}
use Rattle.laws_analyses.proofs.Analyses.{Located, all_located}
use Rattle.laws_analyses.proofs.Claimed.{all_of_each}
use Rattle.laws_analyses.proofs.IntegerLaws.{integers_fit}
use Rattle.laws_analyses.proofs.MainLaws.{main_from, built_at}
use Rattle.laws_analyses.proofs.Modules.{module_named_is}
use Rattle.laws_analyses.proofs.Whole.{analyses_follow, settled, ready}
use Rattle.laws_analyses.specs.Regions.Accepted.{summaries_of as reads_of}
use Rattle.laws_analyses.proofs.Regions.Accepted.{cards_of_held}
use Rattle.laws_analyses.proofs.Regions.Carrying.{LinkLaws}
use Rattle.laws_analyses.proofs.Regions.Parts.{program, program_is}
use Rattle.laws_analyses.proofs.Regions.ToldBlocks.{blocks_told}
use Rattle.laws_analyses.proofs.Regions.ToldSymbols.{names_told}
use Rattle.laws_marks.specs.InAccepted.{summaries_of}
use Rattle.laws_marks.specs.InTogether.{LocalsAreSavedTogether}
use Rattle.laws_marks.proofs.InAccepted.{all_laid, main_laid}
use Rattle.laws_marks.proofs.InLayouts.{may_name}
use Rattle.laws_marks.proofs.InWhole.{part_first, parts_first}
use Rattle.laws_marks.specs.ConflictExecutions.{Execution}
use Rattle.laws_marks.proofs.ConflictEach.{plan_more}
use Rattle.laws_marks.proofs.Merging.{merged}
use Rattle.laws_programs.proofs.Effects.Once.{main_of_linked as some_main}
use Rattle.call_graph.proofs.EachLaws.{each_more}
use Rattle.preconditions.specs.transformers.Simple.{named_cells}
use Rattle.laws_analyses.proofs.Regions.Numbering.{each_in}
use Rattle.laws_bounds.specs.Evaluations.{Evaluation, evaluations, ComesTo}
use Rattle.laws_bounds.specs.Claims.{SameBut, SafeHolds, Keeps, known_by, ChecksHold, AllChecksHold}
use Rattle.laws_bounds.specs.Accepted.{ReadChecksHold}
use Rattle.laws_bounds.proofs.Bounds.{VariablesAre}
use Rattle.laws_bounds.proofs.Safe.{stays_inside}
use Rattle.laws_bounds.proofs.Reached.{AtStatement, DoesKeeping, PartBoundsAre, EachBoundsAre, bounds_hold}

-- ---- what is claimed of a part is what is claimed of its module

abbrev ModuleBoundsAre : Graph → Execution → Analysis → Type 0
ModuleBoundsAre g x a = a.found.known.read.name ≡ x.spot.module_name → AtStatement x.spot.statement (VariablesAre (names a.found.known.symbols) (scope_of g.untracked a.found.known) (changed_cells a.found.own.at) x.places x.start
    × DoesKeeping (names a.found.known.symbols) (scope_of g.untracked a.found.known) a.found.known.read.body x)

abbrev AllBoundsAre : Graph → List Analysis → Execution → Type 0
AllBoundsAre g as' x = All (ModuleBoundsAre g x) as'

module _ (ps : List ParsedTree) (sss : List (List SymbolTree)) (g : Graph) (l : IsLinked ps sss g) where
  abbrev part : Known → Part
  part k = part_of (known_of ps sss) g (callees_of_all (known_of ps sss) g) (analysed_entry (known_of ps sss) g k) k

  abbrev of : List ℕ → Part
  of = part_named (known_of ps sss) g (callees_of_all (known_of ps sss) g) (analysed_entry (known_of ps sss) g)

  module _ (x : Execution) (h : EachBoundsAre (callees_of_all (known_of ps sss) g) (part_named (known_of ps sss) g (callees_of_all (known_of ps sss) g) (analysed_entry (known_of ps sss) g)) x) where
    holds_of : (a : Analysis) → Located ps sss g l (analyses (known_of ps sss) g) a → ModuleBoundsAre g x a
    holds_of a r n =
        let named : of a.found.known.read.name ≡ part a.found.known = ap part (module_named_is ps sss g l r.good.at a.found.known r.good.is_module) in
        let there : of x.spot.module_name ≡ part a.found.known = ap of (sym n) ∙ named in
        let here = subst (λ (p : Part). PartBoundsAre (callees_of_all (known_of ps sss) g) p x) there h in
        subst (λ (t : Results Transformer). AtStatement x.spot.statement (VariablesAre (names a.found.known.symbols) (scope_of g.untracked a.found.known) (changed_cells t.at) x.places x.start × DoesKeeping (names a.found.known.symbols) (scope_of g.untracked a.found.known) a.found.known.read.body x)) (sym r.good.own) here

    follows : AllBoundsAre g (analyses (known_of ps sss) g) x
    follows = all_of_each (ModuleBoundsAre g x) (analyses (known_of ps sss) g) (each_more (Located ps sss g l (analyses (known_of ps sss) g)) (ModuleBoundsAre g x) (analyses (known_of ps sss) g) holds_of (all_located ps sss g l))

-- ---- with what holds where statements begin

module _ (g : Graph) (p : Spot) (at : Places) (t : Plan) (s : Store) (i : List Content) (later : List Event) where
  system_holds : (tracked : ℕ → _) (n : ℕ) (o : Option System) → IfSome o (λ v. PreconditionHolds tracked (SystemHolds v) (record { spot = p; places = at; start = s; ran = run_of t s i; later = later })) → (q : Point) → ((c : ℕ) → q (Cell c) ≡ numbers_of s (unit_in at c)) → HoldsAll q (or_no_rows o).rows
  system_holds tracked n None h q e = tt
  system_holds tracked n (Some v) h q e = h (λ c. q (Cell c)) (λ c u. e c) q (λ c. refl)

  one_safe : (a : Analysis) (n : ℕ) → AtStatement n (VariablesAre (names a.found.known.symbols) (scope_of g.untracked a.found.known) (changed_cells a.found.own.at) at s) →
      IfSome (precondition_in a n) (λ v. PreconditionHolds (is_tracked g a) (SystemHolds v) (record { spot = p; places = places_in n t s i at; start = s; ran = run_of t s i; later = later })) → SafeHolds (names a.found.known.symbols) (known_by g a) n (places_in n t s i at) s
  one_safe a zero known h = tt
  one_safe a (suc n) known h = λ written e safe z same.
      stays_inside (names a.found.known.symbols) (known_by g a) (suc n) at s known
      (λ q f. system_holds (is_tracked g a) (suc n) (value_at a.holds.at (suc n)) h q f) written z same e safe

  one_keeps : (a : Analysis) (n : ℕ) → p.statement ≡ n → AtStatement n (VariablesAre (names a.found.known.symbols) (scope_of g.untracked a.found.known) (changed_cells a.found.own.at) at s × DoesKeeping (names a.found.known.symbols) (scope_of g.untracked a.found.known) a.found.known.read.body (record { spot = p; places = at; does = t; start = s; input = i }))
      → Keeps (names a.found.known.symbols) (scope_of g.untracked a.found.known) a.found.known.read.body n (record { spot = p; places = places_in n t s i at; start = s; ran = run_of t s i; later = later })
  one_keeps a zero e known = tt
  one_keeps a (suc n) e known =
      let d = known.1 in
      record { statement = d.statement; stands = d.stands; number = d.number; plan = t; input = i; ran = refl; does = d.does; keeps = λ v j. each_in (λ (u : Evaluation). ComesTo (names a.found.known.symbols) at d.does.locked (d.does.scope.own_unit d.statement.number) u s i (λ z. SameBut (scope_of g.untracked a.found.known) at (named_cells (scope_of g.untracked a.found.known).scalars u.items) s z)) (evaluations d.statement.what) v d.keeps j }

  variables_so : (a : Analysis) (n : ℕ) → AtStatement n (VariablesAre (names a.found.known.symbols) (scope_of g.untracked a.found.known) (changed_cells a.found.own.at) at s × DoesKeeping (names a.found.known.symbols) (scope_of g.untracked a.found.known) a.found.known.read.body (record { spot = p; places = at; does = t; start = s; input = i }))
      → AtStatement n (VariablesAre (names a.found.known.symbols) (scope_of g.untracked a.found.known) (changed_cells a.found.own.at) at s)
  variables_so a zero known = tt
  variables_so a (suc n) known = known.0

  abbrev Known_so : Analysis → Type 0
  Known_so a = ModuleBoundsAre g (record { spot = p; places = at; does = t; start = s; input = i }) a

  abbrev Holds_so : Analysis → Type 0
  Holds_so a = a.found.known.read.name ≡ p.module_name → AnalysisHolds g a (record { spot = p; places = places_in p.statement t s i at; start = s; ran = run_of t s i; later = later })

  abbrev Claimed_so : Analysis → Type 0
  Claimed_so a = a.found.known.read.name ≡ p.module_name → ChecksHold g a (record { spot = p; places = places_in p.statement t s i at; start = s; ran = run_of t s i; later = later })

  one_claimed : (a : Analysis) → Known_so a → Holds_so a → Claimed_so a
  one_claimed a e h n = record { safe = one_safe a p.statement (variables_so a p.statement (e n)) (h n).precondition; keeps = one_keeps a p.statement refl (e n) }

  all_safe : (as' : List Analysis) → All Known_so as' → All Holds_so as' → All Claimed_so as'
  all_safe [] e h = All-nil Claimed_so
  all_safe (a ∷ as') e h = All-cons Claimed_so a as' (one_claimed a (All-head Known_so a as' e) (All-head Holds_so a as' h)) (all_safe as' (All-tail Known_so a as' e) (All-tail Holds_so a as' h))

-- ---- programs that are read

-- where what is said of names, of DATA, of jumps, of links, of saved locals and of preconditions holds, what is claimed of references holds in every run of a program that is read
pub read_checks_hold : NamesAgree → AcceptedDataStaysInLocals → JumpsStayInside → LinkLaws → LocalsAreSavedTogether → ReadAnalysesHold → ReadChecksHold
read_checks_hold agree lies stays laws together hold ps sss g x turns input =
    let ks = known_of ps sss in
    let cs = callees_of_all ks g in
    let sites = analysed_sites ks g in
    let entry = analysed_entry ks g in
    let of = part_named ks g cs entry in
    let linked = programs_are_linked ps sss g x in
    let r = main_from ps sss x.tables (some_main ps sss g x.links) in
    let main = known r.parsed r.table in
    let is = known_module ps sss r.at r.parsed r.table r.is_module in
    let alone = (modules_are_read x.lines ps sss x.parsed x.tables r.at main is).main r.main in
    let settle = settled agree stays ps sss g x in
    let prepared = ready agree stays ps sss g x in
    let analysed = analyses_follow ps sss g linked.0 (λ i p ss m. (settle i p ss m).numbered) in
    let initialised = lies x.lines ps sss x.parsed x.tables in
    let fit = integers_fit x.lines ps sss x.parsed x.tables in
    let plain = λ (i : ℕ) (p : ParsedTree) (ss : List SymbolTree) (m : IsModule ps sss i p ss). (modules_are_read x.lines ps sss x.parsed x.tables i (known p ss) (known_module ps sss i p ss m)).name in
    let told = λ (i : ℕ) (p : ParsedTree) (ss : List SymbolTree) (m : IsModule ps sss i p ss). (let built = built_at ps (all_built x.lines ps x.parsed) i p m.parsed in names_told p ss built.well (cards_of_held (statements_of p.module_read) built.formed) (linked.1 i p ss m)) in
    let blocks = λ (i : ℕ) (p : ParsedTree) (ss : List SymbolTree) (m : IsModule ps sss i p ss). (let built = built_at ps (all_built x.lines ps x.parsed) i p m.parsed in blocks_told p ss (cards_of_held (statements_of p.module_read) built.formed) (linked.1 i p ss m)) in
    let whole = program ps sss g linked.0 linked.1 prepared cs sites entry analysed initialised r.at r.parsed r.table r.is_module r.is_main r.main alone in
    let is_program = program_is ps sss g linked.0 linked.1 prepared cs sites entry analysed initialised r.at r.parsed r.table r.is_module r.is_main r.main alone in
    let rm = main_laid ps sss g linked.0 linked.1 x.tables prepared analysed fit together plain told blocks r.at r.parsed r.table r.is_module in
    let re = all_laid ps sss g linked.0 linked.1 x.tables prepared analysed fit together plain told blocks in
    let each = bounds_hold _ cs sites of (may_name ps sss g) _ _ _ whole ks g (reads_of g (analyses ks g)) (summaries_of g (analyses ks g))
    (λ n. (
      part_first ks g _ cs (reads_of g (analyses ks g)) (summaries_of g (analyses ks g)) (may_name ps sss g) laws sites of n _ re whole.parts_analysed _ whole.sane whole.analysed rm,
      parts_first ks g _ cs (reads_of g (analyses ks g)) (summaries_of g (analyses ks g)) (may_name ps sss g) laws sites of n _ re whole.parts_analysed,
    )) is_program in
    merged (AllBoundsAre g (analyses ks g)) (AnalysesHold g (analyses ks g)) (AllChecksHold g (analyses ks g)) (λ p at t s i later e h. all_safe g p at t s i later (analyses ks g) e h) (program_plan (program_of ks g) turns) (program_of ks g).initial input (λ f s i. [])
    (plan_more (EachBoundsAre cs of) (AllBoundsAre g (analyses ks g)) (λ y h. follows ps sss g linked.0 y h) (program_plan (program_of ks g) turns) (program_of ks g).initial input (each turns input))
    (hold ps sss g x turns input)
