-- Programs that are read: the names of directives, and what comes after marked loops.
use Rattle.std.proofs.Common.{◌≡◌, ℕ, zero, suc, List, [], Some, refl, sym, ap, subst}
use Rattle.f77_ast.specs.DeclTrees.{ParsedTree}
use Rattle.f77_ast.specs.Store.{Content, Store}
use Rattle.f77_ast.specs.Steps.{Spot}
use Rattle.f77_ast.specs.Runs.{Event}
use Rattle.f77_ast.specs.Places.{Places}
use Rattle.f77_ast.specs.Plans.{Plan}
use Rattle.f77_ast.specs.Executions.{run_of}
use Rattle.f77_ast.specs.Programs.{program_plan, program_run, Conforms}
use Rattle.f77_ast.specs.Symbols.{SymbolTree}
use Rattle.call_graph.specs.declared.graph.Graph.{Graph}
use Rattle.f77_meaning.specs.Modules.{known_of, names}
use Rattle.f77_meaning.specs.Linked.{program_of}
use Rattle.f77_meaning.specs.Occurrences.{Occurrence, Throughout, places_in}
use Rattle.loop_marker.specs.module_phases.OutPhases.{ModuleOuts}
use Rattle.loop_marker.specs.Results.{ModuleResults}
use Rattle.loop_marker.specs.Phases.{phases_of, all_marks}
use Rattle.loop_marker.specs.module_phases.ScalarPhases.{scope_of}
use Rattle.loop_marker.specs.dependence_test.Finding.{loop_in}
use Rattle.laws_programs.specs.Programs.{IsProgram}
use Rattle.call_graph.specs.CallsIn.{Each}
use Rattle.laws_analyses.proofs.Modules.{IsIn}
use Rattle.laws_marks.specs.ConflictAccepted.{CopiesAreSole}
use Rattle.laws_marks.specs.ConflictClaims.{loop_with}
use Rattle.laws_marks.specs.ConflictExecutions.{Execution, AtEachExecution}
use Rattle.laws_marks.proofs.ConflictEach.{plan_more}
use Rattle.laws_marks.specs.MarkedLaws.{IterationsAreBegun}
use Rattle.laws_marks.specs.Dead.{MarkIsDead}
use Rattle.laws_marks.specs.Units.{ModuleUnitsStand}
use Rattle.laws_marks.specs.Named.{NamesStand, ModuleNamesStand, ModulePlacesStand, MarkedLoopIsDead}
use Rattle.laws_marks.specs.DeadLaws.{outs_of, AllUnitsStand, AllMarksAreDead, AllNamesStand, AllMarkedLoopsAreDead, ReadUnitsStand, ReadMarksAreDead, ReadNamesStand}
use Rattle.laws_marks.proofs.Loops.{loop_is_dead}
use Rattle.laws_marks.proofs.Merging.{Joined, merged}
use Rattle.laws_marks.proofs.Named.{names_stand, places_stand}
use Rattle.laws_marks.proofs.Modules.{each_two, no_entry, with_their_marks, MarksStand, marks_stand}
use Rattle.laws_analyses.proofs.Claimed.{all_of_each}
use Rattle.call_graph.proofs.EachLaws.{each_more, each_of_all}

module _ (ps : List ParsedTree) (sss : List (List SymbolTree)) (g : Graph) (x : IsProgram ps sss g) (copies : CopiesAreSole) where
  -- each is one of the program
  pub modules_in : Each (λ (f : ModuleResults). IsIn (known_of ps sss) f.known) (all_marks g (outs_of ps sss g))
  modules_in = each_more (MarksStand ps sss g x copies) (λ (f : ModuleResults). IsIn (known_of ps sss) f.known) (all_marks g (outs_of ps sss g)) (λ f s. s.module_stands.is_in) (marks_stand ps sss g x copies)

  -- ---- names

  -- what is claimed of the units of a module, by its name
  abbrev UnitsOf : Execution → ModuleOuts → Type 0
  UnitsOf y f = f.known.known.analysis.found.known.read.name ≡ y.spot.module_name → ModuleUnitsStand (known_of ps sss) g f.known y

  abbrev NamesOf : Execution → ModuleResults → Type 0
  NamesOf y f = f.known.read.name ≡ y.spot.module_name → ModuleNamesStand (known_of ps sss) g f y

  names_follow : (y : Execution) → AllUnitsStand (known_of ps sss) g (outs_of ps sss g) y → AllNamesStand (known_of ps sss) g (all_marks g (outs_of ps sss g)) y
  names_follow y h =
      let fs = outs_of ps sss g in
      all_of_each (NamesOf y) (all_marks g fs)
      (each_two (MarksStand ps sss g x copies) (λ (f : ModuleResults). UnitsOf y (phases_of f)) (NamesOf y) one (all_marks g fs) (marks_stand ps sss g x copies) (with_their_marks g (UnitsOf y) fs (each_of_all (UnitsOf y) fs h)))
    where
      one : (f : ModuleResults) → MarksStand ps sss g x copies f → UnitsOf y (phases_of f) → NamesOf y f
      one f s u n l is_do reductions r v = names_stand (known_of ps sss) g f s.module_stands.numbered s.is s.module_stands.tables y (u n) l is_do reductions r v

  -- ---- places

  abbrev pub PlacesOf : Execution → ModuleResults → Type 0
  PlacesOf y f = f.known.read.name ≡ y.spot.module_name → ModulePlacesStand (known_of ps sss) g f y

  pub places_follow : (y : Execution) → AllUnitsStand (known_of ps sss) g (outs_of ps sss g) y → Each (PlacesOf y) (all_marks g (outs_of ps sss g))
  places_follow y h =
      let fs = outs_of ps sss g in
      each_two (MarksStand ps sss g x copies) (λ (f : ModuleResults). UnitsOf y (phases_of f)) (PlacesOf y) one (all_marks g fs) (marks_stand ps sss g x copies) (with_their_marks g (UnitsOf y) fs (each_of_all (UnitsOf y) fs h))
    where
      one : (f : ModuleResults) → MarksStand ps sss g x copies f → UnitsOf y (phases_of f) → PlacesOf y f
      one f s u n l is_do reductions r v = places_stand (known_of ps sss) g f s.module_stands.numbered s.is s.module_stands.tables y (u n) l is_do reductions r v

  pub read_names_stand : ReadUnitsStand → (turns : ℕ) (input : List Content) → AtEachExecution (AllNamesStand (known_of ps sss) g (all_marks g (outs_of ps sss g))) (program_plan (program_of (known_of ps sss) g) turns) (program_of (known_of ps sss) g).initial input
  read_names_stand units turns input =
      plan_more (AllUnitsStand (known_of ps sss) g (outs_of ps sss g)) (AllNamesStand (known_of ps sss) g (all_marks g (outs_of ps sss g))) names_follow
      (program_plan (program_of (known_of ps sss) g) turns) (program_of (known_of ps sss) g).initial input (units ps sss g x turns input)

  -- ---- loops

  abbrev MarkOf : Occurrence → ModuleResults → Type 0
  MarkOf y f = f.known.read.name ≡ y.spot.module_name → MarkIsDead (known_of ps sss) g f y

  abbrev LoopOf : Occurrence → ModuleResults → Type 0
  LoopOf y f = f.known.read.name ≡ y.spot.module_name → MarkedLoopIsDead (known_of ps sss) g f y

  module _ (begun : IterationsAreBegun) (p : Spot) (at : Places) (t : Plan) (s : Store) (i : List Content) (later : List Event) where
    abbrev done : Execution
    done = record { spot = p; places = at; does = t; start = s; input = i }

    abbrev seen : Occurrence
    seen = record { spot = p; places = places_in p.statement t s i at; start = s; ran = run_of t s i; later = later }

    loop_of : (f : ModuleResults) → MarksStand ps sss g x copies f → NamesOf done f × MarkOf seen f → LoopOf seen f
    loop_of f st h n = go p.statement refl
      where
        go : (j : ℕ) → p.statement ≡ j → MarkedLoopIsDead (known_of ps sss) g f (record { spot = p; places = places_in p.statement t s i at; start = s; ran = run_of t s i; later = later })
        go zero e = λ l is_do. absurd (no_entry ps sss g x copies (phases_of f) st.module_stands l (subst (λ k. loop_in k f.known.read.body ≡ Some l) e is_do))
        go (suc j) e = λ l is_do reductions said v xs are sc body r u inner locked i2 same ran begins quiet.
            loop_is_dead xs sc body (places_in p.statement t s i at) r u inner l locked s i2 begins begun quiet (known_of ps sss) g (scope_of g.untracked f.known) (loop_with g (phases_of f).known l) said.private seen refl ran same are
            (subst (λ (q : Places). NamesStand (known_of ps sss) g (scope_of g.untracked f.known) (names f.known.symbols) (loop_with g (phases_of f).known l) l said.private q) (sym (ap (λ k. places_in k t s i at) e)) (h.0 n l is_do reductions said v)) (h.1 n l is_do reductions said v)

  loops_joined : IterationsAreBegun → Joined (AllNamesStand (known_of ps sss) g (all_marks g (outs_of ps sss g))) (AllMarksAreDead (known_of ps sss) g (all_marks g (outs_of ps sss g))) (AllMarkedLoopsAreDead (known_of ps sss) g (all_marks g (outs_of ps sss g)))
  loops_joined begun p at t s i later e h =
      let fs = all_marks g (outs_of ps sss g) in
      let y : Execution = record { spot = p; places = at; does = t; start = s; input = i } in
      let z : Occurrence = record { spot = p; places = places_in p.statement t s i at; start = s; ran = run_of t s i; later = later } in
      all_of_each (LoopOf z) fs
      (each_two (MarksStand ps sss g x copies) (λ f. NamesOf y f × MarkOf z f) (LoopOf z) (loop_of begun p at t s i later) fs (marks_stand ps sss g x copies)
      (each_two (NamesOf y) (MarkOf z) (λ f. NamesOf y f × MarkOf z f) (λ f a b. (a, b)) fs (each_of_all (NamesOf y) fs e) (each_of_all (MarkOf z) fs h)))

  pub marked_loops_dead : IterationsAreBegun → ReadNamesStand → ReadMarksAreDead → (turns : ℕ) (input : List Content) → Conforms (program_run (program_of (known_of ps sss) g) turns input).answer →
      Throughout (AllMarkedLoopsAreDead (known_of ps sss) g (all_marks g (outs_of ps sss g))) (program_plan (program_of (known_of ps sss) g) turns) (program_of (known_of ps sss) g).initial input (λ f z j. [])
  marked_loops_dead begun stand dead turns input conforms =
      merged (AllNamesStand (known_of ps sss) g (all_marks g (outs_of ps sss g))) (AllMarksAreDead (known_of ps sss) g (all_marks g (outs_of ps sss g))) (AllMarkedLoopsAreDead (known_of ps sss) g (all_marks g (outs_of ps sss g))) (loops_joined begun)
      (program_plan (program_of (known_of ps sss) g) turns) (program_of (known_of ps sss) g).initial input (λ f z j. []) (stand ps sss g x turns input) (dead ps sss g x turns input conforms)
