-- Programs that are read: what is needed later of a variable lies in its own OUT regions, and private variables are dead.
use Rattle.std.proofs.Common.{◌≡◌, ℕ, zero, suc, List, [], ◌∷◌, Some, refl, subst}
use Rattle.f77_ast.specs.DeclTrees.{ParsedTree}
use Rattle.f77_ast.specs.Store.{Content, Store}
use Rattle.f77_ast.specs.Runs.{Event}
use Rattle.f77_ast.specs.Places.{Places}
use Rattle.f77_ast.specs.Plans.{Plan}
use Rattle.f77_ast.specs.Executions.{run_of}
use Rattle.f77_ast.specs.Programs.{program_plan, program_run, Conforms}
use Rattle.f77_ast.specs.Symbols.{SymbolTree}
use Rattle.call_graph.specs.declared.graph.Graph.{Graph}
use Rattle.f77_meaning.specs.Modules.{known_of}
use Rattle.f77_meaning.specs.Linked.{program_of}
use Rattle.f77_meaning.specs.Occurrences.{Occurrence, Throughout, places_in}
use Rattle.loop_marker.specs.module_phases.OutPhases.{ModuleOuts}
use Rattle.loop_marker.specs.module_phases.ScalarPhases.{scope_of, analyses}
use Rattle.loop_marker.specs.dependence_test.Finding.{loop_in}
use Rattle.laws_programs.specs.Programs.{IsProgram}
use Rattle.call_graph.specs.CallsIn.{Each}
use Rattle.laws_analyses.specs.Claims.{AnalysisHolds, AnalysesHold}
use Rattle.laws_analyses.specs.Laws.{ReadAnalysesHold}
use Rattle.laws_marks.specs.ConflictAccepted.{CopiesAreSole}
use Rattle.laws_marks.specs.ConflictExecutions.{Execution}
use Rattle.laws_marks.specs.OutAccepted.{AllOutsHold, ReadOutsHold}
use Rattle.laws_marks.specs.OutClaims.{OutRegionsHold}
use Rattle.laws_marks.specs.Dead.{CopiesLieInOwn, PrivatesAreDead}
use Rattle.laws_marks.specs.Units.{ModuleUnitsStand}
use Rattle.laws_marks.specs.DeadLaws.{outs_of, AllUnitsStand, AllCopiesLieInOwn, AllPrivatesAreDead, ReadUnitsStand, ReadCopiesLieInOwn}
use Rattle.laws_marks.proofs.Dead.{privates_dead}
use Rattle.laws_marks.proofs.Merging.{Joined, merged, throughout_both}
use Rattle.laws_marks.proofs.Own.{copies_lie}
use Rattle.laws_marks.proofs.Modules.{Stands, stands, no_entry}
use Rattle.laws_analyses.proofs.Claimed.{all_of_each}
use Rattle.call_graph.proofs.EachLaws.{each_of_all}

module _ (ps : List ParsedTree) (sss : List (List SymbolTree)) (g : Graph) (x : IsProgram ps sss g) (copies : CopiesAreSole) where
  -- ---- OUT regions of the variable itself

  module _ (at : Places) (t : Plan) (s : Store) (i : List Content) (later : List Event) where
    -- an execution, and what it is in a run
    abbrev done : List ℕ → ℕ → Execution
    done w n = record { spot = record { module_name = w; statement = n }; places = at; does = t; start = s; input = i }

    abbrev seen : List ℕ → ℕ → Occurrence
    seen w n = record { spot = record { module_name = w; statement = n }; places = places_in n t s i at; start = s; ran = run_of t s i; later = later }

    copies_one : (w : List ℕ) (n : ℕ) (f : ModuleOuts) → Stands ps sss g x copies f → ModuleUnitsStand (known_of ps sss) g f.known (done w n) → OutRegionsHold (known_of ps sss) g (scope_of g.untracked f.known.known.analysis.found.known) f.outs (seen w n) → CopiesLieInOwn (known_of ps sss) g f (seen w n)
    copies_one w zero f st e h = λ l is_do. absurd (no_entry ps sss g x copies f st l is_do)
    copies_one w (suc j) f st e h = copies_lie (known_of ps sss) g f j w at t s i later st.tables e h (λ rs v. st.written (suc j) rs v)

    copies_each : (w : List ℕ) (n : ℕ) (fs : List ModuleOuts) → Each (Stands ps sss g x copies) fs → Each (λ f. f.known.known.analysis.found.known.read.name ≡ w → ModuleUnitsStand (known_of ps sss) g f.known (done w n)) fs →
        Each (λ f. f.known.known.analysis.found.known.read.name ≡ w → OutRegionsHold (known_of ps sss) g (scope_of g.untracked f.known.known.analysis.found.known) f.outs (seen w n)) fs → Each (λ f. f.known.known.analysis.found.known.read.name ≡ w → CopiesLieInOwn (known_of ps sss) g f (seen w n)) fs
    copies_each w n [] st e h = tt
    copies_each w n (f ∷ fs) st e h = ((λ q. copies_one w n f st.0 (e.0 q) (h.0 q)), copies_each w n fs st.1 e.1 h.1)

  copies_joined : Joined (AllUnitsStand (known_of ps sss) g (outs_of ps sss g)) (AllOutsHold (known_of ps sss) g (outs_of ps sss g)) (AllCopiesLieInOwn (known_of ps sss) g (outs_of ps sss g))
  copies_joined p at t s i later e h =
      let fs = outs_of ps sss g in
      all_of_each (λ (f : ModuleOuts). f.known.known.analysis.found.known.read.name ≡ p.module_name → CopiesLieInOwn (known_of ps sss) g f (record { spot = p; places = places_in p.statement t s i at; start = s; ran = run_of t s i; later = later })) fs
      (copies_each at t s i later p.module_name p.statement fs (stands ps sss g x copies) (each_of_all (λ (f : ModuleOuts). f.known.known.analysis.found.known.read.name ≡ p.module_name → ModuleUnitsStand (known_of ps sss) g f.known (record { spot = p; places = at; does = t; start = s; input = i })) fs e)
      (each_of_all (λ (f : ModuleOuts). f.known.known.analysis.found.known.read.name ≡ p.module_name → OutRegionsHold (known_of ps sss) g (scope_of g.untracked f.known.known.analysis.found.known) f.outs (record { spot = p; places = places_in p.statement t s i at; start = s; ran = run_of t s i; later = later })) fs h))

  -- ---- private variables

  privates_one : (y : Occurrence) (f : ModuleOuts) → Stands ps sss g x copies f → CopiesLieInOwn (known_of ps sss) g f y → AnalysisHolds g f.known.known.analysis y → PrivatesAreDead (known_of ps sss) g f y
  privates_one y f st own h = go y.spot.statement refl
    where
      go : (n : ℕ) → y.spot.statement ≡ n → PrivatesAreDead (known_of ps sss) g f y
      go zero e = λ l is_do. absurd (no_entry ps sss g x copies f st l (subst (λ n. loop_in n f.known.known.analysis.found.known.read.body ≡ Some l) e is_do))
      go (suc j) e = privates_dead (known_of ps sss) g f y j e own h

  privates_joined : (y : Occurrence) → AllCopiesLieInOwn (known_of ps sss) g (outs_of ps sss g) y → AnalysesHold g (analyses (known_of ps sss) g) y → AllPrivatesAreDead (known_of ps sss) g (outs_of ps sss g) y
  privates_joined y a h = all_of_each (λ (f : ModuleOuts). f.known.known.analysis.found.known.read.name ≡ y.spot.module_name → PrivatesAreDead (known_of ps sss) g f y) (outs_of ps sss g) (each (outs_of ps sss g) (stands ps sss g x copies) (each_of_all (λ (f : ModuleOuts). f.known.known.analysis.found.known.read.name ≡ y.spot.module_name → CopiesLieInOwn (known_of ps sss) g f y) (outs_of ps sss g) a))
    where
      each : (fs : List ModuleOuts) → Each (Stands ps sss g x copies) fs → Each (λ f. f.known.known.analysis.found.known.read.name ≡ y.spot.module_name → CopiesLieInOwn (known_of ps sss) g f y) fs → Each (λ f. f.known.known.analysis.found.known.read.name ≡ y.spot.module_name → PrivatesAreDead (known_of ps sss) g f y) fs
      each [] st b = tt
      each (f ∷ fs) st b = ((λ q. privates_one y f st.0 (b.0 q) (st.0.analysed y h q)), each fs st.1 b.1)

  -- ---- the runs

  pub copies_lie_in_own : ReadUnitsStand → ReadOutsHold → (turns : ℕ) (input : List Content) → Conforms (program_run (program_of (known_of ps sss) g) turns input).answer → Throughout (AllCopiesLieInOwn (known_of ps sss) g (outs_of ps sss g)) (program_plan (program_of (known_of ps sss) g) turns) (program_of (known_of ps sss) g).initial input (λ f z j. [])
  copies_lie_in_own units outs turns input conforms =
      merged (AllUnitsStand (known_of ps sss) g (outs_of ps sss g)) (AllOutsHold (known_of ps sss) g (outs_of ps sss g)) (AllCopiesLieInOwn (known_of ps sss) g (outs_of ps sss g)) copies_joined
      (program_plan (program_of (known_of ps sss) g) turns) (program_of (known_of ps sss) g).initial input (λ f z j. []) (units ps sss g x turns input) (outs ps sss g x turns input conforms)

  pub privates_are_dead : ReadCopiesLieInOwn → ReadAnalysesHold → (turns : ℕ) (input : List Content) → Conforms (program_run (program_of (known_of ps sss) g) turns input).answer → Throughout (AllPrivatesAreDead (known_of ps sss) g (outs_of ps sss g)) (program_plan (program_of (known_of ps sss) g) turns) (program_of (known_of ps sss) g).initial input (λ f z j. [])
  privates_are_dead own analysed turns input conforms =
      throughout_both (AllCopiesLieInOwn (known_of ps sss) g (outs_of ps sss g)) (AnalysesHold g (analyses (known_of ps sss) g)) (AllPrivatesAreDead (known_of ps sss) g (outs_of ps sss g)) privates_joined
      (program_plan (program_of (known_of ps sss) g) turns) (program_of (known_of ps sss) g).initial input (λ f z j. []) (own ps sss g x turns input conforms) (analysed ps sss g x turns input)
