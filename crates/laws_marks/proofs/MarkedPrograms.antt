-- Programs that are read: the variables of marked loops are dead.
use Rattle.std.proofs.Common.{◌≡◌, ℕ, pos, zero, suc, Bool, true, false, List, [], ◌∷◌, Some, refl, sym, ap, ◌∙◌, subst}
use Rattle.f77_ast.specs.Trees.{LoopTree}
use Rattle.f77_ast.specs.DeclTrees.{ParsedTree}
use Rattle.f77_ast.specs.Store.{Content, Store}
use Rattle.f77_ast.specs.Steps.{Spot}
use Rattle.f77_ast.specs.Runs.{Event}
use Rattle.f77_ast.specs.Places.{Places, Variable}
use Rattle.f77_ast.specs.Plans.{Plan}
use Rattle.f77_ast.specs.Executions.{run_of}
use Rattle.f77_ast.specs.Programs.{program_plan, program_run, Conforms}
use Rattle.f77_ast.specs.declared.variable.Variable.TheVariants.{Own}
use Rattle.f77_ast.specs.Symbols.{SymbolTree}
use Rattle.call_graph.specs.declared.graph.Graph.{Graph}
use Rattle.f77_meaning.specs.Modules.{Known, known_of, names}
use Rattle.f77_meaning.specs.Linked.{program_of}
use Rattle.f77_meaning.specs.Occurrences.{Occurrence, Throughout, places_in}
use Rattle.f77_meaning.specs.Accesses.{is_read_first}
use Rattle.f77_meaning.specs.Claims.{writes}
use Rattle.affine_forms.specs.Claims.{unit_in}
use Rattle.loop_marker.specs.module_phases.OutPhases.{ModuleOuts}
use Rattle.loop_marker.specs.Results.{ModuleResults}
use Rattle.loop_marker.specs.Phases.{phases_of, all_marks}
use Rattle.loop_marker.specs.module_phases.ScalarPhases.{scope_of}
use Rattle.loop_marker.specs.dependence_test.Finding.{loop_in}
use Rattle.loop_marker.specs.Variables.{is_of_some}
use Rattle.loop_marker.specs.privatizer.Names.{may_copy}
use Rattle.loop_marker.specs.privatizer.Uses.{Uses}
use Rattle.loop_marker.specs.privatizer.Private.{private_in}
use Rattle.f77_ast.specs.declared.marks.Private.TheVariants.{Yes}
use Rattle.laws_analyses.specs.Regions.Settings.{elements_with}
use Rattle.laws_programs.specs.Programs.{IsProgram}
use Rattle.call_graph.specs.CallsIn.{Each}
use Rattle.laws_marks.specs.ConflictAccepted.{CopiesAreSole}
use Rattle.laws_marks.specs.ConflictExecutions.{Execution}
use Rattle.laws_marks.specs.Dead.{uses_in, CopiesLieInOwn, PrivatesAreDead, MarkedIsDead, MarkIsDead, index_name}
use Rattle.laws_marks.specs.Units.{ModuleUnitsStand}
use Rattle.laws_marks.specs.DeadLaws.{outs_of, AllUnitsStand, AllCopiesLieInOwn, AllPrivatesAreDead, AllMarksAreDead, ReadUnitsStand, ReadCopiesLieInOwn, ReadPrivatesAreDead}
use Rattle.laws_marks.proofs.Dead.{dead_if}
use Rattle.laws_marks.proofs.Marked.{index_same, says}
use Rattle.laws_marks.proofs.Marks.{none_of_it}
use Rattle.result_lines.specs.declared.reduction.Reduction.{Reduction}
use Rattle.laws_marks.specs.Said.{knowledge, said_at}
use Rattle.laws_marks.specs.Verdicts.{Says}
use Rattle.laws_marks.proofs.Merging.{Joined, merged, throughout_both}
use Rattle.laws_marks.proofs.Own.{passing}
use Rattle.laws_marks.proofs.Modules.{each_two, no_entry, with_their_marks, MarksStand, marks_stand}
use Rattle.laws_analyses.proofs.Claimed.{all_of_each}
use Rattle.in_out_regions.specs.region_sets.Lists.{set_at}
use Rattle.call_graph.proofs.EachLaws.{each_of_all}

module _ (ps : List ParsedTree) (sss : List (List SymbolTree)) (g : Graph) (x : IsProgram ps sss g) (copies : CopiesAreSole) where
  module _ (p : Spot) (at : Places) (t : Plan) (s : Store) (i : List Content) (later : List Event) where
    abbrev done : Execution
    done = record { spot = p; places = at; does = t; start = s; input = i }

    abbrev seen : Occurrence
    seen = record { spot = p; places = places_in p.statement t s i at; start = s; ran = run_of t s i; later = later }

    module _ (j : ℕ) (number : p.statement ≡ suc j) (f : ModuleResults) (st : MarksStand ps sss g x copies f) (e : ModuleUnitsStand (known_of ps sss) g (phases_of f).known done) (own : CopiesLieInOwn (known_of ps sss) g (phases_of f) seen) (private : PrivatesAreDead (known_of ps sss) g (phases_of f) seen) where
      abbrev k : Known
      k = f.known

      module _ (l : LoopTree) (is_do : loop_in p.statement f.known.read.body ≡ Some l) (reductions : Bool) (r : Reduction) (v : said_at g reductions f p.statement ≡ Some r) where
        said : Says (knowledge g f) p.statement l r
        said = says g f st.module_stands.numbered st.is p.statement l is_do reductions r v

        same_places : at ≡ places_in p.statement t s i at
        same_places = sym (ap (λ n. places_in n t s i at) number)

        index_dead : (c : ℕ) → names k.symbols (index_name l) ≡ Variable c → writes seen (unit_in (places_in p.statement t s i at) c) ≡ true → is_read_first (unit_in (places_in p.statement t s i at) c) later ≡ false
        index_dead c n wr =
            let stand = e l is_do in
            let same : ((knowledge g f).body l).index ≡ c = index_same g f st.module_stands.numbered st.is l ∙ stand.number c n in
            let may : may_copy k.read k.symbols (Own c) ≡ true = subst (λ i. may_copy k.read k.symbols (Own i) ≡ true) same said.index in
            dead_if (known_of ps sss) g (phases_of f) seen j number own l is_do (Own c) may
            (λ y o. none_of_it (Own c) (set_at f.outs.at p.statement) (subst (λ i. is_of_some (Own i) (set_at f.outs.at p.statement) ≡ false) same said.unused) o.region o.is_one o.same)
            (λ i. pos 0) (unit_in (places_in p.statement t s i at) c)
            (subst (λ (q : Places). elements_with (known_of ps sss) g k.symbols q (Own c) (λ i. pos 0) ≡ Some (unit_in q c)) same_places (stand.index c n (passing k.read k.symbols c may) (λ i. pos 0))) wr

        uses_same : (knowledge g f).uses p.statement l ≡ uses_in (phases_of f) p.statement l
        uses_same = refl

        pub marked_dead : MarkedIsDead (known_of ps sss) g (scope_of g.untracked k) l r.private seen
        marked_dead = record {
          index = index_dead;
          names = λ n i. private l is_do (Own n) (subst (λ (u : Uses). private_in k.read k.symbols u (Own n) ≡ Yes) uses_same (said.private n i));
        }

    -- what is claimed of a module with its OUT regions
    abbrev UnitsOf : ModuleOuts → Type 0
    UnitsOf f = f.known.known.analysis.found.known.read.name ≡ p.module_name → ModuleUnitsStand (known_of ps sss) g f.known done

    abbrev CopiesOf : ModuleOuts → Type 0
    CopiesOf f = f.known.known.analysis.found.known.read.name ≡ p.module_name → CopiesLieInOwn (known_of ps sss) g f seen

    abbrev PrivatesOf : ModuleOuts → Type 0
    PrivatesOf f = f.known.known.analysis.found.known.read.name ≡ p.module_name → PrivatesAreDead (known_of ps sss) g f seen

    abbrev MarkOf : ModuleResults → Type 0
    MarkOf f = f.known.read.name ≡ p.module_name → MarkIsDead (known_of ps sss) g f seen

    record Claims (f : ModuleOuts) : Type 0 where
      units : UnitsOf f
      copied : CopiesOf f
      private : PrivatesOf f

    claims : (fs : List ModuleOuts) → Each UnitsOf fs → Each CopiesOf fs → Each PrivatesOf fs → Each Claims fs
    claims [] e a b = tt
    claims (f ∷ fs) e a b = (record { units = e.0; copied = a.0; private = b.0 }, claims fs e.1 a.1 b.1)

    mark_of : (f : ModuleResults) → MarksStand ps sss g x copies f → Claims (phases_of f) → MarkOf f
    mark_of f st c q = go p.statement refl
      where
        go : (n : ℕ) → p.statement ≡ n → MarkIsDead (known_of ps sss) g f seen
        go zero e = λ l is_do. absurd (no_entry ps sss g x copies (phases_of f) st.module_stands l (subst (λ n. loop_in n f.known.read.body ≡ Some l) e is_do))
        go (suc j) e = λ l is_do reductions r v. marked_dead j e f st (c.units q) (c.copied q) (c.private q) l is_do reductions r v

    marks_each : Each UnitsOf (outs_of ps sss g) → Each CopiesOf (outs_of ps sss g) → Each PrivatesOf (outs_of ps sss g) → Each MarkOf (all_marks g (outs_of ps sss g))
    marks_each e a b =
        each_two (MarksStand ps sss g x copies) (λ (f : ModuleResults). Claims (phases_of f)) MarkOf mark_of (all_marks g (outs_of ps sss g)) (marks_stand ps sss g x copies)
        (with_their_marks g Claims (outs_of ps sss g) (claims (outs_of ps sss g) e a b))

  -- two claims of an execution in a run
  abbrev Both : Occurrence → Type 0
  Both y = AllCopiesLieInOwn (known_of ps sss) g (outs_of ps sss g) y × AllPrivatesAreDead (known_of ps sss) g (outs_of ps sss g) y

  marks_joined : Joined (AllUnitsStand (known_of ps sss) g (outs_of ps sss g)) Both (AllMarksAreDead (known_of ps sss) g (all_marks g (outs_of ps sss g)))
  marks_joined p at t s i later e h =
      let fs = outs_of ps sss g in
      all_of_each (MarkOf p at t s i later) (all_marks g fs)
      (marks_each p at t s i later (each_of_all (UnitsOf p at t s i later) fs e) (each_of_all (CopiesOf p at t s i later) fs h.0) (each_of_all (PrivatesOf p at t s i later) fs h.1))

  pub marks_are_dead : ReadUnitsStand → ReadCopiesLieInOwn → ReadPrivatesAreDead → (turns : ℕ) (input : List Content) → Conforms (program_run (program_of (known_of ps sss) g) turns input).answer → Throughout (AllMarksAreDead (known_of ps sss) g (all_marks g (outs_of ps sss g))) (program_plan (program_of (known_of ps sss) g) turns) (program_of (known_of ps sss) g).initial input (λ f z j. [])
  marks_are_dead units own dead turns input conforms =
      merged (AllUnitsStand (known_of ps sss) g (outs_of ps sss g)) Both (AllMarksAreDead (known_of ps sss) g (all_marks g (outs_of ps sss g))) marks_joined (program_plan (program_of (known_of ps sss) g) turns) (program_of (known_of ps sss) g).initial input (λ f z j. []) (units ps sss g x turns input)
      (throughout_both (AllCopiesLieInOwn (known_of ps sss) g (outs_of ps sss g)) (AllPrivatesAreDead (known_of ps sss) g (outs_of ps sss g)) Both (λ y a b. (a, b)) (program_plan (program_of (known_of ps sss) g) turns) (program_of (known_of ps sss) g).initial input (λ f z j. []) (own ps sss g x turns input conforms) (dead ps sss g x turns input conforms))
