-- Programs that are read, with directives that say what is found: what is claimed of marked loops holds along their runs, and so these do the same by any schedule.
use Rattle.std.proofs.Common.{◌≡◌, ◌⊎◌, inl, inr, ⊎_elim, ℕ, Bool, List, [], ◌∷◌, map, sym, ap, subst}
use Rattle.f77_ast.specs.DeclTrees.{ParsedTree}
use Rattle.f77_ast.specs.StatementNumbers.{HasNumbers}
use Rattle.f77_ast.specs.Store.{Content}
use Rattle.f77_ast.specs.Runs.{Event, Answer, Gave, Broke, Ran}
use Rattle.f77_ast.specs.Plans.{Flow, Plan}
use Rattle.f77_ast.specs.Executions.{run_of}
use Rattle.f77_ast.specs.Programs.{Routine, Program, program_plan, program_run, Conforms, EndsRun}
use Rattle.f77_ast.specs.Symbols.{SymbolTree}
use Rattle.call_graph.specs.declared.graph.Graph.{Graph}
use Rattle.f77_meaning.specs.Areas.{Numbering}
use Rattle.f77_meaning.specs.Modules.{Known, known_of}
use Rattle.f77_meaning.specs.Linked.{numbering, routine, main_of, program_of}
use Rattle.loop_marker.specs.Results.{ModuleResults}
use Rattle.loop_marker.specs.Phases.{all_marks}
use Rattle.laws_programs.specs.Programs.{IsProgram}
use Rattle.laws_programs.proofs.Whole.{bodies_numbered}
use Rattle.laws_programs.specs.Storage.Programs.{known}
use Rattle.laws_programs.proofs.Storage.ModuleLaws.{known_module}
use Rattle.call_graph.specs.CallsIn.{Each}
use Rattle.laws_analyses.proofs.MainLaws.{MainOf, main_from}
use Rattle.laws_analyses.proofs.Modules.{IsIn, subs, subs_in, subs_are}
use Rattle.laws_analyses.proofs.UnitLaws.{module_at}
use Rattle.call_graph.proofs.EachLaws.{each_more}
use Rattle.laws_marks.specs.ConflictExecutions.{Execution}
use Rattle.laws_marks.specs.Standings.{AllLocalsAreApart, LocalsStayApart, StoresStayInRange}
use Rattle.laws_interleavings.specs.Laws.{MarkedRunsAgree, LongSchedulesEnd, MarksAreForgotten}
use Rattle.laws_interleavings.specs.Marks.{plain_run}
use Rattle.laws_interleavings.specs.Holds.{MarksHold}
use Rattle.laws_interleavings.specs.Sound.{SameEnd, IsShort}
use Rattle.laws_interleavings.specs.MarkedPrograms.{Directives, marked_program, marked_run}
use Rattle.laws_interleavings.specs.Typed.{AllTagged}
use Rattle.laws_interleavings.specs.Plans.Cleared.{AllApart, AllEnd}
use Rattle.laws_interleavings.specs.Plans.Uses.{MarkedProgramsAreStrict}
use Rattle.laws_interleavings.specs.Plans.Touched.{StoreInRange}
use Rattle.laws_marks.specs.MarkedLaws.{LoopsBegin, LoopsHold, ReducedLoopsHold}
use Rattle.laws_marks.specs.Inactive.{IsOfSome, IsInactive, InactiveHaveNone}
use Rattle.laws_marks.specs.OwnLaws.{VariablesHaveTypes, CallsEnd, InactiveUnitsHaveNone}
use Rattle.laws_marks.proofs.Order.{Named, Distinct, names_distinct}
use Rattle.laws_marks.specs.DeadLaws.{AllUnitsStand, AllNamesStand, AllMarkedLoopsAreDead, ReadUnitsStand, ReadNamesStand, ReadMarkedLoopsAreDead, outs_of}
use Rattle.laws_marks.specs.Named.{NamesAreCopied}
use Rattle.laws_marks.specs.Known.{Finishes, AllMarkedLoopsAreKnown, ReadMarkedLoopsAreKnown}
use Rattle.laws_marks.specs.Rests.{EachWithRest, Both}
use Rattle.laws_marks.specs.Loops.{AreOutside, RoutineHolds, RoutinesHold}
use Rattle.laws_marks.specs.Directives.{AreFound}
use Rattle.laws_marks.specs.Accepted.{ReadMarksHold, ReadRunsAsPlain}
use Rattle.laws_marks.proofs.Together.{together, alone, follows}
use Rattle.laws_marks.proofs.Unbroken.{IsUnbroken, unbroken, each_both}
use Rattle.laws_marks.proofs.Units.{units, more_units, all_outside}
use Rattle.laws_marks.proofs.Fitted.{Stands}
use Rattle.laws_marks.proofs.AtMarked.{Claimed, PlacesOf, ApartOf, routine_holds}
use Rattle.laws_marks.proofs.Runs.{in_runs}
use Rattle.laws_programs.proofs.Effects.Once.{main_of_linked as some_main}
use Rattle.fx_lists.proofs.Texts.{same_name}

-- ---- runs that end

ends_conforms : (a : Answer Flow) → EndsRun a → Conforms a
ends_conforms (Gave f) h = tt
ends_conforms (Broke b) h = absurd h

ends_unbroken : (a : Answer Flow) → EndsRun a → Finishes a
ends_unbroken (Gave f) h = tt
ends_unbroken (Broke b) h = absurd h

-- ---- modules that stand last in a program

record Suffix (p : Program) (turns : ℕ) (rs : List Routine) : Type 0 where
  tagged : AllTagged rs
  ends : AllEnd turns rs
  some : (u : ℕ) → IsOfSome rs u → IsOfSome p.others u
  apart : (u : ℕ) → AllApart u p.others → AllApart u rs
  inactive : (y : List ℕ) (u : ℕ) → Named rs y → IsInactive rs y u → IsInactive (p.main ∷ p.others) y u

stands_of : (p : Program) (turns : ℕ) (r : Routine) (rs : List Routine) → Suffix p turns (r ∷ rs) → Stands p turns r rs
stands_of p turns r rs s = record {
  tagged = s.tagged.1;
  ends = s.ends.2;
  inside = λ u h. inr (s.some u (⊎_elim (λ e. inl (inr e)) (λ z. inr z) h));
  apart = λ u a. (s.apart u a).1;
  inactive = λ u h. s.inactive r.name u (inl (same_name r.name)) (inl (same_name r.name, h));
}

rest_of_suffix : (p : Program) (turns : ℕ) (r : Routine) (rs : List Routine) → Distinct (r ∷ rs) → Suffix p turns (r ∷ rs) → Suffix p turns rs
rest_of_suffix p turns r rs d s = record {
  tagged = s.tagged.1;
  ends = s.ends.2;
  some = λ u h. s.some u (inr h);
  apart = λ u a. (s.apart u a).1;
  inactive = λ y u n h. s.inactive y u (inr n) (inr (d.0 y n, h));
}

-- ---- programs

module _ (begin : LoopsBegin) (hold : LoopsHold) (reduce : ReducedLoopsHold) (copied : NamesAreCopied) (types : VariablesHaveTypes) (calls : CallsEnd) (cleared : InactiveUnitsHaveNone) (stand : ReadNamesStand) (dead : ReadMarkedLoopsAreDead) (knowns : ReadMarkedLoopsAreKnown)
    (ps : List ParsedTree) (sss : List (List SymbolTree)) (g : Graph) (x : IsProgram ps sss g) (turns : ℕ) (reductions : Bool) (d : Directives) (are_found : AreFound g reductions (all_marks g (outs_of ps sss g)) d) (modules : Each (λ (f : ModuleResults). IsIn (known_of ps sss) f.known) (all_marks g (outs_of ps sss g))) where
  abbrev ks : List Known
  ks = known_of ps sss

  abbrev P : Program
  P = program_of (known_of ps sss) g

  abbrev N : Numbering
  N = numbering (known_of ps sss) g

  abbrev of : Known → Routine
  of k = routine (known_of ps sss) g k

  abbrev others : List Known
  others = subs (known_of ps sss) g.order

  abbrev C : Execution → List Event → Type 0
  C = Claimed begin hold reduce copied ps sss g x turns d

  numbered : (k : Known) → IsIn (known_of ps sss) k → HasNumbers k.read.body
  numbered k h =
      let m = module_at ps sss h.at k h.is_module in
      subst (λ (z : Known). HasNumbers z.read.body) m.same (bodies_numbered x.lines ps x.parsed h.at m.parsed m.is_module.parsed)

  others_are : map of others ≡ P.others
  others_are = subs_are (known_of ps sss) g g.order

  all_hold : (xs : List Known) → Each (IsIn (known_of ps sss)) xs → Distinct (map of xs) → Suffix (program_of (known_of ps sss) g) turns (map of xs) → RoutinesHold turns d (units N) C (map of xs)
  all_hold [] h e s = tt
  all_hold (k ∷ xs) h e s = (
    routine_holds begin hold reduce copied ps sss g x turns d reductions are_found modules numbered k h.0 xs h.1 e (stands_of (program_of (known_of ps sss) g) turns (of k) (map of xs) s),
    all_hold xs h.1 e.1 (rest_of_suffix (program_of (known_of ps sss) g) turns (of k) (map of xs) e s),
  )

  -- the main program, and those behind it
  main_is : MainOf ps sss
  main_is = main_from ps sss x.tables (some_main ps sss g x.links)

  main_in : IsIn (known_of ps sss) (main_of (known_of ps sss))
  main_in = subst (IsIn (known_of ps sss)) (sym main_is.is_main) (record { at = main_is.at; is_module = known_module ps sss main_is.at main_is.parsed main_is.table main_is.is_module })

  distinct : Distinct (map of (main_of (known_of ps sss) ∷ others))
  distinct = subst (λ rs. Distinct (of (main_of (known_of ps sss)) ∷ rs)) (sym others_are) (names_distinct ps sss g x)

  suffix : Suffix (program_of (known_of ps sss) g) turns (map of others)
  suffix = record {
    tagged = subst AllTagged (sym others_are) (types ps sss g x).others;
    ends = subst (AllEnd turns) (sym others_are) (calls ps sss g x turns);
    some = λ u h. subst (λ rs. IsOfSome rs u) others_are h;
    apart = λ u a. subst (AllApart u) (sym others_are) a;
    inactive = λ y u n h. inr (distinct.0 y n, subst (λ rs. IsInactive rs y u) others_are h);
  }

  main_stands : Stands (program_of (known_of ps sss) g) turns (of (main_of (known_of ps sss))) (map of others)
  main_stands = record {
    tagged = suffix.tagged;
    ends = suffix.ends;
    inside = λ u h. ⊎_elim inl (λ s. inr (suffix.some u s)) h;
    apart = suffix.apart;
    inactive = λ u h. inl (same_name P.main.name, ⊎_elim inl (λ s. inr (suffix.some u s)) h);
  }

  main_holds : RoutineHolds turns d (units N) C P.main P.others
  main_holds =
      subst (λ rs. RoutineHolds turns d (units N) C (of (main_of (known_of ps sss))) rs) others_are
      (routine_holds begin hold reduce copied ps sss g x turns d reductions are_found modules numbered (main_of (known_of ps sss)) main_in others (subs_in (known_of ps sss) g.order) distinct main_stands)

  others_hold : RoutinesHold turns d (units N) C P.others
  others_hold = subst (RoutinesHold turns d (units N) C) others_are (all_hold others (subs_in (known_of ps sss) g.order) distinct.1 suffix)

  outside : AreOutside (units N) (P.main ∷ P.others)
  outside = subst (λ rs. AreOutside (units N) (P.main ∷ rs)) others_are (all_outside ps sss g x (main_of (known_of ps sss) ∷ others) (main_in, subs_in (known_of ps sss) g.order) distinct)

  -- ---- a run

  module _ (units_stand : ReadUnitsStand) (placed : (e : Execution) → AllUnitsStand (known_of ps sss) g (outs_of ps sss g) e → Each (PlacesOf begin hold reduce copied ps sss g x turns d e) (all_marks g (outs_of ps sss g)))
      (apart : LocalsStayApart) (ranges : StoresStayInRange) (input : List Content) (ends : EndsRun (program_run P turns input).answer) where
    abbrev t : Plan
    t = program_plan P turns

    apart_of : (e : Execution) → AllLocalsAreApart (known_of ps sss) e → Each (ApartOf begin hold reduce copied ps sss g x turns d e) (all_marks g (outs_of ps sss g))
    apart_of e h =
        each_more (λ (f : ModuleResults). IsIn (known_of ps sss) f.known) (ApartOf begin hold reduce copied ps sss g x turns d e) (all_marks g (outs_of ps sss g)) (λ f i. h i.at f.known i.is_module) modules

    claimed : EachWithRest C t P.initial input (λ f s i. [])
    claimed =
        let fs = all_marks g (outs_of ps sss g) in
        let A = λ (e : Execution). AllMarkedLoopsAreKnown (known_of ps sss) g fs e in
        let B = InactiveHaveNone P in
        let D = AllMarkedLoopsAreDead (known_of ps sss) g fs in
        let E = AllNamesStand (known_of ps sss) g fs in
        let a = alone A t P.initial input (λ f s i. []) (knowns ps sss g x turns input) in
        let S = AllUnitsStand (known_of ps sss) g (outs_of ps sss g) in
        let v = alone S t P.initial input (λ f s i. []) (units_stand ps sss g x turns input) in
        let b = alone B t P.initial input (λ f s i. []) (cleared ps sss g x turns input) in
        let G = λ (e : Execution). AllLocalsAreApart (known_of ps sss) e in
        let H = λ (e : Execution). StoreInRange e.start in
        let w = each_both (λ y later. G y) (λ y later. H y) t P.initial input (λ f s i. []) (alone G t P.initial input (λ f s i. []) (apart ps sss g x turns input)) (alone H t P.initial input (λ f s i. []) (ranges ps sss g x turns input)) in
        let e = together E D t P.initial input (λ f s i. []) (stand ps sss g x turns input) (dead ps sss g x turns input (ends_conforms (program_run P turns input).answer ends)) in
        let u = unbroken t P.initial input (λ f s i. []) (ends_unbroken (program_run P turns input).answer ends) in
        follows (λ y later. ((A y × (B y × S y)) × (G y × H y)) × (Both E D y later × IsUnbroken y later)) C
        (λ y later h. record { unbroken = h.1.1; known = h.0.0.0; inactive = h.0.0.1.0; names = h.1.0.0; placed = placed y h.0.0.1.1; apart = apart_of y h.0.1.0; in_range = h.0.1.1; dead = h.1.0.1 }) t P.initial input (λ f s i. [])
        (each_both (λ y later. (A y × (B y × S y)) × (G y × H y)) (λ y later. Both E D y later × IsUnbroken y later) t P.initial input (λ f s i. [])
        (each_both (λ y later. A y × (B y × S y)) (λ y later. G y × H y) t P.initial input (λ f s i. [])
        (each_both (λ y later. A y) (λ y later. B y × S y) t P.initial input (λ f s i. []) a (each_both (λ y later. B y) (λ y later. S y) t P.initial input (λ f s i. []) b v)) w) (each_both (Both E D) IsUnbroken t P.initial input (λ f s i. []) e u))

    pub marks_hold : MarksHold (marked_program P turns d) P.initial input []
    marks_hold =
        let z = types ps sss g x in
        in_runs P turns d (units N) C z.no_dummies z.main z.others (λ r rs u h. more_units N r rs u h) (λ rs u h. h.1) outside main_holds others_hold input claimed

-- ---- by schedules

module _ (agree : MarkedRunsAgree) (long : LongSchedulesEnd) (forgotten : MarksAreForgotten) (strict : MarkedProgramsAreStrict) (types : VariablesHaveTypes) (marks : ReadMarksHold) where
  pub runs_as_plain : ReadRunsAsPlain
  runs_as_plain ps sss g x reductions d are_found turns input ends schedule =
      let p = program_of (known_of ps sss) g in
      let z = types ps sss g x in
      let t = marked_program p turns d in
      let same = forgotten p turns d in
      let run : plain_run t p.initial input ≡ program_run p turns input = ap (λ (q : Plan). run_of q p.initial input) same in
      let ok = subst (λ (q : Ran Flow). Conforms q.answer) (sym run) (ends_conforms (program_run p turns input).answer ends) in
      let m = marks ps sss g x reductions d are_found turns input ends in
      let s = strict p turns d z.no_dummies z.main z.others in (
        subst (λ (q : Ran Flow). SameEnd q (marked_run p turns d schedule input) ⊎ IsShort q (marked_run p turns d schedule input)) run (agree t p.initial input s ok m schedule),
        λ enough. subst (λ (q : Ran Flow). SameEnd q (marked_run p turns d schedule input)) run (long t p.initial input s ok m schedule enough),
      )
