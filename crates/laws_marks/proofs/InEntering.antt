-- What the IN regions of an entry show: of the bounds of arrays, and of the body.
use Rattle.std.proofs.Common.{◌≡◌, ⊎_elim, ℕ, zero, suc, ℤ, List, [], ◌∷◌, ◌++◌, Option, Some, None, Bool, true, false, refl, sym, ap, ◌∙◌, subst, true≢false}
use Rattle.f77_ast.specs.Trees.{StmtTrees}
use Rattle.f77_ast.specs.Trees as tree
use Rattle.f77_ast.specs.Store.{Content, Store}
use Rattle.f77_ast.specs.Steps.{Break}
use Rattle.f77_ast.specs.Runs.{Event, Ran, Answer, Gave, Broke}
use Rattle.f77_ast.specs.Places.{Place, Places}
use Rattle.f77_ast.specs.Writes.{Locks}
use Rattle.f77_ast.specs.Plans.{Flow, Normal, Jump, Returned, Stopped}
use Rattle.f77_ast.specs.Lists.{list_plan}
use Rattle.f77_ast.specs.Executions.{run_of}
use Rattle.f77_ast.specs.Calls.{BoundTree, Dummy, Meaning}
use Rattle.f77_ast.specs.Statements.{Scope, spot, body_plan}
use Rattle.f77_ast.specs.declared.variable.Variable.{Variable}
use Rattle.f77_ast.specs.declared.results.At.{At}
use Rattle.call_graph.specs.declared.graph.Graph.{Graph}
use Rattle.f77_meaning.specs.Modules.{Known}
use Rattle.f77_meaning.specs.Occurrences.{Occurrence, is_normal}
use Rattle.f77_meaning.specs.Accesses.{is_read_first, is_visible}
use Rattle.affine_forms.specs.Claims.{numbers_of}
use Rattle.preconditions.specs.transformers.Given.{Callees}
use Rattle.in_out_regions.specs.region_sets.declared.region.Access.TheVariants.{In as AtIn}
use Rattle.in_out_regions.specs.region_sets.declared.region.Region.{Region}
use Rattle.in_out_regions.specs.region_sets.Claims.{LiesInSet, IsSharpSet}
use Rattle.in_out_regions.proofs.RegionSets.StepLaws.{in_either}
use Rattle.in_out_regions.specs.array_regions.Calls.{Called}
use Rattle.in_out_regions.specs.array_regions.Entry.{symbols_reads}
use Rattle.in_out_regions.specs.array_regions.Reads.{reads, maybe_reads}
use Rattle.in_out_regions.specs.Kinds.{all_in}
use Rattle.in_out_regions.specs.Known.{KnownTree}
use Rattle.in_out_regions.specs.Statement.{list_set}
use Rattle.in_out_regions.specs.Modules.{summary_of}
use Rattle.laws_analyses.proofs.Calls.Bound.{Made}
use Rattle.laws_analyses.specs.Calls.Parts.{Blocks, Part, NoDummy, places_in, Sane}
use Rattle.laws_analyses.specs.Regions.Settings.{scene}
use Rattle.laws_analyses.specs.Regions.Shown.{Finally}
use Rattle.laws_analyses.specs.Regions.Entries.{bounds_reads, dummies_reads, Enters}
use Rattle.laws_analyses.specs.Regions.Programs.{Regular}
use Rattle.laws_analyses.proofs.Regions.Showing.{finally_more}
use Rattle.laws_analyses.proofs.Regions.Bounds.{KeepsScalars, Got}
use Rattle.laws_analyses.proofs.Regions.Starts.{Starts, body_starts}
use Rattle.laws_analyses.proofs.Regions.Entering.{not_visible, keeps_made, keeps_first, fixed_first, out}
use Rattle.laws_marks.specs.InClaims.{InSetHolds}
use Rattle.laws_marks.specs.InFrames.{Frame, elements_in}
use Rattle.laws_marks.specs.InLaid.{Laid}
use Rattle.laws_marks.specs.InShown.{first_read, IsFirst, FirstHolds, FirstSharp, FirstShown}
use Rattle.laws_marks.specs.InUnits.{AreOf}
use Rattle.laws_marks.proofs.InFramed.{by_order, element_of}
use Rattle.laws_marks.proofs.InRunning.{frame}
use Rattle.laws_marks.proofs.InTaking.{NoWrites, first_holds_none, first_holds_left, first_holds_both, first_sharp_none, first_sharp_first, first_sharp_last, first_sharp_append, seen_first, seen_sharp}
use Rattle.laws_marks.proofs.InNarrowed.{MayName, reads_narrowed, maybe_narrowed}
use Rattle.laws_marks.proofs.InSummed.{summary_lies, summary_sharp}
use Rattle.laws_marks.proofs.InClaimed.{visible_first, in_set_holds}

-- acc: READ and WRITE at the statements; called: what CALLs read first
module _ (ks : List Known) (g : Graph) (calls : Called) (b : Blocks) (cs : Callees) (k : Part) (sane : Sane b k) (regular : Regular k) (turns : ℕ) (callee : List ℕ → Meaning) (ps : List Place) (may_name : Variable → Bool) (laid : Laid ks g k may_name) (acc : List (At (List Region))) (called : Called) where
  abbrev T : KnownTree
  T = record { scope = k.scope; does = k.found.transformer; accesses = acc; called = called }

  abbrev set_of : StmtTrees → List Region
  set_of body = list_set true body T

  abbrev bounds : List Region
  bounds = dummies_reads k.routine.dummies k.scope

  abbrev at_places : Places → Frame
  at_places at = frame ks g calls b cs k sane regular turns callee ps may_name laid at

  -- ---- what bounds read is of the module's variables

  abbrev may : MayName
  may = record { ks = ks; g = g; such = may_name; own = laid.own; told = laid.told }

  bounds_named : (bs : List BoundTree) → AreOf may_name (bounds_reads bs k.scope)
  bounds_named [] r i = elim i [ ]
  bounds_named (c ∷ bs) r i =
      ⊎_elim (λ j. (reads_narrowed may k.scope c.low r j).0)
      (λ j. ⊎_elim (λ l. (maybe_narrowed may k.scope c.high r l).0) (λ l. bounds_named bs r l) (in_either r (maybe_reads c.high k.scope) (bounds_reads bs k.scope) j))
      (in_either r (reads c.low k.scope) (maybe_reads c.high k.scope ++ bounds_reads bs k.scope) i)

  pub dummies_named : (ds : List Dummy) → AreOf may_name (dummies_reads ds k.scope)
  dummies_named [] r i = elim i [ ]
  dummies_named (d ∷ ds) r i = ⊎_elim (λ j. bounds_named d.bounds r j) (λ j. dummies_named ds r j) (in_either r (bounds_reads d.bounds k.scope) (dummies_reads ds k.scope) i)

  -- ---- of the bounds and of a body

  pub record EnteringIn (body : StmtTrees) (s : Store) (at : Places) (a : Answer Flow) (es : List Event) : Type 0 where
    pub holds : FirstHolds (frame ks g calls b cs k sane regular turns callee ps may_name laid at) (all_in (dummies_reads k.routine.dummies k.scope) ++ list_set true body T) s es
    pub sharp : Finally true a (FirstSharp (frame ks g calls b cs k sane regular turns callee ps may_name laid at) (all_in (dummies_reads k.routine.dummies k.scope) ++ list_set true body T) s es)
    pub fixed : (n : ℕ) → NoDummy k.routine.dummies n → at n ≡ k.routine.fixed n

  pub entering_same : (body : StmtTrees) (z s : Store) (at : Places) (a : Answer Flow) (es : List Event) → numbers_of z ≡ numbers_of s → EnteringIn body z at a es → EnteringIn body s at a es
  entering_same body z s at a es e h = record {
    holds = subst (λ (x : ℕ → ℤ). (u : ℕ) → IsFirst ks g es u → LiesInSet (scene (at_places at).base) (elements_in (at_places at)) AtIn (all_in bounds ++ set_of body) x u) e h.holds;
    sharp = subst (λ (x : ℕ → ℤ). Finally true a (IsSharpSet (scene (at_places at).base) (elements_in (at_places at)) (all_in bounds ++ set_of body) x (λ c. first_read es))) e h.sharp;
    fixed = h.fixed;
  }

  -- the bounds are refused
  pub entering_broke : (body : StmtTrees) (s : Store) (z : Break) (es : List Event) → Got ks g calls b cs k sane regular turns callee ps {A = Places} (dummies_reads k.routine.dummies k.scope) s (Broke z) es → EnteringIn body s (places_in k ps) (Broke z) es
  entering_broke body s z es got = record {
    holds = first_holds_left (at_places (places_in k ps)) (all_in bounds) (set_of body) s es (seen_first (at_places (places_in k ps)) bounds s es (dummies_named k.routine.dummies) (got.holds (places_in k ps) (keeps_first ks g calls b cs k sane regular turns callee ps)));
    sharp = tt;
    fixed = fixed_first ks g calls b cs k sane regular turns callee ps;
  }

  -- the bounds, and then the body
  module _ (s : Store) (es : List Event) (at0 : Places) (got : Got ks g calls b cs k sane regular turns callee ps (dummies_reads k.routine.dummies k.scope) s (Gave at0) es) (quiet : NoWrites es) where
    pub both_holds : (at : Places) → KeepsScalars ks g calls b cs k sane regular turns callee ps at → (qs : List Region) (fs : List Event) → FirstHolds (at_places at) qs s fs → FirstHolds (at_places at) (all_in (dummies_reads k.routine.dummies k.scope) ++ qs) s (es ++ fs)
    both_holds at f qs fs h = first_holds_both (at_places at) (all_in bounds) qs s es fs (seen_first (at_places at) bounds s es (dummies_named k.routine.dummies) (got.holds at f)) h

    pub both_sharp : (at : Places) → KeepsScalars ks g calls b cs k sane regular turns callee ps at → (qs : List Region) (fs : List Event) → FirstSharp (at_places at) qs s fs → FirstSharp (at_places at) (all_in (dummies_reads k.routine.dummies k.scope) ++ qs) s (es ++ fs)
    both_sharp at f qs fs h =
        first_sharp_append (at_places at) (all_in bounds) qs s (es ++ fs) (first_sharp_first (at_places at) (all_in bounds) s es fs (seen_sharp (at_places at) bounds s es (dummies_named k.routine.dummies) quiet (got.sharp at f)))
        (first_sharp_last (at_places at) qs s es fs quiet h)

    module _ (at : Places) (made : Made k.routine.dummies ps (places_in k ps) at) (sc : Scope) (inner : Locks) (i : List Content) where
      abbrev After : StmtTrees → Type 0
      After body = Starts (body_plan body sc at inner) s i (places_in k ps) (λ w a fs. EnteringIn body s w a (es ++ fs))

      empty : After tree.no_stmts
      empty = go sc.turns
        where
          here : KeepsScalars ks g calls b cs k sane regular turns callee ps (places_in k ps)
          here = keeps_first ks g calls b cs k sane regular turns callee ps

          done : EnteringIn tree.no_stmts s (places_in k ps) (Gave Normal) (es ++ [])
          done = record {
            holds = both_holds (places_in k ps) here [] [] (first_holds_none (at_places (places_in k ps)) [] s);
            sharp = both_sharp (places_in k ps) here [] [] (first_sharp_none (at_places (places_in k ps)) s []);
            fixed = fixed_first ks g calls b cs k sane regular turns callee ps;
          }

          go : (n : ℕ) → Starts (list_plan n []) s i (places_in k ps) (λ w a fs. EnteringIn tree.no_stmts s w a (es ++ fs))
          go zero = done
          go (suc n) = done

      pub entering_body : (body : StmtTrees) → FirstShown (frame ks g calls b cs k sane regular turns callee ps may_name laid at) true inner (list_set true body T) s (run_of (body_plan body sc at inner) s i).answer (run_of (body_plan body sc at inner) s i).trace → Starts (body_plan body sc at inner) s i (places_in k ps) (λ w a fs. EnteringIn body s w a (es ++ fs))
      entering_body body h =
          let q = run_of (body_plan body sc at inner) s i in
          ⊎_elim
          (λ e. subst After (sym e) empty)
          (λ e. subst (λ w. EnteringIn body s w q.answer (es ++ q.trace)) (sym e)
          (record {
            holds = both_holds at (keeps_made ks g calls b cs k sane regular turns callee ps at made) (set_of body) q.trace h.holds;
            sharp = finally_more true q.answer (FirstSharp (at_places at) (set_of body) s q.trace) (FirstSharp (at_places at) (all_in bounds ++ set_of body) s (es ++ q.trace)) (λ w. both_sharp at (keeps_made ks g calls b cs k sane regular turns callee ps at made) (set_of body) q.trace w) h.sharp;
            fixed = λ n o. made.other n o ∙ fixed_first ks g calls b cs k sane regular turns callee ps n o;
          }))
          (body_starts body sc at inner s i (places_in k ps))

  -- ---- what callers see

  module _ (enters : Enters ks g k) (body : StmtTrees) (at : Places) (s : Store) (q : Ran Flow) (later : List Event) (h : EnteringIn body s at q.answer q.trace) where
    abbrev x : Occurrence
    x = record { spot = spot k.routine.name 0; places = at; start = s; ran = q; later = later }

    abbrev here_at : Frame
    here_at = frame ks g calls b cs k sane regular turns callee ps may_name laid at

    abbrev all : List Region
    all = all_in (symbols_reads k.scope.symbols k.scope) ++ set_of body

    holds_all : FirstHolds here_at all s q.trace
    holds_all = subst (λ rs. FirstHolds here_at (all_in rs ++ set_of body) s q.trace) (sym enters.reads) h.holds

    sharp_all : Finally true q.answer (FirstSharp here_at all s q.trace)
    sharp_all = subst (λ rs. Finally true q.answer (FirstSharp here_at (all_in rs ++ set_of body) s q.trace)) (sym enters.reads) h.sharp

    normal : (f : Flow) → is_normal 0 f ≡ true → Finally true (Gave f) ⊥ → ⊥
    normal Normal n w = w
    normal (Jump l) n w = true≢false (sym n)
    normal Returned n w = w refl
    normal Stopped n w = true≢false (sym n)

    lies : (u : ℕ) → is_read_first u q.trace ≡ true → is_visible ks g x u ≡ true → LiesInSet (scene here_at.base) (elements_in here_at) AtIn (summary_of k.scope (set_of body)) (numbers_of s) u
    lies u e v =
        summary_lies (scene here_at.base) (elements_in here_at) (by_order here_at) (numbers_of s) k.scope (set_of body) u
        (λ w phi i. out ks g calls b cs k sane regular turns callee ps enters at h.fixed u (λ l. not_visible ks g k.routine.name x u refl l v) w phi (element_of here_at w phi u i))
        (visible_first here_at (spot k.routine.name 0) s q later all holds_all u e v)

    pub summary_in_holds : InSetHolds ks g k.scope (summary_of k.scope (list_set true body T)) (record { spot = spot k.routine.name 0; places = at; start = s; ran = q; later = later })
    summary_in_holds =
        in_set_holds here_at (spot k.routine.name 0) s q later true normal (summary_of k.scope (set_of body)) lies
        (finally_more true q.answer (FirstSharp here_at all s q.trace) (FirstSharp here_at (summary_of k.scope (set_of body)) s q.trace)
        (λ w. summary_sharp (scene here_at.base) (elements_in here_at) (by_order here_at) (numbers_of s) k.scope (set_of body) (first_read q.trace) w) sharp_all)
