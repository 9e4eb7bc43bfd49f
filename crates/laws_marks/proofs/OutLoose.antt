-- Lists that a GO TO enters, or a RETURN leaves early: what is needed later, handed down to their statements.
use Rattle.std.proofs.Common.{⊎_elim, ℕ, zero, suc, List, [], ◌∷◌, ◌++◌, Bool, true, false, refl, sym, ◌∙◌, subst, true≢false}
use Rattle.std.specs.Prelude.{if◌then◌else◌}
use Rattle.f77_ast.specs.Trees.{StmtTree, StmtTrees}
use Rattle.f77_ast.specs.Store.{Content, Store}
use Rattle.f77_ast.specs.Steps.{OutOfTurns}
use Rattle.f77_ast.specs.Runs.{Event, Answer, Gave, Broke}
use Rattle.f77_ast.specs.Writes.{Locks}
use Rattle.f77_ast.specs.Plans.{Flow, Normal, Jump, Returned, Stopped, Plan, Ends, Breaks}
use Rattle.f77_ast.specs.Executions.{run_of, Claim}
use Rattle.f77_ast.specs.Lists.{Part, is_label, has_label, from_label, go_on, in_order as plan_in_order, with_jumps, list_plan}
use Rattle.f77_ast.specs.Statements.{parts}
use Rattle.f77_ast.specs.declared.results.At.{At}
use Rattle.f77_ast.specs.declared.variable.Unit.{Unit as BlockUnit}
use Rattle.f77_meaning.specs.Occurrences.{Occurrence}
use Rattle.affine_forms.specs.Claims.{numbers_of}
use Rattle.preconditions.specs.transformer_algebra.Transformers.{all_cells, all_units}
use Rattle.preconditions.specs.transformer_algebra.Claims.{Kept}
use Rattle.preconditions.specs.transformer_algebra.Laws.{In}
use Rattle.preconditions.proofs.TransformerAlgebra.RuleLaws.{kept_in}
use Rattle.preconditions.specs.transformers.Jumps.{stmt_has}
use Rattle.preconditions.specs.transformers.Lists.{each_at, number_of}
use Rattle.in_out_regions.specs.region_sets.declared.region.Access.TheVariants.{In as AtIn, Out}
use Rattle.in_out_regions.specs.region_sets.declared.region.Region.{Region}
use Rattle.in_out_regions.specs.region_sets.Lists.{numbers, all_accesses, all_forgetting, set_at}
use Rattle.in_out_regions.specs.region_sets.Claims.{LiesInSet}
use Rattle.loop_marker.specs.out_regions.Used.{all_out}
use Rattle.laws_analyses.specs.Statements.Leads.{stmt_leads}
use Rattle.laws_analyses.specs.Regions.Settings.{scene}
use Rattle.laws_analyses.proofs.Regions.Traces.{trace_assoc, trace_nil}
use Rattle.laws_analyses.proofs.Regions.Rules.{Goes, OnGave, goes_ends, goes_breaks, goes_more, goes_then}
use Rattle.laws_analyses.proofs.Regions.Lists.{KeepsAt, Moved}
use Rattle.laws_marks.specs.InFrames.{Frame, elements_in}
use Rattle.laws_marks.specs.InShown.{IsFirst, IsFree}
use Rattle.laws_marks.specs.InUnits.{UnitsFit, SetFits}
use Rattle.laws_marks.proofs.InFirsts.{first_cases}
use Rattle.laws_marks.proofs.InTaking.{no_writes_none, free_none, free_both}
use Rattle.laws_marks.specs.OutRests.{IsStrict}
use Rattle.laws_marks.specs.OutShown.{NeedsLie}
use Rattle.laws_marks.proofs.OutStrictParts.{PartsStrict, strict_go_on, strict_in_order, strict_jumps, strict_from}
use Rattle.laws_marks.proofs.OutHands.{Need, IsLater, Hands, hands_ends, hands_breaks, hands_more, hands_then}
use Rattle.laws_marks.proofs.OutMoves.{out_lies, lies_left, lies_right, forgotten_lies, accesses_lie}
use Rattle.laws_marks.proofs.OutNeeds.{need_cases, needs_none, needs_right, first_seen}
use Rattle.laws_marks.proofs.OutRest.{StmtRan}
use Rattle.f77_ast.specs.Shapes.{is_return}

module _ (k : Frame) (D : Claim) (O : Occurrence → Type 0) (lost : ℕ → Bool) (I : Store → Type 0) (acc ins : List (At (List Region))) (fits : (n : ℕ) → SetFits k (set_at acc n)) (locked : Locks) (still : ℕ → Bool) (units : UnitsFit k locked) (all : StmtTrees) (whole : Bool) where
  abbrev pub cells : List ℕ
  cells = all_cells (each_at k.does all)

  abbrev pub far_units : List BlockUnit
  far_units = all_units (each_at k.does all)

  abbrev ps : List Part
  ps = parts all k.sc k.at locked

  -- what the list does not change is as it was
  abbrev pub Same : Store → Store → Type 0
  Same y z = Kept (scene k.base) cells far_units (numbers_of y) (numbers_of z)

  same_here : (y : Store) → Same y y
  same_here y = record { cells = λ c r e. refl; foreign = λ u r e. refl }

  same_then : (x y z : Store) → Same x y → Same y z → Same x z
  same_then x y z a b = record { cells = λ c r e. b.cells c r e ∙ a.cells c r e; foreign = λ u r e. b.foreign u r e ∙ a.foreign u r e }

  same_back : (y z : Store) → Same y z → Same z y
  same_back y z a = record { cells = λ c r e. sym (a.cells c r e); foreign = λ u r e. sym (a.foreign u r e) }

  -- a unit is read first in a statement of the list
  pub record HasFirst (y : Store) (u : ℕ) : Type 0 where
    pub number : ℕ
    pub is_one : In number (numbers all)
    pub store : Store
    pub same : Same y store
    pub lies : LiesInSet (scene k.base) (elements_in k) AtIn (set_at ins number) (numbers_of store) u

  first_from : (x y : Store) (u : ℕ) → Same x y → HasFirst y u → HasFirst x u
  first_from x y u s h = record { number = h.number; is_one = h.is_one; store = h.store; same = same_then x y h.store s h.same; lies = h.lies }

  -- all that a stretch reads first
  pub record LooseRan (y : Store) (es : List Event) : Type 0 where
    pub firsts : (u : ℕ) → IsFirst k.ks k.g es u → HasFirst y u
    pub free : IsFree k locked es

  pub record Going (y : Store) (es : List Event) (z : Store) : Type 0 where
    pub ran : LooseRan y es
    pub same : Same y z
    pub since : I z

  begin : (y : Store) → I y → Going y [] y
  begin y i = record { ran = record { firsts = λ u f. absurd (true≢false (sym f.is_so)); free = free_none k locked [] no_writes_none }; same = same_here y; since = i }

  -- after a statement
  abbrev pub After : Store → Answer Flow → Store → List Event → Type 0
  After y (Gave Normal) z es = Going y es z
  After y (Gave (Jump l)) z es = Going y es z
  After y (Gave Returned) z es = LooseRan y es
  After y (Gave Stopped) z es = LooseRan y es
  After y (Broke b) z es = LooseRan y es

  ran_after : (y : Store) (a : Answer Flow) (z : Store) (es : List Event) → After y a z es → LooseRan y es
  ran_after y (Gave Normal) z es h = h.ran
  ran_after y (Gave (Jump l)) z es h = h.ran
  ran_after y (Gave Returned) z es h = h
  ran_after y (Gave Stopped) z es h = h
  ran_after y (Broke b) z es h = h

  -- a statement, in whatever order
  pub stmt_after : (own : Bool) (st : StmtTree) → In (number_of st) (numbers all) → In (k.does (number_of st)) (each_at k.does all) → KeepsAt k.base D I (number_of st) → (y z : Store) (es : List Event) → Going y es z → (a : Answer Flow) (v : Store) (fs : List Event) → StmtRan k D I acc ins fits locked still st own z a v fs → After y a v (es ++ fs)
  stmt_after own st inside moves keeps y z es g a v fs p = go a p.moved
    where
      ran : LooseRan y (es ++ fs)
      ran = record {
        firsts = λ u f. ⊎_elim (λ i. g.ran.firsts u i) (λ i. record { number = number_of st; is_one = inside; store = z; same = g.same; lies = p.firsts.holds u i.1 }) (first_cases k.ks k.g u es fs f);
        free = free_both k locked es fs g.ran.free p.firsts.free;
      }

      more : Kept (scene k.base) (k.does (number_of st)).cells (k.does (number_of st)).foreign (numbers_of z) (numbers_of v) → Going y (es ++ fs) v
      more d = record { ran = ran; same = same_then y z v g.same (kept_in (scene k.base) (k.does (number_of st)) (each_at k.does all) (numbers_of z) (numbers_of v) moves d); since = keeps z v d g.since }

      go : (a : Answer Flow) → OnGave D a v (Moved k.base D I (number_of st) (λ ls. stmt_leads st ls) (stmt_has is_return st) own still z) → After y a v (es ++ fs)
      go (Gave Normal) d = more d.does.kept
      go (Gave (Jump j)) d = more d.1.kept
      go (Gave Returned) d = ran
      go (Gave Stopped) d = ran
      go (Broke b) d = ran

  -- ---- the parts of the list

  module _ (us : List Region) where
    pub record PartHands (q : Part) : Type 0 where
      pub ran : (y z : Store) (es : List Event) → Going y es z → Goes D q.does z (λ a v fs. After y a v (es ++ fs))
      pub hands : (z : Store) → I z → Hands O lost q.does z (NeedsLie k us z)
      pub strict : IsStrict lost q.does

    abbrev pub AllHands : List Part → Type 0
    AllHands [] = Unit {0}
    AllHands (q ∷ qs) = PartHands q × AllHands qs

    hands_from : (l : ℕ) (qs : List Part) → AllHands qs → AllHands (from_label l qs)
    hands_from l [] h = tt
    hands_from l (q ∷ qs) h = go (is_label l q.label) (hands_from l qs h.1)
      where
        go : (b : Bool) → AllHands (from_label l qs) → AllHands (if b then q ∷ qs else from_label l qs)
        go true ih = h
        go false ih = ih

    all_strict : (qs : List Part) → AllHands qs → PartsStrict lost qs
    all_strict [] h = tt
    all_strict (q ∷ qs) h = (h.0.strict, all_strict qs h.1)

    -- ---- what they read first

    abbrev JumpRan : (ℕ → Plan) → Type 0
    JumpRan jump = (l : ℕ) (y z : Store) (es : List Event) → Going y es z → Goes D (jump l) z (λ a v fs. LooseRan y (es ++ fs))

    -- what follows an end of a statement
    on_ran : (jump : ℕ → Plan) (rest : Plan) → JumpRan jump → ((y z : Store) (es : List Event) → Going y es z → Goes D rest z (λ a v fs. LooseRan y (es ++ fs))) → (g : Flow) (y z : Store) (es : List Event) → After y (Gave g) z es → Goes D (go_on jump ps rest g) z (λ a v fs. LooseRan y (es ++ fs))
    on_ran jump rest jumps ih Normal y z es h = ih y z es h
    on_ran jump rest jumps ih (Jump l) y z es h = go (has_label l ps)
      where
        go : (b : Bool) → Goes D (if b then jump l else Ends (Jump l)) z (λ a v fs. LooseRan y (es ++ fs))
        go true = jumps l y z es h
        go false = goes_ends D (Jump l) z (λ a v fs. LooseRan y (es ++ fs)) (subst (λ ts. LooseRan y ts) (sym (trace_nil es)) h.ran)
    on_ran jump rest jumps ih Returned y z es h = goes_ends D Returned z (λ a v fs. LooseRan y (es ++ fs)) (subst (λ ts. LooseRan y ts) (sym (trace_nil es)) h)
    on_ran jump rest jumps ih Stopped y z es h = goes_ends D Stopped z (λ a v fs. LooseRan y (es ++ fs)) (subst (λ ts. LooseRan y ts) (sym (trace_nil es)) h)

    row_ran : (jump : ℕ → Plan) → JumpRan jump → (qs : List Part) → AllHands qs → (y z : Store) (es : List Event) → Going y es z → Goes D (plan_in_order jump ps qs) z (λ a v fs. LooseRan y (es ++ fs))
    row_ran jump jumps [] h y z es g = goes_ends D Normal z (λ a v fs. LooseRan y (es ++ fs)) (subst (λ ts. LooseRan y ts) (sym (trace_nil es)) g.ran)
    row_ran jump jumps (q ∷ qs) h y z es g =
        goes_then D q.does (go_on jump ps (plan_in_order jump ps qs)) z (λ a v fs. After y a v (es ++ fs)) (λ a v fs. LooseRan y (es ++ fs)) (h.0.ran y z es g)
        (λ f v fs p. goes_more D (go_on jump ps (plan_in_order jump ps qs) f) v (λ a w gs. LooseRan y ((es ++ fs) ++ gs)) (λ a w gs. LooseRan y (es ++ (fs ++ gs))) (λ a w gs i. subst (λ ts. LooseRan y ts) (trace_assoc es fs gs) i) (on_ran jump (plan_in_order jump ps qs) jumps (λ b c ts i. row_ran jump jumps qs h.1 b c ts i) f y v (es ++ fs) p))
        (λ b v fs p. p)

    jumps_ran : AllHands ps → (n : ℕ) (qs : List Part) → AllHands qs → (y z : Store) (es : List Event) → Going y es z → Goes D (with_jumps n ps qs) z (λ a v fs. LooseRan y (es ++ fs))
    jumps_ran every zero qs h y z es g = row_ran (λ l. Breaks OutOfTurns) (λ l b c ts i. goes_breaks D OutOfTurns c (λ a v fs. LooseRan b (ts ++ fs)) (subst (λ xs. LooseRan b xs) (sym (trace_nil ts)) i.ran)) qs h y z es g
    jumps_ran every (suc n) qs h y z es g = row_ran (λ l. with_jumps n ps (from_label l ps)) (λ l b c ts i. jumps_ran every n (from_label l ps) (hands_from l ps every) b c ts i) qs h y z es g

    -- ---- handed down, from what is given where the list is reached

    module _ (out : List Region) (base : Store) (by_first : (z : Store) (u : ℕ) → Same base z → HasFirst z u → LiesInSet (scene k.base) (elements_in k) Out us (numbers_of z) u) (by_list : (z : Store) (u : ℕ) → Same base z → LiesInSet (scene k.base) (elements_in k) Out out (numbers_of base) u → LiesInSet (scene k.base) (elements_in k) Out us (numbers_of z) u) where
      abbrev N : Need
      N = NeedsLie k out base

      abbrev JumpHands : (ℕ → Plan) → Type 0
      JumpHands jump = (l : ℕ) (z : Store) → Same base z → I z → Hands O lost (jump l) z N

      on_hands : (jump : ℕ → Plan) (rest : Plan) → JumpHands jump → ((z : Store) → Same base z → I z → Hands O lost rest z N) → (x : Store) → Same base x → (g : Flow) (z : Store) (es : List Event) → After x (Gave g) z es → Hands O lost (go_on jump ps rest g) z (λ fs later. N (es ++ fs) later)
      on_hands jump rest jumps ih x st Normal z es h = hands_more O lost rest z (λ fs later. N (es ++ fs) later) N (λ fs later i. needs_right k out base es fs later i) (ih z (same_then base x z st h.same) h.since)
      on_hands jump rest jumps ih x st (Jump l) z es h = go (has_label l ps)
        where
          go : (b : Bool) → Hands O lost (if b then jump l else Ends (Jump l)) z (λ fs later. N (es ++ fs) later)
          go true = hands_more O lost (jump l) z (λ fs later. N (es ++ fs) later) N (λ fs later i. needs_right k out base es fs later i) (jumps l z (same_then base x z st h.same) h.since)
          go false = hands_ends O lost (Jump l) z (λ fs later. N (es ++ fs) later)
      on_hands jump rest jumps ih x st Returned z es h = hands_ends O lost Returned z (λ fs later. N (es ++ fs) later)
      on_hands jump rest jumps ih x st Stopped z es h = hands_ends O lost Stopped z (λ fs later. N (es ++ fs) later)

      row_any : (jump : ℕ → Plan) → ((l : ℕ) → IsStrict lost (jump l)) → JumpRan jump → JumpHands jump → (qs : List Part) → AllHands qs → (z : Store) → Same base z → I z → Hands O lost (plan_in_order jump ps qs) z N
      row_any jump js jr jh [] h z st i = hands_ends O lost Normal z N
      row_any jump js jr jh (q ∷ qs) h z st i =
          hands_then O lost q.does (go_on jump ps (plan_in_order jump ps qs)) z (λ a v es. After z a v es) N (NeedsLie k us z)
          (strict_go_on lost jump ps (plan_in_order jump ps qs) js (strict_in_order lost jump ps qs js (all_strict qs h.1))) refl
          (λ j. (h.0.ran z z [] (begin z i) j).ending) (h.0.hands z i) (λ es. needs_none k us z es) given
          (λ g v es p. on_hands jump (plan_in_order jump ps qs) jh (λ w a b. row_any jump js jr jh qs h.1 w a b) z st g v es p)
        where
          own_first : (g : Flow) (v : Store) (es : List Event) → After z (Gave g) v es → (j : List Content) → LooseRan z (run_of (go_on jump ps (plan_in_order jump ps qs) g) v j).trace
          own_first Normal v es p j = moved (row_ran jump jr qs h.1 v v [] (begin v p.since) j).ending
            where
              moved : LooseRan v (run_of (plan_in_order jump ps qs) v j).trace → LooseRan z (run_of (plan_in_order jump ps qs) v j).trace
              moved r = record { firsts = λ u f. first_from z v u p.same (r.firsts u f); free = r.free }
          own_first (Jump l) v es p j = go (has_label l ps)
            where
              go : (b : Bool) → LooseRan z (run_of (if b then jump l else Ends (Jump l)) v j).trace
              go true = moved (jr l v v [] (begin v p.since) j).ending
                where
                  moved : LooseRan v (run_of (jump l) v j).trace → LooseRan z (run_of (jump l) v j).trace
                  moved r = record { firsts = λ u f. first_from z v u p.same (r.firsts u f); free = r.free }
              go false = (begin z i).ran
          own_first Returned v es p j = (begin z i).ran
          own_first Stopped v es p j = (begin z i).ran

          given : (g : Flow) (v : Store) (es : List Event) → After z (Gave g) v es → (j : List Content) (later : List Event) → IsLater (run_of (go_on jump ps (plan_in_order jump ps qs) g) v j).answer later → N (es ++ (run_of (go_on jump ps (plan_in_order jump ps qs) g) v j).trace) later → NeedsLie k us z es ((run_of (go_on jump ps (plan_in_order jump ps qs) g) v j).trace ++ later)
          given g v es p j later il n u e nd =
              let r = own_first g v es p j in
              let fs = (run_of (go_on jump ps (plan_in_order jump ps qs) g) v j).trace in
              let free = (ran_after z (Gave g) v es p).free.unlocked u nd.written in
              ⊎_elim (λ w. by_first z u st (r.firsts u (first_seen k locked units u e free fs r.free w))) (λ w. by_list z u st (n u e w.1)) (need_cases es fs later u nd)

      pub jumps_any : AllHands ps → (n : ℕ) (qs : List Part) → AllHands qs → (z : Store) → Same base z → I z → Hands O lost (with_jumps n ps qs) z N
      jumps_any every zero qs h z st i =
          row_any (λ l. Breaks OutOfTurns) (λ l. tt) (λ l b c ts w. goes_breaks D OutOfTurns c (λ a v fs. LooseRan b (ts ++ fs)) (subst (λ xs. LooseRan b xs) (sym (trace_nil ts)) w.ran)) (λ l w a b. hands_breaks O lost OutOfTurns w N) qs h z st i
      jumps_any every (suc n) qs h z st i =
          row_any (λ l. with_jumps n ps (from_label l ps)) (λ l. strict_jumps lost n ps (from_label l ps) (all_strict ps every) (strict_from lost l ps (all_strict ps every)))
          (λ l b c ts w. jumps_ran every n (from_label l ps) (hands_from l ps every) b c ts w) (λ l w a b. jumps_any every n (from_label l ps) (hands_from l ps every) w a b) qs h z st i

    pub any_hands : (out : List Region) (s : Store) → I s → ((z : Store) (u : ℕ) → Same s z → HasFirst z u → LiesInSet (scene k.base) (elements_in k) Out us (numbers_of z) u) → ((z : Store) (u : ℕ) → Same s z → LiesInSet (scene k.base) (elements_in k) Out out (numbers_of s) u → LiesInSet (scene k.base) (elements_in k) Out us (numbers_of z) u) → AllHands ps → Hands O lost (list_plan k.sc.turns ps) s (NeedsLie k out s)
    any_hands out s i f l every = jumps_any out s f l every k.sc.turns ps every s (same_here s) i

  -- ---- what may be read behind a statement

  -- for any numbers of the cells that the list changes
  pub around_first : (out : List Region) (z : Store) (u : ℕ) → HasFirst z u → LiesInSet (scene k.base) (elements_in k) Out (all_out (all_forgetting cells (all_accesses (set_at ins) (numbers all))) ++ all_out (all_forgetting cells out)) (numbers_of z) u
  around_first out z u h =
      lies_left (scene k.base) (elements_in k) (all_out (all_forgetting cells (all_accesses (set_at ins) (numbers all)))) (all_out (all_forgetting cells out)) Out (numbers_of z) u
      (out_lies (scene k.base) (elements_in k) (all_forgetting cells (all_accesses (set_at ins) (numbers all))) AtIn (numbers_of z) u
      (forgotten_lies (scene k.base) (elements_in k) cells far_units (all_accesses (set_at ins) (numbers all)) AtIn (numbers_of z) (numbers_of h.store) u h.same
      (accesses_lie (scene k.base) (elements_in k) (set_at ins) (numbers all) h.number AtIn (numbers_of h.store) u h.is_one h.lies)))

  pub around_list : (out : List Region) (s z : Store) (u : ℕ) → Same s z → LiesInSet (scene k.base) (elements_in k) Out out (numbers_of s) u → LiesInSet (scene k.base) (elements_in k) Out (all_out (all_forgetting cells (all_accesses (set_at ins) (numbers all))) ++ all_out (all_forgetting cells out)) (numbers_of z) u
  around_list out s z u st l =
      lies_right (scene k.base) (elements_in k) (all_out (all_forgetting cells (all_accesses (set_at ins) (numbers all)))) (all_out (all_forgetting cells out)) Out (numbers_of z) u
      (out_lies (scene k.base) (elements_in k) (all_forgetting cells out) Out (numbers_of z) u (forgotten_lies (scene k.base) (elements_in k) cells far_units out Out (numbers_of z) (numbers_of s) u (same_back s z st) l))
