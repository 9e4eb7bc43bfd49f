-- The iterations of a DO: what is needed later, handed down to its body.
use Rattle.std.proofs.Common.{◌≡◌, ⊎_elim, ℕ, zero, suc, ◌<◌, ◌≤◌, List, [], ◌∷◌, ◌++◌, ◌&&◌, Option, Some, None, Bool, true, false, refl, sym, ◌∙◌, subst, arith, ℤ, pos, ◌+ℤ◌, nat_eq, true≢false}
use Rattle.std.specs.Prelude.{not}
use Rattle.std.specs.Ordering.{int_eq}
use Rattle.std.proofs.lemmas.Bool.{or_left, and_parts}
use Rattle.f77_ast.specs.Store.{Content, content, Int, Store, put}
use Rattle.f77_ast.specs.Faults.{Arithmetic, Locked}
use Rattle.f77_ast.specs.Steps.{Faulty}
use Rattle.f77_ast.specs.Numbers.{kept}
use Rattle.f77_ast.specs.Runs.{Event, Wrote, Answer, Gave, Broke}
use Rattle.f77_ast.specs.Values.{given}
use Rattle.f77_ast.specs.Places.{Variable}
use Rattle.f77_ast.specs.Writes.{Locks, lock}
use Rattle.f77_ast.specs.Plans.{Flow, Normal, Jump, Returned, Stopped, Plan, Set as SetPlan, first, on_normal}
use Rattle.f77_ast.specs.Executions.{run_of, Claim}
use Rattle.f77_ast.specs.Loops.{iteration_count, iterations_from}
use Rattle.f77_meaning.specs.Accesses.{is_read_first}
use Rattle.f77_meaning.specs.Occurrences.{Occurrence}
use Rattle.affine_forms.specs.Conditions.{no_rows}
use Rattle.affine_forms.specs.Claims.{unit_in, numbers_of}
use Rattle.preconditions.specs.transformer_algebra.declared.transformer.Transformer.{Transformer}
use Rattle.preconditions.specs.transformer_algebra.declared.loop_parts.LoopParts.{LoopParts}
use Rattle.preconditions.specs.transformer_algebra.Loops.{next, iteration}
use Rattle.preconditions.specs.transformer_algebra.Claims.{Scene, Does, Kept, Chain, none_yet, then_iteration, Tracks, Means}
use Rattle.preconditions.proofs.TransformerAlgebra.TurnLaws.{kept_chain}
use Rattle.preconditions.proofs.TransformerAlgebra.RuleLaws.{does_then}
use Rattle.in_out_regions.specs.region_sets.declared.range.Range.{Range}
use Rattle.in_out_regions.specs.region_sets.declared.region.Access.TheVariants.{In as AtIn, Out}
use Rattle.in_out_regions.specs.region_sets.declared.region.Region.{Region}
use Rattle.in_out_regions.specs.region_sets.Lists.{all_forgetting}
use Rattle.in_out_regions.specs.region_sets.Claims.{LiesInSet, Iteration, Begins}
use Rattle.in_out_regions.specs.array_regions.Loops.{range_with}
use Rattle.loop_marker.specs.out_regions.Used.{all_out}
use Rattle.loop_marker.specs.out_regions.Later.{all_later}
use Rattle.laws_analyses.specs.Statements.Good.{Ending}
use Rattle.laws_analyses.specs.Statements.Activation.{Fit, Still, Ended}
use Rattle.laws_analyses.proofs.Statements.Basics.{put_here}
use Rattle.laws_analyses.proofs.Statements.Loops.{also}
use Rattle.laws_analyses.proofs.Statements.Counts.{NotZero, count_more}
use Rattle.laws_analyses.proofs.Statements.Ranges.{StepIs}
use Rattle.laws_analyses.specs.Regions.Settings.{scene, Sound}
use Rattle.laws_analyses.proofs.Regions.Rules.{Goes, OnGave, goes_more, goes_with}
use Rattle.laws_analyses.proofs.Regions.Places.{first_place, next_place, next_after, first_after}
use Rattle.laws_analyses.proofs.Regions.Turns.{Turn_ends, turns_go}
use Rattle.laws_analyses.proofs.Regions.Loops as base
use Rattle.laws_marks.specs.InFrames.{Frame, elements_in}
use Rattle.laws_marks.specs.InShown.{IsFirst, IsFree, FirstShown}
use Rattle.laws_marks.specs.InUnits.{UnitsFit}
use Rattle.laws_marks.proofs.InFirsts.{first_cases}
use Rattle.laws_marks.proofs.Indices.{unchanged}
use Rattle.laws_marks.proofs.InLoops.{lock_free}
use Rattle.laws_marks.proofs.InTaking.{no_writes_none, free_none, free_both, free_write}
use Rattle.laws_marks.specs.OutRests.{IsStrict}
use Rattle.laws_marks.specs.OutShown.{IsNeeded, NeedsLie}
use Rattle.laws_marks.proofs.OutStrictParts.{strict_first, strict_given, strict_on_normal, strict_iterations}
use Rattle.laws_marks.proofs.OutHands.{Need, IsLater, Hands, hands_ends, hands_breaks, hands_set, hands_more, hands_then}
use Rattle.laws_marks.proofs.OutMoves.{out_lies, lies_left, lies_right, forgotten_lies}
use Rattle.laws_marks.proofs.OutLater.{later_lies}
use Rattle.laws_marks.proofs.OutNeeds.{nothing_later, need_cases, needs_none, needs_right, first_seen}
use Rattle.fx_lists.proofs.Numbers.{nat_eq_same}
use Rattle.f77_ast.proofs.KeptNumbers.{kept_is}

module _ (k : Frame) (sound : Sound k.base) (D : Claim) (O : Occurrence → Type 0) (lost : ℕ → Bool) (locked : Locks) (still : ℕ → Bool) (fit : Fit k.sc.names k.scalar k.at (scene k.base) locked still) (units : UnitsFit k locked) (index : List ℕ) (lp : LoopParts) (named : k.sc.names index ≡ Variable lp.index) (bare : k.scalar index ≡ true) (known : (scene k.base).tracked lp.index ≡ lp.tracked) (trs : Tracks (scene k.base) lp.body.cells) (ws is : List Region) (body : Plan) (goes : List ℕ → Bool) (ret : Bool) (x : Store) (a b c : ℤ) (I : Store → Type 0) (free : locked (unit_in k.at lp.index) ≡ None) where
  abbrev e : Scene
  e = scene k.base

  abbrev unit : ℕ
  unit = unit_in k.at lp.index

  abbrev g : Range
  g = range_with lp

  abbrev t : Transformer
  t = iteration lp

  abbrev x1 : Store
  x1 = put x unit (content Int a)

  abbrev inner : Locks
  inner = lock locked unit Locked

  abbrev still' : ℕ → Bool
  still' = also still unit

  module _ (mf : Means e lp.first (numbers_of x) a) (ml : Means e lp.last (numbers_of x) b) (step : StepIs lp.step c) (nz : int_eq c (pos 0) ≡ false) (keeps : (y z : Store) → Kept e (iteration lp).cells (iteration lp).foreign (numbers_of y) (numbers_of z) → I y → I z) (since : I x) where
    begins : Begins e g (numbers_of x) a b
    begins = base.begins k.base sound D locked still fit index lp named bare known trs ws body goes ret x a b c I free mf ml step nz keeps since

    constant : (s : ℤ) → lp.step ≡ Some s → (c ≡ s) × NotZero s
    constant s q = base.constant k.base sound D locked still fit index lp named bare known trs ws body goes ret x a b c I free mf ml step nz keeps since s q

    abbrev Count : ℤ → ℕ → ℕ → ℤ → Type 0
    Count s d j m = base.Count k.base sound D locked still fit index lp named bare known trs ws body goes ret x a b c I free mf ml step nz keeps since s d j m

    -- an iteration begins, with j to go, this one among them, and after d others
    pub record Turning (d j : ℕ) (m : ℤ) (y : Store) : Type 0 where
      pub number : numbers_of y unit ≡ m
      pub chain : Chain e t (numbers_of x1) (numbers_of y)
      pub since_then : I y
      pub count : (s : ℤ) → lp.step ≡ Some s → Count s d j m

    this_turn : (d j : ℕ) (m : ℤ) (y : Store) → Turning d (suc j) m y → Iteration e g (numbers_of x) a b m d (numbers_of y)
    this_turn d j m y i = record {
      begin = numbers_of x1;
      wrote = base.wrote k.base sound D locked still fit index lp named bare known trs ws body goes ret x a b c I free a x;
      chain = i.chain;
      number = i.number;
      range = λ s q. (let h = i.count s q in record { after_first = h.after_first; before_last = (count_more m b s j (constant s q).1 h.left).in_range; place = h.place });
    }

    -- the body, at an end
    pub record Body (y : Store) (f : Answer Flow) (z : Store) (fs : List Event) : Type 0 where
      pub firsts : FirstShown k false inner is y f fs
      pub moved : OnGave D f z (λ h v. Ended e lp.body no_rows goes ret false still' y h v)

    -- the next one
    next_turn : (d j : ℕ) (m : ℤ) (y z : Store) → Turning d (suc j) m y → Does e lp.body (numbers_of y) (numbers_of z) → Still still' y z → Turning (suc d) j (m +ℤ c) (put z unit (content Int (m +ℤ c)))
    next_turn d j m y z i h st =
        let n : numbers_of z unit ≡ m = st unit (or_left (nat_eq unit unit) (still unit) (nat_eq_same unit)) ∙ i.number in
        record {
          number = put_here z unit (content Int (m +ℤ c));
          chain = then_iteration i.chain (does_then e lp.body (next lp) (numbers_of y) (numbers_of z) (numbers_of (put z unit (content Int (m +ℤ c)))) h (base.does_next k.base sound D locked still fit index lp named bare known trs ws body goes ret x a b c I free m z n step));
          since_then = base.counts k.base sound D locked still fit index lp named bare known trs ws body goes ret x a b c I free mf ml step nz keeps since (m +ℤ c) z (base.runs k.base sound D locked still fit index lp named bare known trs ws body goes ret x a b c I free mf ml step nz keeps since y z h.kept i.since_then);
          count = λ s q. (let h = i.count s q in let z1 = constant s q in let cm = count_more m b s j z1.1 h.left in
              subst (λ v. Count s (suc d) j (m +ℤ v)) (sym z1.0) (record { place = next_place a s m d h.place; after_first = next_after a s m z1.1 h.after_first; left = cm.rest }));
        }

    next_kept : (d j : ℕ) (m n : ℤ) (y z : Store) → kept (m +ℤ c) ≡ Some n → Turning d (suc j) m y → Does e lp.body (numbers_of y) (numbers_of z) → Still still' y z → Turning (suc d) j n (put z unit (content Int n))
    next_kept d j m n y z q i h st = subst (λ v. Turning (suc d) j v (put z unit (content Int v))) (kept_is (m +ℤ c) n q) (next_turn d j m y z i h st)

    pub first_turn : (j : ℕ) → ((s : ℤ) → lp.step ≡ Some s → iteration_count a b s ≡ j) → Turning 0 j a x1
    first_turn j q = record {
      number = put_here x unit (content Int a);
      chain = none_yet;
      since_then = base.counts k.base sound D locked still fit index lp named bare known trs ws body goes ret x a b c I free mf ml step nz keeps since a x since;
      count = λ s h. record { place = first_place a s; after_first = first_after a s; left = q s h };
    }

    -- ---- what iterations read first

    -- in an iteration after d others, or a later one
    pub record LaterFirst (d : ℕ) (u : ℕ) : Type 0 where
      pub place : ℕ
      pub later : d ≤ place
      pub number : ℤ
      pub store : Store
      pub turn : Iteration e g (numbers_of x) a b number place (numbers_of store)
      pub lies : LiesInSet e (elements_in k) AtIn is (numbers_of store) u

    pub record TurnsRan (d : ℕ) (es : List Event) : Type 0 where
      pub firsts : (u : ℕ) → IsFirst k.ks k.g es u → LaterFirst d u
      pub free_so : IsFree k locked es

    none_ran : (d : ℕ) → TurnsRan d []
    none_ran d = record { firsts = λ u f. absurd (true≢false (sym f.is_so)); free_so = free_none k locked [] no_writes_none }

    -- from the d-th on
    record From (d : ℕ) (j : ℕ) (m : ℤ) (es : List Event) (y : Store) : Type 0 where
      so_far : ℕ
      later : d ≤ so_far
      turn : Turning so_far j m y
      ran : TurnsRan d es

    turn_ran : (d j : ℕ) (m : ℤ) (es : List Event) (y : Store) → (i : From d (suc j) m es y) → (f : Answer Flow) (z : Store) (fs : List Event) → Body y f z fs → TurnsRan d (es ++ fs)
    turn_ran d j m es y i f z fs p = record {
      firsts = λ u h. ⊎_elim (λ w. i.ran.firsts u w) (λ w. record { place = i.so_far; later = i.later; number = m; store = y; turn = this_turn i.so_far j m y i.turn; lies = p.firsts.holds u w.1 }) (first_cases k.ks k.g u es fs h);
      free_so = free_both k locked es fs i.ran.free_so (lock_free k locked unit Locked fs p.firsts.free);
    }

    index_ran : (d : ℕ) (n : ℤ) (es : List Event) → TurnsRan d es → TurnsRan d (es ++ Wrote unit (content Int n) ∷ [])
    index_ran d n es r = record {
      firsts = λ u h. ⊎_elim (λ w. r.firsts u w) (λ w. absurd (nothing u w.1.is_so)) (first_cases k.ks k.g u es (Wrote unit (content Int n) ∷ []) h);
      free_so = free_both k locked es (Wrote unit (content Int n) ∷ []) r.free_so (free_write k locked unit (content Int n) free);
    }
      where
        off : (o : Bool) → (not o && false) ≡ true → ⊥
        off true h = true≢false (sym h)
        off false h = true≢false (sym h)

        nothing : (u : ℕ) → is_read_first u (Wrote unit (content Int n) ∷ []) ≡ true → ⊥
        nothing u h = off (nat_eq unit u) h

    turn_ends : (d j : ℕ) (m : ℤ) (es : List Event) (y : Store) → From d (suc j) m es y → (f : Answer Flow) (z : Store) (fs : List Event) → Body y f z fs → Turn_ends D c unit body (From d) (λ f z es. TurnsRan d es) j m f z (es ++ fs)
    turn_ends d j m es y i f z fs h = go f h
      where
        go : (f : Answer Flow) → Body y f z fs → Turn_ends D c unit body (From d) (λ f z es. TurnsRan d es) j m f z (es ++ fs)
        go (Gave Normal) p = (
          turn_ran d j m es y i (Gave Normal) z fs p,
          λ n q. record { so_far = suc i.so_far; later = more i.later; turn = next_kept i.so_far j m n y z q i.turn p.moved.does p.moved.steady; ran = index_ran d n (es ++ fs) (turn_ran d j m es y i (Gave Normal) z fs p) },
        )
          where
            more : {s : ℕ} → d ≤ s → d ≤ suc s
            more l = omega (arith, l)
        go (Gave (Jump l)) p = turn_ran d j m es y i (Gave (Jump l)) z fs p
        go (Gave Returned) p = turn_ran d j m es y i (Gave Returned) z fs p
        go (Gave Stopped) p = turn_ran d j m es y i (Gave Stopped) z fs p
        go (Broke w) p = turn_ran d j m es y i (Broke w) z fs p

    module _ (bodies : (y : Store) → I y → Goes D body y (λ f z fs. FirstShown k false inner is y f fs)) (moves : (y : Store) → Ending body y (λ f z. Ended e lp.body no_rows goes ret false still' y f z)) where
      bodies_go : (y : Store) → I y → Goes D body y (λ f z fs. Body y f z fs)
      bodies_go y i = goes_more D body y (λ f z fs. FirstShown k false inner is y f fs × OnGave D f z (λ h v. Ended e lp.body no_rows goes ret false still' y h v)) (λ f z fs. Body y f z fs) (λ f z fs p. record { firsts = p.0; moved = p.1 }) (goes_with D body y (λ f z fs. FirstShown k false inner is y f fs) (λ f v. Ended e lp.body no_rows goes ret false still' y f v) (bodies y i) (moves y))

      turns_ran : (d j : ℕ) (m : ℤ) (y : Store) → Turning d j m y → Goes D (iterations_from j m c unit body) y (λ f z fs. TurnsRan d fs)
      turns_ran d j m y i =
          turns_go D c unit body (From d) (λ f z es. TurnsRan d es)
          (λ l n z es h. goes_more D body z (λ f v fs. Body z f v fs) (λ f v fs. Turn_ends D c unit body (From d) (λ f z es. TurnsRan d es) l n f v (es ++ fs)) (λ f v fs p. turn_ends d l n es z h f v fs p) (bodies_go z h.turn.since_then))
          (λ n z es h. h.ran) j m y [] (record { so_far = d; later = omega arith; turn = i; ran = none_ran d })

      -- ---- handed down

      module _ (out : List Region) (body_strict : IsStrict lost body) where
        -- what may be read behind an iteration
        abbrev pub Behind : List Region
        Behind = all_out (all_forgetting g.turn.cells out) ++ all_out (all_later lp.tracked g is)

        abbrev N : Need
        N = NeedsLie k out x

        by_list : (d : ℕ) (m : ℤ) (y : Store) → Iteration e g (numbers_of x) a b m d (numbers_of y) → (u : ℕ) → LiesInSet e (elements_in k) Out out (numbers_of x) u → LiesInSet e (elements_in k) Out Behind (numbers_of y) u
        by_list d m y it u l =
            lies_left e (elements_in k) (all_out (all_forgetting g.turn.cells out)) (all_out (all_later lp.tracked g is)) Out (numbers_of y) u
            (out_lies e (elements_in k) (all_forgetting g.turn.cells out) Out (numbers_of y) u (forgotten_lies e (elements_in k) g.turn.cells g.turn.foreign out Out (numbers_of y) (numbers_of x) u since_begin l))
          where
            since_begin : Kept e g.turn.cells g.turn.foreign (numbers_of y) (numbers_of x)
            since_begin = record {
              cells = λ v q r. sym (unchanged e g (numbers_of x) a b begins m d (numbers_of y) it v q r);
              foreign = λ v q r. sym ((kept_chain e g.turn it.begin (numbers_of y) it.chain).foreign v q r ∙ it.wrote.foreign v q);
            }

        by_later : (d : ℕ) (m : ℤ) (y : Store) → Iteration e g (numbers_of x) a b m d (numbers_of y) → (u : ℕ) → LaterFirst (suc d) u → LiesInSet e (elements_in k) Out Behind (numbers_of y) u
        by_later d m y it u l =
            lies_right e (elements_in k) (all_out (all_forgetting g.turn.cells out)) (all_out (all_later lp.tracked g is)) Out (numbers_of y) u
            (out_lies e (elements_in k) (all_later lp.tracked g is) AtIn (numbers_of y) u
            (later_lies e g (numbers_of x) a b begins lp.tracked known m l.number d l.place (numbers_of y) (numbers_of l.store) it l.turn (below l.later) (elements_in k) is AtIn u l.lies))
          where
            below : {p : ℕ} → suc d ≤ p → d < p
            below h = omega (arith, h)

        abbrev On : ℕ → ℤ → Flow → Plan
        On j m f = on_normal f (first (given Int (kept (m +ℤ c))) (λ n. SetPlan unit n (iterations_from j n.number c unit body)))

        on_strict : (j : ℕ) (m : ℤ) (f : Flow) → IsStrict lost (On j m f)
        on_strict j m f =
            strict_on_normal lost f (first (given Int (kept (m +ℤ c))) (λ n. SetPlan unit n (iterations_from j n.number c unit body)))
            (strict_first lost (given Int (kept (m +ℤ c))) (λ n. SetPlan unit n (iterations_from j n.number c unit body)) (strict_given lost Int (kept (m +ℤ c))) (λ n. strict_iterations lost j n.number c unit body body_strict))

        -- where the iteration has ended, what is needed of it lies in what may be read behind it
        turn_given : (d j : ℕ) (m : ℤ) (y : Store) → Turning d (suc j) m y → (f : Flow) (z : Store) (es : List Event) → Body y (Gave f) z es → (i : List Content) (later : List Event) → IsLater (run_of (On j m f) z i).answer later → N (es ++ (run_of (On j m f) z i).trace) later → NeedsLie k Behind y es ((run_of (On j m f) z i).trace ++ later)
        turn_given d j m y t f z es p i later il h = go f p il h
          where
            it : Iteration e g (numbers_of x) a b m d (numbers_of y)
            it = this_turn d j m y t

            at_end : (es later : List Event) → N (es ++ []) later → NeedsLie k Behind y es later
            at_end es later h u q nd = by_list d m y it u (h u q (⊎_elim (λ w. absurd (true≢false (sym w))) (λ w. w.1) (need_cases es [] later u nd)))

            after : (n : ℤ) → kept (m +ℤ c) ≡ Some n → Body y (Gave Normal) z es → N (es ++ Wrote unit (content Int n) ∷ (run_of (iterations_from j n c unit body) (put z unit (content Int n)) i).trace) later → NeedsLie k Behind y es ((Wrote unit (content Int n) ∷ (run_of (iterations_from j n c unit body) (put z unit (content Int n)) i).trace) ++ later)
            after n q p h u w nd =
                let r = (turns_ran (suc d) j n (put z unit (content Int n)) (next_kept d j m n y z q t p.moved.does p.moved.steady) i).ending in
                let fs = (run_of (iterations_from j n c unit body) (put z unit (content Int n)) i).trace in
                let ok = (lock_free k locked unit Locked es p.firsts.free).unlocked u nd.written in
                ⊎_elim (λ v. by_later d m y it u (r.firsts u (first_seen k locked units u w ok fs r.free_so (and_parts (not (nat_eq unit u)) (is_read_first u fs) v).1))) (λ v. by_list d m y it u (h u w v.1)) (need_cases es (Wrote unit (content Int n) ∷ fs) later u nd)

            go : (f : Flow) → Body y (Gave f) z es → IsLater (run_of (On j m f) z i).answer later → N (es ++ (run_of (On j m f) z i).trace) later → NeedsLie k Behind y es ((run_of (On j m f) z i).trace ++ later)
            go Normal p il h = by_kept (kept (m +ℤ c)) refl il h
              where
                by_kept : (o : Option ℤ) → kept (m +ℤ c) ≡ o → IsLater (run_of (first (given Int o) (λ n. SetPlan unit n (iterations_from j n.number c unit body))) z i).answer later → N (es ++ (run_of (first (given Int o) (λ n. SetPlan unit n (iterations_from j n.number c unit body))) z i).trace) later → NeedsLie k Behind y es ((run_of (first (given Int o) (λ n. SetPlan unit n (iterations_from j n.number c unit body))) z i).trace ++ later)
                by_kept None q il h = λ u w nd. absurd (nothing_later es u (subst (λ fs. IsNeeded es fs u) il nd))
                by_kept (Some n) q il h = after n q p h
            go (Jump l) p il h = at_end es later h
            go Returned p il h = at_end es later h
            go Stopped p il h = at_end es later h

        pub turns_hand : ((y : Store) → I y → Hands O lost body y (NeedsLie k Behind y)) → (d j : ℕ) (m : ℤ) (y : Store) → Turning d j m y → Hands O lost (iterations_from j m c unit body) y N
        turns_hand inside d zero m y t = hands_ends O lost Normal y N
        turns_hand inside d (suc j) m y t =
            hands_then O lost body (On j m) y (λ f z es. Body y f z es) N (NeedsLie k Behind y) (on_strict j m) refl (λ i. (bodies_go y t.since_then i).ending) (inside y t.since_then) (λ es. needs_none k Behind y es)
            (λ f z es p i later il h. turn_given d j m y t f z es p i later il h)
            (λ f z es p. next f z es p (λ n q p'. turns_hand inside (suc d) j n (put z unit (content Int n)) (next_kept d j m n y z q t p'.moved.does p'.moved.steady)))
          where
            next : (f : Flow) (z : Store) (es : List Event) → Body y (Gave f) z es → ((n : ℤ) → kept (m +ℤ c) ≡ Some n → Body y (Gave Normal) z es → Hands O lost (iterations_from j n c unit body) (put z unit (content Int n)) N) → Hands O lost (On j m f) z (λ fs later. N (es ++ fs) later)
            next Normal z es p ih = by_kept (kept (m +ℤ c)) refl
              where
                by_kept : (o : Option ℤ) → kept (m +ℤ c) ≡ o → Hands O lost (first (given Int o) (λ n. SetPlan unit n (iterations_from j n.number c unit body))) z (λ fs later. N (es ++ fs) later)
                by_kept None q = hands_breaks O lost (Faulty Arithmetic) z (λ fs later. N (es ++ fs) later)
                by_kept (Some n) q =
                    hands_set O lost unit (content Int n) (iterations_from j n c unit body) z (λ fs later. N (es ++ fs) later)
                    (hands_more O lost (iterations_from j n c unit body) (put z unit (content Int n)) (λ fs later. N (es ++ Wrote unit (content Int n) ∷ fs) later) N
                    (λ fs later h. needs_right k out x (Wrote unit (content Int n) ∷ []) fs later (needs_right k out x es (Wrote unit (content Int n) ∷ fs) later h)) (ih n q p))
            next (Jump l) z es p ih = hands_ends O lost (Jump l) z (λ fs later. N (es ++ fs) later)
            next Returned z es p ih = hands_ends O lost Returned z (λ fs later. N (es ++ fs) later)
            next Stopped z es p ih = hands_ends O lost Stopped z (λ fs later. N (es ++ fs) later)
