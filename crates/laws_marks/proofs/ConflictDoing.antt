-- A DO: the executions in it, and what is known where an iteration begins.
use Rattle.std.proofs.Common.{◌≡◌, ℕ, zero, suc, ◌+◌, ◌<◌, List, [], ◌++◌, Option, Some, None, Bool, true, false, refl, sym, ap, ◌∙◌, subst, arith, ℤ, pos, ◌+ℤ◌, ◌*ℤ◌, nat_eq}
use Rattle.std.specs.Prelude.{unwrap_or}
use Rattle.std.proofs.lemmas.Bool.{or_left}
use Rattle.affine_systems.specs.declared.row.System.{System}
use Rattle.f77_ast.specs.Trees.{ExprTree, LoopTree, StmtTrees}
use Rattle.f77_ast.specs.Trees as tree
use Rattle.f77_ast.specs.Store.{Content, content, Int, Store, put}
use Rattle.f77_ast.specs.Faults.{Fault, Arithmetic, Locked}
use Rattle.f77_ast.specs.Steps.{Faulty}
use Rattle.f77_ast.specs.Numbers.{kept}
use Rattle.f77_ast.specs.Runs.{Event, Ran, Answer, Gave, Broke}
use Rattle.f77_ast.specs.Places.{Meant, Constant, Variable, Function}
use Rattle.f77_ast.specs.Values.{given, name_target}
use Rattle.f77_ast.specs.Writes.{Locks, lock, written, write}
use Rattle.f77_ast.specs.Plans.{Flow, Normal, Jump, Returned, Stopped, Plan, Set as SetPlan, first, on_normal, ◌▹◌}
use Rattle.f77_ast.specs.Executions.{run_of, AtEndOf, Claim}
use Rattle.f77_ast.specs.Lists.{with_jumps, list_plan}
use Rattle.f77_ast.specs.Loops.{Range, range_of, iteration_count, iterations_from}
use Rattle.f77_ast.specs.Statements.{spot, execution, do_plan, parts}
use Rattle.f77_ast.specs.declared.results.At.{At}
use Rattle.f77_meaning.specs.Occurrences.{places_in}
use Rattle.affine_forms.specs.Conditions.{no_rows}
use Rattle.affine_forms.specs.Claims.{unit_in, numbers_of}
use Rattle.preconditions.specs.transformer_algebra.declared.loop_parts.LoopParts.{LoopParts}
use Rattle.preconditions.specs.transformer_algebra.Loops.{next, iteration, goes_up}
use Rattle.preconditions.specs.transformer_algebra.Claims.{Scene, HoldsAt, Kept, Chain, none_yet, then_iteration, Tracks, NotBeyond}
use Rattle.preconditions.proofs.TransformerAlgebra.RuleLaws.{does_then}
use Rattle.preconditions.specs.transformers.Jumps.{list_has}
use Rattle.preconditions.specs.transformers.Lists.{list_at}
use Rattle.preconditions.specs.transformers.Loops.{loop_parts}
use Rattle.preconditions.specs.transformers.Statement.{body_transformer}
use Rattle.in_out_regions.specs.region_sets.declared.range.Range.{Range as Bounds}
use Rattle.in_out_regions.specs.region_sets.declared.region.Region.{Region}
use Rattle.in_out_regions.specs.region_sets.Claims.{Iteration as Numbered}
use Rattle.in_out_regions.specs.array_regions.Reads.{reads, maybe_reads}
use Rattle.in_out_regions.specs.array_regions.Loops.{range_with}
use Rattle.in_out_regions.specs.array_regions.Calls.{Called}
use Rattle.loop_marker.specs.dependence_test.Body.{system_at, head_of}
use Rattle.laws_analyses.specs.Statements.Good.{AtEach, Ending}
use Rattle.laws_analyses.specs.Statements.Leads.{list_leads}
use Rattle.laws_analyses.specs.Statements.Activation.{Fit, Ended}
use Rattle.laws_analyses.proofs.Statements.Basics.{put_here}
use Rattle.laws_analyses.proofs.Statements.Counts.{NotZero, count_more}
use Rattle.laws_analyses.proofs.Statements.Ends.{more}
use Rattle.laws_analyses.proofs.Statements.Loops.{also}
use Rattle.laws_analyses.proofs.Statements.Ranges.{StepIs}
use Rattle.laws_analyses.proofs.Statements.Tracks.{body_tracks}
use Rattle.laws_analyses.specs.Regions.Settings.{scene, Sound, is_plain, maybe_plain}
use Rattle.laws_analyses.specs.Regions.Shown.{Holds, Shown}
use Rattle.laws_analyses.proofs.Regions.Expressions.{Seen}
use Rattle.laws_analyses.proofs.Regions.Looks.{IfGave}
use Rattle.laws_analyses.proofs.Regions.Loops as loops
use Rattle.laws_analyses.proofs.Regions.Places.{first_place, next_place, next_after, first_after}
use Rattle.laws_analyses.proofs.Regions.Rules.{Post, Goes, OnGave, goes_with}
use Rattle.laws_analyses.proofs.Regions.Statements.{RangeIs, range_looks}
use Rattle.laws_marks.specs.InFrames.{Frame}
use Rattle.laws_marks.specs.InShown.{FirstHolds, IsFree, FirstShown}
use Rattle.laws_marks.proofs.InStanding.{StandsList, in_at, in_next}
use Rattle.laws_marks.specs.ConflictExecutions.{Execution, AtEachExecution}
use Rattle.laws_marks.specs.ConflictIterations.{Iteration, iterations_since, iterations}
use Rattle.laws_marks.specs.ConflictClaims.{LeavesBy}
use Rattle.laws_marks.proofs.ConflictCuts.{AllAt, NoSets, cut_then, cut_first}
use Rattle.laws_marks.proofs.ConflictEach.{plan_looked}
use Rattle.laws_marks.proofs.ConflictLists.{Again, iterations_reached, AllNoSets, jumps_no_sets}
use Rattle.fx_lists.proofs.Numbers.{nat_eq_same}
use Rattle.f77_ast.specs.Shapes.{is_return}
use Rattle.f77_ast.proofs.KeptNumbers.{kept_is}

module _ (k : Frame) (sound : Sound k.base) (C0 D0 : Claim) (Fits : Locks → (ℕ → Bool) → Type 0) (base : (locked : Locks) (still : ℕ → Bool) → Fits locked still → Fit k.sc.names k.scalar k.at (scene k.base) locked still) (more_fits : (locked : Locks) (still : ℕ → Bool) (x : List ℕ) (v : ℕ) → k.sc.names x ≡ Variable v → k.scalar x ≡ true → Fits locked still → Fits (lock locked (k.at v).first Locked) (also still (k.at v).first)) (I : Store → Type 0) (acc : List (At (List Region))) (called : Called) where
  solid : (locked : Locks) (still : ℕ → Bool) → Fits locked still → (x : List ℕ) (v : ℕ) → k.sc.names x ≡ Variable v → k.scalar x ≡ true → 0 < (k.at v).extent
  solid locked still fit = (base locked still fit).solid

  -- ---- a body

  -- its statements write in their executions alone
  pub body_no_sets : (ss : StmtTrees) (l : Locks) → NoSets (list_plan k.sc.turns (parts ss k.sc k.at l))
  body_no_sets ss l = jumps_no_sets k.sc.turns (parts ss k.sc k.at l) (each ss) (parts ss k.sc k.at l) (each ss)
    where
      each : (ss : StmtTrees) → AllNoSets (parts ss k.sc k.at l)
      each tree.no_stmts = tt
      each (tree.more_stmts (tree.stmt n label w) rest) = (λ f. tt, each rest)

  -- D: what is claimed of executions; holding: what holds where statements begin, by their numbers
  module _ (D : Claim) (holding : List (At System)) (knows : (n : ℕ) (s : Store) (q : Ran Flow) → D (spot k.sc.module_name (suc n)) k.at s q → HoldsAt (scene k.base) (system_at holding (suc n)) (numbers_of s)) where
    at_first : (n : ℕ) → 0 < n → (t : Plan) (s : Store) (i : List Content) → D (spot k.sc.module_name n) (places_in n t s i k.at) s (run_of t s i) → HoldsAt (scene k.base) (system_at holding n) (numbers_of s)
    at_first zero l t s i d = absurd (omega (arith, l))
    at_first (suc n) l t s i d = knows n s (run_of t s i) d

    pub head_holds : (ss : StmtTrees) (l : Locks) (f : Flow → Plan) (s : Store) (i : List Content) → StandsList C0 D0 k Fits I acc called ss false → AtEach D (list_plan k.sc.turns (parts ss k.sc k.at l) ▹ f) s i → HoldsAt (scene k.base) (head_of holding ss) (numbers_of s)
    head_holds tree.no_stmts l f s i st h = λ p w. tt
    head_holds (tree.more_stmts (tree.stmt n label w) rest) l f s i st h = go k.sc.turns h
      where
        ss : StmtTrees
        ss = tree.more_stmts (tree.stmt n label w) rest

        numbered : 0 < n
        numbered = (in_at C0 D0 k Fits I acc called n label w (false) (in_next C0 D0 k Fits I acc called (tree.stmt n label w) rest false st).0).base.numbered

        go : (m : ℕ) → AtEach D (with_jumps m (parts (tree.more_stmts (tree.stmt n label w) rest) k.sc k.at l) (parts (tree.more_stmts (tree.stmt n label w) rest) k.sc k.at l) ▹ f) s i → HoldsAt (scene k.base) (system_at holding n) (numbers_of s)
        go zero h = at_first n numbered (execution w n k.sc k.at l) s i h.0
        go (suc m) h = at_first n numbered (execution w n k.sc k.at l) s i h.0

  -- ---- the DO

  module _ (index : List ℕ) (e1 e2 : ExprTree) (e3 : Option ExprTree) (body : StmtTrees) (locked : Locks) (still : ℕ → Bool) (fit : Fits locked still) (x : Store) (begun : I x) where
    abbrev pub L : LoopTree
    L = tree.loop index e1 e2 e3 body

    abbrev pub lp : LoopParts
    lp = loop_parts k.m (tree.loop index e1 e2 e3 body) (list_at k.does false body)

    abbrev pub unit : ℕ
    unit = unit_in k.at (loop_parts k.m (tree.loop index e1 e2 e3 body) (list_at k.does false body)).index

    abbrev pub bodies : Locks → Plan
    bodies l = list_plan k.sc.turns (parts body k.sc k.at l)

    abbrev pub inner : Locks
    inner = lock locked (unit_in k.at (loop_parts k.m (tree.loop index e1 e2 e3 body) (list_at k.does false body)).index) Locked

    abbrev pub bounds : Bounds
    bounds = range_with (loop_parts k.m (tree.loop index e1 e2 e3 body) (list_at k.does false body))

    abbrev e : Scene
    e = scene k.base

    abbrev goes : List ℕ → Bool
    goes ls = list_leads body ls

    abbrev ret : Bool
    ret = list_has is_return body

    abbrev Ranged : Answer Range → List Event → Type 0
    Ranged a es = Seen k.base sound x (reads e1 k.m ++ (reads e2 k.m ++ maybe_reads e3 k.m)) a es × IfGave a (RangeIs k.base sound x (solid locked still fit) e1 e2 (loop_parts k.m (tree.loop index e1 e2 e3 body) (list_at k.does false body)).step)

    -- what follows the values of its expressions
    abbrev onward : Range → Plan
    onward r = first (name_target (k.sc.names index) k.at) (λ t. first (write locked t.unit (content Int r.from)) (λ o. iterations_from (iteration_count r.from r.last r.step) r.from r.step t.unit (list_plan k.sc.turns (parts body k.sc k.at (lock locked t.unit Locked)))))

    abbrev Moves : Type 0
    Moves = (y : Store) → Ending (bodies inner) y (Ended (scene k.base) lp.body no_rows goes ret false (also still unit) y)

    module _ (bare : k.scalar index ≡ true) (path : list_at k.does false body ≡ body_transformer (tree.loop index e1 e2 e3 body) k.m k.cs) (moves : (y : Store) → Fits inner (also still unit) → Ending (bodies inner) y (Ended (scene k.base) (body_transformer (tree.loop index e1 e2 e3 body) k.m k.cs) no_rows (λ ls. list_leads body ls) (list_has is_return body) false (also still unit) y)) (keeps : (y z : Store) → Kept (scene k.base) (iteration lp).cells (iteration lp).foreign (numbers_of y) (numbers_of z) → I y → I z) where
      tracks : Tracks (scene k.base) (list_at k.does false body).cells
      tracks = subst (λ t. Tracks (scene k.base) t.cells) (sym path) (body_tracks (scene k.base) k.sc.names k.m sound.names_fit (λ c h. h) (λ c. refl) k.cs sound.calls_track L)

      fits : k.sc.names index ≡ Variable lp.index → Fits inner (also still unit)
      fits named = more_fits locked still index lp.index named bare fit

      ends : k.sc.names index ≡ Variable lp.index → Moves
      ends named y = subst (λ t. Ending (bodies inner) y (Ended (scene k.base) t no_rows (λ ls. list_leads body ls) (list_has is_return body) false (also still unit) y)) (sym path) (moves y (fits named))

      module _ (r : Range) (h : RangeIs k.base sound x (solid locked still fit) e1 e2 lp.step r) (named : k.sc.names index ≡ Variable lp.index) (free : locked unit ≡ None) where
        runs : (y z : Store) → Kept e lp.body.cells lp.body.foreign (numbers_of y) (numbers_of z) → I y → I z
        runs y z d i = loops.runs k.base sound C0 locked still (base locked still fit) index lp named bare refl tracks [] (bodies inner) goes ret x r.from r.last r.step I free h.first h.last h.step h.nonzero keeps begun y z d i

        counts : (n : ℤ) (y : Store) → I y → I (put y unit (content Int n))
        counts n y i = loops.counts k.base sound C0 locked still (base locked still fit) index lp named bare refl tracks [] (bodies inner) goes ret x r.from r.last r.step I free h.first h.last h.step h.nonzero keeps begun n y i

        constant : (s : ℤ) → lp.step ≡ Some s → (r.step ≡ s) × NotZero s
        constant s q = loops.constant k.base sound C0 locked still (base locked still fit) index lp named bare refl tracks [] (bodies inner) goes ret x r.from r.last r.step I free h.first h.last h.step h.nonzero keeps begun s q

        again : (y : Store) → I y → (i : List Content) → AtEndOf (run_of (bodies inner) y i) (λ f z j. Again I unit f z)
        again y iy i = more (run_of (bodies inner) y i) (λ f z j. Ended e lp.body no_rows goes ret false (also still unit) y f z) (λ f z j. Again I unit f z) (λ f z j d. go f z d) (ends named y i)
          where
            go : (f : Flow) (z : Store) → Ended e lp.body no_rows goes ret false (also still unit) y f z → Again I unit f z
            go Normal z d = λ n. counts n z (runs y z d.does.kept iy)
            go (Jump l) z d = tt
            go Returned z d = tt
            go Stopped z d = tt

        -- ---- the iterations, one after another

        abbrev start0 : Store
        start0 = put x unit (content Int r.from)

        record Count (s : ℤ) (d j : ℕ) (m : ℤ) : Type 0 where
          place : m ≡ r.from +ℤ (s *ℤ pos d)
          after_first : NotBeyond (goes_up s) r.from m
          left : iteration_count m r.last s ≡ j

        -- where the iteration at a place begins that has j iterations to go, and itself
        record Turn (d j : ℕ) (m : ℤ) (y : Store) : Type 0 where
          number : numbers_of y unit ≡ m
          chain : Chain e (iteration lp) (numbers_of start0) (numbers_of y)
          since : I y
          count : (s : ℤ) → lp.step ≡ Some s → Count s d j m

        first_turn : (j : ℕ) → ((s : ℤ) → lp.step ≡ Some s → iteration_count r.from r.last s ≡ j) → Turn 0 j r.from start0
        first_turn j q = record {
          number = put_here x unit (content Int r.from);
          chain = none_yet;
          since = counts r.from x begun;
          count = λ s w. record { place = first_place r.from s; after_first = first_after r.from s; left = q s w };
        }

        next_turn : (d j : ℕ) (m : ℤ) (y z : Store) → Turn d (suc j) m y → Ended e lp.body no_rows goes ret false (also still unit) y Normal z → Turn (suc d) j (m +ℤ r.step) (put z unit (content Int (m +ℤ r.step)))
        next_turn d j m y z t w =
            let n : numbers_of z unit ≡ m = w.steady unit (or_left (nat_eq unit unit) (still unit) (nat_eq_same unit)) ∙ t.number in
            record {
              number = put_here z unit (content Int (m +ℤ r.step));
              chain = then_iteration t.chain (does_then e lp.body (next lp) (numbers_of y) (numbers_of z) (numbers_of (put z unit (content Int (m +ℤ r.step)))) w.does
                  (loops.does_next k.base sound C0 locked still (base locked still fit) index lp named bare refl tracks [] (bodies inner) goes ret x r.from r.last r.step I free m z n h.step));
              since = counts (m +ℤ r.step) z (runs y z w.does.kept t.since);
              count = λ s q. (let c = t.count s q in let z1 = constant s q in let cm = count_more m r.last s j z1.1 c.left in
                  subst (λ v. Count s (suc d) j (m +ℤ v)) (sym z1.0) (record { place = next_place r.from s m d c.place; after_first = next_after r.from s m z1.1 c.after_first; left = cm.rest }));
            }

        numbered : (d j : ℕ) (m : ℤ) (y : Store) → Turn d (suc j) m y → Numbered e bounds (numbers_of x) r.from r.last m d (numbers_of y)
        numbered d j m y t = record {
          begin = numbers_of start0;
          wrote = loops.wrote k.base sound C0 locked still (base locked still fit) index lp named bare refl tracks [] (bodies inner) goes ret x r.from r.last r.step I free r.from x;
          chain = t.chain;
          number = t.number;
          range = λ s q. (let c = t.count s q in record { after_first = c.after_first; before_last = (count_more m r.last s j (constant s q).1 c.left).in_range; place = c.place });
        }

      -- ---- the executions in it

      module _ (C : Execution → Type 0) (inside : (y : Store) → Fits inner (also still unit) → I y → (i : List Content) → AtEachExecution C (bodies inner) y i) where
        begun_reached : (r : Range) → RangeIs k.base sound x (solid locked still fit) e1 e2 lp.step r → k.sc.names index ≡ Variable lp.index → (i : List Content) → AtEachExecution C (first (write locked unit (content Int r.from)) (λ o. iterations_from (iteration_count r.from r.last r.step) r.from r.step unit (bodies (lock locked unit Locked)))) x i
        begun_reached r h named i = go (locked unit) refl
          where
            go : (o : Option Fault) → locked unit ≡ o → AtEachExecution C (first (written o unit (content Int r.from)) (λ o. iterations_from (iteration_count r.from r.last r.step) r.from r.step unit (bodies (lock locked unit Locked)))) x i
            go None free = iterations_reached C I r.step unit (bodies inner) (λ y iy l. inside y (fits named) iy l) (again r h named free) (iteration_count r.from r.last r.step) r.from (put x unit (content Int r.from)) (counts r h named free r.from x begun) i
            go (Some f) free = tt

        at_unit : (r : Range) → RangeIs k.base sound x (solid locked still fit) e1 e2 lp.step r → (u v : ℕ) → u ≡ (k.at v).first → lp.index ≡ v → k.sc.names index ≡ Variable v → (i : List Content) → AtEachExecution C (first (write locked u (content Int r.from)) (λ o. iterations_from (iteration_count r.from r.last r.step) r.from r.step u (bodies (lock locked u Locked)))) x i
        at_unit r h u v eq same named i =
            subst (λ y. AtEachExecution C (first (write locked y (content Int r.from)) (λ o. iterations_from (iteration_count r.from r.last r.step) r.from r.step y (bodies (lock locked y Locked)))) x i) (ap (λ j. (k.at j).first) same ∙ sym eq)
            (begun_reached r h (named ∙ ap Variable (sym same)) i)

        pub do_reached : is_plain k.scalar e1 ≡ true → is_plain k.scalar e2 ≡ true → maybe_plain k.scalar e3 ≡ true → (i : List Content) → AtEachExecution C (do_plan (tree.loop index e1 e2 e3 body) k.sc k.at locked) x i
        do_reached p q r i =
            plan_looked C (range_of e1 e2 e3 k.sc.names k.at) onward x i Ranged (range_looks k.base sound x (solid locked still fit) e1 e2 e3 p q r)
            (λ y es h. target y h.1 (k.sc.names index) refl)
          where
            target : (y : Range) → RangeIs k.base sound x (solid locked still fit) e1 e2 lp.step y → (w : Meant) → k.sc.names index ≡ w → AtEachExecution C (first (name_target w k.at) (λ t. first (write locked t.unit (content Int y.from)) (λ o. iterations_from (iteration_count y.from y.last y.step) y.from y.step t.unit (bodies (lock locked t.unit Locked))))) x i
            target y h (Constant c) n = tt
            target y h Function n = tt
            target y h (Variable v) n = at_unit y h (k.at v).first v refl (ap (λ o. unwrap_or o 0) (sound.names_fit.numbers index v n)) n i

      -- ---- its iterations

      -- of one at a place: a and b are the values of the first and the last expression
      pub record Turned (ws is : List Region) (head : System) (a b : ℤ) (d : ℕ) (it : Iteration) : Type 0 where
        pub number : ℤ
        pub iteration : Numbered (scene k.base) (range_with (loop_parts k.m (tree.loop index e1 e2 e3 body) (list_at k.does false body))) (numbers_of x) a b number d (numbers_of it.start)
        pub holds : HoldsAt (scene k.base) head (numbers_of it.start)
        pub accesses : Holds k.base ws it.start it.did
        pub firsts : FirstHolds k is it.start it.did
        pub leaves : LeavesBy body it.ended
        pub free : IsFree k (lock locked (unit_in k.at (loop_parts k.m (tree.loop index e1 e2 e3 body) (list_at k.does false body)).index) Locked) it.did

      pub record Cut (ws is : List Region) (head : System) (its : List Iteration) : Type 0 where
        pub first : ℤ
        pub last : ℤ
        pub each : AllAt (Turned ws is head first last) 0 its

      module _ (D : Claim) (holding : List (At System)) (knows : (n : ℕ) (s : Store) (q : Ran Flow) → D (spot k.sc.module_name (suc n)) k.at s q → HoldsAt (scene k.base) (system_at holding (suc n)) (numbers_of s)) (st : StandsList C0 D0 k Fits I acc called body false) (ws is : List Region) (shown : (y : Store) → Fits inner (also still unit) → I y → Goes D0 (bodies inner) y (λ f z fs. Shown k.base false ws y f fs × FirstShown k false inner is y f fs)) where
        abbrev head : System
        head = head_of holding body

        none : Cut ws is head []
        none = record { first = pos 0; last = pos 0; each = tt }

        module _ (r : Range) (h : RangeIs k.base sound x (solid locked still fit) e1 e2 lp.step r) (named : k.sc.names index ≡ Variable lp.index) (free : locked unit ≡ None) where
          abbrev P : ℕ → Iteration → Type 0
          P = Turned ws is head r.from r.last

          abbrev Q : Store → Post Flow
          Q y f z fs = (Shown k.base false ws y f fs × FirstShown k false inner is y f fs) × OnGave D0 f z (λ g v. Ended e lp.body no_rows goes ret false (also still unit) y g v)

          made_so : (d j : ℕ) (m : ℤ) (y : Store) → Turn r h named free d (suc j) m y → HoldsAt e head (numbers_of y) → (f : Answer Flow) (z : Store) (fs : List Event) → Q y f z fs → (w : Answer Flow) → LeavesBy body w → P d (record { start = y; did = fs; ended = w })
          made_so d j m y t hd f z fs q w lv = record { number = m; iteration = numbered r h named free d j m y t; holds = hd; accesses = q.0.0.holds; firsts = q.0.1.holds; leaves = lv; free = q.0.1.free }

          left : (y : Store) (f : Answer Flow) (z : Store) → OnGave D0 f z (λ g v. Ended e lp.body no_rows goes ret false (also still unit) y g v) → LeavesBy body f
          left y (Gave Normal) z o = tt
          left y (Gave (Jump l)) z o = o.0
          left y (Gave Returned) z o = o.0
          left y (Gave Stopped) z o = tt
          left y (Broke c) z o = tt

          made : (d j : ℕ) (m : ℤ) (y : Store) → Turn r h named free d (suc j) m y → HoldsAt e head (numbers_of y) → (f : Answer Flow) (z : Store) (fs : List Event) → Q y f z fs → P d (record { start = y; did = fs; ended = f })
          made d j m y t hd f z fs q = made_so d j m y t hd f z fs q f (left y f z q.1)

          cut : (j d : ℕ) (m : ℤ) (y : Store) → Turn r h named free d j m y → (i : List Content) → AtEach D (iterations_from j m r.step unit (bodies inner)) y i → AllAt P d (iterations_since y [] (iterations_from j m r.step unit (bodies inner)) y i)
          cut zero d m y t i at = tt
          cut (suc j) d m y t i at =
              cut_then D P d y on (bodies inner) (body_no_sets body inner) [] y i (Q y)
              (goes_with D0 (bodies inner) y (λ f z fs. Shown k.base false ws y f fs × FirstShown k false inner is y f fs) (λ g v. Ended e lp.body no_rows goes ret false (also still unit) y g v) (shown y (fits named) t.since) (ends named y) i).ending
              at
              (λ g z fs i' q w. after g z fs i' q w (λ n v s i'' w'. cut j (suc d) n v s i'' w'))
              (λ c z fs q. made d j m y t there (Broke c) z fs q)
            where
              on : Flow → Plan
              on f = on_normal f (first (given Int (kept (m +ℤ r.step))) (λ c. SetPlan unit c (iterations_from j c.number r.step unit (bodies inner))))

              there : HoldsAt e head (numbers_of y)
              there = head_holds D holding knows body inner on y i st at

              after : (g : Flow) (z : Store) (fs : List Event) (i' : List Content) → Q y (Gave g) z fs → AtEach D (on_normal g (first (given Int (kept (m +ℤ r.step))) (λ c. SetPlan unit c (iterations_from j c.number r.step unit (bodies inner))))) z i' →
                  ((n : ℤ) (v : Store) → Turn r h named free (suc d) j n v → (i'' : List Content) → AtEach D (iterations_from j n r.step unit (bodies inner)) v i'' → AllAt P (suc d) (iterations_since v [] (iterations_from j n r.step unit (bodies inner)) v i'')) →
                  AllAt P d (iterations_since y fs (on_normal g (first (given Int (kept (m +ℤ r.step))) (λ c. SetPlan unit c (iterations_from j c.number r.step unit (bodies inner))))) z i')
              after (Jump l) z fs i' q w ih = (made d j m y t there (Gave (Jump l)) z fs q, tt)
              after Returned z fs i' q w ih = (made d j m y t there (Gave Returned) z fs q, tt)
              after Stopped z fs i' q w ih = (made d j m y t there (Gave Stopped) z fs q, tt)
              after Normal z fs i' q w ih = go (kept (m +ℤ r.step)) refl w
                where
                  go : (o : Option ℤ) → kept (m +ℤ r.step) ≡ o → AtEach D (first (given Int o) (λ c. SetPlan unit c (iterations_from j c.number r.step unit (bodies inner)))) z i' → AllAt P d (iterations_since y fs (first (given Int o) (λ c. SetPlan unit c (iterations_from j c.number r.step unit (bodies inner)))) z i')
                  go None e' w' = (made_so d j m y t there (Gave Normal) z fs q (Broke (Faulty Arithmetic)) tt, tt)
                  go (Some n) e' w' = (
                    made d j m y t there (Gave Normal) z fs q,
                    ih n (put z unit (content Int n)) (subst (λ v. Turn r h named free (suc d) j v (put z unit (content Int v))) (kept_is (m +ℤ r.step) n e') (next_turn r h named free d j m y z t q.1)) i' w',
                  )

        begun_cut : (r : Range) → RangeIs k.base sound x (solid locked still fit) e1 e2 lp.step r → k.sc.names index ≡ Variable lp.index → (i : List Content) → AtEach D (first (write locked unit (content Int r.from)) (λ o. iterations_from (iteration_count r.from r.last r.step) r.from r.step unit (bodies (lock locked unit Locked)))) x i → Cut ws is head (iterations (first (write locked unit (content Int r.from)) (λ o. iterations_from (iteration_count r.from r.last r.step) r.from r.step unit (bodies (lock locked unit Locked)))) x i)
        begun_cut r h named i at = go (locked unit) refl at
          where
            go : (o : Option Fault) → locked unit ≡ o → AtEach D (first (written o unit (content Int r.from)) (λ o. iterations_from (iteration_count r.from r.last r.step) r.from r.step unit (bodies (lock locked unit Locked)))) x i → Cut ws is head (iterations (first (written o unit (content Int r.from)) (λ o. iterations_from (iteration_count r.from r.last r.step) r.from r.step unit (bodies (lock locked unit Locked)))) x i)
            go None free w = record {
              first = r.from;
              last = r.last;
              each = cut r h named free (iteration_count r.from r.last r.step) 0 r.from (put x unit (content Int r.from)) (first_turn r h named free (iteration_count r.from r.last r.step) (λ s q. ap (λ v. iteration_count r.from r.last v) (sym (subst (λ o. StepIs o r.step) q h.step)))) i w;
            }
            go (Some f) free w = none

        abbrev Cut_at : Range → ℕ → List Content → Type 0
        Cut_at r u i = AtEach D (first (write locked u (content Int r.from)) (λ o. iterations_from (iteration_count r.from r.last r.step) r.from r.step u (bodies (lock locked u Locked)))) x i → Cut ws is head (iterations (first (write locked u (content Int r.from)) (λ o. iterations_from (iteration_count r.from r.last r.step) r.from r.step u (bodies (lock locked u Locked)))) x i)

        cut_at_unit : (r : Range) → RangeIs k.base sound x (solid locked still fit) e1 e2 lp.step r → (u v : ℕ) → u ≡ (k.at v).first → lp.index ≡ v → k.sc.names index ≡ Variable v → (i : List Content) → Cut_at r u i
        cut_at_unit r h u v eq same named i = subst (λ y. Cut_at r y i) (ap (λ j. (k.at j).first) same ∙ sym eq) (begun_cut r h (named ∙ ap Variable (sym same)) i)

        pub do_cut : is_plain k.scalar e1 ≡ true → is_plain k.scalar e2 ≡ true → maybe_plain k.scalar e3 ≡ true → (i : List Content) → AtEach D (do_plan (tree.loop index e1 e2 e3 body) k.sc k.at locked) x i → Cut ws is (head_of holding body) (iterations (do_plan (tree.loop index e1 e2 e3 body) k.sc k.at locked) x i)
        do_cut p q r i at =
            cut_first D (Cut ws is head) none (range_of e1 e2 e3 k.sc.names k.at) onward x i Ranged (range_looks k.base sound x (solid locked still fit) e1 e2 e3 p q r) at
            (λ y es h w. target y h.1 (k.sc.names index) refl w)
          where
            target : (y : Range) → RangeIs k.base sound x (solid locked still fit) e1 e2 lp.step y → (w : Meant) → k.sc.names index ≡ w → AtEach D (first (name_target w k.at) (λ t. first (write locked t.unit (content Int y.from)) (λ o. iterations_from (iteration_count y.from y.last y.step) y.from y.step t.unit (bodies (lock locked t.unit Locked))))) x i →
                Cut ws is head (iterations (first (name_target w k.at) (λ t. first (write locked t.unit (content Int y.from)) (λ o. iterations_from (iteration_count y.from y.last y.step) y.from y.step t.unit (bodies (lock locked t.unit Locked))))) x i)
            target y h (Constant c) n w = none
            target y h Function n w = none
            target y h (Variable v) n w = cut_at_unit y h (k.at v).first v refl (ap (λ o. unwrap_or o 0) (sound.names_fit.numbers index v n)) n i w
