-- Where a plan writes numbers of 32 bits, reading such, each execution in its run begins with such numbers in all units.
use Rattle.std.proofs.Common.{List}
use Rattle.f77_ast.specs.Store.{Content, Store, put, undefined}
use Rattle.f77_ast.specs.Runs.{Answer, Gave, Broke, first_of, rest_of, store_of}
use Rattle.f77_ast.specs.Plans.{Flow, Plan, Ends, Breaks, Look, Set, Hold, Forget, Show, Take, Within}
use Rattle.f77_ast.specs.Executions.{run_of, AtEnd}
use Rattle.laws_interleavings.specs.Plans.Touched.{Ranged, StoreInRange}
use Rattle.laws_interleavings.proofs.Plans.Ranges.{put_range, plans_stay_in_range}
use Rattle.laws_marks.specs.ConflictExecutions.{AtEachExecution}

at_end : (a : Answer Flow) (z : Store) (j : List Content) (P : Flow → Store → List Content → Type 0) → ((f : Flow) → P f z j) → AtEnd a z j P
at_end (Gave f) z j P h = h f
at_end (Broke b) z j P h = tt

pub begin_in_range : (t : Plan) (s : Store) (i : List Content) → Ranged t → StoreInRange s → AtEachExecution (λ x. StoreInRange x.start) t s i
begin_in_range (Ends f) s i h l = tt
begin_in_range (Breaks b) s i h l = tt
begin_in_range (Look u k) s i h l = begin_in_range (k (s u)) s i (h.1 (s u) (l u)) l
begin_in_range (Set u c t) s i h l = begin_in_range t (put s u c) i h.2 (put_range s u c h.1 l)
begin_in_range (Hold u c t) s i h l = begin_in_range t (put s u c) i h.2 (put_range s u c h.1 l)
begin_in_range (Forget u t) s i h l = begin_in_range t (put s u (undefined (s u))) i h.1 (put_range s u (undefined (s u)) (l u) l)
begin_in_range (Show xs t) s i h l = begin_in_range t s i h l
begin_in_range (Take k) s i h l = begin_in_range (k (first_of i)) s (rest_of i) (h (first_of i)) l
begin_in_range (Within p at t k) s i h l =
    let q = run_of t s i in (
      l,
      begin_in_range t s i h.0 l,
      at_end q.answer (store_of q.memory) q.input (λ f z j. AtEachExecution (λ x. StoreInRange x.start) (k f) z j) (λ f. begin_in_range (k f) (store_of q.memory) q.input (h.1 f) (plans_stay_in_range t h.0 s l i).1),
    )
