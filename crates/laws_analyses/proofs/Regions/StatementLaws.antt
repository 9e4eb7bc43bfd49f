-- The laws of statements by themselves.
use Rattle.std.proofs.Common.{List}
use Rattle.f77_ast.specs.Store.{Content, Store, put, undefined}
use Rattle.f77_ast.specs.Runs.{Answer, Gave, Broke, first_of, rest_of, store_of}
use Rattle.f77_ast.specs.Plans.{Flow, Plan, Ends, Breaks, Look, Set, Hold, Forget, Show, Take, Within}
use Rattle.f77_ast.specs.Executions.{run_of, AtEnd, Claim}
use Rattle.laws_analyses.specs.Statements.Good.{AtEach}
use Rattle.laws_analyses.specs.Regions.StatementLaws.{AssignmentsAreShown, PrintsAreShown, ReadsAreShown, LogicalIfsAreShown}
use Rattle.laws_analyses.proofs.Regions.Simple.{assign_goes, print_goes, read_goes}
use Rattle.laws_analyses.proofs.Regions.Arms.{logical_goes}
use Rattle.laws_analyses.proofs.Regions.Standing.{Nothing}

nothing_each : (t : Plan) (s : Store) (i : List Content) → AtEach Nothing t s i
nothing_each (Ends f) s i = tt
nothing_each (Breaks b) s i = tt
nothing_each (Look u k) s i = nothing_each (k (s u)) s i
nothing_each (Set u c t) s i = nothing_each t (put s u c) i
nothing_each (Hold u c t) s i = nothing_each t (put s u c) i
nothing_each (Forget u t) s i = nothing_each t (put s u (undefined (s u))) i
nothing_each (Show xs t) s i = nothing_each t s i
nothing_each (Take k) s i = nothing_each (k (first_of i)) s (rest_of i)
nothing_each (Within p at t k) s i = (tt, nothing_each t s i, go (run_of t s i).answer (store_of (run_of t s i).memory) (run_of t s i).input (λ f z j. nothing_each (k f) z j))
  where
    go : (a : Answer Flow) (z : Store) (j : List Content) → ((f : Flow) (y : Store) (l : List Content) → AtEach Nothing (k f) y l) → AtEnd a z j (λ f y l. AtEach Nothing (k f) y l)
    go (Gave f) z j h = h f z j
    go (Broke b) z j h = tt

pub assignments_are_shown : AssignmentsAreShown
assignments_are_shown k sound locked still fit a b p q s i = (assign_goes k sound fit.solid Nothing locked a b s p q i).ending

pub prints_are_shown : PrintsAreShown
prints_are_shown k sound locked still fit es p s i = (print_goes k sound fit.solid Nothing locked es s p i).ending

pub reads_are_shown : ReadsAreShown
reads_are_shown k sound locked still fit es t p s i = (read_goes k sound fit.solid Nothing locked still fit es s t p i).ending

pub logical_ifs_are_shown : LogicalIfsAreShown
logical_ifs_are_shown k sound locked still fit e rs one p h s i = (logical_goes k sound fit.solid Nothing e rs one s p (λ j. record { inside = nothing_each one s j; ending = h s j }) i).ending
