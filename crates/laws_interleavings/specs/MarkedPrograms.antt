-- Programs with marked loops.
use Rattle.std.specs.Prelude.{ℕ, List, [], ◌∷◌, Option, Some, None, false, ◌||◌, nat_eq, if◌then◌else◌, bytes_eq}
use Rattle.std.specs.List.{list_any}
use Rattle.f77_ast.specs.Faults.{Unset}
use Rattle.f77_ast.specs.Steps.{Faulty}
use Rattle.f77_ast.specs.Store.{Content}
use Rattle.f77_ast.specs.Places.{Place, Places}
use Rattle.f77_ast.specs.Writes.{Locks, no_locks}
use Rattle.f77_ast.specs.Calls.{Meaning, scalars_bound, arrays_bound, lock_doubly, after_call}
use Rattle.f77_ast.specs.Statements.{spot}
use Rattle.f77_ast.specs.Programs.{Routine, Program, scope, meanings}
use Rattle.laws_interleavings.specs.Marks.{MarkedPlan, Ends, Breaks, Forget, Within, Parallel, parallel_run}
use Rattle.laws_interleavings.specs.Accumulating.{Directive, private_alone}
use Rattle.laws_interleavings.specs.MarkedStatements.{unmarked, steps_first, MarkedMeaning, MarkedScope, own_in, marked_parts, marked_list}

-- by the name of a module and the number of a DO, its directive
abbrev pub Directives : Type 0
Directives = List ℕ → ℕ → Option Directive

-- directives without REDUCTION clauses, by the names of their PRIVATE clauses
abbrev pub with_names : Option (List (List ℕ)) → Option Directive
with_names None = None
with_names (Some xs) = Some (private_alone xs)

abbrev pub private_only : (List ℕ → ℕ → Option (List (List ℕ))) → Directives
private_only names x n = with_names (names x n)

abbrev pub forget_units : List ℕ → MarkedPlan → MarkedPlan
forget_units [] t = t
forget_units (u ∷ us) t = Forget u (forget_units us t)

abbrev pub marked_scope : Routine → ℕ → Directives → (List ℕ → Meaning) → (List ℕ → MarkedMeaning) → MarkedScope
marked_scope r turns marks callee marked_callee = record { plain = scope r turns callee; marks = marks r.name; callee = marked_callee }

abbrev pub marked_body : Routine → MarkedScope → List Place → Places → Locks → MarkedPlan
marked_body r sc ps at locked =
    steps_first (arrays_bound r.dummies ps r.names at) (λ at'. marked_list sc.plain.turns (marked_parts r.body sc at' (lock_doubly locked r.dummies at' r.common)))

abbrev pub marked_called : Routine → MarkedScope → MarkedMeaning
marked_called r sc = record {
  does = λ ps locked.
      let at = scalars_bound r.dummies ps r.fixed in
      Within (spot r.name 0) at (forget_units r.locals (marked_body r sc ps at locked)) (λ f. unmarked (after_call r.locals f));
  own = λ u. list_any (λ v. nat_eq v u) r.locals || own_in sc r.body u;
}

abbrev pub no_marked_module : MarkedMeaning
no_marked_module = record { does = λ ps locked. Breaks (Faulty Unset); own = λ u. false }

abbrev pub marked_meanings : List Routine → ℕ → Directives → List ℕ → MarkedMeaning
marked_meanings [] turns marks x = no_marked_module
marked_meanings (r ∷ rs) turns marks x =
    if bytes_eq x r.name then marked_called r (marked_scope r turns marks (meanings rs turns) (marked_meanings rs turns marks)) else marked_meanings rs turns marks x

abbrev pub marked_program : Program → ℕ → Directives → MarkedPlan
marked_program p turns marks =
    Within (spot p.main.name 0) p.main.fixed
    (marked_body p.main (marked_scope p.main turns marks (meanings p.others turns) (marked_meanings p.others turns marks)) [] p.main.fixed no_locks) (λ f. Ends f)

-- a run with marked loops, by a schedule, on an input
abbrev pub marked_run : Program → ℕ → Directives → List (List ℕ) → List Content → Parallel
marked_run p turns marks schedule input = parallel_run (marked_program p turns marks) p.initial schedule input
