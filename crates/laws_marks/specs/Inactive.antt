-- Units of locals that are not saved, and of expressions that are actuals: while neither their module nor their CALL is active, they have no value (ANSI X3.9-1978 §15.8.4, §15.9.3, §17.2).
use Rattle.std.specs.Prelude.{◌≡◌, ◌⊎◌, ℕ, true, false, nat_eq, List, [], ◌∷◌, bytes_eq}
use Rattle.std.specs.List.{list_any}
use Rattle.f77_ast.specs.Executions.{run_of, AtEndOf}
use Rattle.f77_ast.specs.Programs.{Routine, Program}
use Rattle.laws_interleavings.specs.Plans.Cleared.{HasNoValue, Ending}
use Rattle.laws_marks.specs.ConflictExecutions.{Execution}

-- the unit of an expression that is an actual in the module
pub record IsOfExpression (r : Routine) (u : ℕ) : Type 0 where
  pub call : ℕ
  pub place : ℕ
  pub is_unit : r.own_unit call place ≡ u

-- or a unit of a local of it that is not saved
abbrev pub IsOfModule : Routine → ℕ → Type 0
IsOfModule r u = (list_any (λ v. nat_eq v u) r.locals ≡ true) ⊎ IsOfExpression r u

abbrev pub IsOfSome : List Routine → ℕ → Type 0
IsOfSome [] u = ⊥
IsOfSome (r ∷ rs) u = IsOfModule r u ⊎ IsOfSome rs u

-- where the module of a name has the control, it is a unit of an expression of that module, none of whose CALLs is active then, or it is of a module that stands
-- behind it: each stands before those that it calls
abbrev pub IsInactive : List Routine → List ℕ → ℕ → Type 0
IsInactive [] x u = ⊥
IsInactive (r ∷ rs) x u = ((bytes_eq x r.name ≡ true) × (IsOfExpression r u ⊎ IsOfSome rs u)) ⊎ ((bytes_eq x r.name ≡ false) × IsInactive rs x u)

-- such a unit has no value where an execution begins, and none where it ends, but by a STOP
pub record HasNone (x : Execution) (u : ℕ) : Type 0 where
  pub before : HasNoValue x.start u
  pub after : AtEndOf (run_of x.does x.start x.input) (Ending u)

abbrev pub InactiveHaveNone : Program → Execution → Type 0
InactiveHaveNone p x = (u : ℕ) → IsInactive (p.main ∷ p.others) x.spot.module_name u → HasNone x u
