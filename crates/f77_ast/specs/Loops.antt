-- DO loops (ANSI X3.9-1978 §11.10).
use Rattle.std.specs.Prelude.{ℕ, zero, suc, Option, Some, None, if◌then◌else◌, ℤ, pos, ◌+ℤ◌, ◌-ℤ◌, int_div}
use Rattle.std.specs.Ordering.{int_eq}
use Rattle.f77_ast.specs.Trees.{ExprTree}
use Rattle.f77_ast.specs.Store.{Content, content, Int}
use Rattle.f77_ast.specs.Faults.{Arithmetic, Locked}
use Rattle.f77_ast.specs.Steps.{Steps, Done, ◌>>=◌}
use Rattle.f77_ast.specs.Numbers.{kept}
use Rattle.f77_ast.specs.Places.{Names, Places, as_count}
use Rattle.f77_ast.specs.Values.{fault, given, value, Target}
use Rattle.f77_ast.specs.Writes.{Locks, write, lock}
use Rattle.f77_ast.specs.Plans.{Normal, Plan, Ends, Set as SetPlan, first, on_normal, ◌▹◌}

-- MAX(INT((m2-m1+m3)/m3),0) in whole numbers; m3 is not 0 (§11.10.3)
abbrev pub iteration_count : ℤ → ℤ → ℤ → ℕ
iteration_count m1 m2 m3 = as_count (int_div ((m2 -ℤ m1) +ℤ m3) m3)

-- the turns that are left, the variable having this number; it is incremented after each, and does not meet the loop's own lock
abbrev pub iterations_from : ℕ → ℤ → ℤ → ℕ → Plan → Plan
iterations_from zero n step u body = Ends Normal
iterations_from (suc k) n step u body = body ▹ λ f. on_normal f (first (given Int (kept (n +ℤ step))) (λ c. SetPlan u c (iterations_from k c.number step u body)))

-- the numbers that a DO begins with
pub record Range : Type 0 where
  pub from : ℤ
  pub last : ℤ
  pub step : ℤ

abbrev pub range : ℤ → ℤ → ℤ → Steps Range
range m1 m2 m3 = if int_eq m3 (pos 0) then fault Arithmetic else Done (record { from = m1; last = m2; step = m3 })

-- without a step it is 1
abbrev pub step_value : Option ExprTree → Names → Places → Steps Content
step_value None w at = Done (content Int (pos 1))
step_value (Some e) w at = value e w at

abbrev pub range_of : ExprTree → ExprTree → Option ExprTree → Names → Places → Steps Range
range_of e1 e2 e3 w at = value e1 w at >>= λ a. value e2 w at >>= λ b. step_value e3 w at >>= λ c. range a.number b.number c.number

-- the first number is written, then come the turns, with the variable locked
abbrev pub loop_plan : Steps Range → Steps Target → Locks → (Locks → Plan) → Plan
loop_plan range variable locked body =
    first range (λ r. first variable (λ t. first (write locked t.unit (content Int r.from)) (λ o. iterations_from (iteration_count r.from r.last r.step) r.from r.step t.unit (body (lock locked t.unit Locked)))))
