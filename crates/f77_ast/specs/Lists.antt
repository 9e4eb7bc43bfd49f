-- Statements one after another, with GO TO.
use Rattle.std.specs.Prelude.{ℕ, zero, suc, List, [], ◌∷◌, Option, Some, None, Bool, false, ◌||◌, nat_eq, if◌then◌else◌}
use Rattle.f77_ast.specs.Steps.{OutOfTurns}
use Rattle.f77_ast.specs.Plans.{Flow, Normal, Jump, Returned, Stopped, Plan, Ends, Breaks, ◌▹◌}

-- a statement directly in a list
pub record Part : Type 0 where
  pub label : Option ℕ
  pub does : Plan

abbrev pub is_label : ℕ → Option ℕ → Bool
is_label l None = false
is_label l (Some m) = nat_eq l m

abbrev pub has_label : ℕ → List Part → Bool
has_label l [] = false
has_label l (q ∷ qs) = is_label l q.label || has_label l qs

abbrev pub from_label : ℕ → List Part → List Part
from_label l [] = []
from_label l (q ∷ qs) = if is_label l q.label then q ∷ qs else from_label l qs

-- what follows an end; a jump to a label of the list stays in it
abbrev pub go_on : (ℕ → Plan) → List Part → Plan → Flow → Plan
go_on jump all rest Normal = rest
go_on jump all rest (Jump l) = if has_label l all then jump l else Ends (Jump l)
go_on jump all rest Returned = Ends Returned
go_on jump all rest Stopped = Ends Stopped

-- some of the parts of a list, in order
abbrev pub in_order : (ℕ → Plan) → List Part → List Part → Plan
in_order jump all [] = Ends Normal
in_order jump all (q ∷ qs) = q.does ▹ go_on jump all (in_order jump all qs)

-- with at most so many jumps to labels of the list (ANSI X3.9-1978 §11.1)
abbrev pub with_jumps : ℕ → List Part → List Part → Plan
with_jumps zero all qs = in_order (λ l. Breaks OutOfTurns) all qs
with_jumps (suc n) all qs = in_order (λ l. with_jumps n all (from_label l all)) all qs

abbrev pub list_plan : ℕ → List Part → Plan
list_plan turns qs = with_jumps turns qs qs
