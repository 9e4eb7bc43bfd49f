-- Calls that lead back to where they came from: a subprogram may not call itself, also not indirectly (ANSI X3.9-1978 §15.6.2).
use Rattle.std.specs.Prelude.{ℕ, zero, suc, Bool, true, false, ◌||◌, nat_eq, List, [], ◌∷◌, length, slice_index_or, Option, Some, None, if◌then◌else◌}
use Rattle.std.specs.List.{list_any}
use Rattle.f77_ast.specs.DeclTrees.{ParsedTree}
use Rattle.f77_ast.specs.Symbols.{number_from}
use Rattle.call_graph.specs.declared.calls.Called.{Called}
use Rattle.fx_lists.specs.declared.code.Code.TheVariants.{Recursion}
use Rattle.call_graph.specs.declared.refusal.Fault.{Fault}
use Rattle.call_graph.specs.declared.refusal.Fault.TheVariants as fault
use Rattle.call_graph.specs.Modules.{call_line}

-- the places of the modules that the module at a place calls
abbrev pub callees_at : List (List ℕ) → ℕ → List ℕ
callees_at css k = slice_index_or css k []

-- by fewer than so many calls one module leads to another: they are the same, or one that it calls leads there by one call fewer
abbrev pub leads : ℕ → List (List ℕ) → ℕ → ℕ → Bool
leads zero css from to = false
leads (suc t) css from to = nat_eq from to || list_any (λ c. leads t css c to) (callees_at css from)

-- one module leads to another; without going round it takes fewer calls than there are modules
abbrev pub reaches : List (List ℕ) → ℕ → ℕ → Bool
reaches css from to = leads (length css) css from to

abbrev pub is_back : (ℕ → Bool) → Option ℕ → Bool
is_back back None = false
is_back back (Some c) = back c

-- the number of the first CALL whose callee leads back, as the test says
abbrev pub cyclic_in : (ℕ → Bool) → List (List ℕ) → List Called → Option ℕ
cyclic_in back names [] = None
cyclic_in back names (c ∷ cs) = if is_back back (number_from 0 names c.callee) then Some c.at else cyclic_in back names cs

abbrev pub cyclic_fault : ℕ → ParsedTree → ℕ → Fault
cyclic_fault k p n = fault.At k (call_line n p) Recursion

abbrev pub cyclic_at : ℕ → ParsedTree → Option ℕ → Option Fault → Option Fault
cyclic_at k p None later = later
cyclic_at k p (Some n) later = Some (cyclic_fault k p n)

-- the first CALL of these modules that lies on a cycle of calls: its callee leads back to its module, as the test says; the first
-- module has the place k
abbrev pub cyclic_from : (ℕ → ℕ → Bool) → ℕ → List ParsedTree → List (List Called) → List (List ℕ) → Option Fault
cyclic_from back k [] css names = None
cyclic_from back k (p ∷ ps) [] names = None
cyclic_from back k (p ∷ ps) (cs ∷ css) names =
    cyclic_at k p (cyclic_in (λ c. back c k) names cs) (cyclic_from back (suc k) ps css names)
