-- Which modules lead to which, as rows of a table; and ranks of modules, which fall along each CALL where no calls lead back.
use Rattle.std.specs.Prelude.{ℕ, zero, suc, Bool, true, false, ◌||◌, ◌&&◌, nat_eq, nat_lt, List, [], ◌∷◌, length, slice_index_or, Option, Some, None}
use Rattle.std.specs.List.{list_any, list_all}
use Rattle.f77_ast.specs.Symbols.{number_from}
use Rattle.call_graph.specs.declared.calls.Called.{Called}

abbrev pub cell : List (List Bool) → ℕ → ℕ → Bool
cell table from to = slice_index_or (slice_index_or table from []) to false

abbrev pub longer_cell : List (List Bool) → List ℕ → ℕ → ℕ → Bool
longer_cell table cs from to = nat_eq from to || list_any (λ c. cell table c to) cs

-- so many cells of a row, from a column on, for one call more than the table has
abbrev pub row_from : List (List Bool) → List ℕ → ℕ → ℕ → ℕ → List Bool
row_from table cs from to zero = []
row_from table cs from to (suc k) = longer_cell table cs from to ∷ row_from table cs from (suc to) k

-- the rows of these modules, of which the first has the place from
abbrev pub rows_from : List (List Bool) → ℕ → ℕ → List (List ℕ) → List (List Bool)
rows_from table size from [] = []
rows_from table size from (cs ∷ css) = row_from table cs from 0 size ∷ rows_from table size (suc from) css

abbrev pub longer : List (List ℕ) → List (List Bool) → List (List Bool)
longer css table = rows_from table (length css) 0 css

-- the table for fewer than so many calls
abbrev pub table_after : ℕ → List (List ℕ) → List (List Bool) → List (List Bool)
table_after zero css table = table
table_after (suc t) css table = table_after t css (longer css table)

-- ---- ranks

abbrev pub rank : List ℕ → ℕ → ℕ
rank ranks k = slice_index_or ranks k 0

-- these modules have lower ranks
abbrev pub are_below : List ℕ → ℕ → List ℕ → Bool
are_below ranks limit cs = list_all (λ c. nat_lt (rank ranks c) limit) cs

-- each of these modules calls modules of lower ranks; the first has the place k
abbrev pub fall_from : List ℕ → ℕ → List (List ℕ) → Bool
fall_from ranks k [] = true
fall_from ranks k (cs ∷ css) = are_below ranks (rank ranks k) cs && fall_from ranks (suc k) css

abbrev pub is_below : List ℕ → ℕ → Option ℕ → Bool
is_below ranks limit None = true
is_below ranks limit (Some c) = nat_lt (rank ranks c) limit

-- the callees of these CALLs have lower ranks, where they are modules
abbrev pub calls_below : List ℕ → ℕ → List (List ℕ) → List Called → Bool
calls_below ranks limit names [] = true
calls_below ranks limit names (c ∷ cs) = is_below ranks limit (number_from 0 names c.callee) && calls_below ranks limit names cs

abbrev pub calls_fall : List ℕ → ℕ → List (List ℕ) → List (List Called) → Bool
calls_fall ranks k names [] = true
calls_fall ranks k names (cs ∷ css) = calls_below ranks (rank ranks k) names cs && calls_fall ranks (suc k) names css
