-- The modules that a module calls, and those that call it.
use Rattle.std.specs.Prelude.{ℕ, Bool, ◌&&◌, List, [], ◌∷◌, ◌++◌, filter, reverse, bytes_eq, if◌then◌else◌}
use Rattle.std.specs.List.{list_any}
use Rattle.call_graph.specs.declared.graph.Edge.{Edge}
use Rattle.call_graph.specs.declared.graph.Graph.{Graph}

abbrev pub has_name : List (List ℕ) → List ℕ → Bool
has_name xs x = list_any (λ y. bytes_eq y x) xs

-- one name more, at the end, unless it is there
abbrev pub name_put : List ℕ → List (List ℕ) → List (List ℕ)
name_put x xs = if has_name xs x then xs else xs ++ x ∷ []

-- these names, and what a module calls by these CALLs
abbrev pub callees_from : List ℕ → List Edge → List (List ℕ) → List (List ℕ)
callees_from x [] found = found
callees_from x (e ∷ es) found = callees_from x es (if bytes_eq e.caller x then name_put e.callee found else found)

-- what a module calls, each once, in the order of its first CALLs
abbrev pub callees_of : Graph → List ℕ → List (List ℕ)
callees_of g x = callees_from x g.edges []

-- whether a CALL is of one module in another
abbrev pub calls : List ℕ → List ℕ → Edge → Bool
calls caller callee e = bytes_eq e.caller caller && bytes_eq e.callee callee

-- what calls a module, in the order of the graph from the last on
abbrev pub callers_of : Graph → List ℕ → List (List ℕ)
callers_of g x = reverse (filter (λ y. list_any (calls y x) g.edges) g.order)

-- ---- the same in two steps

-- the calling modules of the CALLs of a module
abbrev pub caller_in : List ℕ → Edge → List (List ℕ)
caller_in x e = if bytes_eq e.callee x then e.caller ∷ [] else []

abbrev pub calling : List ℕ → List Edge → List (List ℕ)
calling x [] = []
calling x (e ∷ es) = caller_in x e ++ calling x es
