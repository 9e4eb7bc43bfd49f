-- What a graph says of a program.
use Rattle.std.specs.Prelude.{◌≡◌, ℕ, ◌<◌, Bool, true, false, List, [], ◌∷◌, ◌++◌, length, map, slice_get, Option, Some, Result, Ok}
use Rattle.std.specs.List.{list_any, list_all}
use Rattle.f77_ast.specs.DeclTrees.{ParsedTree}
use Rattle.f77_ast.specs.Symbols.{SymbolTree}
use Rattle.call_graph.specs.declared.graph.Graph.{Graph}
use Rattle.call_graph.specs.Recursion.{callees_at, reaches}
use Rattle.call_graph.specs.Order.{holds, order_of, names_at}
use Rattle.call_graph.specs.Modules.{names_of}
use Rattle.call_graph.specs.Links.{callees_of, link_of}

-- ---- order

-- each module of an order is new there, and stands behind those that it calls
abbrev pub IsBottomUp : List (List ℕ) → List ℕ → Type 0
IsBottomUp css order = (before : List ℕ) (k : ℕ) (after : List ℕ) → order ≡ before ++ k ∷ after →
    (holds before k ≡ false) × (list_all (λ c. holds before c) (callees_at css k) ≡ true)

-- each module stands in an order
abbrev pub HasEach : List (List ℕ) → List ℕ → Type 0
HasEach css order = (k : ℕ) → k < length css → holds order k ≡ true

-- what modules call are modules
abbrev pub AreModules : List (List ℕ) → Type 0
AreModules css = (k c : ℕ) → holds (callees_at css k) c ≡ true → c < length css

-- no module that one calls leads back to it
abbrev pub NeverBack : List (List ℕ) → Type 0
NeverBack css = (k c : ℕ) → k < length css → holds (callees_at css k) c ≡ true → reaches css c k ≡ false

-- the order is bottom-up whatever the calls are
abbrev pub OrdersAreBottomUp : Type 0
OrdersAreBottomUp = (css : List (List ℕ)) → IsBottomUp css (order_of css)

-- and without recursion it has each module
abbrev pub OrdersAreWhole : Type 0
OrdersAreWhole = (css : List (List ℕ)) → AreModules css → NeverBack css → HasEach css (order_of css)

-- modules that link stand in the order of their graph, each once, behind those that they call
abbrev pub LinkedInOrder : Type 0
LinkedInOrder = (ps : List ParsedTree) (sss : List (List SymbolTree)) (g : Graph) → length ps ≡ length sss → link_of ps sss ≡ Ok g →
    (g.order ≡ names_at (order_of (callees_of ps sss)) (names_of ps)) × IsBottomUp (callees_of ps sss) (order_of (callees_of ps sss)) × HasEach (callees_of ps sss) (order_of (callees_of ps sss))
