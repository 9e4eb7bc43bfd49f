-- What evaluating does to the store, and which units left sides and items name.
use Rattle.std.specs.Prelude.{◌≡◌, ℕ, ◌+◌, ◌<◌, ℤ, List, [], ◌∷◌, Option, Some, true}
use Rattle.f77_ast.specs.Trees.{ExprTree, ExprTrees}
use Rattle.f77_ast.specs.Trees as tree
use Rattle.f77_ast.specs.Store.{Content, Store}
use Rattle.f77_ast.specs.Runs.{Whole, run}
use Rattle.f77_ast.specs.Places.{Variable, Names, Places, element_in}
use Rattle.f77_ast.specs.Values.{value, Target, target, all_shown}
use Rattle.f77_ast.specs.Executions.{AtEndOf}

-- an expression that is evaluated leaves the store and the input as they were
abbrev pub ValuesStay : Type 0
ValuesStay = (e : ExprTree) (w : Names) (at : Places) (s : Store) (i : List Content) → AtEndOf (run (value e w at) (Whole s) i) (λ c z j. (z ≡ s) × (j ≡ i))

-- so many expressions as there are numbers
abbrev pub AreMany : ExprTrees → List ℤ → Type 0
AreMany tree.no_exprs [] = Unit {0}
AreMany tree.no_exprs (n ∷ ns) = ⊥
AreMany (tree.more_exprs e es) [] = ⊥
AreMany (tree.more_exprs e es) (n ∷ ns) = AreMany es ns

-- the unit that a name stands for on a left side: the first of its variable
pub record NamedUnit (w : Names) (at : Places) (x : List ℕ) (t : Target) : Type 0 where
  pub variable : ℕ
  pub names : w x ≡ Variable variable
  pub unit : t.unit ≡ (at variable).first

-- that of an element: one of its variable, at the place of its subscripts
pub record ElementUnit (w : Names) (at : Places) (x : List ℕ) (es : ExprTrees) (t : Target) : Type 0 where
  pub variable : ℕ
  pub names : w x ≡ Variable variable
  pub subscripts : List ℤ
  pub many : AreMany es subscripts
  pub offset : ℕ
  pub found : element_in (at variable) subscripts ≡ Some offset
  pub inside : offset < (at variable).extent
  pub unit : t.unit ≡ (at variable).first + offset

abbrev pub IsUnit : ExprTree → Names → Places → Target → Type 0
IsUnit (tree.int n) w at t = ⊥
IsUnit (tree.log b) w at t = ⊥
IsUnit (tree.name x) w at t = NamedUnit w at x t
IsUnit (tree.element x es) w at t = ElementUnit w at x es t
IsUnit (tree.paren e) w at t = ⊥
IsUnit (tree.unary o e) w at t = ⊥
IsUnit (tree.binary o a b) w at t = ⊥
IsUnit (tree.chars x) w at t = ⊥

-- so does a left side, or an item of a READ, and it gives such a unit
abbrev pub TargetsLie : Type 0
TargetsLie = (e : ExprTree) (w : Names) (at : Places) (s : Store) (i : List Content) → AtEndOf (run (target e w at) (Whole s) i) (λ t z j. (z ≡ s) × (j ≡ i) × IsUnit e w at t)

-- what is printed leaves them too
abbrev pub ShownStay : Type 0
ShownStay = (es : ExprTrees) (w : Names) (at : Places) (s : Store) (i : List Content) → AtEndOf (run (all_shown es w at) (Whole s) i) (λ xs z j. (z ≡ s) × (j ≡ i))
