-- What the calls say of the points, for every point.
use Rattle.std.specs.Prelude.{◌≡◌, ◌⊎◌, ℕ, true, false, List, [], ◌∷◌, MatchOption}
use Rattle.affine_systems.specs.declared.row.Var.{Var}
use Rattle.affine_systems.specs.declared.row.Row.{Row}
use Rattle.affine_systems.specs.declared.row.System.{System}
use Rattle.affine_systems.specs.Points.{Point, Holds, HoldsAll}
use Rattle.affine_systems.specs.Laws.{Lacks}
use Rattle.hull_projection.specs.declared.projection.Shadow.{Shadow}
use Rattle.hull_projection.specs.declared.parts.Minus.{Minus}
use Rattle.hull_projection.specs.Iterations.{Store, between, Joined}
use Rattle.hull_projection.specs.Unions.{HoldsSome}

-- no point is one of all rows
abbrev pub HasNoPoint : List Row → Type 0
HasNoPoint rs = (p : Point) → HoldsAll p rs → ⊥

-- the row holds at each point of the rows
abbrev pub HoldsThroughout : List Row → Row → Type 0
HoldsThroughout rs r = (p : Point) → HoldsAll p rs → Holds p r

-- a variable is one of the list
abbrev pub IsOneOf : Var → List Var → Type 0
IsOneOf w [] = ⊥
IsOneOf w (v ∷ vs) = (w ≡ v) ⊎ IsOneOf w vs

-- the second point differs from the first at these variables alone
abbrev pub DiffersAt : List Var → Point → Point → Type 0
DiffersAt vs p q = (w : Var) → (IsOneOf w vs → ⊥) → q w ≡ p w

-- a point of s, with any numbers at the variables, is a point of the shadow
abbrev pub ProjectsPoints : System → List Var → Shadow → Type 0
ProjectsPoints s vs t = (p q : Point) → DiffersAt vs p q → HoldsAll p s.rows → HoldsAll q t.system.rows

-- where it is exact, a point of the shadow is one of s with some numbers at the variables
abbrev pub ExtendsPoints : System → List Var → Shadow → Type 0
ExtendsPoints s vs t = t.exact ≡ true → (p : Point) → HoldsAll p t.system.rows → (q : Point) × DiffersAt vs p q × HoldsAll q s.rows

-- no row has any of the variables
abbrev pub LacksAll : List Var → List Row → Type 0
LacksAll vs rs = (w : Var) → IsOneOf w vs → Lacks w rs

-- a point of either is a point of the hull
abbrev pub HasBoth : System → System → System → Type 0
HasBoth a b s = (p : Point) → HoldsAll p a.rows ⊎ HoldsAll p b.rows → HoldsAll p s.rows

-- a point of a that is none of b is a point of the difference
abbrev pub HasOutside : System → System → Minus → Type 0
HasOutside a b m = (p : Point) → HoldsAll p a.rows → (HoldsAll p b.rows → ⊥) → MatchOption m.system ⊥ (λ s. HoldsAll p s.rows)

-- where it is exact and no row was lost, it has no other points
abbrev pub HasNothingElse : System → System → Minus → Type 0
HasNothingElse a b m =
    m.exact ≡ true →
    MatchOption m.system (Unit {0}) (λ s. s.weak ≡ false → (p : Point) → HoldsAll p s.rows → HoldsAll p a.rows × (HoldsAll p b.rows → ⊥))

-- where no row was lost, each point of the part is one of a and none of b
abbrev pub IsOutside : System → System → System → Type 0
IsOutside a b s = s.weak ≡ false → (p : Point) → HoldsAll p s.rows → HoldsAll p a.rows × (HoldsAll p b.rows → ⊥)

abbrev pub AreOutside : System → System → List System → Type 0
AreOutside a b [] = Unit {0}
AreOutside a b (s ∷ ss) = IsOutside a b s × AreOutside a b ss

-- a point of a that is none of b is one of a part; and where no row was lost, a part has no other points
abbrev pub HasParts : System → System → List System → Type 0
HasParts a b ss = ((p : Point) → HoldsAll p a.rows → (HoldsAll p b.rows → ⊥) → HoldsSome p ss) × AreOutside a b ss

-- each pair of stores that any number of iterations joins is in the closure
abbrev pub ContainsIterations : System → System → Type 0
ContainsIterations t c = (n : ℕ) (p : Point) (s w : Store) → Joined n t s w → HoldsAll (between p s w) c.rows
