-- What the calls keep of the points, for every point.
use Rattle.std.specs.Prelude.{◌≡◌, ◌↔◌, ⊤, true, false, List, ℤ, pos, Option, MatchOption}
use Rattle.affine_systems.specs.declared.row.Var.{Var}
use Rattle.affine_systems.specs.declared.row.Row.{Row}
use Rattle.affine_systems.specs.declared.row.System.{System}
use Rattle.affine_systems.specs.declared.row.Elim.{Elim}
use Rattle.affine_systems.specs.Points.{Point, value, Holds, HoldsAll, moved, factor_of}
use Rattle.affine_systems.specs.Rows.{AllRows}
use Rattle.affine_systems.specs.Calls.{one_by}

-- a point of s is a point of t
abbrev pub KeepsPoints : System → System → Type 0
KeepsPoints s t = (p : Point) → HoldsAll p s.rows → HoldsAll p t.rows

-- where no row was lost, a point of t is a point of s
abbrev pub AddsNoPoint : System → System → Type 0
AddsNoPoint s t = t.weak ≡ false → (p : Point) → HoldsAll p t.rows → HoldsAll p s.rows

-- a point of both is a point of t
abbrev pub KeepsCommonPoints : List Row → List Row → System → Type 0
KeepsCommonPoints rs ss t = (p : Point) → HoldsAll p rs → HoldsAll p ss → HoldsAll p t.rows

-- where no row was lost, a point of t is a point of both
abbrev pub AddsNoCommonPoint : List Row → List Row → System → Type 0
AddsNoCommonPoint rs ss t = t.weak ≡ false → (p : Point) → HoldsAll p t.rows → HoldsAll p rs × HoldsAll p ss

-- the point that reads `to` where `from` stood
abbrev pub read_by : Point → Var → Var → Point
read_by p from to v = p (one_by from to v)

abbrev pub RenamesPoints : Var → Var → System → System → Type 0
RenamesPoints from to s t = (p : Point) → HoldsAll (read_by p from to) s.rows → HoldsAll p t.rows

abbrev pub RenamesNoPointMore : Var → Var → System → System → Type 0
RenamesNoPointMore from to s t = t.weak ≡ false → (p : Point) → HoldsAll p t.rows → HoldsAll (read_by p from to) s.rows

-- at a point of the equal row, the row and the row with it substituted say the same
abbrev pub SaysTheSame : Row → Row → Option Row → Type 0
SaysTheSame r e o = MatchOption o ⊤ (λ s. (p : Point) → value p e.terms ≡ e.bound → Holds p r ↔ Holds p s)

-- a point of s, with any number at v, is a point of the elimination
abbrev pub ProjectsPoints : System → Var → Elim → Type 0
ProjectsPoints s v e = (p : Point) (x : ℤ) → HoldsAll p s.rows → HoldsAll (moved p v x) e.system.rows

-- where it is exact, a point of the elimination is one of s with some number at v
abbrev pub ExtendsPoints : System → Var → Elim → Type 0
ExtendsPoints s v e = e.exact ≡ true → (p : Point) → HoldsAll p e.system.rows → (x : ℤ) × HoldsAll (moved p v x) s.rows

-- no row has v
abbrev pub Lacks : Var → List Row → Type 0
Lacks v rs = AllRows (λ r. factor_of v r.terms ≡ pos 0) rs
