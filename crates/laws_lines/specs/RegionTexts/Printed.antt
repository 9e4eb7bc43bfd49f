-- Which regions are read as they were written.
use Rattle.std.specs.Prelude.{◌≡◌, ◌<◌, ◌≤◌, true, List, [], ◌∷◌, map}
use Rattle.std.specs.List.{list_all, AllByRecursion}
use Rattle.affine_systems.specs.declared.row.Var.{Var}
use Rattle.affine_systems.specs.declared.row.Var.TheVariants.{Cell, Exit, Phi, Aux}
use Rattle.affine_systems.specs.declared.row.Term.{Term}
use Rattle.affine_systems.specs.declared.row.System.{System}
use Rattle.affine_systems.specs.Rows.{system, AllRows}
use Rattle.f77_ast.specs.declared.variable.Variable.{Variable}
use Rattle.f77_ast.specs.declared.variable.Variable.TheVariants.{Own, Block, Saved}
use Rattle.system_text.specs.Reading.{Bytes}
use Rattle.system_text.specs.Printed.{in_name, IsNumber, IsOrdered, AreNames}
use Rattle.laws_lines.specs.RegionTexts.Reading.{with_phis}
use Rattle.in_out_regions.specs.region_sets.declared.region.Region.{Region}
use Rattle.in_out_regions.specs.region_sets.Regions.{region, any_weak}

-- names of symbols: no two are the same, and none is that of a subscript
abbrev pub AreOther : List Bytes → Type 0
AreOther names = AreNames (with_phis names)

-- a symbol's cell where the statement begins, or one of seven subscripts
abbrev pub IsPlaced : List Bytes → Var → Type 0
IsPlaced names (Cell n) = IsNumber names n
IsPlaced names (Exit n) = ⊥
IsPlaced names (Phi n) = (0 < n) × (n ≤ 7)
IsPlaced names (Aux n) = ⊥

abbrev pub ArePlaced : List Bytes → List Term → Type 0
ArePlaced names [] = Unit {0}
ArePlaced names (t ∷ ts) = IsPlaced names t.var × ArePlaced names ts

-- in the order of its variables, which are such alone
abbrev pub IsOfPlaces : List Bytes → System → Type 0
IsOfPlaces names s = IsOrdered s × AllRows (λ r. ArePlaced names r.terms) s.rows

-- letters, digits and `_`
abbrev pub IsPlain : Bytes → Type 0
IsPlain x = list_all in_name x ≡ true

-- a symbol, or what has such a name
abbrev pub IsCalled : List Bytes → Variable → Type 0
IsCalled names (Own n) = IsNumber names n
IsCalled names (Block b) = IsPlain b
IsCalled names (Saved s x) = IsPlain s × IsPlain x

pub record IsReadable (names : List Bytes) (r : Region) : Type 0 where
  pub variable : IsCalled names r.variable
  pub systems : AllByRecursion (IsOfPlaces names) r.pieces

-- where one has lost a row, so has each
abbrev pub as_shown : Region → Region
as_shown r = region r.variable r.kind r.exact (map (λ (s : System). system s.rows (any_weak r.pieces)) r.pieces)
