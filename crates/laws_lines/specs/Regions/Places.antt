-- Which variables regions have.
use Rattle.std.specs.Prelude.{ℕ, ◌<◌, ◌≤◌, List}
use Rattle.std.specs.List.{AllByRecursion}
use Rattle.affine_systems.specs.declared.row.Var.{Var}
use Rattle.affine_systems.specs.declared.row.Var.TheVariants.{Cell, Exit, Phi, Aux}
use Rattle.affine_systems.specs.declared.row.System.{System}
use Rattle.in_out_regions.specs.region_sets.Live.{IsFew}

-- a cell of such a number where the statement begins, or one of seven subscripts
abbrev pub IsPlaceOf : (ℕ → Type 0) → Var → Type 0
IsPlaceOf such (Cell n) = such n
IsPlaceOf such (Exit n) = ⊥
IsPlaceOf such (Phi n) = (0 < n) × (n ≤ 7)
IsPlaceOf such (Aux n) = ⊥

-- one to four systems, each of which is such
abbrev pub AreFew : (System → Type 0) → List System → Type 0
AreFew P ss = IsFew ss × AllByRecursion P ss
