-- Which variables systems have.
use Rattle.std.specs.Prelude.{ℕ, List, [], ◌∷◌}
use Rattle.affine_systems.specs.declared.row.Var.{Var}
use Rattle.affine_systems.specs.declared.row.Var.TheVariants.{Cell, Exit, Phi, Aux}
use Rattle.affine_systems.specs.declared.row.Term.{Term}
use Rattle.affine_systems.specs.declared.row.System.{System}
use Rattle.affine_systems.specs.Rows.{AllRows}

-- each variable of some terms is such
abbrev pub EachVar : (Var → Type 0) → List Term → Type 0
EachVar such [] = Unit {0}
EachVar such (t ∷ ts) = such t.var × EachVar such ts

-- each variable of the rows of a system is such
abbrev pub IsOver : (Var → Type 0) → System → Type 0
IsOver such s = AllRows (λ r. EachVar such r.terms) s.rows

-- a cell before the statement, of such a number
abbrev pub IsCellOf : (ℕ → Type 0) → Var → Type 0
IsCellOf such (Cell n) = such n
IsCellOf such (Exit n) = ⊥
IsCellOf such (Phi n) = ⊥
IsCellOf such (Aux n) = ⊥
