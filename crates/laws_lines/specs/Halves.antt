-- Which variables transformers have.
use Rattle.std.specs.Prelude.{◌≡◌, ℕ, true, List}
use Rattle.affine_systems.specs.declared.row.Var.{Var}
use Rattle.affine_systems.specs.declared.row.Var.TheVariants.{Cell, Exit, Phi, Aux}
use Rattle.preconditions.specs.transformer_algebra.declared.transformer.Transformer.{Transformer}
use Rattle.preconditions.specs.transformer_algebra.Cells.{has}
use Rattle.laws_lines.specs.Variables.{IsOver}

-- a cell before the statement, of such a number, or one of these after it
abbrev pub IsHalfOf : (ℕ → Type 0) → List ℕ → Var → Type 0
IsHalfOf such cs (Cell n) = such n
IsHalfOf such cs (Exit n) = has cs n ≡ true
IsHalfOf such cs (Phi n) = ⊥
IsHalfOf such cs (Aux n) = ⊥

-- it changes such cells alone, and its rows speak of such cells before it and of those that it changes after it
pub record IsTransformerOf (such : ℕ → Type 0) (t : Transformer) : Type 0 where
  pub cells : (c : ℕ) → has t.cells c ≡ true → such c
  pub system : IsOver (IsHalfOf such t.cells) t.system
