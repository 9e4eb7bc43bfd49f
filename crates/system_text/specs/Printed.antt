-- Which systems are read as they were written.
use Rattle.std.specs.Prelude.{◌≡◌, ℕ, ◌<◌, ◌≤◌, Bool, true, false, ◌&&◌, ◌||◌, nat_eq, List, [], ◌∷◌, length, bytes_eq}
use Rattle.std.specs.List.{list_all, IsDistinct}
use Rattle.std.specs.Char.{is_ascii_digit, is_ascii_uppercase}
use Rattle.affine_systems.specs.declared.row.Var.{Var}
use Rattle.affine_systems.specs.declared.row.Var.TheVariants.{Cell, Exit, Phi, Aux}
use Rattle.affine_systems.specs.declared.row.Term.{Term}
use Rattle.affine_systems.specs.declared.row.System.{System}
use Rattle.affine_systems.specs.Rows.{false_row, AllRows}
use Rattle.affine_systems.specs.Given.{IsGiven}
use Rattle.system_text.specs.SystemText.{are_never}
use Rattle.system_text.specs.Reading.{Bytes}

-- letters, digits and `_`
abbrev pub in_name : ℕ → Bool
in_name c = is_ascii_uppercase c || (is_ascii_digit c || nat_eq c 95)

-- a letter, and what may follow it
abbrev pub is_name : Bytes → Bool
is_name [] = false
is_name (c ∷ cs) = is_ascii_uppercase c && list_all in_name cs

-- names of symbols: no two are the same
pub record AreNames (names : List Bytes) : Type 0 where
  pub each : list_all is_name names ≡ true
  pub distinct : IsDistinct bytes_eq names

-- the number of a symbol
abbrev pub IsNumber : List Bytes → ℕ → Type 0
IsNumber names n = (0 < n) × (n ≤ length names)

abbrev pub AreNumbers : List Bytes → List ℕ → Type 0
AreNumbers names [] = Unit {0}
AreNumbers names (n ∷ ns) = IsNumber names n × AreNumbers names ns

-- a symbol's cell before or after the statement: PHI and AUX have no names
abbrev pub IsNamed : List Bytes → Var → Type 0
IsNamed names (Cell n) = IsNumber names n
IsNamed names (Exit n) = IsNumber names n
IsNamed names (Phi n) = ⊥
IsNamed names (Aux n) = ⊥

abbrev pub AreNamed : List Bytes → List Term → Type 0
AreNamed names [] = Unit {0}
AreNamed names (t ∷ ts) = IsNamed names t.var × AreNamed names ts

-- variables with names
abbrev pub IsOfNames : List Bytes → System → Type 0
IsOfNames names s = AllRows (λ r. AreNamed names r.terms) s.rows

-- terms in the order of their variables, without zeros, and numbers below 2^126 in magnitude; what is written as FALSE is 0 <= -1
pub record IsOrdered (s : System) : Type 0 where
  pub rows : AllRows IsGiven s.rows
  pub never : are_never s.rows ≡ true → s.rows ≡ false_row ∷ []
