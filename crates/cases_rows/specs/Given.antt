-- What is asked of terms, one at a time.
use Rattle.std.specs.Prelude.{◌≡◌, ◌<◌, ◌^◌, true, false, List, [], ◌∷◌, pos, unsigned_abs}
use Rattle.std.specs.Ordering.{int_eq}
use Rattle.affine_systems.specs.declared.row.Var.{Var}
use Rattle.affine_systems.specs.declared.row.Term.{Term}
use Rattle.affine_systems.specs.Terms.{var_lt, Ascends}
use Rattle.affine_systems.specs.Given.{FactorsBelow}

-- the factor is not 0, and below 2^126 in magnitude
abbrev pub IsGivenTerm : Term → Type 0
IsGivenTerm t = (int_eq t.factor (pos 0) ≡ false) × (unsigned_abs t.factor < 2 ^ 126)

-- v comes before the first variable
abbrev pub IsBeforeFirst : Var → List Term → Type 0
IsBeforeFirst v [] = Unit {0}
IsBeforeFirst v (t ∷ ts) = var_lt v t.var ≡ true

-- terms that ascend without zeros, with factors below 2^126
pub record AreGiven (ts : List Term) : Type 0 where
  pub ascends : Ascends ts
  pub below : FactorsBelow (2 ^ 126) ts
