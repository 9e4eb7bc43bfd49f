-- Refusals of which it counts alone whether there is one.
use Rattle.std.proofs.Common.{◌≡◌, ℕ, Bool, true, false, refl}
use Rattle.std.specs.Prelude.{Option, is_some}
use Rattle.fx_lists.specs.declared.code.Code.{Code}
use Rattle.fx_lists.specs.declared.refusal.Refusal.{Refusal}
use Rattle.fx_lists.specs.Refusals.{refuse_if}

-- there is one in both, or in none
pub record SameFound (f g : Option Refusal) : Type 0 where
  pub same : is_some f ≡ is_some g

pub noted_same : (b c : Bool) (l m : ℕ) (x y : Code) → b ≡ c → {f g : Option Refusal} → SameFound f g → SameFound (refuse_if b l x f) (refuse_if c m y g)
unfolding refuse_if
noted_same true true l m x y e h = record { same = refl }
noted_same true false l m x y e h = cc
noted_same false true l m x y e h = cc
noted_same false false l m x y e h = h
