-- Where no refusal is found.
use Rattle.std.proofs.Common.{Bool, None, Option, false, refl, true, ℕ, ◌≡◌}
use Rattle.fx_lists.specs.Refusals.{refuse_if}
use Rattle.fx_lists.specs.declared.code.Code.{Code}
use Rattle.fx_lists.specs.declared.refusal.Refusal.{Refusal}

pub none_refused : (wrong : Bool) (line : ℕ) (code : Code) (found : Option Refusal) → refuse_if wrong line code found ≡ None → (wrong ≡ false) × (found ≡ None)
unfolding refuse_if
none_refused true line code found e = cc
none_refused false line code found e = (refl, e)
