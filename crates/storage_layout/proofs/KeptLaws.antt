-- Groups that are kept, one more after another.
use Rattle.std.proofs.Common.{◌≡◌, Bool, true, false, Option, Some, None, refl, cond}
use Rattle.std.specs.Prelude.{◌||◌, is_some}
use Rattle.fx_lists.proofs.Booleans.{or_turned as or_assoc, with_false}

pub is_some-cond : {A : Type 0} (b : Bool) (x : A) (o : Option A) → is_some (cond b (Some x) o) ≡ (is_some o || b)
is_some-cond true x None = refl
is_some-cond true x (Some y) = refl
is_some-cond false x None = refl
is_some-cond false x (Some y) = refl

pub ruleset kept_steps = (with_false, or_assoc, is_some-cond)
