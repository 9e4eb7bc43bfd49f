-- Character constants, of which the front was read.
use Rattle.std.proofs.Common.{◌≡◌, ℕ, List, [], ◌++◌, refl, append_assoc, append-nil, Option, Some, None}
use Rattle.f77_exprs.specs.Lexical.{with_front}

pub with_front-append : (a b : List ℕ) (r : Option (List ℕ × List ℕ)) → with_front (a ++ b) r ≡ with_front a (with_front b r)
with_front-append a b None = refl
with_front-append a b (Some r) = rw append_assoc

pub with_front-nil : (r : Option (List ℕ × List ℕ)) → with_front [] r ≡ r
with_front-nil None = refl
with_front-nil (Some r) = refl

pub ruleset constant_steps = (with_front-append, with_front-nil, append-nil)
