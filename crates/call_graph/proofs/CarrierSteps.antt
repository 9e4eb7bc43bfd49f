-- The search for the statement that a statement belongs to.
use Rattle.std.proofs.Common.{◌≡◌, ℕ, refl}
use Rattle.std.specs.Prelude.{Option, Some, None}
use Rattle.f77_ast.specs.Hidden.{or_carrier}
use Rattle.f77_ast.proofs.WalkLaws.{shape_calls}

pub found : (o q : Option ℕ) (c : ℕ) → Some c ≡ o → or_carrier o q ≡ Some c
found None q c e = cc
found (Some k) q c e = cc

pub not_found : (o q : Option ℕ) → None ≡ o → or_carrier o q ≡ q
not_found None q e = refl
not_found (Some k) q e = cc

pub ruleset search_calls = (shape_calls, found, not_found)
