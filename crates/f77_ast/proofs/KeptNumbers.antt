-- A number that is kept is the number itself.
use Rattle.std.proofs.Common.{◌≡◌, Bool, true, false, Some, None, ℤ}
use Rattle.std.specs.Prelude.{if◌then◌else◌}
use Rattle.f77_ast.specs.Numbers.{in_range, kept}

pub kept_is : (n k : ℤ) → kept n ≡ Some k → n ≡ k
kept_is n k = go (in_range n)
  where
    go : (b : Bool) → (if b then Some n else None) ≡ Some k → n ≡ k
    go true e = cc
    go false e = cc
