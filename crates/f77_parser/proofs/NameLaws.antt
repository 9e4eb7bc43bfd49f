-- Names in lists.
use Rattle.std.proofs.Common.{◌≡◌, ℕ, suc, Bool, true, false, List, [], ◌∷◌, Some, refl}
use Rattle.std.specs.Prelude.{is_some, ◌||◌, if◌then◌else◌, bytes_eq}
use Rattle.f77_ast.specs.Symbols.{number_from}
use Rattle.f77_parser.specs.Functions.{has}

-- a name has a number where it is there
pub number_from-has : (n : ℕ) (xs : List (List ℕ)) (x : List ℕ) → is_some (number_from n xs x) ≡ has xs x
number_from-has n [] x = refl
number_from-has n (y ∷ ys) x = go (bytes_eq x y) (number_from-has (suc n) ys x)
  where
    go : (b : Bool) → is_some (number_from (suc n) ys x) ≡ has ys x → is_some (if b then Some n else number_from (suc n) ys x) ≡ (b || has ys x)
    go true h = refl
    go false h = h

pub ruleset numbered = (number_from-has)
