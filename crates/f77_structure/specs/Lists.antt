-- Lists whose first element is at hand.
use Rattle.std.specs.Prelude.{Bool, true, false, List, [], ◌∷◌, Option, Some, None}

abbrev pub first_of : {A : Type 0} → List A → Option A
first_of [] = None
first_of (x ∷ xs) = Some x

abbrev pub is_none_of : {A : Type 0} → List A → Bool
is_none_of [] = true
is_none_of (x ∷ xs) = false
