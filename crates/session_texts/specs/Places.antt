-- Lists that change at places: cited by private functions alone.
use Rattle.std.specs.Prelude.{ℕ, zero, suc, ◌+◌, ◌≤◌, List, [], ◌∷◌, length, unwrap_or, vec_len, vec_capacity}
use Rattle.std.specs.Prelude.{Vec}
use Rattle.f77_ast.specs.Symbols.{number_from}
use Rattle.pipsmake_rules.specs.Neighbours.{name_put}

-- the place of a name; of a new name the place after the last
abbrev pub place_for : List (List ℕ) → List ℕ → ℕ
place_for names x = unwrap_or (number_from 0 names x) (length names)

-- the places of names that are put one after another, and the names then
abbrev pub places_from : List (List ℕ) → List (List ℕ) → List ℕ
places_from names [] = []
places_from names (x ∷ xs) = place_for names x ∷ places_from (name_put x names) xs

abbrev pub names_after : List (List ℕ) → List (List ℕ) → List (List ℕ)
names_after names [] = names
names_after names (x ∷ xs) = names_after (name_put x names) xs

-- an element at a place, or as the last
abbrev pub put_at : {A : Type 0} → ℕ → A → List A → List A
put_at n x [] = x ∷ []
put_at zero x (y ∷ ys) = x ∷ ys
put_at (suc n) x (y ∷ ys) = y ∷ put_at n x ys

-- elements one after another, each at its place
abbrev pub all_put : {A : Type 0} → List ℕ → List A → List A → List A
all_put [] xs ys = ys
all_put (n ∷ ns) [] ys = ys
all_put (n ∷ ns) (x ∷ xs) ys = all_put ns xs (put_at n x ys)
