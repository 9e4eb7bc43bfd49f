-- Words at the front of a text.
use Rattle.std.specs.Prelude.{ℕ, List, [], ◌∷◌, Option, None, Some, Bool, true, false, ◌&&◌, if◌then◌else◌, is_some, nat_le, nat_eq}
use denote.Ref.{Bor}

-- what stands behind a word at the front
abbrev pub rest_after : List ℕ → List ℕ → Option (List ℕ)
rest_after [] text = Some text
rest_after (w ∷ ws) [] = None
rest_after (w ∷ ws) (c ∷ cs) = if nat_eq c w then rest_after ws cs else None

abbrev pub begins : List ℕ → List ℕ → Bool
begins word text = is_some (rest_after word text)

-- A to Z
abbrev pub is_letter : ℕ → Bool
is_letter c = nat_le 65 c && nat_le c 90

-- 0 to 9
abbrev pub is_digit : ℕ → Bool
is_digit c = nat_le 48 c && nat_le c 57

abbrev pub is_empty : List ℕ → Bool
is_empty [] = true
is_empty (c ∷ cs) = false

-- what the slice of a result holds
abbrev pub slice_now : Option (Bor (List ℕ)) → Option (List ℕ)
slice_now None = None
slice_now (Some r) = Some r.now
