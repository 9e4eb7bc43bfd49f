-- Words at the front of a text.
use Rattle.std.specs.Prelude.{ℕ, ◌-◌, List, [], ◌∷◌, length, take, Option, None, Some, if◌then◌else◌, nat_eq}
use denote.Ref.{Bor}

-- what follows a word at the front
abbrev pub after : List ℕ → List ℕ → Option (List ℕ)
after [] text = Some text
after (w ∷ ws) [] = None
after (w ∷ ws) (c ∷ cs) = if nat_eq c w then after ws cs else None

-- the slice that a call found
abbrev pub slice_now : Option (Bor (List ℕ)) → Option (List ℕ)
slice_now None = None
slice_now (Some r) = Some r.now

-- what stands in a text before what is left of it
abbrev pub before : List ℕ → List ℕ → List ℕ
before text rest = take (length text - length rest) text
