-- The first piece of a line: cited by private functions alone.
use Rattle.std.specs.Prelude.{ℕ, List, [], ◌∷◌, if◌then◌else◌}
use Rattle.fixed_form.specs.Characters.{is_blank}

-- a line up to its first blank or tab, and what follows that
abbrev pub first_piece : List ℕ → List ℕ
first_piece [] = []
first_piece (b ∷ bs) = if is_blank b then [] else b ∷ first_piece bs

abbrev pub after_piece : List ℕ → List ℕ
after_piece [] = []
after_piece (b ∷ bs) = if is_blank b then bs else after_piece bs
