-- What columns 7 to 72 give to a statement. A character constant stands between apostrophes; two of them inside it close and open it.
use Rattle.std.specs.Prelude.{ℕ, List, [], ◌∷◌, Bool, false, not, ◌&&◌, ◌||◌, if◌then◌else◌, nat_eq}
use Rattle.fixed_form.specs.Characters.{apostrophe, is_space, is_tab, upper_case}

-- whether a constant is open behind a character, where one is open before it or not
abbrev pub quoted_after_byte : Bool → ℕ → Bool
quoted_after_byte quoted b = if nat_eq b apostrophe then not quoted else quoted

abbrev pub quoted_after : Bool → List ℕ → Bool
quoted_after quoted [] = quoted
quoted_after quoted (b ∷ bs) = quoted_after (quoted_after_byte quoted b) bs

-- inside constants every character stands; outside them blanks are dropped and letters folded
abbrev pub stripped : Bool → List ℕ → List ℕ
stripped quoted [] = []
stripped quoted (b ∷ bs) =
    if quoted then b ∷ stripped (quoted_after_byte quoted b) bs
    else if is_space b then stripped quoted bs
    else upper_case b ∷ stripped (quoted_after_byte quoted b) bs

-- a tab outside constants
abbrev pub has_tab : Bool → List ℕ → Bool
has_tab quoted [] = false
has_tab quoted (b ∷ bs) = (is_tab b && not quoted) || has_tab (quoted_after_byte quoted b) bs
