-- Lists in statements.
use Rattle.std.specs.Prelude.{ℕ, List, [], ◌∷◌, Option, Some, None, codes}
use Rattle.f77_exprs.specs.State.{State, Reader, parse_word, or_done, or_else, ◌>>=◌}
use Rattle.f77_exprs.specs.Grammar.{items}

-- what is read, and a word behind it
unfoldable pub ending : {A : Type 0} → List ℕ → Reader A → Reader A
ending word one s = do
  r ← one s
  t ← parse_word word r.1
  Some (r.0, t)

abbrev pub past : State → Option State → State
past s (Some t) = t
past s None = s

-- what follows a comma, which need not be there
abbrev pub skip_comma : State → State
skip_comma s = past s (parse_word (codes ",") s)

-- nothing at the end of the statement, or what is read before it
abbrev pub or_end : {A : Type 0} → List ℕ → State → A → Option (A × State) → Option (A × State)
or_end [] s a other = Some (a, s)
or_end (c ∷ cs) s a other = other

-- items up to the end of the statement, and none at its end
unfoldable pub items_left : {A : Type 0} → Reader A → Reader (List A)
items_left one s = or_end s.rest s [] (items one s)

-- items behind an opening parenthesis, of which there may be none
unfoldable pub in_parentheses : {A : Type 0} → Reader A → Reader (List A)
in_parentheses one s = or_else (parse_word (codes ")") s) (λ t. Some ([], t)) (ending (codes ")") (items one) s)

-- items in parentheses, which need not be there
unfoldable pub maybe_in_parentheses : {A : Type 0} → Reader A → Reader (List A)
maybe_in_parentheses one s = or_done [] s (parse_word (codes "(") s) (in_parentheses one)

-- items behind a comma, which need not be there
unfoldable pub maybe_after_comma : {A : Type 0} → Reader A → Reader (List A)
maybe_after_comma one s = or_done [] s (parse_word (codes ",") s) (items one)
