-- Lemmas on words at the front of a text.
use Rattle.std.proofs.Common.{◌≡◌, ℕ, ◌<◌, List, [], ◌∷◌, length, drop, refl, arith, None, drop-cons}
use Rattle.f77_forms.specs.Words.{rest_after}

behind-nil : (w : ℕ) (ws text : List ℕ) → length text < 1 → rest_after (w ∷ ws) text ≡ None
behind-nil w ws [] h = refl
behind-nil w ws (c ∷ cs) h = absurd (omega arith)

-- where the text ends before the word does
pub behind_end : (word : List ℕ) (i : ℕ) (text : List ℕ) → length text < 1 → i < length word → rest_after (drop i word) text ≡ None
behind_end word i text h k = rw (drop-cons word i 0) (behind-nil _ _ text h)
