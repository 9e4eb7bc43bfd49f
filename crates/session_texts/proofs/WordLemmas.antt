-- Lemmas on words and numbers.
use Rattle.std.proofs.Common.{◌≡◌, ℕ, zero, suc, ◌<◌, ◌≤◌, ◌+◌, ◌*◌, ◌^◌, Bool, true, false, List, [], ◌∷◌, ◌++◌, length, map, refl, ap, sym, ◌∙◌, subst, append_assoc, arith, add-one, if◌then◌else◌}
use Rattle.std.proofs.Math.Nat.{pow-succ'}
use Rattle.std.specs.Prelude.{filter}
use Rattle.fixed_form.specs.Characters.{is_blank}
use Rattle.fixed_form.specs.TextLines.{onto_first}
use Rattle.session_texts.specs.Words.{pieces_of, is_word, in_capitals, words_of}
use Rattle.session_texts.specs.Steps.{first_piece, after_piece}
use Rattle.fx_lists.proofs.Numbers.{power-more}

-- ---- pieces and words

pieces_of-by : (t : Bool) (b : ℕ) (bs : List ℕ) → onto_first b (pieces_of bs) ≡ (b ∷ first_piece bs) ∷ pieces_of (after_piece bs)
    → (if t then [] ∷ pieces_of bs else onto_first b (pieces_of bs)) ≡ (if t then [] else b ∷ first_piece bs) ∷ pieces_of (if t then bs else after_piece bs)
pieces_of-by true b bs h = refl
pieces_of-by false b bs h = h

-- a line is its first piece and what follows that
pieces_of-first : (line : List ℕ) → 0 < length line → pieces_of line ≡ first_piece line ∷ pieces_of (after_piece line)
pieces_of-first [] h = absurd (omega arith)
pieces_of-first (b ∷ []) h = pieces_of-by (is_blank b) b [] refl
pieces_of-first (b ∷ c ∷ cs) h = pieces_of-by (is_blank b) b (c ∷ cs) (ap (onto_first b) (pieces_of-first (c ∷ cs) (omega arith)))

with_word : (piece : List ℕ) (pieces : List (List ℕ)) → 0 < length piece → map in_capitals (filter is_word (piece ∷ pieces)) ≡ in_capitals piece ∷ map in_capitals (filter is_word pieces)
with_word [] pieces h = absurd (omega arith)
with_word (b ∷ bs) pieces h = refl

without_word : (piece : List ℕ) (pieces : List (List ℕ)) → length piece < 1 → map in_capitals (filter is_word (piece ∷ pieces)) ≡ map in_capitals (filter is_word pieces)
without_word [] pieces h = refl
without_word (b ∷ bs) pieces h = absurd (omega arith)

-- a line that begins with a word
pub words_of-word : (line : List ℕ) → 0 < length line → 0 < length (first_piece line) → words_of line ≡ in_capitals (first_piece line) ∷ words_of (after_piece line)
words_of-word line h w = ap (λ ps. map in_capitals (filter is_word ps)) (pieces_of-first line h) ∙ with_word (first_piece line) (pieces_of (after_piece line)) w

-- a line that begins with a blank
pub words_of-blank : (line : List ℕ) → 0 < length line → length (first_piece line) < 1 → words_of line ≡ words_of (after_piece line)
words_of-blank line h w = ap (λ ps. map in_capitals (filter is_word ps)) (pieces_of-first line h) ∙ without_word (first_piece line) (pieces_of (after_piece line)) w

pub ruleset word_steps = (words_of-word, words_of-blank)

-- a word more was read
pub word_more : (words new : List (List ℕ)) (line piece rest word : List ℕ) → 0 < length line → 0 < length piece → piece ≡ first_piece line → rest ≡ after_piece line → word ≡ in_capitals piece → new ≡ words ++ word ∷ []
    → new ++ words_of rest ≡ words ++ words_of line
word_more words new line piece rest word h w p r c n =
    let first : 0 < length (first_piece line) = subst (λ q. 0 < length q) p w in
    ap (λ ws. ws ++ words_of rest) n
    ∙ (append_assoc words (word ∷ []) (words_of rest)
    ∙ ap (λ ws. words ++ ws) ((λ i. c i ∷ words_of (r i)) ∙ (ap (λ q. in_capitals q ∷ words_of (after_piece line)) p ∙ sym (words_of-word line h first))))

-- ---- numbers

-- a number has at most seven digits
pub power-small : (i : ℕ) → i < 7 → 10 ^ i ≤ 1000000
power-small zero h = omega arith
power-small (suc zero) h = omega arith
power-small (suc (suc zero)) h = omega arith
power-small (suc (suc (suc zero))) h = omega arith
power-small (suc (suc (suc (suc zero)))) h = omega arith
power-small (suc (suc (suc (suc (suc zero))))) h = omega arith
power-small (suc (suc (suc (suc (suc (suc zero)))))) h = omega arith
power-small (suc (suc (suc (suc (suc (suc (suc n))))))) h = absurd (omega arith)

pub ruleset digit_steps = (power-more, power-small)
