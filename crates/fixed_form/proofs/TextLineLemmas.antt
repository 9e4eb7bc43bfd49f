-- Lemmas on the lines of a text.
use Rattle.std.proofs.Common.{◌≡◌, ◌≢◌, ℕ, ◌<◌, ◌+◌, ◌-◌, List, [], ◌∷◌, ◌++◌, length, take, get_or, map, refl, ap, sym, ◌∙◌, arith, Bool, true, false, nat_eq, if◌then◌else◌}
use Rattle.std.proofs.lemmas.List.{take_all, take_more}
use Rattle.std.proofs.lemmas.Bool.Decides.{nat_tests}
use Rattle.fixed_form.specs.TextLines.{lines_of, onto_first, text_lines, without_returns, unless_return}
use Rattle.fixed_form.specs.Steps.{first_line, after_line}

without_returns-return : (xs : List ℕ) → without_returns (xs ++ 13 ∷ []) ≡ without_returns xs
without_returns-return [] = refl
without_returns-return (x ∷ xs) = ap (unless_return x) (without_returns-return xs)

unless_return-append : (x b : ℕ) (xs : List ℕ) → unless_return x (xs ++ b ∷ []) ≡ x ∷ (xs ++ b ∷ [])
unless_return-append x b [] = refl
unless_return-append x b (y ∷ ys) = refl

without_returns-other : (b : ℕ) (xs : List ℕ) → b ≢ 13 → without_returns (xs ++ b ∷ []) ≡ xs ++ b ∷ []
without_returns-other b [] h = grind (arith, nat_tests)
without_returns-other b (x ∷ xs) h = ap (unless_return x) (without_returns-other b xs h) ∙ unless_return-append x b xs

front_and_last : (xs : List ℕ) → 0 < length xs → xs ≡ take (length xs - 1) xs ++ get_or xs (length xs - 1) 0 ∷ []
front_and_last xs h =
    let e : length xs ≡ (length xs - 1) + 1 = omega arith in
    sym (take_all (length xs) xs (omega arith)) ∙ ap (λ k. take k xs) e ∙ take_more xs (length xs - 1) 0 (omega arith)

-- a CR at the end goes
pub without_returns-take : (xs : List ℕ) → 0 < length xs → get_or xs (length xs - 1) 0 ≡ 13
    → without_returns (take (length xs - 1) xs) ≡ without_returns xs
without_returns-take xs h e =
    sym (ap without_returns (front_and_last xs h)
    ∙ ap (λ b. without_returns (take (length xs - 1) xs ++ b ∷ [])) e
    ∙ without_returns-return (take (length xs - 1) xs))

-- a line that ends otherwise stays
pub without_returns-same : (xs : List ℕ) → 0 < length xs → get_or xs (length xs - 1) 0 ≢ 13 → without_returns xs ≡ xs
without_returns-same xs h e =
    ap without_returns (front_and_last xs h) ∙ without_returns-other _ (take (length xs - 1) xs) e ∙ sym (front_and_last xs h)

pub ruleset return_steps = (without_returns-take, without_returns-same)

lines_of-by : (t : Bool) (b : ℕ) (bs : List ℕ) → onto_first b (lines_of bs) ≡ (b ∷ first_line bs) ∷ lines_of (after_line bs)
    → (if t then [] ∷ lines_of bs else onto_first b (lines_of bs)) ≡ (if t then [] else b ∷ first_line bs) ∷ lines_of (if t then bs else after_line bs)
lines_of-by true b bs h = refl
lines_of-by false b bs h = h

-- a text is its first line and what follows it
lines_of-first : (text : List ℕ) → 0 < length text → lines_of text ≡ first_line text ∷ lines_of (after_line text)
lines_of-first [] h = absurd (omega arith)
lines_of-first (b ∷ []) h = lines_of-by (nat_eq b 10) b [] refl
lines_of-first (b ∷ c ∷ cs) h = lines_of-by (nat_eq b 10) b (c ∷ cs) (ap (onto_first b) (lines_of-first (c ∷ cs) (omega arith)))

pub text_lines-first : (text : List ℕ) → 0 < length text → text_lines text ≡ without_returns (first_line text) ∷ text_lines (after_line text)
text_lines-first text h = ap (map without_returns) (lines_of-first text h)
