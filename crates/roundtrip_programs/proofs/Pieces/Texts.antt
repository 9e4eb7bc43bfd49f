-- The lines of the first lines of a text, and of what follows them.
use Rattle.std.proofs.Common.{◌≡◌, ℕ, zero, suc, ◌-◌, List, [], ◌∷◌, ◌++◌, map, take, drop, refl, ap, ◌∙◌, length, Bool, true, false, nat_eq, if◌then◌else◌}
use Rattle.std.proofs.Math.Dec.{eqb-suc-zero}
use Rattle.fixed_form.specs.TextLines.{lines_of, onto_first, text_lines, without_returns}
use Rattle.fixed_form.specs.Cuts.{first_lines, after_lines, lines_after}
use Rattle.fx_lists.proofs.Numbers.{one_less}

onto-take : (b j : ℕ) (ls : List (List ℕ)) → onto_first b (take (suc j) ls) ≡ take (suc j) (onto_first b ls)
onto-take b zero [] = refl
onto-take b (suc j) [] = refl
onto-take b j (l ∷ ls) = refl

onto-drop : (b j : ℕ) (ls : List (List ℕ)) → drop (suc j) ls ≡ drop (suc j) (onto_first b ls)
onto-drop b zero [] = refl
onto-drop b (suc j) [] = refl
onto-drop b j (l ∷ ls) = refl

-- ---- the first lines

first-step : (c : Bool) (b j : ℕ) (bs : List ℕ) → lines_of (first_lines j bs) ≡ take j (lines_of bs) → lines_of (first_lines (suc j) bs) ≡ take (suc j) (lines_of bs)
    → (if c then [] ∷ lines_of (first_lines (if c then suc j - 1 else suc j) bs) else onto_first b (lines_of (first_lines (if c then suc j - 1 else suc j) bs)))
    ≡ take (suc j) (if c then [] ∷ lines_of bs else onto_first b (lines_of bs))
first-step true b j bs h g = ap (λ k. [] ∷ lines_of (first_lines k bs)) (one_less j) ∙ ap (λ ls. [] ∷ ls) h
first-step false b j bs h g = ap (onto_first b) g ∙ onto-take b j (lines_of bs)

unless-none : (z : Bool) (b : ℕ) (front : List ℕ) → z ≡ false → (if z then [] else b ∷ front) ≡ b ∷ front
unless-none true b front e = cc
unless-none false b front e = refl

pub lines-first : (k : ℕ) (text : List ℕ) → lines_of (first_lines k text) ≡ take k (lines_of text)
lines-first zero [] = refl
lines-first (suc j) [] = refl
lines-first zero (b ∷ bs) = refl
lines-first (suc j) (b ∷ bs) =
    ap lines_of (unless-none (nat_eq (suc j) 0) b (first_lines (lines_after b (suc j)) bs) (eqb-suc-zero j))
    ∙ first-step (nat_eq b 10) b j bs (lines-first j bs) (lines-first (suc j) bs)

-- ---- and what follows

after-step : (c : Bool) (b j : ℕ) (bs : List ℕ) → lines_of (after_lines j bs) ≡ drop j (lines_of bs) → lines_of (after_lines (suc j) bs) ≡ drop (suc j) (lines_of bs)
    → lines_of (after_lines (if c then suc j - 1 else suc j) bs) ≡ drop (suc j) (if c then [] ∷ lines_of bs else onto_first b (lines_of bs))
after-step true b j bs h g = ap (λ k. lines_of (after_lines k bs)) (one_less j) ∙ h
after-step false b j bs h g = g ∙ onto-drop b j (lines_of bs)

unless-all : (z : Bool) (all rest : List ℕ) → z ≡ false → (if z then all else rest) ≡ rest
unless-all true all rest e = cc
unless-all false all rest e = refl

pub lines-after : (k : ℕ) (text : List ℕ) → lines_of (after_lines k text) ≡ drop k (lines_of text)
lines-after zero [] = refl
lines-after (suc j) [] = refl
lines-after zero (b ∷ bs) = refl
lines-after (suc j) (b ∷ bs) =
    ap lines_of (unless-all (nat_eq (suc j) 0) (b ∷ bs) (after_lines (lines_after b (suc j)) bs) (eqb-suc-zero j))
    ∙ after-step (nat_eq b 10) b j bs (lines-after j bs) (lines-after (suc j) bs)

-- ---- of a text whose lines are those and these

pub map-take : {A B : Type 0} (f : A → B) (k : ℕ) (xs : List A) → map f (take k xs) ≡ take k (map f xs)
map-take f zero xs = refl
map-take f (suc k) [] = refl
map-take f (suc k) (x ∷ xs) = ap (λ ys. f x ∷ ys) (map-take f k xs)

map-drop : {A B : Type 0} (f : A → B) (k : ℕ) (xs : List A) → map f (drop k xs) ≡ drop k (map f xs)
map-drop f zero xs = refl
map-drop f (suc k) [] = refl
map-drop f (suc k) (x ∷ xs) = map-drop f k xs

take-front : (front back : List (List ℕ)) → take (length front) (front ++ back) ≡ front
take-front [] back = refl
take-front (l ∷ ls) back = ap (λ xs. l ∷ xs) (take-front ls back)

drop-front : (front back : List (List ℕ)) → drop (length front) (front ++ back) ≡ back
drop-front [] back = refl
drop-front (l ∷ ls) back = drop-front ls back

pub front-lines : (text : List ℕ) (front back : List (List ℕ)) → text_lines text ≡ front ++ back → text_lines (first_lines (length front) text) ≡ front
front-lines text front back e =
    ap (map without_returns) (lines-first (length front) text) ∙ map-take without_returns (length front) (lines_of text)
    ∙ ap (take (length front)) e ∙ take-front front back

pub back-lines : (text : List ℕ) (front back : List (List ℕ)) → text_lines text ≡ front ++ back → text_lines (after_lines (length front) text) ≡ back
back-lines text front back e =
    ap (map without_returns) (lines-after (length front) text) ∙ map-drop without_returns (length front) (lines_of text)
    ∙ ap (drop (length front)) e ∙ drop-front front back
