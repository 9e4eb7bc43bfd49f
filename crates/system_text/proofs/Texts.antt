-- Texts cut at marks that do not stand in their pieces.
use Rattle.std.proofs.Common.{◌≡◌, ℕ, false, List, [], ◌∷◌, ◌++◌, refl, sym, ap, ◌∙◌, append-nil, Some, None}
use Rattle.std.specs.Prelude.{nat_eq, option_map, bytes_eq, codes}
use Rattle.std.proofs.lemmas.Slice.Eq.{bytes_eq-Decides}
use Rattle.std.proofs.lemmas.Bool.{false_from_ne_true}
use Rattle.system_text.specs.SystemText.{each_after}
use Rattle.system_text.specs.Reading.{Bytes, cut, longer, pieces}
use Rattle.fx_lists.proofs.Numbers.{same_number}

-- the mark does not stand in the text
abbrev pub IsFree : ℕ → Bytes → Type 0
IsFree m [] = Unit {0}
IsFree m (c ∷ cs) = (nat_eq c m ≡ false) × IsFree m cs

abbrev pub AreFree : ℕ → List Bytes → Type 0
AreFree m [] = Unit {0}
AreFree m (x ∷ xs) = IsFree m x × AreFree m xs

pub free-append : (m : ℕ) (x y : Bytes) → IsFree m x → IsFree m y → IsFree m (x ++ y)
free-append m [] y h k = k
free-append m (c ∷ cs) y h k = (h.0, free-append m cs y h.1 k)

pub free-each_after : (m : ℕ) (mark : Bytes) (xs : List Bytes) → IsFree m mark → AreFree m xs → IsFree m (each_after mark xs)
free-each_after m mark [] h k = tt
free-each_after m mark (x ∷ xs) h k = free-append m mark (x ++ each_after mark xs) h (free-append m x (each_after mark xs) k.0 (free-each_after m mark xs h k.1))

-- ---- the first mark

pub cut-at : (m : ℕ) (x t : Bytes) → IsFree m x → cut m (x ++ (m ∷ t)) ≡ Some (x, t)
cut-at m [] t h = rw (same_number m)
cut-at m (c ∷ cs) t h = rw h.0 (ap (option_map (λ (p : Bytes × Bytes). (c ∷ p.0, p.1))) (cut-at m cs t h.1))

pub cut-none : (m : ℕ) (x : Bytes) → IsFree m x → cut m x ≡ None
cut-none m [] h = refl
cut-none m (c ∷ cs) h = rw h.0 (ap (option_map (λ (p : Bytes × Bytes). (c ∷ p.0, p.1))) (cut-none m cs h.1))

-- ---- the pieces between marks

pieces-behind : (m : ℕ) (x t y : Bytes) (ys : List Bytes) → IsFree m x → pieces m t ≡ y ∷ ys → pieces m (x ++ t) ≡ (x ++ y) ∷ ys
pieces-behind m [] t y ys h e = e
pieces-behind m (c ∷ cs) t y ys h e = rw h.0 (ap (longer c) (pieces-behind m cs t y ys h.1 e))

pieces-first : (m : ℕ) (x t : Bytes) (ys : List Bytes) → IsFree m x → pieces m t ≡ [] ∷ ys → pieces m (x ++ t) ≡ x ∷ ys
pieces-first m x t ys h e = pieces-behind m x t [] ys h e ∙ ap (λ z. z ∷ ys) (append-nil x)

pieces-next : (m : ℕ) (t : Bytes) (ys : List Bytes) → pieces m t ≡ ys → pieces m (m ∷ t) ≡ [] ∷ ys
pieces-next m t ys e = rw (same_number m) (ap (λ zs. [] ∷ zs) e)

pub pieces-one : (m : ℕ) (x : Bytes) → IsFree m x → pieces m x ≡ x ∷ []
pieces-one m x h = ap (pieces m) (sym (append-nil x)) ∙ pieces-first m x [] [] h refl

pub pieces-two : (m : ℕ) (x y : Bytes) → IsFree m x → IsFree m y → pieces m (x ++ (m ∷ y)) ≡ x ∷ (y ∷ [])
pieces-two m x y h k = pieces-first m x (m ∷ y) (y ∷ []) h (pieces-next m y (y ∷ []) (pieces-one m y k))

pub pieces-each : (m : ℕ) (x : Bytes) (xs : List Bytes) → IsFree m x → AreFree m xs → pieces m (x ++ each_after (m ∷ []) xs) ≡ x ∷ xs
pieces-each m x [] h k = pieces-first m x [] [] h refl
pieces-each m x (y ∷ ys) h k =
    pieces-first m x (m ∷ (y ++ each_after (m ∷ []) ys)) (y ∷ ys) h
    (pieces-next m (y ++ each_after (m ∷ []) ys) (y ∷ ys) (pieces-each m y ys k.0 k.1))

-- a blank before each
abbrev pub spaced : List Bytes → List Bytes
spaced [] = []
spaced (x ∷ xs) = (32 ∷ x) ∷ spaced xs

spaced_free : (xs : List Bytes) → AreFree 44 xs → AreFree 44 (spaced xs)
spaced_free [] h = tt
spaced_free (x ∷ xs) h = ((refl, h.0), spaced_free xs h.1)

each_after-spaced : (xs : List Bytes) → each_after (codes ", ") xs ≡ each_after (44 ∷ []) (spaced xs)
each_after-spaced [] = refl
each_after-spaced (x ∷ xs) = ap (λ z. 44 ∷ (32 ∷ (x ++ z))) (each_after-spaced xs)

pub pieces-spaced : (x : Bytes) (xs : List Bytes) → IsFree 44 x → AreFree 44 xs → pieces 44 (x ++ each_after (codes ", ") xs) ≡ x ∷ spaced xs
pieces-spaced x xs h k = ap (λ z. pieces 44 (x ++ z)) (each_after-spaced xs) ∙ pieces-each 44 x (spaced xs) h (spaced_free xs k)

-- ---- texts that are not the same

pub other_text : (x y : Bytes) → (x ≡ y → ⊥) → bytes_eq x y ≡ false
other_text x y h = false_from_ne_true (bytes_eq x y) (λ e. h ((bytes_eq-Decides x y).0 e))
