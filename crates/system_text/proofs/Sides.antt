-- Sides are read as the terms and numbers that were written.
use Rattle.std.proofs.Common.{◌≡◌, ℕ, ◌^◌, ◌<◌, Bool, true, false, not, List, [], ◌∷◌, ◌++◌, refl, ap, ◌∙◌, arith, ℤ, Some, decimal, unsigned_abs}
use Rattle.std.specs.Prelude.{nat_eq, codes, if◌then◌else◌}
use Rattle.affine_systems.specs.declared.row.Term.{Term}
use Rattle.affine_systems.specs.declared.row.Row.{Row}
use Rattle.affine_systems.specs.Given.{FactorsBelow, IsGiven}
use Rattle.system_text.specs.SystemText.{each_after, has_sign, term_text, term_texts, bound_text, side_text, row_side}
use Rattle.system_text.specs.Reading.{Bytes, read_each, Part, Number, Times, read_part, read_side}
use Rattle.system_text.specs.Printed.{AreNames, AreNamed}
use Rattle.system_text.proofs.Texts.{IsFree, AreFree, free-append, free-each_after, pieces-each}
use Rattle.system_text.proofs.Names.{other_character}
use Rattle.system_text.proofs.Parts.{IsOuter, free_decimal, free_term, term-back, number_part}

-- ---- what is written on a side

unfoldable pub side_terms : Bool → List Term → List Part
side_terms negative [] = []
side_terms negative (t ∷ ts) = if has_sign negative t.factor then Times (unsigned_abs t.factor) t.var ∷ side_terms negative ts else side_terms negative ts

unfoldable pub side_bound : Bool → ℤ → List Part
side_bound negative n = if has_sign negative n then Number (unsigned_abs n) ∷ [] else []

-- 0 where there is nothing
unfoldable pub shown : List Part → List Part
shown [] = Number 0 ∷ []
shown (p ∷ ps) = p ∷ ps

unfoldable pub side_parts : Bool → Row → List Part
side_parts right r = shown (side_terms right r.terms ++ side_bound (not right) r.bound)

-- ---- texts that are read as parts

abbrev pub Reads : List Bytes → List Bytes → List Part → Type 0
Reads names [] [] = Unit {0}
Reads names [] (p ∷ ps) = ⊥
Reads names (x ∷ xs) [] = ⊥
Reads names (x ∷ xs) (p ∷ ps) = (read_part names x ≡ Some p) × Reads names xs ps

reads-append : (names xs ys : List Bytes) (ps qs : List Part) → Reads names xs ps → Reads names ys qs → Reads names (xs ++ ys) (ps ++ qs)
reads-append names [] ys [] qs h k = k
reads-append names [] ys (p ∷ ps) qs h k = absurd h
reads-append names (x ∷ xs) ys [] qs h k = absurd h
reads-append names (x ∷ xs) ys (p ∷ ps) qs h k = (h.0, reads-append names xs ys ps qs h.1 k)

each_read : (names xs : List Bytes) (ps : List Part) → Reads names xs ps → read_each (read_part names) xs ≡ Some ps
each_read names [] [] h = refl
each_read names [] (p ∷ ps) h = absurd h
each_read names (x ∷ xs) [] h = absurd h
each_read names (x ∷ xs) (p ∷ ps) h =
    let e : read_each (read_part names) xs ≡ Some ps = each_read names xs ps h.1 in
    rw (h.0, e)

below_wide : (n : ℕ) → n < 2 ^ 126 → n < 10 ^ 64
below_wide n h = omega arith

terms_read_at : (names : List Bytes) (t : Term) (xs : List Bytes) (ps : List Part) (b : Bool) → read_part names (term_text names t) ≡ Some (Times (unsigned_abs t.factor) t.var) → Reads names xs ps
    → Reads names (if b then term_text names t ∷ xs else xs) (if b then Times (unsigned_abs t.factor) t.var ∷ ps else ps)
terms_read_at names t xs ps true e h = (e, h)
terms_read_at names t xs ps false e h = h

terms_read : (names : List Bytes) (negative : Bool) (ts : List Term) → AreNames names → FactorsBelow (2 ^ 126) ts → AreNamed names ts → Reads names (term_texts negative names ts) (side_terms negative ts)
unfolding side_terms
terms_read names negative [] h f k = tt
terms_read names negative (t ∷ ts) h f k =
    terms_read_at names t (term_texts negative names ts) (side_terms negative ts) (has_sign negative t.factor)
    (term-back names t (below_wide (unsigned_abs t.factor) f.0) h k.0) (terms_read names negative ts h f.1 k.1)

bound_read_at : (names : List Bytes) (n : ℕ) (b : Bool) → read_part names (decimal n) ≡ Some (Number n) → Reads names (if b then decimal n ∷ [] else []) (if b then Number n ∷ [] else [])
bound_read_at names n true e = (e, tt)
bound_read_at names n false e = tt

bound_read : (names : List Bytes) (negative : Bool) (n : ℤ) → unsigned_abs n < 2 ^ 126 → Reads names (bound_text negative n) (side_bound negative n)
unfolding side_bound
bound_read names negative n l = bound_read_at names (unsigned_abs n) (has_sign negative n) (number_part names (unsigned_abs n) (below_wide (unsigned_abs n) l))

-- ---- marks that stand in no side

terms_free_at : (m : ℕ) (x : Bytes) (xs : List Bytes) (b : Bool) → IsFree m x → AreFree m xs → AreFree m (if b then x ∷ xs else xs)
terms_free_at m x xs true h k = (h, k)
terms_free_at m x xs false h k = k

terms_free : (names : List Bytes) (negative : Bool) (ts : List Term) (m : ℕ) → IsOuter m → AreNames names → FactorsBelow (2 ^ 126) ts → AreNamed names ts → AreFree m (term_texts negative names ts)
terms_free names negative [] m e h f k = tt
terms_free names negative (t ∷ ts) m e h f k =
    terms_free_at m (term_text names t) (term_texts negative names ts) (has_sign negative t.factor)
    (free_term names t m (below_wide (unsigned_abs t.factor) f.0) e h k.0) (terms_free names negative ts m e h f.1 k.1)

bound_free : (negative : Bool) (n : ℤ) (m : ℕ) → IsOuter m → unsigned_abs n < 2 ^ 126 → AreFree m (bound_text negative n)
bound_free negative n m e l =
    terms_free_at m (decimal (unsigned_abs n)) [] (has_sign negative n) (free_decimal (unsigned_abs n) m e.mark.name (below_wide (unsigned_abs n) l)) tt

free-all : (m : ℕ) (xs ys : List Bytes) → AreFree m xs → AreFree m ys → AreFree m (xs ++ ys)
free-all m [] ys h k = k
free-all m (x ∷ xs) ys h k = (h.0, free-all m xs ys h.1 k)

side_pieces : (names : List Bytes) (right : Bool) (r : Row) → List Bytes
side_pieces names right r = term_texts right names r.terms ++ bound_text (not right) r.bound

pieces_free : (names : List Bytes) (right : Bool) (r : Row) (m : ℕ) → IsOuter m → AreNames names → IsGiven r → AreNamed names r.terms → AreFree m (side_pieces names right r)
unfolding side_pieces
pieces_free names right r m e h g k =
    free-all m (term_texts right names r.terms) (bound_text (not right) r.bound) (terms_free names right r.terms m e h g.2 k) (bound_free (not right) r.bound m e g.1)

side_free_at : (xs : List Bytes) (m : ℕ) → IsOuter m → nat_eq 43 m ≡ false → AreFree m xs → IsFree m (side_text xs)
side_free_at [] m e p h = (other_character 48 m refl e.mark.name, tt)
side_free_at (x ∷ xs) m e p h = free-append m x (each_after (codes "+") xs) h.0 (free-each_after m (codes "+") xs (p, tt) h.1)

pub side_free : (names : List Bytes) (right : Bool) (r : Row) (m : ℕ) → IsOuter m → nat_eq 43 m ≡ false → AreNames names → IsGiven r → AreNamed names r.terms → IsFree m (row_side right names r)
unfolding side_pieces
side_free names right r m e p h g k = side_free_at (side_pieces names right r) m e p (pieces_free names right r m e h g k)

-- ---- sides

plus_is_outer : IsOuter 43
plus_is_outer = record { mark = record { name = refl; apostrophe = refl }; star = refl }

side_read_at : (names xs : List Bytes) (ps : List Part) → AreFree 43 xs → Reads names xs ps → read_side names (side_text xs) ≡ Some (shown ps)
unfolding shown
side_read_at names [] [] h k = refl
side_read_at names [] (p ∷ ps) h k = absurd k
side_read_at names (x ∷ xs) [] h k = absurd k
side_read_at names (x ∷ xs) (p ∷ ps) h k = ap (read_each (read_part names)) (pieces-each 43 x xs h.0 h.1) ∙ each_read names (x ∷ xs) (p ∷ ps) k

pub side-back : (names : List Bytes) (right : Bool) (r : Row) → AreNames names → IsGiven r → AreNamed names r.terms → read_side names (row_side right names r) ≡ Some (side_parts right r)
unfolding side_parts side_pieces
side-back names right r h g k =
    side_read_at names (side_pieces names right r) (side_terms right r.terms ++ side_bound (not right) r.bound)
    (pieces_free names right r 43 plus_is_outer h g k)
    (reads-append names (term_texts right names r.terms) (bound_text (not right) r.bound) (side_terms right r.terms) (side_bound (not right) r.bound)
    (terms_read names right r.terms h g.2 k) (bound_read names (not right) r.bound g.1))
