-- The parts of both sides of a row make up the row.
use Rattle.std.proofs.Common.{◌≡◌, Bool, true, false, not, List, [], ◌∷◌, ◌++◌, refl, sym, ap, ap₂, ◌∙◌, arith, ℤ, pos, negsuc, ◌+ℤ◌, ◌*ℤ◌, int_eq, int_lt, unsigned_abs}
use Rattle.std.specs.Prelude.{if◌then◌else◌, ◌-ℤ◌}
use Rattle.std.proofs.lemmas.Int.{ints}
use Rattle.std.proofs.lemmas.Bool.Decides.{Decides-int_eq}
use Rattle.affine_systems.specs.declared.row.Var.{Var}
use Rattle.affine_systems.specs.declared.row.Term.{Term}
use Rattle.affine_systems.specs.declared.row.Row.{Row}
use Rattle.affine_systems.specs.Terms.{var_eq, var_lt, add_term, IsBefore, Ascends}
use Rattle.affine_systems.specs.Rows.{row}
use Rattle.affine_systems.proofs.AscendLaws.{var_lt-apart, var_lt-one_way, var_eq-sym}
use Rattle.system_text.specs.SystemText.{has_sign}
use Rattle.system_text.specs.Reading.{Part, Number, Times, add_side, constant, row_of}
use Rattle.system_text.proofs.Sides.{side_terms, side_bound, shown, side_parts}
use Rattle.fx_lists.proofs.Booleans.{clash}

-- ---- signs

both_signs : {A : Type 0} (x : ℤ) → int_lt x (pos 0) ≡ true → int_lt (pos 0) x ≡ true → A
both_signs x e f = absurd (omega (arith, ints, e, f))

no_sign : (x : ℤ) → int_lt x (pos 0) ≡ false → int_lt (pos 0) x ≡ false → x ≡ pos 0
no_sign x e f = omega (arith, ints, e, f)

positive : (x : ℤ) → int_lt (pos 0) x ≡ true → pos 1 *ℤ pos (unsigned_abs x) ≡ x
positive (pos n) e = omega (arith, ints)
positive (negsuc n) e = cc

negative : (x : ℤ) → int_lt x (pos 0) ≡ true → negsuc 0 *ℤ pos (unsigned_abs x) ≡ x
negative (pos n) e = absurd (omega (arith, ints, e))
negative (negsuc n) e = omega (arith, ints)

right_bound : (x : ℤ) → int_lt (pos 0) x ≡ true → (pos (unsigned_abs x) +ℤ pos 0) -ℤ pos 0 ≡ x
right_bound (pos n) e = omega (arith, ints)
right_bound (negsuc n) e = cc

left_bound : (x : ℤ) → int_lt x (pos 0) ≡ true → pos 0 -ℤ (pos (unsigned_abs x) +ℤ pos 0) ≡ x
left_bound (pos n) e = absurd (omega (arith, ints, e))
left_bound (negsuc n) e = omega (arith, ints)

-- ---- numbers

constant-shown : (ps : List Part) → constant (shown ps) ≡ constant ps
unfolding shown
constant-shown [] = refl
constant-shown (p ∷ ps) = refl

constant-terms : (negative : Bool) (ts : List Term) (qs : List Part) → constant (side_terms negative ts ++ qs) ≡ constant qs
unfolding side_terms
constant-terms negative [] qs = refl
constant-terms negative (t ∷ ts) qs = go (has_sign negative t.factor) (constant-terms negative ts qs) where
  go : (b : Bool) → constant (side_terms negative ts ++ qs) ≡ constant qs → constant ((if b then Times (unsigned_abs t.factor) t.var ∷ side_terms negative ts else side_terms negative ts) ++ qs) ≡ constant qs
  go true e = e
  go false e = e

constant-side : (right : Bool) (r : Row) → constant (side_parts right r) ≡ constant (side_bound (not right) r.bound)
unfolding side_parts
constant-side right r = constant-shown (side_terms right r.terms ++ side_bound (not right) r.bound) ∙ constant-terms right r.terms (side_bound (not right) r.bound)

bound-back : (x : ℤ) → constant (side_bound false x) -ℤ constant (side_bound true x) ≡ x
unfolding side_bound
bound-back x = go (int_lt (pos 0) x) (int_lt x (pos 0)) refl refl where
  go : (p q : Bool) → int_lt (pos 0) x ≡ p → int_lt x (pos 0) ≡ q → constant (if p then Number (unsigned_abs x) ∷ [] else []) -ℤ constant (if q then Number (unsigned_abs x) ∷ [] else []) ≡ x
  go true true e f = both_signs x f e
  go true false e f = right_bound x e
  go false true e f = left_bound x f
  go false false e f = sym (no_sign x f e)

-- ---- terms

-- those with negative factors
negatives : List Term → List Term
negatives [] = []
negatives (t ∷ ts) = if has_sign true t.factor then t ∷ negatives ts else negatives ts

before_negatives : (v : Var) (ts : List Term) → IsBefore v ts → IsBefore v (negatives ts)
unfolding negatives
before_negatives v [] h = tt
before_negatives v (t ∷ ts) h = go (has_sign true t.factor) (before_negatives v ts h.1) where
  go : (b : Bool) → IsBefore v (negatives ts) → IsBefore v (if b then t ∷ negatives ts else negatives ts)
  go true k = (h.0, k)
  go false k = k

-- a term that comes before all others
add-first : (t : Term) (us : List Term) → int_eq t.factor (pos 0) ≡ false → IsBefore t.var us → add_term t.var t.factor us ≡ t ∷ us
add-first t [] e h = rw e
add-first t (u ∷ us) e h =
    let a : var_eq t.var u.var ≡ false = var_lt-apart t.var u.var h.0 in
    let b : var_lt t.var u.var ≡ true = h.0 in
    rw (a, b, e)

-- a term that comes behind the first
add-past : (t : Term) (v : Var) (x : ℤ) (us : List Term) → var_lt t.var v ≡ true → add_term v x (t ∷ us) ≡ t ∷ add_term v x us
add-past t v x us h =
    let a : var_eq v t.var ≡ false = var_eq-sym t.var v (var_lt-apart t.var v h) in
    let b : var_lt v t.var ≡ false = var_lt-one_way t.var v h in
    rw (a, b)

side-past : (t : Term) (c : ℤ) (negative : Bool) (ts us : List Term) → IsBefore t.var ts → add_side c (side_terms negative ts) (t ∷ us) ≡ t ∷ add_side c (side_terms negative ts) us
unfolding side_terms
side-past t c negative [] us h = refl
side-past t c negative (w ∷ ws) us h = go (has_sign negative w.factor) (side-past t c negative ws us h.1) where
  go : (b : Bool) → add_side c (side_terms negative ws) (t ∷ us) ≡ t ∷ add_side c (side_terms negative ws) us
      → add_side c (if b then Times (unsigned_abs w.factor) w.var ∷ side_terms negative ws else side_terms negative ws) (t ∷ us)
      ≡ t ∷ add_side c (if b then Times (unsigned_abs w.factor) w.var ∷ side_terms negative ws else side_terms negative ws) us
  go true e = ap (add_term w.var (c *ℤ pos (unsigned_abs w.factor))) e ∙ add-past t w.var (c *ℤ pos (unsigned_abs w.factor)) (add_side c (side_terms negative ws) us) h.0
  go false e = e

right-back : (ts : List Term) → Ascends ts → add_side (negsuc 0) (side_terms true ts) [] ≡ negatives ts
unfolding side_terms negatives
right-back [] h = refl
right-back (t ∷ ts) h = go (has_sign true t.factor) refl (right-back ts h.2) where
  go : (b : Bool) → has_sign true t.factor ≡ b → add_side (negsuc 0) (side_terms true ts) [] ≡ negatives ts
      → add_side (negsuc 0) (if b then Times (unsigned_abs t.factor) t.var ∷ side_terms true ts else side_terms true ts) [] ≡ (if b then t ∷ negatives ts else negatives ts)
  go true s e =
      ap₂ (λ (x : ℤ) (us : List Term). add_term t.var x us) (negative t.factor s) e
      ∙ add-first t (negatives ts) h.0 (before_negatives t.var ts h.1)
  go false s e = e

left-back : (ts : List Term) → Ascends ts → add_side (pos 1) (side_terms false ts) (negatives ts) ≡ ts
unfolding side_terms negatives
left-back [] h = refl
left-back (t ∷ ts) h = go (has_sign false t.factor) (has_sign true t.factor) refl refl (left-back ts h.2) where
  go : (p q : Bool) → has_sign false t.factor ≡ p → has_sign true t.factor ≡ q → add_side (pos 1) (side_terms false ts) (negatives ts) ≡ ts
      → add_side (pos 1) (if p then Times (unsigned_abs t.factor) t.var ∷ side_terms false ts else side_terms false ts) (if q then t ∷ negatives ts else negatives ts) ≡ t ∷ ts
  go true true a b e = both_signs t.factor b a
  go true false a b e = ap₂ (λ (x : ℤ) (us : List Term). add_term t.var x us) (positive t.factor a) e ∙ add-first t ts h.0 h.1
  go false true a b e = side-past t (pos 1) false ts (negatives ts) h.1 ∙ ap (λ us. t ∷ us) e
  go false false a b e = clash (int_eq t.factor (pos 0)) ((Decides-int_eq t.factor (pos 0)).1 (no_sign t.factor b a)) h.0

side-shown : (c : ℤ) (ps : List Part) (us : List Term) → add_side c (shown ps) us ≡ add_side c ps us
unfolding shown
side-shown c [] us = refl
side-shown c (p ∷ ps) us = refl

side-append : (c : ℤ) (ps qs : List Part) (us : List Term) → add_side c (ps ++ qs) us ≡ add_side c ps (add_side c qs us)
side-append c [] qs us = refl
side-append c (Number n ∷ ps) qs us = side-append c ps qs us
side-append c (Times n v ∷ ps) qs us = ap (add_term v (c *ℤ pos n)) (side-append c ps qs us)

side-bound : (c : ℤ) (negative : Bool) (x : ℤ) (us : List Term) → add_side c (side_bound negative x) us ≡ us
unfolding side_bound
side-bound c negative x us = go (has_sign negative x) where
  go : (b : Bool) → add_side c (if b then Number (unsigned_abs x) ∷ [] else []) us ≡ us
  go true = refl
  go false = refl

side-of : (c : ℤ) (right : Bool) (r : Row) (us : List Term) → add_side c (side_parts right r) us ≡ add_side c (side_terms right r.terms) us
unfolding side_parts
side-of c right r us =
    side-shown c (side_terms right r.terms ++ side_bound (not right) r.bound) us
    ∙ (side-append c (side_terms right r.terms) (side_bound (not right) r.bound) us
    ∙ ap (add_side c (side_terms right r.terms)) (side-bound c (not right) r.bound us))

terms-back : (r : Row) → Ascends r.terms → add_side (pos 1) (side_parts false r) (add_side (negsuc 0) (side_parts true r) []) ≡ r.terms
terms-back r h =
    ap (add_side (pos 1) (side_parts false r)) (side-of (negsuc 0) true r [] ∙ right-back r.terms h)
    ∙ (side-of (pos 1) false r (negatives r.terms) ∙ left-back r.terms h)

-- ---- rows

pub row-moved : (r : Row) → Ascends r.terms → row_of r.equal (side_parts false r) (side_parts true r) ≡ r
row-moved r h =
    ap₂ (λ (ts : List Term) (x : ℤ). row r.equal ts x) (terms-back r h)
    (ap₂ (λ (x y : ℤ). x -ℤ y) (constant-side true r) (constant-side false r) ∙ bound-back r.bound)
