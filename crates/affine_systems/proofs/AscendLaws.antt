-- Ascending terms: what keeps them so, and that their factors determine them.
use Rattle.std.proofs.Common.{◌≡◌, ℕ, ◌<◌, ◌⊎◌, inl, inr, ⊎_elim, Bool, true, false, ◌&&◌, ◌||◌, List, [], ◌∷◌, ℤ, pos, neg_ℤ, ◌+ℤ◌, ◌*ℤ◌, arith, ap, refl, sym, subst, ◌∙◌, int_eq, unsigned_abs}
use Rattle.std.specs.Prelude.{if◌then◌else◌, nat_eq, nat_lt}
use Rattle.std.proofs.lemmas.Int.{ints}
use Rattle.std.proofs.lemmas.Bool.Decides.{Decides-eqb, Decides-ltb, Decides-int_eq}
use Rattle.std.proofs.lemmas.Bool.{or_cases, and_from, false_from_ne_true, cases_Bool, and_parts}
use Rattle.affine_systems.specs.declared.row.Var.{Var}
use Rattle.affine_systems.specs.declared.row.Term.{Term}
use Rattle.affine_systems.specs.Terms.{kind, number, var_eq, var_lt, term, term_before, add_term, add_terms, negated_terms, renamed_terms, IsBefore, Ascends}
use Rattle.affine_systems.specs.Rows.{combined_terms}
use Rattle.affine_systems.specs.Points.{value, only, factor_of}
use Rattle.affine_systems.specs.Given.{FactorsBelow}
use Rattle.affine_systems.proofs.Basics.{if_cases}
use Rattle.affine_systems.proofs.TermLaws.{var_eq-true, true-var_eq, same_parts}
use Rattle.fx_lists.proofs.Booleans.{clash}
use Rattle.fx_lists.proofs.Numbers.{is_number}

-- ---- the order of variables

abbrev pub ComesBefore : Var → Var → Type 0
ComesBefore v w = (kind v < kind w) ⊎ ((kind v ≡ kind w) × (number v < number w))

true_or : (a b : Bool) → (a ≡ true) ⊎ (b ≡ true) → (a || b) ≡ true
true_or true b h = refl
true_or false b (inl e) = cc
true_or false b (inr e) = e

lt_parts : (v w : Var) → var_lt v w ≡ true → ComesBefore v w
unfolding var_lt
lt_parts v w e =
    ⊎_elim
    (λ k. inl ((Decides-ltb (kind v) (kind w)).0 k))
    (λ k. let h = and_parts (nat_eq (kind v) (kind w)) (nat_lt (number v) (number w)) k in
    inr ((Decides-eqb (kind v) (kind w)).0 h.0, (Decides-ltb (number v) (number w)).0 h.1))
    (or_cases (nat_lt (kind v) (kind w)) (nat_eq (kind v) (kind w) && nat_lt (number v) (number w)) e)

pub parts_lt : (v w : Var) → ComesBefore v w → var_lt v w ≡ true
unfolding var_lt
parts_lt v w (inl k) = true_or (nat_lt (kind v) (kind w)) (nat_eq (kind v) (kind w) && nat_lt (number v) (number w)) (inl ((Decides-ltb (kind v) (kind w)).1 k))
parts_lt v w (inr k) =
    true_or (nat_lt (kind v) (kind w)) (nat_eq (kind v) (kind w) && nat_lt (number v) (number w))
    (inr (and_from (nat_eq (kind v) (kind w)) (nat_lt (number v) (number w)) ((Decides-eqb (kind v) (kind w)).1 k.0) ((Decides-ltb (number v) (number w)).1 k.1)))

pub var_lt-trans : (u v w : Var) → var_lt u v ≡ true → var_lt v w ≡ true → var_lt u w ≡ true
var_lt-trans u v w e f = parts_lt u w (go (lt_parts u v e) (lt_parts v w f)) where
  go : ComesBefore u v → ComesBefore v w → ComesBefore u w
  go (inl h) (inl k) = inl (omega arith)
  go (inl h) (inr k) = inl (omega arith)
  go (inr h) (inl k) = inl (omega arith)
  go (inr h) (inr k) = inr (omega arith, omega arith)

pub var_lt-itself : (v : Var) → var_lt v v ≡ true → ⊥
var_lt-itself v e = go (lt_parts v v e) where
  go : ComesBefore v v → ⊥
  go (inl h) = omega arith
  go (inr h) = omega arith

-- a variable that comes before another is another
pub var_lt-apart : (v w : Var) → var_lt v w ≡ true → var_eq v w ≡ false
var_lt-apart v w e = false_from_ne_true (var_eq v w) (λ k. var_lt-itself v (subst (λ (u : Var). var_lt v u ≡ true) (sym (var_eq-true v w k)) e))

pub var_lt-one_way : (v w : Var) → var_lt v w ≡ true → var_lt w v ≡ false
var_lt-one_way v w e = false_from_ne_true (var_lt w v) (λ k. var_lt-itself v (var_lt-trans v w v e k))

pub var_eq-sym : (v w : Var) → var_eq v w ≡ false → var_eq w v ≡ false
var_eq-sym v w e = false_from_ne_true (var_eq w v) (λ k. clash (var_eq v w) (true-var_eq v w (sym (var_eq-true w v k))) e)

-- one of two variables comes first
pub var_lt-other : (v w : Var) → var_eq v w ≡ false → var_lt v w ≡ false → var_lt w v ≡ true
var_lt-other v w e l =
    ⊎_elim
    (λ h. clash (var_lt v w) (parts_lt v w h) l)
    (λ h. ⊎_elim
    (λ k. clash (var_eq v w) (true-var_eq v w (same_parts v w k.0 k.1)) e)
    (λ k. parts_lt w v k) h)
    (three v w)
  where
    three : (v w : Var) → ComesBefore v w ⊎ (((kind v ≡ kind w) × (number v ≡ number w)) ⊎ ComesBefore w v)
    three v w = grind arith

-- ---- ascending terms

pub before_later : (v w : Var) (ts : List Term) → var_lt v w ≡ true → IsBefore w ts → IsBefore v ts
before_later v w [] e h = tt
before_later v w (t ∷ ts) e h = (var_lt-trans v w t.var e h.0, before_later v w ts e h.1)

pub before-term_before : (w v : Var) (f : ℤ) (ts : List Term) → var_lt w v ≡ true → IsBefore w ts → IsBefore w (term_before v f ts)
before-term_before w v f ts e h = if_cases (IsBefore w) (int_eq f (pos 0)) ts (term v f ∷ ts) (λ z. h) (λ z. (e, h))

pub before-add_term : (w v : Var) (f : ℤ) (ts : List Term) → var_lt w v ≡ true → IsBefore w ts → IsBefore w (add_term v f ts)
before-add_term w v f [] e h = before-term_before w v f [] e h
before-add_term w v f (t ∷ ts) e h =
    if_cases (IsBefore w) (var_eq v t.var) (term_before v (f +ℤ t.factor) ts) (if var_lt v t.var then term_before v f (t ∷ ts) else t ∷ add_term v f ts)
    (λ q. before-term_before w v (f +ℤ t.factor) ts e h.1)
    (λ q. if_cases (IsBefore w) (var_lt v t.var) (term_before v f (t ∷ ts)) (t ∷ add_term v f ts)
    (λ l. before-term_before w v f (t ∷ ts) e h)
    (λ l. (h.0, before-add_term w v f ts e h.1)))

pub before-add_terms : (w : Var) (c : ℤ) (ts us : List Term) → IsBefore w ts → IsBefore w us → IsBefore w (add_terms c ts us)
before-add_terms w c [] us h k = k
before-add_terms w c (t ∷ ts) us h k = before-add_term w t.var (c *ℤ t.factor) (add_terms c ts us) h.0 (before-add_terms w c ts us h.1 k)

pub ascends-term_before : (v : Var) (f : ℤ) (ts : List Term) → IsBefore v ts → Ascends ts → Ascends (term_before v f ts)
ascends-term_before v f ts h a = if_cases Ascends (int_eq f (pos 0)) ts (term v f ∷ ts) (λ z. a) (λ z. (z, h, a))

pub ascends-add_term : (v : Var) (f : ℤ) (ts : List Term) → Ascends ts → Ascends (add_term v f ts)
ascends-add_term v f [] a = ascends-term_before v f [] tt tt
ascends-add_term v f (t ∷ ts) a =
    if_cases Ascends (var_eq v t.var) (term_before v (f +ℤ t.factor) ts) (if var_lt v t.var then term_before v f (t ∷ ts) else t ∷ add_term v f ts)
    (λ q. ascends-term_before v (f +ℤ t.factor) ts (subst (λ (u : Var). IsBefore u ts) (sym (var_eq-true v t.var q)) a.1) a.2)
    (λ q. if_cases Ascends (var_lt v t.var) (term_before v f (t ∷ ts)) (t ∷ add_term v f ts)
    (λ l. ascends-term_before v f (t ∷ ts) (l, before_later v t.var ts l a.1) a)
    (λ l. (a.0, before-add_term t.var v f ts (var_lt-other v t.var q l) a.1, ascends-add_term v f ts a.2)))

pub ascends-add_terms : (c : ℤ) (ts us : List Term) → Ascends us → Ascends (add_terms c ts us)
ascends-add_terms c [] us a = a
ascends-add_terms c (t ∷ ts) us a = ascends-add_term t.var (c *ℤ t.factor) (add_terms c ts us) (ascends-add_terms c ts us a)

pub ascends-combined : (p : ℤ) (ts : List Term) (q : ℤ) (us : List Term) → Ascends (combined_terms p ts q us)
ascends-combined p ts q us = ascends-add_terms p ts (add_terms q us []) (ascends-add_terms q us [] tt)

pub ascends-renamed : (f : Var → Var) (ts : List Term) → Ascends (renamed_terms f ts)
ascends-renamed f [] = tt
ascends-renamed f (t ∷ ts) = ascends-add_term (f t.var) t.factor (renamed_terms f ts) (ascends-renamed f ts)

before-negated : (w : Var) (ts : List Term) → IsBefore w ts → IsBefore w (negated_terms ts)
before-negated w [] h = tt
before-negated w (t ∷ ts) h = (h.0, before-negated w ts h.1)

pub negated_zero : (z : ℤ) → int_eq z (pos 0) ≡ false → int_eq (neg_ℤ z) (pos 0) ≡ false
negated_zero z e = false_from_ne_true (int_eq (neg_ℤ z) (pos 0)) (λ k. clash (int_eq z (pos 0)) ((Decides-int_eq z (pos 0)).1 (let h = is_number (neg_ℤ z) (pos 0) k in omega (arith, ints, h))) e)

pub ascends-negated : (ts : List Term) → Ascends ts → Ascends (negated_terms ts)
ascends-negated [] a = tt
ascends-negated (t ∷ ts) a = (negated_zero t.factor a.0, before-negated t.var ts a.1, ascends-negated ts a.2)

-- ---- factors of ascending terms

only-itself : (v : Var) → only v v ≡ pos 1
only-itself v = rw (true-var_eq v v refl) refl

pub only-other : (v w : Var) → var_eq v w ≡ false → only v w ≡ pos 0
only-other v w e = rw e refl

pub factor_of-nil : (v : Var) → factor_of v [] ≡ pos 0
unfolding factor_of
factor_of-nil v = refl

pub factor_of-here : (v : Var) (t : Term) (ts : List Term) → var_eq v t.var ≡ true → factor_of v (t ∷ ts) ≡ t.factor +ℤ factor_of v ts
unfolding factor_of
factor_of-here v t ts e =
    let o : only v t.var ≡ pos 1 = rw e refl in
    let m : t.factor *ℤ only v t.var ≡ t.factor *ℤ pos 1 = ap (λ z. t.factor *ℤ z) o in
    ap (λ z. z +ℤ value (only v) ts) m ∙ omega (arith, ints)

pub factor_of-there : (v : Var) (t : Term) (ts : List Term) → var_eq v t.var ≡ false → factor_of v (t ∷ ts) ≡ factor_of v ts
unfolding factor_of
factor_of-there v t ts e =
    let o : only v t.var ≡ pos 0 = rw e refl in
    let m : t.factor *ℤ only v t.var ≡ t.factor *ℤ pos 0 = ap (λ z. t.factor *ℤ z) o in
    ap (λ z. z +ℤ value (only v) ts) m ∙ omega (arith, ints)

-- a variable before all terms has no factor there
pub factor_of-before : (v : Var) (ts : List Term) → IsBefore v ts → factor_of v ts ≡ pos 0
factor_of-before v [] h = factor_of-nil v
factor_of-before v (t ∷ ts) h = factor_of-there v t ts (var_lt-apart v t.var h.0) ∙ factor_of-before v ts h.1

-- the first of ascending terms has its factor
pub factor_of-first : (v : Var) (t : Term) (ts : List Term) → Ascends (t ∷ ts) → var_eq v t.var ≡ true → factor_of v (t ∷ ts) ≡ t.factor
factor_of-first v t ts a e =
    let z = factor_of-before v ts (subst (λ (u : Var). IsBefore u ts) (sym (var_eq-true v t.var e)) a.1) in
    factor_of-here v t ts e ∙ omega (arith, ints, z)

pub factor_below : (n : ℕ) (v : Var) (ts : List Term) → 0 < n → Ascends ts → FactorsBelow n ts → unsigned_abs (factor_of v ts) < n
factor_below n v [] l a h = subst (λ (z : ℤ). unsigned_abs z < n) (sym (factor_of-nil v)) l
factor_below n v (t ∷ ts) l a h =
    ⊎_elim
    (λ e. subst (λ (z : ℤ). unsigned_abs z < n) (sym (factor_of-first v t ts a e)) h.0)
    (λ e. subst (λ (z : ℤ). unsigned_abs z < n) (sym (factor_of-there v t ts e)) (factor_below n v ts l a.2 h.1))
    (cases_Bool (var_eq v t.var))

-- a bound on the factor of each variable is one on each factor
pub below_factors : (n : ℕ) (ts : List Term) → Ascends ts → ((v : Var) → unsigned_abs (factor_of v ts) < n) → FactorsBelow n ts
below_factors n [] a h = tt
below_factors n (t ∷ ts) a h = (
  subst (λ (z : ℤ). unsigned_abs z < n) (factor_of-first t.var t ts a (true-var_eq t.var t.var refl)) (h t.var),
  below_factors n ts a.2 (λ v. ⊎_elim
      (λ e. let z = factor_of-before v ts (subst (λ (u : Var). IsBefore u ts) (sym (var_eq-true v t.var e)) a.1) in
      subst (λ (y : ℤ). unsigned_abs y < n) (sym z) (omega (arith, h v)))
      (λ e. subst (λ (z : ℤ). unsigned_abs z < n) (factor_of-there v t ts e) (h v))
      (cases_Bool (var_eq v t.var))),
)
