-- What the calls give fits what they ask.
use Rattle.std.proofs.Common.{◌≡◌, ℕ, suc, ◌+◌, ◌*◌, ◌%◌, ◌<◌, ◌≤◌, ◌^◌, Bool, true, false, not, ◌&&◌, ◌||◌, List, [], ◌∷◌, length, take, ◌⊎◌, inl, inr, ⊎_elim, ℤ, pos, negsuc, neg_ℤ, ◌+ℤ◌, ◌*ℤ◌, arith, ap, refl, sym, subst, ◌∙◌, int_eq, int_lt, Option, Some, None, unsigned_abs}
use Rattle.std.specs.Prelude.{if◌then◌else◌, nat_eq}
use Rattle.std.specs.Int.{int_div_euclid}
use Rattle.std.proofs.lemmas.Int.{ints, unsigned_abs-mul}
use Rattle.std.proofs.lemmas.Bool.Decides.{Decides-eqb, Decides-ltb, Decides-int_eq}
use Rattle.std.proofs.Math.Nat.{mul-le-mul}
use Rattle.std.proofs.lemmas.Bool.{false_from_ne_true, cases_Bool, and_parts, or_parts}
use Rattle.affine_systems.specs.declared.row.Var.{Var}
use Rattle.affine_systems.specs.declared.row.Term.{Term}
use Rattle.affine_systems.specs.declared.row.Row.{Row}
use Rattle.affine_systems.specs.declared.row.System.{System}
use Rattle.affine_systems.specs.declared.items.Item.{Item}
use Rattle.affine_systems.specs.Terms.{var_eq, negated_terms, are_opposite_terms, is_opposite, has_no_terms, IsBefore, Ascends}
use Rattle.affine_systems.specs.Rows.{row, system, false_row, AllRows, combined_terms, combine_as}
use Rattle.affine_systems.specs.Points.{only, factor_of}
use Rattle.affine_systems.specs.Items.{next_made, items_from, rows_of, false_item, is_false_row, any_false, collapsed}
use Rattle.affine_systems.specs.Normal.{divisor, divided, last_is_negative, is_small, are_small, Normal, Kept, Always, Never, TooBig, without_terms, turned, turned_if_small, divided_by, start_of, normal_terms, normal}
use Rattle.affine_systems.specs.Tidy.{sorted, one_each, row_limit, are_opposite, merged_row, faced_all, in_form, round, is_unit, last_unit, unit_var, by_row, turn_limit, tidy_items, tidy}
use Rattle.affine_systems.specs.Eliminate.{eliminate_item, eliminate}
use Rattle.affine_systems.specs.Given.{IsSmallRow, FactorsBelow, IsGiven, IsNormalAs, AreNormal, Fits, ItemsFit, ItemsGiven}
use Rattle.affine_systems.proofs.Basics.{if_cases}
use Rattle.affine_systems.proofs.TermLaws.{var_eq-true, true-var_eq}
use Rattle.affine_systems.proofs.NormalLaws.{DividesAll, divisor_divides, divisor_positive, exact_quotient}
use Rattle.affine_systems.proofs.ElimLaws.{value-combined}
use Rattle.affine_systems.proofs.LastLaws.{Lasts, Survives, Has, ordered_has, faced_all_has, cut_form_has, next_has, each_round, round_at_most, each_elimination}
use Rattle.affine_systems.proofs.AscendLaws.{ascends-combined, ascends-negated, factor_of-first, factor_of-there, factor_of-before, factor_below, below_factors}
use Rattle.affine_systems.proofs.ReducedLaws.{IsReduced, normal-reduced, kept-reduced}
use Rattle.fx_lists.proofs.Booleans.{clash}
use Rattle.fx_lists.proofs.Numbers.{size_turned as abs-neg, is_number}

-- ---- small numbers

pub small_is : (z : ℤ) → is_small z ≡ true → unsigned_abs z < 2 ^ 62
unfolding is_small
small_is z e = (Decides-ltb (unsigned_abs z) (2 ^ 62)).0 e

pub small_factors : (ts : List Term) → are_small ts ≡ true → FactorsBelow (2 ^ 62) ts
small_factors [] e = tt
small_factors (t ∷ ts) e = let h = and_parts (is_small t.factor) (are_small ts) e in (small_is t.factor h.0, small_factors ts h.1)

pub more_factors : (m n : ℕ) (ts : List Term) → m ≤ n → FactorsBelow m ts → FactorsBelow n ts
more_factors m n [] l h = tt
more_factors m n (t ∷ ts) l h = (omega (arith, l, h.0), more_factors m n ts l h.1)

pub small_given : (r : Row) → IsSmallRow r → IsGiven r
small_given r h = (h.0, omega (arith, h.1), more_factors (2 ^ 62) (2 ^ 126) r.terms (omega arith) h.2)

-- ---- combinations of small rows

pub product_below : (x y : ℤ) → unsigned_abs x < 2 ^ 62 → unsigned_abs y < 2 ^ 62 → unsigned_abs (x *ℤ y) ≤ 2 ^ 124
product_below x y h k =
    let a : unsigned_abs x ≤ 2 ^ 62 = omega arith in
    let b : unsigned_abs y ≤ 2 ^ 62 = omega arith in
    let m : unsigned_abs x * unsigned_abs y ≤ 2 ^ 62 * 2 ^ 62 = mul-le-mul a b in
    let e = unsigned_abs-mul x y in
    subst (λ n. n ≤ 2 ^ 124) (sym e) m

pub abs_sum : (x y : ℤ) → unsigned_abs (x +ℤ y) ≤ unsigned_abs x + unsigned_abs y
abs_sum x y = omega (arith, ints)

pub sum_below : (p x q y : ℤ) → unsigned_abs p < 2 ^ 62 → unsigned_abs x < 2 ^ 62 → unsigned_abs q < 2 ^ 62 → unsigned_abs y < 2 ^ 62 → unsigned_abs ((p *ℤ x) +ℤ (q *ℤ y)) < 2 ^ 126
sum_below p x q y a b c d =
    let m = product_below p x a b in
    let n = product_below q y c d in
    let s = abs_sum (p *ℤ x) (q *ℤ y) in
    omega (arith, m, n, s)

pub factor-combined : (v : Var) (p : ℤ) (ts : List Term) (q : ℤ) (us : List Term) → factor_of v (combined_terms p ts q us) ≡ (p *ℤ factor_of v ts) +ℤ (q *ℤ factor_of v us)
unfolding factor_of
factor-combined v p ts q us = value-combined (only v) p ts q us

pub combined_given : (e : Bool) (p : ℤ) (r : Row) (q : ℤ) (s : Row) → unsigned_abs p < 2 ^ 62 → unsigned_abs q < 2 ^ 62 → IsSmallRow r → IsSmallRow s → IsGiven (combine_as e p r q s)
combined_given e p r q s a b h k =
    let ts = combined_terms p r.terms q s.terms in
    let asc = ascends-combined p r.terms q s.terms in (
      asc,
      sum_below p r.bound q s.bound a h.1 b k.1,
      below_factors (2 ^ 126) ts asc (λ v. subst (λ (z : ℤ). unsigned_abs z < 2 ^ 126) (sym (factor-combined v p r.terms q s.terms))
          (sum_below p (factor_of v r.terms) q (factor_of v s.terms) a (factor_below (2 ^ 62) v r.terms (omega arith) h.0 h.2) b (factor_below (2 ^ 62) v s.terms (omega arith) k.0 k.2))),
    )

pub factor_small : (v : Var) (r : Row) → IsSmallRow r → unsigned_abs (factor_of v r.terms) < 2 ^ 62
factor_small v r h = factor_below (2 ^ 62) v r.terms (omega arith) h.0 h.2

pub neg_small : (z : ℤ) → unsigned_abs z < 2 ^ 62 → unsigned_abs (neg_ℤ z) < 2 ^ 62
neg_small z h = subst (λ n. n < 2 ^ 62) (sym (abs-neg z)) h

-- a factor times 1 or -1
pub unit_times : (x y : ℤ) → unsigned_abs x < 2 ^ 62 → is_unit y ≡ true → unsigned_abs (neg_ℤ (x *ℤ y)) < 2 ^ 62
unit_times x y h u =
    let e : unsigned_abs y ≡ 1 = (Decides-eqb (unsigned_abs y) 1).0 u in
    let m = unsigned_abs-mul x y in
    let n : unsigned_abs x * unsigned_abs y ≡ unsigned_abs x * 1 = ap (λ k. unsigned_abs x * k) e in
    neg_small (x *ℤ y) (omega (arith, m, n, h))

pub by_row_given : (r : Row) (v : Var) (e : Row) → is_unit (factor_of v e.terms) ≡ true → IsSmallRow r → IsSmallRow e → IsGiven (by_row r v e)
by_row_given r v e u h k =
    combined_given r.equal (pos 1) r (neg_ℤ (factor_of v r.terms *ℤ factor_of v e.terms)) e (omega arith) (unit_times (factor_of v r.terms) (factor_of v e.terms) (factor_small v r h) u) h k

pub turn_small : (a c : ℤ) → unsigned_abs c < 2 ^ 62 → unsigned_abs (if int_lt a (pos 0) then c else neg_ℤ c) < 2 ^ 62
turn_small a c h = if_cases (λ (z : ℤ). unsigned_abs z < 2 ^ 62) (int_lt a (pos 0)) c (neg_ℤ c) (λ e. h) (λ e. neg_small c h)

-- ---- the pivot of a row has factor 1 or -1

last_unit_has : (v : Var) (o : Option Var) (ts : List Term) → Ascends ts → last_unit o ts ≡ Some v → (o ≡ Some v) ⊎ (is_unit (factor_of v ts) ≡ true)
last_unit_has v o [] a e = inl e
last_unit_has v o (t ∷ ts) a e = ⊎_elim here there (last_unit_has v (if is_unit t.factor then Some t.var else o) ts a.2 e) where
  same : Some t.var ≡ Some v → t.var ≡ v
  same e = cc

  unit_here : is_unit t.factor ≡ true → t.var ≡ v → is_unit (factor_of v (t ∷ ts)) ≡ true
  unit_here u s = ap is_unit (factor_of-first v t ts a (true-var_eq v t.var (sym s))) ∙ u

  here : (if is_unit t.factor then Some t.var else o) ≡ Some v → (o ≡ Some v) ⊎ (is_unit (factor_of v (t ∷ ts)) ≡ true)
  here = if_cases (λ (p : Option Var). p ≡ Some v → (o ≡ Some v) ⊎ (is_unit (factor_of v (t ∷ ts)) ≡ true)) (is_unit t.factor) (Some t.var) o (λ u s. inr (unit_here u (same s))) (λ u s. inl s)

  there : is_unit (factor_of v ts) ≡ true → (o ≡ Some v) ⊎ (is_unit (factor_of v (t ∷ ts)) ≡ true)
  there u =
      ⊎_elim
      (λ k. let z = factor_of-before v ts (subst (λ (w : Var). IsBefore w ts) (sym (var_eq-true v t.var k)) a.1) in
      clash (is_unit (factor_of v ts)) u (ap is_unit z ∙ refl))
      (λ k. inr (ap is_unit (factor_of-there v t ts k) ∙ u))
      (cases_Bool (var_eq v t.var))

pub unit_var_has : (v : Var) (ts : List Term) → Ascends ts → unit_var ts ≡ Some v → is_unit (factor_of v ts) ≡ true
unit_var_has v ts a e = ⊎_elim (λ n. none n) (λ u. u) (last_unit_has v None ts a e) where
  none : None ≡ Some v → is_unit (factor_of v ts) ≡ true
  none n = cc

-- ---- normal forms ascend

before-divided : (w : Var) (g : ℕ) (ts : List Term) → IsBefore w ts → IsBefore w (divided g ts)
before-divided w g [] h = tt
before-divided w g (t ∷ ts) h = (h.0, before-divided w g ts h.1)

ascends-divided : (g : ℕ) (ts : List Term) → 0 < g → DividesAll g ts → Ascends ts → Ascends (divided g ts)
ascends-divided g [] p d a = tt
ascends-divided g (t ∷ ts) p d a = (
  false_from_ne_true (int_eq (int_div_euclid t.factor (pos g)) (pos 0)) (λ e. let z = is_number (int_div_euclid t.factor (pos g)) (pos 0) e in
      let x = exact_quotient g t.factor p d.0 in
      let m : pos g *ℤ int_div_euclid t.factor (pos g) ≡ pos g *ℤ pos 0 = ap (λ y. pos g *ℤ y) z in
      let o : t.factor ≡ pos 0 = omega (arith, ints, x, m) in
      clash (int_eq t.factor (pos 0)) ((Decides-int_eq t.factor (pos 0)).1 o) a.0),
  before-divided t.var g ts a.1,
  ascends-divided g ts p d.1 a.2,
)

abbrev NormalAscends : Normal → Type 0
NormalAscends (Kept r) = Ascends r.terms
NormalAscends Always = Unit {0}
NormalAscends Never = Unit {0}
NormalAscends TooBig = Unit {0}

divided_by-ascends : (g : ℕ) (e : Bool) (ts : List Term) (b : ℤ) → 0 < g → DividesAll g ts → Ascends ts → NormalAscends (divided_by g e ts b)
divided_by-ascends g false ts b p d a =
    let r = row false (divided g ts) (int_div_euclid b (pos g)) in
    if_cases NormalAscends (is_small r.bound && are_small r.terms) (Kept r) TooBig (λ s. ascends-divided g ts p d a) (λ s. tt)
divided_by-ascends g true ts b p d a =
    let r = row true (divided g ts) (int_div_euclid b (pos g)) in
    let k = ascends-divided g ts p d a in
    if_cases NormalAscends (nat_eq (unsigned_abs b % g) 0) (turned_if_small r) Never
    (λ z. if_cases NormalAscends (is_small r.bound && are_small r.terms) (Kept (turned r)) TooBig
    (λ s. if_cases (λ (x : Row). Ascends x.terms) (last_is_negative r.terms) (row true (negated_terms r.terms) (neg_ℤ r.bound)) r (λ l. ascends-negated r.terms k) (λ l. k))
    (λ s. tt))
    (λ z. tt)

normal_ascends : (q : Bool) (r : Row) → Ascends r.terms → NormalAscends (normal q r)
normal_ascends q r a = go r.terms a where
  go : (ts : List Term) → Ascends ts → NormalAscends (normal_terms q r.equal ts r.bound)
  go [] a = none r.equal
    where
      none : (e : Bool) → NormalAscends (without_terms e r.bound)
      none true = if_cases NormalAscends (int_eq r.bound (pos 0)) Always Never (λ e. tt) (λ e. tt)
      none false = if_cases NormalAscends (int_lt r.bound (pos 0)) Never Always (λ e. tt) (λ e. tt)
  go (t ∷ ts) a = let m = start_of q r.bound in divided_by-ascends (divisor (t ∷ ts) m) r.equal (t ∷ ts) r.bound (divisor_positive (t ∷ ts) m) (divisor_divides (t ∷ ts) m).0 a

pub kept-ascends : (q : Bool) (r s : Row) → Ascends r.terms → normal q r ≡ Kept s → Ascends s.terms
kept-ascends q r s a e = subst NormalAscends e (normal_ascends q r a)

-- ---- rows that come out of a round

-- a reduced row, or 0 <= -1
abbrev pub IsTidy : Bool → Row → Type 0
IsTidy q r = (Ascends r.terms × IsReduced q r) ⊎ (r ≡ false_row)

pub tidy_small : (q : Bool) (r : Row) → IsTidy q r → IsSmallRow r
tidy_small q r (inl h) = let s = and_parts (is_small r.bound) (are_small r.terms) h.1.small in (h.0, small_is r.bound s.0, small_factors r.terms s.1)
tidy_small q r (inr e) = subst (λ (s : Row). IsSmallRow s) (sym e) (tt, omega arith, tt)

-- opposite rows without terms are no pair
opposite_none : (ts us : List Term) → are_opposite_terms ts us ≡ true → has_no_terms ts ≡ has_no_terms us
opposite_none [] [] e = refl
opposite_none [] (u ∷ us) e = cc
opposite_none (t ∷ ts) [] e = cc
opposite_none (t ∷ ts) (u ∷ us) e = refl

opposite_last : (ts us : List Term) → are_opposite_terms ts us ≡ true → last_is_negative ts ≡ true → last_is_negative us ≡ false
opposite_last [] us o e = cc
opposite_last (t ∷ ts) [] o e = cc
opposite_last (t ∷ []) (u ∷ []) o e =
    let h = and_parts (is_opposite t u) true o in
    let k = and_parts (var_eq t.var u.var) (int_eq t.factor (neg_ℤ u.factor)) h.0 in
    let f = is_number t.factor (neg_ℤ u.factor) k.1 in
    false_from_ne_true (int_lt u.factor (pos 0)) (λ l. omega (arith, ints, e, f, l))
opposite_last (t ∷ []) (u ∷ (w ∷ ws)) o e = let h = and_parts (is_opposite t u) false o in cc (h.1)
opposite_last (t ∷ (x ∷ xs)) (u ∷ []) o e = let h = and_parts (is_opposite t u) false o in cc (h.1)
opposite_last (t ∷ (x ∷ xs)) (u ∷ (w ∷ ws)) o e =
    let h = and_parts (is_opposite t u) (are_opposite_terms (x ∷ xs) (w ∷ ws)) o in
    opposite_last (x ∷ xs) (w ∷ ws) h.1 e

-- an at-most row as an equal one
equal-reduced : (q : Bool) (r : Row) → IsReduced q r → last_is_negative r.terms ≡ false → IsReduced q (row true r.terms r.bound)
equal-reduced q r h l = record { some = h.some; divisor_one = h.divisor_one; small = h.small; last = λ _. l }

merged_tidy : (q : Bool) (r s : Row) → are_opposite r s ≡ true → int_eq (r.bound +ℤ s.bound) (pos 0) ≡ true → IsTidy q r → IsTidy q s → IsTidy q (merged_row r s)
merged_tidy q r s o z h k = go h k where
  opposite : are_opposite_terms r.terms s.terms ≡ true
  opposite = (and_parts (not (r.equal || s.equal)) (are_opposite_terms r.terms s.terms) o).1

  none : has_no_terms r.terms ≡ has_no_terms s.terms
  none = opposite_none r.terms s.terms opposite

  sum_zero : r.bound +ℤ s.bound ≡ pos 0
  sum_zero = is_number (r.bound +ℤ s.bound) (pos 0) z

  go : IsTidy q r → IsTidy q s → IsTidy q (merged_row r s)
  go (inl a) (inl b) =
      if_cases (IsTidy q) (last_is_negative r.terms) (row true s.terms s.bound) (row true r.terms r.bound)
      (λ l. inl (b.0, equal-reduced q s b.1 (opposite_last r.terms s.terms opposite l)))
      (λ l. inl (a.0, equal-reduced q r a.1 l))
  go (inl a) (inr f) = clash (has_no_terms r.terms) (none ∙ ap (λ (x : Row). has_no_terms x.terms) f) a.1.some
  go (inr e) (inl b) = clash (has_no_terms s.terms) (sym none ∙ ap (λ (x : Row). has_no_terms x.terms) e) b.1.some
  go (inr e) (inr f) =
      let x : r.bound ≡ negsuc 0 = ap (λ (y : Row). y.bound) e in
      let y : s.bound ≡ negsuc 0 = ap (λ (y : Row). y.bound) f in
      absurd (omega (arith, ints, sum_zero, x, y))

pub tidy_lasts : (q : Bool) → Lasts IsGiven (IsTidy q) q
tidy_lasts q = record {
  of_false = inr refl;
  of_normal = λ r s h e. inl (kept-ascends q r s h.0 e, kept-reduced q r s h.0 e);
  of_merged = merged_tidy q;
  again = λ r h. small_given r (tidy_small q r h);
  of_pivot = λ r e v u h k. let x = tidy_small q e k in by_row_given r v e (unit_var_has v e.terms x.0 u) (tidy_small q r h) x;
}

pub tidy_survives : (q : Bool) → Survives IsGiven (IsTidy q) q
tidy_survives q = record {
  lasts = tidy_lasts q;
  of_unit = λ r e v u h k. by_row_given r v e u (tidy_small q r h) (tidy_small q e k);
  of_cancelled = λ r e v h k. let x = tidy_small q r h in let y = tidy_small q e k in
      combined_given r.equal (pos (unsigned_abs (factor_of v e.terms))) r (if int_lt (factor_of v e.terms) (pos 0) then factor_of v r.terms else neg_ℤ (factor_of v r.terms)) e
      (factor_small v e y) (turn_small (factor_of v e.terms) (factor_of v r.terms) (factor_small v r x)) x y;
  of_pair = λ r s v h k. let x = tidy_small q r h in let y = tidy_small q s k in
      combined_given false (factor_of v s.terms) r (neg_ℤ (factor_of v r.terms)) s (factor_small v s y) (neg_small (factor_of v r.terms) (factor_small v r x)) x y;
}

-- ---- what comes out of a call

pub not_false : (q : Bool) (r : Row) → IsTidy q r → is_false_row r ≡ false → IsNormalAs q r
not_false q r (inl h) e = (h.0, normal-reduced q r h.1)
not_false q r (inr f) e = clash (is_false_row r) (ap is_false_row f) e

pub none_false : (q : Bool) (is : List Item) → Has (IsTidy q) is → any_false is ≡ false → AllRows (IsNormalAs q) (rows_of is)
none_false q [] h e = tt
none_false q (i ∷ is) h e = let k = or_parts (is_false_row i.row) (any_false is) e in (not_false q i.row h.0 k.0, none_false q is h.1 k.1)

pub collapsed_normal : (q : Bool) (is : List Item) → Has (IsTidy q) is → AreNormal q (rows_of (collapsed is))
collapsed_normal q is h =
    if_cases (λ (js : List Item). AreNormal q (rows_of js)) (any_false is) (false_item ∷ []) is (λ e. inl refl) (λ e. inr (none_false q is h e))

pub length-rows_of : (is : List Item) → length (rows_of is) ≡ length is
length-rows_of [] = refl
length-rows_of (i ∷ is) = ap suc (length-rows_of is)

round_fits : (q : Bool) (is : List Item) → ItemsGiven is → ItemsFit q (round q is).items
round_fits q is h =
    let some = take row_limit (in_form q is) in
    let f = faced_all (next_made some) some some in
    let k = cut_form_has IsGiven (IsTidy q) q (tidy_lasts q) is h in
    (round_at_most q is, collapsed_normal q (one_each (sorted f)) (ordered_has (IsTidy q) (inr refl) f (faced_all_has IsGiven (IsTidy q) q (tidy_lasts q) (next_made some) some some k k)))

pub tidied_fits : (q : Bool) (is : List Item) → ItemsGiven is → ItemsFit q (tidy_items q is).items
tidied_fits q is h = each_round IsGiven (λ t. ItemsFit q t.items) q (round_fits q) (next_has IsGiven (IsTidy q) q (tidy_lasts q)) (λ t b k. k) turn_limit is h

normal_tidy : (q : Bool) (is : List Item) → AllRows (IsNormalAs q) (rows_of is) → Has (IsTidy q) is
normal_tidy q [] h = tt
normal_tidy q (i ∷ is) h = (inl (h.0.0, kept-reduced q i.row i.row h.0.0 h.0.1), normal_tidy q is h.1)

false_tidy : (q : Bool) (is : List Item) → rows_of is ≡ false_row ∷ [] → Has (IsTidy q) is
false_tidy q [] e = tt
false_tidy q (i ∷ is) e = (inr (head e), false_rest q is (tail e)) where
  head : (i.row ∷ rows_of is) ≡ (false_row ∷ []) → i.row ≡ false_row
  head e = cc

  tail : (i.row ∷ rows_of is) ≡ (false_row ∷ []) → rows_of is ≡ []
  tail e = cc

  false_rest : (q : Bool) (is : List Item) → rows_of is ≡ [] → Has (IsTidy q) is
  false_rest q [] e = tt
  false_rest q (j ∷ js) e = cc

pub fits_tidy : (q : Bool) (is : List Item) → ItemsFit q is → Has (IsTidy q) is
fits_tidy q is h = ⊎_elim (λ e. false_tidy q is e) (λ k. normal_tidy q is k) h.1

pub eliminated_fits : (q : Bool) (v : Var) (is : List Item) → ItemsFit q is → ItemsFit q (eliminate_item q v is).items
eliminated_fits q v is h = each_elimination IsGiven (IsTidy q) q (tidy_survives q) (ItemsFit q) (tidied_fits q) v is (fits_tidy q is h) h

-- ---- systems

pub rows_of-items_from : (n : ℕ) (rs : List Row) → rows_of (items_from n rs) ≡ rs
rows_of-items_from n [] = refl
rows_of-items_from n (r ∷ rs) = ap (λ (ss : List Row). r ∷ ss) (rows_of-items_from (suc n) rs)

pub items_fit : (n : ℕ) (rs : List Row) → (length rs ≤ row_limit) × AreNormal false rs → ItemsFit false (items_from n rs)
items_fit n rs h =
    let e = rows_of-items_from n rs in
    (subst (λ m. m ≤ row_limit) (ap length (sym e) ∙ length-rows_of (items_from n rs)) h.0, subst (AreNormal false) (sym e) h.1)

pub system_fits : (is : List Item) (w : Bool) → ItemsFit false is → Fits (system (rows_of is) w)
system_fits is w h = (subst (λ m. m ≤ row_limit) (sym (length-rows_of is)) h.0, h.1)

pub tidy_fits : (s : System) → ItemsGiven (items_from 0 s.rows) → Fits (tidy s)
tidy_fits s h =
    let is = items_from 0 s.rows in
    system_fits (tidy_items false is).items (s.weak || (tidy_items false is).lost) (tidied_fits false is h)

pub eliminate_fits : (s : System) (v : Var) → Fits s → Fits (eliminate s v).system
eliminate_fits s v h =
    let is = items_from 0 s.rows in
    system_fits (eliminate_item false v is).items (s.weak || (eliminate_item false v is).lost) (eliminated_fits false v is (items_fit 0 s.rows h))
