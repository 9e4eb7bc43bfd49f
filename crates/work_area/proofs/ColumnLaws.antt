-- Rows of few variables: how long they are, and that what is made of them has no others.
use Rattle.std.proofs.Common.{◌≡◌, ◌∙◌, ℕ, ◌≤◌, ◌<◌, get_or, Bool, true, false, ◌||◌, List, [], ◌∷◌, length, arith, ap, sym, subst, ⊎_elim, ℤ, pos, neg_ℤ, ◌*ℤ◌, ◌+ℤ◌, int_lt, int_eq, unsigned_abs}
use Rattle.std.specs.Prelude.{if◌then◌else◌, nat_eq, ◌&&◌, ◌%◌}
use Rattle.std.proofs.lemmas.Bool.{cases_Bool}
use Rattle.affine_systems.specs.declared.row.Var.{Var}
use Rattle.affine_systems.specs.declared.row.Term.{Term}
use Rattle.affine_systems.specs.declared.row.Row.{Row}
use Rattle.affine_systems.specs.declared.items.Item.{Item}
use Rattle.affine_systems.specs.Terms.{var_eq, var_lt, term, term_before, add_term, add_terms, negated_terms, IsBefore, Ascends}
use Rattle.affine_systems.specs.Points.{factor_of}
use Rattle.affine_systems.specs.Rows.{row, combined_terms}
use Rattle.affine_systems.specs.Items.{AllItems}
use Rattle.affine_systems.specs.Places.{has_var}
use Rattle.std.specs.Int.{int_div_euclid}
use Rattle.affine_systems.specs.Given.{IsGiven}
use Rattle.affine_systems.proofs.FitLaws.{IsTidy, tidy_lasts, tidy_survives}
use Rattle.affine_systems.proofs.ItemSteps.{item_at as all_at}
use Rattle.affine_systems.specs.Normal.{is_small, are_small, without_terms, Normal, Kept, Always, Never, TooBig, normal, normal_terms, divisor, divided, divided_by, turned_if_small, turned, start_of, last_is_negative}
use Rattle.affine_systems.proofs.Basics.{if_cases}
use Rattle.affine_systems.proofs.TermLaws.{var_eq-true}
use Rattle.affine_systems.proofs.AscendLaws.{var_lt-apart, var_eq-sym, ascends-combined, before_later}
use Rattle.affine_systems.proofs.LastLaws.{Lasts, Survives}
use Rattle.work_area.specs.Columns.{AreAmong}

-- ---- how many terms there are

among_later : (u : Term) (us ts : List Term) → IsBefore u.var ts → AreAmong (u ∷ us) ts → AreAmong us ts
among_later u us [] b h = tt
among_later u us (t ∷ ts) b h =
    let e : var_eq t.var u.var ≡ false = var_eq-sym u.var t.var (var_lt-apart u.var t.var b.0) in
    (ap (λ x. x || has_var t.var us) (sym e) ∙ h.0, among_later u us ts b.1 h.1)

pub found_before : (u : Var) (us : List Term) (v : Var) → IsBefore u us → has_var v us ≡ true → var_lt u v ≡ true
found_before u [] v b h = cc
found_before u (w ∷ us) v b h = ⊎_elim
    (λ e. subst (λ (x : Var). var_lt u x ≡ true) (sym (var_eq-true v w.var e)) b.0)
    (λ e. found_before u us v b.1 (ap (λ x. x || has_var v us) (sym e) ∙ h))
    (cases_Bool (var_eq v w.var))

pub among_count : (us ts : List Term) → Ascends us → Ascends ts → AreAmong us ts → length ts ≤ length us
among_count us [] a b h = omega arith
among_count [] (t ∷ ts) a b h = let e = h.0 in cc
among_count (u ∷ us) (t ∷ ts) a b h = ⊎_elim (same (λ g. among_count us ts a.2 b.2 g)) (other (λ g. among_count us (t ∷ ts) a.2 b g)) (cases_Bool (var_eq t.var u.var)) where
  same : (AreAmong us ts → length ts ≤ length us) → var_eq t.var u.var ≡ true → length (t ∷ ts) ≤ length (u ∷ us)
  same ih e = let l = ih (among_later u us ts (subst (λ (x : Var). IsBefore x ts) (var_eq-true t.var u.var e) b.1) h.1) in omega (arith, l)

  other : (AreAmong us (t ∷ ts) → length (t ∷ ts) ≤ length us) → var_eq t.var u.var ≡ false → length (t ∷ ts) ≤ length (u ∷ us)
  other ih e =
      let i : has_var t.var us ≡ true = ap (λ x. x || has_var t.var us) (sym e) ∙ h.0 in
      let f : var_lt u.var t.var ≡ true = found_before u.var us t.var a.1 i in
      let l = ih (i, among_later u us ts (before_later u.var t.var ts f b.1) h.1) in
      omega (arith, l)

-- ---- what is made of terms

among_before : (us : List Term) (v : Var) (f : ℤ) (ts : List Term) → has_var v us ≡ true → AreAmong us ts → AreAmong us (term_before v f ts)
among_before us v f ts h k = if_cases (AreAmong us) (int_eq f (pos 0)) ts (term v f ∷ ts) (λ _. k) (λ _. (h, k))

pub among_added : (us : List Term) (v : Var) (f : ℤ) (ts : List Term) → has_var v us ≡ true → AreAmong us ts → AreAmong us (add_term v f ts)
among_added us v f [] h k = among_before us v f [] h k
among_added us v f (t ∷ ts) h k =
    if_cases (AreAmong us) (var_eq v t.var) (term_before v (f +ℤ t.factor) ts) (if var_lt v t.var then term_before v f (t ∷ ts) else t ∷ add_term v f ts)
    (λ _. among_before us v (f +ℤ t.factor) ts h k.1)
    (λ _. if_cases (AreAmong us) (var_lt v t.var) (term_before v f (t ∷ ts)) (t ∷ add_term v f ts) (λ _. among_before us v f (t ∷ ts) h k) (λ _. (k.0, among_added us v f ts h k.1)))

among_scaled : (us : List Term) (c : ℤ) (ts rs : List Term) → AreAmong us ts → AreAmong us rs → AreAmong us (add_terms c ts rs)
among_scaled us c [] rs h k = k
among_scaled us c (t ∷ ts) rs h k = among_added us t.var (c *ℤ t.factor) (add_terms c ts rs) h.0 (among_scaled us c ts rs h.1 k)

pub among_combined : (us : List Term) (p : ℤ) (ts : List Term) (q : ℤ) (rs : List Term) → AreAmong us ts → AreAmong us rs → AreAmong us (combined_terms p ts q rs)
among_combined us p ts q rs h k = among_scaled us p ts (add_terms q rs []) h (among_scaled us q rs [] k tt)

among_divided : (us : List Term) (g : ℕ) (ts : List Term) → AreAmong us ts → AreAmong us (divided g ts)
among_divided us g [] h = tt
among_divided us g (t ∷ ts) h = (h.0, among_divided us g ts h.1)

among_negated : (us ts : List Term) → AreAmong us ts → AreAmong us (negated_terms ts)
among_negated us [] h = tt
among_negated us (t ∷ ts) h = (h.0, among_negated us ts h.1)

-- rows among columns
abbrev pub RowAmong : List Term → Row → Type 0
RowAmong us r = AreAmong us r.terms

among_turned : (us : List Term) (r : Row) → RowAmong us r → RowAmong us (turned r)
among_turned us r h = if_cases (RowAmong us) (last_is_negative r.terms) (row true (negated_terms r.terms) (neg_ℤ r.bound)) r (λ _. among_negated us r.terms h) (λ _. h)

abbrev NormalAmong : List Term → Normal → Type 0
NormalAmong us (Kept r) = RowAmong us r
NormalAmong us Always = Unit {0}
NormalAmong us Never = Unit {0}
NormalAmong us TooBig = Unit {0}

divided_among : (us : List Term) (g : ℕ) (e : Bool) (ts : List Term) (b : ℤ) → AreAmong us ts → NormalAmong us (divided_by g e ts b)
divided_among us g false ts b h =
    let r = row false (divided g ts) (int_div_euclid b (pos g)) in
    if_cases (NormalAmong us) (is_small r.bound && are_small r.terms) (Kept r) TooBig (λ s. among_divided us g ts h) (λ s. tt)
divided_among us g true ts b h =
    let r = row true (divided g ts) (int_div_euclid b (pos g)) in
    if_cases (NormalAmong us) (nat_eq (unsigned_abs b % g) 0) (turned_if_small r) Never
    (λ z. if_cases (NormalAmong us) (is_small r.bound && are_small r.terms) (Kept (turned r)) TooBig (λ s. among_turned us r (among_divided us g ts h)) (λ s. tt))
    (λ z. tt)

normal_among : (us : List Term) (q : Bool) (r : Row) → RowAmong us r → NormalAmong us (normal q r)
normal_among us q r a = go r.terms a where
  go : (ts : List Term) → AreAmong us ts → NormalAmong us (normal_terms q r.equal ts r.bound)
  go [] a = none r.equal
    where
      none : (e : Bool) → NormalAmong us (without_terms e r.bound)
      none true = if_cases (NormalAmong us) (int_eq r.bound (pos 0)) Always Never (λ e. tt) (λ e. tt)
      none false = if_cases (NormalAmong us) (int_lt r.bound (pos 0)) Never Always (λ e. tt) (λ e. tt)
  go (t ∷ ts) a = divided_among us (divisor (t ∷ ts) (start_of q r.bound)) r.equal (t ∷ ts) r.bound a

-- ---- what lasts

-- given rows among columns, and tidy ones
abbrev pub Given : List Term → Row → Type 0
Given us r = IsGiven r × RowAmong us r

abbrev pub TidyIn : List Term → Bool → Row → Type 0
TidyIn us q r = IsTidy q r × RowAmong us r

pub columns_last : (us : List Term) (q : Bool) → Lasts (Given us) (TidyIn us q) q
columns_last us q = let l = tidy_lasts q in record {
  of_false = (l.of_false, tt);
  of_normal = λ r s h e. (l.of_normal r s h.0 e, subst (NormalAmong us) e (normal_among us q r h.1));
  of_merged = λ r s o z h k. (l.of_merged r s o z h.0 k.0, if_cases (RowAmong us) (last_is_negative r.terms) (row true s.terms s.bound) (row true r.terms r.bound) (λ _. k.1) (λ _. h.1));
  again = λ r h. (l.again r h.0, h.1);
  of_pivot = λ r e v u h k. (l.of_pivot r e v u h.0 k.0, among_combined us (pos 1) r.terms (neg_ℤ (factor_of v r.terms *ℤ factor_of v e.terms)) e.terms h.1 k.1);
}

pub columns_survive : (us : List Term) (q : Bool) → Survives (Given us) (TidyIn us q) q
columns_survive us q = let l = tidy_survives q in record {
  lasts = columns_last us q;
  of_unit = λ r e v u h k. (l.of_unit r e v u h.0 k.0, among_combined us (pos 1) r.terms (neg_ℤ (factor_of v r.terms *ℤ factor_of v e.terms)) e.terms h.1 k.1);
  of_cancelled = λ r e v h k. (
    l.of_cancelled r e v h.0 k.0,
    among_combined us (pos (unsigned_abs (factor_of v e.terms))) r.terms (if int_lt (factor_of v e.terms) (pos 0) then factor_of v r.terms else neg_ℤ (factor_of v r.terms)) e.terms h.1 k.1,
  );
  of_pair = λ r s v h k. (l.of_pair r s v h.0 k.0, among_combined us (factor_of v s.terms) r.terms (neg_ℤ (factor_of v r.terms)) s.terms h.1 k.1);
}

-- ---- how long what is made is

pub combined_short : (n : ℕ) (us : List Term) (p : ℤ) (ts : List Term) (q : ℤ) (rs : List Term) → Ascends us → length us ≤ n → AreAmong us ts → AreAmong us rs → length (combined_terms p ts q rs) ≤ n
combined_short n us p ts q rs a l h k =
    let c = among_count us (combined_terms p ts q rs) a (ascends-combined p ts q rs) (among_combined us p ts q rs h k) in
    omega (arith, c, l)

pub among_at : (us : List Term) (is : List Item) (k : ℕ) (d : Item) → AllItems (λ i. AreAmong us i.row.terms) is → k < length is → AreAmong us (get_or is k d).row.terms
among_at us is k d h l = all_at (λ i. AreAmong us i.row.terms) is k d h l
