-- Rows over some variables: tidying and elimination add no variable, and each variable of a tidied row counts.
use Rattle.std.proofs.Common.{◌≡◌, ℕ, ◌%◌, Bool, true, false, ◌&&◌, List, [], ◌∷◌, ◌++◌, ℤ, pos, neg_ℤ, ◌+ℤ◌, ◌*ℤ◌, refl, sym, subst, ◌∙◌, inl, inr, int_eq, int_lt, unsigned_abs, nat_eq}
use Rattle.std.specs.Prelude.{if◌then◌else◌}
use Rattle.std.specs.Int.{int_div_euclid}
use Rattle.std.proofs.lemmas.Bool.Decides.{Decides-int_eq}
use Rattle.affine_systems.specs.declared.row.Var.{Var}
use Rattle.affine_systems.specs.declared.row.Term.{Term}
use Rattle.affine_systems.specs.declared.row.Row.{Row}
use Rattle.affine_systems.specs.Terms.{var_eq, var_lt, term, term_before, add_term, add_terms, negated_terms, renamed_terms, IsBefore, Ascends}
use Rattle.affine_systems.specs.Rows.{row, combined_terms}
use Rattle.affine_systems.specs.Points.{value, only, factor_of}
use Rattle.affine_systems.specs.Normal.{divisor, divided, last_is_negative, is_small, are_small, Normal, Kept, Always, Never, TooBig, without_terms, turned, turned_if_small, divided_by, start_of, normal_terms, normal}
use Rattle.affine_systems.proofs.Basics.{if_cases}
use Rattle.affine_systems.proofs.TermLaws.{true-var_eq}
use Rattle.affine_systems.proofs.AscendLaws.{var_lt-apart, var_eq-sym, ascends-combined, factor_of-there, factor_of-first}
use Rattle.affine_systems.proofs.ReducedLaws.{kept-reduced}
use Rattle.affine_systems.proofs.FitLaws.{IsTidy, kept-ascends, tidy_small, tidy_lasts}
use Rattle.affine_systems.proofs.LastLaws.{Lasts, Survives}
use Rattle.affine_systems.proofs.LackLaws.{Nil, factor-only}
use Rattle.laws_lines.specs.Variables.{EachVar}
use Rattle.fx_lists.proofs.Booleans.{clash}

-- ---- terms

pub each_more : (such other : Var → Type 0) → ((v : Var) → such v → other v) → (ts : List Term) → EachVar such ts → EachVar other ts
each_more such other f [] h = tt
each_more such other f (t ∷ ts) h = (f t.var h.0, each_more such other f ts h.1)

pub each_both : (such other : Var → Type 0) (ts : List Term) → EachVar such ts → EachVar other ts → EachVar (λ v. such v × other v) ts
each_both such other [] h k = tt
each_both such other (t ∷ ts) h k = ((h.0, k.0), each_both such other ts h.1 k.1)

pub each-append : (such : Var → Type 0) (ts us : List Term) → EachVar such ts → EachVar such us → EachVar such (ts ++ us)
each-append such [] us h k = k
each-append such (t ∷ ts) us h k = (h.0, each-append such ts us h.1 k)

pub each-term_before : (such : Var → Type 0) (v : Var) (f : ℤ) (ts : List Term) → such v → EachVar such ts → EachVar such (term_before v f ts)
each-term_before such v f ts k h = if_cases (EachVar such) (int_eq f (pos 0)) ts (term v f ∷ ts) (λ e. h) (λ e. (k, h))

each-add_term : (such : Var → Type 0) (v : Var) (f : ℤ) (ts : List Term) → such v → EachVar such ts → EachVar such (add_term v f ts)
each-add_term such v f [] k h = each-term_before such v f [] k tt
each-add_term such v f (t ∷ ts) k h =
    if_cases (EachVar such) (var_eq v t.var) (term_before v (f +ℤ t.factor) ts) (if var_lt v t.var then term_before v f (t ∷ ts) else t ∷ add_term v f ts)
    (λ e. each-term_before such v (f +ℤ t.factor) ts k h.1)
    (λ e. if_cases (EachVar such) (var_lt v t.var) (term_before v f (t ∷ ts)) (t ∷ add_term v f ts)
    (λ l. each-term_before such v f (t ∷ ts) k h)
    (λ l. (h.0, each-add_term such v f ts k h.1)))

pub each-add_terms : (such : Var → Type 0) (c : ℤ) (ts us : List Term) → EachVar such ts → EachVar such us → EachVar such (add_terms c ts us)
each-add_terms such c [] us h k = k
each-add_terms such c (t ∷ ts) us h k = each-add_term such t.var (c *ℤ t.factor) (add_terms c ts us) h.0 (each-add_terms such c ts us h.1 k)

pub each-combined : (such : Var → Type 0) (p : ℤ) (ts : List Term) (q : ℤ) (us : List Term) → EachVar such ts → EachVar such us → EachVar such (combined_terms p ts q us)
each-combined such p ts q us h k = each-add_terms such p ts (add_terms q us []) h (each-add_terms such q us [] k tt)

each-negated : (such : Var → Type 0) (ts : List Term) → EachVar such ts → EachVar such (negated_terms ts)
each-negated such [] h = tt
each-negated such (t ∷ ts) h = (h.0, each-negated such ts h.1)

each-divided : (such : Var → Type 0) (g : ℕ) (ts : List Term) → EachVar such ts → EachVar such (divided g ts)
each-divided such g [] h = tt
each-divided such g (t ∷ ts) h = (h.0, each-divided such g ts h.1)

pub each-renamed : (such other : Var → Type 0) (f : Var → Var) → ((v : Var) → such v → other (f v)) → (ts : List Term) → EachVar such ts → EachVar other (renamed_terms f ts)
each-renamed such other f g [] h = tt
each-renamed such other f g (t ∷ ts) h = each-add_term other (f t.var) t.factor (renamed_terms f ts) (g t.var h.0) (each-renamed such other f g ts h.1)

-- ---- normal forms

abbrev NormalOver : (Var → Type 0) → Normal → Type 0
NormalOver such (Kept r) = EachVar such r.terms
NormalOver such Always = Unit {0}
NormalOver such Never = Unit {0}
NormalOver such TooBig = Unit {0}

divided_over : (such : Var → Type 0) (g : ℕ) (e : Bool) (ts : List Term) (b : ℤ) → EachVar such ts → NormalOver such (divided_by g e ts b)
divided_over such g false ts b h =
    let r = row false (divided g ts) (int_div_euclid b (pos g)) in
    if_cases (NormalOver such) (is_small r.bound && are_small r.terms) (Kept r) TooBig (λ s. each-divided such g ts h) (λ s. tt)
divided_over such g true ts b h =
    let r = row true (divided g ts) (int_div_euclid b (pos g)) in
    let k = each-divided such g ts h in
    if_cases (NormalOver such) (nat_eq (unsigned_abs b % g) 0) (turned_if_small r) Never
    (λ z. if_cases (NormalOver such) (is_small r.bound && are_small r.terms) (Kept (turned r)) TooBig
    (λ s. if_cases (λ (x : Row). EachVar such x.terms) (last_is_negative r.terms) (row true (negated_terms r.terms) (neg_ℤ r.bound)) r (λ l. each-negated such r.terms k) (λ l. k))
    (λ s. tt))
    (λ z. tt)

normal_over : (such : Var → Type 0) (q : Bool) (r : Row) → EachVar such r.terms → NormalOver such (normal q r)
normal_over such q r h = go r.terms h where
  go : (ts : List Term) → EachVar such ts → NormalOver such (normal_terms q r.equal ts r.bound)
  go [] k = none r.equal
    where
      none : (e : Bool) → NormalOver such (without_terms e r.bound)
      none true = if_cases (NormalOver such) (int_eq r.bound (pos 0)) Always Never (λ e. tt) (λ e. tt)
      none false = if_cases (NormalOver such) (int_lt r.bound (pos 0)) Never Always (λ e. tt) (λ e. tt)
  go (t ∷ ts) k = divided_over such (divisor (t ∷ ts) (start_of q r.bound)) r.equal (t ∷ ts) r.bound k

kept_over : (such : Var → Type 0) (q : Bool) (r s : Row) → EachVar such r.terms → normal q r ≡ Kept s → EachVar such s.terms
kept_over such q r s h e = subst (NormalOver such) e (normal_over such q r h)

-- ---- rows that go in, and rows that come out

abbrev pub Given : (Var → Type 0) → Row → Type 0
Given such r = Ascends r.terms × EachVar such r.terms

abbrev pub Neat : Bool → (Var → Type 0) → Row → Type 0
Neat q such r = IsTidy q r × EachVar such r.terms

pub neat_given : (q : Bool) (such : Var → Type 0) (r : Row) → Neat q such r → Given such r
neat_given q such r h = ((tidy_small q r h.0).0, h.1)

pub neat_more : (q : Bool) (such other : Var → Type 0) → ((v : Var) → such v → other v) → (r : Row) → Neat q such r → Neat q other r
neat_more q such other f r h = (h.0, each_more such other f r.terms h.1)

pub over_lasts : (such : Var → Type 0) (q : Bool) → Lasts (Given such) (Neat q such) q
over_lasts such q = record {
  of_false = (inr refl, tt);
  of_normal = λ r s h e. (inl (kept-ascends q r s h.0 e, kept-reduced q r s h.0 e), kept_over such q r s h.1 e);
  of_merged = λ r s o z h k. (
    (tidy_lasts q).of_merged r s o z h.0 k.0,
    if_cases (λ (x : Row). EachVar such x.terms) (last_is_negative r.terms) (row true s.terms s.bound) (row true r.terms r.bound) (λ e. k.1) (λ e. h.1),
  );
  again = λ r h. neat_given q such r h;
  of_pivot = λ r e v t h k. let c = neg_ℤ (factor_of v r.terms *ℤ factor_of v e.terms) in
      (ascends-combined (pos 1) r.terms c e.terms, each-combined such (pos 1) r.terms c e.terms h.1 k.1);
}

pub over_survives : (such : Var → Type 0) (q : Bool) → Survives (Given such) (Neat q such) q
over_survives such q = record {
  lasts = over_lasts such q;
  of_unit = λ r e v t h k. let c = neg_ℤ (factor_of v r.terms *ℤ factor_of v e.terms) in
      (ascends-combined (pos 1) r.terms c e.terms, each-combined such (pos 1) r.terms c e.terms h.1 k.1);
  of_cancelled = λ r e v h k. let a = factor_of v e.terms in let c = factor_of v r.terms in let x = if int_lt a (pos 0) then c else neg_ℤ c in
      (ascends-combined (pos (unsigned_abs a)) r.terms x e.terms, each-combined such (pos (unsigned_abs a)) r.terms x e.terms h.1 k.1);
  of_pair = λ r s v h k. let f = factor_of v s.terms in let g = neg_ℤ (factor_of v r.terms) in
      (ascends-combined f r.terms g s.terms, each-combined such f r.terms g s.terms h.1 k.1);
}

-- ---- each variable of ascending terms counts

-- at the point that is 1 at the variable and 0 elsewhere
abbrev Counts : List Term → Var → Type 0
Counts ts v = value (only v) ts ≡ pos 0 → ⊥

tail_count : (t : Term) (us vs : List Term) → IsBefore t.var vs → EachVar (Counts us) vs → EachVar (Counts (t ∷ us)) vs
tail_count t us [] b h = tt
tail_count t us (w ∷ vs) b h = ((λ z. h.0 (skip z)), tail_count t us vs b.1 h.1) where
  skip : value (only w.var) (t ∷ us) ≡ pos 0 → value (only w.var) us ≡ pos 0
  skip z = sym (factor-only w.var us) ∙ (sym (factor_of-there w.var t us (var_eq-sym t.var w.var (var_lt-apart t.var w.var b.0))) ∙ (factor-only w.var (t ∷ us) ∙ z))

all_count : (ts : List Term) → Ascends ts → EachVar (Counts ts) ts
all_count [] a = tt
all_count (t ∷ ts) a = ((λ z. clash (int_eq t.factor (pos 0)) ((Decides-int_eq t.factor (pos 0)).1 (none z)) a.0), tail_count t ts ts a.1 (all_count ts a.2)) where
  none : value (only t.var) (t ∷ ts) ≡ pos 0 → t.factor ≡ pos 0
  none z = sym (factor_of-first t.var t ts a (true-var_eq t.var t.var refl)) ∙ (factor-only t.var (t ∷ ts) ∙ z)

-- so variables at which a row comes to 0 are none of its own
pub neat_without : (q : Bool) (such bad : Var → Type 0) (r : Row) → Neat q such r → ((w : Var) → bad w → Nil (only w) r) → Neat q (λ w. such w × (bad w → ⊥)) r
neat_without q such bad r h n = (
  h.0,
  each_more (λ w. such w × Counts r.terms w) (λ w. such w × (bad w → ⊥)) (λ w k. (k.0, λ b. k.1 (n w b))) r.terms
      (each_both such (Counts r.terms) r.terms h.1 (all_count r.terms (tidy_small q r h.0).0)),
)
