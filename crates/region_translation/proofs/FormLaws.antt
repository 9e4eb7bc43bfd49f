-- The values of sums of forms, and of forms of the callee by the names of its cells and in the caller.
use Rattle.std.proofs.Common.{◌≡◌, ℕ, List, [], ◌∷◌, ◌&&◌, Bool, true, false, refl, sym, ap, ◌∙◌, subst, arith, ℤ, pos, negsuc, ◌+ℤ◌, ◌-ℤ◌, ◌*ℤ◌, Option, Some, None}
use Rattle.std.specs.Prelude.{if◌then◌else◌}
use Rattle.std.specs.Ordering.{int_eq}
use Rattle.std.proofs.lemmas.Int.{ints}
use Rattle.std.proofs.lemmas.Bool.{and_parts}
use Rattle.affine_systems.specs.declared.row.Var.{Var}
use Rattle.affine_systems.specs.declared.row.Var.TheVariants.{Cell, Exit, Phi, Aux}
use Rattle.affine_systems.specs.declared.row.Term.{Term}
use Rattle.affine_systems.specs.declared.row.Row.{Row}
use Rattle.affine_systems.specs.Terms.{has_no_terms}
use Rattle.affine_systems.specs.Rows.{combined_terms}
use Rattle.affine_systems.specs.Normal.{is_small, are_small}
use Rattle.affine_systems.specs.Points.{Point, value, Holds}
use Rattle.affine_systems.proofs.Basics.{distributes}
use Rattle.affine_systems.proofs.ElimLaws.{value-combined}
use Rattle.affine_systems.proofs.TidyLaws.{has_no_terms-true}
use Rattle.affine_forms.specs.declared.affine.Affine.{Affine}
use Rattle.affine_forms.specs.Forms.{affine, limited, sum_of}
use Rattle.affine_forms.specs.Claims.{form_value}
use Rattle.affine_forms.specs.Comparisons.{var_form, same_row}
use Rattle.affine_forms.proofs.RowLaws.{same_holds}
use Rattle.call_translation.specs.transformer_algebra.Claims.{Scene, AtStart, Means}
use Rattle.call_equations.specs.Sides.{SidesTree}
use Rattle.call_equations.specs.Forms.{offset, less, is_zero, equation}
use Rattle.call_equations.specs.Cells.{var_in_caller, terms_in_caller, in_caller, named, named_terms, named_form}
use Rattle.region_translation.specs.Claims.{FormsMean}
use Rattle.fx_lists.proofs.Options.{some_is, none_some}
use Rattle.fx_lists.proofs.Numbers.{is_number}
use Rattle.affine_forms.proofs.RowValues.{same_back, var_value}

-- ---- small forms

limited_is : (f h : Affine) → limited f ≡ Some h → f ≡ h
limited_is f h = go (is_small f.constant && are_small f.terms)
  where
    go : (b : Bool) → (if b then Some f else None) ≡ Some h → f ≡ h
    go true e = some_is f h e
    go false e = none_some h e

pub number_value : (q : Point) (n : ℤ) (h : Affine) → limited (affine [] n) ≡ Some h → form_value q h ≡ n
number_value q n h e = sym (ap (form_value q) (limited_is (affine [] n) h e)) ∙ nothing n
  where
    nothing : (n : ℤ) → pos 0 +ℤ n ≡ n
    nothing n = omega (arith, ints)

-- ---- sums

pub record Sum (q : Point) (o : Option Affine) (k : ℤ) (u : Option Affine) (h : Affine) : Type 0 where
  pub first : Affine
  pub second : Affine
  pub is_first : o ≡ Some first
  pub is_second : u ≡ Some second
  pub total : form_value q h ≡ form_value q first +ℤ (k *ℤ form_value q second)

plus_value : (q : Point) (f : Affine) (k : ℤ) (g : Affine) → form_value q (affine (combined_terms (pos 1) f.terms k g.terms) (f.constant +ℤ (k *ℤ g.constant))) ≡ form_value q f +ℤ (k *ℤ form_value q g)
plus_value q f k g =
    let d = distributes k (value q g.terms) g.constant in
    ap (λ z. z +ℤ (f.constant +ℤ (k *ℤ g.constant))) (value-combined q (pos 1) f.terms k g.terms) ∙ sums (value q f.terms) f.constant (k *ℤ value q g.terms) (k *ℤ g.constant) (k *ℤ (value q g.terms +ℤ g.constant)) d
  where
    sums : (a b x y z : ℤ) → z ≡ x +ℤ y → ((pos 1 *ℤ a) +ℤ x) +ℤ (b +ℤ y) ≡ (a +ℤ b) +ℤ z
    sums a b x y z e = omega (arith, ints)

pub sum_value : (q : Point) (o : Option Affine) (k : ℤ) (u : Option Affine) (h : Affine) → sum_of o k u ≡ Some h → Sum q o k u h
sum_value q None k u h e = none_some h e
sum_value q (Some f) k None h e = none_some h e
sum_value q (Some f) k (Some g) h e =
    let same = limited_is (affine (combined_terms (pos 1) f.terms k g.terms) (f.constant +ℤ (k *ℤ g.constant))) h e in
    record { first = f; second = g; is_first = refl; is_second = refl; total = sym (ap (form_value q) same) ∙ plus_value q f k g }

-- how far a variable is from a form
pub record Offset (q : Point) (v : Var) (low : Option Affine) (h : Affine) : Type 0 where
  pub base : Affine
  pub is_base : low ≡ Some base
  pub total : form_value q h ≡ q v -ℤ form_value q base

minus : (x y : ℤ) → x +ℤ (negsuc 0 *ℤ y) ≡ x -ℤ y
minus x y = omega (arith, ints)

pub offset_value : (q : Point) (v : Var) (low : Option Affine) (h : Affine) → offset v low ≡ Some h → Offset q v low h
offset_value q v low h e =
    let s = sum_value q (Some (var_form v)) (negsuc 0) low h e in
    let f : form_value q s.first ≡ q v = sym (ap (form_value q) (some_is (var_form v) s.first s.is_first)) ∙ var_value q v in
    record { base = s.second; is_base = s.is_second; total = s.total ∙ (ap (λ z. z +ℤ (negsuc 0 *ℤ form_value q s.second)) f ∙ minus (q v) (form_value q s.second)) }

pub record Less (q : Point) (o u : Option Affine) (h : Affine) : Type 0 where
  pub first : Affine
  pub second : Affine
  pub is_first : o ≡ Some first
  pub is_second : u ≡ Some second
  pub total : form_value q h ≡ form_value q first -ℤ form_value q second

pub less_value : (q : Point) (o u : Option Affine) (h : Affine) → less o u ≡ Some h → Less q o u h
less_value q o u h e =
    let s = sum_value q o (negsuc 0) u h e in
    record { first = s.first; second = s.second; is_first = s.is_first; is_second = s.is_second; total = s.total ∙ minus (form_value q s.first) (form_value q s.second) }

-- two forms whose difference is 0
pub record Same (q : Point) (o u : Option Affine) : Type 0 where
  pub first : Affine
  pub second : Affine
  pub is_first : o ≡ Some first
  pub is_second : u ≡ Some second
  pub same : form_value q first ≡ form_value q second

pub zero_same : (q : Point) (o u : Option Affine) → is_zero (less o u) ≡ true → Same q o u
zero_same q o u e = go (less o u) refl e
  where
    no_difference : (x y z : ℤ) → z ≡ x -ℤ y → z ≡ pos 0 → x ≡ y
    no_difference x y z f g = omega (arith, ints)

    nothing : (h : Affine) → (has_no_terms h.terms && int_eq h.constant (pos 0)) ≡ true → form_value q h ≡ pos 0
    nothing h k =
        let a = and_parts (has_no_terms h.terms) (int_eq h.constant (pos 0)) k in
        ap (λ ts. value q ts +ℤ h.constant) (has_no_terms-true h.terms a.0) ∙ ap (λ z. pos 0 +ℤ z) (is_number h.constant (pos 0) a.1)

    go : (w : Option Affine) → less o u ≡ w → is_zero w ≡ true → Same q o u
    go None f k = absurd (false_true k)
      where
        false_true : false ≡ true → ⊥
        false_true q = cc
    go (Some h) f k =
        let s = less_value q o u h f in
        record { first = s.first; second = s.second; is_first = s.is_first; is_second = s.is_second; same = no_difference (form_value q s.first) (form_value q s.second) (form_value q h) s.total (nothing h k) }

-- ---- equations

pub record Equation (o u : Option Affine) (row : Row) : Type 0 where
  pub first : Affine
  pub second : Affine
  pub is_first : o ≡ Some first
  pub is_second : u ≡ Some second
  pub forward : (q : Point) → form_value q first ≡ form_value q second → Holds q row
  pub backward : (q : Point) → Holds q row → form_value q first ≡ form_value q second

pub equation_is : (o u : Option Affine) (row : Row) → equation o u ≡ Some row → Equation o u row
equation_is None u row e = none_some row e
equation_is (Some f) None row e = none_some row e
equation_is (Some f) (Some g) row e =
    let same = some_is (same_row f g) row e in
    record { first = f; second = g; is_first = refl; is_second = refl; forward = λ q h. subst (Holds q) same (same_holds f g q h); backward = λ q h. same_back f g q (subst (Holds q) (sym same) h) }

-- ---- forms of the callee by the names of its cells

record Terms (q : Point) (acc : Option Affine) (rest : ℤ) (h : Affine) : Type 0 where
  start : Affine
  is_start : acc ≡ Some start
  total : form_value q h ≡ form_value q start +ℤ rest

step_sum : (h a s f r : ℤ) (x : ℤ) → h ≡ a +ℤ r → a ≡ s +ℤ (f *ℤ x) → h ≡ s +ℤ ((f *ℤ x) +ℤ r)
step_sum h a s f r x e g = over h a s (f *ℤ x) r e g
  where
    over : (h a s y r : ℤ) → h ≡ a +ℤ r → a ≡ s +ℤ y → h ≡ s +ℤ (y +ℤ r)
    over h a s y r e g = omega (arith, ints)

no_rest : (x : ℤ) → x ≡ x +ℤ pos 0
no_rest x = omega (arith, ints)

named_total : (r : ℕ) (q : Point) (ts : List Term) (acc : Option Affine) (h : Affine) → named_terms r acc ts ≡ Some h → Terms q acc (value (λ v. q (named r v)) ts) h
named_total r q [] acc h e = record { start = h; is_start = e; total = no_rest (form_value q h) }
named_total r q (t ∷ ts) acc h e =
    let ih = named_total r q ts (sum_of acc t.factor (Some (var_form (named r t.var)))) h e in
    let s = sum_value q acc t.factor (Some (var_form (named r t.var))) ih.start ih.is_start in
    let v : form_value q s.second ≡ q (named r t.var) = sym (ap (form_value q) (some_is (var_form (named r t.var)) s.second s.is_second)) ∙ var_value q (named r t.var) in
    record {
      start = s.first;
      is_start = s.is_first;
      total = step_sum (form_value q h) (form_value q ih.start) (form_value q s.first) t.factor (value (λ w. q (named r w)) ts) (q (named r t.var)) ih.total
          (s.total ∙ ap (λ z. form_value q s.first +ℤ (t.factor *ℤ z)) v);
    }

pub record NamedForm (r : ℕ) (q : Point) (o : Option Affine) (h : Affine) : Type 0 where
  pub own : Affine
  pub is_own : o ≡ Some own
  pub same : form_value q h ≡ form_value (λ v. q (named r v)) own

turned : (c v : ℤ) → c +ℤ v ≡ v +ℤ c
turned c v = omega (arith, ints)

pub named_value : (r : ℕ) (q : Point) (o : Option Affine) (h : Affine) → named_form r o ≡ Some h → NamedForm r q o h
named_value r q None h e = none_some h e
named_value r q (Some f) h e =
    let t = named_total r q f.terms (limited (affine [] f.constant)) h e in
    record {
      own = f;
      is_own = refl;
      same = t.total ∙ (ap (λ z. z +ℤ value (λ v. q (named r v)) f.terms) (number_value q f.constant t.start t.is_start) ∙ turned f.constant (value (λ v. q (named r v)) f.terms));
    }

-- ---- forms of the callee in the caller

module _ (c : SidesTree) (m e : Scene) (x y : ℕ → ℤ) (forms : FormsMean c m e x y) where
  -- where the callee begins
  abbrev pub entry_point : Var → ℤ
  entry_point (Cell n) = y (e.unit n)
  entry_point (Exit n) = pos 0
  entry_point (Phi n) = pos 0
  entry_point (Aux n) = pos 0

  var_means : (q : Point) → AtStart m x q → (v : Var) (g : Affine) → var_in_caller c v ≡ Some g → form_value q g ≡ entry_point v
  var_means q st (Cell n) g k = subst (λ (o : Option Affine). Means m o x (y (e.unit n))) k (forms n) q st
  var_means q st (Exit n) g k = none_some g k
  var_means q st (Phi n) g k = none_some g k
  var_means q st (Aux n) g k = none_some g k

  caller_total : (q : Point) → AtStart m x q → (ts : List Term) (acc : Option Affine) (h : Affine) → terms_in_caller c acc ts ≡ Some h → Terms q acc (value entry_point ts) h
  caller_total q st [] acc h k = record { start = h; is_start = k; total = no_rest (form_value q h) }
  caller_total q st (t ∷ ts) acc h k =
      let ih = caller_total q st ts (sum_of acc t.factor (var_in_caller c t.var)) h k in
      let s = sum_value q acc t.factor (var_in_caller c t.var) ih.start ih.is_start in
      record {
        start = s.first;
        is_start = s.is_first;
        total = step_sum (form_value q h) (form_value q ih.start) (form_value q s.first) t.factor (value entry_point ts) (entry_point t.var) ih.total
            (s.total ∙ ap (λ z. form_value q s.first +ℤ (t.factor *ℤ z)) (var_means q st t.var s.second s.is_second));
      }

  pub record CallerForm (q : Point) (o : Option Affine) (h : Affine) : Type 0 where
    pub own : Affine
    pub is_own : o ≡ Some own
    pub same : form_value q h ≡ form_value entry_point own

  pub caller_value : (q : Point) → AtStart m x q → (o : Option Affine) (h : Affine) → in_caller c o ≡ Some h → CallerForm q o h
  caller_value q st None h k = none_some h k
  caller_value q st (Some f) h k =
      let t = caller_total q st f.terms (limited (affine [] f.constant)) h k in
      record {
        own = f;
        is_own = refl;
        same = t.total ∙ (ap (λ z. z +ℤ value entry_point f.terms) (number_value q f.constant t.start t.is_start) ∙ turned f.constant (value entry_point f.terms));
      }
