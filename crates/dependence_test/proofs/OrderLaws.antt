-- The rows of the order hold where the indices are those of an earlier and a later iteration, and may be given to calls.
use Rattle.std.proofs.Common.{◌≡◌, ℕ, ◌≤◌, ◌<◌, ◌^◌, [], ◌∷◌, Bool, true, false, Option, Some, None, refl, sym, ap, ◌∙◌, subst, arith, ℤ, pos, negsuc, ◌+ℤ◌, ◌*ℤ◌, ◌≤ℤ◌, unsigned_abs, nat_lt}
use Rattle.std.specs.Prelude.{if◌then◌else◌}
use Rattle.std.specs.Ordering.{int_eq}
use Rattle.std.proofs.lemmas.Int.{ints}
use Rattle.std.proofs.lemmas.Bool.Decides.{nat_tests}
use Rattle.affine_systems.specs.declared.row.Var.{Var}
use Rattle.affine_systems.specs.Terms.{var_lt}
use Rattle.affine_systems.specs.Points.{Point, HoldsAll}
use Rattle.affine_forms.specs.Forms.{IsSmallForm}
use Rattle.affine_forms.specs.Comparisons.{var_form, below_row}
use Rattle.affine_forms.specs.Claims.{form_value}
use Rattle.affine_forms.proofs.RowLaws.{at_most_holds, below_holds, same_holds}
use Rattle.dependence_test.specs.Order.{one, steps_from, step_rows, rows_by, order_rows}
use Rattle.fx_lists.proofs.Numbers.{is_number}
use Rattle.preconditions.proofs.CallTranslation.Steps.{given-push}
use Rattle.affine_forms.proofs.RowValues.{var_value}

-- ---- rows that may be given

not_zero : (s : ℤ) → nat_lt 1 (unsigned_abs s) ≡ true → int_eq s (pos 0) ≡ false
not_zero (pos n) e = grind (arith, ints, nat_tests)
not_zero (negsuc n) e = grind (arith, ints, nat_tests)

pub steps_small : (i : Var) (s : ℤ) (t : Var) → unsigned_abs s < 2 ^ 62 → nat_lt 1 (unsigned_abs s) ≡ true → var_lt i t ≡ true → IsSmallForm (steps_from i s t)
steps_small i s t h e l = (((refl, (l, tt), (not_zero s e, tt, tt)), (omega arith, (h, tt))), omega arith)

pub one_small : IsSmallForm one
one_small = ((tt, tt), omega arith)

pub ruleset order_steps = (given-push, steps_small, one_small)

-- ---- rows that hold

one_value : (p : Point) → form_value p one ≡ pos 1
one_value p = omega (arith, ints)

steps_value : (p : Point) (i : Var) (s : ℤ) (t : Var) → form_value p (steps_from i s t) ≡ p i +ℤ (s *ℤ p t)
steps_value p i s t = omega (arith, ints)

-- the later index is some steps after the earlier one
pub record After (s n n' : ℤ) : Type 0 where
  pub steps : ℕ
  pub some : 1 ≤ steps
  pub is_it : n' ≡ n +ℤ (s *ℤ pos steps)

-- two indices in this order; nothing is known where the step is no constant
abbrev pub Between : ℤ → ℤ → Option ℤ → Type 0
Between n n' None = Unit {0}
Between n n' (Some s) = After s n n'

-- how many steps there are between them
abbrev pub steps_of : (n n' : ℤ) (st : Option ℤ) → Between n n' st → ℤ
steps_of n n' None b = pos 0
steps_of n n' (Some s) b = pos b.steps

module _ (p : Point) (i j t : Var) (n n' : ℤ) (pi : p i ≡ n) (pj : p j ≡ n') where
  rows_hold : (s : ℤ) (d : ℕ) → p t ≡ pos d → 1 ≤ d → n' ≡ n +ℤ (s *ℤ pos d) → HoldsAll p (rows_by s i j t)
  rows_hold s d pt one' is = up (int_eq s (pos 1)) refl
    where
      stepped : HoldsAll p (step_rows s i j t)
      stepped = (
        same_holds (var_form j) (steps_from i s t) p (var_value p j ∙ pj ∙ is ∙ ap (λ z. z +ℤ (s *ℤ pos d)) (sym pi) ∙ ap (λ z. p i +ℤ (s *ℤ z)) (sym pt) ∙ sym (steps_value p i s t)),
        (at_most_holds one (var_form t) p (subst (λ z. z ≤ℤ form_value p (var_form t)) (sym (one_value p)) (subst (λ z. pos 1 ≤ℤ z) (sym (var_value p t ∙ pt)) (omega (arith, one', ints)))), tt),
      )

      large : (b : Bool) → HoldsAll p (if b then step_rows s i j t else [])
      large true = stepped
      large false = tt

      down : (b : Bool) → int_eq s (negsuc 0) ≡ b → HoldsAll p (if b then below_row (var_form j) (var_form i) ∷ [] else if nat_lt 1 (unsigned_abs s) then step_rows s i j t else [])
      down true e =
          let f : n' ≡ n +ℤ (negsuc 0 *ℤ pos d) = subst (λ z. n' ≡ n +ℤ (z *ℤ pos d)) (is_number s (negsuc 0) e) is in
          let vi = var_value p i in
          let vj = var_value p j in
          (below_holds (var_form j) (var_form i) p (omega (arith, f, pi, pj, vi, vj, one', ints)), tt)
      down false e = large (nat_lt 1 (unsigned_abs s))

      up : (b : Bool) → int_eq s (pos 1) ≡ b → HoldsAll p (if b then below_row (var_form i) (var_form j) ∷ [] else if int_eq s (negsuc 0) then below_row (var_form j) (var_form i) ∷ [] else if nat_lt 1 (unsigned_abs s) then step_rows s i j t else [])
      up true e =
          let f : n' ≡ n +ℤ (pos 1 *ℤ pos d) = subst (λ z. n' ≡ n +ℤ (z *ℤ pos d)) (is_number s (pos 1) e) is in
          let vi = var_value p i in
          let vj = var_value p j in
          (below_holds (var_form i) (var_form j) p (omega (arith, f, pi, pj, vi, vj, one', ints)), tt)
      up false e = down (int_eq s (negsuc 0)) refl

  pub order_holds : (st : Option ℤ) (b : Between n n' st) → p t ≡ steps_of n n' st b → HoldsAll p (order_rows st i j t)
  order_holds None b e = tt
  order_holds (Some s) b e = rows_hold s b.steps e b.some b.is_it
