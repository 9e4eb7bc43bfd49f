-- What putting in a row that says what an auxiliary variable is does to the points of rows, and to the variables that they have.
use Rattle.std.proofs.Common.{◌≡◌, ℕ, List, [], ◌∷◌, ◌||◌, ◌&&◌, Bool, true, false, refl, sym, ◌∙◌, subst, ℤ, pos, ◌+ℤ◌, ◌*ℤ◌, ◌↔◌, nat_eq, Option, Some, None, arith}
use Rattle.std.specs.Prelude.{if◌then◌else◌, not}
use Rattle.std.proofs.lemmas.Int.{ints}
use Rattle.std.proofs.lemmas.Bool.{and_parts, not-true}
use Rattle.affine_systems.specs.declared.row.Var.{Var}
use Rattle.affine_systems.specs.declared.row.Var.TheVariants.{Aux}
use Rattle.affine_systems.specs.declared.row.Term.{Term}
use Rattle.affine_systems.specs.declared.row.Row.{Row}
use Rattle.affine_systems.specs.Terms.{var_eq}
use Rattle.affine_systems.specs.Points.{Point, value, Holds, only, factor_of}
use Rattle.affine_systems.specs.Normal.{Normal, Kept, Always, Never, TooBig, normal}
use Rattle.affine_systems.specs.Tidy.{is_unit}
use Rattle.affine_systems.proofs.TermLaws.{var_eq-true}
use Rattle.affine_systems.proofs.NormalLaws.{Agrees, normal_agrees}
use Rattle.affine_systems.proofs.TidyLaws.{equally, not_false_row}
use Rattle.affine_systems.proofs.LackLaws.{Nil, RowsNil}
use Rattle.affine_forms.specs.declared.affine.Affine.{Affine}
use Rattle.affine_forms.specs.Claims.{form_value}
use Rattle.affine_forms.specs.Comparisons.{var_form, same_row}
use Rattle.affine_forms.proofs.RowLaws.{same_holds}
use Rattle.region_sets.specs.Naming.{in_terms}
use Rattle.region_sets.proofs.NilLaws.{off_terms}
use Rattle.region_translation.specs.Pieces.{is_other_aux, has_other_aux, is_aux_row, if_aux_row, aux_row}
use Rattle.fx_lists.proofs.Options.{none_some, some_is}
use Rattle.fx_lists.proofs.Numbers.{same_is as nat_same, nat_eq_same}
use Rattle.fx_lists.proofs.Booleans.{clash as clashes}
use Rattle.region_sets.specs.Putting.{put_in_all}
use Rattle.region_sets.proofs.PutLaws.{all_gone, all_nil}

pub aux_same : (a b : ℕ) → var_eq (Aux a) (Aux b) ≡ true → a ≡ b
aux_same a b e = let q = var_eq-true (Aux a) (Aux b) e in cc

-- ---- one row put in

-- a row that says what an auxiliary variable is
pub record Says (c : ℕ) (e : Row) : Type 0 where
  pub equal : e.equal ≡ true
  pub unit : is_unit (factor_of (Aux c) e.terms) ≡ true
  pub other : has_other_aux c e.terms ≡ false

pub says : (c : ℕ) (e : Row) → is_aux_row c e ≡ true → Says c e
says c e h =
    let a = and_parts e.equal (is_unit (factor_of (Aux c) e.terms) && not (has_other_aux c e.terms)) h in
    let b = and_parts (is_unit (factor_of (Aux c) e.terms)) (not (has_other_aux c e.terms)) a.1 in
    record { equal = a.0; unit = b.0; other = not-true (has_other_aux c e.terms) b.1 }

-- ---- which auxiliary variables rows have

-- the only one of such a row
other_auxes : (c d : ℕ) (ts : List Term) → has_other_aux c ts ≡ false → in_terms (Aux d) ts ≡ true → c ≡ d
other_auxes c d [] h k = clashes false k refl
other_auxes c d (t ∷ ts) h k = go t.var h (var_eq (Aux d) t.var) refl k (λ l n. other_auxes c d ts l n)
  where
    rest : (b : Bool) → (b || has_other_aux c ts) ≡ false → in_terms (Aux d) ts ≡ true → (has_other_aux c ts ≡ false → in_terms (Aux d) ts ≡ true → c ≡ d) → c ≡ d
    rest true l n f = clashes true refl l
    rest false l n f = f l n

    mine : (w : Var) → Aux d ≡ w → (is_other_aux c w || has_other_aux c ts) ≡ false → c ≡ d
    mine w e l = two (subst (λ v. (is_other_aux c v || has_other_aux c ts) ≡ false) (sym e) l)
      where
        off : (b : Bool) → (not b || has_other_aux c ts) ≡ false → b ≡ true
        off true x = refl
        off false x = clashes true refl x

        two : (not (var_eq (Aux c) (Aux d)) || has_other_aux c ts) ≡ false → c ≡ d
        two x = aux_same c d (off (var_eq (Aux c) (Aux d)) x)

    go : (w : Var) → (is_other_aux c w || has_other_aux c ts) ≡ false → (b : Bool) → var_eq (Aux d) w ≡ b → (b || in_terms (Aux d) ts) ≡ true → (has_other_aux c ts ≡ false → in_terms (Aux d) ts ≡ true → c ≡ d) → c ≡ d
    go w l true e n f = mine w (var_eq-true (Aux d) w e) l
    go w l false e n f = rest (is_other_aux c w) l n f

other_nil : (c d : ℕ) (e : Row) → Says c e → (c ≡ d → ⊥) → Nil (only (Aux d)) e
other_nil c d e s f = go (in_terms (Aux d) e.terms) refl
  where
    go : (b : Bool) → in_terms (Aux d) e.terms ≡ b → Nil (only (Aux d)) e
    go true k = absurd (f (other_auxes c d e.terms s.other k))
    go false k = off_terms (Aux d) e.terms k

pub aux_nil : (c d : ℕ) (e : Row) (rs : List Row) → Says c e → RowsNil (only (Aux d)) rs → RowsNil (only (Aux d)) (put_in_all (Aux c) e rs)
aux_nil c d e rs s h = go (nat_eq c d) refl
  where
    go : (b : Bool) → nat_eq c d ≡ b → RowsNil (only (Aux d)) (put_in_all (Aux c) e rs)
    go true k = subst (λ (z : ℕ). RowsNil (only (Aux z)) (put_in_all (Aux c) e rs)) (nat_same c d k) (all_gone (Aux c) e rs s.unit)
    go false k = all_nil (only (Aux d)) (Aux c) e rs (other_nil c d e s (λ q. clashes (nat_eq c d) (subst (λ (z : ℕ). nat_eq c z ≡ true) q (nat_eq_same c)) k)) h

-- ---- the row of a form

-- it says what the variable is
pub row_says : (n : ℕ) (o : Option Affine) (e : Row) → aux_row n o ≡ Some e → Says n e
row_says n None e q = none_some e q
row_says n (Some f) e q = go (normal false (same_row (var_form (Aux n)) f)) q
  where
    one : (s : Row) (b : Bool) → is_aux_row n s ≡ b → (if b then Some s else None) ≡ Some e → Says n e
    one s true h k = subst (λ (z : Row). Says n z) (some_is s e k) (says n s h)
    one s false h k = none_some e k

    go : (w : Normal) → if_aux_row n w ≡ Some e → Says n e
    go (Kept s) k = one s (is_aux_row n s) refl k
    go Always k = none_some e k
    go Never k = none_some e k
    go TooBig k = none_some e k

-- where the variable has the value of the form, it holds
pub row_means : (n : ℕ) (f : Affine) (e : Row) → aux_row n (Some f) ≡ Some e → (q : Point) → q (Aux n) ≡ form_value q f → value q e.terms ≡ e.bound
row_means n f e k q h = go (normal false (same_row (var_form (Aux n)) f)) (normal_agrees q false (same_row (var_form (Aux n)) f)) k
  where
    own : form_value q (var_form (Aux n)) ≡ form_value q f
    own = one_term (q (Aux n)) ∙ h
      where
        one_term : (x : ℤ) → ((pos 1 *ℤ x) +ℤ pos 0) +ℤ pos 0 ≡ x
        one_term x = omega (arith, ints)

    there : Holds q (same_row (var_form (Aux n)) f)
    there = same_holds (var_form (Aux n)) f q own

    one : (s : Row) → Holds q s → (b : Bool) → is_aux_row n s ≡ b → (if b then Some s else None) ≡ Some e → value q e.terms ≡ e.bound
    one s a true i j = subst (λ (z : Row). value q z.terms ≡ z.bound) (some_is s e j) ((equally q s (says n s i).equal).0 a)
    one s a false i j = none_some e j

    go : (w : Normal) → Agrees q (Holds q (same_row (var_form (Aux n)) f)) w → if_aux_row n w ≡ Some e → value q e.terms ≡ e.bound
    go (Kept s) a j = one s (a.0 there) (is_aux_row n s) refl j
    go Always a j = none_some e j
    go Never a j = none_some e j
    go TooBig a j = none_some e j
