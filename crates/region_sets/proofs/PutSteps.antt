-- Rows with what a variable is put in: they are ready for the next.
use Rattle.std.proofs.Common.{arith, ◌≡◌, ℕ, zero, suc, ◌+◌, ◌<◌, ◌≤◌, length, drop, get_or, drop-cons, drop_of_length-le, add-one, ap₂, ◌%◌, Bool, true, false, ◌&&◌, ◌||◌, List, [], ◌∷◌, ◌++◌, Option, Some, None, refl, sym, ap, subst, ◌∙◌, nat_eq, unsigned_abs, ℤ, pos, append_assoc, append-nil}
use Rattle.std.specs.Prelude.{if◌then◌else◌, not}
use Rattle.std.specs.Int.{int_div_euclid}
use Rattle.std.proofs.lemmas.Bool.{and_parts}
use Rattle.affine_systems.specs.declared.row.Var.{Var}
use Rattle.affine_systems.specs.declared.row.Var.TheVariants.{Exit}
use Rattle.affine_systems.specs.declared.row.Term.{Term}
use Rattle.affine_systems.specs.declared.row.Row.{Row}
use Rattle.affine_systems.specs.Terms.{has_no_terms}
use Rattle.affine_systems.specs.Rows.{row, false_row, AllRows}
use Rattle.affine_systems.specs.Points.{factor_of}
use Rattle.affine_systems.specs.Normal.{Normal, Kept, Always, Never, TooBig, normal, divided, divided_by, divisor, start_of, normal_terms, if_small, turned, turned_if_small, is_small, are_small}
use Rattle.affine_systems.specs.Tidy.{is_unit, by_row}
use Rattle.affine_systems.specs.Calls.{unless_too_big, substitute}
use Rattle.affine_systems.specs.Given.{IsNormal, IsGiven}
use Rattle.affine_systems.proofs.AscendLaws.{factor_of-nil}
use Rattle.affine_systems.proofs.Basics.{if_cases}
use Rattle.affine_systems.proofs.FitLaws.{by_row_given, kept-ascends, small_given}
use Rattle.affine_systems.proofs.ReducedLaws.{normal-reduced, kept-reduced}
use Rattle.affine_systems.proofs.RenameSteps.{normal_small_row}
use Rattle.region_sets.specs.Ready.{IsReady}
use Rattle.region_sets.specs.Naming.{in_terms}
use Rattle.region_sets.specs.Compose.{has_other_exit, is_exit_row, exit_row}
use Rattle.region_sets.proofs.Steps.{ready-push}
use Rattle.fx_lists.proofs.Options.{none_some, some_is}
use Rattle.fx_lists.proofs.Booleans.{clash as clashes, or_turned as or_assoc}
use Rattle.region_sets.specs.Putting.{settled_by, normal_form, put_in, before_rows, put_in_all, is_lost, loses_row}

pub in_some : (v : Var) (ts : List Term) → in_terms v ts ≡ true → has_no_terms ts ≡ false
in_some v [] h = clashes false h refl
in_some v (t ∷ ts) h = refl

pub exit_equal : (c : ℕ) (e : Row) → is_exit_row c e ≡ true → e.equal ≡ true
exit_equal c e h = (and_parts e.equal (is_unit (factor_of (Exit c) e.terms) && not (has_other_exit c e.terms)) h).0

pub exit_unit : (c : ℕ) (e : Row) → is_exit_row c e ≡ true → is_unit (factor_of (Exit c) e.terms) ≡ true
exit_unit c e h = (and_parts (is_unit (factor_of (Exit c) e.terms)) (not (has_other_exit c e.terms)) (and_parts e.equal (is_unit (factor_of (Exit c) e.terms) && not (has_other_exit c e.terms)) h).1).0

pub named_normal : (v : Var) (r : Row) → IsReady r → in_terms v r.terms ≡ true → IsNormal r
named_normal v r h e = h.normal (in_some v r.terms e)

-- ---- a row that always holds has no terms

abbrev pub NotAlways : Normal → Type 0
NotAlways (Kept r) = Unit {0}
NotAlways Always = ⊥
NotAlways Never = Unit {0}
NotAlways TooBig = Unit {0}

small_not : (r s : Row) → NotAlways (if_small r s)
small_not r s = if_cases NotAlways (is_small r.bound && are_small r.terms) (Kept s) TooBig (λ e. tt) (λ e. tt)

divided_not : (g : ℕ) (e : Bool) (ts : List Term) (b : ℤ) → NotAlways (divided_by g e ts b)
divided_not g true ts b =
    let r = row true (divided g ts) (int_div_euclid b (pos g)) in
    if_cases NotAlways (nat_eq (unsigned_abs b % g) 0) (turned_if_small r) Never (λ e. small_not r (turned r)) (λ e. tt)
divided_not g false ts b = let r = row false (divided g ts) (int_div_euclid b (pos g)) in small_not r r

pub no_terms : (r : Row) → normal false r ≡ Always → has_no_terms r.terms ≡ true
no_terms r e = go r.terms e
  where
    go : (ts : List Term) → normal_terms false r.equal ts r.bound ≡ Always → has_no_terms ts ≡ true
    go [] h = refl
    go (t ∷ ts) h = absurd (subst NotAlways h (divided_not (divisor (t ∷ ts) (start_of false r.bound)) r.equal (t ∷ ts) r.bound))

-- ---- the row that is made

pub false_ready : IsReady false_row
false_ready = record { given = (tt, omega arith, tt); normal = λ e. clashes true refl e }

pub normal_ready : (r : Row) → IsNormal r → IsReady r
normal_ready r h = record { given = small_given r (normal_small_row r h); normal = λ e. h }

-- what is put in is ready
pub made_ready : (b new : Row) → IsGiven b → normal_form (unless_too_big (normal false b) b) ≡ Some new → IsReady new
made_ready b new h q = go (normal false b) refl q
  where
    kept : (s : Row) → normal false b ≡ Kept s → normal false s ≡ Kept s
    kept s e = normal-reduced false s (kept-reduced false b s h.0 e)

    go : (n : Normal) → normal false b ≡ n → normal_form (unless_too_big n b) ≡ Some new → IsReady new
    go (Kept s) e k =
        let same : s ≡ new = some_is s new (ap (λ (z : Normal). Some (settled_by z s)) (sym (kept s e)) ∙ k) in
        subst IsReady same (normal_ready s (kept-ascends false b s h.0 e, kept s e))
    go Always e k =
        let same : b ≡ new = some_is b new (ap (λ (z : Normal). Some (settled_by z b)) (sym e) ∙ k) in
        subst IsReady same (record { given = h; normal = λ f. clashes (has_no_terms b.terms) (no_terms b e) f })
    go Never e k =
        let same : false_row ≡ new = some_is false_row new (ap (λ (z : Normal). Some (settled_by z b)) (sym e) ∙ k) in
        subst IsReady same false_ready
    go TooBig e k = none_some new k

pub put_ready : (v : Var) (e r new : Row) → IsNormal e → is_unit (factor_of v e.terms) ≡ true → IsReady r → put_in v e r ≡ Some new → IsReady new
put_ready v e r new n x h q = go (in_terms v r.terms) refl q
  where
    go : (b : Bool) → in_terms v r.terms ≡ b → (if b then normal_form (substitute r v e) else Some r) ≡ Some new → IsReady new
    go true i k = made_ready (by_row r v e) new (by_row_given r v e x (normal_small_row r (named_normal v r h i)) (normal_small_row e n)) k
    go false i k = subst IsReady (some_is r new k) h

-- the row that is found is one of the system's, and says what the exit is
pub found_ready : (c : ℕ) (es : List Row) (e : Row) → exit_row c es ≡ Some e → AllRows IsReady es → IsReady e × (is_exit_row c e ≡ true)
found_ready c [] e q h = none_some e q
found_ready c (f ∷ es) e q h = go (is_exit_row c f) refl q (λ k. found_ready c es e k h.1)
  where
    go : (b : Bool) → is_exit_row c f ≡ b → (if b then Some f else exit_row c es) ≡ Some e → (exit_row c es ≡ Some e → IsReady e × (is_exit_row c e ≡ true)) → IsReady e × (is_exit_row c e ≡ true)
    go true x k ih = subst (λ (g : Row). IsReady g × (is_exit_row c g ≡ true)) (some_is f e k) (h.0, x)
    go false x k ih = ih k

-- an equal row with a factor of 1 or -1 has terms
unit_some : (c : ℕ) (ts : List Term) → is_unit (factor_of (Exit c) ts) ≡ true → has_no_terms ts ≡ false
unit_some c [] h = clashes (is_unit (factor_of (Exit c) [])) h (ap is_unit (factor_of-nil (Exit c)))
unit_some c (t ∷ ts) h = refl

pub found_normal : (c : ℕ) (es : List Row) (e : Row) → exit_row c es ≡ Some e → AllRows IsReady es → IsNormal e
found_normal c es e q h = let k = found_ready c es e q h in k.0.normal (unit_some c e.terms (exit_unit c e k.1))

pub found_says : (c : ℕ) (es : List Row) (e : Row) → exit_row c es ≡ Some e → AllRows IsReady es → is_exit_row c e ≡ true
found_says c es e q h = (found_ready c es e q h).1

pub ruleset putting = (in_some, exit_equal, exit_unit, named_normal, put_ready, found_normal, found_says, ready-push, append_assoc, append-nil)

pub put_more : (v : Var) (e r : Row) (rs : List Row) → put_in_all v e (r ∷ rs) ≡ before_rows (put_in v e r) [] ++ put_in_all v e rs
put_more v e r rs = go (put_in v e r)
  where
    go : (o : Option Row) → before_rows o (put_in_all v e rs) ≡ before_rows o [] ++ put_in_all v e rs
    go None = refl
    go (Some s) = refl

pub put-step : (v : Var) (e : Row) (rs out new goal : List Row) (i : ℕ) (d : Row) → i < length rs → new ≡ out ++ before_rows (put_in v e (get_or rs i d)) [] → out ++ put_in_all v e (drop i rs) ≡ goal → new ++ put_in_all v e (drop (i + 1) rs) ≡ goal
put-step v e rs out new goal i d l h g =
    let b = before_rows (put_in v e (get_or rs i d)) [] in
    let x : put_in_all v e (drop i rs) ≡ b ++ put_in_all v e (drop (suc i) rs) = ap (put_in_all v e) (drop-cons rs i d l) ∙ put_more v e (get_or rs i d) (drop (suc i) rs) in
    ap₂ (λ (us : List Row) n. us ++ put_in_all v e (drop n rs)) h (add-one i) ∙ (append_assoc out b (put_in_all v e (drop (suc i) rs)) ∙ (ap (λ (us : List Row). out ++ us) (sym x) ∙ g))

pub put-end : (v : Var) (e : Row) (rs out goal : List Row) (i : ℕ) → length rs ≤ i → out ++ put_in_all v e (drop i rs) ≡ goal → out ≡ goal
put-end v e rs out goal i l g = sym (append-nil out) ∙ (ap (λ (us : List Row). out ++ put_in_all v e us) (sym (drop_of_length-le rs l)) ∙ g)

pub lost-step : (v : Var) (e : Row) (rs : List Row) (w one goal : Bool) (i : ℕ) (d : Row) → i < length rs → one ≡ is_lost (put_in v e (get_or rs i d)) → (w || loses_row v e (drop i rs)) ≡ goal → ((w || one) || loses_row v e (drop (i + 1) rs)) ≡ goal
lost-step v e rs w one goal i d l h g =
    ap₂ (λ (u : Bool) n. (w || u) || loses_row v e (drop n rs)) h (add-one i)
    ∙ (or_assoc w (is_lost (put_in v e (get_or rs i d))) (loses_row v e (drop (suc i) rs)) ∙ (ap (λ (us : List Row). w || loses_row v e us) (sym (drop-cons rs i d l)) ∙ g))

pub lost-end : (v : Var) (e : Row) (rs : List Row) (w goal : Bool) (i : ℕ) → length rs ≤ i → (w || loses_row v e (drop i rs)) ≡ goal → w ≡ goal
lost-end v e rs w goal i l g = none w ∙ (ap (λ (us : List Row). w || loses_row v e us) (sym (drop_of_length-le rs l)) ∙ g)
  where
    none : (b : Bool) → b ≡ (b || false)
    none true = refl
    none false = refl

pub ready-at : (rs : List Row) (i : ℕ) (d : Row) → i < length rs → AllRows IsReady rs → IsReady (get_or rs i d)
ready-at [] i d l h = absurd (omega (arith, l))
ready-at (r ∷ rs) zero d l h = h.0
ready-at (r ∷ rs) (suc i) d l h = ready-at rs i d (omega (arith, l)) h.1

pub ruleset put_loop = (put-step, put-end, lost-step, lost-end, ready-at)
