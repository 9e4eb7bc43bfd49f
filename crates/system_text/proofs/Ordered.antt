-- Systems that fit are ordered.
use Rattle.std.proofs.Common.{◌≡◌, true, false, ◌&&◌, not, List, [], ◌∷◌, inl, inr, refl, sym, subst, int_lt, pos}
use Rattle.std.proofs.lemmas.Bool.{and_parts}
use Rattle.affine_systems.specs.declared.row.Row.{Row}
use Rattle.affine_systems.specs.declared.row.System.{System}
use Rattle.affine_systems.specs.Terms.{has_no_terms}
use Rattle.affine_systems.specs.Rows.{false_row, AllRows}
use Rattle.affine_systems.specs.Given.{IsGiven, IsNormal, AreNormal}
use Rattle.affine_systems.proofs.ReducedLaws.{IsReduced, kept-reduced}
use Rattle.affine_systems.proofs.FitLaws.{IsTidy, tidy_small, small_given}
use Rattle.system_text.specs.SystemText.{is_never, are_never}
use Rattle.system_text.specs.Printed.{IsOrdered}
use Rattle.system_text.specs.Laws.{FittingSystemsAreOrdered}

pub reduced : (r : Row) → IsNormal r → IsReduced false r
reduced r h = kept-reduced false r r h.0 h.1

tidy_given : (r : Row) → IsTidy false r → IsGiven r
tidy_given r h = small_given r (tidy_small false r h)

normal_given : (rs : List Row) → AllRows IsNormal rs → AllRows IsGiven rs
normal_given [] h = tt
normal_given (r ∷ rs) h = (tidy_given r (inl (h.0.0, reduced r h.0)), normal_given rs h.1)

-- a normal row has terms
normal_may_hold : (r : Row) → IsNormal r → is_never r ≡ true → ⊥
normal_may_hold r h e =
    let a = and_parts (not r.equal) (has_no_terms r.terms && int_lt r.bound (pos 0)) e in
    let b = and_parts (has_no_terms r.terms) (int_lt r.bound (pos 0)) a.1 in
    let c = (reduced r h).some in
    cc

normal_rows : (rs : List Row) → AllRows IsNormal rs → are_never rs ≡ true → rs ≡ false_row ∷ []
normal_rows [] h e = cc
normal_rows (r ∷ []) h e = absurd (normal_may_hold r h.0 e)
normal_rows (r ∷ (s ∷ rs)) h e = cc

ordered_at : (s : System) → AreNormal false s.rows → IsOrdered s
ordered_at s (inl e) = record {
  rows = subst (λ (rs : List Row). AllRows IsGiven rs) (sym e) (tidy_given false_row (inr refl), tt);
  never = λ _. e;
}
ordered_at s (inr h) = record {
  rows = normal_given s.rows h;
  never = normal_rows s.rows h;
}

pub fitting_systems_are_ordered : FittingSystemsAreOrdered
fitting_systems_are_ordered s h = ordered_at s h.1
