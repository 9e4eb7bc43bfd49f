-- A projection loses no point and has none of its variables; where it is exact, each of its points extends.
use Rattle.std.proofs.Common.{◌≡◌, true, false, List, [], ◌∷◌, ◌++◌, ℤ, refl, sym, ap, subst, ◌∙◌, ⊎_elim, ◌⊎◌, inl, inr}
use Rattle.std.specs.Prelude.{if◌then◌else◌, ◌+ℤ◌, ◌*ℤ◌}
use Rattle.std.proofs.lemmas.Bool.{cases_Bool, and_parts}
use Rattle.affine_systems.specs.declared.row.Var.{Var}
use Rattle.affine_systems.specs.declared.row.Term.{Term}
use Rattle.affine_systems.specs.declared.row.Row.{Row}
use Rattle.affine_systems.specs.declared.row.System.{System}
use Rattle.hull_projection.specs.declared.projection.Shadow.{Shadow}
use Rattle.affine_systems.specs.Terms.{var_eq, var_lt}
use Rattle.affine_systems.specs.Points.{Point, value, Meets, HoldsAll, moved, only}
use Rattle.affine_systems.specs.Eliminate.{eliminate}
use Rattle.affine_systems.specs.Given.{Fits}
use Rattle.hull_projection.specs.Variables.{with_var, with_vars, in_order}
use Rattle.hull_projection.specs.Clean.{is_spare, cleaned_behind}
use Rattle.hull_projection.specs.Project.{shadow, shadow_after, eliminate_each, project}
use Rattle.hull_projection.specs.Laws.{IsOneOf, DiffersAt, ProjectsPoints, ExtendsPoints, LacksAll}
use Rattle.affine_systems.proofs.Basics.{if_cases}
use Rattle.affine_systems.proofs.TermLaws.{var_eq-true, true-var_eq}
use Rattle.affine_systems.proofs.ElimLaws.{eliminate_holds}
use Rattle.affine_systems.proofs.ExactLaws.{eliminate_extends}
use Rattle.affine_systems.proofs.LackLaws.{RowsNil, eliminate_nil, eliminate_lacks, nil_moves, lacks_from}
use Rattle.affine_systems.proofs.FitLaws.{eliminate_fits}
use Rattle.hull_projection.proofs.CleanLaws.{clean_same, clean_fits}
use Rattle.fx_lists.proofs.Booleans.{clash}

-- ---- which variables an ordered list has

pub with_var-has : (u v : Var) (ws : List Var) → IsOneOf u (v ∷ ws) → IsOneOf u (with_var v ws)
with_var-has u v [] h = h
with_var-has u v (w ∷ ws) h =
    if_cases (IsOneOf u) (var_eq v w) (w ∷ ws) (if var_lt v w then v ∷ w ∷ ws else w ∷ with_var v ws)
    (λ e. ⊎_elim (λ k. inl (k ∙ var_eq-true v w e)) (λ k. k) h)
    (λ e. if_cases (IsOneOf u) (var_lt v w) (v ∷ w ∷ ws) (w ∷ with_var v ws)
    (λ l. h)
    (λ l. ⊎_elim (λ k. inr (with_var-has u v ws (inl k))) (λ k. ⊎_elim (λ i. inl i) (λ i. inr (with_var-has u v ws (inr i))) k) h))

with_var-from : (u v : Var) (ws : List Var) → IsOneOf u (with_var v ws) → IsOneOf u (v ∷ ws)
with_var-from u v [] = λ h. h
with_var-from u v (w ∷ ws) =
    if_cases (λ (us : List Var). IsOneOf u us → IsOneOf u (v ∷ w ∷ ws)) (var_eq v w) (w ∷ ws) (if var_lt v w then v ∷ w ∷ ws else w ∷ with_var v ws)
    (λ e h. inr h)
    (λ e. if_cases (λ (us : List Var). IsOneOf u us → IsOneOf u (v ∷ w ∷ ws)) (var_lt v w) (v ∷ w ∷ ws) (w ∷ with_var v ws)
    (λ l h. h)
    (λ l h. ⊎_elim (λ k. inr (inl k)) (λ k. ⊎_elim (λ i. inl i) (λ i. inr (inr i)) (with_var-from u v ws k)) h))

with_vars-has : (u : Var) (ws vs : List Var) → IsOneOf u ws ⊎ IsOneOf u vs → IsOneOf u (with_vars ws vs)
with_vars-has u ws [] h = ⊎_elim (λ k. k) (λ k. absurd k) h
with_vars-has u ws (v ∷ vs) h =
    with_vars-has u (with_var v ws) vs
    (⊎_elim (λ k. inl (with_var-has u v ws (inr k))) (λ k. ⊎_elim (λ i. inl (with_var-has u v ws (inl i))) (λ i. inr i) k) h)

with_vars-from : (u : Var) (ws vs : List Var) → IsOneOf u (with_vars ws vs) → IsOneOf u ws ⊎ IsOneOf u vs
with_vars-from u ws [] h = inl h
with_vars-from u ws (v ∷ vs) h =
    ⊎_elim (λ k. ⊎_elim (λ i. inr (inl i)) (λ i. inl i) (with_var-from u v ws k)) (λ k. inr (inr k)) (with_vars-from u (with_var v ws) vs h)

pub in_order-has : (u : Var) (vs : List Var) → IsOneOf u vs → IsOneOf u (in_order vs)
in_order-has u vs h = with_vars-has u [] vs (inr h)

pub in_order-from : (u : Var) (vs : List Var) → IsOneOf u (in_order vs) → IsOneOf u vs
in_order-from u vs h = ⊎_elim (λ k. absurd k) (λ k. k) (with_vars-from u [] vs h)

-- ---- no point is lost

pub each_holds : (p : Point) (s : Shadow) (vs : List Var) → HoldsAll p s.system.rows → HoldsAll p (eliminate_each s vs).system.rows
each_holds p s [] h = h
each_holds p s (v ∷ vs) h = each_holds p (shadow_after s (eliminate s.system v)) vs (eliminate_holds p s.system v h)

-- ---- the variables are gone

pub each_nil : (u : Point) (s : Shadow) (vs : List Var) → RowsNil u s.system.rows → RowsNil u (eliminate_each s vs).system.rows
each_nil u s [] h = h
each_nil u s (v ∷ vs) h = each_nil u (shadow_after s (eliminate s.system v)) vs (eliminate_nil u s.system v h)

pub each_lacks : (w : Var) (s : Shadow) (vs : List Var) → IsOneOf w vs → RowsNil (only w) (eliminate_each s vs).system.rows
each_lacks w s [] h = absurd h
each_lacks w s (v ∷ vs) (inl e) =
    each_nil (only w) (shadow_after s (eliminate s.system v)) vs (subst (λ (x : Var). RowsNil (only x) (eliminate s.system v).system.rows) (sym e) (eliminate_lacks s.system v))
each_lacks w s (v ∷ vs) (inr h) = each_lacks w (shadow_after s (eliminate s.system v)) vs h

pub cleaned_nil : (u : Point) (front rs : List Row) → RowsNil u rs → RowsNil u (cleaned_behind front rs)
cleaned_nil u front [] h = tt
cleaned_nil u front (r ∷ rs) h =
    let after = cleaned_behind (front ++ r ∷ []) rs in
    let ih = cleaned_nil u (front ++ r ∷ []) rs h.1 in
    if_cases (RowsNil u) (is_spare (front ++ after) r) after (r ∷ after) (λ e. ih) (λ e. (h.0, ih))

pub project_nil : (w : Var) (s : System) (vs : List Var) → IsOneOf w vs → RowsNil (only w) (project s vs).system.rows
project_nil w s vs h = cleaned_nil (only w) [] (eliminate_each (shadow s true) (in_order vs)).system.rows (each_lacks w (shadow s true) (in_order vs) (in_order-has w vs h))

pub project_gone : (s : System) (vs : List Var) → LacksAll vs (project s vs).system.rows
project_gone s vs w h = lacks_from w (project s vs).system.rows (project_nil w s vs h)

-- ---- points with any numbers at the variables

value-agree : (p q : Point) (ts : List Term) → ((w : Var) → q w ≡ p w) → value p ts ≡ value q ts
value-agree p q [] e = refl
value-agree p q (t ∷ ts) e = λ i. (t.factor *ℤ sym (e t.var) i) +ℤ value-agree p q ts e i

pub all-agree : (p q : Point) (rs : List Row) → ((w : Var) → q w ≡ p w) → HoldsAll p rs → HoldsAll q rs
all-agree p q [] e h = tt
all-agree p q (r ∷ rs) e h = (subst (λ (x : ℤ). Meets r.equal x r.bound) (value-agree p q r.terms e) h.0, all-agree p q rs e h.1)

-- a point of rows without the variables stays one where the numbers at the variables change
differs_hold : (p q : Point) (vs : List Var) (rs : List Row) → ((w : Var) → IsOneOf w vs → RowsNil (only w) rs) → DiffersAt vs p q → HoldsAll p rs → HoldsAll q rs
differs_hold p q [] rs n d h = all-agree p q rs (λ w. d w (λ k. k)) h
differs_hold p q (v ∷ vs) rs n d h =
    differs_hold (moved p v (q v)) q vs rs (λ w k. n w (inr k))
    (λ w k. if_cases (λ (x : ℤ). q w ≡ x) (var_eq v w) (q v) (p w)
    (λ e. ap q (sym (var_eq-true v w e)))
    (λ e. d w (λ i. ⊎_elim (λ j. absurd (apart w j e)) (λ j. k j) i)))
    (nil_moves p v (q v) rs (n v (inl refl)) h)
  where
    apart : (w : Var) → w ≡ v → var_eq v w ≡ false → ⊥
    apart w j e = clash (var_eq v w) (true-var_eq v w (sym j)) e

pub project_keeps : (s : System) (vs : List Var) → ProjectsPoints s vs (project s vs)
project_keeps s vs p q d h =
    let e = eliminate_each (shadow s true) (in_order vs) in
    differs_hold p q vs (project s vs).system.rows (λ w k. project_nil w s vs k) d ((clean_same p e.system).0 (each_holds p (shadow s true) (in_order vs) h))

-- ---- where it is exact, each point extends

exact_before : (s : Shadow) (vs : List Var) → (eliminate_each s vs).exact ≡ true → s.exact ≡ true
exact_before s [] e = e
exact_before s (v ∷ vs) e = (and_parts s.exact (eliminate s.system v).exact (exact_before (shadow_after s (eliminate s.system v)) vs e)).0

each_extends : (p : Point) (s : Shadow) (vs : List Var) → (eliminate_each s vs).exact ≡ true → HoldsAll p (eliminate_each s vs).system.rows → (q : Point) × DiffersAt vs p q × HoldsAll q s.system.rows
each_extends p s [] e h = (p, (λ w n. refl), h)
each_extends p s (v ∷ vs) e h =
    let t = and_parts s.exact (eliminate s.system v).exact (exact_before (shadow_after s (eliminate s.system v)) vs e) in
    let k = each_extends p (shadow_after s (eliminate s.system v)) vs e h in
    let x = eliminate_extends k.0 s.system v t.1 k.2 in
    (moved k.0 v x.0, (λ w n. ⊎_elim (λ c. absurd (n (inl (sym (var_eq-true v w c))))) (λ c. rw c (k.1 w (λ i. n (inr i)))) (cases_Bool (var_eq v w))), x.1)

pub project_extends : (s : System) (vs : List Var) → ExtendsPoints s vs (project s vs)
project_extends s vs e p h =
    let k = each_extends p (shadow s true) (in_order vs) e ((clean_same p (eliminate_each (shadow s true) (in_order vs)).system).1 h) in
    (k.0, (λ w n. k.1 w (λ i. n (in_order-from w vs i))), k.2)

-- ---- what a projection gives

each_fits : (s : Shadow) (vs : List Var) → Fits s.system → Fits (eliminate_each s vs).system
each_fits s [] h = h
each_fits s (v ∷ vs) h = each_fits (shadow_after s (eliminate s.system v)) vs (eliminate_fits s.system v h)

pub project_fits : (s : System) (vs : List Var) → Fits s → Fits (project s vs).system
project_fits s vs h = clean_fits (eliminate_each (shadow s true) (in_order vs)).system (each_fits (shadow s true) (in_order vs) h)
