-- Which variables the rows of a closure have.
use Rattle.std.proofs.Common.{◌≡◌, ℕ, suc, ◌+◌, List, [], ◌∷◌, ◌++◌, map, ℤ, pos, negsuc, neg_ℤ, ◌*ℤ◌, arith, ap, refl, inl, inr}
use Rattle.std.proofs.lemmas.Int.{ints}
use Rattle.affine_systems.specs.declared.row.Var.{Var}
use Rattle.affine_systems.specs.declared.row.Var.TheVariants.{Aux}
use Rattle.affine_systems.specs.declared.row.Term.{Term}
use Rattle.affine_systems.specs.declared.row.Row.{Row}
use Rattle.affine_systems.specs.declared.row.System.{System}
use Rattle.affine_systems.specs.Terms.{term_before}
use Rattle.affine_systems.specs.Rows.{system}
use Rattle.affine_systems.specs.Points.{Point, value, factor_of}
use Rattle.affine_systems.specs.Tidy.{tidy}
use Rattle.affine_systems.specs.Eliminate.{eliminate}
use Rattle.affine_systems.proofs.Basics.{if_cases}
use Rattle.affine_systems.proofs.TermLaws.{value-term_before}
use Rattle.affine_systems.proofs.LackLaws.{Nil, RowsNil, tidy_nil, eliminate_nil}
use Rattle.hull_projection.specs.Variables.{in_order}
use Rattle.hull_projection.specs.Closure.{exit_of, same_row, cell_terms, exit_terms, iterations_var, many_iterations, iteration_rows, is_false, some_iterations, no_iteration, iterations_of, changes_of, closure}
use Rattle.hull_projection.specs.Fresh.{fresh_after}
use Rattle.hull_projection.specs.Variables.{row_vars}
use Rattle.hull_projection.specs.Hull.{at_least_0}
use Rattle.hull_projection.specs.Laws.{IsOneOf}
use Rattle.hull_projection.proofs.ProjectLaws.{in_order-from, cleaned_nil}
use Rattle.hull_projection.proofs.LiftLaws.{value-append}

-- ---- the variables of a closure: the changed cells and their exits

-- u is 0 at the cells and at their exits
abbrev pub Off : Point → List Var → Type 0
Off u [] = Unit {0}
Off u (c ∷ cs) = (u c ≡ pos 0) × (u (exit_of c) ≡ pos 0) × Off u cs

pub off_from : (u : Point) (cs : List Var) → ((c : Var) → IsOneOf c cs → (u c ≡ pos 0) × (u (exit_of c) ≡ pos 0)) → Off u cs
off_from u [] f = tt
off_from u (c ∷ cs) f = let k = f c (inl refl) in (k.0, k.1, off_from u cs (λ d h. f d (inr h)))

no_term : (u : Point) (v : Var) (f : ℤ) (ts : List Term) → u v ≡ pos 0 → value u ts ≡ pos 0 → value u (term_before v f ts) ≡ pos 0
no_term u v f ts h k =
    let a = value-term_before u v f ts in
    let b : f *ℤ u v ≡ f *ℤ pos 0 = ap (λ z. f *ℤ z) h in
    omega (arith, ints, a, b, k)

cells_nil : (u : Point) (n : ℕ) (cs : List Var) (ts : List Term) → Off u cs → value u (cell_terms n cs ts) ≡ pos 0
cells_nil u n [] ts h = refl
cells_nil u n (c ∷ cs) ts h = no_term u c (neg_ℤ (factor_of (Aux n) ts)) (cell_terms (suc n) cs ts) h.0 (cells_nil u (suc n) cs ts h.2)

exits_nil : (u : Point) (n : ℕ) (cs : List Var) (ts : List Term) → Off u cs → value u (exit_terms n cs ts) ≡ pos 0
exits_nil u n [] ts h = refl
exits_nil u n (c ∷ cs) ts h = no_term u (exit_of c) (factor_of (Aux n) ts) (exit_terms (suc n) cs ts) h.1 (exits_nil u (suc n) cs ts h.2)

many_nil : (u : Point) (n : ℕ) (cs : List Var) (r : Row) → Off u cs → u (iterations_var n cs) ≡ pos 0 → Nil u (many_iterations n cs r)
many_nil u n cs r h k =
    let v = value-append u (cell_terms n cs r.terms ++ exit_terms n cs r.terms) (term_before (iterations_var n cs) (neg_ℤ r.bound) []) in
    let a = value-append u (cell_terms n cs r.terms) (exit_terms n cs r.terms) in
    let b = no_term u (iterations_var n cs) (neg_ℤ r.bound) [] k refl in
    let c = cells_nil u n cs r.terms h in
    let d = exits_nil u n cs r.terms h in
    omega (arith, ints, v, a, b, c, d)

count_nil : (u : Point) (v : Var) → u v ≡ pos 0 → Nil u (at_least_0 v)
count_nil u v k = let b : negsuc 0 *ℤ u v ≡ negsuc 0 *ℤ pos 0 = ap (λ z. negsuc 0 *ℤ z) k in omega (arith, ints, b)

turns_nil : (u : Point) (n : ℕ) (cs : List Var) (rs : List Row) → Off u cs → u (iterations_var n cs) ≡ pos 0 → RowsNil u (iteration_rows n cs rs)
turns_nil u n cs [] h k = (count_nil u (iterations_var n cs) k, tt)
turns_nil u n cs (r ∷ rs) h k = (many_nil u n cs r h k, turns_nil u n cs rs h k)

same_nil : (u : Point) (cs : List Var) → Off u cs → RowsNil u (map same_row cs)
same_nil u [] h = tt
same_nil u (c ∷ cs) h =
    let a = h.0 in
    let b = h.1 in
    (omega (arith, ints, a, b), same_nil u cs h.2)

turned_nil : (u : Point) (n : ℕ) (cs : List Var) (s : System) → Off u cs → u (iterations_var n cs) ≡ pos 0 → RowsNil u (iterations_of n cs s).rows
turned_nil u n cs s h k =
    if_cases (λ (t : System). RowsNil u t.rows) (is_false s.rows) (no_iteration cs s.weak) (some_iterations n cs s)
    (λ e. tidy_nil u (system (map same_row cs) s.weak) (same_nil u cs h))
    (λ e. let many = system (iteration_rows n cs s.rows) s.weak in
    cleaned_nil u [] (eliminate (tidy many) (iterations_var n cs)).system.rows (eliminate_nil u (tidy many) (iterations_var n cs) (tidy_nil u many (turns_nil u n cs s.rows h k))))

-- no row of a closure has a variable that is neither a changed cell nor its exit nor auxiliary
pub closure_nil : (u : Point) (cs : List Var) (t : System) → ((c : Var) → IsOneOf c cs → (u c ≡ pos 0) × (u (exit_of c) ≡ pos 0)) → ((n : ℕ) → u (Aux n) ≡ pos 0) → RowsNil u (closure cs t).rows
closure_nil u cs t f g =
    let n = fresh_after (row_vars t.rows) in
    let ds = in_order cs in
    turned_nil u n ds (changes_of n ds t) (off_from u ds (λ c h. f c (in_order-from c cs h))) (g _)
