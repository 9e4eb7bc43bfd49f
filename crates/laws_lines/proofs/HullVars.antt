-- A hull and a closure have no variable that their systems do not have, or that is neither a changed cell nor its exit.
use Rattle.std.proofs.Common.{◌≡◌, ◌⊎◌, inl, inr, ⊎_elim, ℕ, zero, suc, ◌+◌, ◌≤◌, true, false, ◌||◌, List, [], ◌∷◌, ◌++◌, length, map, ℤ, neg_ℤ, arith, refl, sym, ap, subst}
use Rattle.std.specs.Prelude.{if◌then◌else◌}
use Rattle.affine_systems.specs.declared.row.Var.{Var}
use Rattle.affine_systems.specs.declared.row.Var.TheVariants.{Aux}
use Rattle.affine_systems.specs.declared.row.Term.{Term}
use Rattle.affine_systems.specs.declared.row.Row.{Row}
use Rattle.affine_systems.specs.declared.row.System.{System}
use Rattle.affine_systems.specs.declared.items.Item.{Item}
use Rattle.affine_systems.specs.Terms.{var_eq, term_before}
use Rattle.affine_systems.specs.Rows.{system, AllRows}
use Rattle.affine_systems.specs.Points.{Point, only, factor_of}
use Rattle.affine_systems.specs.Items.{items_from, rows_of}
use Rattle.affine_systems.specs.Given.{IsGiven, IsSmallRow}
use Rattle.affine_systems.specs.Tidy.{tidy_items, tidy}
use Rattle.affine_systems.specs.Eliminate.{eliminate_item, eliminate}
use Rattle.affine_systems.proofs.Basics.{if_cases}
use Rattle.affine_systems.proofs.FitLaws.{tidy_small}
use Rattle.affine_systems.proofs.LastLaws.{Has, keep_has, tidied_has, eliminated_has}
use Rattle.affine_systems.proofs.LackLaws.{Nil, AllNil, RowsNil, rows_of_nil, eliminate_item_nil, eliminate_item_lacks, eliminate_lacks}
use Rattle.hull_projection.specs.declared.eliminations.Left.{Left}
use Rattle.hull_projection.specs.Variables.{in_order, row_vars}
use Rattle.hull_projection.specs.Refute.{with_originals, has_few, count_pairs, left_after, eliminate_all, all_left, refuted}
use Rattle.hull_projection.specs.Fresh.{fresh_after, aux_from, old_vars}
use Rattle.hull_projection.specs.Hull.{place_of, copy_of, share_of, copies, negated_copies, scale, rest_scaled, at_least_0, at_most_1, lift_rows, both_vars, lifted_hull, hull}
use Rattle.hull_projection.specs.Closure.{AreCells, exit_of, step_rows, same_row, cell_terms, exit_terms, iterations_var, many_iterations, steps, changes_of, is_false, iteration_rows, some_iterations, no_iteration, closure}
use Rattle.hull_projection.specs.Laws.{IsOneOf}
use Rattle.hull_projection.proofs.ProjectLaws.{in_order-from}
use Rattle.hull_projection.proofs.GivenLaws.{lifted_given, steps_given, all_same_given, turns_given, ordered_cells}
use Rattle.laws_lines.specs.Variables.{EachVar}
use Rattle.laws_lines.proofs.RowVars.{each_more, each-append, each-term_before, Given, Neat, neat_given, neat_more, over_lasts, over_survives}
use Rattle.laws_lines.proofs.SystemVars.{all-append, all-map, items_have, rows_have, IsNeat, AreGiven, neat_over, given_again, system_more, tidy_neat, eliminate_without, rows_without, clean_neat, project_neat}
use Rattle.elimination.proofs.ClosedLaws.{rows_weaker as all_more}

-- whatever it is
abbrev pub Any : Var → Type 0
Any v = Unit {0}

each_any : (ts : List Term) → EachVar Any ts
each_any [] = tt
each_any (t ∷ ts) = (tt, each_any ts)

-- rows that calls take, over some variables
given_over : (such : Var → Type 0) (rs : List Row) → AllRows IsGiven rs → AllRows (λ r. EachVar such r.terms) rs → AreGiven such rs
given_over such [] h k = tt
given_over such (r ∷ rs) h k = ((h.0.0, k.0), given_over such rs h.1 k.1)

given_any : (rs : List Row) → AllRows IsGiven rs → AreGiven Any rs
given_any [] h = tt
given_any (r ∷ rs) h = ((h.0.0, each_any r.terms), given_any rs h.1)

pub small_rows : (such : Var → Type 0) (s : System) → IsNeat such s → AllRows IsSmallRow s.rows
small_rows such s h = all_more (Neat false such) IsSmallRow (λ r k. tidy_small false r k.0) s.rows h

-- ---- the variables of lifted rows

aux_there : (n j k : ℕ) → j ≤ k → IsOneOf (Aux (n + j)) (aux_from n (suc k))
aux_there n zero k l = let e : n + 0 ≡ n = omega arith in inl (ap (λ m. Aux m) e)
aux_there n (suc j) zero l = absurd (omega (arith, l))
aux_there n (suc j) (suc k) l =
    let e : suc n + j ≡ n + suc j = omega arith in
    inr (subst (λ m. IsOneOf (Aux m) (aux_from (suc n) (suc k))) e (aux_there (suc n) j k (omega (arith, l))))

place_at_most : (v : Var) (ws : List Var) → place_of v ws ≤ length ws
place_at_most v [] = omega arith
place_at_most v (w ∷ ws) =
    let ih = place_at_most v ws in
    if_cases (λ n. n ≤ suc (length ws)) (var_eq v w) 0 (suc (place_of v ws)) (λ e. omega arith) (λ e. omega (arith, ih))

-- such a variable, or one of the multiplier and the scaled copies
abbrev Lifted : (Var → Type 0) → ℕ → List Var → Var → Type 0
Lifted such n xs w = such w ⊎ IsOneOf w (aux_from n (suc (length xs)))

copy_lifted : (such : Var → Type 0) (n : ℕ) (xs : List Var) (v : Var) → Lifted such n xs (copy_of n xs v)
copy_lifted such n xs v = inr (aux_there n (place_of v xs) (length xs) (place_at_most v xs))

share_lifted : (such : Var → Type 0) (n : ℕ) (xs : List Var) → Lifted such n xs (share_of n xs)
share_lifted such n xs = inr (aux_there n (length xs) (length xs) (omega arith))

copies_over : (such : Var → Type 0) (n : ℕ) (xs : List Var) (ts : List Term) → EachVar (Lifted such n xs) (copies n xs ts)
copies_over such n xs [] = tt
copies_over such n xs (t ∷ ts) = (copy_lifted such n xs t.var, copies_over such n xs ts)

negated_over : (such : Var → Type 0) (n : ℕ) (xs : List Var) (ts : List Term) → EachVar (Lifted such n xs) (negated_copies n xs ts)
negated_over such n xs [] = tt
negated_over such n xs (t ∷ ts) = (copy_lifted such n xs t.var, negated_over such n xs ts)

share_over : (such : Var → Type 0) (n : ℕ) (xs : List Var) (z : ℤ) → EachVar (Lifted such n xs) (term_before (share_of n xs) z [])
share_over such n xs z = each-term_before (Lifted such n xs) (share_of n xs) z [] (share_lifted such n xs) tt

scaled_over : (such : Var → Type 0) (n : ℕ) (xs : List Var) (r : Row) → EachVar (Lifted such n xs) (scale n xs r).terms
scaled_over such n xs r = each-append (Lifted such n xs) (copies n xs r.terms) (term_before (share_of n xs) (neg_ℤ r.bound) []) (copies_over such n xs r.terms) (share_over such n xs (neg_ℤ r.bound))

rest_over : (such : Var → Type 0) (n : ℕ) (xs : List Var) (r : Row) → EachVar such r.terms → EachVar (Lifted such n xs) (rest_scaled n xs r).terms
rest_over such n xs r h =
    let both = each-append (Lifted such n xs) r.terms (negated_copies n xs r.terms) (each_more such (Lifted such n xs) (λ v k. inl k) r.terms h) (negated_over such n xs r.terms) in
    each-append (Lifted such n xs) (r.terms ++ negated_copies n xs r.terms) (term_before (share_of n xs) r.bound []) both (share_over such n xs r.bound)

lift_over : (such : Var → Type 0) (n : ℕ) (xs : List Var) (rs ss : List Row) → AllRows (λ r. EachVar such r.terms) rs → AllRows (λ r. EachVar such r.terms) ss → AllRows (λ r. EachVar (Lifted such n xs) r.terms) (lift_rows n xs rs ss)
lift_over such n xs rs ss h k =
    let P = λ (r : Row). EachVar (Lifted such n xs) r.terms in
    let Q = λ (r : Row). EachVar such r.terms in
    all-append P (map (scale n xs) rs ++ map (rest_scaled n xs) ss) (at_least_0 (share_of n xs) ∷ at_most_1 (share_of n xs) ∷ [])
    (all-append P (map (scale n xs) rs) (map (rest_scaled n xs) ss)
    (all-map P (scale n xs) Q (λ r l. scaled_over such n xs r) rs h)
    (all-map P (rest_scaled n xs) Q (λ r l. rest_over such n xs r l) ss k))
    ((share_lifted such n xs, tt), ((share_lifted such n xs, tt), tt))

-- ---- what is left of them

originals_have : (P : Row → Type 0) (n : ℕ) (is : List Item) → Has P is → Has P (with_originals n is)
originals_have P n [] h = tt
originals_have P n (i ∷ is) h = (h.0, originals_have P (suc n) is h.1)

left_has : (such : Var → Type 0) (s : Left) (vs : List Var) → Has (Neat true such) s.items → Has (Neat true such) (eliminate_all true s vs).items
left_has such s [] h = h
left_has such s (v ∷ vs) h =
    let e = eliminate_item true v s.items in
    left_has such (left_after s e) vs
    (keep_has (λ (i : Item). Neat true such i.row) (has_few (count_pairs s.pairs e)) e.items (eliminated_has (Given such) (Neat true such) true (over_survives such true) v s.items h))

few_nil : (u : Point) (s : Left) (v : Var) → AllNil u (eliminate_item true v s.items).items → AllNil u (left_after s (eliminate_item true v s.items)).items
few_nil u s v h = let e = eliminate_item true v s.items in keep_has (λ (i : Item). Nil u i.row) (has_few (count_pairs s.pairs e)) e.items h

left_nil : (u : Point) (s : Left) (vs : List Var) → AllNil u s.items → AllNil u (eliminate_all true s vs).items
left_nil u s [] h = h
left_nil u s (v ∷ vs) h = left_nil u (left_after s (eliminate_item true v s.items)) vs (few_nil u s v (eliminate_item_nil u true v s.items h))

left_lacks : (w : Var) (s : Left) (vs : List Var) → IsOneOf w vs → AllNil (only w) (eliminate_all true s vs).items
left_lacks w s [] h = absurd h
left_lacks w s (v ∷ vs) (inl e) =
    left_nil (only w) (left_after s (eliminate_item true v s.items)) vs
    (few_nil (only w) s v (subst (λ (x : Var). AllNil (only x) (eliminate_item true v s.items).items) (sym e) (eliminate_item_lacks true v s.items)))
left_lacks w s (v ∷ vs) (inr h) = left_lacks w (left_after s (eliminate_item true v s.items)) vs h

lifted_neat : (such : Var → Type 0) (a b : System) → IsNeat such a → IsNeat such b → IsNeat such (lifted_hull (fresh_after (both_vars a b)) (both_vars a b) a b)
lifted_neat such a b h k =
    let xs = both_vars a b in
    let n = fresh_after xs in
    let S = Lifted such n xs in
    let rows = lift_rows n xs a.rows b.rows in
    let given = given_over S rows (lifted_given n xs a b rows refl refl (small_rows such a h) (small_rows such b k) refl) (lift_over such n xs a.rows b.rows (neat_over such a h) (neat_over such b k)) in
    let t = tidy_items true (items_from 0 rows) in
    let ys = aux_from n (suc (length xs)) in
    let s = eliminate_all true (all_left t.items) ys in
    let neat = left_has S (all_left t.items) ys (originals_have (Neat true S) 0 t.items (tidied_has (Given S) (Neat true S) true (over_lasts S true) (items_from 0 rows) (items_have (Given S) 0 rows given))) in
    let gone = rows_without true S (λ w. IsOneOf w ys) (rows_of s.items) (rows_have (Neat true S) s.items neat) (λ w m. rows_of_nil (only w) s.items (left_lacks w (all_left t.items) ys m)) in
    let w = ((a.weak || b.weak) || t.lost) || s.lost in
    clean_neat such (tidy (system (rows_of s.items) w))
    (tidy_neat such (system (rows_of s.items) w)
    (all_more (Neat true (λ v. S v × (IsOneOf v ys → ⊥))) (Given such)
    (λ r g. neat_given true such r (neat_more true (λ v. S v × (IsOneOf v ys → ⊥)) such (λ v p. ⊎_elim (λ i. i) (λ i. absurd (p.1 i)) p.0) r g))
    (rows_of s.items) gone))

pub hull_neat : (such : Var → Type 0) (a b : System) → IsNeat such a → IsNeat such b → IsNeat such (hull a b)
hull_neat such a b h k =
    if_cases (IsNeat such) (refuted a.rows) b (if refuted b.rows then a else lifted_hull (fresh_after (both_vars a b)) (both_vars a b) a b)
    (λ e. k)
    (λ e. if_cases (IsNeat such) (refuted b.rows) a (lifted_hull (fresh_after (both_vars a b)) (both_vars a b) a b) (λ f. h) (λ f. lifted_neat such a b h k))

-- ---- closures

abbrev CellsAre : (Var → Type 0) → List Var → Type 0
CellsAre such [] = Unit {0}
CellsAre such (c ∷ cs) = such c × such (exit_of c) × CellsAre such cs

cells_are : (such : Var → Type 0) (cs : List Var) → ((c : Var) → IsOneOf c cs → such c × such (exit_of c)) → CellsAre such cs
cells_are such [] f = tt
cells_are such (c ∷ cs) f = let k = f c (inl refl) in (k.0, k.1, cells_are such cs (λ d m. f d (inr m)))

cells_over : (such : Var → Type 0) (n : ℕ) (cs : List Var) (ts : List Term) → CellsAre such cs → EachVar such (cell_terms n cs ts)
cells_over such n [] ts h = tt
cells_over such n (c ∷ cs) ts h = each-term_before such c (neg_ℤ (factor_of (Aux n) ts)) (cell_terms (suc n) cs ts) h.0 (cells_over such (suc n) cs ts h.2)

exits_over : (such : Var → Type 0) (n : ℕ) (cs : List Var) (ts : List Term) → CellsAre such cs → EachVar such (exit_terms n cs ts)
exits_over such n [] ts h = tt
exits_over such n (c ∷ cs) ts h = each-term_before such (exit_of c) (factor_of (Aux n) ts) (exit_terms (suc n) cs ts) h.1 (exits_over such (suc n) cs ts h.2)

many_over : (such : Var → Type 0) (n : ℕ) (cs : List Var) (r : Row) → CellsAre such cs → such (iterations_var n cs) → EachVar such (many_iterations n cs r).terms
many_over such n cs r h k =
    each-append such (cell_terms n cs r.terms ++ exit_terms n cs r.terms) (term_before (iterations_var n cs) (neg_ℤ r.bound) [])
    (each-append such (cell_terms n cs r.terms) (exit_terms n cs r.terms) (cells_over such n cs r.terms h) (exits_over such n cs r.terms h))
    (each-term_before such (iterations_var n cs) (neg_ℤ r.bound) [] k tt)

turns_over : (such : Var → Type 0) (n : ℕ) (cs : List Var) (rs : List Row) → CellsAre such cs → such (iterations_var n cs) → AllRows (λ r. EachVar such r.terms) (iteration_rows n cs rs)
turns_over such n cs [] h k = ((k, tt), tt)
turns_over such n cs (r ∷ rs) h k = (many_over such n cs r h k, turns_over such n cs rs h k)

same_over : (such : Var → Type 0) (cs : List Var) → CellsAre such cs → AllRows (λ r. EachVar such r.terms) (map same_row cs)
same_over such [] h = tt
same_over such (c ∷ cs) h = ((h.0, (h.1, tt)), same_over such cs h.2)

cells_more : (such other : Var → Type 0) → ((v : Var) → such v → other v) → (cs : List Var) → CellsAre such cs → CellsAre other cs
cells_more such other f [] h = tt
cells_more such other f (c ∷ cs) h = (f c h.0, f (exit_of c) h.1, cells_more such other f cs h.2)

changes_small : (n : ℕ) (cs : List Var) (t : System) → AreCells cs → IsNeat Any t → AllRows IsSmallRow (changes_of n cs t).rows
changes_small n cs t o h =
    let together = system (t.rows ++ step_rows n cs) t.weak in
    let s = tidy_neat Any together (all-append (Given Any) t.rows (step_rows n cs) (given_again Any t h) (given_any (step_rows n cs) (steps_given n cs o))) in
    let vs = old_vars n (row_vars (steps n cs t).rows) in
    small_rows (λ w. Any w × (IsOneOf w vs → ⊥)) (changes_of n cs t) (project_neat Any (steps n cs t) vs s)

pub closure_neat : (such : Var → Type 0) (cs : List Var) (t : System) → AreCells cs → ((c : Var) → IsOneOf c cs → such c × such (exit_of c)) → IsNeat Any t → IsNeat such (closure cs t)
closure_neat such cs t o f h =
    let n = fresh_after (row_vars t.rows) in
    let ds = in_order cs in
    let ordered = ordered_cells cs o in
    let s = changes_of n ds t in
    let are = cells_are such ds (λ c m. f c (in_order-from c cs m)) in
    let k = iterations_var n ds in
    let S = λ (w : Var). such w ⊎ (w ≡ k) in
    let rows = iteration_rows n ds s.rows in
    let many = system rows s.weak in
    if_cases (IsNeat such) (is_false s.rows) (no_iteration ds s.weak) (some_iterations n ds s)
    (λ e. tidy_neat such (system (map same_row ds) s.weak) (given_over such (map same_row ds) (all_same_given ds ordered.cells) (same_over such ds are)))
    (λ e. let g = given_over S rows (turns_given n ds s.rows rows ordered (changes_small n ds t ordered.cells h) refl) (turns_over S n ds s.rows (cells_more such S (λ v m. inl m) ds are) (inr refl)) in
    let gone = eliminate_without S (tidy many) k (tidy_neat S many g) (λ w q. subst (λ (x : Var). RowsNil (only x) (eliminate (tidy many) k).system.rows) (sym q) (eliminate_lacks (tidy many) k)) in
    clean_neat such (eliminate (tidy many) k).system
    (system_more (λ w. S w × (w ≡ k → ⊥)) such (λ v p. ⊎_elim (λ i. i) (λ i. absurd (p.1 i)) p.0) (eliminate (tidy many) k).system gone))
