-- The closure has each pair of stores that any number of iterations joins.
use Rattle.std.proofs.Common.{◌≡◌, ℕ, zero, suc, ◌+◌, ◌-◌, ◌<◌, ◌≤◌, Bool, true, false, ◌||◌, List, [], ◌∷◌, ◌++◌, map, length, ℤ, pos, neg_ℤ, ◌+ℤ◌, ◌-ℤ◌, ◌*ℤ◌, arith, ap, refl, sym, subst, ◌∙◌, ⊎_elim, ◌⊎◌, inl, inr}
use Rattle.std.specs.Prelude.{nat_lt}
use Rattle.std.proofs.lemmas.Int.{ints}
use Rattle.std.proofs.lemmas.Bool.Decides.{nat_tests}
use Rattle.std.proofs.lemmas.Bool.{cases_Bool}
use Rattle.affine_systems.specs.declared.row.Var.{Var}
use Rattle.affine_systems.specs.declared.row.Var.TheVariants.{Cell, Exit, Phi, Aux}
use Rattle.affine_systems.specs.declared.row.Term.{Term}
use Rattle.affine_systems.specs.declared.row.Row.{Row}
use Rattle.affine_systems.specs.declared.row.System.{System}
use Rattle.affine_systems.specs.Terms.{var_eq, number, term_before}
use Rattle.affine_systems.specs.Rows.{system}
use Rattle.affine_systems.specs.Points.{Point, value, Meets, Holds, HoldsAll, moved, only, factor_of}
use Rattle.affine_systems.specs.Items.{is_false_row}
use Rattle.affine_systems.specs.Tidy.{tidy}
use Rattle.affine_systems.specs.Eliminate.{eliminate}
use Rattle.hull_projection.specs.Variables.{in_order, with_terms, row_vars}
use Rattle.hull_projection.specs.Project.{shadow, eliminate_each, project}
use Rattle.hull_projection.specs.Fresh.{fresh_after, is_old, old_vars}
use Rattle.hull_projection.specs.Hull.{at_least_0}
use Rattle.hull_projection.specs.Closure.{IsCell, AreCells, exit_of, step_row, step_rows, same_row, cell_terms, exit_terms, iterations_var, many_iterations, steps, changes_of, is_false, iteration_rows, some_iterations, no_iteration, closure_of, closure}
use Rattle.hull_projection.specs.Iterations.{Store, between, Joined}
use Rattle.hull_projection.specs.Laws.{IsOneOf, ContainsIterations}
use Rattle.affine_systems.proofs.Basics.{if_cases, distributes, distributes_right, neg_mul, mul_comm}
use Rattle.affine_systems.proofs.TermLaws.{var_eq-true, true-var_eq, value-term_before}
use Rattle.affine_systems.proofs.TidyLaws.{tidy_holds, is_false_row-true}
use Rattle.affine_systems.proofs.ElimLaws.{eliminate_holds}
use Rattle.affine_systems.proofs.ExactLaws.{value-moved, mul_neg}
use Rattle.affine_systems.proofs.LackLaws.{Nil, RowsNil, factor-only, tidy_nil, eliminate_lacks}
use Rattle.affine_systems.proofs.CallLaws.{append_all}
use Rattle.hull_projection.proofs.CleanLaws.{clean_same}
use Rattle.hull_projection.proofs.ProjectLaws.{in_order-from, cleaned_nil, each_nil, each_holds, project_nil}
use Rattle.hull_projection.proofs.VarLaws.{TermsIn, RowsIn, rows_covered, terms_covered, IsOld, fresh_old}
use Rattle.hull_projection.proofs.LiftLaws.{with_aux, aux_eq, aux_apart, old_apart, with_aux_old, moves_back, value-agrees, agree_from, agree_hold, value-zero, value-append}
use Rattle.fx_lists.proofs.Booleans.{clash}

-- ---- what one iteration changes

-- the difference of two stores at a cell
abbrev change : Store → Store → Var → ℤ
change s u (Cell n) = u n -ℤ s n
change s u (Exit n) = pos 0
change s u (Phi n) = pos 0
change s u (Aux n) = pos 0

abbrev pub zero_point : Point
zero_point v = pos 0

-- the point with the change of each cell at its d, on top of another
abbrev changes_on : Point → ℕ → List Var → Store → Store → Point
changes_on p n cs s u = with_aux p n (map (change s u) cs)

-- a point that has the two stores at cells and exits
abbrev HasStores : Point → Store → Store → Type 0
HasStores q s u = (m : ℕ) → (q (Cell m) ≡ s m) × (q (Exit m) ≡ u m)

change_at : (q : Point) (s u : Store) (c : Var) → HasStores q s u → IsCell c → change s u c ≡ q (exit_of c) -ℤ q c
change_at q s u (Cell k) f h = let g = f k in let x = g.0 in let y = g.1 in omega (arith, ints, x, y)
change_at q s u (Exit k) f h = absurd h
change_at q s u (Phi k) f h = absurd h
change_at q s u (Aux k) f h = absurd h

-- ---- the rows d == Exit - Cell hold at the lifted point

aux_first : (p : Point) (n : ℕ) (x : ℤ) (xs : List ℤ) → with_aux p n (x ∷ xs) (Aux n) ≡ x
aux_first p n x xs = rw (aux_eq n n refl) refl

step_row_holds : (q : Point) (n : ℕ) (c : Var) → q (Aux n) ≡ q (exit_of c) -ℤ q c → Holds q (step_row n c)
step_row_holds q n c e = omega (arith, ints, e)

abbrev at_place : ℕ → List Var → Var
at_place k [] = Cell 0
at_place zero (c ∷ cs) = c
at_place (suc k) (c ∷ cs) = at_place k cs

aux_at : (p : Point) (f : Var → ℤ) (n : ℕ) (cs : List Var) (m k : ℕ) → m ≡ n + k → k < length cs → with_aux p n (map f cs) (Aux m) ≡ f (at_place k cs)
aux_at p f n [] m k e l = absurd (omega (arith, l))
aux_at p f n (c ∷ cs) m zero e l = let h : n ≡ m = omega (arith, e) in rw (aux_eq n m h) refl
aux_at p f n (c ∷ cs) m (suc k) e l =
    let h : n < m = omega (arith, e) in
    let i : m ≡ suc n + k = omega (arith, e) in
    let j : k < length cs = omega (arith, l) in
    rw (aux_apart n m h) (aux_at p f (suc n) cs m k i j)

step_rows_hold : (q : Point) (n : ℕ) (s u : Store) (cs : List Var) → HasStores q s u → AreCells cs → ((m k : ℕ) → m ≡ n + k → k < length cs → q (Aux m) ≡ change s u (at_place k cs)) → HoldsAll q (step_rows n cs)
step_rows_hold q n s u [] f o g = tt
step_rows_hold q n s u (c ∷ cs) f o g =
    let a : q (Aux n) ≡ change s u c = g n 0 (omega arith) (omega arith) in (
      step_row_holds q n c (a ∙ change_at q s u c f o.0),
      step_rows_hold q (suc n) s u cs f o.1 (λ m k e l. g m (suc k) (omega (arith, e)) (omega (arith, l))),
    )

-- ---- which variables stay

-- v is none of the variables
abbrev Apart : Var → List Term → Type 0
Apart v [] = Unit {0}
Apart v (t ∷ ts) = (var_eq v t.var ≡ false) × Apart v ts

apart_nil : (v : Var) (ts : List Term) → Apart v ts → value (only v) ts ≡ pos 0
apart_nil v [] h = refl
apart_nil v (t ∷ ts) h =
    let ih = apart_nil v ts h.1 in
    let k : only v t.var ≡ pos 0 = rw h.0 refl in
    let m : t.factor *ℤ only v t.var ≡ t.factor *ℤ pos 0 = ap (λ x. t.factor *ℤ x) k in
    omega (arith, ints, ih, m)

in_or_not : (v : Var) (ws : List Var) → IsOneOf v ws ⊎ (IsOneOf v ws → ⊥)
in_or_not v [] = inr (λ h. h)
in_or_not v (w ∷ ws) =
    ⊎_elim (λ e. inl (inl (var_eq-true v w e)))
    (λ e. ⊎_elim (λ h. inl (inr h)) (λ h. inr (λ k. ⊎_elim (λ s. clash (var_eq v w) (true-var_eq v w s) e) h k)) (in_or_not v ws))
    (cases_Bool (var_eq v w))

apart_from : (v : Var) (xs : List Var) (ts : List Term) → (IsOneOf v xs → ⊥) → TermsIn xs ts → Apart v ts
apart_from v xs [] f h = tt
apart_from v xs (t ∷ ts) f h =
    (go (var_eq v t.var) refl, apart_from v xs ts f h.1)
  where
    go : (b : Bool) → var_eq v t.var ≡ b → var_eq v t.var ≡ false
    go true e = absurd (f (subst (λ (w : Var). IsOneOf w xs) (sym (var_eq-true v t.var e)) h.0))
    go false e = e

rows_nil_from : (v : Var) (xs : List Var) (rs : List Row) → (IsOneOf v xs → ⊥) → RowsIn xs rs → RowsNil (only v) rs
rows_nil_from v xs [] f h = tt
rows_nil_from v xs (r ∷ rs) f h = (apart_nil v r.terms (apart_from v xs r.terms f h.0), rows_nil_from v xs rs f h.1)

rows_nil_append : (u : Point) (rs ss : List Row) → RowsNil u rs → RowsNil u ss → RowsNil u (rs ++ ss)
rows_nil_append u [] ss h k = k
rows_nil_append u (r ∷ rs) ss h k = (h.0, rows_nil_append u rs ss h.1 k)

shadow_nil : (u : Point) (s : System) (vs : List Var) → RowsNil u s.rows → RowsNil u (project s vs).system.rows
shadow_nil u s vs h = cleaned_nil u [] (eliminate_each (shadow s true) (in_order vs)).system.rows (each_nil u (shadow s true) (in_order vs) h)

old_has : (n : ℕ) (v : Var) (vs : List Var) → is_old n v ≡ true → IsOneOf v vs → IsOneOf v (old_vars n vs)
old_has n v [] o h = absurd h
old_has n v (w ∷ ws) o h =
    if_cases (IsOneOf v) (is_old n w) (w ∷ old_vars n ws) (old_vars n ws)
    (λ e. ⊎_elim (λ k. inl k) (λ k. inr (old_has n v ws o k)) h)
    (λ e. ⊎_elim (λ k. clash (is_old n w) (subst (λ (x : Var). is_old n x ≡ true) k o) e) (λ k. old_has n v ws o k) h)

-- no row d == Exit - Cell has an Aux above the d
aux_apart_over : (m n : ℕ) → m < n → var_eq (Aux n) (Aux m) ≡ false
aux_apart_over m n l = go (var_eq (Aux n) (Aux m)) refl where
  go : (b : Bool) → var_eq (Aux n) (Aux m) ≡ b → var_eq (Aux n) (Aux m) ≡ false
  go true e = let k : n ≡ m = ap number (var_eq-true (Aux n) (Aux m) e) in absurd (omega (arith, k, l))
  go false e = e

old_other : (m : ℕ) (c : Var) → IsCell c → (var_eq (Aux m) c ≡ false) × (var_eq (Aux m) (exit_of c) ≡ false)
old_other m (Cell k) h = (old_apart m (Cell k) tt, old_apart m (Exit k) tt)
old_other m (Exit k) h = absurd h
old_other m (Phi k) h = absurd h
old_other m (Aux k) h = absurd h

step_row_nil : (n m : ℕ) (c : Var) → n < m → IsCell c → Nil (only (Aux m)) (step_row n c)
step_row_nil n m c l k =
    let o = old_other m c k in
    let x : only (Aux m) (Aux n) ≡ pos 0 = rw (aux_apart_over n m l) refl in
    let y : only (Aux m) (exit_of c) ≡ pos 0 = rw o.1 refl in
    let z : only (Aux m) c ≡ pos 0 = rw o.0 refl in
    omega (arith, ints, x, y, z)

step_rows_nil : (n m : ℕ) (cs : List Var) → n + length cs ≤ m → AreCells cs → RowsNil (only (Aux m)) (step_rows n cs)
step_rows_nil n m [] l o = tt
step_rows_nil n m (c ∷ cs) l o = (step_row_nil n m c (omega (arith, l)) o.0, step_rows_nil (suc n) m cs (omega (arith, l)) o.1)

old_gone : (n : ℕ) (s : System) (v : Var) → is_old n v ≡ true → RowsNil (only v) (project s (old_vars n (row_vars s.rows))).system.rows
old_gone n s v o =
    let xs = row_vars s.rows in
    ⊎_elim
    (λ h. project_nil v s (old_vars n xs) (old_has n v xs o h))
    (λ h. shadow_nil (only v) s (old_vars n xs) (rows_nil_from v xs s.rows h (rows_covered [] s.rows)))
    (in_or_not v xs)

-- an Aux above the d stands in no row
high_gone : (n : ℕ) (cs : List Var) (t : System) (m : ℕ) → n ≡ fresh_after (row_vars t.rows) → AreCells cs → n + length cs ≤ m → RowsNil (only (Aux m)) (changes_of n cs t).rows
high_gone n cs t m e o l =
    let s = steps n cs t in
    let xs = row_vars t.rows in
    let no : IsOneOf (Aux m) xs → ⊥ = λ h. (let k : m < fresh_after xs = fresh_old (Aux m) xs h in omega (arith, k, e, l)) in
    shadow_nil (only (Aux m)) s (old_vars n (row_vars s.rows))
    (tidy_nil (only (Aux m)) (system (t.rows ++ step_rows n cs) t.weak)
    (rows_nil_append (only (Aux m)) t.rows (step_rows n cs) (rows_nil_from (Aux m) xs t.rows no (rows_covered [] t.rows)) (step_rows_nil n m cs l o)))

-- at each variable the two points agree, or no row has it
d_or_gone : (p : Point) (s u : Store) (n : ℕ) (cs : List Var) (t : System) → n ≡ fresh_after (row_vars t.rows) → AreCells cs → (v : Var) → (changes_on p n cs s u v ≡ changes_on zero_point n cs s u v) ⊎ RowsNil (only v) (changes_of n cs t).rows
d_or_gone p s u n cs t e o (Cell m) = inr (old_gone n (steps n cs t) (Cell m) refl)
d_or_gone p s u n cs t e o (Exit m) = inr (old_gone n (steps n cs t) (Exit m) refl)
d_or_gone p s u n cs t e o (Phi m) = inr (old_gone n (steps n cs t) (Phi m) refl)
d_or_gone p s u n cs t e o (Aux m) =
    ⊎_elim
    (λ l. inr (old_gone n (steps n cs t) (Aux m) l))
    (λ l. ⊎_elim
    (λ k. let i : m ≡ n + (m - n) = grind (arith, nat_tests) in
    let j : m - n < length cs = grind (arith, nat_tests) in
    inl (aux_at p (change s u) n cs m (m - n) i j ∙ sym (aux_at zero_point (change s u) n cs m (m - n) i j)))
    (λ k. let i : n + length cs ≤ m = grind (arith, nat_tests) in inr (high_gone n cs t m e o i))
    (cases_Bool (nat_lt m (n + length cs))))
    (cases_Bool (nat_lt m n))

-- ---- from the lifted point to the changes

abbrev moved_to : Point → Point → List Var → Point
moved_to p q [] = p
moved_to p q (v ∷ vs) = moved (moved_to p q vs) v (q v)

moved_to_in : (p q : Point) (vs : List Var) (v : Var) → IsOneOf v vs → moved_to p q vs v ≡ q v
moved_to_in p q [] v h = absurd h
moved_to_in p q (w ∷ vs) v h =
    ⊎_elim
    (λ e. rw e (ap q (var_eq-true w v e)))
    (λ e. rw e (moved_to_in p q vs v (⊎_elim (λ k. clash (var_eq w v) (true-var_eq w v (sym k)) e) (λ k. k) h)))
    (cases_Bool (var_eq w v))

moved_to_same : (p q : Point) (vs : List Var) (v : Var) → p v ≡ q v → moved_to p q vs v ≡ q v
moved_to_same p q [] v h = h
moved_to_same p q (w ∷ vs) v h =
    ⊎_elim
    (λ e. rw e (ap q (var_eq-true w v e)))
    (λ e. rw e (moved_to_same p q vs v h))
    (cases_Bool (var_eq w v))

value-moved_to : (p q : Point) (vs : List Var) (ts : List Term) → ((v : Var) → (p v ≡ q v) ⊎ (value (only v) ts ≡ pos 0)) → value (moved_to p q vs) ts ≡ value p ts
value-moved_to p q [] ts f = refl
value-moved_to p q (v ∷ vs) ts f =
    let ih = value-moved_to p q vs ts f in
    let m = value-moved (moved_to p q vs) v (q v) ts in
    ⊎_elim
    (λ h. let e = moved_to_same p q vs v h in
    let z : q v -ℤ moved_to p q vs v ≡ pos 0 = omega (arith, ints, e) in
    let k : factor_of v ts *ℤ (q v -ℤ moved_to p q vs v) ≡ factor_of v ts *ℤ pos 0 = ap (λ y. factor_of v ts *ℤ y) z in
    m ∙ omega (arith, ints, ih, k))
    (λ h. let z : factor_of v ts ≡ pos 0 = factor-only v ts ∙ h in
    let k : factor_of v ts *ℤ (q v -ℤ moved_to p q vs v) ≡ pos 0 *ℤ (q v -ℤ moved_to p q vs v) = ap (λ y. y *ℤ (q v -ℤ moved_to p q vs v)) z in
    m ∙ omega (arith, ints, ih, k))
    (f v)

value-elsewhere : (p q : Point) (ts : List Term) → ((v : Var) → (p v ≡ q v) ⊎ (value (only v) ts ≡ pos 0)) → value p ts ≡ value q ts
value-elsewhere p q ts f =
    let vs = with_terms [] ts in
    sym (value-moved_to p q vs ts f) ∙ value-agrees (moved_to p q vs) q ts (agree_from (moved_to p q vs) q vs ts (λ v h. moved_to_in p q vs v h) (terms_covered [] ts))

pub rows_elsewhere : (p q : Point) (rs : List Row) → ((v : Var) → (p v ≡ q v) ⊎ RowsNil (only v) rs) → HoldsAll p rs → HoldsAll q rs
rows_elsewhere p q [] f h = tt
rows_elsewhere p q (r ∷ rs) f h = (
  subst (λ (x : ℤ). Meets r.equal x r.bound) (value-elsewhere p q r.terms (λ v. ⊎_elim (λ k. inl k) (λ k. inr k.0) (f v))) h.0,
  rows_elsewhere p q rs (λ v. ⊎_elim (λ k. inl k) (λ k. inr k.1) (f v)) h.1,
)

between_stores : (p : Point) (n : ℕ) (xs : List ℤ) (s u : Store) → HasStores (with_aux (between p s u) n xs) s u
between_stores p n xs s u m = (with_aux_old (between p s u) n xs (Cell m) tt, with_aux_old (between p s u) n xs (Exit m) tt)

-- the rows of one iteration hold at its changes
turn_holds : (p : Point) (s u : Store) (n : ℕ) (cs : List Var) (t : System) → n ≡ fresh_after (row_vars t.rows) → AreCells cs → HoldsAll (between p s u) t.rows → HoldsAll (changes_on zero_point n cs s u) (changes_of n cs t).rows
turn_holds p s u n cs t e o h =
    let b = between p s u in
    let zs = map (change s u) cs in
    let q = with_aux b n zs in
    let xs = row_vars t.rows in
    let old = λ (v : Var) (i : IsOneOf v xs). sym (with_aux_old b n zs v (subst (λ (k : ℕ). IsOld k v) (sym e) (fresh_old v xs i))) in
    let own = step_rows_hold q n s u cs (between_stores p n zs s u) o (λ m k i l. aux_at b (change s u) n cs m k i l) in
    let raw = (append_all q t.rows (step_rows n cs)).0 (agree_hold b q xs t.rows old (rows_covered [] t.rows) h, own) in
    let w = steps n cs t in
    let vs = old_vars n (row_vars w.rows) in
    let r = eliminate_each (shadow w true) (in_order vs) in
    rows_elsewhere q (changes_on zero_point n cs s u) (changes_of n cs t).rows (d_or_gone b s u n cs t e o)
    ((clean_same q r.system).0 (each_holds q (shadow w true) (in_order vs) (tidy_holds q (system (t.rows ++ step_rows n cs) t.weak) raw)))

-- ---- many iterations

change_sum : (s u w : Store) (c : Var) → change s w c ≡ change s u c +ℤ change u w c
change_sum s u w (Cell n) = omega (arith, ints)
change_sum s u w (Exit n) = refl
change_sum s u w (Phi n) = refl
change_sum s u w (Aux n) = refl

change_none : (s w : Store) → ((c : ℕ) → s c ≡ w c) → (c : Var) → change s w c ≡ pos 0
change_none s w f (Cell n) = let e = f n in omega (arith, ints, e)
change_none s w f (Exit n) = refl
change_none s w f (Phi n) = refl
change_none s w f (Aux n) = refl

-- the factors of the d, each with a number
abbrev sum_at : ℕ → List Var → (Var → ℤ) → List Term → ℤ
sum_at n [] f ts = pos 0
sum_at n (c ∷ cs) f ts = (factor_of (Aux n) ts *ℤ f c) +ℤ sum_at (suc n) cs f ts

value-changes : (n : ℕ) (cs : List Var) (f : Var → ℤ) (ts : List Term) → value (with_aux zero_point n (map f cs)) ts ≡ sum_at n cs f ts
value-changes n [] f ts = value-zero ts
value-changes n (c ∷ cs) f ts =
    let ih = value-changes (suc n) cs f ts in
    let q = with_aux zero_point (suc n) (map f cs) in
    let m = value-moved q (Aux n) (f c) ts in
    let z : q (Aux n) ≡ pos 0 = with_aux_old zero_point (suc n) (map f cs) (Aux n) (omega arith) in
    let d : f c -ℤ q (Aux n) ≡ f c = omega (arith, ints, z) in
    let k : factor_of (Aux n) ts *ℤ (f c -ℤ q (Aux n)) ≡ factor_of (Aux n) ts *ℤ f c = ap (λ x. factor_of (Aux n) ts *ℤ x) d in
    omega (arith, ints, ih, m, k)

sum_more : (n : ℕ) (cs : List Var) (f g h : Var → ℤ) (ts : List Term) → ((c : Var) → h c ≡ f c +ℤ g c) → sum_at n cs h ts ≡ sum_at n cs f ts +ℤ sum_at n cs g ts
sum_more n [] f g h ts e = refl
sum_more n (c ∷ cs) f g h ts e =
    let ih = sum_more (suc n) cs f g h ts e in
    let k : factor_of (Aux n) ts *ℤ h c ≡ factor_of (Aux n) ts *ℤ (f c +ℤ g c) = ap (λ x. factor_of (Aux n) ts *ℤ x) (e c) in
    let d = distributes (factor_of (Aux n) ts) (f c) (g c) in
    omega (arith, ints, ih, k, d)

sum_none : (n : ℕ) (cs : List Var) (f : Var → ℤ) (ts : List Term) → ((c : Var) → f c ≡ pos 0) → sum_at n cs f ts ≡ pos 0
sum_none n [] f ts e = refl
sum_none n (c ∷ cs) f ts e =
    let ih = sum_none (suc n) cs f ts e in
    let k : factor_of (Aux n) ts *ℤ f c ≡ factor_of (Aux n) ts *ℤ pos 0 = ap (λ x. factor_of (Aux n) ts *ℤ x) (e c) in
    omega (arith, ints, ih, k)

-- the changes of so many iterations, against so many times each bound
abbrev Total : ℕ → List Var → (Var → ℤ) → ℕ → List Row → Type 0
Total n cs f k [] = Unit {0}
Total n cs f k (r ∷ rs) = Meets r.equal (sum_at n cs f r.terms) (pos k *ℤ r.bound) × Total n cs f k rs

total_none : (n : ℕ) (cs : List Var) (f : Var → ℤ) (rs : List Row) → ((c : Var) → f c ≡ pos 0) → Total n cs f 0 rs
total_none n cs f [] e = tt
total_none n cs f (r ∷ rs) e = (go r.equal (sum_at n cs f r.terms) r.bound (sum_none n cs f r.terms e), total_none n cs f rs e) where
  go : (e : Bool) (x b : ℤ) → x ≡ pos 0 → Meets e x (pos 0 *ℤ b)
  go true x b h = omega (arith, ints, h)
  go false x b h = omega (arith, ints, h)

total_more : (n : ℕ) (cs : List Var) (f g h : Var → ℤ) (k : ℕ) (rs : List Row) → ((c : Var) → h c ≡ f c +ℤ g c) → HoldsAll (with_aux zero_point n (map f cs)) rs → Total n cs g k rs → Total n cs h (suc k) rs
total_more n cs f g h k [] e o t = tt
total_more n cs f g h k (r ∷ rs) e o t =
    (go r.equal (value (with_aux zero_point n (map f cs)) r.terms) (sum_at n cs f r.terms) (sum_at n cs g r.terms) (sum_at n cs h r.terms) r.bound (value-changes n cs f r.terms) (sum_more n cs f g h r.terms e) o.0 t.0, total_more n cs f g h k rs e o.1 t.1)
  where
    go : (e : Bool) (w x y z b : ℤ) → w ≡ x → z ≡ x +ℤ y → Meets e w b → Meets e y (pos k *ℤ b) → Meets e z (pos (suc k) *ℤ b)
    go true w x y z b i e h t = let d = distributes_right (pos 1) (pos k) b in omega (arith, ints, d, i, e, h, t)
    go false w x y z b i e h t = let d = distributes_right (pos 1) (pos k) b in omega (arith, ints, d, i, e, h, t)

-- so many iterations change cells by so many times the bounds
total_of : (k n : ℕ) (cs : List Var) (t : System) (s w : Store) → n ≡ fresh_after (row_vars t.rows) → AreCells cs → Joined k t s w → Total n cs (change s w) k (changes_of n cs t).rows
total_of zero n cs t s w e o j = total_none n cs (change s w) (changes_of n cs t).rows (change_none s w j)
total_of (suc k) n cs t s w e o j =
    let u = j.0 in
    total_more n cs (change s u) (change u w) (change s w) k (changes_of n cs t).rows (change_sum s u w) (turn_holds j.1 s u n cs t e o j.2) (total_of k n cs t u w e o j.3)

-- ---- the rows of many iterations

value-cell_terms : (q : Point) (s w : Store) (n : ℕ) (cs : List Var) (ts : List Term) → HasStores q s w → AreCells cs → value q (cell_terms n cs ts) +ℤ value q (exit_terms n cs ts) ≡ sum_at n cs (change s w) ts
value-cell_terms q s w n [] ts f o = refl
value-cell_terms q s w n (c ∷ cs) ts f o =
    let ih = value-cell_terms q s w (suc n) cs ts f o.1 in
    let g = factor_of (Aux n) ts in
    let a = value-term_before q c (neg_ℤ g) (cell_terms (suc n) cs ts) in
    let b = value-term_before q (exit_of c) g (exit_terms (suc n) cs ts) in
    let k : g *ℤ change s w c ≡ g *ℤ (q (exit_of c) -ℤ q c) = ap (λ x. g *ℤ x) (change_at q s w c f o.0) in
    let d = distributes g (q (exit_of c)) (neg_ℤ (q c)) in
    let m = neg_mul g (q c) in
    let l = mul_neg g (q c) in
    omega (arith, ints, ih, a, b, k, d, m, l)

many_turns_hold : (q : Point) (s w : Store) (n : ℕ) (cs : List Var) (k : ℕ) (rs : List Row) → HasStores q s w → AreCells cs → q (iterations_var n cs) ≡ pos k → Total n cs (change s w) k rs → HoldsAll q (map (many_iterations n cs) rs)
many_turns_hold q s w n cs k [] f o g h = tt
many_turns_hold q s w n cs k (r ∷ rs) f o g h =
    let v = value-append q (cell_terms n cs r.terms ++ exit_terms n cs r.terms) (term_before (iterations_var n cs) (neg_ℤ r.bound) []) in
    let a = value-append q (cell_terms n cs r.terms) (exit_terms n cs r.terms) in
    let b = value-term_before q (iterations_var n cs) (neg_ℤ r.bound) [] in
    let c = value-cell_terms q s w n cs r.terms f o in
    let m : neg_ℤ r.bound *ℤ q (iterations_var n cs) ≡ neg_ℤ r.bound *ℤ pos k = ap (λ z. neg_ℤ r.bound *ℤ z) g in
    let d = neg_mul r.bound (pos k) in
    let l = mul_comm r.bound (pos k) in (
      go r.equal (sum_at n cs (change s w) r.terms) (pos k *ℤ r.bound) (value q (many_iterations n cs r).terms) (omega (arith, ints, v, a, b, c, m, d, l)) h.0,
      many_turns_hold q s w n cs k rs f o g h.1,
    )
  where
    go : (g : Bool) (x b z : ℤ) → z ≡ x -ℤ b → Meets g x b → Meets g z (pos 0)
    go true x b z e h = omega (arith, ints, e, h)
    go false x b z e h = omega (arith, ints, e, h)

same_rows_hold : (p : Point) (s w : Store) (cs : List Var) → ((c : ℕ) → s c ≡ w c) → AreCells cs → HoldsAll (between p s w) (map same_row cs)
same_rows_hold p s w [] f o = tt
same_rows_hold p s w (c ∷ cs) f o = (one c o.0, same_rows_hold p s w cs f o.1) where
  one : (c : Var) → IsCell c → Holds (between p s w) (same_row c)
  one (Cell m) h = let e = f m in omega (arith, ints, e)
  one (Exit m) h = absurd h
  one (Phi m) h = absurd h
  one (Aux m) h = absurd h

false_none : (p : Point) (rs : List Row) → is_false rs ≡ true → HoldsAll p rs → ⊥
false_none p [] e h = clash false e refl
false_none p (r ∷ rs) e h =
    ⊎_elim (λ k. is_false_row-true p r k h.0) (λ k. false_none p rs (rest (is_false_row r) (is_false rs) k e) h.1) (cases_Bool (is_false_row r))
  where
    rest : (a b : Bool) → a ≡ false → (a || b) ≡ true → b ≡ true
    rest true b f e = clash true refl f
    rest false b f e = e

-- where no iteration is possible, the stores are the same
no_turns : (k : ℕ) (p : Point) (n : ℕ) (cs : List Var) (t : System) (s w : Store) → n ≡ fresh_after (row_vars t.rows) → AreCells cs → is_false (changes_of n cs t).rows ≡ true → Joined k t s w → HoldsAll (between p s w) (map same_row cs)
no_turns zero p n cs t s w e o f j = same_rows_hold p s w cs j o
no_turns (suc k) p n cs t s w e o f j =
    absurd (false_none (changes_on zero_point n cs s j.0) (changes_of n cs t).rows f (turn_holds j.1 s j.0 n cs t e o j.2))

count_holds : (q : Point) (v : Var) (k : ℕ) → q v ≡ pos k → Holds q (at_least_0 v)
count_holds q v k e = rw e (omega (arith, ints))

some_hold : (k : ℕ) (p : Point) (n : ℕ) (cs : List Var) (t : System) (s w : Store) → n ≡ fresh_after (row_vars t.rows) → AreCells cs → Joined k t s w → HoldsAll (between p s w) (some_iterations n cs (changes_of n cs t)).rows
some_hold k p n cs t s w e o j =
    let a = changes_of n cs t in
    let v = iterations_var n cs in
    let b = between p s w in
    let m = n + length cs in
    let q = with_aux b m (pos k ∷ []) in
    let at : q v ≡ pos k = aux_first b m (pos k) [] in
    let many = system (iteration_rows n cs a.rows) a.weak in
    let rows = many_turns_hold q s w n cs k a.rows (between_stores p m (pos k ∷ []) s w) o at (total_of k n cs t s w e o j) in
    let all = (append_all q (map (many_iterations n cs) a.rows) (at_least_0 v ∷ [])).0 (rows, (count_holds q v k at, tt)) in
    let left = eliminate_holds q (tidy many) v (tidy_holds q many all) in
    (clean_same b (eliminate (tidy many) v).system).0
    (moves_back b v (pos k) (eliminate (tidy many) v).system.rows (eliminate_lacks (tidy many) v) left)

turns_hold : (k : ℕ) (p : Point) (n : ℕ) (cs : List Var) (t : System) (s w : Store) → n ≡ fresh_after (row_vars t.rows) → AreCells cs → Joined k t s w → HoldsAll (between p s w) (closure_of n cs t).rows
turns_hold k p n cs t s w e o j =
    let a = changes_of n cs t in
    if_cases (λ (z : System). HoldsAll (between p s w) z.rows) (is_false a.rows) (no_iteration cs a.weak) (some_iterations n cs a)
    (λ g. tidy_holds (between p s w) (system (map same_row cs) a.weak) (no_turns k p n cs t s w e o g j))
    (λ g. some_hold k p n cs t s w e o j)

cells_from : (vs : List Var) → ((v : Var) → IsOneOf v vs → IsCell v) → AreCells vs
cells_from [] f = tt
cells_from (v ∷ vs) f = (f v (inl refl), cells_from vs (λ w h. f w (inr h)))

cell_one : (v : Var) (vs : List Var) → AreCells vs → IsOneOf v vs → IsCell v
cell_one v [] o h = absurd h
cell_one v (w ∷ ws) o (inl e) = subst IsCell (sym e) o.0
cell_one v (w ∷ ws) o (inr h) = cell_one v ws o.1 h

pub cells_in_order : (vs : List Var) → AreCells vs → AreCells (in_order vs)
cells_in_order vs o = cells_from (in_order vs) (λ v h. cell_one v vs o (in_order-from v vs h))

-- the closure has each pair of stores that any number of iterations joins
pub closure_holds : (changes : List Var) (t : System) → AreCells changes → ContainsIterations t (closure changes t)
closure_holds changes t o n p s w j = turns_hold n p (fresh_after (row_vars t.rows)) (in_order changes) t s w refl (cells_in_order changes o) j
