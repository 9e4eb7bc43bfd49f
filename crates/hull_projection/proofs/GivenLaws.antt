-- Lifted rows, rows of steps and rows of iterations are such as tidying takes; what hull, difference and closure give fits.
use Rattle.std.proofs.Common.{◌≡◌, ℕ, suc, ◌+◌, ◌<◌, ◌^◌, true, false, List, [], ◌∷◌, ◌++◌, map, length, ℤ, pos, negsuc, neg_ℤ, arith, ap, refl, sym, subst, int_eq, unsigned_abs, inl}
use Rattle.std.proofs.lemmas.Int.{ints}
use Rattle.std.proofs.lemmas.Bool.{false_from_ne_true}
use Rattle.affine_systems.specs.declared.row.Var.{Var}
use Rattle.affine_systems.specs.declared.row.Var.TheVariants.{Cell, Exit, Phi, Aux}
use Rattle.affine_systems.specs.declared.row.Term.{Term}
use Rattle.affine_systems.specs.declared.row.Row.{Row}
use Rattle.affine_systems.specs.declared.row.System.{System}
use Rattle.affine_systems.specs.declared.items.Item.{Item}
use Rattle.affine_systems.specs.Terms.{var_lt, term, term_before, IsBefore, Ascends}
use Rattle.affine_systems.specs.Rows.{row, AllRows}
use Rattle.affine_systems.specs.Points.{factor_of}
use Rattle.affine_systems.specs.Items.{rows_of}
use Rattle.affine_systems.specs.Given.{FactorsBelow, IsGiven, IsSmallRow, ItemsSmall, ItemsFit}
use Rattle.hull_projection.specs.Variables.{IsBeforeAll, VarsAscend, in_order, row_vars}
use Rattle.hull_projection.specs.Fresh.{fresh_after}
use Rattle.hull_projection.specs.Hull.{copy_of, share_of, scale, rest_scaled, at_least_0, at_most_1, lift_rows, both_vars}
use Rattle.hull_projection.specs.Closure.{IsCell, AreCells, AreOrdered, exit_of, step_row, step_rows, same_row, cell_terms, exit_terms, iterations_var, many_iterations, iteration_rows}
use Rattle.hull_projection.specs.Laws.{IsOneOf}
use Rattle.affine_systems.proofs.Basics.{if_cases}
use Rattle.affine_systems.proofs.AscendLaws.{parts_lt, before-term_before, ascends-term_before, factor_below, negated_zero as neg_not_zero}
use Rattle.affine_systems.proofs.FitLaws.{neg_small, small_given}
use Rattle.affine_systems.proofs.RenameSteps.{given_append}
use Rattle.hull_projection.proofs.VarLaws.{TermsIn, RowsIn, IsOld, fresh_old, aux_lt, old_lt, place_below, place_lt, ascend-with_rows, ascend-with_vars}
use Rattle.elimination.proofs.ElimSteps.{fit_small}
use Rattle.hull_projection.proofs.ClosureLaws.{cells_in_order}
use Rattle.hull_projection.proofs.HullLaws.{both_covered}
use Rattle.affine_systems.proofs.Three.{below-term_before as factors_term_before}
use Rattle.fx_lists.proofs.Booleans.{clash}

-- ---- lists of terms one after another

pub before_append : (v : Var) (ts us : List Term) → IsBefore v ts → IsBefore v us → IsBefore v (ts ++ us)
before_append v [] us h k = k
before_append v (t ∷ ts) us h k = (h.0, before_append v ts us h.1 k)

-- each variable of the first comes before each of the second
abbrev pub AllBefore : List Term → List Term → Type 0
AllBefore [] us = Unit {0}
AllBefore (t ∷ ts) us = IsBefore t.var us × AllBefore ts us

pub ascends-append : (ts us : List Term) → Ascends ts → Ascends us → AllBefore ts us → Ascends (ts ++ us)
ascends-append [] us h k b = k
ascends-append (t ∷ ts) us h k b = (h.0, before_append t.var ts us h.1 b.0, ascends-append ts us h.2 k b.1)

pub all_before_append : (ts us vs : List Term) → AllBefore ts vs → AllBefore us vs → AllBefore (ts ++ us) vs
all_before_append [] us vs h k = k
all_before_append (t ∷ ts) us vs h k = (h.0, all_before_append ts us vs h.1 k)

pub factors_append : (n : ℕ) (ts us : List Term) → FactorsBelow n ts → FactorsBelow n us → FactorsBelow n (ts ++ us)
factors_append n [] us h k = k
factors_append n (t ∷ ts) us h k = (h.0, factors_append n ts us h.1 k)

all_before_one : (v : Var) (f : ℤ) (ts : List Term) → AllBefore ts (term v f ∷ []) → AllBefore ts (term_before v f [])
all_before_one v f [] h = tt
all_before_one v f (t ∷ ts) h = (before-term_before t.var v f [] h.0.0 tt, all_before_one v f ts h.1)

-- ---- terms with other variables and factors

abbrev mapped : (ℤ → ℤ) → ℕ → List Var → List Term → List Term
mapped g n xs ts = map (λ t. term (copy_of n xs t.var) (g t.factor)) ts

mapped_before : (g : ℤ → ℤ) (n : ℕ) (xs : List Var) (v : Var) (ts : List Term) → VarsAscend xs → IsOneOf v xs → TermsIn xs ts → IsBefore v ts → IsBefore (copy_of n xs v) (mapped g n xs ts)
mapped_before g n xs v [] a h i b = tt
mapped_before g n xs v (t ∷ ts) a h i b =
    let l = place_lt v t.var xs a h i.0 b.0 in
    (aux_lt _ _ (omega (arith, l)), mapped_before g n xs v ts a h i.1 b.1)

mapped_ascends : (g : ℤ → ℤ) (n : ℕ) (xs : List Var) (ts : List Term) → ((z : ℤ) → int_eq z (pos 0) ≡ false → int_eq (g z) (pos 0) ≡ false) → VarsAscend xs → TermsIn xs ts → Ascends ts → Ascends (mapped g n xs ts)
mapped_ascends g n xs [] f a i h = tt
mapped_ascends g n xs (t ∷ ts) f a i h =
    (f t.factor h.0, mapped_before g n xs t.var ts a i.0 i.1 h.1, mapped_ascends g n xs ts f a i.1 h.2)

mapped_below : (g : ℤ → ℤ) (n : ℕ) (xs : List Var) (ts : List Term) → ((z : ℤ) → unsigned_abs z < 2 ^ 62 → unsigned_abs (g z) < 2 ^ 62) → FactorsBelow (2 ^ 62) ts → FactorsBelow (2 ^ 62) (mapped g n xs ts)
mapped_below g n xs [] f h = tt
mapped_below g n xs (t ∷ ts) f h = (f t.factor h.0, mapped_below g n xs ts f h.1)

mapped_before_share : (g : ℤ → ℤ) (n : ℕ) (xs : List Var) (z : ℤ) (ts : List Term) → TermsIn xs ts → AllBefore (mapped g n xs ts) (term (share_of n xs) z ∷ [])
mapped_before_share g n xs z [] i = tt
mapped_before_share g n xs z (t ∷ ts) i =
    let l = place_below t.var xs i.0 in ((aux_lt _ _ (omega (arith, l)), tt), mapped_before_share g n xs z ts i.1)

old_before_mapped : (g : ℤ → ℤ) (n : ℕ) (xs : List Var) (v : Var) (ts : List Term) → IsOld n v → IsBefore v (mapped g n xs ts)
old_before_mapped g n xs v [] o = tt
old_before_mapped g n xs v (t ∷ ts) o = (old_lt n _ v o (omega arith), old_before_mapped g n xs v ts o)

abbrev AllOld : ℕ → List Var → Type 0
AllOld n xs = (v : Var) → IsOneOf v xs → IsOld n v

all_before_mapped : (g : ℤ → ℤ) (n : ℕ) (xs : List Var) (rs ts : List Term) → AllOld n xs → TermsIn xs rs → AllBefore rs (mapped g n xs ts)
all_before_mapped g n xs [] ts o i = tt
all_before_mapped g n xs (r ∷ rs) ts o i = (old_before_mapped g n xs r.var ts (o r.var i.0), all_before_mapped g n xs rs ts o i.1)

all_before_share : (n : ℕ) (xs : List Var) (z : ℤ) (rs : List Term) → AllOld n xs → TermsIn xs rs → AllBefore rs (term (share_of n xs) z ∷ [])
all_before_share n xs z [] o i = tt
all_before_share n xs z (r ∷ rs) o i = ((old_lt n _ r.var (o r.var i.0) (omega arith), tt), all_before_share n xs z rs o i.1)

-- ---- lifted rows

same_small : (z : ℤ) → unsigned_abs z < 2 ^ 62 → unsigned_abs z < 2 ^ 62
same_small z h = h

same_not_zero : (z : ℤ) → int_eq z (pos 0) ≡ false → int_eq z (pos 0) ≡ false
same_not_zero z h = h

zero_below : unsigned_abs (pos 0) < 2 ^ 62
zero_below = omega (arith, ints)

given_from : (r : Row) → Ascends r.terms → unsigned_abs r.bound < 2 ^ 62 → FactorsBelow (2 ^ 62) r.terms → IsGiven r
given_from r a b f = small_given r (a, b, f)

ascends-last : (v : Var) (f : ℤ) (ts : List Term) → Ascends ts → AllBefore ts (term v f ∷ []) → Ascends (ts ++ term_before v f [])
ascends-last v f ts a b = ascends-append ts (term_before v f []) a (ascends-term_before v f [] tt tt) (all_before_one v f ts b)

below-last : (v : Var) (f : ℤ) (ts : List Term) → unsigned_abs f < 2 ^ 62 → FactorsBelow (2 ^ 62) ts → FactorsBelow (2 ^ 62) (ts ++ term_before v f [])
below-last v f ts l h = factors_append (2 ^ 62) ts (term_before v f []) h (factors_term_before (2 ^ 62) v f [] l tt)

scaled_given : (n : ℕ) (xs : List Var) (r : Row) → VarsAscend xs → TermsIn xs r.terms → IsSmallRow r → IsGiven (scale n xs r)
scaled_given n xs r a i h =
    given_from (scale n xs r)
    (ascends-last (share_of n xs) (neg_ℤ r.bound) (mapped (λ z. z) n xs r.terms) (mapped_ascends (λ z. z) n xs r.terms same_not_zero a i h.0) (mapped_before_share (λ z. z) n xs (neg_ℤ r.bound) r.terms i))
    zero_below
    (below-last (share_of n xs) (neg_ℤ r.bound) (mapped (λ z. z) n xs r.terms) (neg_small r.bound h.1) (mapped_below (λ z. z) n xs r.terms same_small h.2))

rest_given : (n : ℕ) (xs : List Var) (r : Row) → VarsAscend xs → AllOld n xs → TermsIn xs r.terms → IsSmallRow r → IsGiven (rest_scaled n xs r)
rest_given n xs r a o i h =
    let ys = mapped (λ z. neg_ℤ z) n xs r.terms in
    given_from (rest_scaled n xs r)
    (ascends-last (share_of n xs) r.bound (r.terms ++ ys)
    (ascends-append r.terms ys h.0 (mapped_ascends (λ z. neg_ℤ z) n xs r.terms neg_not_zero a i h.0) (all_before_mapped (λ z. neg_ℤ z) n xs r.terms r.terms o i))
    (all_before_append r.terms ys (term (share_of n xs) r.bound ∷ []) (all_before_share n xs r.bound r.terms o i) (mapped_before_share (λ z. neg_ℤ z) n xs r.bound r.terms i)))
    h.1
    (below-last (share_of n xs) r.bound (r.terms ++ ys) h.1 (factors_append (2 ^ 62) r.terms ys h.2 (mapped_below (λ z. neg_ℤ z) n xs r.terms neg_small h.2)))

all_scaled_given : (n : ℕ) (xs : List Var) (rs : List Row) → VarsAscend xs → RowsIn xs rs → AllRows IsSmallRow rs → AllRows IsGiven (map (scale n xs) rs)
all_scaled_given n xs [] a i h = tt
all_scaled_given n xs (r ∷ rs) a i h = (scaled_given n xs r a i.0 h.0, all_scaled_given n xs rs a i.1 h.1)

all_rest_given : (n : ℕ) (xs : List Var) (rs : List Row) → VarsAscend xs → AllOld n xs → RowsIn xs rs → AllRows IsSmallRow rs → AllRows IsGiven (map (rest_scaled n xs) rs)
all_rest_given n xs [] a o i h = tt
all_rest_given n xs (r ∷ rs) a o i h = (rest_given n xs r a o i.0 h.0, all_rest_given n xs rs a o i.1 h.1)

single_given : (v : Var) (f b : ℤ) → int_eq f (pos 0) ≡ false → unsigned_abs f < 2 ^ 62 → unsigned_abs b < 2 ^ 62 → IsGiven (row false (term v f ∷ []) b)
single_given v f b e l m = given_from (row false (term v f ∷ []) b) (e, tt, tt) m (l, tt)

pub at_least_0_given : (v : Var) → IsGiven (at_least_0 v)
at_least_0_given v = single_given v (negsuc 0) (pos 0) refl (omega (arith, ints)) (omega (arith, ints))

at_most_1_given : (v : Var) → IsGiven (at_most_1 v)
at_most_1_given v = single_given v (pos 1) (pos 1) refl (omega (arith, ints)) (omega (arith, ints))

pub lifted_given : (n : ℕ) (xs : List Var) (a b : System) (rows : List Row) → xs ≡ both_vars a b → n ≡ fresh_after xs → AllRows IsSmallRow a.rows → AllRows IsSmallRow b.rows → rows ≡ lift_rows n xs a.rows b.rows → AllRows IsGiven rows
lifted_given n xs a b rows e f h k r =
    let cover = both_covered a b in
    let i : RowsIn xs a.rows = subst (λ (vs : List Var). RowsIn vs a.rows) (sym e) cover.0 in
    let j : RowsIn xs b.rows = subst (λ (vs : List Var). RowsIn vs b.rows) (sym e) cover.1 in
    let s : VarsAscend xs = subst VarsAscend (sym e) (ascend-with_rows (row_vars a.rows) b.rows (ascend-with_rows [] a.rows tt)) in
    let o : AllOld n xs = λ v m. subst (λ (c : ℕ). IsOld c v) (sym f) (fresh_old v xs m) in
    subst (λ (rs : List Row). AllRows IsGiven rs) (sym r)
    (given_append (map (scale n xs) a.rows ++ map (rest_scaled n xs) b.rows) (at_least_0 (share_of n xs) ∷ at_most_1 (share_of n xs) ∷ [])
    (given_append (map (scale n xs) a.rows) (map (rest_scaled n xs) b.rows) (all_scaled_given n xs a.rows s i h) (all_rest_given n xs b.rows s o j k))
    (at_least_0_given (share_of n xs), (at_most_1_given (share_of n xs), tt)))

-- ---- rows of steps and of iterations

exit_after : (c : Var) → IsCell c → var_lt c (exit_of c) ≡ true
exit_after (Cell n) h = parts_lt (Cell n) (Exit n) (inl (omega arith))
exit_after (Exit n) h = absurd h
exit_after (Phi n) h = absurd h
exit_after (Aux n) h = absurd h

cell_old : (n : ℕ) (c : Var) → IsCell c → IsOld n c × IsOld n (exit_of c)
cell_old n (Cell m) h = (tt, tt)
cell_old n (Exit m) h = absurd h
cell_old n (Phi m) h = absurd h
cell_old n (Aux m) h = absurd h

step_given : (n : ℕ) (c : Var) → IsCell c → IsGiven (step_row n c)
step_given n c h =
    let o = cell_old n c h in
    given_from (step_row n c)
    (refl, (exit_after c h, (old_lt n n c o.0 (omega arith), tt)), (refl, (old_lt n n (exit_of c) o.1 (omega arith), tt), (refl, tt, tt)))
    zero_below (omega (arith, ints), (omega (arith, ints), (omega (arith, ints), tt)))

pub steps_given : (n : ℕ) (cs : List Var) → AreCells cs → AllRows IsGiven (step_rows n cs)
steps_given n [] h = tt
steps_given n (c ∷ cs) h = (step_given n c h.0, steps_given (suc n) cs h.1)

same_given : (c : Var) → IsCell c → IsGiven (same_row c)
same_given c h = given_from (same_row c) (refl, (exit_after c h, tt), (refl, tt, tt)) zero_below (omega (arith, ints), (omega (arith, ints), tt))

pub all_same_given : (cs : List Var) → AreCells cs → AllRows IsGiven (map same_row cs)
all_same_given [] h = tt
all_same_given (c ∷ cs) h = (same_given c h.0, all_same_given cs h.1)

cells_before : (v : Var) (n : ℕ) (cs : List Var) (ts : List Term) → IsBeforeAll v cs → IsBefore v (cell_terms n cs ts)
cells_before v n [] ts h = tt
cells_before v n (c ∷ cs) ts h = before-term_before v c (neg_ℤ (factor_of (Aux n) ts)) (cell_terms (suc n) cs ts) h.0 (cells_before v (suc n) cs ts h.1)

cells_ascend : (n : ℕ) (cs : List Var) (ts : List Term) → VarsAscend cs → Ascends (cell_terms n cs ts)
cells_ascend n [] ts h = tt
cells_ascend n (c ∷ cs) ts h = ascends-term_before c (neg_ℤ (factor_of (Aux n) ts)) (cell_terms (suc n) cs ts) (cells_before c (suc n) cs ts h.0) (cells_ascend (suc n) cs ts h.1)

cells_below : (n : ℕ) (cs : List Var) (ts : List Term) → Ascends ts → FactorsBelow (2 ^ 62) ts → FactorsBelow (2 ^ 62) (cell_terms n cs ts)
cells_below n [] ts a h = tt
cells_below n (c ∷ cs) ts a h =
    factors_term_before (2 ^ 62) c (neg_ℤ (factor_of (Aux n) ts)) (cell_terms (suc n) cs ts) (neg_small (factor_of (Aux n) ts) (factor_below (2 ^ 62) (Aux n) ts (omega arith) a h)) (cells_below (suc n) cs ts a h)

exits_below : (n : ℕ) (cs : List Var) (ts : List Term) → Ascends ts → FactorsBelow (2 ^ 62) ts → FactorsBelow (2 ^ 62) (exit_terms n cs ts)
exits_below n [] ts a h = tt
exits_below n (c ∷ cs) ts a h =
    factors_term_before (2 ^ 62) (exit_of c) (factor_of (Aux n) ts) (exit_terms (suc n) cs ts) (factor_below (2 ^ 62) (Aux n) ts (omega arith) a h) (exits_below (suc n) cs ts a h)

exit_lt : (v c : Var) → IsCell v → IsCell c → var_lt v c ≡ true → var_lt (exit_of v) (exit_of c) ≡ true
unfolding var_lt
exit_lt (Cell m) (Cell n) h k l = l
exit_lt (Cell m) (Exit n) h k l = absurd k
exit_lt (Cell m) (Phi n) h k l = absurd k
exit_lt (Cell m) (Aux n) h k l = absurd k
exit_lt (Exit m) c h k l = absurd h
exit_lt (Phi m) c h k l = absurd h
exit_lt (Aux m) c h k l = absurd h

exits_before : (v : Var) (n : ℕ) (cs : List Var) (ts : List Term) → IsCell v → AreCells cs → IsBeforeAll v cs → IsBefore (exit_of v) (exit_terms n cs ts)
exits_before v n [] ts i o h = tt
exits_before v n (c ∷ cs) ts i o h =
    before-term_before (exit_of v) (exit_of c) (factor_of (Aux n) ts) (exit_terms (suc n) cs ts) (exit_lt v c i o.0 h.0) (exits_before v (suc n) cs ts i o.1 h.1)

exits_ascend : (n : ℕ) (cs : List Var) (ts : List Term) → AreCells cs → VarsAscend cs → Ascends (exit_terms n cs ts)
exits_ascend n [] ts o h = tt
exits_ascend n (c ∷ cs) ts o h =
    ascends-term_before (exit_of c) (factor_of (Aux n) ts) (exit_terms (suc n) cs ts) (exits_before c (suc n) cs ts o.0 o.1 h.0) (exits_ascend (suc n) cs ts o.1 h.1)

cell_before_exit : (c d : Var) → IsCell c → IsCell d → var_lt c (exit_of d) ≡ true
cell_before_exit (Cell m) (Cell n) h k = parts_lt (Cell m) (Exit n) (inl (omega arith))
cell_before_exit (Cell m) (Exit n) h k = absurd k
cell_before_exit (Cell m) (Phi n) h k = absurd k
cell_before_exit (Cell m) (Aux n) h k = absurd k
cell_before_exit (Exit m) d h k = absurd h
cell_before_exit (Phi m) d h k = absurd h
cell_before_exit (Aux m) d h k = absurd h

cell_before_exits : (v : Var) (n : ℕ) (cs : List Var) (ts : List Term) → IsCell v → AreCells cs → IsBefore v (exit_terms n cs ts)
cell_before_exits v n [] ts i o = tt
cell_before_exits v n (c ∷ cs) ts i o =
    before-term_before v (exit_of c) (factor_of (Aux n) ts) (exit_terms (suc n) cs ts) (cell_before_exit v c i o.0) (cell_before_exits v (suc n) cs ts i o.1)

before_term : (v : Var) (f : ℤ) (ts us : List Term) → IsBefore v us → AllBefore ts us → AllBefore (term_before v f ts) us
before_term v f ts us b h = if_cases (λ (xs : List Term). AllBefore xs us) (int_eq f (pos 0)) ts (term v f ∷ ts) (λ e. h) (λ e. (b, h))

cells_before_exits : (m n : ℕ) (bs cs : List Var) (ts : List Term) → AreCells bs → AreCells cs → AllBefore (cell_terms m bs ts) (exit_terms n cs ts)
cells_before_exits m n [] cs ts i o = tt
cells_before_exits m n (b ∷ bs) cs ts i o =
    before_term b (neg_ℤ (factor_of (Aux m) ts)) (cell_terms (suc m) bs ts) (exit_terms n cs ts) (cell_before_exits b n cs ts i.0 o) (cells_before_exits (suc m) n bs cs ts i.1 o)

cells_before_aux : (n k : ℕ) (f : ℤ) (cs : List Var) (ts : List Term) → AreCells cs → AllBefore (cell_terms n cs ts) (term (Aux k) f ∷ [])
cells_before_aux n k f [] ts o = tt
cells_before_aux n k f (c ∷ cs) ts o =
    before_term c (neg_ℤ (factor_of (Aux n) ts)) (cell_terms (suc n) cs ts) (term (Aux k) f ∷ []) (old_lt k k c (cell_old k c o.0).0 (omega arith), tt) (cells_before_aux (suc n) k f cs ts o.1)

exits_before_aux : (n k : ℕ) (f : ℤ) (cs : List Var) (ts : List Term) → AreCells cs → AllBefore (exit_terms n cs ts) (term (Aux k) f ∷ [])
exits_before_aux n k f [] ts o = tt
exits_before_aux n k f (c ∷ cs) ts o =
    before_term (exit_of c) (factor_of (Aux n) ts) (exit_terms (suc n) cs ts) (term (Aux k) f ∷ []) (old_lt k k (exit_of c) (cell_old k c o.0).1 (omega arith), tt) (exits_before_aux (suc n) k f cs ts o.1)

many_given : (n : ℕ) (cs : List Var) (r : Row) → AreOrdered cs → IsSmallRow r → IsGiven (many_iterations n cs r)
many_given n cs r o h =
    let xs = cell_terms n cs r.terms in
    let ys = exit_terms n cs r.terms in
    let z = neg_ℤ r.bound in
    given_from (many_iterations n cs r)
    (ascends-last (iterations_var n cs) z (xs ++ ys)
    (ascends-append xs ys (cells_ascend n cs r.terms o.ascend) (exits_ascend n cs r.terms o.cells o.ascend) (cells_before_exits n n cs cs r.terms o.cells o.cells))
    (all_before_append xs ys (term (iterations_var n cs) z ∷ []) (cells_before_aux n (n + length cs) z cs r.terms o.cells) (exits_before_aux n (n + length cs) z cs r.terms o.cells)))
    zero_below
    (below-last (iterations_var n cs) z (xs ++ ys) (neg_small r.bound h.1) (factors_append (2 ^ 62) xs ys (cells_below n cs r.terms h.0 h.2) (exits_below n cs r.terms h.0 h.2)))

all_many_given : (n : ℕ) (cs : List Var) (rs : List Row) → AreOrdered cs → AllRows IsSmallRow rs → AllRows IsGiven (map (many_iterations n cs) rs)
all_many_given n cs [] o h = tt
all_many_given n cs (r ∷ rs) o h = (many_given n cs r o h.0, all_many_given n cs rs o h.1)

pub turns_given : (n : ℕ) (cs : List Var) (rs rows : List Row) → AreOrdered cs → AllRows IsSmallRow rs → rows ≡ iteration_rows n cs rs → AllRows IsGiven rows
turns_given n cs rs rows o h e =
    subst (λ (ss : List Row). AllRows IsGiven ss) (sym e) (given_append (map (many_iterations n cs) rs) (at_least_0 (iterations_var n cs) ∷ []) (all_many_given n cs rs o h) (at_least_0_given (iterations_var n cs), tt))

pub ordered_cells : (vs : List Var) → AreCells vs → AreOrdered (in_order vs)
ordered_cells vs o = record { cells = cells_in_order vs o; ascend = ascend-with_vars [] vs tt }

small_rows_given : (is : List Item) → ItemsSmall is → AllRows IsGiven (rows_of is)
small_rows_given [] h = tt
small_rows_given (i ∷ is) h = (small_given i.row h.0, small_rows_given is h.1)

pub left_given : (is : List Item) → ItemsFit true is → AllRows IsGiven (rows_of is)
left_given is h = small_rows_given is (fit_small true is h)
