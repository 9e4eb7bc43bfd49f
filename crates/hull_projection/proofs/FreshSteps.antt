-- Steps of the loops over fresh variables, places and changed cells.
use Rattle.std.proofs.Common.{◌≡◌, ℕ, zero, suc, ◌+◌, ◌<◌, ◌≤◌, max, true, false, List, [], ◌∷◌, ◌++◌, length, drop, get_or, drop-cons, drop_of_length-le, add-one, append_assoc, append-nil, arith, ap, ap₂, refl, sym, ◌∙◌, neg_ℤ}
use Rattle.affine_systems.specs.declared.row.Var.{Var}
use Rattle.affine_systems.specs.declared.row.Var.TheVariants.{Cell, Exit, Phi, Aux}
use Rattle.affine_systems.specs.declared.row.Term.{Term}
use Rattle.affine_systems.specs.declared.row.Row.{Row}
use Rattle.affine_systems.specs.Terms.{var_eq, term_before}
use Rattle.affine_systems.specs.Points.{factor_of}
use Rattle.hull_projection.specs.Variables.{with_terms, with_rows}
use Rattle.hull_projection.specs.Fresh.{above_aux, fresh_after, aux_from}
use Rattle.hull_projection.specs.Hull.{place_of}
use Rattle.hull_projection.specs.Closure.{exit_of, step_row, step_rows, cell_terms, exit_terms}
use Rattle.affine_systems.proofs.Merges.{pushed}

above-max : (v : Var) (m n : ℕ) → max (above_aux v m) n ≡ max m (above_aux v n)
above-max (Cell k) m n = refl
above-max (Exit k) m n = refl
above-max (Phi k) m n = refl
above-max (Aux k) m n = omega arith

pub fresh-more : (vs : List Var) (k m : ℕ) (d : Var) → k < length vs → max (above_aux (get_or vs k d) m) (fresh_after (drop (k + 1) vs)) ≡ max m (fresh_after (drop k vs))
fresh-more vs k m d l =
    ap (λ n. max (above_aux (get_or vs k d) m) (fresh_after (drop n vs))) (add-one k)
    ∙ (above-max (get_or vs k d) m (fresh_after (drop (suc k) vs)) ∙ ap (λ (us : List Var). max m (fresh_after us)) (sym (drop-cons vs k d l)))

pub fresh-end : (vs : List Var) (k : ℕ) → length vs ≤ k → fresh_after (drop k vs) ≡ 0
fresh-end vs k l = ap fresh_after (drop_of_length-le vs l)

pub ruleset fresh_loop = (fresh-more, fresh-end)

aux-shift : (n k : ℕ) → aux_from n (suc k) ≡ aux_from n k ++ Aux (n + k) ∷ []
aux-shift n zero = let z : n ≡ n + 0 = omega arith in ap (λ m. Aux m ∷ []) z
aux-shift n (suc k) =
    let z : suc n + k ≡ n + suc k = omega arith in
    ap (λ (vs : List Var). Aux n ∷ vs) (aux-shift (suc n) k ∙ ap (λ m. aux_from (suc n) k ++ Aux m ∷ []) z)

pub aux-more : (n k : ℕ) → aux_from n (k + 1) ≡ aux_from n k ++ Aux (n + k) ∷ []
aux-more n k = ap (aux_from n) (add-one k) ∙ aux-shift n k

pub ruleset aux_loop = aux-more

pub list-more : (ws us : List Var) (rs : List Row) (k : ℕ) (r : Row) → k < length rs → r ≡ get_or rs k r → us ≡ with_terms ws r.terms → with_rows us (drop (k + 1) rs) ≡ with_rows ws (drop k rs)
list-more ws us rs k r l g e =
    let x : drop k rs ≡ r ∷ drop (suc k) rs = drop-cons rs k r l ∙ ap (λ (s : Row). s ∷ drop (suc k) rs) (sym g) in
    ap₂ (λ (xs : List Var) n. with_rows xs (drop n rs)) e (add-one k) ∙ sym (ap (with_rows ws) x)

pub list-end : (ws : List Var) (rs : List Row) (k : ℕ) → length rs ≤ k → with_rows ws (drop k rs) ≡ ws
list-end ws rs k l = ap (with_rows ws) (drop_of_length-le rs l)

pub ruleset list_loop = (list-more, list-end)

pub place-found : (v : Var) (vs : List Var) (i : ℕ) (d : Var) → i < length vs → var_eq v (get_or vs i d) ≡ true → place_of v (drop i vs) ≡ 0
place-found v vs i d l e = ap (place_of v) (drop-cons vs i d l) ∙ rw e refl

pub place-passed : (v : Var) (vs : List Var) (i : ℕ) (d : Var) → i < length vs → var_eq v (get_or vs i d) ≡ false → place_of v (drop i vs) ≡ suc (place_of v (drop (i + 1) vs))
place-passed v vs i d l e = ap (place_of v) (drop-cons vs i d l) ∙ (rw e refl ∙ ap (λ n. suc (place_of v (drop n vs))) (sym (add-one i)))

pub place-end : (v : Var) (vs : List Var) (i : ℕ) → length vs ≤ i → place_of v (drop i vs) ≡ 0
place-end v vs i l = ap (place_of v) (drop_of_length-le vs l)

pub ruleset place_loop = (place-found, place-passed, place-end)

-- ---- changed cells from a place on

pub steps-more : (n : ℕ) (cs : List Var) (out new goal : List Row) (k : ℕ) (d : Var) → k < length cs → new ≡ out ++ step_row (n + k) (get_or cs k d) ∷ [] → out ++ step_rows (n + k) (drop k cs) ≡ goal → new ++ step_rows (n + (k + 1)) (drop (k + 1) cs) ≡ goal
steps-more n cs out new goal k d l e h =
    let s : n + (k + 1) ≡ suc (n + k) = omega arith in
    ap₂ (λ m (vs : List Var). new ++ step_rows m vs) s (ap (λ m. drop m cs) (add-one k))
    ∙ (ap (λ (rs : List Row). rs ++ step_rows (suc (n + k)) (drop (suc k) cs)) e
    ∙ (append_assoc out (step_row (n + k) (get_or cs k d) ∷ []) (step_rows (suc (n + k)) (drop (suc k) cs))
    ∙ (ap (λ (vs : List Var). out ++ step_rows (n + k) vs) (sym (drop-cons cs k d l)) ∙ h)))

pub steps-end : (n : ℕ) (cs : List Var) (out goal : List Row) (k : ℕ) → length cs ≤ k → out ++ step_rows (n + k) (drop k cs) ≡ goal → out ≡ goal
steps-end n cs out goal k l h = sym (append-nil out) ∙ (ap (λ (vs : List Var). out ++ step_rows (n + k) vs) (sym (drop_of_length-le cs l)) ∙ h)

pub ruleset steps_loop = (steps-more, steps-end)

pub cells-more : (n : ℕ) (cs : List Var) (ts out new goal : List Term) (k : ℕ) (d : Var) → k < length cs → new ≡ out ++ term_before (get_or cs k d) (neg_ℤ (factor_of (Aux (n + k)) ts)) [] → out ++ cell_terms (n + k) (drop k cs) ts ≡ goal → new ++ cell_terms (n + (k + 1)) (drop (k + 1) cs) ts ≡ goal
cells-more n cs ts out new goal k d l e h =
    let s : n + (k + 1) ≡ suc (n + k) = omega arith in
    ap₂ (λ m (vs : List Var). new ++ cell_terms m vs ts) s (ap (λ m. drop m cs) (add-one k))
    ∙ (ap (λ (us : List Term). us ++ cell_terms (suc (n + k)) (drop (suc k) cs) ts) e
    ∙ (sym (pushed out (get_or cs k d) (neg_ℤ (factor_of (Aux (n + k)) ts)) (cell_terms (suc (n + k)) (drop (suc k) cs) ts))
    ∙ (ap (λ (vs : List Var). out ++ cell_terms (n + k) vs ts) (sym (drop-cons cs k d l)) ∙ h)))

pub cells-end : (n : ℕ) (cs : List Var) (ts out goal : List Term) (k : ℕ) → length cs ≤ k → out ++ cell_terms (n + k) (drop k cs) ts ≡ goal → out ≡ goal
cells-end n cs ts out goal k l h = sym (append-nil out) ∙ (ap (λ (vs : List Var). out ++ cell_terms (n + k) vs ts) (sym (drop_of_length-le cs l)) ∙ h)

pub ruleset cells_loop = (cells-more, cells-end)

pub exits-more : (n : ℕ) (cs : List Var) (ts out new goal : List Term) (k : ℕ) (d : Var) → k < length cs → new ≡ out ++ term_before (exit_of (get_or cs k d)) (factor_of (Aux (n + k)) ts) [] → out ++ exit_terms (n + k) (drop k cs) ts ≡ goal → new ++ exit_terms (n + (k + 1)) (drop (k + 1) cs) ts ≡ goal
exits-more n cs ts out new goal k d l e h =
    let s : n + (k + 1) ≡ suc (n + k) = omega arith in
    ap₂ (λ m (vs : List Var). new ++ exit_terms m vs ts) s (ap (λ m. drop m cs) (add-one k))
    ∙ (ap (λ (us : List Term). us ++ exit_terms (suc (n + k)) (drop (suc k) cs) ts) e
    ∙ (sym (pushed out (exit_of (get_or cs k d)) (factor_of (Aux (n + k)) ts) (exit_terms (suc (n + k)) (drop (suc k) cs) ts))
    ∙ (ap (λ (vs : List Var). out ++ exit_terms (n + k) vs ts) (sym (drop-cons cs k d l)) ∙ h)))

pub exits-end : (n : ℕ) (cs : List Var) (ts out goal : List Term) (k : ℕ) → length cs ≤ k → out ++ exit_terms (n + k) (drop k cs) ts ≡ goal → out ≡ goal
exits-end n cs ts out goal k l h = sym (append-nil out) ∙ (ap (λ (vs : List Var). out ++ exit_terms (n + k) vs ts) (sym (drop_of_length-le cs l)) ∙ h)

pub ruleset exits_loop = (exits-more, exits-end)
