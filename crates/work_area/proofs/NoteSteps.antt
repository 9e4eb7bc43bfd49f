-- Steps of noting the variables of rows.
use Rattle.std.proofs.Common.{◌≡◌, ◌∙◌, ℕ, suc, ◌+◌, ◌≤◌, ◌<◌, Bool, true, false, ◌||◌, List, [], ◌∷◌, ◌++◌, length, take, drop, get_or, arith, ap, sym, refl, subst, ⊎_elim, pos}
use Rattle.std.proofs.lemmas.List.{drop_more, drop_all, take_more, append_assoc}
use Rattle.std.proofs.lemmas.Bool.{cases_Bool, or_parts}
use Rattle.affine_systems.specs.declared.row.Var.{Var}
use Rattle.affine_systems.specs.declared.row.Term.{Term}
use Rattle.affine_systems.specs.declared.row.Row.{Row}
use Rattle.affine_systems.specs.Terms.{var_eq, var_lt, term, add_term, Ascends}
use Rattle.affine_systems.specs.Places.{has_var}
use Rattle.affine_systems.proofs.Basics.{if_cases}
use Rattle.affine_systems.specs.Items.{AllItems, items_from}
use Rattle.affine_systems.proofs.TermLaws.{var_eq-true, true-var_eq}
use Rattle.affine_systems.proofs.AscendLaws.{ascends-add_term}
use Rattle.work_area.proofs.ColumnLaws.{among_added, among_count}
use Rattle.work_area.specs.Columns.{AreAmong, InColumns, noted, noted_terms, noted_rows}

pub has-passed : (v : Var) (ts : List Term) (k : ℕ) (d : Term) → k < length ts → var_eq v (get_or ts k d).var ≡ false → has_var v (drop k ts) ≡ has_var v (drop (k + 1) ts)
has-passed v ts k d l e = ap (has_var v) (drop_more ts k d l) ∙ rw e refl

pub has-found : (v : Var) (ts : List Term) (k : ℕ) (d : Term) → k < length ts → var_eq v (get_or ts k d).var ≡ true → has_var v (drop k ts) ≡ true
has-found v ts k d l e = ap (has_var v) (drop_more ts k d l) ∙ rw e refl

pub has-end : (v : Var) (ts : List Term) (k : ℕ) → length ts ≤ k → has_var v (drop k ts) ≡ false
has-end v ts k l = ap (has_var v) (drop_all k ts l)

pub ruleset has_loop = (has-passed, has-found, has-end)

-- ---- the place of a variable that does not stand in a sum

pub place-passed : (v : Var) (ts : List Term) (k : ℕ) (d : Term) → k < length ts → has_var v (drop k ts) ≡ false → var_lt v (get_or ts k d).var ≡ false → add_term v (pos 1) (drop k ts) ≡ get_or ts k d ∷ add_term v (pos 1) (drop (k + 1) ts)
place-passed v ts k d l h e =
    let x = drop_more ts k d l in
    let a : var_eq v (get_or ts k d).var ≡ false = (or_parts (var_eq v (get_or ts k d).var) (has_var v (drop (k + 1) ts)) (ap (has_var v) (sym x) ∙ h)).0 in
    ap (add_term v (pos 1)) x ∙ rw a (rw e refl)

pub place-here : (v : Var) (ts : List Term) (k : ℕ) (d : Term) → k < length ts → has_var v (drop k ts) ≡ false → var_lt v (get_or ts k d).var ≡ true → add_term v (pos 1) (drop k ts) ≡ term v (pos 1) ∷ drop k ts
place-here v ts k d l h e =
    let x = drop_more ts k d l in
    let a : var_eq v (get_or ts k d).var ≡ false = (or_parts (var_eq v (get_or ts k d).var) (has_var v (drop (k + 1) ts)) (ap (has_var v) (sym x) ∙ h)).0 in
    ap (add_term v (pos 1)) x ∙ (rw a (rw e refl) ∙ ap (λ us. term v (pos 1) ∷ us) (sym x))

pub place-end : (v : Var) (ts : List Term) (k : ℕ) → length ts ≤ k → add_term v (pos 1) (drop k ts) ≡ term v (pos 1) ∷ drop k ts
place-end v ts k l = let x = drop_all k ts l in ap (add_term v (pos 1)) x ∙ ap (λ us. term v (pos 1) ∷ us) (sym x)

pub lacks-more : (v : Var) (ts : List Term) (k : ℕ) (d : Term) → k < length ts → has_var v (drop k ts) ≡ false → has_var v (drop (k + 1) ts) ≡ false
lacks-more v ts k d l h = (or_parts (var_eq v (get_or ts k d).var) (has_var v (drop (k + 1) ts)) (ap (has_var v) (sym (drop_more ts k d l)) ∙ h)).1

pub placed_more : (v : Var) (ts : List Term) (k : ℕ) (d : Term) → k < length ts → has_var v (drop k ts) ≡ false → var_lt v (get_or ts k d).var ≡ false → take k ts ++ add_term v (pos 1) (drop k ts) ≡ add_term v (pos 1) ts → take (k + 1) ts ++ add_term v (pos 1) (drop (k + 1) ts) ≡ add_term v (pos 1) ts
placed_more v ts k d l h e a =
    ap (λ us. us ++ add_term v (pos 1) (drop (k + 1) ts)) (take_more ts k d l) ∙ (append_assoc (take k ts) (get_or ts k d ∷ []) (add_term v (pos 1) (drop (k + 1) ts))
    ∙ (ap (λ us. take k ts ++ us) (sym (place-passed v ts k d l h e)) ∙ a))

pub placed_here : (v : Var) (ts : List Term) (k : ℕ) (d : Term) → k < length ts → has_var v (drop k ts) ≡ false → var_lt v (get_or ts k d).var ≡ true → take k ts ++ add_term v (pos 1) (drop k ts) ≡ add_term v (pos 1) ts → add_term v (pos 1) ts ≡ take k ts ++ term v (pos 1) ∷ drop k ts
placed_here v ts k d l h e a = sym a ∙ ap (λ us. take k ts ++ us) (place-here v ts k d l h e)

pub placed_end : (v : Var) (ts : List Term) (k : ℕ) → length ts ≤ k → take k ts ++ add_term v (pos 1) (drop k ts) ≡ add_term v (pos 1) ts → add_term v (pos 1) ts ≡ take k ts ++ term v (pos 1) ∷ drop k ts
placed_end v ts k l a = sym a ∙ ap (λ us. take k ts ++ us) (place-end v ts k l)

pub ruleset place_loop = (lacks-more, placed_more, placed_here, placed_end)

-- ---- a variable noted

pub noted_there : (v : Var) (us : List Term) → has_var v us ≡ true → noted v us ≡ us
noted_there v us e = rw e refl

pub noted_new : (v : Var) (us : List Term) → has_var v us ≡ false → noted v us ≡ add_term v (pos 1) us
noted_new v us e = rw e refl

has_first : (v w : Var) (us : List Term) → (has_var w us ≡ true → has_var w (term v (pos 1) ∷ us) ≡ true) × (var_eq w v ≡ true → has_var w (term v (pos 1) ∷ us) ≡ true)
has_first v w us = ((λ h. go (var_eq w v) h), (λ e. rw e refl)) where
  go : (b : Bool) → has_var w us ≡ true → (b || has_var w us) ≡ true
  go true h = refl
  go false h = h

-- what stands in a sum with a variable more
added_has : (v w : Var) (us : List Term) → has_var v us ≡ false → (has_var w us ≡ true → has_var w (add_term v (pos 1) us) ≡ true) × (var_eq w v ≡ true → has_var w (add_term v (pos 1) us) ≡ true)
added_has v w [] e = has_first v w []
added_has v w (t ∷ us) e =
    let h = or_parts (var_eq v t.var) (has_var v us) e in
    let i = added_has v w us h.1 in
    rw h.0 (if_cases (λ (xs : List Term). (has_var w (t ∷ us) ≡ true → has_var w xs ≡ true) × (var_eq w v ≡ true → has_var w xs ≡ true)) (var_lt v t.var) (term v (pos 1) ∷ t ∷ us) (t ∷ add_term v (pos 1) us)
    (λ _. has_first v w (t ∷ us))
    (λ _. ((λ k. go (var_eq w t.var) k i.0), (λ k. up (var_eq w t.var) (i.1 k)))))
  where
    go : (b : Bool) → (b || has_var w us) ≡ true → (has_var w us ≡ true → has_var w (add_term v (pos 1) us) ≡ true) → (b || has_var w (add_term v (pos 1) us)) ≡ true
    go true k f = refl
    go false k f = f k

    up : (b : Bool) → has_var w (add_term v (pos 1) us) ≡ true → (b || has_var w (add_term v (pos 1) us)) ≡ true
    up true k = refl
    up false k = k

noted_has : (v w : Var) (us : List Term) → (has_var w us ≡ true → has_var w (noted v us) ≡ true) × (var_eq w v ≡ true → has_var w (noted v us) ≡ true)
noted_has v w us = ⊎_elim
    (λ e. subst (λ (xs : List Term). (has_var w us ≡ true → has_var w xs ≡ true) × (var_eq w v ≡ true → has_var w xs ≡ true)) (sym (noted_there v us e)) ((λ h. h), (λ h. subst (λ (x : Var). has_var x us ≡ true) (sym (var_eq-true w v h)) e)))
    (λ e. subst (λ (xs : List Term). (has_var w us ≡ true → has_var w xs ≡ true) × (var_eq w v ≡ true → has_var w xs ≡ true)) (sym (noted_new v us e)) (added_has v w us e))
    (cases_Bool (has_var v us))

length_added : (v : Var) (us : List Term) → has_var v us ≡ false → length (add_term v (pos 1) us) ≡ suc (length us)
length_added v [] e = refl
length_added v (t ∷ us) e =
    let h = or_parts (var_eq v t.var) (has_var v us) e in
    rw h.0 (if_cases (λ (xs : List Term). length xs ≡ suc (length (t ∷ us))) (var_lt v t.var) (term v (pos 1) ∷ t ∷ us) (t ∷ add_term v (pos 1) us) (λ _. refl) (λ _. ap suc (length_added v us h.1)))

length_noted : (v : Var) (us : List Term) → length us ≤ length (noted v us)
length_noted v us = ⊎_elim (λ e. omega (arith, ap length (noted_there v us e))) (λ e. omega (arith, ap length (noted_new v us e), length_added v us e)) (cases_Bool (has_var v us))

pub full_sum : (v : Var) (us : List Term) (n : ℕ) → has_var v us ≡ false → length us ≡ n → n < length (noted v us)
full_sum v us n e l = omega (arith, l, ap length (noted_new v us e), length_added v us e)

pub fits_sum : (v : Var) (us : List Term) (n m : ℕ) → has_var v us ≡ false → length us ≤ n → m ≡ length us → ¬ (m ≡ n) → length (noted v us) ≤ n
fits_sum v us n m e l k x = let z : suc (length us) ≤ n = omega (arith, l, k, x) in omega (arith, z, ap length (noted_new v us e), length_added v us e)

length_noted_terms : (us ts : List Term) → length us ≤ length (noted_terms us ts)
length_noted_terms us [] = omega arith
length_noted_terms us (t ∷ ts) = omega (arith, length_noted t.var us, length_noted_terms (noted t.var us) ts)

length_noted_rows : (us : List Term) (rs : List Row) → length us ≤ length (noted_rows us rs)
length_noted_rows us [] = omega arith
length_noted_rows us (r ∷ rs) = omega (arith, length_noted_terms us r.terms, length_noted_rows (noted_terms us r.terms) rs)

pub terms_more : (us ts goal : List Term) (k : ℕ) (d : Term) → k < length ts → noted_terms us (drop k ts) ≡ goal → noted_terms (noted (get_or ts k d).var us) (drop (k + 1) ts) ≡ goal
terms_more us ts goal k d l e = ap (noted_terms us) (sym (drop_more ts k d l)) ∙ e

pub terms_full : (us ts goal : List Term) (k n : ℕ) (d : Term) → k < length ts → noted_terms us (drop k ts) ≡ goal → n < length (noted (get_or ts k d).var us) → n < length goal
terms_full us ts goal k n d l e h = omega (arith, h, ap length (terms_more us ts goal k d l e), length_noted_terms (noted (get_or ts k d).var us) (drop (k + 1) ts))

pub terms_end : (us ts goal : List Term) (k : ℕ) → length ts ≤ k → noted_terms us (drop k ts) ≡ goal → us ≡ goal
terms_end us ts goal k l e = ap (noted_terms us) (sym (drop_all k ts l)) ∙ e

pub rows_more : (us goal : List Term) (rs : List Row) (k : ℕ) (r : Row) → k < length rs → r ≡ get_or rs k r → noted_rows us (drop k rs) ≡ goal → noted_rows (noted_terms us r.terms) (drop (k + 1) rs) ≡ goal
rows_more us goal rs k r l h e = ap (λ (x : Row). noted_rows (noted_terms us x.terms) (drop (k + 1) rs)) h ∙ (ap (noted_rows us) (sym (drop_more rs k r l)) ∙ e)

pub rows_full : (us goal : List Term) (rs : List Row) (k n : ℕ) (r : Row) → k < length rs → r ≡ get_or rs k r → noted_rows us (drop k rs) ≡ goal → n < length (noted_terms us r.terms) → n < length goal
rows_full us goal rs k n r l h e g = omega (arith, g, ap length (rows_more us goal rs k r l h e), length_noted_rows (noted_terms us r.terms) (drop (k + 1) rs))

pub rows_end : (us goal : List Term) (rs : List Row) (k : ℕ) → length rs ≤ k → noted_rows us (drop k rs) ≡ goal → us ≡ goal
rows_end us goal rs k l e = ap (noted_rows us) (sym (drop_all k rs l)) ∙ e

-- ---- the variables of rows

among_noted : (v : Var) (us ts : List Term) → AreAmong us ts → AreAmong (noted v us) ts
among_noted v us [] h = tt
among_noted v us (t ∷ ts) h = ((noted_has v t.var us).0 h.0, among_noted v us ts h.1)

among_all : (us ts xs : List Term) → AreAmong us xs → AreAmong (noted_terms us ts) xs
among_all us [] xs h = h
among_all us (t ∷ ts) xs h = among_all (noted t.var us) ts xs (among_noted t.var us xs h)

has_all : (us ts : List Term) (v : Var) → has_var v us ≡ true → has_var v (noted_terms us ts) ≡ true
has_all us ts v h = (among_all us ts (term v (pos 1) ∷ []) (h, tt)).0

terms_among : (us ts : List Term) → AreAmong (noted_terms us ts) ts
terms_among us [] = tt
terms_among us (t ∷ ts) = (has_all (noted t.var us) ts t.var ((noted_has t.var t.var us).1 (true-var_eq t.var t.var refl)), terms_among (noted t.var us) ts)

among_rows : (us : List Term) (rs : List Row) (xs : List Term) → AreAmong us xs → AreAmong (noted_rows us rs) xs
among_rows us [] xs h = h
among_rows us (r ∷ rs) xs h = among_rows (noted_terms us r.terms) rs xs (among_all us r.terms xs h)

rows_among : (us : List Term) (rs : List Row) (n : ℕ) → AllItems (λ i. AreAmong (noted_rows us rs) i.row.terms) (items_from n rs)
rows_among us [] n = tt
rows_among us (r ∷ rs) n = (among_rows (noted_terms us r.terms) rs r.terms (terms_among us r.terms), rows_among (noted_terms us r.terms) rs (suc n))

pub ascends_noted : (v : Var) (us : List Term) → Ascends us → Ascends (noted v us)
ascends_noted v us h = if_cases Ascends (has_var v us) us (add_term v (pos 1) us) (λ _. h) (λ _. ascends-add_term v (pos 1) us h)

pub ascends_terms : (us ts : List Term) → Ascends us → Ascends (noted_terms us ts)
ascends_terms us [] h = h
ascends_terms us (t ∷ ts) h = ascends_terms (noted t.var us) ts (ascends_noted t.var us h)

pub ascends_rows : (us : List Term) (rs : List Row) → Ascends us → Ascends (noted_rows us rs)
ascends_rows us [] h = h
ascends_rows us (r ∷ rs) h = ascends_rows (noted_terms us r.terms) rs (ascends_terms us r.terms h)

pub rows_in_columns : (rs : List Row) (n m : ℕ) → length (noted_rows [] rs) ≤ n → InColumns n (items_from m rs)
rows_in_columns rs n m l = record { columns = noted_rows [] rs; ascends = ascends_rows [] rs tt; few = l; among = rows_among [] rs m }

within_noted : (xs : List Term) (v : Var) (us : List Term) → has_var v xs ≡ true → AreAmong xs us → AreAmong xs (noted v us)
within_noted xs v us h k = if_cases (AreAmong xs) (has_var v us) us (add_term v (pos 1) us) (λ _. k) (λ _. among_added xs v (pos 1) us h k)

within_terms : (xs us ts : List Term) → AreAmong xs us → AreAmong xs ts → AreAmong xs (noted_terms us ts)
within_terms xs us [] h k = h
within_terms xs us (t ∷ ts) h k = within_terms xs (noted t.var us) ts (within_noted xs t.var us k.0 h) k.1

within_rows : (xs us : List Term) (rs : List Row) (m : ℕ) → AreAmong xs us → AllItems (λ i. AreAmong xs i.row.terms) (items_from m rs) → AreAmong xs (noted_rows us rs)
within_rows xs us [] m h k = h
within_rows xs us (r ∷ rs) m h k = within_rows xs (noted_terms us r.terms) rs (suc m) (within_terms xs us r.terms h k.0) k.1

pub few_noted : (rs : List Row) (n m : ℕ) → InColumns n (items_from m rs) → length (noted_rows [] rs) ≤ n
few_noted rs n m c =
    let l = among_count c.columns (noted_rows [] rs) c.ascends (ascends_rows [] rs tt) (within_rows c.columns [] rs m tt c.among) in
    omega (arith, l, c.few)
