-- The variables of rows as they are noted: those in order of which refutation speaks.
use Rattle.std.proofs.Common.{◌≡◌, ◌∙◌, ℕ, suc, ◌+◌, ◌≤◌, ◌<◌, Bool, true, false, ◌||◌, List, [], ◌∷◌, length, drop, get_or, arith, ap, ap₂, sym, refl, subst, ⊎_elim, inl, inr, pos}
use Rattle.std.proofs.lemmas.List.{get_or-map}
use Rattle.std.proofs.lemmas.Bool.{cases_Bool, or_parts, false_from_ne_true}
use Rattle.affine_systems.specs.declared.row.Var.{Var}
use Rattle.affine_systems.specs.declared.row.Term.{Term}
use Rattle.affine_systems.specs.declared.row.Row.{Row}
use Rattle.affine_systems.specs.declared.items.Item.{Item}
use Rattle.affine_systems.specs.Terms.{var_eq, var_lt, add_term, Ascends}
use Rattle.affine_systems.specs.Places.{has_var}
use Rattle.affine_systems.specs.Items.{items_from, rows_of}
use Rattle.affine_systems.specs.declared.row.System.{System}
use Rattle.affine_systems.specs.Rows.{system}
use Rattle.affine_systems.specs.Points.{occurs}
use Rattle.affine_systems.specs.Eliminate.{any_has, eliminate, elim_of}
use Rattle.affine_systems.proofs.TermLaws.{var_eq-true, true-var_eq}
use Rattle.affine_systems.proofs.PlaceSteps.{has_of_occurs}
use Rattle.affine_systems.proofs.FitLaws.{rows_of-items_from}
use Rattle.elimination.proofs.ElimSteps.{elim_absent}
use Rattle.hull_projection.specs.Laws.{IsOneOf}
use Rattle.hull_projection.proofs.VarLaws.{TermsIn, RowsIn, rows_covered}
use Rattle.affine_systems.proofs.AscendLaws.{var_lt-one_way}
use Rattle.work_area.specs.declared.slot.Slot.{Slot}
use Rattle.work_area.specs.Slots.{row_in, item_in, items_in}
use Rattle.work_area.specs.Columns.{InColumns, Notes, noted, noted_terms, noted_rows}
use Rattle.work_area.proofs.Swaps.{item_read, length-items_in}
use Rattle.work_area.proofs.ColumnLaws.{found_before}
use Rattle.work_area.proofs.NoteSteps.{noted_there, noted_new, ascends_noted, ascends_terms, rows_more, rows_full, few_noted}
use Rattle.hull_projection.specs.Variables.{with_var, with_terms, with_rows, row_vars}
use Rattle.work_area.specs.Refuting.{vars_of}
use Rattle.work_area.proofs.LoadSteps.{from_columns}

-- ---- the loop that notes the rows

pub row_read : (ss : List Slot) (k : ℕ) (s : Slot) → k < length ss → s ≡ get_or ss k s → row_in s ≡ get_or (rows_of (items_in ss)) k (row_in s)
row_read ss k s l h =
    sym (get_or-map (λ (i : Item). i.row) (items_in ss) k (item_in s) (row_in s) (omega (arith, l, length-items_in ss)) ∙ ap (λ (i : Item). i.row) (item_read ss k s (item_in s) l h))

pub length-rows_in : (ss : List Slot) → length (rows_of (items_in ss)) ≡ length ss
length-rows_in [] = refl
length-rows_in (s ∷ ss) = let e = length-rows_in ss in omega (arith, e)

pub note_done : (us goal new : List Term) (rs : List Row) (k n : ℕ) (r : Row) (b : Bool) → k < length rs → r ≡ get_or rs k r → noted_rows us (drop k rs) ≡ goal → length goal ≤ n → Notes n (noted_terms us r.terms) new b → noted_rows new (drop (k + 1) rs) ≡ goal
note_done us goal new rs k n r b l e g f h = ⊎_elim
    (λ t. ap (λ xs. noted_rows xs (drop (k + 1) rs)) (h.done t).0 ∙ rows_more us goal rs k r l e g)
    (λ t. let x = rows_full us goal rs k n r l e g (h.full t) in absurd (omega (arith, x, f)))
    (cases_Bool b)

pub few_in : (n : ℕ) (is : List Item) → InColumns n is → length (noted_rows [] (rows_of is)) ≤ n
few_in n is c = few_noted (rows_of is) n 0 (from_columns n 0 is c)

-- ---- what is noted

there_vars : (v : Var) (us : List Term) → Ascends us → has_var v us ≡ true → vars_of us ≡ with_var v (vars_of us)
there_vars v [] a h = cc
there_vars v (t ∷ us) a h = ⊎_elim
    (λ e. sym (rw e refl))
    (λ e. let i : has_var v us ≡ true = ap (λ b. b || has_var v us) (sym e) ∙ h in
    let l : var_lt v t.var ≡ false = var_lt-one_way t.var v (found_before t.var us v a.1 i) in
    ap (λ ws. t.var ∷ ws) (there_vars v us a.2 i) ∙ sym (rw e (rw l refl)))
    (cases_Bool (var_eq v t.var))

new_vars : (v : Var) (us : List Term) → has_var v us ≡ false → vars_of (add_term v (pos 1) us) ≡ with_var v (vars_of us)
new_vars v [] h = refl
new_vars v (t ∷ us) h =
    let p = or_parts (var_eq v t.var) (has_var v us) h in
    ⊎_elim
    (λ l. rw p.0 (rw l refl))
    (λ l. rw p.0 (rw l (ap (λ ws. t.var ∷ ws) (new_vars v us p.1))))
    (cases_Bool (var_lt v t.var))

noted_var : (v : Var) (us : List Term) → Ascends us → vars_of (noted v us) ≡ with_var v (vars_of us)
noted_var v us a = ⊎_elim
    (λ e. ap vars_of (noted_there v us e) ∙ there_vars v us a e)
    (λ e. ap vars_of (noted_new v us e) ∙ new_vars v us e)
    (cases_Bool (has_var v us))

term_vars : (us ts : List Term) → Ascends us → vars_of (noted_terms us ts) ≡ with_terms (vars_of us) ts
term_vars us [] a = refl
term_vars us (t ∷ ts) a = term_vars (noted t.var us) ts (ascends_noted t.var us a) ∙ ap (λ ws. with_terms ws ts) (noted_var t.var us a)

all_vars : (us : List Term) (rs : List Row) → Ascends us → vars_of (noted_rows us rs) ≡ with_rows (vars_of us) rs
all_vars us [] a = refl
all_vars us (r ∷ rs) a = all_vars (noted_terms us r.terms) rs (ascends_terms us r.terms a) ∙ ap (λ ws. with_rows ws rs) (term_vars us r.terms a)

pub vars_noted : (rs : List Row) → vars_of (noted_rows [] rs) ≡ row_vars rs
vars_noted rs = all_vars [] rs tt

-- ---- a variable that was not noted

one_has : (v : Var) (us : List Term) → IsOneOf v (vars_of us) → has_var v us ≡ true
one_has v [] h = absurd h
one_has v (t ∷ us) (inl e) = ap (λ b. b || has_var v us) (true-var_eq v t.var e)
one_has v (t ∷ us) (inr h) = ap (λ b. var_eq v t.var || b) (one_has v us h) ∙ go (var_eq v t.var) where
  go : (b : Bool) → (b || true) ≡ true
  go true = refl
  go false = refl

has_one : (v : Var) (xs : List Var) (ts : List Term) → TermsIn xs ts → has_var v ts ≡ true → IsOneOf v xs
has_one v xs [] h e = cc
has_one v xs (t ∷ ts) h e = ⊎_elim
    (λ q. subst (λ (x : Var). IsOneOf x xs) (sym (var_eq-true v t.var q)) h.0)
    (λ q. has_one v xs ts h.1 (ap (λ b. b || has_var v ts) (sym q) ∙ e))
    (cases_Bool (var_eq v t.var))

none_has : (v : Var) (xs : List Var) (n : ℕ) (rs : List Row) → RowsIn xs rs → (IsOneOf v xs → ⊥) → any_has v (items_from n rs) ≡ false
none_has v xs n [] h f = refl
none_has v xs n (r ∷ rs) h f =
    let p : occurs v r ≡ false = false_from_ne_true (occurs v r) (λ e. f (has_one v xs r.terms h.0 (has_of_occurs v r e))) in
    ap₂ (λ a b. a || b) p (none_has v xs (suc n) rs h.1 f)

-- no row has a variable that was not noted
pub absent : (v : Var) (rs : List Row) → has_var v (noted_rows [] rs) ≡ false → any_has v (items_from 0 rs) ≡ false
absent v rs h =
    let k : RowsIn (vars_of (noted_rows [] rs)) rs = subst (λ xs. RowsIn xs rs) (sym (vars_noted rs)) (rows_covered [] rs) in
    none_has v (vars_of (noted_rows [] rs)) 0 rs k (λ o. let e = one_has v (noted_rows [] rs) o in cc)

-- its elimination changes nothing
pub eliminate_absent : (s : System) (v : Var) → has_var v (noted_rows [] s.rows) ≡ false → ((eliminate s v).system ≡ s) × ((eliminate s v).exact ≡ true)
eliminate_absent s v h =
    let e = sym (elim_absent false v (items_from 0 s.rows) (absent v s.rows h)) in (
      ap (λ x. (elim_of s.weak x).system) e ∙ ap₂ (λ rs w. system rs w) (rows_of-items_from 0 s.rows) (or_none s.weak),
      ap (λ x. x.exact) e,
    )
  where
    or_none : (b : Bool) → (b || false) ≡ b
    or_none true = refl
    or_none false = refl
