-- A system speaks of the variables that it names alone; and what namings of cells read.
use Rattle.std.proofs.Common.{◌≡◌, ℕ, List, [], ◌∷◌, ◌||◌, Bool, true, false, refl, sym, ap, ap₂, ◌∙◌, subst, ℤ, ◌+ℤ◌, ◌*ℤ◌, nat_eq}
use Rattle.std.specs.Prelude.{if◌then◌else◌}
use Rattle.std.proofs.lemmas.Bool.{or_left, or_right}
use Rattle.affine_systems.specs.declared.row.Var.{Var}
use Rattle.affine_systems.specs.declared.row.Var.TheVariants.{Cell, Exit, Phi, Aux}
use Rattle.affine_systems.specs.declared.row.Term.{Term}
use Rattle.affine_systems.specs.declared.row.Row.{Row}
use Rattle.affine_systems.specs.declared.row.System.{System}
use Rattle.affine_systems.specs.Terms.{var_eq}
use Rattle.affine_systems.specs.Points.{Point, value, Meets, HoldsAll}
use Rattle.affine_systems.proofs.TermLaws.{var_eq-true, true-var_eq}
use Rattle.transformers.specs.transformer_algebra.Renaming.{renamed_by}
use Rattle.transformers.specs.transformer_algebra.Cells.{has, others}
use Rattle.transformers.proofs.TransformerAlgebra.CellLaws.{exit_cell, cell_same, tail_has}
use Rattle.region_sets.specs.Naming.{in_terms, in_rows, named_cells, to_exits}
use Rattle.fx_lists.proofs.Numbers.{same_is as nat_same, nat_eq_same}
use Rattle.fx_lists.proofs.Booleans.{clash as clashes}
use Rattle.hull_projection.specs.Laws.{IsOneOf}
use Rattle.hull_projection.proofs.VarLaws.{TermsIn, RowsIn}

-- ---- tests

-- ---- points that agree on what is named

abbrev pub Agree : (Var → Bool) → Point → Point → Type 0
Agree g p q = (v : Var) → g v ≡ true → p v ≡ q v

pub flip : (g : Var → Bool) (p q : Point) → Agree g p q → Agree g q p
flip g p q h v n = sym (h v n)

pub terms_agree : (ts : List Term) (p q : Point) → Agree (λ v. in_terms v ts) p q → value p ts ≡ value q ts
terms_agree [] p q h = refl
terms_agree (t ∷ ts) p q h =
    ap₂ (λ (a b : ℤ). (t.factor *ℤ a) +ℤ b) (h t.var (or_left (var_eq t.var t.var) (in_terms t.var ts) (true-var_eq t.var t.var refl)))
    (terms_agree ts p q (λ v e. h v (or_right (var_eq v t.var) (in_terms v ts) e)))

pub rows_agree : (rs : List Row) (p q : Point) → Agree (λ v. in_rows v rs) p q → HoldsAll p rs → HoldsAll q rs
rows_agree [] p q h e = tt
rows_agree (r ∷ rs) p q h e = (
  subst (λ (x : ℤ). Meets r.equal x r.bound) (terms_agree r.terms p q (λ v n. h v (or_left (in_terms v r.terms) (in_rows v rs) n))) e.0,
  rows_agree rs p q (λ v n. h v (or_right (in_terms v r.terms) (in_rows v rs) n)) e.1,
)

-- ---- named cells
pub has_named : (cs : List ℕ) (s : System) (c : ℕ) → has cs c ≡ true → in_rows (Cell c) s.rows ≡ true → has (named_cells cs s) c ≡ true
has_named [] s c h n = h
has_named (d ∷ cs) s c h n = go (nat_eq d c) refl h (in_rows (Cell d) s.rows) refl (λ k. has_named cs s c k n)
  where
    go : (b : Bool) → nat_eq d c ≡ b → (b || has cs c) ≡ true → (m : Bool) → in_rows (Cell d) s.rows ≡ m → (has cs c ≡ true → has (named_cells cs s) c ≡ true) → has (if m then d ∷ named_cells cs s else named_cells cs s) c ≡ true
    go true e k true m ih = or_left (nat_eq d c) (has (named_cells cs s) c) e
    go true e k false m ih = clashes (in_rows (Cell d) s.rows) (ap (λ x. in_rows (Cell x) s.rows) (nat_same d c e) ∙ n) m
    go false e k true m ih = or_right (nat_eq d c) (has (named_cells cs s) c) (ih k)
    go false e k false m ih = ih k

pub named_has : (cs : List ℕ) (s : System) (c : ℕ) → has (named_cells cs s) c ≡ true → has cs c ≡ true
named_has [] s c h = h
named_has (d ∷ cs) s c h = go (in_rows (Cell d) s.rows) h (λ k. named_has cs s c k)
  where
    one : (b : Bool) → (b || has (named_cells cs s) c) ≡ true → (has (named_cells cs s) c ≡ true → has cs c ≡ true) → (b || has cs c) ≡ true
    one true e ih = refl
    one false e ih = ih e

    go : (m : Bool) → has (if m then d ∷ named_cells cs s else named_cells cs s) c ≡ true → (has (named_cells cs s) c ≡ true → has cs c ≡ true) → (nat_eq d c || has cs c) ≡ true
    go true k ih = one (nat_eq d c) k ih
    go false k ih = or_right (nat_eq d c) (has cs c) (ih k)

-- ---- without the index

same_false : (i c : ℕ) → nat_eq i c ≡ false → (nat_eq i c || false) ≡ false
same_false i c e = ap (λ b. b || false) e

pub has_others : (i : ℕ) (cs : List ℕ) (c : ℕ) → nat_eq i c ≡ false → has cs c ≡ true → has (others cs (i ∷ [])) c ≡ true
has_others i [] c n h = h
has_others i (d ∷ cs) c n h = go (nat_eq i d || false) refl (nat_eq d c) refl h (λ k. has_others i cs c n k)
  where
    go : (b : Bool) → (nat_eq i d || false) ≡ b → (m : Bool) → nat_eq d c ≡ m → (m || has cs c) ≡ true → (has cs c ≡ true → has (others cs (i ∷ [])) c ≡ true) → has (if b then others cs (i ∷ []) else d ∷ others cs (i ∷ [])) c ≡ true
    go true e true k h ih = clashes (nat_eq i c || false) (ap (λ x. nat_eq i x || false) (sym (nat_same d c k)) ∙ e) (same_false i c n)
    go true e false k h ih = ih h
    go false e true k h ih = or_left (nat_eq d c) (has (others cs (i ∷ [])) c) k
    go false e false k h ih = or_right (nat_eq d c) (has (others cs (i ∷ [])) c) (ih h)

pub others_has : (i : ℕ) (cs : List ℕ) (c : ℕ) → has (others cs (i ∷ [])) c ≡ true → (has cs c ≡ true) × (nat_eq i c ≡ false)
others_has i [] c h = clashes false h refl
others_has i (d ∷ cs) c h = go (nat_eq i d || false) refl h (λ k. others_has i cs c k)
  where
    off : (b : Bool) → (b || false) ≡ false → b ≡ false
    off true e = e
    off false e = refl

    one : (m : Bool) → nat_eq d c ≡ m → (nat_eq i d || false) ≡ false → (m || has (others cs (i ∷ [])) c) ≡ true → (has (others cs (i ∷ [])) c ≡ true → (has cs c ≡ true) × (nat_eq i c ≡ false)) → ((m || has cs c) ≡ true) × (nat_eq i c ≡ false)
    one true k e h ih = (refl, off (nat_eq i c) (ap (λ x. nat_eq i x || false) (sym (nat_same d c k)) ∙ e))
    one false k e h ih = ih h

    go : (b : Bool) → (nat_eq i d || false) ≡ b → has (if b then others cs (i ∷ []) else d ∷ others cs (i ∷ [])) c ≡ true → (has (others cs (i ∷ [])) c ≡ true → (has cs c ≡ true) × (nat_eq i c ≡ false)) → ((nat_eq d c || has cs c) ≡ true) × (nat_eq i c ≡ false)
    go true e h ih = let r = ih h in (or_right (nat_eq d c) (has cs c) r.0, r.1)
    go false e h ih = one (nat_eq d c) refl e h ih

-- ---- cells that become exits
pub exit_of_named : (cs : List ℕ) (c : ℕ) → has cs c ≡ true → renamed_by (to_exits cs) (Cell c) ≡ Exit c
exit_of_named [] c h = clashes false h refl
exit_of_named (d ∷ cs) c h = go (var_eq (Cell c) (Cell d)) refl (λ k. exit_of_named cs c k)
  where
    go : (g : Bool) → var_eq (Cell c) (Cell d) ≡ g → (has cs c ≡ true → renamed_by (to_exits cs) (Cell c) ≡ Exit c) → (if g then Exit d else renamed_by (to_exits cs) (Cell c)) ≡ Exit c
    go true k r = ap (λ j. Exit j) (sym (cell_same c d k))
    go false k r = r (tail_has d c cs h (λ q. clashes (var_eq (Cell c) (Cell d)) (true-var_eq (Cell c) (Cell d) (ap (λ j. Cell j) (sym q))) k))

pub cell_of_other : (cs : List ℕ) (c : ℕ) → has cs c ≡ false → renamed_by (to_exits cs) (Cell c) ≡ Cell c
cell_of_other [] c h = refl
cell_of_other (d ∷ cs) c h = go (var_eq (Cell c) (Cell d)) refl (nat_eq d c) refl h (λ k. cell_of_other cs c k)
  where
    go : (g : Bool) → var_eq (Cell c) (Cell d) ≡ g → (m : Bool) → nat_eq d c ≡ m → (m || has cs c) ≡ false → (has cs c ≡ false → renamed_by (to_exits cs) (Cell c) ≡ Cell c) → (if g then Exit d else renamed_by (to_exits cs) (Cell c)) ≡ Cell c
    go g k true e h r = clashes true refl h
    go true k false e h r = clashes (nat_eq d c) (subst (λ j. nat_eq d j ≡ true) (sym (cell_same c d k)) (nat_eq_same d)) e
    go false k false e h r = r h

-- what is no cell stays
pub stays : (cs : List ℕ) (v : Var) → ((c : ℕ) → var_eq v (Cell c) ≡ false) → renamed_by (to_exits cs) v ≡ v
stays [] v f = refl
stays (d ∷ cs) v f = go (var_eq v (Cell d)) (f d) (stays cs v f)
  where
    go : (g : Bool) → g ≡ false → renamed_by (to_exits cs) v ≡ v → (if g then Exit d else renamed_by (to_exits cs) v) ≡ v
    go true k r = clashes true refl k
    go false k r = r

pub phi_cell : (c d : ℕ) → var_eq (Phi c) (Cell d) ≡ false
phi_cell c d = go (var_eq (Phi c) (Cell d)) refl
  where
    go : (b : Bool) → var_eq (Phi c) (Cell d) ≡ b → b ≡ false
    go true e = let q = var_eq-true (Phi c) (Cell d) e in absurd (cc)
    go false e = refl

pub aux_cell : (c d : ℕ) → var_eq (Aux c) (Cell d) ≡ false
aux_cell c d = go (var_eq (Aux c) (Cell d)) refl
  where
    go : (b : Bool) → var_eq (Aux c) (Cell d) ≡ b → b ≡ false
    go true e = let q = var_eq-true (Aux c) (Cell d) e in absurd (cc)
    go false e = refl

pub stays_exit : (cs : List ℕ) (c : ℕ) → renamed_by (to_exits cs) (Exit c) ≡ Exit c
stays_exit cs c = stays cs (Exit c) (λ d. exit_cell c d)

pub stays_phi : (cs : List ℕ) (c : ℕ) → renamed_by (to_exits cs) (Phi c) ≡ Phi c
stays_phi cs c = stays cs (Phi c) (λ d. phi_cell c d)

pub stays_aux : (cs : List ℕ) (c : ℕ) → renamed_by (to_exits cs) (Aux c) ≡ Aux c
stays_aux cs c = stays cs (Aux c) (λ d. aux_cell c d)

pub terms_has : (v : Var) (xs : List Var) (ts : List Term) → TermsIn xs ts → in_terms v ts ≡ true → IsOneOf v xs
terms_has v xs [] h e = clashes false e refl
terms_has v xs (t ∷ ts) h e = go (var_eq v t.var) refl e (λ f. terms_has v xs ts h.1 f)
  where
    go : (b : Bool) → var_eq v t.var ≡ b → (b || in_terms v ts) ≡ true → (in_terms v ts ≡ true → IsOneOf v xs) → IsOneOf v xs
    go true k f ih = subst (λ w. IsOneOf w xs) (sym (var_eq-true v t.var k)) h.0
    go false k f ih = ih f

pub rows_has : (v : Var) (xs : List Var) (rs : List Row) → RowsIn xs rs → in_rows v rs ≡ true → IsOneOf v xs
rows_has v xs [] h e = clashes false e refl
rows_has v xs (r ∷ rs) h e = go (in_terms v r.terms) refl e (λ f. rows_has v xs rs h.1 f)
  where
    go : (b : Bool) → in_terms v r.terms ≡ b → (b || in_rows v rs) ≡ true → (in_rows v rs ≡ true → IsOneOf v xs) → IsOneOf v xs
    go true k f ih = terms_has v xs r.terms h.0 k
    go false k f ih = ih f
