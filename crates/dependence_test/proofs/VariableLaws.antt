-- What the variables of two iterations read at a point.
use Rattle.std.proofs.Common.{◌≡◌, ℕ, zero, suc, ◌+◌, ◌≤◌, List, [], ◌∷◌, ◌++◌, length, map, ◌||◌, Bool, true, false, refl, sym, ap, ◌∙◌, subst, arith, ℤ, pos, nat_eq, inl, inr, append_assoc, length-append}
use Rattle.std.specs.Prelude.{if◌then◌else◌}
use Rattle.affine_systems.specs.declared.row.Var.{Var}
use Rattle.affine_systems.specs.declared.row.Var.TheVariants.{Cell, Exit, Phi, Aux}
use Rattle.affine_systems.specs.declared.row.System.{System}
use Rattle.affine_systems.specs.Terms.{var_eq, var_lt}
use Rattle.affine_systems.specs.Points.{Point}
use Rattle.affine_systems.proofs.TermLaws.{var_eq-true, true-var_eq}
use Rattle.hull_projection.specs.Laws.{IsOneOf}
use Rattle.hull_projection.specs.Variables.{row_vars}
use Rattle.hull_projection.proofs.VarLaws.{rows_covered, IsOld, old_lt}
use Rattle.preconditions.specs.transformer_algebra.Renaming.{renamed_by}
use Rattle.preconditions.specs.transformer_algebra.Cells.{has}
use Rattle.preconditions.proofs.TransformerAlgebra.CellLaws.{cell_same, tail_has}
use Rattle.region_sets.specs.Naming.{in_rows}
use Rattle.region_sets.proofs.NameLaws.{phi_cell, rows_has as one_of_rows}
use Rattle.dependence_test.specs.Variables.{cell_namings, before_subscript, subscripts, named_subscripts, subscript_namings}
use Rattle.fx_lists.proofs.Numbers.{nat_eq_same}
use Rattle.fx_lists.proofs.Booleans.{clash as clashes}

-- ---- auxiliary variables with the values of a list

-- those from a on have the values of f at these numbers
abbrev pub Reads : Point → (ℕ → ℤ) → ℕ → List ℕ → Type 0
Reads p f a [] = Unit {0}
Reads p f a (c ∷ cs) = (p (Aux a) ≡ f c) × Reads p f (a + 1) cs

abbrev pub number_at : List ℤ → ℕ → ℤ
number_at [] n = pos 0
number_at (x ∷ xs) zero = x
number_at (x ∷ xs) (suc n) = number_at xs n

pub number_past : (xs ys : List ℤ) (n : ℕ) → number_at (xs ++ ys) (length xs + n) ≡ number_at ys n
number_past [] ys n = let e : 0 + n ≡ n = omega arith in ap (number_at ys) e
number_past (x ∷ xs) ys n =
    let e : length (x ∷ xs) + n ≡ suc (length xs + n) = omega arith in
    ap (number_at (x ∷ (xs ++ ys))) e ∙ number_past xs ys n

pub first_past : (xs : List ℤ) (y : ℤ) (ys : List ℤ) → number_at (xs ++ y ∷ ys) (length xs) ≡ y
first_past xs y ys =
    let e : length xs ≡ length xs + 0 = omega arith in
    ap (number_at (xs ++ y ∷ ys)) e ∙ number_past xs (y ∷ ys) 0

-- the variables of a point that has a list of values at them
pub reads_list : (p : Point) (f : ℕ → ℤ) (before : List ℤ) (cs : List ℕ) (after : List ℤ) → ((n : ℕ) → p (Aux n) ≡ number_at (before ++ (map f cs ++ after)) n) → Reads p f (length before) cs
reads_list p f before [] after h = tt
reads_list p f before (c ∷ cs) after h =
    let next = reads_list p f (before ++ f c ∷ []) cs after (λ n. h n ∙ ap (λ l. number_at l n) (sym (append_assoc before (f c ∷ []) (map f cs ++ after)))) in
    let len : length (before ++ f c ∷ []) ≡ length before + 1 = length-append before (f c ∷ []) in
    (h (length before) ∙ first_past before (f c) (map f cs ++ after), subst (λ n. Reads p f n cs) len next)

-- ---- cells

pub named_cell : (p : Point) (f : ℕ → ℤ) (a : ℕ) (cs : List ℕ) (c : ℕ) → Reads p f a cs → has cs c ≡ true → p (renamed_by (cell_namings a cs) (Cell c)) ≡ f c
named_cell p f a [] c r h = clashes false h refl
named_cell p f a (d ∷ cs) c r h = go (var_eq (Cell c) (Cell d)) refl (λ k. named_cell p f (a + 1) cs c r.1 k)
  where
    go : (g : Bool) → var_eq (Cell c) (Cell d) ≡ g → (has cs c ≡ true → p (renamed_by (cell_namings (a + 1) cs) (Cell c)) ≡ f c) → p (if g then Aux a else renamed_by (cell_namings (a + 1) cs) (Cell c)) ≡ f c
    go true k ih = r.0 ∙ ap f (sym (cell_same c d k))
    go false k ih = ih (tail_has d c cs h (λ q. clashes (var_eq (Cell c) (Cell d)) (true-var_eq (Cell c) (Cell d) (ap (λ j. Cell j) (sym q))) k))

pub other_cell : (a : ℕ) (cs : List ℕ) (c : ℕ) → has cs c ≡ false → renamed_by (cell_namings a cs) (Cell c) ≡ Cell c
other_cell a [] c h = refl
other_cell a (d ∷ cs) c h = go (var_eq (Cell c) (Cell d)) refl (nat_eq d c) refl h (λ k. other_cell (a + 1) cs c k)
  where
    go : (g : Bool) → var_eq (Cell c) (Cell d) ≡ g → (m : Bool) → nat_eq d c ≡ m → (m || has cs c) ≡ false → (has cs c ≡ false → renamed_by (cell_namings (a + 1) cs) (Cell c) ≡ Cell c) → (if g then Aux a else renamed_by (cell_namings (a + 1) cs) (Cell c)) ≡ Cell c
    go g k true e h r = clashes true refl h
    go true k false e h r = clashes (nat_eq d c) (subst (λ j. nat_eq d j ≡ true) (sym (cell_same c d k)) (nat_eq_same d)) e
    go false k false e h r = r h

-- what is no cell stays
no_cell : (a : ℕ) (cs : List ℕ) (v : Var) → ((c : ℕ) → var_eq v (Cell c) ≡ false) → renamed_by (cell_namings a cs) v ≡ v
no_cell a [] v f = refl
no_cell a (d ∷ cs) v f = go (var_eq v (Cell d)) (f d) (no_cell (a + 1) cs v f)
  where
    go : (g : Bool) → g ≡ false → renamed_by (cell_namings (a + 1) cs) v ≡ v → (if g then Aux a else renamed_by (cell_namings (a + 1) cs) v) ≡ v
    go true k r = clashes true refl k
    go false k r = r

pub subscript_stays : (a : ℕ) (cs : List ℕ) (k : ℕ) → renamed_by (cell_namings a cs) (Phi k) ≡ Phi k
subscript_stays a cs k = no_cell a cs (Phi k) (λ c. phi_cell k c)

-- ---- subscripts

phi_same : (c d : ℕ) → var_eq (Phi c) (Phi d) ≡ true → c ≡ d
phi_same c d e = let q = var_eq-true (Phi c) (Phi d) e in cc

pub named_subscript : (p : Point) (f : ℕ → ℤ) (a : ℕ) (ks : List ℕ) (k : ℕ) → Reads p f a ks → has ks k ≡ true → p (renamed_by (subscript_namings a ks) (Phi k)) ≡ f k
named_subscript p f a [] k r h = clashes false h refl
named_subscript p f a (d ∷ ks) k r h = go (var_eq (Phi k) (Phi d)) refl (λ t. named_subscript p f (a + 1) ks k r.1 t)
  where
    go : (g : Bool) → var_eq (Phi k) (Phi d) ≡ g → (has ks k ≡ true → p (renamed_by (subscript_namings (a + 1) ks) (Phi k)) ≡ f k) → p (if g then Aux a else renamed_by (subscript_namings (a + 1) ks) (Phi k)) ≡ f k
    go true t ih = r.0 ∙ ap f (sym (phi_same k d t))
    go false t ih = ih (tail_has d k ks h (λ q. clashes (var_eq (Phi k) (Phi d)) (true-var_eq (Phi k) (Phi d) (ap (λ j. Phi j) (sym q))) t))

no_phi : (v : Var) → ((k : ℕ) → v ≡ Phi k → ⊥) → (k : ℕ) → var_eq v (Phi k) ≡ false
no_phi v f k = go (var_eq v (Phi k)) refl
  where
    go : (b : Bool) → var_eq v (Phi k) ≡ b → b ≡ false
    go true e = absurd (f k (var_eq-true v (Phi k) e))
    go false e = refl

-- what is no subscript stays
no_subscript : (a : ℕ) (ks : List ℕ) (v : Var) → ((k : ℕ) → var_eq v (Phi k) ≡ false) → renamed_by (subscript_namings a ks) v ≡ v
no_subscript a [] v f = refl
no_subscript a (d ∷ ks) v f = go (var_eq v (Phi d)) (f d) (no_subscript (a + 1) ks v f)
  where
    go : (g : Bool) → g ≡ false → renamed_by (subscript_namings (a + 1) ks) v ≡ v → (if g then Aux a else renamed_by (subscript_namings (a + 1) ks) v) ≡ v
    go true k r = clashes true refl k
    go false k r = r

cell_no_phi : (c k : ℕ) → Cell c ≡ Phi k → ⊥
cell_no_phi c k q = cc

exit_no_phi : (c k : ℕ) → Exit c ≡ Phi k → ⊥
exit_no_phi c k q = cc

aux_no_phi : (c k : ℕ) → Aux c ≡ Phi k → ⊥
aux_no_phi c k q = cc

pub cell_stays : (a : ℕ) (ks : List ℕ) (c : ℕ) → renamed_by (subscript_namings a ks) (Cell c) ≡ Cell c
cell_stays a ks c = no_subscript a ks (Cell c) (no_phi (Cell c) (cell_no_phi c))

pub exit_stays : (a : ℕ) (ks : List ℕ) (c : ℕ) → renamed_by (subscript_namings a ks) (Exit c) ≡ Exit c
exit_stays a ks c = no_subscript a ks (Exit c) (no_phi (Exit c) (exit_no_phi c))

pub aux_stays : (a : ℕ) (ks : List ℕ) (c : ℕ) → renamed_by (subscript_namings a ks) (Aux c) ≡ Aux c
aux_stays a ks c = no_subscript a ks (Aux c) (no_phi (Aux c) (aux_no_phi c))

-- ---- the subscripts that a system names

has_subscript : (k : ℕ) (vs : List Var) → IsOneOf (Phi k) vs → has (subscripts vs) k ≡ true
has_subscript k [] h = absurd h
has_subscript k (v ∷ vs) (inl e) = subst (λ (w : Var). has (before_subscript w (subscripts vs)) k ≡ true) e (first (nat_eq k k) (nat_eq_same k))
  where
    first : (b : Bool) → b ≡ true → (b || has (subscripts vs) k) ≡ true
    first true q = refl
    first false q = clashes false q refl
has_subscript k (v ∷ vs) (inr h) = later v (has_subscript k vs h)
  where
    or_right : (b c : Bool) → c ≡ true → (b || c) ≡ true
    or_right true c q = refl
    or_right false c q = q

    later : (w : Var) → has (subscripts vs) k ≡ true → has (before_subscript w (subscripts vs)) k ≡ true
    later (Cell n) q = q
    later (Exit n) q = q
    later (Phi n) q = or_right (nat_eq n k) (has (subscripts vs) k) q
    later (Aux n) q = q

pub is_named : (s : System) (k : ℕ) → in_rows (Phi k) s.rows ≡ true → has (named_subscripts s) k ≡ true
is_named s k e = has_subscript k (row_vars s.rows) (one_of_rows (Phi k) (row_vars s.rows) s.rows (rows_covered [] s.rows) e)

-- ---- the index comes before what has a greater number

named_old : (n a : ℕ) (cs : List ℕ) (v : Var) → IsOld n v → a + length cs ≤ n → IsOld n (renamed_by (cell_namings a cs) v)
named_old n a [] v h l = h
named_old n a (d ∷ cs) v h l = go (var_eq v (Cell d)) (named_old n (a + 1) cs v h (omega (arith, l)))
  where
    go : (g : Bool) → IsOld n (renamed_by (cell_namings (a + 1) cs) v) → IsOld n (if g then Aux a else renamed_by (cell_namings (a + 1) cs) v)
    go true r = omega (arith, l)
    go false r = r

pub index_before : (a : ℕ) (cs : List ℕ) (i n : ℕ) → a + length cs ≤ n → var_lt (renamed_by (cell_namings a cs) (Cell i)) (Aux n) ≡ true
index_before a cs i n l = old_lt n n (renamed_by (cell_namings a cs) (Cell i)) (named_old n a cs (Cell i) tt l) (omega arith)

pub ruleset index_steps = (index_before)
