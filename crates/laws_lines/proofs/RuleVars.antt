-- The variables of transformers, and of what holds before and after them: each rule gives none but those allowed.
use Rattle.std.proofs.Common.{◌≡◌, ◌⊎◌, inl, inr, ⊎_elim, ℕ, suc, Bool, true, false, ◌||◌, List, [], ◌∷◌, Option, Some, None, pos, refl, sym, subst, nat_eq}
use Rattle.std.specs.Prelude.{if◌then◌else◌, ◌-ℤ◌}
use Rattle.std.proofs.lemmas.Bool.{or_left, or_right}
use Rattle.affine_systems.specs.declared.row.Var.{Var}
use Rattle.affine_systems.specs.declared.row.Var.TheVariants.{Cell, Exit, Phi, Aux}
use Rattle.affine_systems.specs.declared.row.System.{System}
use Rattle.affine_systems.specs.Terms.{var_eq}
use Rattle.affine_systems.specs.Calls.{meet}
use Rattle.hull_projection.specs.Closure.{exit_of}
use Rattle.hull_projection.specs.Project.{project}
use Rattle.hull_projection.specs.Hull.{hull}
use Rattle.hull_projection.specs.Laws.{IsOneOf}
use Rattle.preconditions.specs.transformer_algebra.Renaming.{naming, renamed_by, rename_all}
use Rattle.preconditions.specs.transformer_algebra.Fresh.{fresh_over}
use Rattle.affine_forms.specs.declared.affine.Affine.{Affine}
use Rattle.affine_forms.specs.Comparisons.{var_form, same_row}
use Rattle.preconditions.specs.transformer_algebra.declared.transformer.Transformer.{Transformer}
use Rattle.preconditions.specs.transformer_algebra.Cells.{has, joined_cells, others}
use Rattle.preconditions.specs.transformer_algebra.Halves.{first_names, second_names, middle, to_cells, cell_vars}
use Rattle.preconditions.specs.transformer_algebra.Transformers.{test, identity_transformer, nowhere, forgotten, exit_system, assign, followed, without, apply, equals, complete, cells_from, all_cells, hull_of_arms, one_of, iterate}
use Rattle.preconditions.proofs.TransformerAlgebra.CellLaws.{left_in, right_in, joined_in}
use Rattle.preconditions.proofs.TransformerAlgebra.HalfLaws.{to_cells_exit, to_cells_cell}
use Rattle.preconditions.proofs.TransformerAlgebra.GivenSteps.{are_cells}
use Rattle.laws_lines.specs.Variables.{IsCellOf}
use Rattle.laws_lines.specs.Halves.{IsHalfOf, IsTransformerOf}
use Rattle.laws_lines.proofs.RowVars.{each_more}
use Rattle.laws_lines.proofs.SystemVars.{IsNeat, AreGiven, neat_over, system_more, meet_neat, push_rows_neat, of_rows_neat, project_neat, rename_neat}
use Rattle.laws_lines.proofs.HullVars.{Any, hull_neat, closure_neat}
use Rattle.laws_lines.proofs.FormVars.{FormOf, compared_given, none_neat, infeasible_neat}
use Rattle.fx_lists.proofs.Numbers.{same_is as nat_same, nat_eq_same}
use Rattle.fx_lists.proofs.Booleans.{clash as clashes}
use Rattle.preconditions.proofs.TransformerAlgebra.HasLaws.{others_in}

-- ---- a transformer over such cells, of tidied rows

pub record IsDone (ok : ℕ → Type 0) (t : Transformer) : Type 0 where
  pub cells : (c : ℕ) → has t.cells c ≡ true → ok c
  pub system : IsNeat (IsHalfOf ok t.cells) t.system

pub done_is : (ok : ℕ → Type 0) (t : Transformer) → IsDone ok t → IsTransformerOf ok t
done_is ok t d = record { cells = d.cells; system = neat_over (IsHalfOf ok t.cells) t.system d.system }

-- more cells may change
pub half_more : (ok : ℕ → Type 0) (cs ds : List ℕ) → ((c : ℕ) → has cs c ≡ true → has ds c ≡ true) → (v : Var) → IsHalfOf ok cs v → IsHalfOf ok ds v
half_more ok cs ds f (Cell n) h = h
half_more ok cs ds f (Exit n) h = f n h
half_more ok cs ds f (Phi n) h = absurd h
half_more ok cs ds f (Aux n) h = absurd h

pub cell_half : (ok : ℕ → Type 0) (cs : List ℕ) (v : Var) → IsCellOf ok v → IsHalfOf ok cs v
cell_half ok cs (Cell n) h = h
cell_half ok cs (Exit n) h = absurd h
cell_half ok cs (Phi n) h = absurd h
cell_half ok cs (Aux n) h = absurd h

pub none_has : (ok : ℕ → Type 0) (c : ℕ) → has [] c ≡ true → ok c
none_has ok c e = clashes false e refl

pub only_has : (ok : ℕ → Type 0) (d c : ℕ) → ok d → has (d ∷ []) c ≡ true → ok c
only_has ok d c h e = go (nat_eq d c) refl e
  where
    go : (b : Bool) → nat_eq d c ≡ b → (b || false) ≡ true → ok c
    go true q k = subst ok (nat_same d c q) h
    go false q k = clashes false k refl

pub head_has : (d : ℕ) (ds : List ℕ) → has (d ∷ ds) d ≡ true
head_has d ds = or_left (nat_eq d d) (has ds d) (nat_eq_same d)

-- ---- those that come from no other

pub test_done : (ok : ℕ → Type 0) (s : System) → IsNeat (IsCellOf ok) s → IsDone ok (test s)
test_done ok s h = record { cells = none_has ok; system = system_more (IsCellOf ok) (IsHalfOf ok []) (cell_half ok []) s h }

pub unchanging_done : (ok : ℕ → Type 0) → IsDone ok identity_transformer
unchanging_done ok = record { cells = none_has ok; system = none_neat (IsHalfOf ok []) }

pub nowhere_done : (ok : ℕ → Type 0) → IsDone ok nowhere
nowhere_done ok = record { cells = none_has ok; system = infeasible_neat (IsHalfOf ok []) }

pub forgotten_done : (ok : ℕ → Type 0) (cs : List ℕ) → ((c : ℕ) → has cs c ≡ true → ok c) → IsDone ok (forgotten cs)
forgotten_done ok cs f = record { cells = λ c e. ⊎_elim (λ i. f c i) (λ i. none_has ok c i) (joined_in cs [] c e); system = none_neat (IsHalfOf ok (joined_cells cs [])) }

-- the exit of a cell is a form
pub exit_neat : (ok : ℕ → Type 0) (c : ℕ) (f : Option Affine) → FormOf (IsCellOf ok) f → IsNeat (IsHalfOf ok (c ∷ [])) (exit_system c f)
exit_neat ok c None h = none_neat (IsHalfOf ok (c ∷ []))
exit_neat ok c (Some f) h =
    let S = IsHalfOf ok (c ∷ []) in
    of_rows_neat S (same_row (var_form (Exit c)) f ∷ [])
    (compared_given S true (var_form (Exit c)) f (f.constant -ℤ pos 0) (head_has c [], tt) (each_more (IsCellOf ok) S (cell_half ok (c ∷ [])) f.terms h.1), tt)

pub assign_done : (ok : ℕ → Type 0) (c : ℕ) (f : Option Affine) → ok c → FormOf (IsCellOf ok) f → IsDone ok (assign c f)
assign_done ok c f k h = record { cells = λ d e. only_has ok c d k e; system = exit_neat ok c f h }

-- ---- one after the other

-- a variable of the first stays, or is one in between
first_named : (n : ℕ) (again cs : List ℕ) (v : Var) → (renamed_by (first_names n again cs) v ≡ v) ⊎ IsOneOf (renamed_by (first_names n again cs) v) (middle n again cs)
first_named n again [] v = inl refl
first_named n again (c ∷ cs) v = go (has again c) (first_named (suc n) again cs v) (first_named n again cs v)
  where
    at : (g : Bool) → (renamed_by (first_names (suc n) again cs) v ≡ v) ⊎ IsOneOf (renamed_by (first_names (suc n) again cs) v) (middle (suc n) again cs)
        → ((if g then Aux n else renamed_by (first_names (suc n) again cs) v) ≡ v) ⊎ IsOneOf (if g then Aux n else renamed_by (first_names (suc n) again cs) v) (Aux n ∷ middle (suc n) again cs)
    at true r = inr (inl refl)
    at false (inl e) = inl e
    at false (inr m) = inr (inr m)

    go : (b : Bool) → (renamed_by (first_names (suc n) again cs) v ≡ v) ⊎ IsOneOf (renamed_by (first_names (suc n) again cs) v) (middle (suc n) again cs)
        → (renamed_by (first_names n again cs) v ≡ v) ⊎ IsOneOf (renamed_by (first_names n again cs) v) (middle n again cs)
        → (renamed_by (if b then naming (Exit c) (Aux n) ∷ first_names (suc n) again cs else first_names n again cs) v ≡ v)
        ⊎ IsOneOf (renamed_by (if b then naming (Exit c) (Aux n) ∷ first_names (suc n) again cs else first_names n again cs) v) (if b then Aux n ∷ middle (suc n) again cs else middle n again cs)
    go true r w = at (var_eq v (Exit c)) r
    go false r w = w

-- one of the second stays, becomes the exit of a cell of the first, or is one in between
abbrev SecondNamed : ℕ → List ℕ → List ℕ → Var → Var → Type 0
SecondNamed n again cs v w = (w ≡ v) ⊎ (((c : ℕ) × (has cs c ≡ true) × (w ≡ Exit c)) ⊎ IsOneOf w (middle n again cs))

second_named : (n : ℕ) (again cs : List ℕ) (v : Var) → SecondNamed n again cs v (renamed_by (second_names n again cs) v)
second_named n again [] v = inl refl
second_named n again (c ∷ cs) v = go (has again c) (second_named (suc n) again cs v) (second_named n again cs v)
  where
    later : (d : ℕ) → has cs d ≡ true → has (c ∷ cs) d ≡ true
    later d e = or_right (nat_eq c d) (has cs d) e

    between : (g : Bool) → SecondNamed (suc n) again cs v (renamed_by (second_names (suc n) again cs) v)
        → (let w : Var = if g then Aux n else renamed_by (second_names (suc n) again cs) v in (w ≡ v) ⊎ (((d : ℕ) × (has (c ∷ cs) d ≡ true) × (w ≡ Exit d)) ⊎ IsOneOf w (Aux n ∷ middle (suc n) again cs)))
    between true r = inr (inr (inl refl))
    between false (inl e) = inl e
    between false (inr (inl d)) = inr (inl (d.0, later d.0 d.1, d.2))
    between false (inr (inr m)) = inr (inr (inr m))

    once : (g : Bool) → SecondNamed n again cs v (renamed_by (second_names n again cs) v)
        → (let w : Var = if g then Exit c else renamed_by (second_names n again cs) v in (w ≡ v) ⊎ (((d : ℕ) × (has (c ∷ cs) d ≡ true) × (w ≡ Exit d)) ⊎ IsOneOf w (middle n again cs)))
    once true r = inr (inl (c, head_has c cs, refl))
    once false (inl e) = inl e
    once false (inr (inl d)) = inr (inl (d.0, later d.0 d.1, d.2))
    once false (inr (inr m)) = inr (inr m)

    go : (b : Bool) → SecondNamed (suc n) again cs v (renamed_by (second_names (suc n) again cs) v) → SecondNamed n again cs v (renamed_by (second_names n again cs) v)
        → (let w : Var = renamed_by (if b then naming (Cell c) (Aux n) ∷ second_names (suc n) again cs else naming (Cell c) (Exit c) ∷ second_names n again cs) v in
        (w ≡ v) ⊎ (((d : ℕ) × (has (c ∷ cs) d ≡ true) × (w ≡ Exit d)) ⊎ IsOneOf w (if b then Aux n ∷ middle (suc n) again cs else middle n again cs)))
    go true r w = between (var_eq v (Cell c)) r
    go false r w = once (var_eq v (Cell c)) w

pub followed_done : (ok : ℕ → Type 0) (a b : Transformer) → IsDone ok a → IsDone ok b → IsDone ok (followed a b)
followed_done ok a b h k = record {
  cells = λ c e. ⊎_elim (λ i. h.cells c i) (λ i. k.cells c i) (joined_in a.cells b.cells c e);
  system = system_more (λ w. S w × (IsOneOf w M → ⊥)) J (λ v p. ⊎_elim (λ i. i) (λ i. absurd (p.1 i)) p.0) (project both M).system (project_neat S both M together);
} where
  n : ℕ
  n = fresh_over a.system b.system

  M : List Var
  M = middle n b.cells a.cells

  J : Var → Type 0
  J = IsHalfOf ok (joined_cells a.cells b.cells)

  S : Var → Type 0
  S w = J w ⊎ IsOneOf w M

  both : System
  both = meet (rename_all (first_names n b.cells a.cells) a.system) (rename_all (second_names n b.cells a.cells) b.system)

  of_first : (v : Var) → IsHalfOf ok a.cells v → S (renamed_by (first_names n b.cells a.cells) v)
  of_first v i = ⊎_elim (λ e. inl (subst J (sym e) (half_more ok a.cells (joined_cells a.cells b.cells) (left_in a.cells b.cells) v i))) (λ m. inr m) (first_named n b.cells a.cells v)

  of_second : (v : Var) → IsHalfOf ok b.cells v → S (renamed_by (second_names n b.cells a.cells) v)
  of_second v i =
      ⊎_elim (λ e. inl (subst J (sym e) (half_more ok b.cells (joined_cells a.cells b.cells) (right_in a.cells b.cells) v i)))
      (λ r. ⊎_elim (λ d. inl (subst J (sym d.2) (left_in a.cells b.cells d.0 d.1))) (λ m. inr m) r)
      (second_named n b.cells a.cells v)

  together : IsNeat S both
  together =
      meet_neat S (rename_all (first_names n b.cells a.cells) a.system) (rename_all (second_names n b.cells a.cells) b.system)
      (rename_neat (IsHalfOf ok a.cells) S (first_names n b.cells a.cells) of_first a.system h.system)
      (rename_neat (IsHalfOf ok b.cells) S (second_names n b.cells a.cells) of_second b.system k.system)

-- ---- what holds before and after

pub without_neat : (such : Var → Type 0) (cs : List ℕ) (s : System) → IsNeat such s → IsNeat such (without cs s)
without_neat such cs s h = system_more (λ w. such w × (IsOneOf w (cell_vars cs) → ⊥)) such (λ v p. p.0) (without cs s) (project_neat such s (cell_vars cs) h)

pub apply_neat : (ok : ℕ → Type 0) (t : Transformer) (s : System) → IsDone ok t → IsNeat (IsCellOf ok) s → IsNeat (IsCellOf ok) (apply t s)
apply_neat ok t s d h =
    let H = IsHalfOf ok t.cells in
    let m = meet t.system s in
    rename_neat H (IsCellOf ok) (to_cells t.cells) become (without t.cells m)
    (without_neat H t.cells m (meet_neat H t.system s d.system (system_more (IsCellOf ok) H (cell_half ok t.cells) s h)))
  where
    become : (v : Var) → IsHalfOf ok t.cells v → IsCellOf ok (renamed_by (to_cells t.cells) v)
    become (Cell n) i = subst (IsCellOf ok) (sym (to_cells_cell t.cells n)) i
    become (Exit n) i = subst (IsCellOf ok) (sym (to_cells_exit t.cells n i)) (d.cells n i)
    become (Phi n) i = absurd i
    become (Aux n) i = absurd i

-- ---- a choice

pub equals_given : (ok : ℕ → Type 0) (cs ds : List ℕ) → ((c : ℕ) → has ds c ≡ true → (has cs c ≡ true) × ok c) → AreGiven (IsHalfOf ok cs) (equals ds)
equals_given ok cs [] f = tt
equals_given ok cs (d ∷ ds) f =
    let k = f d (head_has d ds) in
    (compared_given (IsHalfOf ok cs) true (var_form (Exit d)) (var_form (Cell d)) (pos 0 -ℤ pos 0) (k.0, tt) (k.1, tt), equals_given ok cs ds (λ c e. f c (or_right (nat_eq d c) (has ds c) e)))

pub complete_neat : (ok : ℕ → Type 0) (cs : List ℕ) (t : Transformer) → ((c : ℕ) → has cs c ≡ true → ok c) → ((c : ℕ) → has t.cells c ≡ true → has cs c ≡ true) → IsDone ok t → IsNeat (IsHalfOf ok cs) (complete cs t)
complete_neat ok cs t f g d =
    push_rows_neat (IsHalfOf ok cs) t.system (equals (others cs t.cells)) (system_more (IsHalfOf ok t.cells) (IsHalfOf ok cs) (half_more ok t.cells cs g) t.system d.system)
    (equals_given ok cs (others cs t.cells) (λ c e. let i = others_in cs t.cells c e in (i, f c i)))

abbrev pub AreDone : (ℕ → Type 0) → List Transformer → Type 0
AreDone ok [] = Unit {0}
AreDone ok (t ∷ ts) = IsDone ok t × AreDone ok ts

abbrev HasAll : List ℕ → List Transformer → Type 0
HasAll cs [] = Unit {0}
HasAll cs (t ∷ ts) = ((c : ℕ) → has t.cells c ≡ true → has cs c ≡ true) × HasAll cs ts

from_keeps : (cs : List ℕ) (ts : List Transformer) (c : ℕ) → has cs c ≡ true → has (cells_from cs ts) c ≡ true
from_keeps cs [] c h = h
from_keeps cs (t ∷ ts) c h = from_keeps (joined_cells cs t.cells) ts c (left_in cs t.cells c h)

from_all : (cs : List ℕ) (ts : List Transformer) → HasAll (cells_from cs ts) ts
from_all cs [] = tt
from_all cs (t ∷ ts) = ((λ c h. from_keeps (joined_cells cs t.cells) ts c (right_in cs t.cells c h)), from_all (joined_cells cs t.cells) ts)

from_ok : (ok : ℕ → Type 0) (cs : List ℕ) (ts : List Transformer) → ((c : ℕ) → has cs c ≡ true → ok c) → AreDone ok ts → (c : ℕ) → has (cells_from cs ts) c ≡ true → ok c
from_ok ok cs [] f d c h = f c h
from_ok ok cs (t ∷ ts) f d c h = from_ok ok (joined_cells cs t.cells) ts (λ b e. ⊎_elim (λ i. f b i) (λ i. d.0.cells b i) (joined_in cs t.cells b e)) d.1 c h

arms_neat : (ok : ℕ → Type 0) (cs : List ℕ) (s : System) (ts : List Transformer) → ((c : ℕ) → has cs c ≡ true → ok c) → HasAll cs ts → AreDone ok ts → IsNeat (IsHalfOf ok cs) s → IsNeat (IsHalfOf ok cs) (hull_of_arms cs s ts)
arms_neat ok cs s [] f g d h = h
arms_neat ok cs s (t ∷ ts) f g d h = arms_neat ok cs (hull s (complete cs t)) ts f g.1 d.1 (hull_neat (IsHalfOf ok cs) s (complete cs t) h (complete_neat ok cs t f g.0 d.0))

pub cells_ok : (ok : ℕ → Type 0) (ts : List Transformer) → AreDone ok ts → (c : ℕ) → has (all_cells ts) c ≡ true → ok c
cells_ok ok ts d c h = from_ok ok [] ts (none_has ok) d c h

pub one_of_done : (ok : ℕ → Type 0) (ts : List Transformer) → AreDone ok ts → IsDone ok (one_of ts)
one_of_done ok [] d = nowhere_done ok
one_of_done ok (t ∷ ts) d =
    let cs = all_cells (t ∷ ts) in
    let f = cells_ok ok (t ∷ ts) d in
    let g = from_all [] (t ∷ ts) in
    record { cells = f; system = arms_neat ok cs (complete cs t) ts f g.1 d.1 (complete_neat ok cs t f g.0 d.0) }

-- ---- any number of iterations

pub cell_var_is : (cs : List ℕ) (v : Var) → IsOneOf v (cell_vars cs) → (n : ℕ) × (has cs n ≡ true) × (v ≡ Cell n)
cell_var_is [] v m = absurd m
cell_var_is (c ∷ cs) v (inl e) = (c, head_has c cs, e)
cell_var_is (c ∷ cs) v (inr m) = let r = cell_var_is cs v m in (r.0, or_right (nat_eq c r.0) (has cs r.0) r.1, r.2)

pub iterate_done : (ok : ℕ → Type 0) (t : Transformer) → IsDone ok t → IsDone ok (iterate t)
iterate_done ok t d = record {
  cells = d.cells;
  system = closure_neat H (cell_vars t.cells) t.system (are_cells t.cells) both (system_more H Any (λ v h. tt) t.system d.system);
} where
  H : Var → Type 0
  H = IsHalfOf ok t.cells

  both : (v : Var) → IsOneOf v (cell_vars t.cells) → H v × H (exit_of v)
  both v m =
      let r = cell_var_is t.cells v m in
      subst (λ (w : Var). H w × H (exit_of w)) (sym r.2) (d.cells r.0 r.1, r.1)
