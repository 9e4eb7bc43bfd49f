-- The variables of the rules of a DO.
use Rattle.std.proofs.Common.{◌≡◌, ⊎_elim, ℕ, Bool, true, false, List, [], ◌∷◌, ◌++◌, Option, Some, None, ℤ, pos, refl}
use Rattle.std.specs.Prelude.{if◌then◌else◌, ◌-ℤ◌}
use Rattle.affine_systems.specs.declared.row.Var.{Var}
use Rattle.affine_systems.specs.declared.row.Var.TheVariants.{Cell, Exit}
use Rattle.affine_systems.specs.declared.row.Row.{Row}
use Rattle.affine_systems.specs.declared.row.System.{System}
use Rattle.affine_systems.proofs.Basics.{if_cases}
use Rattle.preconditions.specs.transformer_algebra.Renaming.{push_rows}
use Rattle.affine_forms.specs.declared.affine.Affine.{Affine}
use Rattle.affine_forms.specs.Comparisons.{at_most_row, below_row, var_form}
use Rattle.affine_forms.specs.Conditions.{no_rows}
use Rattle.preconditions.specs.transformer_algebra.declared.transformer.Transformer.{Transformer}
use Rattle.preconditions.specs.transformer_algebra.declared.loop_parts.LoopParts.{LoopParts}
use Rattle.preconditions.specs.transformer_algebra.Cells.{has, others}
use Rattle.preconditions.specs.transformer_algebra.Transformers.{exit_system, followed, apply, equals, iterate}
use Rattle.preconditions.specs.transformer_algebra.Loops.{own_cells, index_becomes, if_counted, stepped, start_form, next_form, start, next, goes_up, within_rows, beyond_rows, index_form, guard, unguard, inside, beyond_last, with_rows, iteration, zero_iterations, first_iterations, some_iterations, counted_by, loop_transformer, stays, if_stays, before_iterations, iteration_by, at_iteration, end_by, after_loop}
use Rattle.preconditions.proofs.TransformerAlgebra.CellLaws.{right_in, joined_in}
use Rattle.laws_lines.specs.Variables.{IsCellOf}
use Rattle.laws_lines.specs.Halves.{IsHalfOf}
use Rattle.laws_lines.proofs.RowVars.{each_more, Given}
use Rattle.laws_lines.proofs.SystemVars.{IsNeat, AreGiven, all-append, system_more, push_rows_neat, clean_neat}
use Rattle.laws_lines.proofs.HullVars.{hull_neat}
use Rattle.laws_lines.proofs.FormVars.{FormOf, var_of, compared_given, none_neat}
use Rattle.laws_lines.proofs.RuleVars.{IsDone, head_has, half_more, cell_half, unchanging_done, assign_done, followed_done, without_neat, apply_neat, equals_given, iterate_done}
use Rattle.fx_lists.proofs.Booleans.{clash as clashes}
use Rattle.preconditions.proofs.TransformerAlgebra.HasLaws.{others_in}

-- the parts of a DO: a tracked index is such a cell, and its forms are over such cells
pub record IsLoopOf (ok : ℕ → Type 0) (l : LoopParts) : Type 0 where
  pub index : l.tracked ≡ true → ok l.index
  pub first : FormOf (IsCellOf ok) l.first
  pub last : FormOf (IsCellOf ok) l.last
  pub body : IsDone ok l.body

-- ---- the index

becomes_done : (ok : ℕ → Type 0) (l : LoopParts) (f : Option Affine) → (l.tracked ≡ true → ok l.index) → FormOf (IsCellOf ok) f → IsDone ok (index_becomes l f)
becomes_done ok l f k h = go l.tracked k
  where
    go : (b : Bool) → (b ≡ true → ok l.index) → IsDone ok (record { cells = if b then l.index ∷ [] else []; foreign = []; system = if b then exit_system l.index f else no_rows })
    go true i = let d = assign_done ok l.index f (i refl) h in record { cells = d.cells; system = d.system }
    go false i = let d = unchanging_done ok in record { cells = d.cells; system = d.system }

counted_form : (such : Var → Type 0) (s : Option ℤ) (f : Option Affine) → FormOf such f → FormOf such (if_counted s f)
counted_form such None f h = tt
counted_form such (Some s) f h = h

start_done : (ok : ℕ → Type 0) (l : LoopParts) → IsLoopOf ok l → IsDone ok (start l)
start_done ok l p = becomes_done ok l (start_form l) p.index (counted_form (IsCellOf ok) l.step l.first p.first)

next_done : (ok : ℕ → Type 0) (l : LoopParts) → IsLoopOf ok l → IsDone ok (next l)
next_done ok l p = go l.tracked refl
  where
    step_form : ok l.index → (s : Option ℤ) → FormOf (IsCellOf ok) (stepped l.index s)
    step_form i None = tt
    step_form i (Some s) = ((refl, tt, tt), (i, tt))

    go : (b : Bool) → l.tracked ≡ b → IsDone ok (record { cells = if b then l.index ∷ [] else []; foreign = []; system = if b then exit_system l.index (next_form l) else no_rows })
    go true e = let d = assign_done ok l.index (next_form l) (p.index e) (step_form (p.index e) l.step) in record { cells = d.cells; system = d.system }
    go false e = let d = unchanging_done ok in record { cells = d.cells; system = d.system }

pub iteration_done : (ok : ℕ → Type 0) (l : LoopParts) → IsLoopOf ok l → IsDone ok (iteration l)
iteration_done ok l p = followed_done ok l.body (next l) p.body (next_done ok l p)

-- ---- the range

within_given : (such : Var → Type 0) (s : Option ℤ) (f g : Option Affine) → FormOf such f → FormOf such g → AreGiven such (within_rows s f g)
within_given such (Some s) (Some f) (Some g) h i = (
  if_cases (Given such) (goes_up s) (at_most_row f g) (at_most_row g f)
      (λ e. compared_given such false f g (g.constant -ℤ f.constant) h.1 i.1)
      (λ e. compared_given such false g f (f.constant -ℤ g.constant) i.1 h.1),
  tt,
)
within_given such (Some s) (Some f) None h i = tt
within_given such (Some s) None g h i = tt
within_given such None f g h i = tt

beyond_given : (such : Var → Type 0) (s : Option ℤ) (f g : Option Affine) → FormOf such f → FormOf such g → AreGiven such (beyond_rows s f g)
beyond_given such (Some s) (Some f) (Some g) h i = (
  if_cases (Given such) (goes_up s) (below_row g f) (below_row f g)
      (λ e. compared_given such false g f ((f.constant -ℤ g.constant) -ℤ pos 1) i.1 h.1)
      (λ e. compared_given such false f g ((g.constant -ℤ f.constant) -ℤ pos 1) h.1 i.1),
  tt,
)
beyond_given such (Some s) (Some f) None h i = tt
beyond_given such (Some s) None g h i = tt
beyond_given such None f g h i = tt

index_over : (such : Var → Type 0) (l : LoopParts) (v : Var) → (l.tracked ≡ true → such v) → FormOf such (index_form l v)
index_over such l v f = go l.tracked f
  where
    go : (b : Bool) → (b ≡ true → such v) → FormOf such (if b then Some (var_form v) else None)
    go true g = var_of such v (g refl)
    go false g = tt

form_half : (ok : ℕ → Type 0) (cs : List ℕ) (f : Option Affine) → FormOf (IsCellOf ok) f → FormOf (IsHalfOf ok cs) f
form_half ok cs None h = tt
form_half ok cs (Some f) h = (h.0, each_more (IsCellOf ok) (IsHalfOf ok cs) (cell_half ok cs) f.terms h.1)

guard_given : (ok : ℕ → Type 0) (cs : List ℕ) (l : LoopParts) → IsLoopOf ok l → AreGiven (IsHalfOf ok cs) (guard l)
guard_given ok cs l p = within_given (IsHalfOf ok cs) l.step l.first l.last (form_half ok cs l.first p.first) (form_half ok cs l.last p.last)

unguard_given : (ok : ℕ → Type 0) (cs : List ℕ) (l : LoopParts) → IsLoopOf ok l → AreGiven (IsHalfOf ok cs) (unguard l)
unguard_given ok cs l p = beyond_given (IsHalfOf ok cs) l.step l.first l.last (form_half ok cs l.first p.first) (form_half ok cs l.last p.last)

-- with rows over the same variables
with_done : (ok : ℕ → Type 0) (t : Transformer) (rs : List Row) → IsDone ok t → AreGiven (IsHalfOf ok t.cells) rs → IsDone ok (with_rows t rs)
with_done ok t rs d g = record { cells = d.cells; system = push_rows_neat (IsHalfOf ok t.cells) t.system rs d.system g }

-- ---- the transformer

-- the index is one of the cells that an iteration changes
own_has : (l : LoopParts) → l.tracked ≡ true → has (own_cells l) l.index ≡ true
own_has l e = go l.tracked e
  where
    go : (b : Bool) → b ≡ true → has (if b then l.index ∷ [] else []) l.index ≡ true
    go true k = head_has l.index []
    go false k = clashes false k refl

index_changes : (l : LoopParts) → l.tracked ≡ true → has (iteration l).cells l.index ≡ true
index_changes l e = right_in l.body.cells (own_cells l) l.index (own_has l e)

own_more : (l : LoopParts) (c : ℕ) → has (own_cells l) c ≡ true → has (iteration l).cells c ≡ true
own_more l c h = right_in l.body.cells (own_cells l) c h

zero_neat : (ok : ℕ → Type 0) (l : LoopParts) → IsLoopOf ok l → IsNeat (IsHalfOf ok (iteration l).cells) (zero_iterations l (iteration l))
zero_neat ok l p =
    let cs = (iteration l).cells in
    let H = IsHalfOf ok cs in
    push_rows_neat H (start l).system (unguard l ++ equals (others cs (start l).cells))
    (system_more (IsHalfOf ok (start l).cells) H (half_more ok (start l).cells cs (own_more l)) (start l).system (start_done ok l p).system)
    (all-append (Given H) (unguard l) (equals (others cs (start l).cells)) (unguard_given ok cs l p)
    (equals_given ok cs (others cs (start l).cells) (λ c e. let i = others_in cs (start l).cells c e in (i, (iteration_done ok l p).cells c i))))

first_done : (ok : ℕ → Type 0) (l : LoopParts) → IsLoopOf ok l → IsDone ok (first_iterations l (iteration l))
first_done ok l p =
    let begun = with_done ok (start l) (guard l) (start_done ok l p) (guard_given ok (start l).cells l p) in
    let t = followed (with_rows (start l) (guard l)) (iterate (iteration l)) in
    let d = followed_done ok (with_rows (start l) (guard l)) (iterate (iteration l)) begun (iterate_done ok (iteration l) (iteration_done ok l p)) in
    with_done ok t (inside l (Exit l.index)) d
    (within_given (IsHalfOf ok t.cells) l.step (index_form l (Exit l.index)) l.last
    (index_over (IsHalfOf ok t.cells) l (Exit l.index) (λ e. right_in (start l).cells (iteration l).cells l.index (index_changes l e)))
    (form_half ok t.cells l.last p.last))

some_done : (ok : ℕ → Type 0) (l : LoopParts) → IsLoopOf ok l → IsDone ok (some_iterations l (iteration l))
some_done ok l p =
    let f = first_iterations l (iteration l) in
    let t = followed f (iteration l) in
    let d = followed_done ok f (iteration l) (first_done ok l p) (iteration_done ok l p) in
    with_done ok t (beyond_last l (Exit l.index)) d
    (beyond_given (IsHalfOf ok t.cells) l.step (index_form l (Exit l.index)) l.last
    (index_over (IsHalfOf ok t.cells) l (Exit l.index) (λ e. right_in f.cells (iteration l).cells l.index (index_changes l e)))
    (form_half ok t.cells l.last p.last))

-- the cells of all of it are those of an iteration
some_cells : (l : LoopParts) (c : ℕ) → has (some_iterations l (iteration l)).cells c ≡ true → has (iteration l).cells c ≡ true
some_cells l c h =
    ⊎_elim
    (λ i. ⊎_elim (λ j. own_more l c j) (λ j. j) (joined_in (start l).cells (iteration l).cells c i))
    (λ i. i)
    (joined_in (first_iterations l (iteration l)).cells (iteration l).cells c h)

pub loop_done : (ok : ℕ → Type 0) (l : LoopParts) → IsLoopOf ok l → IsDone ok (loop_transformer l (iteration l))
loop_done ok l p = record { cells = (iteration_done ok l p).cells; system = go l.step }
  where
    H : Var → Type 0
    H = IsHalfOf ok (iteration l).cells

    some : System
    some = (some_iterations l (iteration l)).system

    go : (s : Option ℤ) → IsNeat H (counted_by s l (iteration l))
    go None = none_neat H
    go (Some s) =
        hull_neat H (zero_iterations l (iteration l)) some (zero_neat ok l p)
        (system_more (IsHalfOf ok (some_iterations l (iteration l)).cells) H (half_more ok (some_iterations l (iteration l)).cells (iteration l).cells (some_cells l)) some (some_done ok l p).system)

-- ---- what holds

stays_neat : (such : Var → Type 0) (l : LoopParts) (t : Transformer) (s : System) (rs : List Row) → IsNeat such s → AreGiven such rs → IsNeat such (if_stays l t s rs)
stays_neat such l t s rs h g = if_cases (IsNeat such) (stays t.cells l.last) (push_rows s rs) s (λ e. push_rows_neat such s rs h g) (λ e. h)

cell_guard : (ok : ℕ → Type 0) (l : LoopParts) → IsLoopOf ok l → AreGiven (IsCellOf ok) (guard l)
cell_guard ok l p = within_given (IsCellOf ok) l.step l.first l.last p.first p.last

cell_unguard : (ok : ℕ → Type 0) (l : LoopParts) → IsLoopOf ok l → AreGiven (IsCellOf ok) (unguard l)
cell_unguard ok l p = beyond_given (IsCellOf ok) l.step l.first l.last p.first p.last

pub iteration_neat : (ok : ℕ → Type 0) (l : LoopParts) (s : System) → IsLoopOf ok l → IsNeat (IsCellOf ok) s → IsNeat (IsCellOf ok) (at_iteration l (iteration l) s)
iteration_neat ok l s p h = go l.step
  where
    C : Var → Type 0
    C = IsCellOf ok

    t : Transformer
    t = iteration l

    d : IsDone ok (iteration l)
    d = iteration_done ok l p

    before : IsNeat C (before_iterations l s)
    before = apply_neat ok (start l) (push_rows s (guard l)) (start_done ok l p) (push_rows_neat C s (guard l) h (cell_guard ok l p))

    go : (n : Option ℤ) → IsNeat C (iteration_by n l (iteration l) s)
    go None = without_neat C t.cells s h
    go (Some n) =
        let held = apply (iterate t) (before_iterations l s) in
        clean_neat C (if_stays l t held (inside l (Cell l.index)))
        (stays_neat C l t held (inside l (Cell l.index)) (apply_neat ok (iterate t) (before_iterations l s) (iterate_done ok t d) before)
        (within_given C l.step (index_form l (Cell l.index)) l.last (index_over C l (Cell l.index) p.index) p.last))

pub after_neat : (ok : ℕ → Type 0) (l : LoopParts) (s q : System) → IsLoopOf ok l → IsNeat (IsCellOf ok) s → IsNeat (IsCellOf ok) q → IsNeat (IsCellOf ok) (after_loop l (iteration l) s q)
after_neat ok l s q p h k = go l.step
  where
    C : Var → Type 0
    C = IsCellOf ok

    t : Transformer
    t = iteration l

    go : (n : Option ℤ) → IsNeat C (end_by n l (iteration l) s q)
    go None = without_neat C t.cells s h
    go (Some n) =
        let none = apply (start l) (push_rows s (unguard l)) in
        let last = apply (next l) q in
        hull_neat C none (if_stays l t last (beyond_last l (Cell l.index)))
        (apply_neat ok (start l) (push_rows s (unguard l)) (start_done ok l p) (push_rows_neat C s (unguard l) h (cell_unguard ok l p)))
        (stays_neat C l t last (beyond_last l (Cell l.index)) (apply_neat ok (next l) q (next_done ok l p) k)
        (beyond_given C l.step (index_form l (Cell l.index)) l.last (index_over C l (Cell l.index) p.index) p.last))
