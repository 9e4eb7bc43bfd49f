-- The variables of a system of a region before what a transformer describes, and at a DO.
use Rattle.std.proofs.Common.{◌≡◌, ◌⊎◌, inl, inr, ⊎_elim, ℕ, Bool, true, false, List, [], ◌∷◌, Option, Some, None, ℤ, pos, refl, sym, subst}
use Rattle.std.specs.Prelude.{if◌then◌else◌, ◌-ℤ◌, nat_lt, unsigned_abs}
use Rattle.affine_systems.specs.declared.row.Var.{Var}
use Rattle.affine_systems.specs.declared.row.Var.TheVariants.{Cell, Exit, Phi, Aux}
use Rattle.affine_systems.specs.declared.row.Row.{Row}
use Rattle.affine_systems.specs.declared.row.System.{System}
use Rattle.affine_systems.specs.Terms.{var_eq}
use Rattle.affine_systems.specs.Calls.{meet}
use Rattle.affine_systems.proofs.Basics.{if_cases}
use Rattle.hull_projection.specs.Hull.{at_least_0}
use Rattle.hull_projection.specs.Project.{project}
use Rattle.hull_projection.specs.Laws.{IsOneOf}
use Rattle.preconditions.specs.transformer_algebra.Renaming.{naming, renamed_by, rename_all, push_rows}
use Rattle.affine_forms.specs.declared.affine.Affine.{Affine}
use Rattle.affine_forms.specs.Comparisons.{at_most_row, same_row}
use Rattle.preconditions.specs.transformer_algebra.declared.transformer.Transformer.{Transformer}
use Rattle.preconditions.specs.transformer_algebra.Cells.{has, others}
use Rattle.preconditions.specs.transformer_algebra.Transformers.{identity_transformer, assign, iterate}
use Rattle.preconditions.specs.transformer_algebra.Loops.{within_row, goes_up, if_counted}
use Rattle.preconditions.proofs.TransformerAlgebra.CellLaws.{right_in}
use Rattle.in_out_regions.specs.region_sets.declared.range.Range.{Range}
use Rattle.in_out_regions.specs.region_sets.Naming.{named_cells, to_exits, exit_vars}
use Rattle.in_out_regions.specs.region_sets.Compose.{put_exits, put_or_led, through_transformer, compose_piece}
use Rattle.in_out_regions.specs.region_sets.Loops.{index_form, start_of, step_rows, first_rows, last_rows, counted_rows, range_rows, first_assignment, iterations, iterations_at, at_index, loop_vars, composed_with, through_loop, loop_piece}
use Rattle.in_out_regions.proofs.RegionSets.NameLaws.{named_has, others_has, exit_of_named, cell_of_other, stays_exit, stays_phi, stays_aux}
use Rattle.in_out_regions.proofs.RegionSets.ComposeLaws.{in_exit_vars}
use Rattle.laws_lines.specs.Variables.{EachVar, IsCellOf}
use Rattle.laws_lines.specs.Halves.{IsHalfOf}
use Rattle.laws_lines.proofs.RowVars.{each_more, Given}
use Rattle.laws_lines.proofs.SystemVars.{IsNeat, AreGiven, all-append, given_again, system_more, meet_neat, push_rows_neat, project_neat, rename_neat}
use Rattle.laws_lines.proofs.FormVars.{IsFormOf, FormOf, compared_given}
use Rattle.laws_lines.proofs.RuleVars.{IsDone, unchanging_done, assign_done, followed_done, iterate_done}
use Rattle.laws_lines.specs.Regions.Places.{IsPlaceOf}
use Rattle.laws_lines.proofs.Regions.PutVars.{OrExit, put_neat}

-- ---- exits

or_more : (such : Var → Type 0) (cs ds : List ℕ) → ((c : ℕ) → has cs c ≡ true → has ds c ≡ true) → (v : Var) → OrExit such cs v → OrExit such ds v
or_more such cs ds f v (inl h) = inl h
or_more such cs ds f v (inr d) = inr (d.0, f d.0 d.1, d.2)

renamed_or : (such : Var → Type 0) (cs : List ℕ) (v : Var) → such v → OrExit such cs (renamed_by (to_exits cs) v)
renamed_or such cs (Cell c) h = go (has cs c) refl
  where
    go : (b : Bool) → has cs c ≡ b → OrExit such cs (renamed_by (to_exits cs) (Cell c))
    go true e = inr (c, e, exit_of_named cs c e)
    go false e = inl (subst such (sym (cell_of_other cs c e)) h)
renamed_or such cs (Exit c) h = inl (subst such (sym (stays_exit cs c)) h)
renamed_or such cs (Phi c) h = inl (subst such (sym (stays_phi cs c)) h)
renamed_or such cs (Aux c) h = inl (subst such (sym (stays_aux cs c)) h)

exits_gone : (such : Var → Type 0) (cs : List ℕ) (s : System) → IsNeat (OrExit such cs) s → IsNeat such (project s (exit_vars cs)).system
exits_gone such cs s h =
    system_more (λ w. OrExit such cs w × (IsOneOf w (exit_vars cs) → ⊥)) such left (project s (exit_vars cs)).system (project_neat (OrExit such cs) s (exit_vars cs) h)
  where
    left : (w : Var) → OrExit such cs w × (IsOneOf w (exit_vars cs) → ⊥) → such w
    left w p = ⊎_elim (λ i. i) (λ d. absurd (p.1 (subst (λ v. IsOneOf v (exit_vars cs)) (sym d.2) (in_exit_vars cs d.0 d.1)))) p.0

-- ---- before a transformer

module _ (ok : ℕ → Type 0) (t : Transformer) (done : IsDone ok t) where
  abbrev P : Var → Type 0
  P = IsPlaceOf ok

  half_or : (v : Var) → IsHalfOf ok t.cells v → OrExit P t.cells v
  half_or (Cell n) h = inl h
  half_or (Exit n) h = inr (n, h, refl)
  half_or (Phi n) h = absurd h
  half_or (Aux n) h = absurd h

  all_neat : IsNeat (OrExit P t.cells) t.system
  all_neat = system_more (IsHalfOf ok t.cells) (OrExit P t.cells) half_or t.system done.system

  pub compose_neat : (s : System) → IsNeat P s → IsNeat P (compose_piece t s).system
  compose_neat s h = go (named_cells t.cells s) (λ c k. named_has t.cells s c k)
    where
      renamed : (cs : List ℕ) → IsNeat (OrExit P cs) (rename_all (to_exits cs) s)
      renamed cs = rename_neat P (OrExit P cs) (to_exits cs) (renamed_or P cs) s h

      put : (cs : List ℕ) → ((c : ℕ) → has cs c ≡ true → has t.cells c ≡ true) → (o : Option System) → put_exits cs t.system.rows (rename_all (to_exits cs) s) ≡ o → IsNeat P (put_or_led o cs t s).system
      put cs sub None e =
          exits_gone P t.cells (meet (rename_all (to_exits cs) s) t.system)
          (meet_neat (OrExit P t.cells) (rename_all (to_exits cs) s) t.system (system_more (OrExit P cs) (OrExit P t.cells) (or_more P cs t.cells sub) (rename_all (to_exits cs) s) (renamed cs)) all_neat)
      put cs sub (Some b) e =
          put_neat P cs t.cells t.system.rows (rename_all (to_exits cs) s) b (given_again (OrExit P t.cells) t.system all_neat) (given_again (OrExit P cs) (rename_all (to_exits cs) s) (renamed cs)) e

      go : (cs : List ℕ) → ((c : ℕ) → has cs c ≡ true → has t.cells c ≡ true) → IsNeat P (through_transformer cs t s).system
      go [] sub = h
      go (c ∷ cs) sub = put (c ∷ cs) sub (put_exits (c ∷ cs) t.system.rows (rename_all (to_exits (c ∷ cs)) s)) refl

-- ---- at a DO

-- the parts of a range: forms over such cells, and an iteration
pub record IsRangeOf (ok : ℕ → Type 0) (g : Range) : Type 0 where
  pub first : FormOf (IsCellOf ok) g.first
  pub last : FormOf (IsCellOf ok) g.last
  pub turn : IsDone ok g.turn

module _ (ok : ℕ → Type 0) (g : Range) (range : IsRangeOf ok g) where
  -- such a place, or the index of an iteration, or the number of those before it
  abbrev S : Var → Type 0
  S v = IsPlaceOf ok v ⊎ IsOneOf v loop_vars

  cell_s : (v : Var) → IsCellOf ok v → S v
  cell_s (Cell n) h = inl h
  cell_s (Exit n) h = absurd h
  cell_s (Phi n) h = absurd h
  cell_s (Aux n) h = absurd h

  form_s : (f : Affine) → IsFormOf (IsCellOf ok) f → EachVar S f.terms
  form_s f h = each_more (IsCellOf ok) S cell_s f.terms h.1

  index_s : EachVar S index_form.terms
  index_s = (inr (inl refl), tt)

  within_s : (s : ℤ) (f h : Affine) → EachVar S f.terms → EachVar S h.terms → Given S (within_row s f h)
  within_s s f h i j =
      if_cases (Given S) (goes_up s) (at_most_row f h) (at_most_row h f) (λ e. compared_given S false f h (h.constant -ℤ f.constant) i j) (λ e. compared_given S false h f (f.constant -ℤ h.constant) j i)

  step_s : (s : ℤ) (f : Affine) → IsFormOf (IsCellOf ok) f → AreGiven S (step_rows s f)
  step_s s f h =
      if_cases (AreGiven S) (nat_lt 1 (unsigned_abs s)) (same_row (start_of s) f ∷ (at_least_0 (Aux 1) ∷ [])) []
      (λ e. (compared_given S true (start_of s) f (f.constant -ℤ pos 0) (inr (inl refl), (inr (inr (inl refl)), tt)) (form_s f h), (((refl, tt, tt), (inr (inr (inl refl)), tt)), tt))) (λ e. tt)

  first_s : (s : ℤ) (f : Option Affine) → FormOf (IsCellOf ok) f → AreGiven S (first_rows s f)
  first_s s None h = tt
  first_s s (Some f) h = (within_s s f index_form (form_s f h) index_s, step_s s f h)

  last_s : (s : ℤ) (f : Option Affine) → FormOf (IsCellOf ok) f → AreGiven S (last_rows s f)
  last_s s None h = tt
  last_s s (Some f) h = (within_s s index_form f index_s (form_s f h), tt)

  counted_s : (s : Option ℤ) → AreGiven S (counted_rows s g.first g.last)
  counted_s None = tt
  counted_s (Some s) = all-append (Given S) (first_rows s g.first) (last_rows s g.last) (first_s s g.first range.first) (last_s s g.last range.last)

  first_done : IsDone ok (first_assignment g)
  first_done = go (has g.turn.cells g.index) refl
    where
      form : (s : Option ℤ) → FormOf (IsCellOf ok) (if_counted s g.first)
      form None = tt
      form (Some s) = range.first

      go : (b : Bool) → has g.turn.cells g.index ≡ b → IsDone ok (if b then assign g.index (if_counted g.step g.first) else identity_transformer)
      go true e = assign_done ok g.index (if_counted g.step g.first) (range.turn.cells g.index e) (form g.step)
      go false e = unchanging_done ok

  all_done : IsDone ok (iterations g)
  all_done = followed_done ok (first_assignment g) (iterate g.turn) first_done (iterate_done ok g.turn range.turn)

  at_iteration : (v : Var) → IsHalfOf ok (iterations g).cells v → OrExit S (iterations g).cells (renamed_by (naming (Exit g.index) (Aux 0) ∷ []) v)
  at_iteration v h = go (var_eq v (Exit g.index))
    where
      half : (w : Var) → IsHalfOf ok (iterations g).cells w → OrExit S (iterations g).cells w
      half (Cell n) i = inl (inl i)
      half (Exit n) i = inr (n, i, refl)
      half (Phi n) i = absurd i
      half (Aux n) i = absurd i

      go : (b : Bool) → OrExit S (iterations g).cells (if b then Aux 0 else v)
      go true = inl (inr (inl refl))
      go false = half v h

  iterations_s : IsNeat (OrExit S (iterations g).cells) (iterations_at g)
  iterations_s = rename_neat (IsHalfOf ok (iterations g).cells) (OrExit S (iterations g).cells) (naming (Exit g.index) (Aux 0) ∷ []) at_iteration (iterations g).system all_done.system

  indexed_s : (s : System) → IsNeat (IsPlaceOf ok) s → IsNeat S (at_index g.index s)
  indexed_s s h = rename_neat (IsPlaceOf ok) S (naming (Cell g.index) (Aux 0) ∷ []) one s h
    where
      one : (v : Var) → IsPlaceOf ok v → S (renamed_by (naming (Cell g.index) (Aux 0) ∷ []) v)
      one v i = go (var_eq v (Cell g.index))
        where
          go : (b : Bool) → S (if b then Aux 0 else v)
          go true = inr (inl refl)
          go false = inl i

  loop_gone : (s : System) → IsNeat S s → IsNeat (IsPlaceOf ok) (project s loop_vars).system
  loop_gone s h =
      system_more (λ w. S w × (IsOneOf w loop_vars → ⊥)) (IsPlaceOf ok) (λ w p. ⊎_elim (λ i. i) (λ i. absurd (p.1 i)) p.0) (project s loop_vars).system (project_neat S s loop_vars h)

  led_s : (cs : List ℕ) (s : System) → ((c : ℕ) → has cs c ≡ true → has (iterations g).cells c ≡ true) → IsNeat (IsPlaceOf ok) s → IsNeat S (composed_with cs g s)
  led_s cs s sub h =
      let all = (iterations g).cells in
      let T = OrExit S all in
      let named = rename_all (to_exits cs) (at_index g.index s) in
      let within = push_rows named (range_rows g) in
      let here = system_more (OrExit S cs) T (or_more S cs all sub) named (rename_neat S (OrExit S cs) (to_exits cs) (renamed_or S cs) (at_index g.index s) (indexed_s s h)) in
      exits_gone S all (meet within (iterations_at g)) (meet_neat T within (iterations_at g) (push_rows_neat T named (range_rows g) here (rows_more (range_rows g) (counted_s g.step))) iterations_s)
    where
      rows_more : (rs : List Row) → AreGiven S rs → AreGiven (OrExit S (iterations g).cells) rs
      rows_more [] k = tt
      rows_more (r ∷ rs) k = ((k.0.0, each_more S (OrExit S (iterations g).cells) (λ v i. inl i) r.terms k.0.1), rows_more rs k.1)

  pub loop_neat : (s : System) → IsNeat (IsPlaceOf ok) s → IsNeat (IsPlaceOf ok) (loop_piece g s).system
  loop_neat s h = go (named_cells (others g.turn.cells (g.index ∷ [])) s) (λ c k. named_has (others g.turn.cells (g.index ∷ [])) s c k)
    where
      go : (cs : List ℕ) → ((c : ℕ) → has cs c ≡ true → has (others g.turn.cells (g.index ∷ [])) c ≡ true) → IsNeat (IsPlaceOf ok) (through_loop cs g s).system
      go [] sub = loop_gone (push_rows (at_index g.index s) (range_rows g)) (push_rows_neat S (at_index g.index s) (range_rows g) (indexed_s s h) (counted_s g.step))
      go (c ∷ cs) sub =
          loop_gone (composed_with (c ∷ cs) g s)
          (led_s (c ∷ cs) s (λ d k. right_in (first_assignment g).cells g.turn.cells d (others_has g.index g.turn.cells d (sub d k)).0) h)
