-- Systems that name no subscripts beyond a number: what the rules make of them.
use Rattle.std.proofs.Common.{◌≡◌, inl, ℕ, ◌<◌, ◌≤◌, Bool, true, false, List, [], ◌∷◌, Option, Some, None, pos, refl}
use Rattle.std.specs.Prelude.{if◌then◌else◌, ◌-ℤ◌, ℤ, nat_lt, unsigned_abs}
use Rattle.affine_systems.specs.declared.row.Var.{Var}
use Rattle.affine_systems.specs.declared.row.Var.TheVariants.{Cell, Exit, Phi, Aux}
use Rattle.affine_systems.specs.declared.row.Row.{Row}
use Rattle.affine_systems.specs.declared.row.System.{System}
use Rattle.affine_systems.specs.Terms.{var_eq}
use Rattle.affine_systems.specs.Calls.{meet}
use Rattle.affine_systems.proofs.Basics.{if_cases}
use Rattle.hull_projection.specs.Hull.{at_least_0}
use Rattle.hull_projection.specs.Project.{project}
use Rattle.hull_projection.specs.Laws.{IsOneOf}
use Rattle.preconditions.specs.transformer_algebra.Renaming.{naming, renamed_by, rename_all, push_rows}
use Rattle.affine_forms.specs.declared.affine.Affine.{Affine}
use Rattle.affine_forms.specs.Comparisons.{at_most_row, same_row}
use Rattle.preconditions.specs.transformer_algebra.declared.transformer.Transformer.{Transformer}
use Rattle.preconditions.specs.transformer_algebra.Cells.{has, others}
use Rattle.preconditions.specs.transformer_algebra.Transformers.{identity_transformer, assign, iterate}
use Rattle.preconditions.specs.transformer_algebra.Loops.{within_row, goes_up, if_counted}
use Rattle.in_out_regions.specs.region_sets.declared.range.Range.{Range}
use Rattle.in_out_regions.specs.region_sets.Naming.{named_cells, to_exits, exit_vars}
use Rattle.in_out_regions.specs.region_sets.Compose.{put_exits, put_or_led, through_transformer, compose_piece}
use Rattle.in_out_regions.specs.region_sets.Loops.{index_form, start_of, step_rows, first_rows, last_rows, counted_rows, range_rows, first_assignment, iterations, iterations_at, at_index, loop_vars, composed_with, through_loop, loop_piece}
use Rattle.laws_lines.specs.Variables.{EachVar, IsCellOf}
use Rattle.laws_lines.specs.Halves.{IsHalfOf}
use Rattle.laws_lines.proofs.RowVars.{each_more, Given}
use Rattle.laws_lines.proofs.SystemVars.{IsNeat, AreGiven, all-append, given_again, system_more, meet_neat, push_rows_neat, project_neat, rename_neat}
use Rattle.laws_lines.proofs.FormVars.{IsFormOf, FormOf, compared_given}
use Rattle.laws_lines.proofs.RuleVars.{IsDone, unchanging_done, assign_done, followed_done, iterate_done}
use Rattle.laws_lines.proofs.Regions.PutVars.{OrExit, put_neat}
use Rattle.elimination.proofs.ClosedLaws.{rows_weaker as all_more}
use Rattle.fx_lists.proofs.Every.{Anything}

-- a subscript is one of the first n
abbrev pub Upto : ℕ → Var → Type 0
Upto n (Cell c) = Unit {0}
Upto n (Exit c) = Unit {0}
Upto n (Phi i) = (0 < i) × (i ≤ n)
Upto n (Aux i) = Unit {0}

abbrev pub IsUpto : ℕ → System → Type 0
IsUpto n s = IsNeat (Upto n) s

pub cell_upto : (n : ℕ) (v : Var) → IsCellOf Anything v → Upto n v
cell_upto n (Cell c) h = tt
cell_upto n (Exit c) h = absurd h
cell_upto n (Phi c) h = absurd h
cell_upto n (Aux c) h = absurd h

half_upto : (n : ℕ) (cs : List ℕ) (v : Var) → IsHalfOf Anything cs v → Upto n v
half_upto n cs (Cell c) h = tt
half_upto n cs (Exit c) h = tt
half_upto n cs (Phi c) h = absurd h
half_upto n cs (Aux c) h = absurd h

done_upto : (n : ℕ) (t : Transformer) → IsDone Anything t → IsUpto n t.system
done_upto n t d = system_more (IsHalfOf Anything t.cells) (Upto n) (half_upto n t.cells) t.system d.system

exits_upto : (n : ℕ) (cs : List ℕ) (v : Var) → Upto n v → Upto n (renamed_by (to_exits cs) v)
exits_upto n [] v h = h
exits_upto n (c ∷ cs) v h = go (var_eq v (Cell c)) (exits_upto n cs v h)
  where
    go : (b : Bool) → Upto n (renamed_by (to_exits cs) v) → Upto n (if b then Exit c else renamed_by (to_exits cs) v)
    go true ih = tt
    go false ih = ih

pub project_upto : (n : ℕ) (s : System) (vs : List Var) → IsUpto n s → IsUpto n (project s vs).system
project_upto n s vs h = system_more (λ w. Upto n w × (IsOneOf w vs → ⊥)) (Upto n) (λ w p. p.0) (project s vs).system (project_neat (Upto n) s vs h)

given_or : (n : ℕ) (cs : List ℕ) (rs : List Row) → AreGiven (Upto n) rs → AreGiven (OrExit (Upto n) cs) rs
given_or n cs rs h = all_more (Given (Upto n)) (Given (OrExit (Upto n) cs)) (λ r k. (k.0, each_more (Upto n) (OrExit (Upto n) cs) (λ v i. inl i) r.terms k.1)) rs h

-- ---- before a transformer

module _ (n : ℕ) (t : Transformer) (done : IsDone Anything t) where
  pub compose_upto : (s : System) → IsUpto n s → IsUpto n (compose_piece t s).system
  compose_upto s h = go (named_cells t.cells s)
    where
      renamed : (cs : List ℕ) → IsUpto n (rename_all (to_exits cs) s)
      renamed cs = rename_neat (Upto n) (Upto n) (to_exits cs) (exits_upto n cs) s h

      put : (cs : List ℕ) (o : Option System) → put_exits cs t.system.rows (rename_all (to_exits cs) s) ≡ o → IsUpto n (put_or_led o cs t s).system
      put cs None e = project_upto n (meet (rename_all (to_exits cs) s) t.system) (exit_vars t.cells) (meet_neat (Upto n) (rename_all (to_exits cs) s) t.system (renamed cs) (done_upto n t done))
      put cs (Some b) e =
          put_neat (Upto n) cs t.cells t.system.rows (rename_all (to_exits cs) s) b (given_or n t.cells t.system.rows (given_again (Upto n) t.system (done_upto n t done)))
          (given_or n cs (rename_all (to_exits cs) s).rows (given_again (Upto n) (rename_all (to_exits cs) s) (renamed cs))) e

      go : (cs : List ℕ) → IsUpto n (through_transformer cs t s).system
      go [] = h
      go (c ∷ cs) = put (c ∷ cs) (put_exits (c ∷ cs) t.system.rows (rename_all (to_exits (c ∷ cs)) s)) refl

-- ---- at a DO

pub record IsRangeOver (g : Range) : Type 0 where
  pub first : FormOf (IsCellOf Anything) g.first
  pub last : FormOf (IsCellOf Anything) g.last
  pub turn : IsDone Anything g.turn

module _ (n : ℕ) (g : Range) (range : IsRangeOver g) where
  form_s : (f : Affine) → IsFormOf (IsCellOf Anything) f → EachVar (Upto n) f.terms
  form_s f h = each_more (IsCellOf Anything) (Upto n) (cell_upto n) f.terms h.1

  within_s : (s : ℤ) (f h : Affine) → EachVar (Upto n) f.terms → EachVar (Upto n) h.terms → Given (Upto n) (within_row s f h)
  within_s s f h i j =
      if_cases (Given (Upto n)) (goes_up s) (at_most_row f h) (at_most_row h f) (λ e. compared_given (Upto n) false f h (h.constant -ℤ f.constant) i j) (λ e. compared_given (Upto n) false h f (f.constant -ℤ h.constant) j i)

  step_s : (s : ℤ) (f : Affine) → IsFormOf (IsCellOf Anything) f → AreGiven (Upto n) (step_rows s f)
  step_s s f h =
      if_cases (AreGiven (Upto n)) (nat_lt 1 (unsigned_abs s)) (same_row (start_of s) f ∷ (at_least_0 (Aux 1) ∷ [])) []
      (λ e. (compared_given (Upto n) true (start_of s) f (f.constant -ℤ pos 0) (tt, (tt, tt)) (form_s f h), (((refl, tt, tt), (tt, tt)), tt))) (λ e. tt)

  first_s : (s : ℤ) (f : Option Affine) → FormOf (IsCellOf Anything) f → AreGiven (Upto n) (first_rows s f)
  first_s s None h = tt
  first_s s (Some f) h = (within_s s f index_form (form_s f h) (tt, tt), step_s s f h)

  last_s : (s : ℤ) (f : Option Affine) → FormOf (IsCellOf Anything) f → AreGiven (Upto n) (last_rows s f)
  last_s s None h = tt
  last_s s (Some f) h = (within_s s index_form f (tt, tt) (form_s f h), tt)

  counted_s : (s : Option ℤ) → AreGiven (Upto n) (counted_rows s g.first g.last)
  counted_s None = tt
  counted_s (Some s) = all-append (Given (Upto n)) (first_rows s g.first) (last_rows s g.last) (first_s s g.first range.first) (last_s s g.last range.last)

  first_done : IsDone Anything (first_assignment g)
  first_done = go (has g.turn.cells g.index)
    where
      form : (s : Option ℤ) → FormOf (IsCellOf Anything) (if_counted s g.first)
      form None = tt
      form (Some s) = range.first

      go : (b : Bool) → IsDone Anything (if b then assign g.index (if_counted g.step g.first) else identity_transformer)
      go true = assign_done Anything g.index (if_counted g.step g.first) tt (form g.step)
      go false = unchanging_done Anything

  all_done : IsDone Anything (iterations g)
  all_done = followed_done Anything (first_assignment g) (iterate g.turn) first_done (iterate_done Anything g.turn range.turn)

  iterations_s : IsUpto n (iterations_at g)
  iterations_s = rename_neat (IsHalfOf Anything (iterations g).cells) (Upto n) (naming (Exit g.index) (Aux 0) ∷ []) one (iterations g).system all_done.system
    where
      one : (v : Var) → IsHalfOf Anything (iterations g).cells v → Upto n (renamed_by (naming (Exit g.index) (Aux 0) ∷ []) v)
      one v h = go (var_eq v (Exit g.index))
        where
          go : (b : Bool) → Upto n (if b then Aux 0 else v)
          go true = tt
          go false = half_upto n (iterations g).cells v h

  indexed_s : (s : System) → IsUpto n s → IsUpto n (at_index g.index s)
  indexed_s s h = rename_neat (Upto n) (Upto n) (naming (Cell g.index) (Aux 0) ∷ []) one s h
    where
      one : (v : Var) → Upto n v → Upto n (renamed_by (naming (Cell g.index) (Aux 0) ∷ []) v)
      one v i = go (var_eq v (Cell g.index))
        where
          go : (b : Bool) → Upto n (if b then Aux 0 else v)
          go true = tt
          go false = i

  led_s : (cs : List ℕ) (s : System) → IsUpto n s → IsUpto n (composed_with cs g s)
  led_s cs s h =
      let named = rename_all (to_exits cs) (at_index g.index s) in
      let within = push_rows named (range_rows g) in
      project_upto n (meet within (iterations_at g)) (exit_vars (iterations g).cells)
      (meet_neat (Upto n) within (iterations_at g) (push_rows_neat (Upto n) named (range_rows g) (rename_neat (Upto n) (Upto n) (to_exits cs) (exits_upto n cs) (at_index g.index s) (indexed_s s h)) (counted_s g.step)) iterations_s)

  pub loop_upto : (s : System) → IsUpto n s → IsUpto n (loop_piece g s).system
  loop_upto s h = go (named_cells (others g.turn.cells (g.index ∷ [])) s)
    where
      go : (cs : List ℕ) → IsUpto n (through_loop cs g s).system
      go [] = project_upto n (push_rows (at_index g.index s) (range_rows g)) loop_vars (push_rows_neat (Upto n) (at_index g.index s) (range_rows g) (indexed_s s h) (counted_s g.step))
      go (c ∷ cs) = project_upto n (composed_with (c ∷ cs) g s) loop_vars (led_s (c ∷ cs) s h)
