-- The variables of IN regions of a DO.
use Rattle.std.proofs.Common.{◌≡◌, ◌⊎◌, inl, inr, ⊎_elim, ℕ, Bool, true, false, ◌&&◌, List, [], ◌∷◌, map, Option, Some, None, refl}
use Rattle.std.specs.Prelude.{if◌then◌else◌, ℤ, ◌-ℤ◌, pos}
use Rattle.affine_systems.specs.declared.row.Var.{Var}
use Rattle.affine_systems.specs.declared.row.Var.TheVariants.{Cell, Exit, Phi, Aux}
use Rattle.affine_systems.specs.declared.row.System.{System}
use Rattle.affine_systems.specs.Terms.{var_eq}
use Rattle.affine_systems.proofs.Basics.{if_cases}
use Rattle.hull_projection.specs.Project.{project}
use Rattle.hull_projection.specs.Laws.{IsOneOf}
use Rattle.preconditions.specs.transformer_algebra.Renaming.{naming, renamed_by, rename_all, push_rows}
use Rattle.f77_ast.specs.declared.variable.Variable.{Variable}
use Rattle.f77_ast.specs.declared.variable.Variable.TheVariants.{Own}
use Rattle.f77_ast.specs.Symbols.{SymbolTree}
use Rattle.affine_forms.specs.declared.affine.Affine.{Affine}
use Rattle.affine_forms.specs.Comparisons.{var_form, at_most_row, below_row}
use Rattle.preconditions.specs.transformer_algebra.Loops.{goes_up, terms_stay, within_row, beyond_row}
use Rattle.in_out_regions.specs.region_sets.declared.range.Range.{Range}
use Rattle.in_out_regions.specs.region_sets.declared.region.Region.{Region}
use Rattle.in_out_regions.specs.region_sets.Regions.{remade, all_exact, systems}
use Rattle.in_out_regions.specs.Writes.{write_of}
use Rattle.in_out_regions.specs.Loops.{after_first, before_last, index_rows_by, index_rows, in_range, meets_each, is_steady, earlier_rows_by, earlier_rows, earlier_piece, if_exact, earlier_of, earlier, less_earlier, in_iteration, over_maybe, unless_index, all_iterations}
use Rattle.laws_lines.specs.Variables.{EachVar, IsCellOf}
use Rattle.laws_lines.proofs.RowVars.{each_more, Given}
use Rattle.laws_lines.proofs.SystemVars.{IsNeat, AreGiven, all-append, system_more, push_rows_neat, project_neat, rename_neat}
use Rattle.laws_lines.proofs.FormVars.{IsFormOf, FormOf, compared_given}
use Rattle.laws_lines.specs.Regions.Places.{IsPlaceOf}
use Rattle.laws_lines.proofs.Regions.PieceVars.{IsRangeOf}
use Rattle.laws_lines.proofs.Regions.RegionVars.{few_shadow, IsFine, AreFine, looped_fine, mapped_fine}
use Rattle.laws_lines.proofs.Ins.Differences.{MaybeFine, subtract_fine}
use Rattle.laws_lines.proofs.Ins.InSets.{write_fine}
use Rattle.fx_lists.proofs.Lists.{each_append as both_all}
use Rattle.f77_ast.specs.Variables.{same_variable}

-- ---- rows of two forms

module _ (such : Var → Type 0) where
  pub within_given : (s : ℤ) (f g : Affine) → EachVar such f.terms → EachVar such g.terms → Given such (within_row s f g)
  within_given s f g h k =
      if_cases (Given such) (goes_up s) (at_most_row f g) (at_most_row g f) (λ e. compared_given such false f g (g.constant -ℤ f.constant) h k) (λ e. compared_given such false g f (f.constant -ℤ g.constant) k h)

  pub beyond_given : (s : ℤ) (f g : Affine) → EachVar such f.terms → EachVar such g.terms → Given such (beyond_row s f g)
  beyond_given s f g h k =
      if_cases (Given such) (goes_up s) (below_row g f) (below_row f g) (λ e. compared_given such false g f ((f.constant -ℤ g.constant) -ℤ pos 1) k h)
      (λ e. compared_given such false f g ((g.constant -ℤ f.constant) -ℤ pos 1) h k)

module _ (N : Variable → Type 0) (ok : ℕ → Type 0) (g : Range) (range : IsRangeOf ok g) (tracked : Bool) (index : tracked ≡ true → ok g.index) where
  abbrev P : Var → Type 0
  P = IsPlaceOf ok

  cell_place : (v : Var) → IsCellOf ok v → P v
  cell_place (Cell n) h = h
  cell_place (Exit n) h = absurd h
  cell_place (Phi n) h = absurd h
  cell_place (Aux n) h = absurd h

  form_place : (f : Affine) → IsFormOf (IsCellOf ok) f → EachVar P f.terms
  form_place f h = each_more (IsCellOf ok) P cell_place f.terms h.1

  -- ---- the index of an iteration

  module _ (i : ok g.index) where
    first_given : (s : ℤ) (o : Option Affine) → FormOf (IsCellOf ok) o → AreGiven P (after_first s g.turn.cells g.index o)
    first_given s None h = tt
    first_given s (Some f) h =
        if_cases (AreGiven P) (terms_stay g.turn.cells f.terms) (within_row s f (var_form (Cell g.index)) ∷ []) [] (λ e. (within_given P s f (var_form (Cell g.index)) (form_place f h) (i, tt), tt)) (λ e. tt)

    last_given : (s : ℤ) (o : Option Affine) → FormOf (IsCellOf ok) o → AreGiven P (before_last s g.turn.cells g.index o)
    last_given s None h = tt
    last_given s (Some f) h =
        if_cases (AreGiven P) (terms_stay g.turn.cells f.terms) (within_row s (var_form (Cell g.index)) f ∷ []) [] (λ e. (within_given P s (var_form (Cell g.index)) f (i, tt) (form_place f h), tt)) (λ e. tt)

  index_given : AreGiven P (index_rows tracked g)
  index_given = go g.step tracked index
    where
      go : (s : Option ℤ) (b : Bool) → (b ≡ true → ok g.index) → AreGiven P (index_rows_by s b g)
      go None b i = tt
      go (Some s) false i = tt
      go (Some s) true i =
          all-append (Given P) (after_first s g.turn.cells g.index g.first) (before_last s g.turn.cells g.index g.last) (first_given (i refl) s g.first range.first) (last_given (i refl) s g.last range.last)

  range_fine : (r : Region) → IsFine N ok r → IsFine N ok (in_range tracked g r)
  range_fine r h = mapped_fine N ok (λ s. push_rows s (index_rows tracked g)) (λ s k. push_rows_neat P s (index_rows tracked g) k index_given) r.exact r h

  -- ---- what earlier iterations wrote

  -- such a place, or the index of an earlier iteration
  abbrev S : Var → Type 0
  S v = P v ⊎ IsOneOf v (Aux 2 ∷ [])

  pub form_s : (f : Affine) → IsFormOf (IsCellOf ok) f → EachVar S f.terms
  form_s f h = each_more P S (λ v i. inl i) f.terms (form_place f h)

  earlier_s : ok g.index → (s : Option ℤ) (o : Option Affine) → FormOf (IsCellOf ok) o → AreGiven S (earlier_rows_by s o g.index)
  earlier_s i None o h = tt
  earlier_s i (Some s) None h = tt
  earlier_s i (Some s) (Some f) h = (
    within_given S s f (var_form (Aux 2)) (form_s f h) (inr (inl refl), tt),
    (beyond_given S s (var_form (Cell g.index)) (var_form (Aux 2)) (inl i, tt) (inr (inl refl), tt), tt),
  )

  pub renamed_s : (s : System) → IsNeat P s → IsNeat S (rename_all (naming (Cell g.index) (Aux 2) ∷ []) s)
  renamed_s s h = rename_neat P S (naming (Cell g.index) (Aux 2) ∷ []) one s h
    where
      one : (v : Var) → P v → S (renamed_by (naming (Cell g.index) (Aux 2) ∷ []) v)
      one v i = go (var_eq v (Cell g.index))
        where
          go : (b : Bool) → S (if b then Aux 2 else v)
          go true = inr (inl refl)
          go false = inl i

  piece_place : ok g.index → (s : System) → IsNeat P s → IsNeat P (earlier_piece g s).system
  piece_place i s h =
      let renamed = rename_all (naming (Cell g.index) (Aux 2) ∷ []) s in
      let within = push_rows renamed (earlier_rows g) in
      system_more (λ w. S w × (IsOneOf w (Aux 2 ∷ []) → ⊥)) P (λ w p. ⊎_elim (λ j. j) (λ j. absurd (p.1 j)) p.0) (project within (Aux 2 ∷ [])).system
      (project_neat S within (Aux 2 ∷ []) (push_rows_neat S renamed (earlier_rows g) (renamed_s s h) (earlier_s i g.step g.first range.first)))

  exact_fine : ok g.index → (w : Region) → IsFine N ok w → MaybeFine N ok (if_exact w (map (earlier_piece g) w.pieces))
  exact_fine i w h =
      if_cases (MaybeFine N ok) (all_exact (map (earlier_piece g) w.pieces)) (Some (remade w true (systems (map (earlier_piece g) w.pieces)))) None
      (λ e. (h.0, few_shadow (IsNeat P) (IsNeat P) (earlier_piece g) (piece_place i) w.pieces h.1)) (λ e. tt)

  earlier_fine : (o : Option Region) → MaybeFine N ok o → MaybeFine N ok (earlier tracked g o)
  earlier_fine None h = tt
  earlier_fine (Some w) h = go tracked index
    where
      go : (b : Bool) → (b ≡ true → ok g.index) → MaybeFine N ok (earlier_of b g w)
      go false i = tt
      go true i = if_cases (MaybeFine N ok) (meets_each true g && is_steady g w) (if_exact w (map (earlier_piece g) w.pieces)) None (λ e. exact_fine (i refl) w h) (λ e. tt)

  -- ---- the iterations

  less_fine : (o : Option Region) (ss : List SymbolTree) (ws : List Region) (r : Region) → MaybeFine N ok o → IsFine N ok r → MaybeFine N ok (less_earlier o ss ws r)
  less_fine None ss ws r h k = k
  less_fine (Some e) ss ws r h k = subtract_fine N ok r e k h

  over_fine : (o : Option Region) → MaybeFine N ok o → AreFine N ok (over_maybe g o)
  over_fine None h = tt
  over_fine (Some r) h = (looped_fine N ok g range r h, tt)

  pub iterations_fine : (ss : List SymbolTree) (ws rs : List Region) → AreFine N ok ws → AreFine N ok rs → AreFine N ok (all_iterations tracked g ss ws rs)
  iterations_fine ss ws [] h k = tt
  iterations_fine ss ws (r ∷ rs) h k =
      let first = in_iteration tracked g ss ws r in
      let each = over_fine first (less_fine (earlier tracked g (write_of r.variable ws)) ss ws (in_range tracked g r) (earlier_fine (write_of r.variable ws) (write_fine N ok r.variable ws h)) (range_fine r k.0)) in
      both_all (IsFine N ok) (unless_index g r.variable (over_maybe g first)) (all_iterations tracked g ss ws rs)
      (if_cases (AreFine N ok) (same_variable (Own g.index) r.variable) [] (over_maybe g first) (λ e. tt) (λ e. each)) (iterations_fine ss ws rs h k.1)
