-- Systems that name no subscripts beyond a number, in the terms of a caller.
use Rattle.std.proofs.Common.{◌≡◌, ⊎_elim, ℕ, suc, ◌+◌, ◌-◌, ◌<◌, ◌≤◌, Bool, true, false, ◌&&◌, ◌||◌, List, [], ◌∷◌, map, Option, Some, None, refl, sym, ◌∙◌, subst, pos, true≢false}
use Rattle.std.specs.Prelude.{if◌then◌else◌, nat_lt, ◌-ℤ◌}
use Rattle.affine_systems.specs.declared.row.Var.{Var}
use Rattle.affine_systems.specs.declared.row.Var.TheVariants.{Cell, Exit, Phi, Aux}
use Rattle.affine_systems.specs.declared.row.Row.{Row}
use Rattle.affine_systems.specs.declared.row.System.{System}
use Rattle.affine_systems.specs.Terms.{var_eq}
use Rattle.affine_systems.specs.Normal.{Normal, Kept, Always, Never, TooBig, normal}
use Rattle.affine_systems.specs.Tidy.{tidy}
use Rattle.affine_systems.proofs.Basics.{if_cases}
use Rattle.affine_systems.proofs.TermLaws.{var_eq-true, true-var_eq}
use Rattle.hull_projection.specs.declared.projection.Shadow.{Shadow}
use Rattle.hull_projection.specs.Variables.{row_vars}
use Rattle.hull_projection.specs.Project.{shadow, project}
use Rattle.hull_projection.specs.Laws.{IsOneOf}
use Rattle.hull_projection.proofs.VarLaws.{rows_covered}
use Rattle.preconditions.specs.transformer_algebra.Renaming.{renamed_by, rename_all}
use Rattle.f77_ast.specs.declared.symbol.Place.{Place}
use Rattle.f77_ast.specs.declared.symbol.Place.TheVariants.{Local, Dummy, Block, Constant}
use Rattle.f77_ast.specs.Shared.{place_at}
use Rattle.f77_ast.specs.Trees.{ExprTree}
use Rattle.affine_forms.specs.declared.affine.Affine.{Affine}
use Rattle.affine_forms.specs.Forms.{affine_of, cell_form}
use Rattle.affine_forms.specs.Comparisons.{var_form, same_row}
use Rattle.affine_forms.specs.Conditions.{no_rows}
use Rattle.preconditions.specs.call_translation.Common.{tracked_at}
use Rattle.preconditions.specs.call_translation.Actuals.{actual_of, form_in}
use Rattle.in_out_regions.specs.call_equations.declared.link.Link.{Link}
use Rattle.in_out_regions.specs.call_equations.Sides.{SidesTree}
use Rattle.in_out_regions.specs.call_equations.Cells.{form_at, form_of}
use Rattle.in_out_regions.specs.region_translation.Pieces.{standing, names_of, are_own, linked, is_aux_row, if_aux_row, aux_row, cell_row, if_row, with_var, with_forms, formless, subscripts, without_all, linked_piece, piece_in_caller}
use Rattle.laws_lines.specs.Variables.{IsCellOf}
use Rattle.laws_lines.proofs.SystemVars.{AreGiven, given_again, tidy_neat, push_rows_neat, rename_neat}
use Rattle.laws_lines.proofs.FormVars.{affine_over, compared_given, none_neat}
use Rattle.laws_lines.proofs.CallVars.{neat_in}
use Rattle.laws_marks.proofs.InNarrow.{Upto, IsUpto, project_upto}
use Rattle.laws_marks.proofs.InNarrowed.{FormAt, form_at as formed_at}
use Rattle.laws_lines.proofs.Regions.PutVars.{GivenIf, NormalGiven, normal_given, all_given}
use Rattle.fx_lists.proofs.Every.{Anything}

module _ (n : ℕ) where
  -- ---- names

  stand : (b : Bool) (r m : ℕ) → (b ≡ false → m ≡ n) → (v : Var) → Upto m v → Upto n (standing b r v)
  stand b r m f (Cell i) h = tt
  stand b r m f (Exit i) h = tt
  stand true r m f (Phi i) h = tt
  stand false r m f (Phi i) h = subst (λ j. Upto j (Phi i)) (f refl) h
  stand b r m f (Aux i) h = tt

  names_upto : (b : Bool) (r m : ℕ) → (b ≡ false → m ≡ n) → (vs : List Var) (v : Var) → Upto m v → IsOneOf v vs → Upto n (renamed_by (names_of b r vs) v)
  names_upto b r m f [] v h i = absurd i
  names_upto b r m f (u ∷ vs) v h i = go (var_eq v u) refl (λ j. names_upto b r m f vs v h j)
    where
      go : (c : Bool) → var_eq v u ≡ c → (IsOneOf v vs → Upto n (renamed_by (names_of b r vs) v)) → Upto n (if c then standing b r u else renamed_by (names_of b r vs) v)
      go true q ih = stand b r m f u (subst (Upto m) (var_eq-true v u q) h)
      go false q ih = ih (⊎_elim (λ e. absurd (true≢false (sym (true-var_eq v u e) ∙ q))) (λ j. j) i)

  linked_upto : (l : Link) (m : ℕ) → (l.moved ≡ false → m ≡ n) → AreGiven (Upto n) l.rows → (s : System) → IsUpto m s → IsUpto n (linked l s)
  linked_upto l m f g s h =
      let vs = row_vars s.rows in
      push_rows_neat (Upto n) (rename_all (names_of l.moved l.rank vs) s) l.rows
      (rename_neat (λ v. Upto m v × IsOneOf v vs) (Upto n) (names_of l.moved l.rank vs) (λ v i. names_upto l.moved l.rank m f vs v i.0 i.1) s (neat_in (Upto m) vs s h (rows_covered [] s.rows))) g

  -- ---- cells

  aux_given : (j : ℕ) (o : Option Affine) → FormAt n o → GivenIf (Upto n) (aux_row j o)
  aux_given j None h = tt
  aux_given j (Some f) h = go (normal false (same_row (var_form (Aux j)) f)) (normal_given (Upto n) (same_row (var_form (Aux j)) f) (compared_given (Upto n) true (var_form (Aux j)) f (f.constant -ℤ pos 0) (tt, tt) h))
    where
      go : (w : Normal) → NormalGiven (Upto n) w → GivenIf (Upto n) (if_aux_row j w)
      go (Kept e) g = if_cases (GivenIf (Upto n)) (is_aux_row j e) (Some e) None (λ q. g) (λ q. tt)
      go Always g = tt
      go Never g = tt
      go TooBig g = tt

  module _ (c : SidesTree) where
    cell_at : (p : Option Place) → FormAt n (form_at c p)
    cell_at None = tt
    cell_at (Some (Local g o)) = tt
    cell_at (Some (Dummy d)) = go (actual_of c.actuals d)
      where
        go : (o : Option ExprTree) → FormAt n (form_in c.caller o)
        go None = tt
        go (Some e) = formed_at n (affine_of c.caller.scalars e) (affine_over (IsCellOf Anything) c.caller.scalars (λ x i q. tt) e)
    cell_at (Some (Block b o)) = go (tracked_at c.caller b o)
      where
        go : (i : Option ℕ) → FormAt n (cell_form i)
        go None = tt
        go (Some i) = (tt, tt)
    cell_at (Some (Constant k)) = tt

    put_aux_given : (j : ℕ) (o : Option Row) (s : System) → GivenIf (Upto n) o → AreGiven (Upto n) s.rows → AreGiven (Upto n) (if_row j o s).rows
    put_aux_given j None s g h = h
    put_aux_given j (Some e) s g h = all_given (Upto n) (Aux j) e s.rows g h

    var_given : (r : ℕ) (v : Var) (s : System) → AreGiven (Upto n) s.rows → AreGiven (Upto n) (with_var c r v s).rows
    var_given r (Cell j) s h = h
    var_given r (Exit j) s h = h
    var_given r (Phi j) s h = h
    var_given r (Aux j) s h =
        if_cases (λ (w : System). AreGiven (Upto n) w.rows) (nat_lt r j) (if_row j (cell_row c r j) s) s
        (λ q. put_aux_given j (cell_row c r j) s (aux_given j (form_of c ((j - r) - 1)) (cell_at (place_at c.callee.symbols ((j - r) - 1)))) h) (λ q. h)

    forms_given : (r : ℕ) (vs : List Var) (s : System) → AreGiven (Upto n) s.rows → AreGiven (Upto n) (with_forms c r vs s).rows
    forms_given r [] s h = h
    forms_given r (v ∷ vs) s h = forms_given r vs (with_var c r v s) (var_given r v s h)

    without_upto : (vs ws : List Var) (s : System) → IsUpto n s → IsUpto n (without_all vs ws s).system
    without_upto [] ws s h = project_upto n s ws h
    without_upto (v ∷ vs) ws s h = project_upto n (project s (v ∷ vs)).system ws (project_upto n s (v ∷ vs) h)

    linked_piece_upto : (l : Link) (s : System) → IsUpto n s → IsUpto n (linked_piece c l s).system
    linked_piece_upto l s h =
        let vs = row_vars s.rows in
        without_upto (formless c l.rank vs) (subscripts l) (tidy (with_forms c l.rank vs s)) (tidy_neat (Upto n) (with_forms c l.rank vs s) (forms_given l.rank vs s (given_again (Upto n) s h)))

    -- m: how many subscripts the variable of the callee has, n: that of the caller
    pub piece_upto : (l : Link) (m : ℕ) → (l.moved ≡ false → m ≡ n) → AreGiven (Upto n) l.rows → (s : System) → IsUpto m s → IsUpto n (piece_in_caller c l s).system
    piece_upto l m f g s h =
        if_cases (λ (w : Shadow). IsUpto n w.system) (are_own l.moved l.rank (row_vars s.rows)) (linked_piece c l (linked l s)) (shadow no_rows false)
        (λ q. linked_piece_upto l (linked l s) (linked_upto l m f g s h)) (λ q. none_neat (Upto n))
