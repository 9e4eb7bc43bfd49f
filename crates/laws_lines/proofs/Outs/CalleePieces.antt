-- The variables of a system of the caller in the terms of the callee: nothing of the caller is left, and of cells only scalar dummies.
use Rattle.std.proofs.Common.{◌≡◌, inl, inr, ℕ, suc, ◌<◌, ◌≤◌, Bool, true, false, List, [], ◌∷◌, length, Option, Some, None, refl, sym, ap, subst}
use Rattle.std.specs.Prelude.{if◌then◌else◌, not, option_to_list}
use Rattle.affine_systems.specs.declared.row.Var.{Var}
use Rattle.affine_systems.specs.declared.row.Var.TheVariants.{Cell, Exit, Phi, Aux}
use Rattle.affine_systems.specs.declared.row.Row.{Row}
use Rattle.affine_systems.specs.declared.row.System.{System}
use Rattle.affine_systems.specs.Terms.{has_no_terms}
use Rattle.affine_systems.proofs.Basics.{if_cases}
use Rattle.hull_projection.specs.Laws.{IsOneOf}
use Rattle.hull_projection.specs.Project.{project}
use Rattle.hull_projection.specs.Variables.{row_vars}
use Rattle.hull_projection.proofs.VarLaws.{rows_covered}
use Rattle.preconditions.specs.transformer_algebra.Renaming.{push_rows}
use Rattle.f77_ast.specs.Trees.{ExprTree}
use Rattle.f77_ast.specs.declared.symbol.Place.{Place}
use Rattle.f77_ast.specs.declared.symbol.Place.TheVariants.{Local, Dummy, Block, Constant}
use Rattle.f77_ast.specs.Symbols.{SymbolTree}
use Rattle.f77_ast.specs.Shared.{symbol_at}
use Rattle.tracked_cells.specs.Standing.{is_int_scalar}
use Rattle.affine_forms.specs.declared.affine.Affine.{Affine}
use Rattle.affine_forms.specs.Comparisons.{var_form}
use Rattle.affine_forms.specs.Conditions.{no_rows}
use Rattle.preconditions.specs.call_translation.Scopes.{ScopeTree}
use Rattle.preconditions.specs.call_translation.Actuals.{actual_of, form_in}
use Rattle.in_out_regions.specs.call_equations.Sides.{SidesTree}
use Rattle.in_out_regions.specs.call_equations.Cells.{named_form}
use Rattle.in_out_regions.specs.region_translation.Pieces.{standing, names_of, are_own}
use Rattle.in_out_regions.proofs.RegionTranslation.NamingLaws.{name_is}
use Rattle.in_out_regions.specs.region_translation.Values.{with_cells, dummy_row, place_row, symbol_row, value_rows_from, value_rows, is_scalar_dummy, goes_away, going_away}
use Rattle.in_out_regions.specs.region_translation.CalleePieces.{with_names, joined, without_caller, piece_in_callee}
use Rattle.laws_lines.specs.Variables.{IsCellOf}
use Rattle.laws_lines.proofs.RowVars.{Given}
use Rattle.laws_lines.proofs.SystemVars.{IsNeat, AreGiven, all-append, system_more, push_rows_neat, project_neat, rename_neat}
use Rattle.laws_lines.proofs.FormVars.{FormOf, var_of, affine_over, none_neat}
use Rattle.laws_lines.proofs.CallVars.{neat_in}
use Rattle.laws_lines.proofs.StatementVars.{Scope}
use Rattle.laws_lines.specs.Regions.Places.{IsPlaceOf}
use Rattle.laws_lines.proofs.Regions.AccessVars.{FewBounds}
use Rattle.laws_lines.proofs.Regions.CalleeVars.{IsLinkedOf}
use Rattle.laws_lines.proofs.Regions.LinkVars.{MaybeRow, equation_given, form_more, named_formed}
use Rattle.fx_lists.proofs.Booleans.{clash as clashes}
use Rattle.fx_lists.proofs.Every.{Anything}

-- a cell or a subscript of the callee, or what was the caller's
abbrev pub IsJoined : Var → Type 0
IsJoined (Cell n) = Unit {0}
IsJoined (Exit n) = ⊥
IsJoined (Phi n) = (0 < n) × (n ≤ 7)
IsJoined (Aux n) = Unit {0}

pub linked_joined : (v : Var) → IsLinkedOf Anything v → IsJoined v
linked_joined (Cell n) h = tt
linked_joined (Exit n) h = absurd h
linked_joined (Phi n) h = h
linked_joined (Aux n) h = tt

-- whatever cells a scope has
pub every_scope : (m : ScopeTree) → Scope Anything m
every_scope m = record { allows = record { names = λ x c e. tt; units = λ b o c e. tt }; flags = λ c e. tt }

-- ---- names

stands : (moved : Bool) (q : ℕ) (v : Var) → IsPlaceOf Anything v → IsJoined (standing moved q v)
stands moved q (Cell n) h = tt
stands moved q (Exit n) h = absurd h
stands true q (Phi n) h = tt
stands false q (Phi n) h = h
stands moved q (Aux n) h = absurd h

named_neat : (moved : Bool) (q : ℕ) (s : System) → IsNeat (IsPlaceOf Anything) s → IsNeat IsJoined (with_names moved q s)
named_neat moved q s h =
    let vs = row_vars s.rows in
    rename_neat (λ v. IsPlaceOf Anything v × IsOneOf v vs) IsJoined (names_of moved q vs)
    (λ v i. subst IsJoined (sym (name_is moved q vs v i.1)) (stands moved q v i.0)) s (neat_in (IsPlaceOf Anything) vs s h (rows_covered [] s.rows))

-- ---- what scalar dummies are

cells_form : (o : Option Affine) → FormOf (IsCellOf Anything) o → FormOf (IsCellOf Anything) (with_cells o)
cells_form None h = tt
cells_form (Some f) h = if_cases (FormOf (IsCellOf Anything)) (has_no_terms f.terms) None (Some f) (λ e. tt) (λ e. h)

module _ (Name : List ℕ → Type 0) (c : SidesTree) (few : FewBounds c.caller.symbols) (long : length c.caller.symbols ≡ length c.caller.names) where
  actual_form : (o : Option ExprTree) → FormOf (IsCellOf Anything) (form_in c.caller o)
  actual_form None = tt
  actual_form (Some e) = affine_over (IsCellOf Anything) c.caller.scalars (λ x n q. tt) e

  dummy_given : (q n d : ℕ) → MaybeRow IsJoined (dummy_row c q n d)
  dummy_given q n d =
      let f = with_cells (form_in c.caller (actual_of c.actuals d)) in
      equation_given IsJoined (Some (var_form (Cell n))) (named_form q f) (var_of IsJoined (Cell n) tt)
      (form_more (IsLinkedOf Anything) IsJoined linked_joined (named_form q f)
      (named_formed Name Anything c (every_scope c.caller) few long q f (cells_form (form_in c.caller (actual_of c.actuals d)) (actual_form (actual_of c.actuals d)))))

  place_given : (q n : ℕ) (p : Place) → MaybeRow IsJoined (place_row c q n p)
  place_given q n (Local g o) = tt
  place_given q n (Dummy d) = dummy_given q n d
  place_given q n (Block b o) = tt
  place_given q n (Constant v) = tt

  symbol_given : (q n : ℕ) (s : SymbolTree) → MaybeRow IsJoined (symbol_row c q n s)
  symbol_given q n s = if_cases (MaybeRow IsJoined) (is_int_scalar s) (place_row c q n s.place) None (λ e. place_given q n s.place) (λ e. tt)

  listed_given : (o : Option Row) → MaybeRow IsJoined o → AreGiven IsJoined (option_to_list o)
  listed_given None h = tt
  listed_given (Some r) h = (h, tt)

  values_given : (q n : ℕ) (ss : List SymbolTree) → AreGiven IsJoined (value_rows_from c q n ss)
  values_given q n [] = tt
  values_given q n (s ∷ ss) =
      all-append (Given IsJoined) (option_to_list (symbol_row c q (suc n) s)) (value_rows_from c q (suc n) ss) (listed_given (symbol_row c q (suc n) s) (symbol_given q (suc n) s)) (values_given q (suc n) ss)

  joined_neat : (q : ℕ) (rs : List Row) (s : System) → AreGiven IsJoined rs → IsNeat IsJoined s → IsNeat IsJoined (joined c q rs s)
  joined_neat q rs s g h = push_rows_neat IsJoined (push_rows s rs) (value_rows c q) (push_rows_neat IsJoined s rs h g) (values_given q 0 c.callee.symbols)

  -- ---- what goes away

  going_has : (vs : List Var) (v : Var) → IsOneOf v vs → goes_away c v ≡ true → IsOneOf v (going_away c vs)
  going_has [] v i e = i
  going_has (w ∷ vs) v (inl q) e = go (goes_away c w) refl
    where
      go : (b : Bool) → goes_away c w ≡ b → IsOneOf v (if b then w ∷ going_away c vs else going_away c vs)
      go true k = inl q
      go false k = clashes (goes_away c w) (subst (λ (z : Var). goes_away c z ≡ true) q e) k
  going_has (w ∷ vs) v (inr i) e = go (goes_away c w) (going_has vs v i e)
    where
      go : (b : Bool) → IsOneOf v (going_away c vs) → IsOneOf v (if b then w ∷ going_away c vs else going_away c vs)
      go true ih = inr ih
      go false ih = ih

  -- scalar dummies of the callee are such cells
  module _ (ok : ℕ → Type 0) (dummies : (n : ℕ) → is_scalar_dummy (symbol_at c.callee.symbols n) ≡ true → ok n) where
    left : (vs : List Var) (w : Var) → (IsJoined w × IsOneOf w vs) × (IsOneOf w (going_away c vs) → ⊥) → IsPlaceOf ok w
    left vs (Cell n) p = go (is_scalar_dummy (symbol_at c.callee.symbols n)) refl
      where
        go : (b : Bool) → is_scalar_dummy (symbol_at c.callee.symbols n) ≡ b → ok n
        go true e = dummies n e
        go false e = absurd (p.1 (going_has vs (Cell n) p.0.1 (ap not e)))
    left vs (Exit n) p = absurd p.0.0
    left vs (Phi n) p = p.0.0
    left vs (Aux n) p = absurd (p.1 (going_has vs (Aux n) p.0.1 refl))

    left_neat : (s : System) → IsNeat IsJoined s → IsNeat (IsPlaceOf ok) (without_caller c s)
    left_neat s h =
        let vs = row_vars s.rows in
        system_more (λ w. (IsJoined w × IsOneOf w vs) × (IsOneOf w (going_away c vs) → ⊥)) (IsPlaceOf ok) (left vs) (project s (going_away c vs)).system
        (project_neat (λ v. IsJoined v × IsOneOf v vs) s (going_away c vs) (neat_in IsJoined vs s h (rows_covered [] s.rows)))

    pub piece_neat : (moved : Bool) (q : ℕ) (rs : List Row) → AreGiven IsJoined rs → (s : System) → IsNeat (IsPlaceOf Anything) s → IsNeat (IsPlaceOf ok) (piece_in_callee c moved q rs s)
    piece_neat moved q rs g s h =
        if_cases (IsNeat (IsPlaceOf ok)) (are_own moved q (row_vars s.rows)) (without_caller c (joined c q rs (with_names moved q s))) no_rows
        (λ e. left_neat (joined c q rs (with_names moved q s)) (joined_neat q rs (with_names moved q s) g (named_neat moved q s h))) (λ e. none_neat (IsPlaceOf ok))
