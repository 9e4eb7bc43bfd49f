-- What names stand for, by the numbers of their symbols.
use Rattle.std.proofs.Common.{◌≡◌, ℕ, Bool, true, false, not, List, [], ◌∷◌, Option, Some, None, refl, sym, ap, ◌∙◌}
use Rattle.std.specs.Prelude.{if◌then◌else◌}
use Rattle.std.proofs.lemmas.Bool.{not-true}
use Rattle.f77_ast.specs.declared.decl.Scalar.{Scalar}
use Rattle.f77_ast.specs.Places.{Constant, Variable, Function}
use Rattle.f77_ast.specs.declared.symbol.Place.{Place}
use Rattle.f77_ast.specs.declared.symbol.Place.TheVariants as place
use Rattle.f77_ast.specs.Symbols.{BoundTree, SymbolTree, number_from}
use Rattle.f77_ast.specs.Shared.{symbol_at}
use Rattle.tracked_cells.specs.Standing.{has_bounds}
use Rattle.f77_meaning.specs.Modules.{is_function, meant_by, meant_at, meant_in, symbol_names, names}
use Rattle.affine_forms.specs.Scalars.{is_cell, if_cell, cell_in}
use Rattle.laws_analyses.specs.Statements.Laws.{is_scalar_symbol, scalar_at, is_scalar}
use Rattle.laws_programs.proofs.Storage.ActualLaws.{no_bounds}

pub name_number : (ss : List SymbolTree) (x : List ℕ) (v : ℕ) → names ss x ≡ Variable v → number_from 1 (symbol_names ss) x ≡ Some v
name_number ss x v e = by_number (number_from 1 (symbol_names ss) x) refl e
  where
    by_place : (n : ℕ) (t : Scalar) (q : Place) → meant_by t n q ≡ Variable v → n ≡ v
    by_place n t (place.Local g o) f = cc
    by_place n t (place.Dummy d) f = cc
    by_place n t (place.Block b o) f = cc
    by_place n t (place.Constant d) f = cc

    by_function : (n : ℕ) (s : SymbolTree) (b : Bool) → (if b then Function else meant_by s.scalar n s.place) ≡ Variable v → n ≡ v
    by_function n s true f = cc
    by_function n s false f = by_place n s.scalar s.place f

    by_symbol : (n : ℕ) (o : Option SymbolTree) → meant_at n o ≡ Variable v → n ≡ v
    by_symbol n None f = cc
    by_symbol n (Some s) f = by_function n s (is_function s) f

    by_number : (o : Option ℕ) → number_from 1 (symbol_names ss) x ≡ o → meant_in ss o ≡ Variable v → number_from 1 (symbol_names ss) x ≡ Some v
    by_number None q f = cc
    by_number (Some n) q f = q ∙ ap Some (by_symbol n (symbol_at ss n) f)

pub name_cell : (ss : List SymbolTree) (flags : List Bool) (x : List ℕ) (v : ℕ) → names ss x ≡ Variable v → is_cell flags v ≡ true → cell_in (symbol_names ss) flags x ≡ Some v
name_cell ss flags x v e t = ap (if_cell flags) (name_number ss x v e) ∙ ap (λ b. if b then Some v else None) t

-- the symbol of a name that is that of a scalar has no bounds
pub scalar_bounds : (ss : List SymbolTree) (x : List ℕ) (v : ℕ) (s : SymbolTree) → names ss x ≡ Variable v → is_scalar ss x ≡ true → symbol_at ss v ≡ Some s → s.bounds ≡ []
scalar_bounds ss x v s e h is = no_bounds s.bounds (not-true (has_bounds s.bounds) (sym (ap (scalar_at ss) (name_number ss x v e) ∙ ap is_scalar_symbol is) ∙ h))

-- and the name of a symbol without bounds is that of a scalar
pub bounds_scalar : (ss : List SymbolTree) (x : List ℕ) (v : ℕ) (s : SymbolTree) → names ss x ≡ Variable v → symbol_at ss v ≡ Some s → s.bounds ≡ [] → is_scalar ss x ≡ true
bounds_scalar ss x v s e is h = ap (scalar_at ss) (name_number ss x v e) ∙ ap is_scalar_symbol is ∙ ap (λ bs. not (has_bounds bs)) h
