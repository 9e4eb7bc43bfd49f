-- The cells of a module that its callers know are variables.
use Rattle.std.proofs.Common.{◌≡◌, ℕ, List, Some, Bool, true, false, ap, ◌∙◌, sym, refl}
use Rattle.std.specs.Prelude.{if◌then◌else◌}
use Rattle.std.proofs.lemmas.Bool.{and_parts}
use Rattle.f77_ast.specs.Places.{Meant, Variable, Function}
use Rattle.f77_ast.specs.Places as meant
use Rattle.f77_ast.specs.declared.constant.Constant.{Constant}
use Rattle.f77_ast.specs.declared.symbol.Place.{Place}
use Rattle.f77_ast.specs.declared.symbol.Place.TheVariants as place
use Rattle.f77_ast.specs.declared.decl.Scalar.{Scalar}
use Rattle.f77_ast.specs.declared.variable.Unit.{Unit as BlockUnit}
use Rattle.f77_ast.specs.Symbols.{SymbolTree, number_from, value_in}
use Rattle.tracked_cells.specs.Standing.{is_int_scalar}
use Rattle.f77_meaning.specs.Modules.{symbol_names, meant_by, is_function, meant_at, meant_in, names}
use Rattle.affine_forms.specs.Scalars.{is_cell, cell_in}
use Rattle.affine_forms.specs.Claims.{Agrees, content_of}
use Rattle.in_out_regions.specs.call_equations.Sides.{is_entry_place, is_entry_cell, entry_cells}
use Rattle.in_out_regions.specs.array_regions.Calls.{scope_with}
use Rattle.laws_analyses.proofs.AgreeLaws.{flagged, unless_function, cell_of, CellOf}

place_meant : (u : List BlockUnit) (t : Scalar) (n : ℕ) (q : Place) → is_entry_place u q ≡ true → meant_by t n q ≡ Variable n
place_meant u t n (place.Local g o) h = cc
place_meant u t n (place.Dummy d) h = refl
place_meant u t n (place.Block b o) h = refl
place_meant u t n (place.Constant k) h = cc

module _ (u : List BlockUnit) (ss : List SymbolTree) where
  cell_named : (x : List ℕ) (n : ℕ) → cell_in (symbol_names ss) (entry_cells u ss) x ≡ Some n → (names ss x ≡ Function → ⊥) → names ss x ≡ Variable n
  cell_named x n h f =
      let c = cell_of ss (entry_cells u ss) x n h in
      let s = flagged (is_entry_cell u) ss n c.flag in
      let a = (and_parts (is_int_scalar s.symbol) (is_entry_place u s.symbol.place) s.flag).1 in
      let means : names ss x ≡ meant_at n (Some s.symbol) = ap (meant_in ss) c.number ∙ ap (meant_at n) s.is_symbol in
      unless_function (is_function s.symbol) (meant_by s.symbol.scalar n s.symbol.place) (names ss x) means f
      ∙ place_meant u s.symbol.scalar n s.symbol.place a

  pub entry_agree : ((x : List ℕ) (c : Constant) → value_in ss x ≡ Some c → (names ss x ≡ Function → ⊥) → names ss x ≡ meant.Constant (content_of c)) → Agrees (names ss) (scope_with ss (entry_cells u ss)).scalars (is_cell (entry_cells u ss))
  entry_agree constants = record {
    constants = constants;
    cells = λ x n h. (λ f. cell_named x n h f, (cell_of ss (entry_cells u ss) x n h).flag);
  }
