-- The cells that a CALL lists as changed are tracked.
use Rattle.std.proofs.Common.{◌≡◌, ℕ, List, [], ◌∷◌, ◌||◌, Option, Some, None, Bool, true, false, refl, ap, ◌⊎◌, ⊎_elim, nat_eq}
use Rattle.f77_ast.specs.Trees.{ExprTree, ExprTrees}
use Rattle.f77_ast.specs.Trees as tree
use Rattle.f77_ast.specs.declared.symbol.Place.{Place}
use Rattle.f77_ast.specs.declared.symbol.Place.TheVariants.{Local, Dummy, Block, Constant}
use Rattle.f77_ast.specs.declared.variable.Unit.{Unit as BlockUnit}
use Rattle.f77_ast.specs.Shared.{place_at}
use Rattle.f77_ast.specs.Summaries.{SummaryTree}
use Rattle.affine_forms.specs.Scalars.{is_cell}
use Rattle.preconditions.specs.transformer_algebra.declared.transformer.Transformer.{Transformer}
use Rattle.preconditions.specs.transformer_algebra.Cells.{has}
use Rattle.preconditions.specs.transformer_algebra.Claims.{Scene, Tracks}
use Rattle.preconditions.proofs.TransformerAlgebra.CellLaws.{joined_in}
use Rattle.preconditions.specs.call_translation.Scopes.{ScopeTree}
use Rattle.preconditions.specs.call_translation.Common.{tracked_at}
use Rattle.preconditions.specs.call_translation.Actuals.{named_cell, one_cell, cell_named, actual_of}
use Rattle.preconditions.specs.call_translation.Call.{CallTree, cell_at}
use Rattle.preconditions.specs.call_translation.Summary.{unit_cell, unit_cells, cells_of, summary_in_caller, call_transformer}
use Rattle.laws_analyses.proofs.Calls.TableLaws.{nothing_some, tracked_at_cell}
use Rattle.fx_lists.proofs.Booleans.{clash as clashes}
use Rattle.fx_lists.proofs.Numbers.{same_is as nat_same}
use Rattle.preconditions.proofs.TransformerAlgebra.HasLaws.{has_either}

one_is : (o : Option ℕ) (c : ℕ) → has (one_cell o) c ≡ true → o ≡ Some c
one_is None c h = clashes false h refl
one_is (Some a) c h = go (nat_eq a c) refl h
  where
    go : (b : Bool) → nat_eq a c ≡ b → (b || false) ≡ true → Some a ≡ Some c
    go true e k = ap (λ j. Some j) (nat_same a c e)
    go false e k = clashes false k refl

module _ (s : ScopeTree) (m : Scene) (table : (c : ℕ) → is_cell s.tracked c ≡ true → m.tracked c ≡ true) (names : (x : List ℕ) (c : ℕ) → s.scalars.cell x ≡ Some c → m.tracked c ≡ true) where
  expr_tracks : (e : ExprTree) (c : ℕ) → named_cell s.scalars e ≡ Some c → m.tracked c ≡ true
  expr_tracks (tree.int n) c e = nothing_some c e
  expr_tracks (tree.log b) c e = nothing_some c e
  expr_tracks (tree.name x) c e = names x c e
  expr_tracks (tree.element x es) c e = nothing_some c e
  expr_tracks (tree.paren f) c e = nothing_some c e
  expr_tracks (tree.unary o f) c e = nothing_some c e
  expr_tracks (tree.binary o f g) c e = nothing_some c e
  expr_tracks (tree.chars x) c e = nothing_some c e

  named_tracks : (o : Option ExprTree) (c : ℕ) → cell_named s o ≡ Some c → m.tracked c ≡ true
  named_tracks None c e = nothing_some c e
  named_tracks (Some f) c e = expr_tracks f c e

  module _ (es : ExprTrees) (t : SummaryTree Transformer) where
    abbrev c : CallTree
    c = record { caller = s; actuals = es; symbols = t.symbols }

    place_tracks : (p : Option Place) (v : ℕ) → cell_at c p ≡ Some v → m.tracked v ≡ true
    place_tracks None v e = nothing_some v e
    place_tracks (Some (Local g o)) v e = nothing_some v e
    place_tracks (Some (Dummy n)) v e = named_tracks (actual_of es n) v e
    place_tracks (Some (Block b o)) v e = table v (tracked_at_cell s b o v e).0
    place_tracks (Some (Constant n)) v e = nothing_some v e

    cells_track : (ds : List ℕ) → Tracks m (cells_of c ds)
    cells_track [] v h = clashes false h refl
    cells_track (d ∷ ds) v h =
        ⊎_elim
        (λ k. place_tracks (place_at t.symbols d) v (one_is (cell_at c (place_at t.symbols d)) v k))
        (λ k. cells_track ds v k)
        (has_either (one_cell (cell_at c (place_at t.symbols d))) (cells_of c ds) v h)

    units_track : (us : List BlockUnit) → Tracks m (unit_cells c us)
    units_track [] v h = clashes false h refl
    units_track (u ∷ us) v h =
        ⊎_elim
        (λ k. table v (tracked_at_cell s u.block u.offset v (one_is (tracked_at s u.block u.offset) v k)).0)
        (λ k. units_track us v k)
        (has_either (unit_cell c u) (unit_cells c us) v h)

    some_tracks : Tracks m (summary_in_caller c t.value).cells
    some_tracks v h = ⊎_elim (λ k. units_track t.value.foreign v k) (λ k. cells_track t.value.cells v k) (joined_in (unit_cells c t.value.foreign) (cells_of c t.value.cells) v h)

  pub tracks_call : (o : Option (SummaryTree Transformer)) (es : ExprTrees) → Tracks m (call_transformer s o es).cells
  tracks_call None es v h = clashes false h refl
  tracks_call (Some t) es v h = some_tracks es t v h
