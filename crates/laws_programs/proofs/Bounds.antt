-- The bounds of arrays name scalars alone.
use Rattle.std.proofs.Common.{◌≡◌, ℕ, ◌+◌, Bool, true, false, not, List, [], ◌∷◌, length, Option, Some, None, refl, sym, ap, subst}
use Rattle.std.specs.Prelude.{if◌then◌else◌, bytes_eq, is_some, nat_lt, ◌&&◌, ◌||◌}
use Rattle.std.proofs.lemmas.Bool.{and_parts, or_parts, not-false}
use Rattle.f77_ast.specs.declared.expr.UnaryOp.{UnaryOp}
use Rattle.f77_ast.specs.declared.expr.BinaryOp.{BinaryOp}
use Rattle.f77_ast.specs.Trees.{ExprTree, ExprTrees}
use Rattle.f77_ast.specs.Trees as tree
use Rattle.f77_ast.specs.DeclTrees.{ParsedTree}
use Rattle.f77_ast.specs.declared.constant.Constant.{Constant}
use Rattle.f77_ast.specs.declared.constant.ConstantValue.{ConstantValue}
use Rattle.f77_ast.specs.declared.constant.ConstantValue.TheVariants.{Is, Faults, Varies}
use Rattle.f77_ast.specs.Constants.{turns_logical, gives_logical, unary_const_value, binary_const_value, const_value}
use Rattle.f77_ast.specs.Symbols.{BoundTree, SymbolTree}
use Rattle.fx_lists.specs.declared.code.Code.TheVariants.{BadDimension}
use Rattle.fx_lists.specs.declared.refusal.Refusal.{Refusal}
use Rattle.f77_names.specs.Entries.{ShapeTree, EntryTree, find, of_entry, has_shape, value_among}
use Rattle.f77_names.specs.Tables.{NameTable}
use Rattle.f77_checks.specs.Expressions.{check_expr}
use Rattle.f77_checks.specs.Dimensions.{is_adjustable, is_bad_const_value, const_value_in, is_bad_limit, is_below, is_bad_high, is_bad_bound, is_last, has_bad_bound, dims_of, is_too_big, is_bad_shape, check_maybe, check_bounds, check_shape, check_shapes}
use Rattle.tracked_cells.specs.Standing.{has_bounds}
use Rattle.storage_layout.specs.Symbols.{valued, checked}
use Rattle.storage_layout.specs.Table.{Layout, bounds_in, symbol_of, symbols_from, symbols_in}
use Rattle.call_graph.specs.Actuals.{symbol_with_name, is_array}
use Rattle.laws_programs.specs.SymbolTables.Shapes.{Shaped}
use Rattle.laws_programs.proofs.SymbolTables.StatementRefusals.{expr_back, stmts_back}
use Rattle.laws_programs.proofs.SymbolTables.NameRefusals.{shapes_back}
use Rattle.laws_programs.proofs.SymbolTables.JudgedShapes.{expr_shaped}
use Rattle.laws_programs.proofs.SymbolTables.Answers.{Answered, lines_in, layout_in, found_none}
use Rattle.laws_programs.specs.Effects.Trees.{StandsBare}
use Rattle.laws_programs.specs.Effects.Tables.{IsBound, IsHigh, AreBounds, AllBounds}
use Rattle.fx_lists.proofs.Refused.{none_refused}

-- ---- no array element

abbrev IsFlat : ExprTree → Type 0
IsFlat (tree.int n) = Unit {0}
IsFlat (tree.log b) = Unit {0}
IsFlat (tree.name x) = Unit {0}
IsFlat (tree.element x es) = ⊥
IsFlat (tree.paren e) = IsFlat e
IsFlat (tree.unary o e) = IsFlat e
IsFlat (tree.binary o a b) = IsFlat a × IsFlat b
IsFlat (tree.chars x) = Unit {0}

abbrev pub varies : ConstantValue → Bool
varies (Is c) = false
varies Faults = false
varies Varies = true

pub unary_steady : (o : UnaryOp) (w : ConstantValue) → varies (unary_const_value o w) ≡ false → varies w ≡ false
unary_steady o (Is c) h = refl
unary_steady o Faults h = refl
unary_steady o Varies h = h

pub binary_steady : (o : BinaryOp) (v w : ConstantValue) → varies (binary_const_value o v w) ≡ false → (varies v ≡ false) × (varies w ≡ false)
binary_steady o Varies w h = let z : true ≡ false = h in cc
binary_steady o Faults Varies h = (refl, h)
binary_steady o Faults Faults h = (refl, refl)
binary_steady o Faults (Is d) h = (refl, refl)
binary_steady o (Is c) Varies h = (refl, h)
binary_steady o (Is c) Faults h = (refl, refl)
binary_steady o (Is c) (Is d) h = (refl, refl)

flat_steady : (v : List ℕ → Option Constant) (e : ExprTree) → varies (const_value v e) ≡ false → IsFlat e
flat_steady v (tree.int n) h = tt
flat_steady v (tree.log b) h = tt
flat_steady v (tree.name x) h = tt
flat_steady v (tree.element x es) h = let z : true ≡ false = h in cc
flat_steady v (tree.paren e) h = flat_steady v e h
flat_steady v (tree.unary o e) h = flat_steady v e (unary_steady o (const_value v e) h)
flat_steady v (tree.binary o a b) h = let r = binary_steady o (const_value v a) (const_value v b) h in (flat_steady v a r.0, flat_steady v b r.1)
flat_steady v (tree.chars x) h = tt

flat_adjustable : (t : NameTable) (e : ExprTree) → is_adjustable t e ≡ true → IsFlat e
flat_adjustable t (tree.int n) h = tt
flat_adjustable t (tree.log b) h = tt
flat_adjustable t (tree.name x) h = tt
flat_adjustable t (tree.element x es) h = cc
flat_adjustable t (tree.paren e) h = flat_adjustable t e h
flat_adjustable t (tree.unary o e) h = flat_adjustable t e (and_parts (not (turns_logical o)) (is_adjustable t e) h).1
flat_adjustable t (tree.binary o a b) h =
    let both = and_parts (is_adjustable t a) (is_adjustable t b) (and_parts (not (gives_logical o)) (is_adjustable t a && is_adjustable t b) h).1 in
    (flat_adjustable t a both.0, flat_adjustable t b both.1)
flat_adjustable t (tree.chars x) h = tt

flat_limit : (t : NameTable) (dummy : Bool) (e : ExprTree) → is_bad_limit t dummy e ≡ false → IsFlat e
flat_limit t dummy e h = go (const_value_in t e) refl h
  where
    go : (w : ConstantValue) → const_value_in t e ≡ w → is_bad_const_value t dummy e w ≡ false → IsFlat e
    go (Is c) q k = flat_steady (value_among t.entries) e (ap varies q)
    go Faults q k = flat_steady (value_among t.entries) e (ap varies q)
    go Varies q k = flat_adjustable t e (and_parts dummy (is_adjustable t e) (not-false (dummy && is_adjustable t e) k)).1

-- ---- refusals

pub maybe_back : (t : NameTable) (x : Option ExprTree) (line : ℕ) (o : Option Refusal) → check_maybe t x line o ≡ None → o ≡ None
maybe_back t None line o e = e
maybe_back t (Some x) line o e = expr_back t x line o e

pub bounds_back : (t : NameTable) (bs : List BoundTree) (line : ℕ) (o : Option Refusal) → check_bounds t bs line o ≡ None → o ≡ None
bounds_back t [] line o e = e
bounds_back t (b ∷ bs) line o e = expr_back t b.low line o (maybe_back t b.high line (check_expr t b.low line o) (bounds_back t bs line (check_maybe t b.high line (check_expr t b.low line o)) e))

-- ---- bounds that are not refused

abbrev anything : List ℕ → ExprTrees → Type 0
anything x es = Unit {0}

module _ (t : NameTable) (ss : List SymbolTree) (bare : (x : List ℕ) → has_shape x t.entries ≡ false → StandsBare x ss) where
  abbrev Scalar : List ℕ → Type 0
  Scalar x = StandsBare x ss

  is_bound : (e : ExprTree) → Shaped Scalar anything e → IsFlat e → IsBound e ss
  is_bound (tree.int n) h f = tt
  is_bound (tree.log b) h f = tt
  is_bound (tree.name x) h f = h
  is_bound (tree.element x es) h f = f
  is_bound (tree.paren e) h f = is_bound e h f
  is_bound (tree.unary o e) h f = is_bound e h f
  is_bound (tree.binary o a b) h f = (is_bound a h.0 f.0, is_bound b h.1 f.1)
  is_bound (tree.chars x) h f = tt

  limit : (dummy : Bool) (e : ExprTree) (line : ℕ) (o : Option Refusal) → check_expr t e line o ≡ None → is_bad_limit t dummy e ≡ false → IsBound e ss
  limit dummy e line o j h = is_bound e (expr_shaped t Scalar anything bare (λ x es i. tt) e line o j) (flat_limit t dummy e h)

  high : (dummy last : Bool) (low : ExprTree) (e : Option ExprTree) (line : ℕ) (o : Option Refusal) → check_maybe t e line o ≡ None → is_bad_high t dummy last low e ≡ false → IsHigh e ss
  high dummy last low None line o j h = tt
  high dummy last low (Some e) line o j h = limit dummy e line o j (or_parts (is_bad_limit t dummy e) (is_below (const_value_in t e) (const_value_in t low)) h).0

  bounds_hold : (dummy : Bool) (bs : List BoundTree) (line : ℕ) (o : Option Refusal) → check_bounds t bs line o ≡ None → has_bad_bound t dummy bs ≡ false → AreBounds bs ss
  bounds_hold dummy [] line o j h = tt
  bounds_hold dummy (b ∷ bs) line o j h =
      let first = check_expr t b.low line o in
      let second = check_maybe t b.high line first in
      let one = bounds_back t bs line second j in
      let two = maybe_back t b.high line first one in
      let all = or_parts (is_bad_bound t dummy (is_last bs) b) (has_bad_bound t dummy bs) h in
      let own = or_parts (is_bad_limit t dummy b.low) (is_bad_high t dummy (is_last bs) b.low b.high) all.0 in
      (limit dummy b.low line o two own.0, high dummy (is_last bs) b.low b.high line first one own.1, bounds_hold dummy bs line second j all.1)

  shape_holds : (dummy : Bool) (s : Option ShapeTree) (o : Option Refusal) → check_shape t dummy s o ≡ None → AreBounds (bounds_in s) ss
  shape_holds dummy None o j = tt
  shape_holds dummy (Some s) o j =
      let r = none_refused (is_bad_shape t dummy s.bounds) s.line BadDimension (check_bounds t s.bounds s.line o) j in
      let few = or_parts (nat_lt 7 (length s.bounds)) (has_bad_bound t dummy s.bounds || is_too_big (dims_of t s.bounds)) r.0 in
      let good = or_parts (has_bad_bound t dummy s.bounds) (is_too_big (dims_of t s.bounds)) few.1 in
      bounds_hold dummy s.bounds s.line o r.1 good.0

  all_bounds : (l : Layout) (n : ℕ) (es : List EntryTree) (o : Option Refusal) → check_shapes t es o ≡ None → AllBounds (symbols_from l n es) ss
  all_bounds l n [] o j = tt
  all_bounds l n (e ∷ es) o j =
      let next = check_shape t (is_some e.dummy) e.shape o in
      (shape_holds (is_some e.dummy) e.shape o (shapes_back t es next j), all_bounds l (n + 1) es next j)

-- ---- tables

pub no_bounds : (s : Option ShapeTree) → is_some s ≡ false → has_bounds (bounds_in s) ≡ false
no_bounds None h = refl
no_bounds (Some s) h = cc

bare_from : (l : Layout) (n : ℕ) (es : List EntryTree) (x : List ℕ) → has_shape x es ≡ false → is_array (symbol_with_name (symbols_from l n es) x) ≡ false
unfolding find
bare_from l n [] x h = refl
bare_from l n (e ∷ es) x h = go (bytes_eq x e.name) h (bare_from l (n + 1) es x)
  where
    go : (b : Bool) → of_entry false (λ y. is_some y.shape) (if b then Some e else find x es) ≡ false → (has_shape x es ≡ false → is_array (symbol_with_name (symbols_from l (n + 1) es) x) ≡ false) → is_array (if b then Some (symbol_of l n e) else symbol_with_name (symbols_from l (n + 1) es) x) ≡ false
    go true k ih = no_bounds e.shape k
    go false k ih = ih k

pub bounds_are_scalars : (p : ParsedTree) (ss : List SymbolTree) → Answered p ss → AllBounds ss ss
unfolding checked
bounds_are_scalars p ss a =
    let v = valued (lines_in p) p.module_read in
    let l = layout_in p in
    let none = stmts_back v.table (lines_in p) p.module_read.body 0 (check_shapes v.table v.table.entries v.found) (found_none p ss a) in
    subst (λ z. AllBounds z z) (sym a.table) (all_bounds v.table (symbols_in l) (bare_from l 0 v.table.entries) l 0 v.table.entries v.found none)
