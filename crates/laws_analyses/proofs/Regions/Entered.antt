-- What the tables of modules that are read give for the regions of their entries.
use Rattle.std.proofs.Common.{◌≡◌, ℕ, zero, suc, ◌+◌, ◌-◌, ◌<◌, Bool, true, false, not, ◌&&◌, ◌||◌, List, [], ◌∷◌, ◌++◌, length, map, Option, Some, None, Ok, refl, sym, ap, ap₂, ◌∙◌, subst, arith, true≢false}
use Rattle.std.specs.Prelude.{if◌then◌else◌, ◌*◌, is_some, nat_eq, nat_lt, bytes_eq, slice_get}
use Rattle.std.specs.List.{list_any}
use Rattle.std.proofs.lemmas.Bool.{and_from, and_parts, or_parts, not-false, eq-eqb}
use Rattle.f77_ast.specs.Trees.{ExprTree, ExprTrees}
use Rattle.f77_ast.specs.Trees as tree
use Rattle.f77_ast.specs.DeclTrees.{ParsedTree}
use Rattle.f77_ast.specs.Places.{Dim, dim_size, total_size}
use Rattle.f77_ast.specs.declared.constant.Constant.{Constant}
use Rattle.f77_ast.specs.declared.constant.Constant.TheVariants.{Int, Log}
use Rattle.f77_ast.specs.declared.constant.ConstantValue.{ConstantValue}
use Rattle.f77_ast.specs.declared.constant.ConstantValue.TheVariants.{Is, Faults, Varies}
use Rattle.f77_ast.specs.Constants.{turns_logical, gives_logical, named_const_value, const_value}
use Rattle.f77_ast.specs.declared.symbol.Place.{Place}
use Rattle.f77_ast.specs.declared.symbol.Place.TheVariants as place
use Rattle.f77_ast.specs.Symbols.{BoundTree, SymbolTree, constant_in, constant_at, value_in}
use Rattle.f77_ast.specs.Units.{span_units, span_to, bounds_units, units_in}
use Rattle.f77_ast.specs.Shared.{symbol_at}
use Rattle.fx_lists.specs.declared.code.Code.TheVariants.{BadDimension}
use Rattle.fx_lists.specs.declared.refusal.Refusal.{Refusal}
use Rattle.f77_names.specs.Entries.{ShapeTree, EntryTree, find, of_entry, has_shape, value_among}
use Rattle.f77_names.specs.Tables.{NameTable}
use Rattle.f77_checks.specs.Expressions.{check_expr}
use Rattle.f77_checks.specs.Dimensions.{is_adjustable, is_bad_const_value, const_value_in, is_bad_limit, is_below, is_bad_high, is_bad_bound, is_last, has_bad_bound, dims_of, is_too_big, is_bad_shape, check_maybe, check_bounds, check_shape, check_shapes}
use Rattle.storage_layout.specs.Symbols.{valued, checked, symbols_of}
use Rattle.storage_layout.specs.Table.{Layout, place_in, unless_dummy, unless_value, bounds_in, symbol_of, symbols_from, symbols_in}
use Rattle.tracked_cells.specs.Standing.{has_bounds}
use Rattle.tracked_cells.specs.Tracked.{tracked_of}
use Rattle.call_graph.specs.declared.graph.Graph.{Graph}
use Rattle.f77_meaning.specs.Areas.{Numbering, block, group, unit_at}
use Rattle.f77_meaning.specs.Modules.{Known, known_of, as_number, constant_high, dim_of, bound_of, as_dummy, dummies_from, laid_at, fixed_place, fixed_maybe, fixed, units_from, lost_units, all_lost}
use Rattle.preconditions.specs.transformer_algebra.Laws.{here, there}
use Rattle.preconditions.specs.call_translation.Scopes.{ScopeTree}
use Rattle.preconditions.specs.transformers.Given.{Callees}
use Rattle.affine_systems.specs.declared.row.System.{System}
use Rattle.in_out_regions.specs.region_sets.declared.region.Access.TheVariants.{Read}
use Rattle.in_out_regions.specs.region_sets.declared.region.Region.{Region}
use Rattle.in_out_regions.specs.array_regions.References.{is_constant, scalar, whole_of, whole}
use Rattle.in_out_regions.specs.array_regions.Reads.{reads, maybe_reads}
use Rattle.in_out_regions.specs.array_regions.Entry.{symbols_reads}
use Rattle.in_out_regions.specs.array_regions.Entry as entry
use Rattle.laws_programs.specs.SymbolTables.Shapes.{symbol_named, Shaped}
use Rattle.laws_programs.proofs.SymbolTables.Answers.{Answered, answered_by, lines_in, names_in, layout_in, found_none, names_have_dummies}
use Rattle.laws_programs.proofs.SymbolTables.DummyLaws.{no_dummy_offset_node, dummies_come_first}
use Rattle.laws_programs.proofs.SymbolTables.JudgedShapes.{expr_shaped}
use Rattle.laws_programs.proofs.SymbolTables.Marks.{marked, mark, marks, nones, dummy_marks}
use Rattle.laws_programs.proofs.SymbolTables.NameRefusals.{shapes_back}
use Rattle.laws_programs.proofs.SymbolTables.StatementRefusals.{expr_back, stmts_back}
use Rattle.laws_programs.specs.Storage.Programs.{IsModule, known}
use Rattle.laws_programs.specs.Storage.DataLaws.{ConstantsFit}
use Rattle.laws_programs.specs.Storage.CellLaws.{units}
use Rattle.laws_programs.proofs.Storage.ModuleLaws.{known_module}
use Rattle.laws_programs.proofs.Storage.UnitLaws.{values_same}
use Rattle.laws_analyses.specs.Statements.Laws.{scope_of, is_scalar_symbol, scalar_at, is_scalar}
use Rattle.call_graph.specs.CallsIn.{Each}
use Rattle.laws_analyses.specs.Calls.Parts.{NoDummy}
use Rattle.laws_analyses.specs.Parts.{part_of}
use Rattle.laws_analyses.proofs.DummyLaws.{listed, told, listed_dummy}
use Rattle.laws_analyses.specs.Regions.Programs.{OpenLast, ConstantIs, ConstantsAre, FixedFits}
use Rattle.laws_analyses.specs.Regions.Entries.{is_bare, maybe_bare, are_bare, all_bare, bounds_reads, dummies_reads, Enters}
use Rattle.laws_analyses.proofs.Regions.Names.{Found, missing, at_place, found}
use Rattle.laws_programs.proofs.Bounds.{maybe_back, bounds_back, no_bounds as no_shape, varies, unary_steady, binary_steady}
use Rattle.f77_ast.proofs.StorageLaws.{from_number as numbered_place, to_number as next_symbol}
use Rattle.call_graph.specs.Visible.{is_local}
use Rattle.laws_programs.proofs.Effects.Passing.{of_symbols as lost_among}
use Rattle.fx_lists.proofs.Refused.{none_refused}
use Rattle.fx_lists.proofs.Lookups.{any_at}
use Rattle.preconditions.proofs.TransformerAlgebra.Members.{in_at}

-- ---- no array element

-- names and constants, and what is put together of them
abbrev is_flat : ExprTree → Bool
is_flat (tree.int n) = true
is_flat (tree.log b) = true
is_flat (tree.name x) = true
is_flat (tree.element x es) = false
is_flat (tree.paren e) = is_flat e
is_flat (tree.unary o e) = is_flat e
is_flat (tree.binary o a b) = is_flat a && is_flat b
is_flat (tree.chars x) = false

flat_steady : (v : List ℕ → Option Constant) (e : ExprTree) → varies (const_value v e) ≡ false → is_flat e ≡ true
flat_steady v (tree.int n) h = refl
flat_steady v (tree.log b) h = refl
flat_steady v (tree.name x) h = refl
flat_steady v (tree.element x es) h = absurd (true≢false h)
flat_steady v (tree.paren e) h = flat_steady v e h
flat_steady v (tree.unary o e) h = flat_steady v e (unary_steady o (const_value v e) h)
flat_steady v (tree.binary o a b) h = let r = binary_steady o (const_value v a) (const_value v b) h in and_from (is_flat a) (is_flat b) (flat_steady v a r.0) (flat_steady v b r.1)
flat_steady v (tree.chars x) h = absurd (true≢false h)

flat_adjustable : (t : NameTable) (e : ExprTree) → is_adjustable t e ≡ true → is_flat e ≡ true
flat_adjustable t (tree.int n) h = refl
flat_adjustable t (tree.log b) h = refl
flat_adjustable t (tree.name x) h = refl
flat_adjustable t (tree.element x es) h = h
flat_adjustable t (tree.paren e) h = flat_adjustable t e h
flat_adjustable t (tree.unary o e) h = flat_adjustable t e (and_parts (not (turns_logical o)) (is_adjustable t e) h).1
flat_adjustable t (tree.binary o a b) h =
    let both = and_parts (is_adjustable t a) (is_adjustable t b) (and_parts (not (gives_logical o)) (is_adjustable t a && is_adjustable t b) h).1 in
    and_from (is_flat a) (is_flat b) (flat_adjustable t a both.0) (flat_adjustable t b both.1)
flat_adjustable t (tree.chars x) h = h

flat_limit : (t : NameTable) (dummy : Bool) (e : ExprTree) → is_bad_limit t dummy e ≡ false → is_flat e ≡ true
flat_limit t dummy e h = go (const_value_in t e) refl h
  where
    go : (w : ConstantValue) → const_value_in t e ≡ w → is_bad_const_value t dummy e w ≡ false → is_flat e ≡ true
    go (Is c) q k = flat_steady (value_among t.entries) e (ap varies q)
    go Faults q k = flat_steady (value_among t.entries) e (ap varies q)
    go Varies q k = flat_adjustable t e (and_parts dummy (is_adjustable t e) (not-false (dummy && is_adjustable t e) k)).1

-- a bound of an array that is no dummy is constant
steady_limit : (t : NameTable) (e : ExprTree) → is_bad_limit t false e ≡ false → varies (const_value_in t e) ≡ false
steady_limit t e h = go (const_value_in t e) h
  where
    go : (w : ConstantValue) → is_bad_const_value t false e w ≡ false → varies w ≡ false
    go (Is c) k = refl
    go Faults k = refl
    go Varies k = absurd (true≢false k)

-- ---- constants

value_named : (ss : List SymbolTree) (x : List ℕ) (c : Constant) (s : SymbolTree) → value_in ss x ≡ Some c → symbol_named ss x ≡ Some s → constant_at s ≡ Some c
value_named [] x c s v h = cc
value_named (t ∷ ss) x c s v h = go (bytes_eq x t.name) v h (value_named ss x c s)
  where
    go : (b : Bool) → (if b then constant_at t else value_in ss x) ≡ Some c → (if b then Some t else symbol_named ss x) ≡ Some s → (value_in ss x ≡ Some c → symbol_named ss x ≡ Some s → constant_at s ≡ Some c) → constant_at s ≡ Some c
    go true i j ih = let same : t ≡ s = cc in subst (λ (y : SymbolTree). constant_at y ≡ Some c) same i
    go false i j ih = ih i j

constant_place : (s : SymbolTree) (c : Constant) (p : Place) → constant_in s.scalar p ≡ Some c → is_constant p ≡ true
constant_place s c (place.Local g o) h = cc
constant_place s c (place.Dummy n) h = cc
constant_place s c (place.Block b o) h = cc
constant_place s c (place.Constant v) h = refl

module _ (ss : List SymbolTree) (flags : List Bool) where
  abbrev m : ScopeTree
  m = scope_of ss flags

  none_read : (x : List ℕ) (c : Constant) → value_in ss x ≡ Some c → whole (scope_of ss flags) Read x ≡ []
  none_read x c v = go (found 1 ss x)
    where
      by_symbol : ℕ → Option SymbolTree → List Region
      by_symbol n None = []
      by_symbol n (Some t) = if is_constant t.place then [] else scalar Read n ∷ []

      go : Found 1 ss x → whole (scope_of ss flags) Read x ≡ []
      go (missing q) = ap (whole_of (scope_of ss flags) Read) q
      go (at_place i k s same q e d n) =
          let number : k ≡ suc i = omega (arith, same) in
          let symbol : symbol_at ss k ≡ Some s = ap (symbol_at ss) number ∙ next_symbol ss i s e in
          ap (whole_of (scope_of ss flags) Read) q ∙ (ap (by_symbol k) symbol ∙ ap (λ b. if b then [] else scalar Read k ∷ []) (constant_place s c s.place (value_named ss x c s v d)))

  -- an expression that is constant reads nothing
  steady_reads : (e : ExprTree) → varies (const_value (value_in ss) e) ≡ false → reads e (scope_of ss flags) ≡ []
  steady_reads (tree.int n) h = refl
  steady_reads (tree.log b) h = refl
  steady_reads (tree.name x) h = go (value_in ss x) refl h
    where
      go : (o : Option Constant) → value_in ss x ≡ o → varies (named_const_value o) ≡ false → whole (scope_of ss flags) Read x ≡ []
      go None q k = absurd (true≢false k)
      go (Some c) q k = none_read x c q
  steady_reads (tree.element x es) h = absurd (true≢false h)
  steady_reads (tree.paren e) h = steady_reads e h
  steady_reads (tree.unary o e) h = steady_reads e (unary_steady o (const_value (value_in ss) e) h)
  steady_reads (tree.binary o a b) h =
      let r = binary_steady o (const_value (value_in ss) a) (const_value (value_in ss) b) h in
      ap₂ (λ (xs ys : List Region). xs ++ ys) (steady_reads a r.0) (steady_reads b r.1)
  steady_reads (tree.chars x) h = refl

  -- bounds as they are written read the same
  same_reads : (bs : List BoundTree) → entry.bounds_reads bs (scope_of ss flags) ≡ bounds_reads (map bound_of bs) (scope_of ss flags)
  same_reads [] = refl
  same_reads (b ∷ bs) = ap (λ (xs : List Region). reads b.low (scope_of ss flags) ++ (maybe_reads b.high (scope_of ss flags) ++ xs)) (same_reads bs)

  -- ---- bounds that are not refused

  abbrev anything : List ℕ → ExprTrees → Type 0
  anything x es = Unit {0}

  abbrev Scalar : List ℕ → Type 0
  Scalar x = is_scalar ss x ≡ true

  bare_from : (e : ExprTree) → Shaped Scalar anything e → is_flat e ≡ true → is_bare (is_scalar ss) e ≡ true
  bare_from (tree.int n) h f = refl
  bare_from (tree.log b) h f = refl
  bare_from (tree.name x) h f = h
  bare_from (tree.element x es) h f = f
  bare_from (tree.paren e) h f = bare_from e h f
  bare_from (tree.unary o e) h f = bare_from e h f
  bare_from (tree.binary o a b) h f = let q = and_parts (is_flat a) (is_flat b) f in and_from (is_bare (is_scalar ss) a) (is_bare (is_scalar ss) b) (bare_from a h.0 q.0) (bare_from b h.1 q.1)
  bare_from (tree.chars x) h f = refl

  module _ (t : NameTable) (same : value_in ss ≡ value_among t.entries) (bare : (x : List ℕ) → has_shape x t.entries ≡ false → is_scalar ss x ≡ true) where
    limit : (dummy : Bool) (e : ExprTree) (line : ℕ) (o : Option Refusal) → check_expr t e line o ≡ None → is_bad_limit t dummy e ≡ false → is_bare (is_scalar ss) e ≡ true
    limit dummy e line o j h = bare_from e (expr_shaped t Scalar anything bare (λ x es i. tt) e line o j) (flat_limit t dummy e h)

    nothing : (e : ExprTree) → is_bad_limit t false e ≡ false → reads e (scope_of ss flags) ≡ []
    nothing e h = steady_reads e (subst (λ (v : List ℕ → Option Constant). varies (const_value v e) ≡ false) (sym same) (steady_limit t e h))

    high : (dummy last : Bool) (low : ExprTree) (e : Option ExprTree) (line : ℕ) (o : Option Refusal) → check_maybe t e line o ≡ None → is_bad_high t dummy last low e ≡ false → maybe_bare (is_scalar ss) e ≡ true
    high dummy last low None line o j h = refl
    high dummy last low (Some e) line o j h = limit dummy e line o j (or_parts (is_bad_limit t dummy e) (is_below (const_value_in t e) (const_value_in t low)) h).0

    high_nothing : (last : Bool) (low : ExprTree) (e : Option ExprTree) → is_bad_high t false last low e ≡ false → maybe_reads e (scope_of ss flags) ≡ []
    high_nothing last low None h = refl
    high_nothing last low (Some e) h = nothing e (or_parts (is_bad_limit t false e) (is_below (const_value_in t e) (const_value_in t low)) h).0

    bounds_bare : (dummy : Bool) (bs : List BoundTree) (line : ℕ) (o : Option Refusal) → check_bounds t bs line o ≡ None → has_bad_bound t dummy bs ≡ false → are_bare (is_scalar ss) (map bound_of bs) ≡ true
    bounds_bare dummy [] line o j h = refl
    bounds_bare dummy (b ∷ bs) line o j h =
        let first = check_expr t b.low line o in
        let second = check_maybe t b.high line first in
        let one = bounds_back t bs line second j in
        let two = maybe_back t b.high line first one in
        let all = or_parts (is_bad_bound t dummy (is_last bs) b) (has_bad_bound t dummy bs) h in
        let own = or_parts (is_bad_limit t dummy b.low) (is_bad_high t dummy (is_last bs) b.low b.high) all.0 in
        and_from (is_bare (is_scalar ss) b.low) (maybe_bare (is_scalar ss) b.high && are_bare (is_scalar ss) (map bound_of bs)) (limit dummy b.low line o two own.0)
        (and_from (maybe_bare (is_scalar ss) b.high) (are_bare (is_scalar ss) (map bound_of bs)) (high dummy (is_last bs) b.low b.high line first one own.1) (bounds_bare dummy bs line second j all.1))

    bounds_nothing : (bs : List BoundTree) → has_bad_bound t false bs ≡ false → entry.bounds_reads bs (scope_of ss flags) ≡ []
    bounds_nothing [] h = refl
    bounds_nothing (b ∷ bs) h =
        let all = or_parts (is_bad_bound t false (is_last bs) b) (has_bad_bound t false bs) h in
        let own = or_parts (is_bad_limit t false b.low) (is_bad_high t false (is_last bs) b.low b.high) all.0 in
        ap₂ (λ (xs ys : List Region). xs ++ ys) (nothing b.low own.0) (ap₂ (λ (xs ys : List Region). xs ++ ys) (high_nothing (is_last bs) b.low b.high own.1) (bounds_nothing bs all.1))

    -- a bound of an array that is no dummy is an INTEGER
    int_limit : (e : ExprTree) → is_bad_limit t false e ≡ false → const_value (value_in ss) e ≡ Is (Int (as_number (const_value (value_in ss) e)))
    int_limit e h = subst (λ (v : List ℕ → Option Constant). const_value v e ≡ Is (Int (as_number (const_value v e)))) (sym same) (go (const_value_in t e) h)
      where
        go : (w : ConstantValue) → is_bad_const_value t false e w ≡ false → w ≡ Is (Int (as_number w))
        go (Is (Int n)) k = refl
        go (Is (Log b)) k = absurd (true≢false k)
        go Faults k = absurd (true≢false k)
        go Varies k = absurd (true≢false k)

    constant_bound : (last : Bool) (b : BoundTree) → is_bad_bound t false last b ≡ false → ConstantIs (value_in ss) b (dim_of ss b)
    constant_bound last b h = go b.high refl own.1
      where
        own : (is_bad_limit t false b.low ≡ false) × (is_bad_high t false last b.low b.high ≡ false)
        own = or_parts (is_bad_limit t false b.low) (is_bad_high t false last b.low b.high) h

        go : (o : Option ExprTree) → b.high ≡ o → is_bad_high t false last b.low o ≡ false → ConstantIs (value_in ss) b (dim_of ss b)
        go None q k = absurd (true≢false k)
        go (Some e) q k = record {
          low = int_limit b.low own.0;
          high = e;
          is_high = q;
          last = as_number (const_value (value_in ss) e);
          last_const_value = int_limit e (or_parts (is_bad_limit t false e) (is_below (const_value_in t e) (const_value_in t b.low)) k).0;
          number = ap (constant_high ss) q;
        }

    all_constant : (bs : List BoundTree) → has_bad_bound t false bs ≡ false → ConstantsAre (value_in ss) bs (map (dim_of ss) bs)
    all_constant [] h = tt
    all_constant (b ∷ bs) h =
        let q = or_parts (is_bad_bound t false (is_last bs) b) (has_bad_bound t false bs) h in
        (constant_bound (is_last bs) b q.0, all_constant bs q.1)

    -- the last bound alone may be `*`
    last_open : (dummy : Bool) (bs : List BoundTree) → has_bad_bound t dummy bs ≡ false → OpenLast bs
    last_open dummy [] h = tt
    last_open dummy (b ∷ []) h = tt
    last_open dummy (b ∷ (c ∷ bs)) h =
        let q = or_parts (is_bad_bound t dummy false b) (has_bad_bound t dummy (c ∷ bs)) h in
        let own = or_parts (is_bad_limit t dummy b.low) (is_bad_high t dummy false b.low b.high) q.0 in
        (closed dummy b.low b.high own.1, last_open dummy (c ∷ bs) q.1)
      where
        closed : (dummy : Bool) (low : ExprTree) (o : Option ExprTree) → is_bad_high t dummy false low o ≡ false → is_some o ≡ true
        closed true low None k = absurd (true≢false k)
        closed false low None k = absurd (true≢false k)
        closed dummy low (Some e) k = refl

    -- of a name
    record Checked (dummy : Bool) (bs : List BoundTree) : Type 0 where
      bare_bounds : are_bare (is_scalar ss) (map bound_of bs) ≡ true
      no_reads : dummy ≡ false → entry.bounds_reads bs (scope_of ss flags) ≡ []
      constant : dummy ≡ false → ConstantsAre (value_in ss) bs (map (dim_of ss) bs)
      open_last : OpenLast bs

    shape_checked : (dummy : Bool) (s : Option ShapeTree) (o : Option Refusal) → check_shape t dummy s o ≡ None → Checked dummy (bounds_in s)
    shape_checked dummy None o j = record { bare_bounds = refl; no_reads = λ d. refl; constant = λ d. tt; open_last = tt }
    shape_checked dummy (Some s) o j =
        let r = none_refused (is_bad_shape t dummy s.bounds) s.line BadDimension (check_bounds t s.bounds s.line o) j in
        let few = or_parts (nat_lt 7 (length s.bounds)) (has_bad_bound t dummy s.bounds || is_too_big (dims_of t s.bounds)) r.0 in
        let good = or_parts (has_bad_bound t dummy s.bounds) (is_too_big (dims_of t s.bounds)) few.1 in
        record {
          bare_bounds = bounds_bare dummy s.bounds s.line o r.1 good.0;
          no_reads = λ d. bounds_nothing s.bounds (ap (λ b. has_bad_bound t b s.bounds) (sym d) ∙ good.0);
          constant = λ d. all_constant s.bounds (ap (λ b. has_bad_bound t b s.bounds) (sym d) ∙ good.0);
          open_last = last_open dummy s.bounds good.0;
        }

    -- ---- symbols, from the number j on

    -- of a symbol
    abbrev BoundsAre : SymbolTree → Type 0
    BoundsAre s = OpenLast s.bounds × (((k : ℕ) → s.place ≡ place.Dummy k → ⊥) → ConstantsAre (value_in ss) s.bounds (map (dim_of ss) s.bounds))

    record EnteredFrom (j : ℕ) (xs : List SymbolTree) : Type 0 where
      all : all_bare (is_scalar ss) (dummies_from j xs) ≡ true
      same_all : symbols_reads xs (scope_of ss flags) ≡ dummies_reads (dummies_from j xs) (scope_of ss flags)
      fits : Each BoundsAre xs

    a_dummy : (j m : ℕ) (s : SymbolTree) (xs : List SymbolTree) → s.place ≡ place.Dummy m → are_bare (is_scalar ss) (map bound_of s.bounds) ≡ true → OpenLast s.bounds → EnteredFrom (suc j) xs → EnteredFrom j (s ∷ xs)
    a_dummy j m s xs p b w r = record {
      all = ap (all_bare (is_scalar ss)) (listed j s xs m p) ∙ and_from (are_bare (is_scalar ss) (map bound_of s.bounds)) (all_bare (is_scalar ss) (dummies_from (suc j) xs)) b r.all;
      same_all = ap₂ (λ (ys zs : List Region). ys ++ zs) (same_reads s.bounds) r.same_all ∙ ap (λ ds. dummies_reads ds (scope_of ss flags)) (sym (listed j s xs m p));
      fits = ((w, λ no. absurd (no m p)), r.fits);
    }

    as_none : (j : ℕ) (s : SymbolTree) (p : Place) → ((k : ℕ) → p ≡ place.Dummy k → ⊥) → as_dummy j s p ≡ []
    as_none j s (place.Local g o) h = refl
    as_none j s (place.Dummy k) h = absurd (h k refl)
    as_none j s (place.Block b o) h = refl
    as_none j s (place.Constant v) h = refl

    no_dummy : (j : ℕ) (s : SymbolTree) (xs : List SymbolTree) → ((k : ℕ) → s.place ≡ place.Dummy k → ⊥) → entry.bounds_reads s.bounds (scope_of ss flags) ≡ [] → OpenLast s.bounds → ConstantsAre (value_in ss) s.bounds (map (dim_of ss) s.bounds) → EnteredFrom (suc j) xs → EnteredFrom j (s ∷ xs)
    no_dummy j s xs p b w v r =
        let gone : dummies_from j (s ∷ xs) ≡ dummies_from (suc j) xs = ap (λ ds. ds ++ dummies_from (suc j) xs) (as_none j s s.place p) in
        record {
          all = ap (all_bare (is_scalar ss)) gone ∙ r.all;
          same_all = ap (λ (ys : List Region). ys ++ symbols_reads xs (scope_of ss flags)) b ∙ (r.same_all ∙ ap (λ ds. dummies_reads ds (scope_of ss flags)) (sym gone));
          fits = ((w, λ no. v), r.fits);
        }

    abbrev mark_number : Option (ℕ × Option Constant) → ℕ
    mark_number None = 0
    mark_number (Some q) = q.0

    abbrev mark_value : Option (ℕ × Option Constant) → Option Constant
    mark_value None = None
    mark_value (Some q) = q.1

    marked_place : (d : Option ℕ) (v : Option Constant) (p : Place) (n : ℕ) → marked d v ≡ Some (n, None) → unless_value v (unless_dummy d p) ≡ place.Dummy n
    marked_place None v p n e = cc
    marked_place (Some k) None p n e = ap place.Dummy (ap mark_number e)
    marked_place (Some k) (Some c) p n e = let z : Some c ≡ None = ap mark_value e in cc

    unmarked : (d : Option ℕ) (v : Option Constant) → marked d v ≡ None → d ≡ None
    unmarked None v e = refl
    unmarked (Some k) v e = cc

    unmarked_place : (l : Layout) (x : EntryTree) (at : ℕ) → x.dummy ≡ None → (k : ℕ) → (symbol_of l at x).place ≡ place.Dummy k → ⊥
    unmarked_place l x at d k h = go x.value (ap (λ o. unless_value x.value (unless_dummy o (place_in l (slice_get l.offset_nodes at)))) (sym d) ∙ h)
      where
        go : (v : Option Constant) → unless_value v (place_in l (slice_get l.offset_nodes at)) ≡ place.Dummy k → ⊥
        go None q = no_dummy_offset_node l (slice_get l.offset_nodes at) k q
        go (Some c) q = cc

    among : (l : Layout) (at j n c k : ℕ) (es : List EntryTree) (o : Option Refusal) → marks es ≡ dummy_marks n c ++ nones k → check_shapes t es o ≡ None → EnteredFrom j (symbols_from l at es)
    among l at j n zero k [] o e h = record { all = refl; same_all = refl; fits = tt }
    among l at j n zero zero (x ∷ es) o e h = cc
    among l at j n zero (suc k) (x ∷ es) o e h =
        let here : mark x ≡ None = cc in
        let rest : marks es ≡ nones k = cc in
        let none = unmarked x.dummy x.value here in
        let next = check_shape t (is_some x.dummy) x.shape o in
        let own = shape_checked (is_some x.dummy) x.shape o (shapes_back t es next h) in
        no_dummy j (symbol_of l at x) (symbols_from l (at + 1) es) (unmarked_place l x at none) (own.no_reads (ap is_some none)) own.open_last (own.constant (ap is_some none)) (among l (at + 1) (suc j) n zero k es next rest h)
    among l at j n (suc c) k [] o e h = cc
    among l at j n (suc c) k (x ∷ es) o e h =
        let here : mark x ≡ Some (n, None) = cc in
        let rest : marks es ≡ dummy_marks (suc n) c ++ nones k = cc in
        let next = check_shape t (is_some x.dummy) x.shape o in
        let own = shape_checked (is_some x.dummy) x.shape o (shapes_back t es next h) in
        a_dummy j n (symbol_of l at x) (symbols_from l (at + 1) es) (marked_place x.dummy x.value (place_in l (slice_get l.offset_nodes at)) n here) own.bare_bounds own.open_last (among l (at + 1) (suc j) (suc n) c k es next rest h)

-- ---- names of scalars

named_flat : (l : Layout) (n : ℕ) (es : List EntryTree) (x : List ℕ) (s : SymbolTree) → has_shape x es ≡ false → symbol_named (symbols_from l n es) x ≡ Some s → has_bounds s.bounds ≡ false
unfolding find
named_flat l n [] x s h q = cc
named_flat l n (e ∷ es) x s h q = go (bytes_eq x e.name) h q (named_flat l (n + 1) es x s)
  where
    go : (b : Bool) → of_entry false (λ y. is_some y.shape) (if b then Some e else find x es) ≡ false → (if b then Some (symbol_of l n e) else symbol_named (symbols_from l (n + 1) es) x) ≡ Some s → (has_shape x es ≡ false → symbol_named (symbols_from l (n + 1) es) x ≡ Some s → has_bounds s.bounds ≡ false) → has_bounds s.bounds ≡ false
    go true k r ih = let same : symbol_of l n e ≡ s = cc in subst (λ (y : SymbolTree). has_bounds y.bounds ≡ false) same (no_shape e.shape k)
    go false k r ih = ih k r

scalar_named : (l : Layout) (ss : List SymbolTree) → ss ≡ symbols_in l → (x : List ℕ) → has_shape x l.table.entries ≡ false → is_scalar ss x ≡ true
scalar_named l ss table x h = go (found 1 ss x)
  where
    go : Found 1 ss x → is_scalar ss x ≡ true
    go (missing q) = ap (scalar_at ss) q
    go (at_place i k s same q e d n) =
        let number : k ≡ suc i = omega (arith, same) in
        let symbol : symbol_at ss k ≡ Some s = ap (symbol_at ss) number ∙ next_symbol ss i s e in
        ap (scalar_at ss) q ∙ (ap is_scalar_symbol symbol ∙ ap not (named_flat l 0 l.table.entries x s h (ap (λ z. symbol_named z x) (sym table) ∙ d)))

-- ---- units of locals

units_place : (first n j : ℕ) → j < n → slice_get (units_from first n) j ≡ Some (first + j)
units_place first zero j h = absurd (omega (arith, h))
units_place first (suc n) zero h = ap Some (omega arith)
units_place first (suc n) (suc j) h = units_place (suc first) n j (omega (arith, h)) ∙ ap Some (omega arith)

-- a unit of a local that is not saved
local_lost : (n : Numbering) (k : Known) (v : ℕ) (s : SymbolTree) (j : ℕ) → symbol_at k.symbols v ≡ Some s → is_local s.place ≡ true → s.saved ≡ false → j < (fixed n k v).extent → list_any (λ w. nat_eq w ((fixed n k v).first + j)) (all_lost n k.read.name k.symbols k.symbols) ≡ true
local_lost n k v s j e l kept h = go s.place refl l
  where
    at : fixed n k v ≡ fixed_place n k.read.name k.symbols s s.place
    at = ap (fixed_maybe n k.read.name k.symbols) e

    go : (p : Place) → s.place ≡ p → is_local p ≡ true → list_any (λ w. nat_eq w ((fixed n k v).first + j)) (all_lost n k.read.name k.symbols k.symbols) ≡ true
    go (place.Local g o) q l =
        let there : fixed n k v ≡ laid_at (unit_at n (group k.read.name g) o) k.symbols s = at ∙ ap (fixed_place n k.read.name k.symbols s) q in
        let first = ap (λ z. z.first) there in
        let extent = ap (λ z. z.extent) there in
        let u : (fixed n k v).first + j ≡ unit_at n (group k.read.name g) o + j = ap (λ z. z + j) first in
        let inside : j < units_in k.symbols s = omega (arith, h, extent) in
        let units = any_at (λ w. nat_eq w (unit_at n (group k.read.name g) o + j)) (units_from (unit_at n (group k.read.name g) o) (units_in k.symbols s)) j (unit_at n (group k.read.name g) o + j) (units_place (unit_at n (group k.read.name g) o) (units_in k.symbols s) j inside) (eq-eqb (unit_at n (group k.read.name g) o + j) (unit_at n (group k.read.name g) o + j) refl) in
        let here : list_any (λ w. nat_eq w (unit_at n (group k.read.name g) o + j)) (lost_units n k.read.name k.symbols s (place.Local g o)) ≡ true = ap (λ b. list_any (λ w. nat_eq w (unit_at n (group k.read.name g) o + j)) (if b then [] else units_from (unit_at n (group k.read.name g) o) (units_in k.symbols s))) kept ∙ units in
        subst (λ y. list_any (λ w. nat_eq w y) (all_lost n k.read.name k.symbols k.symbols) ≡ true) (sym u)
        (lost_among n k.read.name k.symbols k.symbols (v - 1) s (unit_at n (group k.read.name g) o + j) (numbered_place k.symbols v s e) (ap (λ p. list_any (λ w. nat_eq w (unit_at n (group k.read.name g) o + j)) (lost_units n k.read.name k.symbols s p)) q ∙ here))
    go (place.Dummy m) q l = absurd (true≢false (sym l))
    go (place.Block b o) q l = absurd (true≢false (sym l))
    go (place.Constant c) q l = absurd (true≢false (sym l))

-- ---- a module

module _ (ps : List ParsedTree) (sss : List (List SymbolTree)) (g : Graph) (i : ℕ) (p : ParsedTree) (ss : List SymbolTree) (is_module : IsModule ps sss i p ss) (laid : symbols_of p ≡ Ok ss) (fit : ConstantsFit ss) where
  answered : Answered p ss
  answered = answered_by p ss laid

  abbrev flags : List Bool
  flags = tracked_of p.module_read ss g.untracked

  entered_from : EnteredFrom ss flags (names_in p) (values_same p ss answered fit) (scalar_named (layout_in p) ss answered.table) 1 ss
  unfolding checked
  entered_from =
      let v = valued (lines_in p) p.module_read in
      let d = names_have_dummies p ss answered in
      let none = stmts_back v.table (lines_in p) p.module_read.body 0 (check_shapes v.table v.table.entries v.found) (found_none p ss answered) in
      subst (EnteredFrom ss flags (names_in p) (values_same p ss answered fit) (scalar_named (layout_in p) ss answered.table) 1) (sym answered.table)
      (among ss flags (names_in p) (values_same p ss answered fit) (scalar_named (layout_in p) ss answered.table) (layout_in p) 0 1 1 (length p.module_read.dummies) d.others (names_in p).entries v.found d.are none)

  each_at : (P : SymbolTree → Type 0) (xs : List SymbolTree) (j : ℕ) (s : SymbolTree) → Each P xs → slice_get xs j ≡ Some s → P s
  each_at P [] j s h e = cc
  each_at P (x ∷ xs) zero s h e = (let same : x ≡ s = cc in subst P same h.0)
  each_at P (x ∷ xs) (suc j) s h e = each_at P xs j s h.1 e

  symbol_fits : (n : ℕ) (s : SymbolTree) → symbol_at ss n ≡ Some s → OpenLast s.bounds × (((k : ℕ) → s.place ≡ place.Dummy k → ⊥) → ConstantsAre (value_in ss) s.bounds (map (dim_of ss) s.bounds))
  symbol_fits n s e = each_at (λ (s : SymbolTree). OpenLast s.bounds × (((k : ℕ) → s.place ≡ place.Dummy k → ⊥) → ConstantsAre (value_in ss) s.bounds (map (dim_of ss) s.bounds))) ss (n - 1) s entered_from.fits (numbered_place ss n s e)

  pub module_open : (n : ℕ) (s : SymbolTree) → symbol_at ss n ≡ Some s → OpenLast s.bounds
  module_open n s e = (symbol_fits n s e).0

  -- as many units as bounds say
  sizes_of : (v : List ℕ → Option Constant) (bs : List BoundTree) (ds : List Dim) → ConstantsAre v bs ds → bounds_units v bs ≡ total_size ds
  sizes_of v [] [] h = refl
  sizes_of v [] (d ∷ ds) h = absurd h
  sizes_of v (b ∷ bs) [] h = absurd h
  sizes_of v (b ∷ bs) (d ∷ ds) h =
      let c = h.0 in
      let one : span_to v (const_value v b.low) b.high ≡ dim_size d =
      ap (λ w. span_to v w b.high) c.low ∙ (ap (span_to v (Is (Int d.low))) c.is_high ∙ (ap (span_units (Is (Int d.low))) c.last_const_value ∙ ap (λ z. dim_size (record { low = d.low; high = z })) (sym c.number))) in
      let rest = sizes_of v bs ds h.1 in
      λ i. one i * rest i

  pub module_fits : (cs : Callees) (holds : System) (n : ℕ) (s : SymbolTree) → symbol_at ss n ≡ Some s → is_constant s.place ≡ false → NoDummy (dummies_from 1 ss) n → FixedFits (part_of (known_of ps sss) g cs holds (known p ss)) s n
  module_fits cs holds n s e stored none = go s.place refl
    where
      N : Numbering
      N = units ps sss g

      no : (k : ℕ) → s.place ≡ place.Dummy k → ⊥
      no k q = (let r = listed_dummy ss (length p.module_read.dummies) (dummies_come_first p ss laid) n k s e q in none (record { at = k - 1; dummy = r.0; is_dummy = r.1; symbol = r.2 }))

      made : (first : ℕ) → fixed (units ps sss g) (known p ss) n ≡ laid_at first ss s → FixedFits (part_of (known_of ps sss) g cs holds (known p ss)) s n
      made first lies =
          let constants = (symbol_fits n s e).1 no in
          record {
            sizes = subst (λ (z : _). z.extent ≡ total_size z.dims) (sym lies) (sizes_of (value_in ss) s.bounds (map (dim_of ss) s.bounds) constants);
            constants = subst (λ (z : _). ConstantsAre (value_in ss) s.bounds z.dims) (sym lies) constants;
          }

      go : (q : Place) → s.place ≡ q → FixedFits (part_of (known_of ps sss) g cs holds (known p ss)) s n
      go (place.Local h o) q = made (unit_at (units ps sss g) (group p.module_read.name h) o) (ap (fixed_maybe (units ps sss g) p.module_read.name ss) e ∙ ap (fixed_place (units ps sss g) p.module_read.name ss s) q)
      go (place.Dummy k) q = absurd (no k q)
      go (place.Block y o) q = made (unit_at (units ps sss g) (block y) o) (ap (fixed_maybe (units ps sss g) p.module_read.name ss) e ∙ ap (fixed_place (units ps sss g) p.module_read.name ss s) q)
      go (place.Constant v) q = absurd (true≢false (sym (ap is_constant q) ∙ stored))

  local_no_dummy : (n : ℕ) (s : SymbolTree) → symbol_at ss n ≡ Some s → is_local s.place ≡ true → NoDummy (dummies_from 1 ss) n
  local_no_dummy n s e l o =
      let t = told ss (length p.module_read.dummies) (dummies_come_first p ss laid) o.at o.dummy o.is_dummy in
      let same : t.symbol ≡ s = (let z : Some t.symbol ≡ Some s = sym t.is_symbol ∙ ap (symbol_at ss) o.symbol ∙ e in cc) in
      true≢false (sym l ∙ (ap (λ (z : SymbolTree). is_local z.place) (sym same) ∙ ap is_local t.lies))

  pub module_enters : (cs : Callees) (holds : System) → Enters (known_of ps sss) g (part_of (known_of ps sss) g cs holds (known p ss))
  module_enters cs holds = record {
    bare = entered_from.all;
    reads = entered_from.same_all;
    local = local_no_dummy;
    lost = λ n s j e l kept h. record {
      known = known p ss;
      is_one = in_at (known_of ps sss) i (known p ss) (known_module ps sss i p ss is_module);
      named = refl;
      lost = local_lost (units ps sss g) (known p ss) n s j e l kept h;
    };
  }
