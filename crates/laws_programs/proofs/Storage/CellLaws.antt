-- Tracked cells: what they are, where they lie, and that they stand alone.
use Rattle.std.proofs.Common.{◌≡◌, ℕ, ◌-◌, Bool, true, false, not, List, [], ◌∷◌, Option, Some, None, refl, sym, ap, ◌∙◌, subst, arith}
use Rattle.std.specs.Prelude.{is_none, slice_get, map}
use Rattle.std.specs.List.{list_any}
use Rattle.std.proofs.lemmas.Bool.{and_parts, not-true}
use Rattle.f77_ast.specs.declared.decl.Scalar.{Scalar}
use Rattle.f77_ast.specs.declared.decl.Scalar.TheVariants as scalar
use Rattle.f77_ast.specs.DeclTrees.{ParsedTree}
use Rattle.f77_ast.specs.Store as tag
use Rattle.f77_ast.specs.Places.{Place as RunPlace, scalar_place}
use Rattle.f77_ast.specs.Calls.{in_place}
use Rattle.f77_ast.specs.declared.symbol.Place.{Place}
use Rattle.f77_ast.specs.declared.symbol.Place.TheVariants as place
use Rattle.f77_ast.specs.Symbols.{BoundTree, SymbolTree, number_from, value_in}
use Rattle.f77_ast.specs.Units.{units_in, bounds_units}
use Rattle.f77_ast.specs.Shared.{symbol_at}
use Rattle.tracked_cells.specs.Equivalences.{equivalenced_names}
use Rattle.tracked_cells.specs.Standing.{is_int, has_bounds, is_int_scalar, is_plain, untracks}
use Rattle.tracked_cells.specs.Untracked.{untracked_of}
use Rattle.tracked_cells.specs.Tracked.{is_unit, is_alone, is_tracked}
use Rattle.call_graph.specs.declared.graph.Graph.{Graph}
use Rattle.f77_meaning.specs.Areas.{Area, block, group, Numbering, unit_at}
use Rattle.f77_meaning.specs.Modules.{Known, known_of, tag_of, dim_of, laid_at, fixed, fixed_place, fixed_maybe}
use Rattle.f77_meaning.specs.Linked.{offset_in}
use Rattle.f77_meaning.specs.Laws.{area_of}
use Rattle.f77_meaning.proofs.CellLaws.{cells_are_alone}
use Rattle.f77_meaning.proofs.CommonCellLaws.{common_cells_are_alone}
use Rattle.laws_programs.specs.Storage.Programs.{IsLinked, IsModule, IsCell, known}
use Rattle.laws_programs.specs.Storage.CellLaws.{units, CellsAreScalars, CellsHavePlaces, CellsStandAlone}
use Rattle.laws_programs.proofs.Storage.ModuleLaws.{declared, untracked_are, area_known}
use Rattle.laws_programs.proofs.Storage.PlaceLaws.{Lies, somewhere, missing, lies, missing_has_none, unit_of_name}
use Rattle.laws_programs.proofs.Storage.ActualLaws.{no_bounds}
use Rattle.f77_ast.proofs.StorageLaws.{from_number as numbered_place}

-- ---- what they are

is_integer : (t : Scalar) → is_int t ≡ true → t ≡ scalar.Int
is_integer scalar.Int h = refl
is_integer scalar.Log h = cc

pub integer_scalar : (ss : List SymbolTree) (s : SymbolTree) → is_int_scalar s ≡ true → (s.scalar ≡ scalar.Int) × (s.bounds ≡ []) × (units_in ss s ≡ 1)
integer_scalar ss s h =
    let parts = and_parts (is_int s.scalar) (not (has_bounds s.bounds)) h in
    let none = no_bounds s.bounds (not-true (has_bounds s.bounds) parts.1) in
    (is_integer s.scalar parts.0, none, ap (bounds_units (value_in ss)) none)

pub cells_are_scalars : CellsAreScalars
cells_are_scalars g p ss n s c =
    let plain = (and_parts (is_plain (equivalenced_names p.module_read) s) (is_alone (equivalenced_names p.module_read) ss g.untracked s.place) c.tracked).0 in
    integer_scalar ss s (and_parts (is_int_scalar s) (is_none (number_from 0 (equivalenced_names p.module_read) s.name)) plain).0

-- ---- where they lie

-- a place of this type and with these bounds
abbrev laid_by : ℕ → List SymbolTree → Scalar → List BoundTree → RunPlace
laid_by first ss t bs = record { first = first; extent = bounds_units (value_in ss) bs; tag = tag_of t; dims = map (dim_of ss) bs }

scalar_laid : (first : ℕ) (ss : List SymbolTree) (s : SymbolTree) → s.scalar ≡ scalar.Int → s.bounds ≡ [] → laid_at first ss s ≡ scalar_place first tag.Int
scalar_laid first ss s e f = ap (λ t. laid_by first ss t s.bounds) e ∙ ap (laid_by first ss scalar.Int) f

scalar_lies : (g : Numbering) (m : List ℕ) (ss : List SymbolTree) (s : SymbolTree) (p : Place) (a : Area) → s.scalar ≡ scalar.Int → s.bounds ≡ [] → area_of m p ≡ Some a → fixed_place g m ss s p ≡ scalar_place (unit_at g a (offset_in p)) tag.Int
scalar_lies g m ss s (place.Local n o) a e f h = let same : group m n ≡ a = cc in scalar_laid (unit_at g (group m n) o) ss s e f ∙ ap (λ x. scalar_place (unit_at g x o) tag.Int) same
scalar_lies g m ss s (place.Dummy k) a e f h = cc
scalar_lies g m ss s (place.Block b o) a e f h = let same : block b ≡ a = cc in scalar_laid (unit_at g (block b) o) ss s e f ∙ ap (λ x. scalar_place (unit_at g x o) tag.Int) same
scalar_lies g m ss s (place.Constant v) a e f h = cc

pub cells_have_places : CellsHavePlaces
cells_have_places ps sss g p ss n s a c e =
    let is = cells_are_scalars g p ss n s c in
    ap (fixed_maybe (units ps sss g) p.module_read.name ss) c.is_symbol ∙ scalar_lies (units ps sss g) p.module_read.name ss s s.place a is.0 is.1 e

-- ---- that they stand alone

-- the table has nothing else at the unit
trackable : (ps : List ParsedTree) (sss : List (List SymbolTree)) (g : Graph) → IsLinked ps sss g → (i : ℕ) (p : ParsedTree) (ss : List SymbolTree) → IsModule ps sss i p ss →
    (n : ℕ) (s : SymbolTree) (a : Area) → IsCell g p ss n s → area_of p.module_read.name s.place ≡ Some a → untracks (equivalenced_names p.module_read) ss s.place ≡ false
trackable ps sss g l i p ss m n s a c e = go s.place refl e
  where
    names : List (List ℕ)
    names = equivalenced_names p.module_read

    alone : is_alone (equivalenced_names p.module_read) ss g.untracked s.place ≡ true
    alone = (and_parts (is_plain (equivalenced_names p.module_read) s) (is_alone (equivalenced_names p.module_read) ss g.untracked s.place) c.tracked).1

    go : (q : Place) → s.place ≡ q → area_of p.module_read.name q ≡ Some a → untracks (equivalenced_names p.module_read) ss s.place ≡ false
    go (place.Local h o) f k = ap (untracks (equivalenced_names p.module_read) ss) f ∙ not-true (untracks (equivalenced_names p.module_read) ss (place.Local h o)) (sym (ap (is_alone (equivalenced_names p.module_read) ss g.untracked) f) ∙ alone)
    go (place.Dummy d) f k = cc
    go (place.Block x o) f k =
        let tracked = subst (λ us. is_tracked (equivalenced_names p.module_read) ss us s ≡ true) (untracked_are ps sss g l.links) c.tracked in
        ap (untracks (equivalenced_names p.module_read) ss) f ∙ common_cells_are_alone ps sss i (n - 1) (equivalenced_names p.module_read) ss s x o m.table (numbered_place ss n s c.is_symbol) f tracked i p ss m.parsed m.table
    go (place.Constant v) f k = cc

pub cells_stand_alone : CellsStandAlone
cells_stand_alone ps sss g l i p ss m n s a c e v u apart h = go (lies (units ps sss g) (known p ss) v)
  where
    go : Lies (units ps sss g) (known p ss) v → in_place (fixed (units ps sss g) (known p ss) v) u ≡ false
    go (somewhere t b f k) =
        cells_are_alone (known_of ps sss) g (known p ss) n v s t a b (equivalenced_names p.module_read) u (declared ps sss i p ss m n s c.is_symbol) (declared ps sss i p ss m v t f) (λ z. apart (sym z)) e k
        (area_known ps sss g l i p ss m n s a c.is_symbol e) (area_known ps sss g l i p ss m v t b f k) (cells_are_scalars g p ss n s c).1 (trackable ps sss g l i p ss m n s a c e) h
    go (missing f) = missing_has_none (units ps sss g) (known p ss) v u f (unit_of_name ps sss g l i p ss m n u s a c.is_symbol e h)
