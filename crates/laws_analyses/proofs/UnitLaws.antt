-- Units of blocks that are tracked, and the variables that stand there.
use Rattle.std.proofs.Common.{◌≡◌, ℕ, zero, suc, ◌+◌, ◌-◌, ◌<◌, ◌≤◌, true, false, List, [], ◌∷◌, Option, Some, None, refl, sym, ap, ◌∙◌, arith}
use Rattle.std.specs.Prelude.{bytes_eq, nat_le, nat_lt, slice_get, is_some}
use Rattle.std.proofs.lemmas.Bool.{and_from, le-leb, lt-ltb}
use Rattle.std.proofs.lemmas.Bool.Decides.{nat_tests}
use Rattle.std.proofs.lemmas.Slice.Eq.{bytes_eq-Decides}
use Rattle.f77_ast.specs.DeclTrees.{ParsedTree}
use Rattle.f77_ast.specs.Places.{Place as RunPlace}
use Rattle.f77_ast.specs.Calls.{in_place}
use Rattle.f77_ast.specs.declared.symbol.Place.TheVariants as place
use Rattle.f77_ast.specs.declared.variable.Unit.{Unit as BlockUnit}
use Rattle.f77_ast.specs.Symbols.{SymbolTree}
use Rattle.f77_ast.specs.Units.{units_in}
use Rattle.tracked_cells.specs.Standing.{place_has, stands_at, reaches}
use Rattle.call_graph.specs.declared.graph.Graph.{Graph}
use Rattle.f77_meaning.specs.Areas.{block, group, unit_at}
use Rattle.f77_meaning.specs.Modules.{Known, known_of, fixed, dummies_from}
use Rattle.f77_meaning.specs.Linked.{offset_in, room_for}
use Rattle.f77_meaning.specs.Laws.{IsKnown, area_of}
use Rattle.f77_meaning.proofs.UnitLaws.{units_differ}
use Rattle.f77_meaning.proofs.ModuleLaws.{variables_occupy_their_storage, offsets_fit}
use Rattle.f77_meaning.proofs.LinkLaws.{any_found}
use Rattle.preconditions.specs.call_translation.Common.{tracked_at, declares}
use Rattle.laws_programs.specs.Storage.Programs.{IsLinked, IsModule, IsCell, known}
use Rattle.laws_programs.specs.Storage.CellLaws.{units}
use Rattle.laws_programs.proofs.Storage.ModuleLaws.{declared, area_known}
use Rattle.laws_programs.proofs.Storage.CellLaws.{cells_are_scalars}
use Rattle.laws_programs.specs.Storage.Activations.{is_dummy}
use Rattle.laws_programs.proofs.Storage.LyingLaws.{Lying, lying_dummy, lying_local, lying_common}
use Rattle.laws_programs.specs.Storage.ScopeLaws.{IsScopeOf}
use Rattle.laws_programs.proofs.Storage.FoundLaws.{found_is_cell}
use Rattle.laws_analyses.specs.Parts.{scope_in, tracks}
use Rattle.f77_ast.proofs.StorageLaws.{from_number as numbered_place}
use Rattle.fx_lists.proofs.Lookups.{any_at}

pub in_own : (p : RunPlace) (n : ℕ) → n < p.extent → in_place p (p.first + n) ≡ true
in_own p n h = grind (arith, nat_tests)

-- ---- modules by their places

pub record ModuleAt (ps : List ParsedTree) (sss : List (List SymbolTree)) (i : ℕ) (k : Known) : Type 0 where
  pub parsed : ParsedTree
  pub table : List SymbolTree
  pub is_module : IsModule ps sss i parsed table
  pub same : known parsed table ≡ k

pub module_at : (ps : List ParsedTree) (sss : List (List SymbolTree)) (i : ℕ) (k : Known) → slice_get (known_of ps sss) i ≡ Some k → ModuleAt ps sss i k
module_at [] sss i k e = cc
module_at (p ∷ ps) [] i k e = cc
module_at (p ∷ ps) (ss ∷ sss) zero k e =
    let one : known p ss ≡ k = cc in
    record { parsed = p; table = ss; is_module = record { parsed = refl; table = refl }; same = one }
module_at (p ∷ ps) (ss ∷ sss) (suc i) k e =
    let r = module_at ps sss i k e in
    record { parsed = r.parsed; table = r.table; is_module = record { parsed = r.is_module.parsed; table = r.is_module.table }; same = r.same }

-- the scope of a module has its symbols and flags
pub scope_is : (g : Graph) (p : ParsedTree) (ss : List SymbolTree) → IsScopeOf g p ss (scope_in g (known p ss))
scope_is g p ss = record { symbols = refl; tracked = refl }

-- ---- tracked units

-- a tracked cell of some module lies at the unit
pub record TrackedBy (ps : List ParsedTree) (sss : List (List SymbolTree)) (g : Graph) (u : BlockUnit) : Type 0 where
  pub at : ℕ
  pub parsed : ParsedTree
  pub table : List SymbolTree
  pub is_module : IsModule ps sss at parsed table
  pub number : ℕ
  pub symbol : SymbolTree
  pub is_cell : IsCell g parsed table number symbol
  pub lies : symbol.place ≡ place.Block u.block u.offset

pub tracked_by : (ps : List ParsedTree) (sss : List (List SymbolTree)) (g : Graph) (u : BlockUnit) → tracks (known_of ps sss) g u ≡ true → TrackedBy ps sss g u
tracked_by ps sss g u h =
    let f = any_found (λ k. is_some (tracked_at (scope_in g k) u.block u.offset)) (known_of ps sss) h in
    let m = module_at ps sss f.place f.item f.is_item in
    by_cell f.place m.parsed m.table m.is_module (tracked_at (scope_in g (known m.parsed m.table)) u.block u.offset) refl (ap (λ k. is_some (tracked_at (scope_in g k) u.block u.offset)) m.same ∙ f.holds)
  where
    by_cell : (i : ℕ) (p : ParsedTree) (ss : List SymbolTree) → IsModule ps sss i p ss → (o : Option ℕ) → tracked_at (scope_in g (known p ss)) u.block u.offset ≡ o → is_some o ≡ true → TrackedBy ps sss g u
    by_cell i p ss m None e t = cc
    by_cell i p ss m (Some n) e t =
        let c = found_is_cell g p ss (scope_in g (known p ss)) (scope_is g p ss) u.block u.offset n e in
        record { at = i; parsed = p; table = ss; is_module = m; number = n; symbol = c.0; is_cell = c.1; lies = c.2 }

module _ (ps : List ParsedTree) (sss : List (List SymbolTree)) (g : Graph) (l : IsLinked ps sss g) (u : BlockUnit) (t : TrackedBy ps sss g u) where
  -- its block is numbered, and its offset is one of the room
  pub block_known : IsKnown (units ps sss g) (block u.block)
  block_known = area_known ps sss g l t.at t.parsed t.table t.is_module t.number t.symbol (block u.block) t.is_cell.is_symbol (ap (area_of t.parsed.module_read.name) t.lies)

  pub offset_fits : u.offset < room_for (known_of ps sss)
  offset_fits =
      let fits = offsets_fit (known_of ps sss) (known t.parsed t.table) t.number t.symbol (declared ps sss t.at t.parsed t.table t.is_module t.number t.symbol t.is_cell.is_symbol) in
      let one = (cells_are_scalars g t.parsed t.table t.number t.symbol t.is_cell).2 in
      let offset : offset_in t.symbol.place ≡ u.offset = ap (λ q. offset_in q) t.lies in
      omega (arith, fits, one, offset)

-- ---- variables at units of blocks

block_stands : (x : List ℕ) (o n d : ℕ) → o ≤ d → d < o + n → place_has (place.Block x o) n (place.Block x d) ≡ true
block_stands x o n d a b =
    and_from (bytes_eq x x) (reaches o n d) ((bytes_eq-Decides x x).1 refl) (and_from (nat_le o d) (nat_lt d (o + n)) (le-leb o d a) (lt-ltb d (o + n) b))

module _ (ps : List ParsedTree) (sss : List (List SymbolTree)) (g : Graph) (l : IsLinked ps sss g) (i : ℕ) (p : ParsedTree) (ss : List SymbolTree) (m : IsModule ps sss i p ss) (u : BlockUnit) (t : TrackedBy ps sss g u) where
  -- a variable that is no dummy has it only where it stands there
  pub standing : (v w : ℕ) → Lying ss v → is_dummy (dummies_from 1 ss) v ≡ false → in_place (fixed (units ps sss g) (known p ss) v) w ≡ true → unit_at (units ps sss g) (block u.block) u.offset ≡ w → declares (scope_in g (known p ss)) u.block u.offset ≡ true
  standing v w (lying_dummy d) n has e = let z : true ≡ false = sym d ∙ n in cc
  standing v w (lying_local s h o is at f) n has e =
      let d = declared ps sss i p ss m v s is in
      let x = variables_occupy_their_storage (known_of ps sss) g (known p ss) v s (group p.module_read.name h) w d (ap (area_of p.module_read.name) at) has in
      let fits = offsets_fit (known_of ps sss) (known p ss) v s d in
      let below : x.distance < room_for (known_of ps sss) = omega (arith, fits, x.below) in
      let both = units_differ (units ps sss g) (block u.block) (group p.module_read.name h) u.offset x.distance (block_known ps sss g l u t) (area_known ps sss g l i p ss m v s (group p.module_read.name h) is (ap (area_of p.module_read.name) at)) (offset_fits ps sss g l u t) below (e ∙ x.unit) in
      let z = both.0 in
      cc
  standing v w (lying_common s b o is at f) n has e =
      let d = declared ps sss i p ss m v s is in
      let x = variables_occupy_their_storage (known_of ps sss) g (known p ss) v s (block b) w d (ap (area_of p.module_read.name) at) has in
      let fits = offsets_fit (known_of ps sss) (known p ss) v s d in
      let below : x.distance < room_for (known_of ps sss) = omega (arith, fits, x.below) in
      let both = units_differ (units ps sss g) (block u.block) (block b) u.offset x.distance (block_known ps sss g l u t) (area_known ps sss g l i p ss m v s (block b) is (ap (area_of p.module_read.name) at)) (offset_fits ps sss g l u t) below (e ∙ x.unit) in
      let area = both.0 in
      let name : u.block ≡ b = cc in
      let offset : offset_in s.place ≡ o = ap (λ q. offset_in q) at in
      let there = block_stands b o (units_in ss s) u.offset (omega (arith, offset, x.from, both.1)) (omega (arith, offset, x.below, both.1)) in
      let stands : stands_at ss (place.Block u.block u.offset) s ≡ true = ap (λ q. place_has q (units_in ss s) (place.Block u.block u.offset)) at ∙ ap (λ y. place_has (place.Block b o) (units_in ss s) (place.Block y u.offset)) name ∙ there in
      any_at (stands_at ss (place.Block u.block u.offset)) ss (v - 1) s (numbered_place ss v s is) stands
