-- The tracked cells of a module that is read, and where they lie.
use Rattle.std.proofs.Common.{◌≡◌, ◌⊎◌, inl, inr, ℕ, ◌+◌, ◌<◌, Bool, true, false, List, [], Some, sym, ap, ◌∙◌, subst, arith}
use Rattle.std.specs.Prelude.{nat_eq, is_some}
use Rattle.std.proofs.lemmas.Bool.{eqb-true, eq-eqb, cases_Bool}
use Rattle.f77_ast.specs.DeclTrees.{ParsedTree}
use Rattle.f77_ast.specs.Store as tag
use Rattle.f77_ast.specs.Places.{Place as RunPlace, Variable, scalar_place}
use Rattle.f77_ast.specs.Calls.{Dummy, in_place}
use Rattle.f77_ast.specs.declared.symbol.Place.TheVariants as place
use Rattle.f77_ast.specs.declared.variable.Unit.{Unit as BlockUnit}
use Rattle.f77_ast.specs.Symbols.{SymbolTree}
use Rattle.f77_ast.specs.Shared.{symbol_at, place_of}
use Rattle.tracked_cells.specs.Scalars.{unit}
use Rattle.call_graph.specs.declared.graph.Graph.{Graph}
use Rattle.f77_meaning.specs.Areas.{Area, block, group, unit_at}
use Rattle.f77_meaning.specs.Modules.{known_of, names, fixed, dummies_from}
use Rattle.f77_meaning.specs.Linked.{offset_in, room_for, is_common}
use Rattle.f77_meaning.specs.Laws.{IsKnown, area_of}
use Rattle.f77_meaning.proofs.LinkLaws.{any_found, common_is_of_blocks}
use Rattle.f77_meaning.proofs.ModuleLaws.{offsets_fit}
use Rattle.affine_forms.specs.Scalars.{is_cell}
use Rattle.preconditions.specs.call_translation.Common.{tracked_at, declares}
use Rattle.laws_programs.specs.Storage.Programs.{IsLinked, IsModule, IsCell, known}
use Rattle.laws_programs.specs.Storage.CellLaws.{units}
use Rattle.laws_programs.proofs.Storage.ModuleLaws.{known_module, declared, area_known}
use Rattle.laws_programs.proofs.Storage.CellLaws.{cells_are_scalars, cells_have_places, cells_stand_alone}
use Rattle.laws_programs.specs.Storage.Activations.{is_dummy}
use Rattle.laws_programs.proofs.Storage.LyingLaws.{Lying, lying_dummy, lying_local, lying_common, lying, cell_variable}
use Rattle.laws_programs.proofs.Storage.FlagLaws.{flags_tell_cells, cells_have_flags}
use Rattle.laws_programs.proofs.Storage.FoundLaws.{found_is_cell, cells_are_found, common_scalars_are_tracked_together}
use Rattle.laws_programs.specs.Storage.Owners.{owns, owns_below}
use Rattle.laws_programs.proofs.Storage.OwnerLaws.{variable_lies, variable_hidden}
use Rattle.laws_analyses.specs.Calls.Scenes.{IsInBlock}
use Rattle.laws_analyses.specs.Calls.Parts.{DummyOf, NoDummy}
use Rattle.laws_analyses.specs.Parts.{scope_in, tracks}
use Rattle.laws_analyses.proofs.UnitLaws.{in_own, scope_is, tracked_by}
use Rattle.fx_lists.proofs.Lookups.{any_at}

-- ---- dummies

pub not_listed : (ds : List Dummy) (v : ℕ) → NoDummy ds v → is_dummy ds v ≡ false
not_listed ds v n = go (cases_Bool (is_dummy ds v))
  where
    go : (is_dummy ds v ≡ true) ⊎ (is_dummy ds v ≡ false) → is_dummy ds v ≡ false
    go (inl t) = let f = any_found (λ d. nat_eq d.symbol v) ds t in absurd (n (record { at = f.place; dummy = f.item; is_dummy = f.is_item; symbol = eqb-true f.item.symbol v f.holds }))
    go (inr f) = f

pub is_listed : (ds : List Dummy) (v : ℕ) → DummyOf ds v → is_dummy ds v ≡ true
is_listed ds v o = any_at (λ d. nat_eq d.symbol v) ds o.at o.dummy o.is_dummy (eq-eqb o.dummy.symbol v o.symbol)

module _ (ps : List ParsedTree) (sss : List (List SymbolTree)) (g : Graph) (l : IsLinked ps sss g) (i : ℕ) (p : ParsedTree) (ss : List SymbolTree) (m : IsModule ps sss i p ss) where
  abbrev X : List ℕ
  X = p.module_read.name

  abbrev at : ℕ → RunPlace
  at = fixed (units ps sss g) (known p ss)

  abbrev flags : List Bool
  flags = (scope_in g (known p ss)).tracked

  abbrev ds : List Dummy
  ds = dummies_from 1 ss

  pub cell_of : (c : ℕ) → is_cell (scope_in g (known p ss)).tracked c ≡ true → (s : SymbolTree) × IsCell g p ss c s
  cell_of c t = flags_tell_cells g p ss (scope_in g (known p ss)) (scope_is g p ss) c t

  -- a tracked cell that is no dummy
  pub record CellAt (c : ℕ) : Type 0 where
    pub symbol : SymbolTree
    pub is_cell : IsCell g p ss c symbol
    pub area : Area
    pub lies : area_of p.module_read.name symbol.place ≡ Some area
    pub there : fixed (units ps sss g) (known p ss) c ≡ scalar_place (unit_at (units ps sss g) area (offset_in symbol.place)) tag.Int

  pub cell_at : (c : ℕ) → is_cell (scope_in g (known p ss)).tracked c ≡ true → NoDummy (dummies_from 1 ss) c → CellAt c
  cell_at c t n = go (lying ss c (cell_variable g p ss c (cell_of c t).0 (cell_of c t).1))
    where
      s : SymbolTree
      s = (cell_of c t).0

      cell : IsCell g p ss c s
      cell = (cell_of c t).1

      made : (a : Area) → area_of p.module_read.name s.place ≡ Some a → CellAt c
      made a e = record { symbol = s; is_cell = cell; area = a; lies = e; there = cells_have_places ps sss g p ss c s a cell e }

      same : (r : SymbolTree) → symbol_at ss c ≡ Some r → s ≡ r
      same r e = let z : Some s ≡ Some r = sym cell.is_symbol ∙ e in cc

      go : Lying ss c → CellAt c
      go (lying_dummy d) = let z : true ≡ false = sym d ∙ not_listed (dummies_from 1 ss) c n in cc
      go (lying_local r h o e q f) = made (group p.module_read.name h) (ap (λ z. area_of p.module_read.name z.place) (same r e) ∙ ap (area_of p.module_read.name) q)
      go (lying_common r b o e q f) = made (block b) (ap (λ z. area_of p.module_read.name z.place) (same r e) ∙ ap (area_of p.module_read.name) q)

  pub fixed_cells : (c : ℕ) → is_cell (scope_in g (known p ss)).tracked c ≡ true → NoDummy (dummies_from 1 ss) c → ((fixed (units ps sss g) (known p ss) c).dims ≡ []) × (0 < (fixed (units ps sss g) (known p ss) c).extent)
  fixed_cells c t n =
      let r = cell_at c t n in
      let one = ap (λ q. q.extent) r.there in
      (ap (λ q. q.dims) r.there, omega (arith, one))

  first_in : (c : ℕ) → 0 < (at c).extent → in_place (at c) (at c).first ≡ true
  first_in c h = let none : (at c).first + 0 ≡ (at c).first = omega arith in subst (λ u. in_place (at c) u ≡ true) none (in_own (at c) 0 h)

  cell_in : (c : ℕ) → is_cell (scope_in g (known p ss)).tracked c ≡ true → NoDummy (dummies_from 1 ss) c → in_place (at c) (at c).first ≡ true
  cell_in c t n = first_in c (fixed_cells c t n).1

  pub cells_lie : (c : ℕ) → is_cell (scope_in g (known p ss)).tracked c ≡ true → NoDummy (dummies_from 1 ss) c → (is_common (known_of ps sss) g p.module_read.name (fixed (units ps sss g) (known p ss) c).first ≡ true) ⊎ (owns (known_of ps sss) g p.module_read.name (fixed (units ps sss g) (known p ss) c).first ≡ true)
  cells_lie c t n = variable_lies ps sss g l i p ss m c (at c).first (lying ss c (cell_variable g p ss c (cell_of c t).0 (cell_of c t).1)) (not_listed (dummies_from 1 ss) c n) (cell_in c t n)

  pub cells_hidden : (c : ℕ) → is_cell (scope_in g (known p ss)).tracked c ≡ true → NoDummy (dummies_from 1 ss) c → owns_below (known_of ps sss) g p.module_read.name (fixed (units ps sss g) (known p ss) c).first ≡ false
  cells_hidden c t n = variable_hidden ps sss g l i p ss m c (at c).first (lying ss c (cell_variable g p ss c (cell_of c t).0 (cell_of c t).1)) (not_listed (dummies_from 1 ss) c n) (cell_in c t n)

  -- no other name has the unit of a tracked cell
  pub apart : (x : List ℕ) (v n c : ℕ) → names ss x ≡ Variable v → NoDummy (dummies_from 1 ss) v → n < (fixed (units ps sss g) (known p ss) v).extent → is_cell (scope_in g (known p ss)).tracked c ≡ true → NoDummy (dummies_from 1 ss) c → nat_eq v c ≡ false →
      (fixed (units ps sss g) (known p ss) v).first + n ≡ (fixed (units ps sss g) (known p ss) c).first → ⊥
  apart x v n c e nv h t nc d q =
      let r = cell_at c t nc in
      let differ : v ≡ c → ⊥ = λ z. (let y : true ≡ false = sym (eq-eqb v c z) ∙ d in cc) in
      let no = cells_stand_alone ps sss g l i p ss m c r.symbol r.area r.is_cell r.lies v (at c).first differ (cell_in c t nc) in
      let yes = subst (λ u. in_place (at v) u ≡ true) q (in_own (at v) n h) in
      let z : true ≡ false = sym yes ∙ no in
      cc

  -- ---- blocks

  block_place : (c : ℕ) (s : SymbolTree) (x : List ℕ) (o : ℕ) → symbol_at ss c ≡ Some s → IsInBlock ss c x o → s.place ≡ place.Block x o
  block_place c s x o e h = let z : Some s.place ≡ Some (place.Block x o) = sym (ap place_of e) ∙ h in cc

  found_there : (c : ℕ) (x : List ℕ) (o : ℕ) → is_cell (scope_in g (known p ss)).tracked c ≡ true → IsInBlock ss c x o → tracked_at (scope_in g (known p ss)) x o ≡ Some c
  found_there c x o t h =
      let r = cell_of c t in
      cells_are_found ps sss g l i p ss m (scope_in g (known p ss)) (scope_is g p ss) c r.0 x o r.1 (block_place c r.0 x o r.1.is_symbol h)

  pub one_each : (c d : ℕ) (x : List ℕ) (o : ℕ) → is_cell (scope_in g (known p ss)).tracked c ≡ true → is_cell (scope_in g (known p ss)).tracked d ≡ true → IsInBlock ss c x o → IsInBlock ss d x o → c ≡ d
  one_each c d x o t r h k = let z : Some c ≡ Some d = sym (found_there c x o t h) ∙ found_there d x o r k in cc

  pub in_block_at : (c : ℕ) (x : List ℕ) (o : ℕ) → is_cell (scope_in g (known p ss)).tracked c ≡ true → IsInBlock ss c x o → (fixed (units ps sss g) (known p ss) c).first ≡ unit_at (units ps sss g) (block x) o
  in_block_at c x o t h =
      let r = cell_of c t in
      let q = block_place c r.0 x o r.1.is_symbol h in
      ap (λ z. z.first) (cells_have_places ps sss g p ss c r.0 (block x) r.1 (ap (area_of p.module_read.name) q)) ∙ ap (λ z. unit_at (units ps sss g) (block x) (offset_in z)) q

  pub in_block_tracked : (c : ℕ) (x : List ℕ) (o : ℕ) → is_cell (scope_in g (known p ss)).tracked c ≡ true → IsInBlock ss c x o → tracks (known_of ps sss) g (unit x o) ≡ true
  in_block_tracked c x o t h = any_at (λ k. is_some (tracked_at (scope_in g k) x o)) (known_of ps sss) i (known p ss) (known_module ps sss i p ss m) (ap is_some (found_there c x o t h))

  -- a tracked cell in COMMON lies in a block
  pub block_of : (c : ℕ) → is_cell (scope_in g (known p ss)).tracked c ≡ true → NoDummy (dummies_from 1 ss) c → is_common (known_of ps sss) g p.module_read.name (fixed (units ps sss g) (known p ss) c).first ≡ true → (x : List ℕ) × (o : ℕ) × IsInBlock ss c x o
  block_of c t n h = go (lying ss c (cell_variable g p ss c (cell_of c t).0 (cell_of c t).1))
    where
      r : CellAt c
      r = cell_at c t n

      is_known : IsKnown (units ps sss g) r.area
      is_known = area_known ps sss g l i p ss m c r.symbol r.area r.is_cell.is_symbol r.lies

      small : offset_in r.symbol.place < room_for (known_of ps sss)
      small =
          let fits = offsets_fit (known_of ps sss) (known p ss) c r.symbol (declared ps sss i p ss m c r.symbol r.is_cell.is_symbol) in
          let one = (cells_are_scalars g p ss c r.symbol r.is_cell).2 in
          omega (arith, fits, one)

      go : Lying ss c → (x : List ℕ) × (o : ℕ) × IsInBlock ss c x o
      go (lying_dummy d) = let z : true ≡ false = sym d ∙ not_listed (dummies_from 1 ss) c n in cc
      go (lying_local s k o e q f) =
          let b = (common_is_of_blocks (known_of ps sss) g p.module_read.name r.area (offset_in r.symbol.place) is_known small).0 (ap (is_common (known_of ps sss) g p.module_read.name) (sym (ap (λ z. z.first) r.there)) ∙ h) in
          let same : r.symbol ≡ s = (let z : Some r.symbol ≡ Some s = sym r.is_cell.is_symbol ∙ e in cc) in
          let z : Some (block b.0) ≡ Some (group p.module_read.name k) = sym (ap Some b.1) ∙ sym r.lies ∙ ap (λ y. area_of p.module_read.name y.place) same ∙ ap (area_of p.module_read.name) q in
          cc
      go (lying_common s b o e q f) = (b, o, ap place_of e ∙ ap Some q)

  -- where some module tracks a unit, a variable of this one that stands there is a tracked cell
  pub full : (u : BlockUnit) → tracks (known_of ps sss) g u ≡ true → declares (scope_in g (known p ss)) u.block u.offset ≡ true → (d : ℕ) × (is_cell (scope_in g (known p ss)).tracked d ≡ true) × IsInBlock ss d u.block u.offset
  full u t d =
      let r = tracked_by ps sss g u t in
      let f = common_scalars_are_tracked_together ps sss g l r.at i r.parsed p r.table ss r.is_module m (scope_in g (known p ss)) (scope_is g p ss) r.number r.symbol u.block u.offset r.is_cell r.lies d in
      let c = found_is_cell g p ss (scope_in g (known p ss)) (scope_is g p ss) u.block u.offset f.0 f.1 in
      (f.0, cells_have_flags g p ss (scope_in g (known p ss)) (scope_is g p ss) f.0 c.0 c.1, ap place_of c.1.is_symbol ∙ ap Some c.2)
