-- What tables, layout and links give of a module that is read.
use Rattle.std.proofs.Common.{◌≡◌, ◌⊎◌, ℕ, suc, ◌+◌, ◌<◌, true, false, List, [], length, map, Some, Ok, sym, ap, ◌∙◌, arith}
use Rattle.std.specs.Prelude.{slice_get}
use Rattle.f77_ast.specs.DeclTrees.{ParsedTree}
use Rattle.f77_ast.specs.Places.{Variable}
use Rattle.f77_ast.specs.Calls.{Dummy}
use Rattle.f77_ast.specs.declared.symbol.Place.{Place}
use Rattle.f77_ast.specs.declared.symbol.Place.TheVariants as place
use Rattle.f77_ast.specs.declared.variable.Unit.{Unit as BlockUnit}
use Rattle.f77_ast.specs.Symbols.{SymbolTree, value_in}
use Rattle.f77_ast.specs.Units.{units_in, bounds_units}
use Rattle.f77_ast.specs.Shared.{symbol_at, place_at}
use Rattle.tracked_cells.specs.Standing.{is_int_scalar}
use Rattle.storage_layout.specs.Symbols.{symbols_of}
use Rattle.laws_programs.specs.SymbolTables.Laws.{DummiesFirst}
use Rattle.laws_programs.proofs.SymbolTables.DummyLaws.{dummies_come_first}
use Rattle.call_graph.specs.declared.graph.Graph.{Graph}
use Rattle.f77_meaning.specs.Areas.{block, unit_at}
use Rattle.f77_meaning.specs.Modules.{known_of, names, bound_of, fixed, fixed_place, fixed_maybe, dummies_from}
use Rattle.f77_meaning.specs.Linked.{is_common}
use Rattle.affine_forms.specs.Scalars.{is_cell}
use Rattle.affine_forms.specs.Claims.{Agrees}
use Rattle.preconditions.specs.call_translation.Common.{declares}
use Rattle.preconditions.specs.transformers.Given.{Callees}
use Rattle.affine_systems.specs.declared.row.System.{System}
use Rattle.laws_programs.specs.Storage.Programs.{IsLinked, IsModule, known}
use Rattle.laws_programs.specs.Storage.CellLaws.{units}
use Rattle.laws_programs.proofs.Storage.CellLaws.{cells_are_scalars}
use Rattle.laws_programs.specs.Storage.Activations.{is_dummy}
use Rattle.laws_programs.proofs.Storage.CallLaws.{dummies_are_tracked}
use Rattle.laws_programs.proofs.Storage.LyingLaws.{variable_of, Lying, lying_dummy, lying_local, lying_common, lying}
use Rattle.laws_programs.proofs.Storage.FlagLaws.{cells_have_flags}
use Rattle.laws_analyses.specs.Statements.Leads.{StaysIn}
use Rattle.laws_analyses.specs.Statements.Laws.{is_scalar}
use Rattle.laws_programs.specs.Storage.Owners.{owns, owns_below}
use Rattle.laws_programs.proofs.Storage.OwnerLaws.{owned_is_private, owned_is_in_no_block, below_is_owned, variable_lies, variable_hidden}
use Rattle.laws_analyses.specs.Calls.Scenes.{IsInBlock}
use Rattle.laws_analyses.specs.Calls.Parts.{NoDummy, Sane}
use Rattle.laws_analyses.specs.Parts.{scope_in, tracks, blocks_in, part_of}
use Rattle.laws_analyses.proofs.DummyLaws.{told, distinct, numbered, dummies}
use Rattle.laws_analyses.proofs.NameLaws.{name_number, name_cell, scalar_bounds}
use Rattle.laws_analyses.proofs.UnitLaws.{in_own, scope_is, tracked_by, offset_fits, standing}
use Rattle.laws_analyses.proofs.CellFacts as cells

module _ (ps : List ParsedTree) (sss : List (List SymbolTree)) (g : Graph) (l : IsLinked ps sss g) (i : ℕ) (p : ParsedTree) (ss : List SymbolTree) (m : IsModule ps sss i p ss) (laid : symbols_of p ≡ Ok ss) where
  count : ℕ
  count = length p.module_read.dummies

  first : DummiesFirst 1 (length p.module_read.dummies) ss
  first = dummies_come_first p ss laid

  table_bounds : (s : SymbolTree) → s.bounds ≡ [] → map bound_of s.bounds ≡ []
  table_bounds s e = ap (map bound_of) e

  flat : (j : ℕ) (d : Dummy) (x : List ℕ) → slice_get (dummies_from 1 ss) j ≡ Some d → names ss x ≡ Variable d.symbol → is_scalar ss x ≡ true → d.bounds ≡ []
  flat j d x e n h =
      let t = told ss (length p.module_read.dummies) first j d e in
      t.bounds ∙ table_bounds t.symbol (scalar_bounds ss x d.symbol t.symbol n h t.is_symbol)

  flat_cells : (j : ℕ) (d : Dummy) → slice_get (dummies_from 1 ss) j ≡ Some d → is_cell (scope_in g (known p ss)).tracked d.symbol ≡ true → d.bounds ≡ []
  flat_cells j d e h =
      let t = told ss (length p.module_read.dummies) first j d e in
      let c = cells.cell_of ps sss g l i p ss m d.symbol h in
      let same : c.0 ≡ t.symbol = (let z : Some c.0 ≡ Some t.symbol = sym c.1.is_symbol ∙ t.is_symbol in cc) in
      t.bounds ∙ table_bounds t.symbol (ap (λ s. s.bounds) (sym same) ∙ (cells_are_scalars g p ss d.symbol c.0 c.1).1)

  -- ---- variables that are no dummies

  laid_place : (v : ℕ) (s : SymbolTree) (q : Place) → symbol_at ss v ≡ Some s → s.place ≡ q → fixed (units ps sss g) (known p ss) v ≡ fixed_place (units ps sss g) p.module_read.name ss s q
  laid_place v s q e h = ap (fixed_maybe (units ps sss g) p.module_read.name ss) e ∙ ap (fixed_place (units ps sss g) p.module_read.name ss s) h

  fixed_solid : (x : List ℕ) (v : ℕ) → names ss x ≡ Variable v → is_scalar ss x ≡ true → NoDummy (dummies_from 1 ss) v → 0 < (fixed (units ps sss g) (known p ss) v).extent
  fixed_solid x v e h n = go (lying ss v (variable_of ss x v e))
    where
      one : (s : SymbolTree) → symbol_at ss v ≡ Some s → units_in ss s ≡ 1
      one s is = ap (bounds_units (value_in ss)) (scalar_bounds ss x v s e h is)

      go : Lying ss v → 0 < (fixed (units ps sss g) (known p ss) v).extent
      go (lying_dummy d) = let z : true ≡ false = sym d ∙ cells.not_listed (dummies_from 1 ss) v n in cc
      go (lying_local s k o is q f) = let z = ap (λ r. r.extent) (laid_place v s (place.Local k o) is q) in let y = one s is in omega (arith, z, y)
      go (lying_common s b o is q f) = let z = ap (λ r. r.extent) (laid_place v s (place.Block b o) is q) in let y = one s is in omega (arith, z, y)

  variables_lie : (x : List ℕ) (v n : ℕ) → names ss x ≡ Variable v → NoDummy (dummies_from 1 ss) v → n < (fixed (units ps sss g) (known p ss) v).extent → (is_common (known_of ps sss) g p.module_read.name ((fixed (units ps sss g) (known p ss) v).first + n) ≡ true) ⊎ (owns (known_of ps sss) g p.module_read.name ((fixed (units ps sss g) (known p ss) v).first + n) ≡ true)
  variables_lie x v n e d h = variable_lies ps sss g l i p ss m v ((fixed (units ps sss g) (known p ss) v).first + n) (lying ss v (variable_of ss x v e)) (cells.not_listed (dummies_from 1 ss) v d) (in_own (fixed (units ps sss g) (known p ss) v) n h)

  hidden : (x : List ℕ) (v n : ℕ) → names ss x ≡ Variable v → NoDummy (dummies_from 1 ss) v → n < (fixed (units ps sss g) (known p ss) v).extent → owns_below (known_of ps sss) g p.module_read.name ((fixed (units ps sss g) (known p ss) v).first + n) ≡ false
  hidden x v n e d h = variable_hidden ps sss g l i p ss m v ((fixed (units ps sss g) (known p ss) v).first + n) (lying ss v (variable_of ss x v e)) (cells.not_listed (dummies_from 1 ss) v d) (in_own (fixed (units ps sss g) (known p ss) v) n h)

  seen : (x : List ℕ) (v n : ℕ) → names ss x ≡ Variable v → NoDummy (dummies_from 1 ss) v → n < (fixed (units ps sss g) (known p ss) v).extent → (u : BlockUnit) → tracks (known_of ps sss) g u ≡ true → unit_at (units ps sss g) (block u.block) u.offset ≡ (fixed (units ps sss g) (known p ss) v).first + n → declares (scope_in g (known p ss)) u.block u.offset ≡ true
  seen x v n e d h u t q = standing ps sss g l i p ss m u (tracked_by ps sss g u t) v ((fixed (units ps sss g) (known p ss) v).first + n) (lying ss v (variable_of ss x v e)) (cells.not_listed (dummies_from 1 ss) v d) (in_own (fixed (units ps sss g) (known p ss) v) n h) q

  -- ---- units of modules

  no_block : (u : ℕ) → owns (known_of ps sss) g p.module_read.name u ≡ true → (b : BlockUnit) → tracks (known_of ps sss) g b ≡ true → unit_at (units ps sss g) (block b.block) b.offset ≡ u → ⊥
  no_block u o b t q =
      let no = owned_is_in_no_block ps sss g p.module_read.name b.block b.offset (offset_fits ps sss g l b (tracked_by ps sss g b t)) in
      let z : true ≡ false = sym o ∙ ap (owns (known_of ps sss) g p.module_read.name) (sym q) ∙ no in
      cc

  pub int_dummies : (d n : ℕ) (s : SymbolTree) → symbol_at ss d ≡ Some s → is_int_scalar s ≡ true → s.place ≡ place.Dummy n → is_cell (scope_in g (known p ss)).tracked d ≡ true
  int_dummies d n s e h q = cells_have_flags g p ss (scope_in g (known p ss)) (scope_is g p ss) d s (dummies_are_tracked g p ss laid d n s e q h)

  block_no_dummy : (c : ℕ) (x : List ℕ) (o : ℕ) → IsInBlock ss c x o → NoDummy (dummies_from 1 ss) c
  block_no_dummy c x o h d =
      let z : Some (place.Dummy (suc d.at)) ≡ Some (place.Block x o) = sym (numbered ss (length p.module_read.dummies) first d.at d.dummy d.is_dummy) ∙ ap (place_at ss) d.symbol ∙ h in
      cc

  pub module_sane : (cs : Callees) (entry : System) → Agrees (names ss) (scope_in g (known p ss)).scalars (is_cell (scope_in g (known p ss)).tracked) → StaysIn p.module_read.body → Sane (blocks_in (known_of ps sss) g) (part_of (known_of ps sss) g cs entry (known p ss))
  module_sane cs entry agrees stays = record {
    names_fit = record { agrees = agrees; numbers = name_number ss; cells = name_cell ss (scope_in g (known p ss)).tracked };
    distinct = distinct ss (length p.module_read.dummies) first;
    flat = flat;
    flat_cells = flat_cells;
    fixed_solid = fixed_solid;
    fixed_cells = cells.fixed_cells ps sss g l i p ss m;
    lies = variables_lie;
    hidden = hidden;
    cells_lie = cells.cells_lie ps sss g l i p ss m;
    cells_hidden = cells.cells_hidden ps sss g l i p ss m;
    seen = seen;
    apart = cells.apart ps sss g l i p ss m;
    below_owned = below_is_owned ps sss g l i p ss m;
    private = owned_is_private ps sss g p.module_read.name p.module_read.name;
    no_block = no_block;
    dummies = dummies ss (length p.module_read.dummies) first;
    numbered = numbered ss (length p.module_read.dummies) first;
    int_dummies = int_dummies;
    in_block = λ c x o t h. (block_no_dummy c x o h, cells.in_block_at ps sss g l i p ss m c x o t h, cells.in_block_tracked ps sss g l i p ss m c x o t h);
    block_of = cells.block_of ps sss g l i p ss m;
    one_each = cells.one_each ps sss g l i p ss m;
    full = cells.full ps sss g l i p ss m;
    stays_in = stays;
  }
