-- What is known of a unit that is tracked.
use Rattle.std.specs.Prelude.{◌≡◌, ℕ, Bool, true, false, List, [], slice_get, Some}
use Rattle.std.specs.List.{list_any}
use Rattle.f77_ast.specs.DeclTrees.{ParsedTree}
use Rattle.f77_ast.specs.Symbols.{SymbolTree}
use Rattle.f77_ast.specs.declared.variable.Unit.{Unit as BlockUnit}
use Rattle.tracked_cells.specs.Equivalences.{equivalenced_names}
use Rattle.tracked_cells.specs.Standing.{is_plain, stands_at}
use Rattle.tracked_cells.specs.Scalars.{all_scalars}
use Rattle.tracked_cells.specs.Untracked.{begin_of, untracked_of}
use Rattle.tracked_cells.specs.Tracked.{is_unit}

abbrev pub among : BlockUnit → List BlockUnit → Bool
among u us = list_any (is_unit u.block u.offset) us

-- at a unit where some module has an INTEGER scalar, and which is not untracked, each module has nothing but INTEGER scalars that
-- are in no EQUIVALENCE
abbrev pub TrackedUnitsArePlain : Type 0
TrackedUnitsArePlain = (ps : List ParsedTree) (sss : List (List SymbolTree)) (u : BlockUnit) →
    among u (all_scalars sss []) ≡ true → among u (untracked_of ps sss) ≡ false →
    (k : ℕ) (p : ParsedTree) (ss : List SymbolTree) → slice_get ps k ≡ Some p → slice_get sss k ≡ Some ss →
    (n : ℕ) (s : SymbolTree) → slice_get ss n ≡ Some s → stands_at ss (begin_of u) s ≡ true → is_plain (equivalenced_names p.module_read) s ≡ true
