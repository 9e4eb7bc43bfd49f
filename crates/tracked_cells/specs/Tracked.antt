-- Tracked cells: INTEGER scalars whose unit only they reach.
use Rattle.std.specs.Prelude.{ℕ, Bool, true, false, not, ◌&&◌, nat_eq, List, map, bytes_eq}
use Rattle.std.specs.List.{list_any}
use Rattle.f77_ast.specs.DeclTrees.{ModuleTree}
use Rattle.f77_ast.specs.declared.symbol.Place.{Place}
use Rattle.f77_ast.specs.declared.symbol.Place.TheVariants.{Local, Dummy, Block, Constant}
use Rattle.f77_ast.specs.declared.variable.Unit.{Unit as BlockUnit}
use Rattle.f77_ast.specs.Symbols.{SymbolTree}
use Rattle.tracked_cells.specs.Equivalences.{equivalenced_names}
use Rattle.tracked_cells.specs.Standing.{is_plain, untracks}

abbrev pub is_unit : List ℕ → ℕ → BlockUnit → Bool
is_unit x o u = bytes_eq x u.block && nat_eq o u.offset

-- nothing else has the unit at this place: in the module, or, in a block, in any module of the program; two dummies never share
abbrev pub is_alone : List (List ℕ) → List SymbolTree → List BlockUnit → Place → Bool
is_alone names ss untracked (Local g o) = not (untracks names ss (Local g o))
is_alone names ss untracked (Dummy n) = true
is_alone names ss untracked (Block x o) = not (list_any (is_unit x o) untracked)
is_alone names ss untracked (Constant n) = false

-- an INTEGER scalar that is none of these names and is alone at its unit
abbrev pub is_tracked : List (List ℕ) → List SymbolTree → List BlockUnit → SymbolTree → Bool
is_tracked names ss untracked s = is_plain names s && is_alone names ss untracked s.place

-- for each symbol of a module whether it is a tracked cell
abbrev pub tracked_of : ModuleTree → List SymbolTree → List BlockUnit → List Bool
tracked_of m ss untracked = map (is_tracked (equivalenced_names m) ss untracked) ss
