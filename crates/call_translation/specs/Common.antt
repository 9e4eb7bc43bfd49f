-- What a module has at a unit of a block (ANSI X3.9-1978 §8.3).
use Rattle.std.specs.Prelude.{ℕ, suc, Bool, false, ◌&&◌, nat_eq, List, [], ◌∷◌, Option, Some, None, if◌then◌else◌, bytes_eq}
use Rattle.std.specs.List.{list_any}
use Rattle.f77_ast.specs.declared.symbol.Place.{Place}
use Rattle.f77_ast.specs.declared.symbol.Place.TheVariants.{Local, Dummy, Block, Constant}
use Rattle.f77_ast.specs.Symbols.{SymbolTree}
use Rattle.tracked_cells.specs.Standing.{stands_at}
use Rattle.call_translation.specs.Scopes.{ScopeTree}

abbrev pub is_unit : List ℕ → ℕ → Place → Bool
is_unit b o (Local g k) = false
is_unit b o (Dummy m) = false
is_unit b o (Block c k) = bytes_eq b c && nat_eq o k
is_unit b o (Constant m) = false

abbrev pub tracked_from : ℕ → List SymbolTree → List Bool → List ℕ → ℕ → Option ℕ
tracked_from n [] flags b o = None
tracked_from n (s ∷ ss) [] b o = None
tracked_from n (s ∷ ss) (f ∷ fs) b o = if f && is_unit b o s.place then Some n else tracked_from (suc n) ss fs b o

-- the tracked cell that begins at a unit, by its number
abbrev pub tracked_at : ScopeTree → List ℕ → ℕ → Option ℕ
tracked_at m b o = tracked_from 1 m.symbols m.tracked b o

-- some variable of the module stands at a unit
abbrev pub declares : ScopeTree → List ℕ → ℕ → Bool
declares m b o = list_any (stands_at m.symbols (Block b o)) m.symbols
