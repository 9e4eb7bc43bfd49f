-- Which variables of a module its callers see.
use Rattle.std.specs.Prelude.{ℕ, Bool, true, false, List, Option, Some, None}
use Rattle.f77_ast.specs.declared.symbol.Place.{Place}
use Rattle.f77_ast.specs.declared.symbol.Place.TheVariants.{Local, Dummy, Block, Constant}
use Rattle.f77_ast.specs.declared.variable.Variable.{Variable}
use Rattle.f77_ast.specs.declared.variable.Variable.TheVariants.{Own, Block as Whole, Saved}
use Rattle.f77_ast.specs.Symbols.{SymbolTree}
use Rattle.f77_ast.specs.Shared.{symbol_at}

abbrev pub is_local : Place → Bool
is_local (Local g o) = true
is_local (Dummy n) = false
is_local (Block b o) = false
is_local (Constant v) = false

-- dummies, variables of blocks, and saved locals
abbrev pub place_is_visible_to_callers : Place → Bool → Bool
place_is_visible_to_callers (Local g o) saved = saved
place_is_visible_to_callers (Dummy m) saved = true
place_is_visible_to_callers (Block b o) saved = true
place_is_visible_to_callers (Constant m) saved = false

abbrev pub symbol_goes_out : Option SymbolTree → Bool
symbol_goes_out None = false
symbol_goes_out (Some s) = place_is_visible_to_callers s.place s.saved

-- those, blocks, and saved locals of other modules
abbrev pub is_visible_to_callers : List SymbolTree → Variable → Bool
is_visible_to_callers ss (Own n) = symbol_goes_out (symbol_at ss n)
is_visible_to_callers ss (Whole b) = true
is_visible_to_callers ss (Saved t y) = true
