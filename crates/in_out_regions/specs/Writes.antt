-- The WRITE regions of a set: that of a variable, and whether some are of variables that share units with it.
use Rattle.std.specs.Prelude.{Bool, false, ◌&&◌, ◌||◌, if◌then◌else◌, is_some, List, [], ◌∷◌, Option, Some, None}
use Rattle.f77_ast.specs.declared.variable.Variable.{Variable}
use Rattle.f77_ast.specs.Symbols.{SymbolTree}
use Rattle.f77_ast.specs.Shared.{overlap}
use Rattle.f77_ast.specs.Variables.{same_variable}
use Rattle.array_regions.specs.region_sets.declared.region.Region.{Region}
use Rattle.in_out_regions.specs.Kinds.{is_write}

abbrev pub is_write_of : Variable → Region → Bool
is_write_of v w = is_write w.kind && same_variable v w.variable

-- the WRITE region of a variable
abbrev pub write_of : Variable → List Region → Option Region
write_of v [] = None
write_of v (w ∷ ws) = if is_write_of v w then Some w else write_of v ws

abbrev pub is_write_beside : List SymbolTree → Variable → Region → Bool
is_write_beside ss v w = is_write w.kind && overlap ss w.variable v

-- another variable is written that shares units with this one
abbrev pub is_overlapped : List SymbolTree → List Region → Variable → Bool
is_overlapped ss [] v = false
is_overlapped ss (w ∷ ws) v = is_write_beside ss v w || is_overlapped ss ws v

-- it is written, or such a one is
abbrev pub is_touched : List SymbolTree → List Region → Variable → Bool
is_touched ss ws v = is_some (write_of v ws) || is_overlapped ss ws v
