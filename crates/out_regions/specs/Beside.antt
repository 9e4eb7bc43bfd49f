-- What of regions may matter to some WRITE regions: those of their variables, and of variables that share units with these.
use Rattle.std.specs.Prelude.{Bool, false, ◌||◌, if◌then◌else◌, List, [], ◌∷◌}
use Rattle.f77_ast.specs.declared.variable.Variable.{Variable}
use Rattle.f77_ast.specs.Symbols.{SymbolTree}
use Rattle.f77_ast.specs.Shared.{overlap}
use Rattle.in_out_regions.specs.region_sets.declared.region.Region.{Region}
use Rattle.f77_ast.specs.Variables.{same_variable}

-- one of some regions has this variable, or one that shares units with it
abbrev pub is_met : List SymbolTree → List Region → Variable → Bool
is_met ss [] v = false
is_met ss (w ∷ ws) v = same_variable w.variable v || (overlap ss v w.variable || is_met ss ws v)

abbrev pub kept : (Variable → Bool) → List Region → List Region
kept q [] = []
kept q (u ∷ us) = if q u.variable then u ∷ kept q us else kept q us

abbrev pub beside : List SymbolTree → List Region → List Region → List Region
beside ss ws us = kept (is_met ss ws) us
