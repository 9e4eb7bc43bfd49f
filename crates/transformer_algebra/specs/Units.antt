-- Lists of units of blocks, by the names of the blocks, byte by byte, then by offset, each once.
use Rattle.std.specs.Prelude.{List, [], ◌∷◌}
use Rattle.std.specs.declared.cmp.Ordering.{Ordering}
use Rattle.std.specs.Ordering.{match_ordering, ordering_then, nat_cmp}
use Rattle.std.specs.Cmp.Lexicographic.{slice_cmp}
use Rattle.f77_ast.specs.declared.variable.Unit.{Unit as BlockUnit}

abbrev pub unit_cmp : BlockUnit → BlockUnit → Ordering
unit_cmp u v = ordering_then (slice_cmp nat_cmp u.block v.block) (nat_cmp u.offset v.offset)

-- a unit put into ordered ones, unless it is there
abbrev pub with_unit : BlockUnit → List BlockUnit → List BlockUnit
with_unit u [] = u ∷ []
with_unit u (v ∷ vs) = match_ordering (unit_cmp u v) (u ∷ v ∷ vs) (v ∷ vs) (v ∷ with_unit u vs)

abbrev pub with_units : List BlockUnit → List BlockUnit → List BlockUnit
with_units vs [] = vs
with_units vs (u ∷ us) = with_units (with_unit u vs) us

-- the units of both
abbrev pub joined_units : List BlockUnit → List BlockUnit → List BlockUnit
joined_units us vs = with_units (with_units [] us) vs
