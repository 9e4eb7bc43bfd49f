-- The units of blocks that hold an INTEGER scalar, in order.
use Rattle.std.specs.Prelude.{ℕ, List, [], ◌∷◌, map, Vec, if◌then◌else◌}
use Rattle.std.specs.declared.cmp.Ordering.{Ordering}
use Rattle.std.specs.Ordering.{match_ordering, ordering_then, nat_cmp}
use Rattle.std.specs.Cmp.Lexicographic.{slice_cmp}
use Rattle.std.specs.declared.alloc.Global.{Global}
use Rattle.f77_ast.specs.declared.symbol.Place.{Place}
use Rattle.f77_ast.specs.declared.symbol.Place.TheVariants.{Local, Dummy, Block, Constant}
use Rattle.f77_ast.specs.declared.variable.Unit.{Unit as BlockUnit}
use Rattle.f77_ast.specs.Symbols.{SymbolTree}
use Rattle.tracked_cells.specs.Standing.{is_int_scalar}

-- the order of names, byte by byte
abbrev pub name_cmp : List ℕ → List ℕ → Ordering
name_cmp x y = slice_cmp nat_cmp x y

-- by block, then by offset
abbrev pub unit_cmp : BlockUnit → BlockUnit → Ordering
unit_cmp u v = ordering_then (name_cmp u.block v.block) (nat_cmp u.offset v.offset)

abbrev pub unit : List ℕ → ℕ → BlockUnit
unit x o = record { block = x; offset = o }

-- a unit at its place in the order, unless it is there
abbrev pub unit_put : BlockUnit → List BlockUnit → List BlockUnit
unit_put u [] = u ∷ []
unit_put u (v ∷ vs) = match_ordering (unit_cmp u v) (u ∷ v ∷ vs) (v ∷ vs) (v ∷ unit_put u vs)

abbrev pub place_unit : Place → List BlockUnit → List BlockUnit
place_unit (Local g o) us = us
place_unit (Dummy m) us = us
place_unit (Block x o) us = unit_put (unit x o) us
place_unit (Constant m) us = us

abbrev pub with_scalar : SymbolTree → List BlockUnit → List BlockUnit
with_scalar s us = if is_int_scalar s then place_unit s.place us else us

-- the units so far and those of the INTEGER scalars among these symbols
abbrev pub with_scalars : List SymbolTree → List BlockUnit → List BlockUnit
with_scalars [] us = us
with_scalars (s ∷ ss) us = with_scalars ss (with_scalar s us)

abbrev pub all_scalars : List (List SymbolTree) → List BlockUnit → List BlockUnit
all_scalars [] us = us
all_scalars (ss ∷ sss) us = all_scalars sss (with_scalars ss us)

-- the unit of a key
abbrev pub key_unit : Vec ℕ Global × ℕ → BlockUnit
key_unit k = unit k.0.items k.1

-- the units of keys
abbrev pub keyed : List (Vec ℕ Global × ℕ) → List BlockUnit
keyed ks = map key_unit ks
