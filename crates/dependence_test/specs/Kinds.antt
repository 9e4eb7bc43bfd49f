-- The accesses of two iterations between which there is a dependence, and the variables.
use Rattle.std.specs.Prelude.{Bool, true, false, ◌&&◌, ◌||◌, List}
use Rattle.f77_ast.specs.Symbols.{SymbolTree}
use Rattle.f77_ast.specs.Shared.{overlap}
use Rattle.f77_ast.specs.declared.variable.Variable.{Variable}
use Rattle.f77_ast.specs.declared.marks.Kinds.{Kinds}
use Rattle.f77_ast.specs.declared.marks.Kinds.TheVariants.{WriteRead, ReadWrite, WriteWrite}
use Rattle.region_sets.specs.declared.region.Access.{Access}
use Rattle.region_sets.specs.declared.region.Access.TheVariants.{Read, Write, In, Out}
use Rattle.region_sets.specs.declared.region.Region.{Region}
use Rattle.f77_ast.specs.Variables.{same_variable}

-- ---- accesses

abbrev pub is_read : Access → Bool
is_read Read = true
is_read Write = false
is_read In = false
is_read Out = false

abbrev pub is_write : Access → Bool
is_write Read = false
is_write Write = true
is_write In = false
is_write Out = false

-- of the earlier iteration
abbrev pub first_access : Kinds → Access
first_access WriteRead = Write
first_access ReadWrite = Read
first_access WriteWrite = Write

-- of the later one
abbrev pub second_access : Kinds → Access
second_access WriteRead = Read
second_access ReadWrite = Write
second_access WriteWrite = Write

abbrev pub is_first : Kinds → Access → Bool
is_first WriteRead a = is_write a
is_first ReadWrite a = is_read a
is_first WriteWrite a = is_write a

abbrev pub is_second : Kinds → Access → Bool
is_second WriteRead a = is_read a
is_second ReadWrite a = is_write a
is_second WriteWrite a = is_write a

-- ---- variables

-- one variable, or two that share a unit by COMMON or EQUIVALENCE
abbrev pub related : List SymbolTree → Variable → Variable → Bool
related ss v w = same_variable v w || overlap ss v w

-- ---- pairs

-- of this variable, or of one that shares a unit with it
abbrev pub may_meet : List SymbolTree → Variable → Region → Bool
may_meet ss v r = related ss r.variable v

abbrev pub is_written : Variable → Region → Bool
is_written v r = is_write r.kind && same_variable r.variable v

-- the accesses are those asked for, one of the two writes the variable, and the other may meet it
abbrev pub is_pair : List SymbolTree → Variable → Kinds → Region → Region → Bool
is_pair ss v k x y =
    (is_first k x.kind && is_second k y.kind) && ((is_written v x && may_meet ss v y) || (is_written v y && may_meet ss v x))
