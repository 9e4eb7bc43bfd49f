-- The storage of a program: areas of units, each unit with a number of its own (ANSI X3.9-1978 §17.1).
use Rattle.std.specs.Prelude.{ℕ, ◌+◌, ◌*◌, ◌^◌, ◌/◌, ◌%◌, Bool, nat_eq, List, Option, Some, None}
use Rattle.f77_ast.specs.Symbols.{number_from}

-- units that stand one behind the other
pub data Area : Type 0 where
  -- a COMMON block
  block : (name : List ℕ) → Area
  -- a storage group of a module's locals
  group : (module_name : List ℕ) → (number : ℕ) → Area
  -- the unit of an expression that is an actual argument, by the number of the CALL and by its place there, from 0
  own : (module_name : List ℕ) → (call : ℕ) → (place : ℕ) → Area

-- what the numbers of a program's units rest on: the names of its blocks and modules, and a number of units that no area reaches
pub record Numbering : Type 0 where
  pub blocks : List (List ℕ)
  pub modules : List (List ℕ)
  pub room : ℕ

abbrev pub or_zero : Option ℕ → ℕ
or_zero None = 0
or_zero (Some n) = n

-- the place of a name, from 1; 0 where it is none of them
abbrev pub place_in : List (List ℕ) → List ℕ → ℕ
place_in names x = or_zero (number_from 1 names x)

-- two numbers as one: different pairs give different numbers
abbrev pub paired : ℕ → ℕ → ℕ
paired m n = 2 ^ m * (2 * n + 1)

abbrev pub area_number : Numbering → Area → ℕ
area_number g (block x) = 3 * place_in g.blocks x
area_number g (group m n) = 3 * paired (place_in g.modules m) n + 1
area_number g (own m s k) = 3 * paired (place_in g.modules m) (paired s k) + 2

-- the number of a unit, by its distance from the first of its area
abbrev pub unit_at : Numbering → Area → ℕ → ℕ
unit_at g a offset = area_number g a * g.room + offset

-- whether a unit is one of an area
abbrev pub is_unit_of : Numbering → Area → ℕ → Bool
is_unit_of g a u = nat_eq (u / g.room) (area_number g a)

-- whether a unit is that of an expression that is an actual
abbrev pub is_own_unit : Numbering → ℕ → Bool
is_own_unit g u = nat_eq ((u / g.room) % 3) 2
