-- The names of a module, and where its variables lie.
use Rattle.std.specs.Prelude.{ℕ, ◌+◌, ◌*◌, List, [], ◌∷◌, Option, Some, None, Bool, true, ◌&&◌, if◌then◌else◌, nat_lt, ℤ, pos, negsuc, ◌-ℤ◌, ◌+ℤ◌, int_le}
use Rattle.f77_ast.specs.Store.{Tag, Content}

-- what a name stands for in a module
pub data Meant : Type 0 where
  -- a PARAMETER
  Constant : Content → Meant
  -- a variable or an array, by the number of its symbol
  Variable : (symbol : ℕ) → Meant
  -- no symbol: an intrinsic function
  Function : Meant

abbrev pub Names : Type 0
Names = List ℕ → Meant

-- a dimension; the upper bound of the last one may be open
pub record Dim : Type 0 where
  pub low : ℤ
  pub high : Option ℤ

-- the first unit of a variable, how many units it reaches, the type of its values, and its dimensions, none for a scalar
pub record Place : Type 0 where
  pub first : ℕ
  pub extent : ℕ
  pub tag : Tag
  pub dims : List Dim

-- where the variables of an active module lie, by the numbers of their symbols
abbrev pub Places : Type 0
Places = ℕ → Place

abbrev pub scalar_place : ℕ → Tag → Place
scalar_place u t = record { first = u; extent = 1; tag = t; dims = [] }

abbrev pub as_count : ℤ → ℕ
as_count (pos n) = n
as_count (negsuc n) = 0

abbrev pub size_from : ℤ → Option ℤ → ℕ
size_from low None = 1
size_from low (Some high) = as_count ((high -ℤ low) +ℤ pos 1)

-- max(high-low+1, 0); that of an open one does not count, as none comes after it
abbrev pub dim_size : Dim → ℕ
dim_size d = size_from d.low d.high

abbrev pub total_size : List Dim → ℕ
total_size [] = 1
total_size (d ∷ ds) = dim_size d * total_size ds

abbrev pub at_most : ℤ → Option ℤ → Bool
at_most n None = true
at_most n (Some high) = int_le n high

abbrev pub dim_has : Dim → ℤ → Bool
dim_has d n = int_le d.low n && at_most n d.high

abbrev pub in_column : Dim → ℤ → Option ℕ → Option ℕ
in_column d n None = None
in_column d n (Some k) = Some (as_count (n -ℤ d.low) + dim_size d * k)

-- how many elements come before the one with these subscripts (ANSI X3.9-1978 §5.4.3); none out of bounds
abbrev pub position : List Dim → List ℤ → Option ℕ
position [] [] = Some 0
position [] (n ∷ ns) = None
position (d ∷ ds) [] = None
position (d ∷ ds) (n ∷ ns) = if dim_has d n then in_column d n (position ds ns) else None

abbrev pub within : Place → Option ℕ → Option ℕ
within p None = None
within p (Some k) = if nat_lt k p.extent then Some k else None

-- the element's number in the array from 0; none out of bounds, or past what the array reaches
abbrev pub element_in : Place → List ℤ → Option ℕ
element_in p ns = within p (position p.dims ns)
