-- Dimensions with constant bounds, and their units.
use Rattle.std.specs.Prelude.{ℕ, ◌-◌, ◌*◌, ◌^◌, min, Bool, false, nat_lt, List, map, Option, Some, None}
use Rattle.f77_ast.specs.Places.{Dim, total_size}
use Rattle.f77_checks.specs.declared.sizes.Size.{Size}

abbrev pub dim_tree : Size → Dim
dim_tree s = record { low = s.low; high = Some s.high }

abbrev pub dims_tree : List Size → List Dim
dims_tree ss = map dim_tree ss

-- what fits 64 bits
abbrev pub capped : ℕ → ℕ
capped n = min n (2 ^ 64 - 1)

-- so many times the units of dimensions, in 64 bits
abbrev pub capped_units : ℕ → Option (List Dim) → Option ℕ
capped_units n None = None
capped_units n (Some ds) = Some (capped (n * total_size ds))

-- more units than a variable may have
abbrev pub is_above : Option ℕ → Bool
is_above None = false
is_above (Some n) = nat_lt 2147483647 n
