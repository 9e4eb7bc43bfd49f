-- How a line of a region is read. Names are those of the symbols, from 1.
use Rattle.std.specs.Prelude.{ℕ, ◌-◌, Bool, true, false, if◌then◌else◌, nat_le, List, [], ◌∷◌, ◌++◌, map, length, Option, Some, None, option_map, bytes_eq, codes}
use Rattle.std.specs.Option.{option_or}
use Rattle.affine_systems.specs.declared.row.Var.{Var}
use Rattle.affine_systems.specs.declared.row.Var.TheVariants.{Cell, Exit, Phi, Aux}
use Rattle.affine_systems.specs.declared.row.Row.{Row}
use Rattle.affine_systems.specs.Rows.{system, renamed_row}
use Rattle.f77_ast.specs.declared.variable.Variable.{Variable}
use Rattle.f77_ast.specs.declared.variable.Variable.TheVariants.{Own, Block, Saved}
use Rattle.system_text.specs.Reading.{Bytes, ◌>>=◌, blank, brace, after, cut, pieces, read_name, read_rows, read_weak}
use Rattle.in_out_regions.specs.region_sets.declared.region.Access.{Access}
use Rattle.in_out_regions.specs.region_sets.declared.region.Access.TheVariants.{Read, Write, In, Out}
use Rattle.in_out_regions.specs.region_sets.declared.region.Region.{Region}
use Rattle.in_out_regions.specs.region_sets.Regions.{region}

-- ---- rows

-- the names of subscripts, of which an array element has at most seven (ANSI X3.9-1978 §5.1)
abbrev pub phi_names : List Bytes
phi_names = codes "PHI1" ∷ (codes "PHI2" ∷ (codes "PHI3" ∷ (codes "PHI4" ∷ (codes "PHI5" ∷ (codes "PHI6" ∷ (codes "PHI7" ∷ []))))))

-- the names of symbols, and behind them those of subscripts
abbrev pub with_phis : List Bytes → List Bytes
with_phis names = names ++ phi_names

-- of n names of symbols: what is read as a cell behind them is a subscript
abbrev pub as_subscript : ℕ → Var → Var
as_subscript n (Cell k) = if nat_le k n then Cell k else Phi (k - n)
as_subscript n (Exit k) = Exit k
as_subscript n (Phi k) = Phi k
as_subscript n (Aux k) = Aux k

-- the rows of a system, as of any other, where PHI1 to PHI7 are subscripts
abbrev pub read_piece : List Bytes → Bytes → Option (List Row)
read_piece names x = option_map (map (renamed_row (as_subscript (length names)))) (read_rows (with_phis names) x)

-- ---- systems

-- what is before each `}` is rows behind a front, `{` or ` + {`, and what is behind the last `}` is left
abbrev pub read_before : List Bytes → Bytes → Bytes → List Bytes → Option (List (List Row) × Bytes)
read_before names front x [] = Some ([], x)
read_before names front x (y ∷ ys) = do
  inner ← after front x
  rows ← read_piece names inner
  others ← read_before names (codes " + {") y ys
  Some (rows ∷ others.0, others.1)

abbrev pub read_between : List Bytes → List Bytes → Option (List (List Row) × Bytes)
read_between names [] = None
read_between names (x ∷ xs) = read_before names (codes "{") x xs

-- {ROWS} + {ROWS} .., and what is behind them
abbrev pub read_pieces : List Bytes → Bytes → Option (List (List Row) × Bytes)
read_pieces names x = read_between names (pieces brace x)

-- ---- what stands before and behind them

abbrev pub read_access : Bytes → Option Access
read_access x =
    if bytes_eq x (codes "READ") then Some Read
    else if bytes_eq x (codes "WRITE") then Some Write
    else if bytes_eq x (codes "IN") then Some In
    else if bytes_eq x (codes "OUT") then Some Out
    else None

abbrev pub slash : ℕ
slash = 47

abbrev pub colon : ℕ
colon = 58

-- /B/, where the blank block has the empty name
abbrev pub read_block : Bytes → Option Variable
read_block x = do
  rest ← after (codes "/") x
  (name, end) ← cut slash rest
  if bytes_eq end [] then Some (Block name) else None

-- S:X, a saved local of another module
abbrev pub read_saved : Bytes → Option Variable
read_saved x = do
  (name, local) ← cut colon x
  Some (Saved name local)

abbrev pub read_variable : List Bytes → Bytes → Option Variable
read_variable names x = option_or (read_block x) (option_or (read_saved x) (option_map Own (read_name names x)))

-- whether each element is accessed, and whether a row was lost
abbrev pub read_flags : Bytes → Option (Bool × Bool)
read_flags x =
    option_or (option_map (λ (weak : Bool). (true, weak)) (after (codes " EXACT") x >>= read_weak))
    (option_map (λ (weak : Bool). (false, weak)) (after (codes " MAY") x >>= read_weak))

-- ---- lines

-- the line has one flag for all systems
abbrev pub of_pieces : Variable → Access → List (List Row) → Bool × Bool → Region
of_pieces v k rows flags = region v k flags.0 (map (λ rs. system rs flags.1) rows)

-- KIND VARIABLE SYSTEMS FLAGS
abbrev pub read_region : List Bytes → Bytes → Option Region
read_region names t = do
  (word, rest) ← cut blank t
  kind ← read_access word
  (name, more) ← cut blank rest
  variable ← read_variable names name
  (rows, end) ← read_pieces names more
  flags ← read_flags end
  Some (of_pieces variable kind rows flags)

-- C> REGION
abbrev pub read_region_line : List Bytes → Bytes → Option Region
read_region_line names t = do
  rest ← after (codes "C> ") t
  read_region names rest
