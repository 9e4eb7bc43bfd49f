-- How a printed line is read. Names are those of the symbols, from 1.
use Rattle.std.specs.Prelude.{ℕ, suc, ◌+◌, ◌*◌, ◌-◌, Bool, true, false, if◌then◌else◌, nat_eq, List, [], ◌∷◌, Option, Some, None, option_and_then, option_map, ℤ, pos, negsuc, ◌+ℤ◌, ◌*ℤ◌, ◌-ℤ◌, bytes_eq, codes}
use Rattle.std.specs.Option.{option_or}
use Rattle.std.specs.Char.{is_ascii_digit}
use Rattle.affine_systems.specs.declared.row.Var.{Var}
use Rattle.affine_systems.specs.declared.row.Var.TheVariants.{Cell, Exit}
use Rattle.affine_systems.specs.declared.row.Term.{Term}
use Rattle.affine_systems.specs.declared.row.Row.{Row}
use Rattle.affine_systems.specs.declared.row.System.{System}
use Rattle.affine_systems.specs.Terms.{add_term}
use Rattle.affine_systems.specs.Rows.{row, system, false_row}

abbrev pub Bytes : Type 0
Bytes = List ℕ

infixl 10 ◌>>=◌
abbrev pub ◌>>=◌ : {A B : Type 0} → Option A → (A → Option B) → Option B
o >>= f = option_and_then f o

-- ---- characters and pieces

-- the characters at which texts are cut: blank ' * + , < = }
abbrev pub blank : ℕ
blank = 32

abbrev pub apostrophe : ℕ
apostrophe = 39

abbrev pub star : ℕ
star = 42

abbrev pub plus : ℕ
plus = 43

abbrev pub comma : ℕ
comma = 44

abbrev pub less : ℕ
less = 60

abbrev pub equals : ℕ
equals = 61

abbrev pub brace : ℕ
brace = 125

-- what is behind a front that the text must have
abbrev pub after : Bytes → Bytes → Option Bytes
after [] t = Some t
after (c ∷ cs) [] = None
after (c ∷ cs) (d ∷ ds) = if nat_eq c d then after cs ds else None

-- what is before the first mark, and what is behind it
abbrev pub cut : ℕ → Bytes → Option (Bytes × Bytes)
cut mark [] = None
cut mark (c ∷ cs) = if nat_eq c mark then Some ([], cs) else option_map (λ p. (c ∷ p.0, p.1)) (cut mark cs)

-- a character at the front of the first piece
abbrev pub longer : ℕ → List Bytes → List Bytes
longer c [] = (c ∷ []) ∷ []
longer c (x ∷ xs) = (c ∷ x) ∷ xs

-- the pieces between marks, one more than there are marks
abbrev pub pieces : ℕ → Bytes → List Bytes
pieces mark [] = [] ∷ []
pieces mark (c ∷ cs) = if nat_eq c mark then [] ∷ pieces mark cs else longer c (pieces mark cs)

abbrev pub read_each : {A : Type 0} → (Bytes → Option A) → List Bytes → Option (List A)
read_each read [] = Some []
read_each read (x ∷ xs) = do
  first ← read x
  others ← read_each read xs
  Some (first ∷ others)

-- ---- numbers and variables

-- digits behind those of n
abbrev pub digits_from : ℕ → Bytes → Option ℕ
digits_from n [] = Some n
digits_from n (c ∷ cs) = if is_ascii_digit c then digits_from (10 * n + (c - 48)) cs else None

-- a decimal number of one digit or more
abbrev pub read_number : Bytes → Option ℕ
read_number [] = None
read_number (c ∷ cs) = digits_from 0 (c ∷ cs)

-- the number of a name, where the first name has number n
abbrev pub number_from : ℕ → List Bytes → Bytes → Option ℕ
number_from n [] x = None
number_from n (y ∷ ys) x = if bytes_eq y x then Some n else number_from (suc n) ys x

abbrev pub read_name : List Bytes → Bytes → Option ℕ
read_name names x = number_from 1 names x

-- NAME is a cell before the statement, NAME' the same cell after it
abbrev pub var_of : List Bytes → List Bytes → Option Var
var_of names [] = None
var_of names (x ∷ []) = option_map Cell (read_name names x)
var_of names (x ∷ ([] ∷ [])) = option_map Exit (read_name names x)
var_of names (x ∷ (y ∷ ys)) = None

abbrev pub read_var : List Bytes → Bytes → Option Var
read_var names x = var_of names (pieces apostrophe x)

-- ---- rows

-- what stands between `+`
pub data Part : Type 0 where
  Number : ℕ → Part
  Times : ℕ → Var → Part

-- NUMBER, VARIABLE or FACTOR*VARIABLE
abbrev pub part_of : List Bytes → List Bytes → Option Part
part_of names [] = None
part_of names (x ∷ []) = option_or (option_map Number (read_number x)) (option_map (Times 1) (read_var names x))
part_of names (x ∷ (y ∷ [])) = do
  factor ← read_number x
  var ← read_var names y
  Some (Times factor var)
part_of names (x ∷ (y ∷ (z ∷ zs))) = None

abbrev pub read_part : List Bytes → Bytes → Option Part
read_part names x = part_of names (pieces star x)

abbrev pub read_side : List Bytes → Bytes → Option (List Part)
read_side names x = read_each (read_part names) (pieces plus x)

-- c times each variable of a side, added to terms
abbrev pub add_side : ℤ → List Part → List Term → List Term
add_side c [] ts = ts
add_side c (Number n ∷ ps) ts = add_side c ps ts
add_side c (Times n v ∷ ps) ts = add_term v (c *ℤ pos n) (add_side c ps ts)

-- the sum of the numbers of a side
abbrev pub constant : List Part → ℤ
constant [] = pos 0
constant (Number n ∷ ps) = pos n +ℤ constant ps
constant (Times n v ∷ ps) = constant ps

-- all variables moved to the left, all numbers to the right
abbrev pub row_of : Bool → List Part → List Part → Row
row_of e left right = row e (add_side (pos 1) left (add_side (negsuc 0) right [])) (constant right -ℤ constant left)

-- two sides with a sign of two characters between them, of which the second is `=`
abbrev pub read_sides : List Bytes → Bool → ℕ → Bytes → Option Row
read_sides names e sign x = do
  (left, rest) ← cut sign x
  right ← after (codes "=") rest
  l ← read_side names left
  r ← read_side names right
  Some (row_of e l r)

-- SIDE<=SIDE or SIDE==SIDE
abbrev pub read_row : List Bytes → Bytes → Option Row
read_row names x = option_or (read_sides names false less x) (read_sides names true equals x)

-- ---- systems

-- a row behind a comma, where a blank stands before it
abbrev pub read_next_row : List Bytes → Bytes → Option Row
read_next_row names x = do
  y ← after (codes " ") x
  read_row names y

abbrev pub rows_of : List Bytes → List Bytes → Option (List Row)
rows_of names [] = None
rows_of names (x ∷ xs) = do
  first ← read_row names x
  others ← read_each (read_next_row names) xs
  Some (first ∷ others)

-- nothing; FALSE, which is 0 <= -1; rows with `, ` between them
abbrev pub read_rows : List Bytes → Bytes → Option (List Row)
read_rows names x =
    if bytes_eq x [] then Some []
    else if bytes_eq x (codes "FALSE") then Some (false_row ∷ [])
    else rows_of names (pieces comma x)

-- nothing, or WEAK
abbrev pub read_weak : Bytes → Option Bool
read_weak x =
    if bytes_eq x [] then Some false
    else if bytes_eq x (codes " WEAK") then Some true
    else None

-- {ROWS} or {ROWS} WEAK
abbrev pub read_system : List Bytes → Bytes → Option System
read_system names t = do
  body ← after (codes "{") t
  (inner, end) ← cut brace body
  rows ← read_rows names inner
  weak ← read_weak end
  Some (system rows weak)

-- ---- lines

-- C> P SYSTEM
abbrev pub read_precondition_line : List Bytes → Bytes → Option System
read_precondition_line names t = do
  rest ← after (codes "C> P ") t
  read_system names rest

-- nothing, or names with `,` between them
abbrev pub read_cells : List Bytes → Bytes → Option (List ℕ)
read_cells names x = if bytes_eq x [] then Some [] else read_each (read_name names) (pieces comma x)

-- C> T CELLS SYSTEM
abbrev pub read_transformer_line : List Bytes → Bytes → Option (List ℕ × System)
read_transformer_line names t = do
  rest ← after (codes "C> T ") t
  (inner, end) ← cut blank rest
  cells ← read_cells names inner
  s ← read_system names end
  Some (cells, s)
