-- What expressions, left sides and items do. Operands and subscripts are evaluated from left to right, each read is a step.
-- What reading refuses has no meaning of its own: it is fault Unset.
use Rattle.std.specs.Prelude.{ℕ, ◌+◌, List, [], ◌∷◌, Option, Some, None, if◌then◌else◌, ℤ}
use Rattle.f77_ast.specs.Trees.{ExprTree, ExprTrees}
use Rattle.f77_ast.specs.Trees as tree
use Rattle.f77_ast.specs.Store.{Tag, Int, Log, same_tag, Content, content, truth}
use Rattle.f77_ast.specs.Faults.{Fault, Arithmetic, Unset, Bounds}
use Rattle.f77_ast.specs.Steps.{Steps, Done, Breaks, Look, Faulty, Shown, Value, Text, ◌>>=◌}
use Rattle.f77_ast.specs.Numbers.{unary_number, unary_tag, binary_number, binary_tag, Intrinsic, intrinsic_named, intrinsic_number}
use Rattle.f77_ast.specs.Places.{Meant, Constant, Variable, Function, Names, Place, Places, element_in}

abbrev pub fault : {A : Type 0} → Fault → Steps A
fault f = Breaks (Faulty f)

-- a number of a type, or fault Arithmetic
abbrev pub given : Tag → Option ℤ → Steps Content
given t None = fault Arithmetic
given t (Some n) = Done (content t n)

-- what is in a unit, where it has a value of this type
abbrev pub of_type : Tag → Content → Steps Content
of_type t c = if same_tag t c.tag then Done c else fault Unset

abbrev pub read_unit : Tag → ℕ → Steps Content
read_unit t u = Look u (of_type t)

abbrev pub unit_after : ℕ → Option ℕ → Steps ℕ
unit_after u None = fault Bounds
unit_after u (Some k) = Done (u + k)

-- the unit of an element
abbrev pub element_unit : Place → List ℤ → Steps ℕ
element_unit p ns = unit_after p.first (element_in p ns)

abbrev pub name_value : Meant → Places → Steps Content
name_value (Constant c) at = Done c
name_value (Variable v) at = read_unit (at v).tag (at v).first
name_value Function at = fault Unset

abbrev pub intrinsic_value : Option Intrinsic → List ℤ → Steps Content
intrinsic_value None ns = fault Unset
intrinsic_value (Some f) ns = given Int (intrinsic_number f ns)

-- an element, or a call of an intrinsic function, with these subscripts or arguments
abbrev pub element_value : Meant → List ℕ → Places → List ℤ → Steps Content
element_value (Constant c) x at ns = fault Unset
element_value (Variable v) x at ns = element_unit (at v) ns >>= read_unit (at v).tag
element_value Function x at ns = intrinsic_value (intrinsic_named x) ns

abbrev mutual
  -- ANSI X3.9-1978 §6.6
  pub value : ExprTree → Names → Places → Steps Content
  value (tree.int n) w at = Done (content Int n)
  value (tree.log b) w at = Done (content Log (truth b))
  value (tree.name x) w at = name_value (w x) at
  value (tree.element x es) w at = values es w at >>= element_value (w x) x at
  value (tree.paren e) w at = value e w at
  value (tree.unary o e) w at = value e w at >>= λ c. given (unary_tag o) (unary_number o c.number)
  value (tree.binary o a b) w at = value a w at >>= λ c. value b w at >>= λ d. given (binary_tag o) (binary_number o c.number d.number)
  value (tree.chars x) w at = fault Unset

  pub values : ExprTrees → Names → Places → Steps (List ℤ)
  values tree.no_exprs w at = Done []
  values (tree.more_exprs e es) w at = value e w at >>= λ c. values es w at >>= λ ns. Done (c.number ∷ ns)

-- the unit of what is written, and the type of its values
pub record Target : Type 0 where
  pub unit : ℕ
  pub tag : Tag

abbrev pub to : ℕ → Tag → Target
to u t = record { unit = u; tag = t }

abbrev pub name_target : Meant → Places → Steps Target
name_target (Constant c) at = fault Unset
name_target (Variable v) at = Done (to (at v).first (at v).tag)
name_target Function at = fault Unset

abbrev pub element_target : Meant → Places → List ℤ → Steps Target
element_target (Constant c) at ns = fault Unset
element_target (Variable v) at ns = element_unit (at v) ns >>= λ u. Done (to u (at v).tag)
element_target Function at ns = fault Unset

-- a left side, or an item of a READ
abbrev pub target : ExprTree → Names → Places → Steps Target
target (tree.int n) w at = fault Unset
target (tree.log b) w at = fault Unset
target (tree.name x) w at = name_target (w x) at
target (tree.element x es) w at = values es w at >>= element_target (w x) at
target (tree.paren e) w at = fault Unset
target (tree.unary o e) w at = fault Unset
target (tree.binary o a b) w at = fault Unset
target (tree.chars x) w at = fault Unset

-- an item of a PRINT
abbrev pub shown : ExprTree → Names → Places → Steps Shown
shown (tree.chars x) w at = Done (Text x)
shown (tree.int n) w at = value (tree.int n) w at >>= λ c. Done (Value c)
shown (tree.log b) w at = value (tree.log b) w at >>= λ c. Done (Value c)
shown (tree.name x) w at = value (tree.name x) w at >>= λ c. Done (Value c)
shown (tree.element x es) w at = value (tree.element x es) w at >>= λ c. Done (Value c)
shown (tree.paren e) w at = value (tree.paren e) w at >>= λ c. Done (Value c)
shown (tree.unary o e) w at = value (tree.unary o e) w at >>= λ c. Done (Value c)
shown (tree.binary o a b) w at = value (tree.binary o a b) w at >>= λ c. Done (Value c)

abbrev pub all_shown : ExprTrees → Names → Places → Steps (List Shown)
all_shown tree.no_exprs w at = Done []
all_shown (tree.more_exprs e es) w at = shown e w at >>= λ x. all_shown es w at >>= λ xs. Done (x ∷ xs)
