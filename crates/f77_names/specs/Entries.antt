-- What a module says of its names, in order of first appearance.
use Rattle.std.specs.Prelude.{ℕ, List, [], ◌∷◌, ◌++◌, map, Option, Some, None, Bool, true, false, is_some, if◌then◌else◌, bytes_eq}
use Rattle.f77_ast.specs.declared.decl.Scalar.{Scalar}
use Rattle.f77_ast.specs.declared.constant.Constant.{Constant}
use Rattle.f77_ast.specs.Symbols.{BoundTree, bound_tree, number_from}
use Rattle.f77_names.specs.declared.entry.Shape.{Shape}
use Rattle.f77_names.specs.declared.entry.Entry.{Entry}

-- bounds, and the line of the statement that gives them
pub record ShapeTree : Type 0 where
  pub line : ℕ
  pub bounds : List BoundTree

-- a name: the line where it is first; its number among the dummies, its declared type, its bounds, the line of its COMMON
-- statement, whether it is a PARAMETER and its value, and whether it is in SAVE and in DATA
pub record EntryTree : Type 0 where
  pub name : List ℕ
  pub line : ℕ
  pub dummy : Option ℕ
  pub scalar : Option Scalar
  pub shape : Option ShapeTree
  pub common : Option ℕ
  pub parameter : Bool
  pub value : Option Constant
  pub saved : Bool
  pub initial : Bool

abbrev pub shape_tree : Shape → ShapeTree
shape_tree s = record { line = s.line; bounds = map bound_tree s.bounds }

abbrev pub maybe_shape : Option Shape → Option ShapeTree
maybe_shape None = None
maybe_shape (Some s) = Some (shape_tree s)

abbrev pub entry_tree : Entry → EntryTree
entry_tree e = record {
  name = e.name;
  line = e.line;
  dummy = e.dummy;
  scalar = e.scalar;
  shape = maybe_shape e.shape;
  common = e.common;
  parameter = e.parameter;
  value = e.value;
  saved = e.saved;
  initial = e.initial;
}

-- a name of which nothing more is said
abbrev pub fresh : List ℕ → ℕ → EntryTree
fresh x line = record {
  name = x;
  line = line;
  dummy = None;
  scalar = None;
  shape = None;
  common = None;
  parameter = false;
  value = None;
  saved = false;
  initial = false;
}

unfoldable pub find : List ℕ → List EntryTree → Option EntryTree
find x [] = None
find x (e ∷ es) = if bytes_eq x e.name then Some e else find x es

abbrev pub entry_names : List EntryTree → List (List ℕ)
entry_names es = map (λ e. e.name) es

-- the place of a name, from 0
unfoldable pub place_in : List EntryTree → List ℕ → Option ℕ
place_in es x = number_from 0 (entry_names es) x

-- the names, with this one
abbrev pub seen : List ℕ → ℕ → List EntryTree → List EntryTree
seen x line es = if is_some (find x es) then es else es ++ fresh x line ∷ []

-- more is said of a name
abbrev pub changed : List ℕ → (EntryTree → EntryTree) → List EntryTree → List EntryTree
changed x f [] = []
changed x f (e ∷ es) = if bytes_eq x e.name then f e ∷ es else e ∷ changed x f es

-- ---- what the first word on it stays

abbrev pub or_this : {A : Type 0} → Option A → A → Option A
or_this None new = Some new
or_this (Some old) new = Some old

abbrev pub with_dummy : ℕ → EntryTree → EntryTree
with_dummy n e = record e { dummy = or_this e.dummy n }

abbrev pub with_type : Scalar → EntryTree → EntryTree
with_type s e = record e { scalar = or_this e.scalar s }

abbrev pub with_shape : ShapeTree → EntryTree → EntryTree
with_shape s e = record e { shape = or_this e.shape s }

abbrev pub with_common : ℕ → EntryTree → EntryTree
with_common line e = record e { common = or_this e.common line }

abbrev pub as_parameter : EntryTree → EntryTree
as_parameter e = record e { parameter = true }

abbrev pub with_value : Constant → EntryTree → EntryTree
with_value c e = record e { value = Some c }

abbrev pub as_saved : EntryTree → EntryTree
as_saved e = record e { saved = true }

abbrev pub as_initial : EntryTree → EntryTree
as_initial e = record e { initial = true }

-- ---- questions on a name

abbrev pub of_entry : {A : Type 0} → A → (EntryTree → A) → Option EntryTree → A
of_entry other f None = other
of_entry other f (Some e) = f e

abbrev pub has_dummy : List ℕ → List EntryTree → Bool
has_dummy x es = of_entry false (λ e. is_some e.dummy) (find x es)

abbrev pub has_type : List ℕ → List EntryTree → Bool
has_type x es = of_entry false (λ e. is_some e.scalar) (find x es)

abbrev pub has_shape : List ℕ → List EntryTree → Bool
has_shape x es = of_entry false (λ e. is_some e.shape) (find x es)

abbrev pub has_common : List ℕ → List EntryTree → Bool
has_common x es = of_entry false (λ e. is_some e.common) (find x es)

abbrev pub has_value : List ℕ → List EntryTree → Bool
has_value x es = of_entry false (λ e. is_some e.value) (find x es)

abbrev pub is_parameter : List ℕ → List EntryTree → Bool
is_parameter x es = of_entry false (λ e. e.parameter) (find x es)

abbrev pub value_among : List EntryTree → List ℕ → Option Constant
value_among es x = of_entry None (λ e. e.value) (find x es)
