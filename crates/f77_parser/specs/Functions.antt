-- Which names are those of function subprograms, and with which value the result of one begins.
use Rattle.std.specs.Prelude.{ℕ, Bool, false, not, ◌&&◌, bytes_eq, List, [], ◌∷◌, ◌++◌, Option, Some, None, is_some, pos, if◌then◌else◌}
use Rattle.std.specs.List.{list_any}
use Rattle.f77_ast.specs.declared.decl.Scalar.{Scalar}
use Rattle.f77_ast.specs.declared.decl.Scalar.TheVariants as scalar
use Rattle.f77_ast.specs.Trees.{ExprTree, int, log}
use Rattle.f77_ast.specs.DeclTrees.{EntityTree, ExtentTree, CommonTree, DeclTree, implicit, integer, logical, dimension, parameter, common, equivalence, save, initial}
use Rattle.f77_names.specs.declared.kinds.Kind.{Kind}
use Rattle.f77_names.specs.declared.kinds.Kind.TheVariants.{Int, Log, Real}
use Rattle.f77_names.specs.Kinds.{kind_of_name, kind_or}
use Rattle.f77_names.specs.Functions.{function_named}

-- a name is among these
abbrev pub has : List (List ℕ) → List ℕ → Bool
has xs x = list_any (bytes_eq x) xs

-- ---- names with bounds (ANSI X3.9-1978 §5.1, §8.1, §8.3, §8.4)

abbrev pub if_bounded : List ExtentTree → List ℕ → List (List ℕ)
if_bounded [] x = []
if_bounded (b ∷ bs) x = x ∷ []

abbrev pub bounded_entities : List EntityTree → List (List ℕ)
bounded_entities [] = []
bounded_entities (e ∷ es) = if_bounded e.bounds e.name ++ bounded_entities es

abbrev pub bounded_blocks : List CommonTree → List (List ℕ)
bounded_blocks [] = []
bounded_blocks (c ∷ cs) = bounded_entities c.members ++ bounded_blocks cs

abbrev pub bounded_in : DeclTree → List (List ℕ)
bounded_in (implicit ps) = []
bounded_in (integer es) = bounded_entities es
bounded_in (logical es) = bounded_entities es
bounded_in (dimension es) = bounded_entities es
bounded_in (parameter ss) = []
bounded_in (common cs) = bounded_blocks cs
bounded_in (equivalence gs) = []
bounded_in (save is) = []
bounded_in (initial gs) = []

-- the names of which these specification statements write bounds
abbrev pub bounded_names : List DeclTree → List (List ℕ)
bounded_names [] = []
bounded_names (d ∷ ds) = bounded_in d ++ bounded_names ds

-- a name with arguments is that of a function subprogram where it is none of these, which have bounds, and no intrinsic function
abbrev pub is_external : List (List ℕ) → List ℕ → Bool
is_external bounded f = not (has bounded f) && not (is_some (function_named f))

-- ---- names in type statements

abbrev pub entity_names : List EntityTree → List (List ℕ)
entity_names [] = []
entity_names (e ∷ es) = e.name ∷ entity_names es

abbrev pub integer_in : DeclTree → List (List ℕ)
integer_in (implicit ps) = []
integer_in (integer es) = entity_names es
integer_in (logical es) = []
integer_in (dimension es) = []
integer_in (parameter ss) = []
integer_in (common cs) = []
integer_in (equivalence gs) = []
integer_in (save is) = []
integer_in (initial gs) = []

abbrev pub logical_in : DeclTree → List (List ℕ)
logical_in (implicit ps) = []
logical_in (integer es) = []
logical_in (logical es) = entity_names es
logical_in (dimension es) = []
logical_in (parameter ss) = []
logical_in (common cs) = []
logical_in (equivalence gs) = []
logical_in (save is) = []
logical_in (initial gs) = []

-- those of INTEGER statements, and those of LOGICAL statements; a name of both is refused later
abbrev pub integer_names : List DeclTree → List (List ℕ)
integer_names [] = []
integer_names (d ∷ ds) = integer_in d ++ integer_names ds

abbrev pub logical_names : List DeclTree → List (List ℕ)
logical_names [] = []
logical_names (d ∷ ds) = logical_in d ++ logical_names ds

-- ---- the result of a function

abbrev pub declared_type : List (List ℕ) → List (List ℕ) → List ℕ → Option Scalar
declared_type integers logicals x = if has logicals x then Some scalar.Log else if has integers x then Some scalar.Int else None

abbrev pub zero_of : Kind → ExprTree
zero_of Int = int (pos 0)
zero_of Log = log false
zero_of Real = int (pos 0)

-- it begins with .FALSE. where its name is LOGICAL, by a type statement or by the first letter, and else with 0
abbrev pub start_of : List (List ℕ) → List (List ℕ) → List Kind → List ℕ → ExprTree
start_of integers logicals kinds f = zero_of (kind_or (kind_of_name kinds f) (declared_type integers logicals f))
