-- What COMMON and EQUIVALENCE statements list, in the order of the text.
use Rattle.std.specs.Prelude.{◌≡◌, ℕ, List, [], map, slice_get, flat_map, Some, bytes_eq, if◌then◌else◌}
use Rattle.f77_ast.specs.Trees.{ExprTree}
use Rattle.f77_ast.specs.DeclTrees.{EntityTree, CommonTree, DeclTree}
use Rattle.f77_ast.specs.DeclTrees as decl

abbrev pub Has : {A : Type 0} → List A → A → Type 0
Has xs x = (i : ℕ) × (slice_get xs i ≡ Some x)

abbrev pub commons_in : DeclTree → List CommonTree
commons_in (decl.common cs) = cs
commons_in (decl.implicit ps) = []
commons_in (decl.integer es) = []
commons_in (decl.logical es) = []
commons_in (decl.dimension es) = []
commons_in (decl.parameter ss) = []
commons_in (decl.equivalence gs) = []
commons_in (decl.save is) = []
commons_in (decl.initial gs) = []

abbrev pub equivalences_in : DeclTree → List (List ExprTree)
equivalences_in (decl.equivalence gs) = gs
equivalences_in (decl.implicit ps) = []
equivalences_in (decl.integer es) = []
equivalences_in (decl.logical es) = []
equivalences_in (decl.dimension es) = []
equivalences_in (decl.parameter ss) = []
equivalences_in (decl.common cs) = []
equivalences_in (decl.save is) = []
equivalences_in (decl.initial gs) = []

-- the lists of names behind each block name of COMMON
abbrev pub commons : List DeclTree → List CommonTree
commons ds = flat_map commons_in ds

-- the groups of EQUIVALENCE
abbrev pub equivalences : List DeclTree → List (List ExprTree)
equivalences ds = flat_map equivalences_in ds

abbrev pub members_in : List ℕ → CommonTree → List (List ℕ)
members_in b c = if bytes_eq b c.block then map (λ e. e.name) c.members else []

-- the members of a block: all COMMON statements of a module that name it go on with one list (§8.3.1)
abbrev pub members : List ℕ → List DeclTree → List (List ℕ)
members b ds = flat_map (members_in b) (commons ds)

abbrev pub names_in : CommonTree → List (List ℕ)
names_in c = map (λ e. e.name) c.members

-- the members of all blocks
abbrev pub common_names : List DeclTree → List (List ℕ)
common_names ds = flat_map names_in (commons ds)
