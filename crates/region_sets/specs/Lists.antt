-- READ and WRITE of a list, from those of its statements.
use Rattle.std.specs.Prelude.{ℕ, Bool, true, false, if◌then◌else◌, List, [], ◌∷◌, ◌++◌, map, Option, Some, None}
use Rattle.f77_ast.specs.Trees.{StmtTree, StmtTrees}
use Rattle.f77_ast.specs.Trees as tree
use Rattle.f77_ast.specs.declared.results.At.{At}
use Rattle.transformers.specs.transformer_algebra.declared.transformer.Transformer.{Transformer}
use Rattle.transformers.specs.transformer_algebra.Transformers.{without}
use Rattle.transformers.specs.Jumps.{unstructured}
use Rattle.transformers.specs.Lists.{value_at, number_of, list_at}
use Rattle.region_sets.specs.declared.region.Access.{Access}
use Rattle.region_sets.specs.declared.region.Access.TheVariants.{Read, Write, In, Out}
use Rattle.region_sets.specs.declared.region.Region.{Region}
use Rattle.region_sets.specs.Regions.{remade}
use Rattle.region_sets.specs.Compose.{compose}
use Rattle.region_sets.specs.Sets.{SetFits, unite_all}

abbrev pub SetsFit : List (At (List Region)) → Type 0
SetsFit [] = Unit {0}
SetsFit (a ∷ as') = SetFits a.value × SetsFit as'

-- ---- the regions of a statement

abbrev pub is_access : Access → Bool
is_access Read = true
is_access Write = true
is_access In = false
is_access Out = false

abbrev pub accesses : List Region → List Region
accesses [] = []
accesses (r ∷ rs) = if is_access r.kind then r ∷ accesses rs else accesses rs

abbrev pub or_none : Option (List Region) → List Region
or_none None = []
or_none (Some rs) = rs

-- the set of the statement of a number
abbrev pub set_at : List (At (List Region)) → ℕ → List Region
set_at as' n = or_none (value_at as' n)

-- READ and WRITE of the statement of a number
abbrev pub accesses_at : List (At (List Region)) → ℕ → List Region
accesses_at as' n = accesses (set_at as' n)

-- ---- in order

-- as seen from before a statement
abbrev pub all_composed : Transformer → List Region → List Region
all_composed t rs = map (λ r. compose r t) rs

-- what a statement accesses, and what the rest does after it; of statements by their numbers
abbrev pub in_order : (ℕ → Transformer) → (ℕ → List Region) → List ℕ → List Region
in_order t f [] = []
in_order t f (n ∷ ns) = unite_all (f n ++ all_composed (t n) (in_order t f ns))

-- ---- in any order

-- nothing is known of the cells: any element may be accessed that is for some numbers in them
abbrev pub forgetting : List ℕ → Region → Region
forgetting cs r = remade r false (map (without cs) r.pieces)

abbrev pub all_forgetting : List ℕ → List Region → List Region
all_forgetting cs rs = map (forgetting cs) rs

abbrev pub all_accesses : (ℕ → List Region) → List ℕ → List Region
all_accesses f [] = []
all_accesses f (n ∷ ns) = f n ++ all_accesses f ns

abbrev pub inexact : Region → Region
inexact r = remade r false r.pieces

abbrev pub all_inexact : List Region → List Region
all_inexact rs = map inexact rs

abbrev pub in_any_order : List ℕ → (ℕ → List Region) → List ℕ → List Region
in_any_order cs f ns = all_inexact (unite_all (all_forgetting cs (all_accesses f ns)))

-- the numbers of the statements of a list
abbrev pub numbers : StmtTrees → List ℕ
numbers tree.no_stmts = []
numbers (tree.more_stmts s rest) = number_of s ∷ numbers rest

-- `whole` says that the list is the body of a module
abbrev pub list_regions : (ℕ → Transformer) → (ℕ → List Region) → Bool → StmtTrees → List Region
list_regions t f whole body = if unstructured whole body then in_any_order (list_at t whole body).cells f (numbers body) else in_order t f (numbers body)
