-- The transformer of a list, from those of its statements.
use Rattle.std.specs.Prelude.{ℕ, Bool, List, [], ◌∷◌, Option, Some, None, if◌then◌else◌}
use Rattle.f77_ast.specs.Trees.{StmtTree, StmtTrees}
use Rattle.f77_ast.specs.Trees as tree
use Rattle.f77_ast.specs.declared.results.At.{At}
use Rattle.affine_forms.specs.Conditions.{no_rows}
use Rattle.call_translation.specs.transformer_algebra.declared.transformer.Transformer.{Transformer}
use Rattle.call_translation.specs.transformer_algebra.Transformers.{transformer, identity_transformer, followed, all_cells, all_units}
use Rattle.transformers.specs.Jumps.{unstructured}
pub use Rattle.f77_ast.specs.ResultLists.{first_at, or_first, value_at}

-- ---- lists

abbrev pub followed_by : Transformer → List Transformer → Transformer
followed_by a [] = a
followed_by a (t ∷ ts) = followed_by (followed a t) ts

-- from left to right
abbrev pub in_order : List Transformer → Transformer
in_order [] = identity_transformer
in_order (t ∷ ts) = followed_by t ts

-- each any number of times, in any order: nothing is known of what they change
abbrev pub in_any_order : List Transformer → Transformer
in_any_order ts = transformer (all_cells ts) (all_units ts) no_rows

-- `whole` says that the list is the body of a module
abbrev pub list_of : Bool → StmtTrees → List Transformer → Transformer
list_of whole body ts = if unstructured whole body then in_any_order ts else in_order ts

-- ---- results at statements

abbrev pub or_unchanging : Option Transformer → Transformer
or_unchanging None = identity_transformer
or_unchanging (Some t) = t

abbrev pub transformer_at : List (At Transformer) → ℕ → Transformer
transformer_at as' n = or_unchanging (value_at as' n)

abbrev pub number_of : StmtTree → ℕ
number_of (tree.stmt n label w) = n

-- those of the statements of a list, by their numbers
abbrev pub each_at : (ℕ → Transformer) → StmtTrees → List Transformer
each_at at tree.no_stmts = []
each_at at (tree.more_stmts s rest) = at (number_of s) ∷ each_at at rest

abbrev pub list_at : (ℕ → Transformer) → Bool → StmtTrees → Transformer
list_at at whole body = list_of whole body (each_at at body)
