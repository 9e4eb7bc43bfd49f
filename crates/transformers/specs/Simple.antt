-- Transformers of assignments and READs.
use Rattle.std.specs.Prelude.{ℕ, List, [], ◌++◌, Option, Some, None}
use Rattle.f77_ast.specs.Trees.{ExprTree, ExprTrees}
use Rattle.f77_ast.specs.Trees as tree
use Rattle.affine_forms.specs.declared.affine.Affine.{Affine}
use Rattle.affine_forms.specs.Scalars.{Scalars}
use Rattle.affine_forms.specs.Forms.{affine_of}
use Rattle.call_translation.specs.transformer_algebra.declared.transformer.Transformer.{Transformer}
use Rattle.call_translation.specs.transformer_algebra.Transformers.{identity_transformer, forgotten, assign}
use Rattle.call_translation.specs.Actuals.{named_cell, one_cell}

abbrev pub becomes : Option ℕ → Option Affine → Transformer
becomes None f = identity_transformer
becomes (Some c) f = assign c f

-- the left side becomes the right one
abbrev pub assignment : Scalars → ExprTree → ExprTree → Transformer
assignment k a b = becomes (named_cell k a) (affine_of k b)

-- the tracked cells that expressions name
abbrev pub named_cells : Scalars → ExprTrees → List ℕ
named_cells k tree.no_exprs = []
named_cells k (tree.more_exprs e es) = one_cell (named_cell k e) ++ named_cells k es

-- nothing is known of what is read
abbrev pub reading : Scalars → ExprTrees → Transformer
reading k es = forgotten (named_cells k es)
