-- What is read where expressions are evaluated, in the order of the evaluation (ANSI X3.9-1978 §6.6).
use Rattle.std.specs.Prelude.{List, [], ◌++◌, Option, Some, None}
use Rattle.f77_ast.specs.Trees.{ExprTree, ExprTrees}
use Rattle.f77_ast.specs.Trees as tree
use Rattle.transformers.specs.call_translation.Scopes.{ScopeTree}
use Rattle.region_translation.specs.region_sets.declared.region.Access.TheVariants.{Read}
use Rattle.region_translation.specs.region_sets.declared.region.Region.{Region}
use Rattle.array_regions.specs.References.{whole, element}

abbrev mutual
  -- the subscripts of an element come before it
  pub reads : ExprTree → ScopeTree → List Region
  reads (tree.int n) m = []
  reads (tree.log b) m = []
  reads (tree.name x) m = whole m Read x
  reads (tree.element x es) m = all_reads es m ++ element m Read x es
  reads (tree.paren e) m = reads e m
  reads (tree.unary o e) m = reads e m
  reads (tree.binary o e f) m = reads e m ++ reads f m
  reads (tree.chars x) m = []

  -- of expressions one after another
  pub all_reads : ExprTrees → ScopeTree → List Region
  all_reads tree.no_exprs m = []
  all_reads (tree.more_exprs e es) m = reads e m ++ all_reads es m

-- of the subscripts of an element, or of the arguments of an intrinsic function
abbrev pub inner_reads : ExprTree → ScopeTree → List Region
inner_reads (tree.int n) m = []
inner_reads (tree.log b) m = []
inner_reads (tree.name x) m = []
inner_reads (tree.element x es) m = all_reads es m
inner_reads (tree.paren e) m = []
inner_reads (tree.unary o e) m = []
inner_reads (tree.binary o e f) m = []
inner_reads (tree.chars x) m = []

abbrev pub maybe_reads : Option ExprTree → ScopeTree → List Region
maybe_reads None m = []
maybe_reads (Some e) m = reads e m
