-- The variables that are read where expressions are evaluated (ANSI X3.9-1978 §6.6).
use Rattle.std.specs.Prelude.{List, []}
use Rattle.f77_ast.specs.Trees.{ExprTree, ExprTrees}
use Rattle.f77_ast.specs.Trees as tree
use Rattle.f77_ast.specs.declared.variable.Variable.{Variable}
use Rattle.f77_ast.specs.Symbols.{SymbolTree}
use Rattle.f77_ast.specs.Variables.{union}
use Rattle.effects.specs.Names.{own, array, variable_named}

abbrev mutual
  -- the variables in an expression: its names, and its arrays with what stands in their subscripts
  pub reads : ExprTree → List SymbolTree → List Variable
  reads (tree.int n) ss = []
  reads (tree.log b) ss = []
  reads (tree.name x) ss = own x ss
  reads (tree.element x es) ss = union (with_reads es ss []) (array x ss)
  reads (tree.paren e) ss = reads e ss
  reads (tree.unary o e) ss = reads e ss
  reads (tree.binary o a b) ss = union (reads a ss) (reads b ss)
  reads (tree.chars x) ss = []

  -- those so far, and the variables in expressions one after another
  pub with_reads : ExprTrees → List SymbolTree → List Variable → List Variable
  with_reads tree.no_exprs ss vs = vs
  with_reads (tree.more_exprs e es) ss vs = with_reads es ss (union vs (reads e ss))

-- what stands in the subscripts of an element, or in the arguments of an intrinsic function
abbrev pub inner_reads : ExprTree → List SymbolTree → List Variable
inner_reads (tree.int n) ss = []
inner_reads (tree.log b) ss = []
inner_reads (tree.name x) ss = []
inner_reads (tree.element x es) ss = with_reads es ss []
inner_reads (tree.paren e) ss = []
inner_reads (tree.unary o e) ss = []
inner_reads (tree.binary o a b) ss = []
inner_reads (tree.chars x) ss = []

-- what is read to associate an actual with its dummy (§15.9.3): nothing for a name, the subscripts of an element, the arguments of
-- an intrinsic function, and all of another expression
abbrev pub actual_reads : ExprTree → List SymbolTree → List Variable
actual_reads (tree.int n) ss = reads (tree.int n) ss
actual_reads (tree.log b) ss = reads (tree.log b) ss
actual_reads (tree.name x) ss = inner_reads (tree.name x) ss
actual_reads (tree.element x es) ss = inner_reads (tree.element x es) ss
actual_reads (tree.paren e) ss = reads (tree.paren e) ss
actual_reads (tree.unary o e) ss = reads (tree.unary o e) ss
actual_reads (tree.binary o a b) ss = reads (tree.binary o a b) ss
actual_reads (tree.chars x) ss = reads (tree.chars x) ss

-- those so far, and what is read to associate actuals
abbrev pub with_actuals : ExprTrees → List SymbolTree → List Variable → List Variable
with_actuals tree.no_exprs ss vs = vs
with_actuals (tree.more_exprs e es) ss vs = with_actuals es ss (union vs (actual_reads e ss))

-- those so far, and what stands in the subscripts of items
abbrev pub with_items : ExprTrees → List SymbolTree → List Variable → List Variable
with_items tree.no_exprs ss vs = vs
with_items (tree.more_exprs e es) ss vs = with_items es ss (union vs (inner_reads e ss))

-- those so far, and the variables that items name
abbrev pub with_named : ExprTrees → List SymbolTree → List Variable → List Variable
with_named tree.no_exprs ss vs = vs
with_named (tree.more_exprs e es) ss vs = with_named es ss (union vs (variable_named e ss))
