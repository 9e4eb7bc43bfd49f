-- The CALLs of modules, in the order of the text.
use Rattle.std.specs.Prelude.{ℕ, List, [], ◌∷◌, ◌++◌}
use Rattle.f77_ast.specs.Trees.{StmtTree, WhatTree, ArmTree, ArmTrees, ElseTree, LoopTree, StmtTrees}
use Rattle.f77_ast.specs.Trees as tree
use Rattle.f77_ast.specs.DeclTrees.{ParsedTree}
use Rattle.f77_ast.specs.Symbols.{SymbolTree}
use Rattle.call_graph.specs.declared.calls.Called.{Called}
use Rattle.call_graph.specs.Actuals.{actuals_of}

-- those so far, and then those of a part of the module with these symbols
abbrev mutual
  pub with_list : StmtTrees → List SymbolTree → List Called → List Called
  with_list tree.no_stmts ss cs = cs
  with_list (tree.more_stmts s rest) ss cs = with_list rest ss (with_stmt s ss cs)

  pub with_stmt : StmtTree → List SymbolTree → List Called → List Called
  with_stmt (tree.stmt n label w) ss cs = with_what w n ss cs

  pub with_what : WhatTree → ℕ → List SymbolTree → List Called → List Called
  with_what (tree.assign a b) n ss cs = cs
  with_what (tree.block_if arms other) n ss cs = with_else other ss (with_arms arms ss cs)
  with_what (tree.logical_if e s) n ss cs = with_stmt s ss cs
  with_what (tree.do_loop l) n ss cs = with_loop l ss cs
  with_what (tree.call callee es) n ss cs = cs ++ record { at = n; callee = callee; actuals = actuals_of es ss } ∷ []
  with_what (tree.goto l) n ss cs = cs
  with_what tree.continue n ss cs = cs
  with_what tree.return n ss cs = cs
  with_what (tree.stop text) n ss cs = cs
  with_what (tree.print es) n ss cs = cs
  with_what (tree.read es) n ss cs = cs

  pub with_arms : ArmTrees → List SymbolTree → List Called → List Called
  with_arms tree.no_arms ss cs = cs
  with_arms (tree.more_arms a rest) ss cs = with_arms rest ss (with_arm a ss cs)

  pub with_arm : ArmTree → List SymbolTree → List Called → List Called
  with_arm (tree.arm test body) ss cs = with_list body ss cs

  pub with_else : ElseTree → List SymbolTree → List Called → List Called
  with_else tree.no_else ss cs = cs
  with_else (tree.otherwise body) ss cs = with_list body ss cs

  pub with_loop : LoopTree → List SymbolTree → List Called → List Called
  with_loop (tree.loop index first last step body) ss cs = with_list body ss cs

-- the CALLs of a module
abbrev pub calls_of : ParsedTree → List SymbolTree → List Called
calls_of p ss = with_list p.module_read.body ss []

-- the CALLs of each module
abbrev pub all_calls : List ParsedTree → List (List SymbolTree) → List (List Called)
all_calls [] sss = []
all_calls (p ∷ ps) [] = []
all_calls (p ∷ ps) (ss ∷ sss) = calls_of p ss ∷ all_calls ps sss
