-- What statements read and write with their parts and with what they call.
use Rattle.std.specs.Prelude.{ℕ, List, [], ◌∷◌, ◌++◌, Option}
use Rattle.f77_ast.specs.Trees.{StmtTree, WhatTree, ArmTree, ArmTrees, ElseTree, LoopTree, StmtTrees}
use Rattle.f77_ast.specs.Trees as tree
use Rattle.f77_ast.specs.Symbols.{SymbolTree}
use Rattle.f77_ast.specs.declared.effect_set.EffectSet.{EffectSet}
use Rattle.f77_ast.specs.declared.results.At.{At}
use Rattle.f77_ast.specs.Effects.{unite}
use Rattle.f77_ast.specs.Summaries.{SummaryTree}
use Rattle.effects.specs.Statement.{proper_of}
use Rattle.effects.specs.Callee.{call_effect}

-- the summary of the module of a name
abbrev pub Callees : Type 0
Callees = List ℕ → Option (SummaryTree EffectSet)

-- ---- effects

abbrev mutual
  -- of a statement
  pub stmt_effect : StmtTree → Callees → List SymbolTree → EffectSet
  stmt_effect (tree.stmt n label w) cs ss = with_parts w cs ss (proper_of w ss)

  -- those so far, and those of the parts of a statement or of what it calls
  pub with_parts : WhatTree → Callees → List SymbolTree → EffectSet → EffectSet
  with_parts (tree.assign a b) cs ss e = e
  with_parts (tree.block_if arms other) cs ss e = with_else other cs ss (with_arms arms cs ss e)
  with_parts (tree.logical_if test s) cs ss e = unite e (stmt_effect s cs ss)
  with_parts (tree.do_loop l) cs ss e = with_loop l cs ss e
  with_parts (tree.call x es) cs ss e = unite e (call_effect (cs x) x es ss)
  with_parts (tree.goto l) cs ss e = e
  with_parts tree.continue cs ss e = e
  with_parts tree.return cs ss e = e
  with_parts (tree.stop text) cs ss e = e
  with_parts (tree.print es) cs ss e = e
  with_parts (tree.read es) cs ss e = e

  -- those so far, and those of statements one after another
  pub with_list : StmtTrees → Callees → List SymbolTree → EffectSet → EffectSet
  with_list tree.no_stmts cs ss e = e
  with_list (tree.more_stmts s rest) cs ss e = with_list rest cs ss (unite e (stmt_effect s cs ss))

  pub with_arms : ArmTrees → Callees → List SymbolTree → EffectSet → EffectSet
  with_arms tree.no_arms cs ss e = e
  with_arms (tree.more_arms a rest) cs ss e = with_arms rest cs ss (with_arm a cs ss e)

  pub with_arm : ArmTree → Callees → List SymbolTree → EffectSet → EffectSet
  with_arm (tree.arm test body) cs ss e = with_list body cs ss e

  pub with_else : ElseTree → Callees → List SymbolTree → EffectSet → EffectSet
  with_else tree.no_else cs ss e = e
  with_else (tree.otherwise body) cs ss e = with_list body cs ss e

  pub with_loop : LoopTree → Callees → List SymbolTree → EffectSet → EffectSet
  with_loop (tree.loop index first last step body) cs ss e = with_list body cs ss e

-- ---- effects at each statement, in the order of the text

abbrev pub at : ℕ → EffectSet → At EffectSet
at n e = record { id = n; value = e }

abbrev mutual
  pub at_stmt : StmtTree → Callees → List SymbolTree → List (At EffectSet)
  at_stmt (tree.stmt n label w) cs ss = at n (with_parts w cs ss (proper_of w ss)) ∷ at_parts w cs ss

  pub at_parts : WhatTree → Callees → List SymbolTree → List (At EffectSet)
  at_parts (tree.assign a b) cs ss = []
  at_parts (tree.block_if arms other) cs ss = at_arms arms cs ss ++ at_else other cs ss
  at_parts (tree.logical_if test s) cs ss = at_stmt s cs ss
  at_parts (tree.do_loop l) cs ss = at_loop l cs ss
  at_parts (tree.call x es) cs ss = []
  at_parts (tree.goto l) cs ss = []
  at_parts tree.continue cs ss = []
  at_parts tree.return cs ss = []
  at_parts (tree.stop text) cs ss = []
  at_parts (tree.print es) cs ss = []
  at_parts (tree.read es) cs ss = []

  pub at_list : StmtTrees → Callees → List SymbolTree → List (At EffectSet)
  at_list tree.no_stmts cs ss = []
  at_list (tree.more_stmts s rest) cs ss = at_stmt s cs ss ++ at_list rest cs ss

  pub at_arms : ArmTrees → Callees → List SymbolTree → List (At EffectSet)
  at_arms tree.no_arms cs ss = []
  at_arms (tree.more_arms a rest) cs ss = at_arm a cs ss ++ at_arms rest cs ss

  pub at_arm : ArmTree → Callees → List SymbolTree → List (At EffectSet)
  at_arm (tree.arm test body) cs ss = at_list body cs ss

  pub at_else : ElseTree → Callees → List SymbolTree → List (At EffectSet)
  at_else tree.no_else cs ss = []
  at_else (tree.otherwise body) cs ss = at_list body cs ss

  pub at_loop : LoopTree → Callees → List SymbolTree → List (At EffectSet)
  at_loop (tree.loop index first last step body) cs ss = at_list body cs ss
