-- What a statement reads and writes itself, without its parts and without what it calls.
use Rattle.std.specs.Prelude.{ℕ, Bool, true, false, List, [], Option, Some, None}
use Rattle.f77_ast.specs.Trees.{ExprTree, WhatTree, ArmTree, ArmTrees, LoopTree}
use Rattle.f77_ast.specs.Trees as tree
use Rattle.f77_ast.specs.declared.variable.Variable.{Variable}
use Rattle.f77_ast.specs.Symbols.{SymbolTree}
use Rattle.f77_ast.specs.declared.effect_set.EffectSet.{EffectSet}
use Rattle.f77_ast.specs.Variables.{union}
use Rattle.f77_ast.specs.Effects.{no_effect}
use Rattle.effects.specs.Names.{own, variable_named}
use Rattle.effects.specs.Reads.{reads, with_reads, inner_reads, with_actuals, with_items, with_named}

abbrev pub effect : List Variable → List Variable → EffectSet
effect rs ws = record { reads = rs; writes = ws; io = false; stops = false }

-- a statement that reads input or writes output
abbrev pub with_io : List Variable → List Variable → EffectSet
with_io rs ws = record { reads = rs; writes = ws; io = true; stops = false }

-- one that ends the run
abbrev pub ends : EffectSet
ends = record { reads = []; writes = []; io = false; stops = true }

-- the variables in the tests of a block IF
abbrev pub test_reads : ArmTree → List SymbolTree → List Variable
test_reads (tree.arm test body) ss = reads test ss

abbrev pub with_tests : ArmTrees → List SymbolTree → List Variable → List Variable
with_tests tree.no_arms ss vs = vs
with_tests (tree.more_arms a rest) ss vs = with_tests rest ss (union vs (test_reads a ss))

-- the variables in a step that may be left out
abbrev pub step_reads : Option ExprTree → List SymbolTree → List Variable
step_reads None ss = []
step_reads (Some e) ss = reads e ss

-- a DO writes its index, and reads what stands in its first and last value and its step
abbrev pub loop_effect : LoopTree → List SymbolTree → EffectSet
loop_effect (tree.loop index first last step body) ss =
    effect (union (union (reads first ss) (reads last ss)) (step_reads step ss)) (own index ss)

-- an assignment writes its left side, a READ its items; a CALL reads what it evaluates itself, and what is associated with dummies
-- only as the callee does
abbrev pub proper_of : WhatTree → List SymbolTree → EffectSet
proper_of (tree.assign a b) ss = effect (union (reads b ss) (inner_reads a ss)) (variable_named a ss)
proper_of (tree.block_if arms other) ss = effect (with_tests arms ss []) []
proper_of (tree.logical_if e s) ss = effect (reads e ss) []
proper_of (tree.do_loop l) ss = loop_effect l ss
proper_of (tree.call x es) ss = effect (with_actuals es ss []) []
proper_of (tree.goto l) ss = no_effect
proper_of tree.continue ss = no_effect
proper_of tree.return ss = no_effect
proper_of (tree.stop text) ss = ends
proper_of (tree.print es) ss = with_io (with_reads es ss []) []
proper_of (tree.read es) ss = with_io (with_items es ss []) (with_named es ss [])
