-- What stands in a list of variables still stands there when more are added.
use Rattle.std.proofs.Common.{inl, ℕ, List, [], ◌∷◌}
use Rattle.f77_ast.specs.Trees.{ExprTree, ExprTrees, ArmTrees}
use Rattle.f77_ast.specs.Trees as tree
use Rattle.f77_ast.specs.declared.variable.Variable.{Variable}
use Rattle.f77_ast.specs.Symbols.{BoundTree, SymbolTree}
use Rattle.f77_ast.specs.Variables.{union}
use Rattle.effects.specs.Names.{variable_named}
use Rattle.effects.specs.Reads.{reads, with_reads, inner_reads, actual_reads, with_actuals, with_items, with_named}
use Rattle.effects.specs.Statement.{test_reads, with_tests, step_reads}
use Rattle.effects.specs.Modules.{with_bounds, with_symbols}
use Rattle.effects.specs.Callee.{in_caller, all_in_caller}
use Rattle.laws_programs.proofs.Effects.Named.{Stands, in_union}

module _ (ss : List SymbolTree) (v : Variable) where
  pub kept_reads : (es : ExprTrees) (vs : List Variable) → Stands v vs → Stands v (with_reads es ss vs)
  kept_reads tree.no_exprs vs h = h
  kept_reads (tree.more_exprs e es) vs h = kept_reads es (union vs (reads e ss)) (in_union v vs (reads e ss) (inl h))

  pub kept_actuals : (es : ExprTrees) (vs : List Variable) → Stands v vs → Stands v (with_actuals es ss vs)
  kept_actuals tree.no_exprs vs h = h
  kept_actuals (tree.more_exprs e es) vs h = kept_actuals es (union vs (actual_reads e ss)) (in_union v vs (actual_reads e ss) (inl h))

  pub kept_items : (es : ExprTrees) (vs : List Variable) → Stands v vs → Stands v (with_items es ss vs)
  kept_items tree.no_exprs vs h = h
  kept_items (tree.more_exprs e es) vs h = kept_items es (union vs (inner_reads e ss)) (in_union v vs (inner_reads e ss) (inl h))

  pub kept_named : (es : ExprTrees) (vs : List Variable) → Stands v vs → Stands v (with_named es ss vs)
  kept_named tree.no_exprs vs h = h
  kept_named (tree.more_exprs e es) vs h = kept_named es (union vs (variable_named e ss)) (in_union v vs (variable_named e ss) (inl h))

  pub kept_tests : (arms : ArmTrees) (vs : List Variable) → Stands v vs → Stands v (with_tests arms ss vs)
  kept_tests tree.no_arms vs h = h
  kept_tests (tree.more_arms a rest) vs h = kept_tests rest (union vs (test_reads a ss)) (in_union v vs (test_reads a ss) (inl h))

  pub kept_bounds : (bs : List BoundTree) (vs : List Variable) → Stands v vs → Stands v (with_bounds bs ss vs)
  kept_bounds [] vs h = h
  kept_bounds (b ∷ bs) vs h =
      kept_bounds bs (union (union vs (reads b.low ss)) (step_reads b.high ss))
      (in_union v (union vs (reads b.low ss)) (step_reads b.high ss) (inl (in_union v vs (reads b.low ss) (inl h))))

  pub kept_symbols : (rest : List SymbolTree) (vs : List Variable) → Stands v vs → Stands v (with_symbols rest ss vs)
  kept_symbols [] vs h = h
  kept_symbols (s ∷ rest) vs h = kept_symbols rest (with_bounds s.bounds ss vs) (kept_bounds s.bounds vs h)

  pub kept_caller : (vs : List Variable) (callee : List ℕ) (es : ExprTrees) (cs : List SymbolTree) (ws : List Variable) → Stands v ws → Stands v (all_in_caller vs callee es cs ss ws)
  kept_caller [] callee es cs ws h = h
  kept_caller (w ∷ vs) callee es cs ws h = kept_caller vs callee es cs (union ws (in_caller w callee es cs ss)) (in_union v ws (in_caller w callee es cs ss) (inl h))
