-- The variables that a statement reads and writes itself are own symbols, told apart by what is written of them.
use Rattle.std.proofs.Common.{ℕ, Bool, true, false, List, [], ◌∷◌, Option, Some, None}
use Rattle.std.specs.Prelude.{if◌then◌else◌}
use Rattle.f77_ast.specs.Trees.{ExprTree, ExprTrees, StmtTree, StmtTrees, WhatTree, ArmTree, ArmTrees, ElseTree, LoopTree}
use Rattle.f77_ast.specs.Trees as tree
use Rattle.f77_ast.specs.declared.variable.Variable.{Variable}
use Rattle.f77_ast.specs.Symbols.{BoundTree, SymbolTree}
use Rattle.f77_ast.specs.declared.effect_set.EffectSet.{EffectSet}
use Rattle.f77_ast.specs.Variables.{union}
use Rattle.call_graph.specs.Actuals.{symbol_with_name as symbol_of, is_array}
use Rattle.effects.specs.Names.{number_of, one, own, array, variable_named}
use Rattle.effects.specs.Reads.{reads, with_reads, inner_reads, actual_reads, with_actuals, with_items, with_named}
use Rattle.effects.specs.Statement.{proper_of, test_reads, with_tests, step_reads}
use Rattle.effects.specs.Modules.{with_bounds, with_symbols, summary_of}
use Rattle.laws_programs.proofs.Effects.Plain.{ArePlain, plain_union, plain_filter, PlainEffect}
use Rattle.call_graph.specs.Visible.{is_visible_to_callers}

-- ---- own symbols

plain_one : (o : Option ℕ) → ArePlain (one o)
plain_one None = tt
plain_one (Some n) = (tt, tt)

plain_own : (x : List ℕ) (ss : List SymbolTree) → ArePlain (own x ss)
plain_own x ss = plain_one (number_of 1 ss x)

plain_array : (x : List ℕ) (ss : List SymbolTree) → ArePlain (array x ss)
plain_array x ss = go (is_array (symbol_of ss x))
  where
    go : (b : Bool) → ArePlain (if b then own x ss else [])
    go true = plain_own x ss
    go false = tt

pub plain_named : (e : ExprTree) (ss : List SymbolTree) → ArePlain (variable_named e ss)
plain_named (tree.int n) ss = tt
plain_named (tree.log b) ss = tt
plain_named (tree.name x) ss = plain_own x ss
plain_named (tree.element x es) ss = plain_array x ss
plain_named (tree.paren e) ss = tt
plain_named (tree.unary o e) ss = tt
plain_named (tree.binary o a b) ss = tt
plain_named (tree.chars x) ss = tt

-- ---- expressions

module _ (ss : List SymbolTree) where
  mutual
    plain_reads : (e : ExprTree) → ArePlain (reads e ss)
    plain_reads (tree.int n) = tt
    plain_reads (tree.log b) = tt
    plain_reads (tree.name x) = plain_own x ss
    plain_reads (tree.element x es) = plain_union (with_reads es ss []) (array x ss) (plain_with_reads es [] tt) (plain_array x ss)
    plain_reads (tree.paren e) = plain_reads e
    plain_reads (tree.unary o e) = plain_reads e
    plain_reads (tree.binary o a b) = plain_union (reads a ss) (reads b ss) (plain_reads a) (plain_reads b)
    plain_reads (tree.chars x) = tt

    plain_with_reads : (es : ExprTrees) (vs : List Variable) → ArePlain vs → ArePlain (with_reads es ss vs)
    plain_with_reads tree.no_exprs vs p = p
    plain_with_reads (tree.more_exprs e es) vs p = plain_with_reads es (union vs (reads e ss)) (plain_union vs (reads e ss) p (plain_reads e))

  plain_inner : (e : ExprTree) → ArePlain (inner_reads e ss)
  plain_inner (tree.int n) = tt
  plain_inner (tree.log b) = tt
  plain_inner (tree.name x) = tt
  plain_inner (tree.element x es) = plain_with_reads es [] tt
  plain_inner (tree.paren e) = tt
  plain_inner (tree.unary o e) = tt
  plain_inner (tree.binary o a b) = tt
  plain_inner (tree.chars x) = tt

  plain_actual : (e : ExprTree) → ArePlain (actual_reads e ss)
  plain_actual (tree.int n) = tt
  plain_actual (tree.log b) = tt
  plain_actual (tree.name x) = tt
  plain_actual (tree.element x es) = plain_with_reads es [] tt
  plain_actual (tree.paren e) = plain_reads e
  plain_actual (tree.unary o e) = plain_reads e
  plain_actual (tree.binary o a b) = plain_reads (tree.binary o a b)
  plain_actual (tree.chars x) = tt

  plain_actuals : (es : ExprTrees) (vs : List Variable) → ArePlain vs → ArePlain (with_actuals es ss vs)
  plain_actuals tree.no_exprs vs p = p
  plain_actuals (tree.more_exprs e es) vs p = plain_actuals es (union vs (actual_reads e ss)) (plain_union vs (actual_reads e ss) p (plain_actual e))

  plain_items : (es : ExprTrees) (vs : List Variable) → ArePlain vs → ArePlain (with_items es ss vs)
  plain_items tree.no_exprs vs p = p
  plain_items (tree.more_exprs e es) vs p = plain_items es (union vs (inner_reads e ss)) (plain_union vs (inner_reads e ss) p (plain_inner e))

  plain_all_named : (es : ExprTrees) (vs : List Variable) → ArePlain vs → ArePlain (with_named es ss vs)
  plain_all_named tree.no_exprs vs p = p
  plain_all_named (tree.more_exprs e es) vs p = plain_all_named es (union vs (variable_named e ss)) (plain_union vs (variable_named e ss) p (plain_named e ss))

  plain_test : (a : ArmTree) → ArePlain (test_reads a ss)
  plain_test (tree.arm test body) = plain_reads test

  plain_tests : (arms : ArmTrees) (vs : List Variable) → ArePlain vs → ArePlain (with_tests arms ss vs)
  plain_tests tree.no_arms vs p = p
  plain_tests (tree.more_arms a rest) vs p = plain_tests rest (union vs (test_reads a ss)) (plain_union vs (test_reads a ss) p (plain_test a))

  plain_step : (o : Option ExprTree) → ArePlain (step_reads o ss)
  plain_step None = tt
  plain_step (Some e) = plain_reads e

  plain_bounds : (bs : List BoundTree) (vs : List Variable) → ArePlain vs → ArePlain (with_bounds bs ss vs)
  plain_bounds [] vs p = p
  plain_bounds (b ∷ bs) vs p =
      plain_bounds bs (union (union vs (reads b.low ss)) (step_reads b.high ss)) (plain_union (union vs (reads b.low ss)) (step_reads b.high ss) (plain_union vs (reads b.low ss) p (plain_reads b.low)) (plain_step b.high))

  plain_symbols : (rest : List SymbolTree) (vs : List Variable) → ArePlain vs → ArePlain (with_symbols rest ss vs)
  plain_symbols [] vs p = p
  plain_symbols (s ∷ rest) vs p = plain_symbols rest (with_bounds s.bounds ss vs) (plain_bounds s.bounds vs p)

  pub plain_proper : (w : WhatTree) → PlainEffect (proper_of w ss)
  plain_proper (tree.assign a b) = record { reads = plain_union (reads b ss) (inner_reads a ss) (plain_reads b) (plain_inner a); writes = plain_named a ss }
  plain_proper (tree.block_if arms other) = record { reads = plain_tests arms [] tt; writes = tt }
  plain_proper (tree.logical_if e s) = record { reads = plain_reads e; writes = tt }
  plain_proper (tree.do_loop (tree.loop index e1 e2 e3 body)) = record { reads = plain_union (union (reads e1 ss) (reads e2 ss)) (step_reads e3 ss) (plain_union (reads e1 ss) (reads e2 ss) (plain_reads e1) (plain_reads e2)) (plain_step e3); writes = plain_own index ss }
  plain_proper (tree.call x es) = record { reads = plain_actuals es [] tt; writes = tt }
  plain_proper (tree.goto l) = record { reads = tt; writes = tt }
  plain_proper tree.continue = record { reads = tt; writes = tt }
  plain_proper tree.return = record { reads = tt; writes = tt }
  plain_proper (tree.stop text) = record { reads = tt; writes = tt }
  plain_proper (tree.print es) = record { reads = plain_with_reads es [] tt; writes = tt }
  plain_proper (tree.read es) = record { reads = plain_items es [] tt; writes = plain_all_named es [] tt }

  pub plain_summary : (e : EffectSet) → PlainEffect e → PlainEffect (summary_of e ss)
  plain_summary e p = record {
    reads = plain_filter (is_visible_to_callers ss) (union e.reads (with_symbols ss ss [])) (plain_union e.reads (with_symbols ss ss []) p.reads (plain_symbols ss [] tt));
    writes = plain_filter (is_visible_to_callers ss) e.writes p.writes;
  }
