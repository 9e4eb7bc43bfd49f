-- What a module reads and writes, at each statement and as its callers see it.
use Rattle.std.specs.Prelude.{ℕ, List, [], ◌∷◌, filter}
use Rattle.f77_ast.specs.Trees.{ExprTree, StmtTrees}
use Rattle.f77_ast.specs.declared.variable.Variable.{Variable}
use Rattle.f77_ast.specs.Symbols.{BoundTree, SymbolTree}
use Rattle.f77_ast.specs.declared.effect_set.EffectSet.{EffectSet}
use Rattle.f77_ast.specs.declared.results.Results.{Results}
use Rattle.f77_ast.specs.Variables.{union}
use Rattle.f77_ast.specs.Effects.{no_effect}
use Rattle.effects.specs.Reads.{reads}
use Rattle.effects.specs.Statement.{step_reads}
use Rattle.effects.specs.List.{Callees, with_list, at_list}
use Rattle.call_graph.specs.Visible.{is_visible_to_callers}

-- ---- what callers see

-- the variables in the bounds of an array, which are read where the module is entered
abbrev pub with_bounds : List BoundTree → List SymbolTree → List Variable → List Variable
with_bounds [] ss vs = vs
with_bounds (b ∷ bs) ss vs = with_bounds bs ss (union (union vs (reads b.low ss)) (step_reads b.high ss))

-- those so far, and the variables in the bounds of these symbols
abbrev pub with_symbols : List SymbolTree → List SymbolTree → List Variable → List Variable
with_symbols [] ss vs = vs
with_symbols (s ∷ rest) ss vs = with_symbols rest ss (with_bounds s.bounds ss vs)

abbrev pub summary_of : EffectSet → List SymbolTree → EffectSet
summary_of e ss = record {
  reads = filter (is_visible_to_callers ss) (union e.reads (with_symbols ss ss []));
  writes = filter (is_visible_to_callers ss) e.writes;
  io = e.io;
  stops = e.stops;
}

-- ---- the result

abbrev pub cumulated_of : StmtTrees → Callees → List SymbolTree → Results EffectSet
cumulated_of body cs ss = record {
  at = at_list body cs ss;
  summary = summary_of (with_list body cs ss no_effect) ss;
}
