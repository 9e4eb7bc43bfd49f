-- The effects of a part are among those of the whole.
use Rattle.f77_ast.specs.Trees.{ArmTree, ArmTrees, ElseTree, LoopTree, StmtTrees}
use Rattle.f77_ast.specs.Trees as tree
use Rattle.f77_ast.specs.Places.{Places}
use Rattle.std.proofs.Common.{List}
use Rattle.call_graph.specs.declared.graph.Graph.{Graph}
use Rattle.f77_ast.specs.declared.effect_set.EffectSet.{EffectSet}
use Rattle.f77_ast.specs.Effects.{unite}
use Rattle.f77_meaning.specs.Modules.{Known}
use Rattle.effects.specs.List.{Callees, stmt_effect, with_list, with_arms, with_arm, with_else}
use Rattle.laws_programs.proofs.Effects.Access.{Allowed}
use Rattle.laws_programs.proofs.Effects.Units.{LetsAll, lets_one}

module _ (ks : List Known) (g : Graph) (k : Known) (at : Places) (cs : Callees) (A : Allowed) where
  pub kept_list : (body : StmtTrees) (e : EffectSet) → LetsAll ks g k at A (with_list body cs k.symbols e) → LetsAll ks g k at A e
  kept_list tree.no_stmts e h = h
  kept_list (tree.more_stmts s rest) e h = lets_one ks g k at A e (stmt_effect s cs k.symbols) (kept_list rest (unite e (stmt_effect s cs k.symbols)) h)

  pub kept_arm : (a : ArmTree) (e : EffectSet) → LetsAll ks g k at A (with_arm a cs k.symbols e) → LetsAll ks g k at A e
  kept_arm (tree.arm test body) e h = kept_list body e h

  pub kept_arms : (arms : ArmTrees) (e : EffectSet) → LetsAll ks g k at A (with_arms arms cs k.symbols e) → LetsAll ks g k at A e
  kept_arms tree.no_arms e h = h
  kept_arms (tree.more_arms a rest) e h = kept_arm a e (kept_arms rest (with_arm a cs k.symbols e) h)

  pub kept_else : (other : ElseTree) (e : EffectSet) → LetsAll ks g k at A (with_else other cs k.symbols e) → LetsAll ks g k at A e
  kept_else tree.no_else e h = h
  kept_else (tree.otherwise body) e h = kept_list body e h
