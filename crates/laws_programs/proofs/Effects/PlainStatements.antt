-- The variables of effects are told apart by what is written of them, if those of the callees' summaries are.
use Rattle.std.proofs.Common.{◌≡◌, ℕ, zero, suc, ◌-◌, Bool, true, false, List, [], ◌∷◌, Option, Some, None}
use Rattle.f77_ast.specs.Trees.{ExprTree, ExprTrees, StmtTree, StmtTrees, WhatTree, ArmTree, ArmTrees, ElseTree, LoopTree}
use Rattle.f77_ast.specs.Trees as tree
use Rattle.f77_ast.specs.declared.symbol.Place.{Place}
use Rattle.f77_ast.specs.declared.symbol.Place.TheVariants as place
use Rattle.f77_ast.specs.declared.variable.Variable.{Variable}
use Rattle.f77_ast.specs.declared.variable.Variable.TheVariants.{Own, Block, Saved}
use Rattle.f77_ast.specs.Symbols.{SymbolTree}
use Rattle.f77_ast.specs.Shared.{symbol_at}
use Rattle.f77_ast.specs.declared.effect_set.EffectSet.{EffectSet}
use Rattle.f77_ast.specs.Variables.{union}
use Rattle.f77_ast.specs.Effects.{unite}
use Rattle.f77_ast.specs.Summaries.{SummaryTree}
use Rattle.effects.specs.Statement.{proper_of}
use Rattle.effects.specs.Callee.{first_like, or_block, if_saved, actual_variable, at_place, symbol_in_caller, in_caller, all_in_caller, call_effect}
use Rattle.effects.specs.List.{Callees, at as result_at, stmt_effect, with_parts, with_list, with_arms, with_arm, with_else, at_stmt, at_parts, at_list, at_arms, at_arm, at_else}
use Rattle.laws_programs.specs.Effects.Tables.{is_plain}
use Rattle.laws_programs.specs.Effects.Trees.{AskedOfCall, StmtFits, WhatFits, ListFits, ArmsFit, ArmFits, ElseFits, LoopFits}
use Rattle.laws_programs.proofs.Effects.Plains.{plain_named, plain_proper}
use Rattle.laws_programs.proofs.Effects.Plain.{IsPlain, ArePlain, plain_union, PlainEffect, plain_unite}

module _ (ss : List SymbolTree) where
  -- ---- CALLs

  plain_or_block : (b : List ℕ) (o : Option ℕ) → ArePlain (or_block b o)
  plain_or_block b None = (tt, tt)
  plain_or_block b (Some n) = (tt, tt)

  plain_at_number : (es : ExprTrees) (k : ℕ) → ArePlain (actual_variable es k ss)
  plain_at_number tree.no_exprs k = tt
  plain_at_number (tree.more_exprs e es) zero = plain_named e ss
  plain_at_number (tree.more_exprs e es) (suc k) = plain_at_number es k

  module _ (x : List ℕ) (plain : is_plain x ≡ true) (es : ExprTrees) (cs : List SymbolTree) where
    plain_saved : (b : Bool) (y : List ℕ) → ArePlain (if_saved b x y)
    plain_saved true y = (plain, tt)
    plain_saved false y = tt

    plain_at_place : (p : Place) (s : SymbolTree) → ArePlain (at_place p s x es cs ss)
    plain_at_place (place.Local g o) s = plain_saved s.saved s.name
    plain_at_place (place.Dummy m) s = plain_at_number es (m - 1)
    plain_at_place (place.Block b o) s = plain_or_block b (first_like 1 ss b o cs s ss)
    plain_at_place (place.Constant v) s = tt

    plain_symbol : (o : Option SymbolTree) → ArePlain (symbol_in_caller o x es cs ss)
    plain_symbol None = tt
    plain_symbol (Some s) = plain_at_place s.place s

    plain_in_caller : (v : Variable) → IsPlain v → ArePlain (in_caller v x es cs ss)
    plain_in_caller (Own n) p = plain_symbol (symbol_at cs n)
    plain_in_caller (Block b) p = (tt, tt)
    plain_in_caller (Saved t y) p = (p, tt)

    plain_all : (vs ws : List Variable) → ArePlain vs → ArePlain ws → ArePlain (all_in_caller vs x es cs ss ws)
    plain_all [] ws p q = q
    plain_all (v ∷ vs) ws p q = plain_all vs (union ws (in_caller v x es cs ss)) p.1 (plain_union ws (in_caller v x es cs ss) q (plain_in_caller v p.0))

  -- what is known of a callee
  abbrev pub PlainCallee : List ℕ → Option (SummaryTree EffectSet) → Type 0
  PlainCallee x None = Unit {0}
  PlainCallee x (Some c) = (is_plain x ≡ true) × PlainEffect c.value

  plain_call : (x : List ℕ) (es : ExprTrees) (o : Option (SummaryTree EffectSet)) → PlainCallee x o → PlainEffect (call_effect o x es ss)
  plain_call x es None p = record { reads = tt; writes = tt }
  plain_call x es (Some c) p = record { reads = plain_all x p.0 es c.symbols c.value.reads [] p.1.reads tt; writes = plain_all x p.0 es c.symbols c.value.writes [] p.1.writes tt }

  -- ---- statements

  module _ (cs : Callees) (Q : AskedOfCall) (callees : (x : List ℕ) (es : ExprTrees) → Q x es → PlainCallee x (cs x)) where
    mutual
      pub plain_stmt : (s : StmtTree) → StmtFits s ss Q → PlainEffect (stmt_effect s cs ss)
      plain_stmt (tree.stmt n label w) h = plain_parts w h.1 (proper_of w ss) (plain_proper ss w)

      plain_parts : (w : WhatTree) → WhatFits w ss Q → (e : EffectSet) → PlainEffect e → PlainEffect (with_parts w cs ss e)
      plain_parts (tree.assign a b) h e p = p
      plain_parts (tree.block_if arms other) h e p = plain_else other h.1 (with_arms arms cs ss e) (plain_arms arms h.0 e p)
      plain_parts (tree.logical_if test s) h e p = plain_unite e (stmt_effect s cs ss) p (plain_stmt s h.1)
      plain_parts (tree.do_loop l) h e p = plain_loop l h e p
      plain_parts (tree.call x es) h e p = plain_unite e (call_effect (cs x) x es ss) p (plain_call x es (cs x) (callees x es h.1))
      plain_parts (tree.goto l) h e p = p
      plain_parts tree.continue h e p = p
      plain_parts tree.return h e p = p
      plain_parts (tree.stop text) h e p = p
      plain_parts (tree.print es) h e p = p
      plain_parts (tree.read es) h e p = p

      pub plain_list : (body : StmtTrees) → ListFits body ss Q → (e : EffectSet) → PlainEffect e → PlainEffect (with_list body cs ss e)
      plain_list tree.no_stmts h e p = p
      plain_list (tree.more_stmts s rest) h e p = plain_list rest h.1 (unite e (stmt_effect s cs ss)) (plain_unite e (stmt_effect s cs ss) p (plain_stmt s h.0))

      plain_arms : (arms : ArmTrees) → ArmsFit arms ss Q → (e : EffectSet) → PlainEffect e → PlainEffect (with_arms arms cs ss e)
      plain_arms tree.no_arms h e p = p
      plain_arms (tree.more_arms a rest) h e p = plain_arms rest h.1 (with_arm a cs ss e) (plain_arm a h.0 e p)

      plain_arm : (a : ArmTree) → ArmFits a ss Q → (e : EffectSet) → PlainEffect e → PlainEffect (with_arm a cs ss e)
      plain_arm (tree.arm test body) h e p = plain_list body h.1 e p

      plain_else : (other : ElseTree) → ElseFits other ss Q → (e : EffectSet) → PlainEffect e → PlainEffect (with_else other cs ss e)
      plain_else tree.no_else h e p = p
      plain_else (tree.otherwise body) h e p = plain_list body h e p

      plain_loop : (l : LoopTree) → LoopFits l ss Q → (e : EffectSet) → PlainEffect e → PlainEffect (Rattle.effects.specs.List.with_loop l cs ss e)
      plain_loop (tree.loop index e1 e2 e3 body) h e p = plain_list body h.4 e p
