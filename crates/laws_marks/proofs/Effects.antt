-- The effects of a DO: it ends the run, prints or takes input only where a statement of its body may.
use Rattle.std.proofs.Common.{◌≡◌, ℕ, zero, suc, ◌<◌, ◌||◌, Bool, true, false, List, [], ◌∷◌, ◌++◌, Some, refl, sym, ap, ◌∙◌, subst}
use Rattle.std.specs.Prelude.{slice_get}
use Rattle.std.proofs.lemmas.Bool.{or_parts, or_from}
use Rattle.f77_ast.specs.Trees.{StmtTree, WhatTree, ArmTree, ArmTrees, ElseTree, LoopTree, StmtTrees}
use Rattle.f77_ast.specs.Trees as tree
use Rattle.f77_ast.specs.StatementNumbers.{stmt_numbers, part_numbers, list_numbers, arms_numbers, arm_numbers, else_numbers, loop_numbers, HasNumbers}
use Rattle.f77_ast.specs.Symbols.{SymbolTree}
use Rattle.f77_ast.specs.declared.effect_set.EffectSet.{EffectSet}
use Rattle.f77_ast.specs.declared.results.At.{At}
use Rattle.f77_ast.specs.Effects.{unite}
use Rattle.in_out_regions.specs.effects.Statement.{proper_of, loop_effect}
use Rattle.in_out_regions.specs.effects.List.{Callees, stmt_effect, with_parts, with_list, with_loop, at as result_at, at_stmt, at_parts, at_list, at_arms, at_arm, at_else, at_loop}
use Rattle.preconditions.specs.transformers.Lists.{value_at, number_of}
use Rattle.loop_marker.specs.Jumps.{stops, has_io, may_stop, may_have_io, body_of}
use Rattle.call_graph.specs.CallsIn.{Each}
use Rattle.laws_analyses.specs.Statements.Laws.{HaveOwnNumbers}
use Rattle.laws_analyses.proofs.Statements.MainResults.{found_at}
use Rattle.laws_analyses.proofs.Statements.NumberLaws.{ids, own_numbers}
use Rattle.laws_analyses.proofs.Statements.Placing.{each_parts}
use Rattle.laws_analyses.proofs.Regions.Numbering.{ids_parts}
use Rattle.laws_marks.proofs.ConflictWhats.{stmt_whats, part_whats, list_whats, arms_whats, arm_whats, else_whats, loop_whats}
use Rattle.laws_marks.proofs.DoEffects.{DoIs, list_dos}
use Rattle.call_graph.proofs.EachLaws.{each_joined}

-- the effects that results give the statement of a number
pub record GivenAt (es : List (At EffectSet)) (n : ℕ) (e : EffectSet) : Type 0 where
  pub above : 0 < n
  pub place : ℕ
  pub given : slice_get es place ≡ Some (result_at n e)
  pub found : value_at es n ≡ Some e

-- effects without STOP, and without input and output
pub record IsCalm (es : List (At EffectSet)) (n : ℕ) : Type 0 where
  pub effect : EffectSet
  pub at : GivenAt es n effect
  pub stops : effect.stops ≡ false
  pub io : effect.io ≡ false

-- so it is of a DO of which no statement of the body may do such
abbrev pub DoIsCalm : List (At EffectSet) → ℕ → LoopTree → Type 0
DoIsCalm es n l = may_stop es (body_of l) ≡ false → may_have_io es (body_of l) ≡ false → IsCalm es n

module _ (cs : Callees) (ss : List SymbolTree) where
  abbrev effect_of : WhatTree → EffectSet
  effect_of w = with_parts w cs ss (proper_of w ss)

  -- ---- the numbers of results

  mutual
    r_stmt : (s : StmtTree) → ids (at_stmt s cs ss) ≡ stmt_numbers s
    r_stmt (tree.stmt n label w) = ap (λ l. n ∷ l) (r_parts w)

    r_parts : (w : WhatTree) → ids (at_parts w cs ss) ≡ part_numbers w
    r_parts (tree.assign a b) = refl
    r_parts (tree.block_if arms other) = ids_parts (at_arms arms cs ss) (at_else other cs ss) (arms_numbers arms) (else_numbers other) (r_arms arms) (r_else other)
    r_parts (tree.logical_if e s) = r_stmt s
    r_parts (tree.do_loop l) = r_loop l
    r_parts (tree.call x es) = refl
    r_parts (tree.goto l) = refl
    r_parts tree.continue = refl
    r_parts tree.return = refl
    r_parts (tree.stop text) = refl
    r_parts (tree.print es) = refl
    r_parts (tree.read es) = refl

    r_list : (body : StmtTrees) → ids (at_list body cs ss) ≡ list_numbers body
    r_list tree.no_stmts = refl
    r_list (tree.more_stmts s rest) = ids_parts (at_stmt s cs ss) (at_list rest cs ss) (stmt_numbers s) (list_numbers rest) (r_stmt s) (r_list rest)

    r_arms : (arms : ArmTrees) → ids (at_arms arms cs ss) ≡ arms_numbers arms
    r_arms tree.no_arms = refl
    r_arms (tree.more_arms a rest) = ids_parts (at_arm a cs ss) (at_arms rest cs ss) (arm_numbers a) (arms_numbers rest) (r_arm a) (r_arms rest)

    r_arm : (a : ArmTree) → ids (at_arm a cs ss) ≡ arm_numbers a
    r_arm (tree.arm e body) = r_list body

    r_else : (other : ElseTree) → ids (at_else other cs ss) ≡ else_numbers other
    r_else tree.no_else = refl
    r_else (tree.otherwise body) = r_list body

    r_loop : (l : LoopTree) → ids (at_loop l cs ss) ≡ loop_numbers l
    r_loop (tree.loop index first last step body) = r_list body

  -- ---- the effects of statements are the results at them

  module _ (P : At EffectSet → Type 0) where
    abbrev Told : At WhatTree → Type 0
    Told a = P (result_at a.id (effect_of a.value))

    mutual
      stmt_told : (s : StmtTree) → Each P (at_stmt s cs ss) → Each Told (stmt_whats s)
      stmt_told (tree.stmt n label w) h = (h.0, parts_told w h.1)

      parts_told : (w : WhatTree) → Each P (at_parts w cs ss) → Each Told (part_whats w)
      parts_told (tree.assign a b) h = tt
      parts_told (tree.block_if arms other) h = (let q = each_parts P (at_arms arms cs ss) (at_else other cs ss) h in each_joined Told (arms_whats arms) (else_whats other) (arms_told arms q.0) (else_told other q.1))
      parts_told (tree.logical_if e s) h = stmt_told s h
      parts_told (tree.do_loop l) h = loop_told l h
      parts_told (tree.call x es) h = tt
      parts_told (tree.goto l) h = tt
      parts_told tree.continue h = tt
      parts_told tree.return h = tt
      parts_told (tree.stop text) h = tt
      parts_told (tree.print es) h = tt
      parts_told (tree.read es) h = tt

      list_told : (body : StmtTrees) → Each P (at_list body cs ss) → Each Told (list_whats body)
      list_told tree.no_stmts h = tt
      list_told (tree.more_stmts s rest) h = (let q = each_parts P (at_stmt s cs ss) (at_list rest cs ss) h in each_joined Told (stmt_whats s) (list_whats rest) (stmt_told s q.0) (list_told rest q.1))

      arms_told : (arms : ArmTrees) → Each P (at_arms arms cs ss) → Each Told (arms_whats arms)
      arms_told tree.no_arms h = tt
      arms_told (tree.more_arms a rest) h = (let q = each_parts P (at_arm a cs ss) (at_arms rest cs ss) h in each_joined Told (arm_whats a) (arms_whats rest) (arm_told a q.0) (arms_told rest q.1))

      arm_told : (a : ArmTree) → Each P (at_arm a cs ss) → Each Told (arm_whats a)
      arm_told (tree.arm test body) h = list_told body h

      else_told : (other : ElseTree) → Each P (at_else other cs ss) → Each Told (else_whats other)
      else_told tree.no_else h = tt
      else_told (tree.otherwise body) h = list_told body h

      loop_told : (l : LoopTree) → Each P (at_loop l cs ss) → Each Told (loop_whats l)
      loop_told (tree.loop index first last step body) h = list_told body h

  -- ---- those of a list

  module _ (es : List (At EffectSet)) where
    abbrev Given : At WhatTree → Type 0
    Given a = GivenAt es a.id (effect_of a.value)

    list_stops : (body : StmtTrees) → Each Given (list_whats body) → may_stop es body ≡ false → (e : EffectSet) → e.stops ≡ false → (with_list body cs ss e).stops ≡ false
    list_stops tree.no_stmts h q e c = c
    list_stops (tree.more_stmts (tree.stmt n label w) rest) h q e c =
        let o = or_parts (stops (value_at es n)) (may_stop es rest) q in
        list_stops rest (each_parts Given (part_whats w) (list_whats rest) h.1).1 o.1 (unite e (effect_of w)) (or_from e.stops (effect_of w).stops c (sym (ap stops h.0.found) ∙ o.0))

    list_io : (body : StmtTrees) → Each Given (list_whats body) → may_have_io es body ≡ false → (e : EffectSet) → e.io ≡ false → (with_list body cs ss e).io ≡ false
    list_io tree.no_stmts h q e c = c
    list_io (tree.more_stmts (tree.stmt n label w) rest) h q e c =
        let o = or_parts (has_io (value_at es n)) (may_have_io es rest) q in
        list_io rest (each_parts Given (part_whats w) (list_whats rest) h.1).1 o.1 (unite e (effect_of w)) (or_from e.io (effect_of w).io c (sym (ap has_io h.0.found) ∙ o.0))

    do_calm : (n : ℕ) (l : LoopTree) → GivenAt es n (effect_of (tree.do_loop l)) → Each Given (loop_whats l) → DoIsCalm es n l
    do_calm n (tree.loop index first last step body) g h no_stop no_io =
        let e = loop_effect (tree.loop index first last step body) ss in
        record { effect = with_list body cs ss e; at = g; stops = list_stops body h no_stop e refl; io = list_io body h no_io e refl }

  from_place : {T : Type 0} (P : At T → Type 0) (as' : List (At T)) → ((i : ℕ) (a : At T) → slice_get as' i ≡ Some a → P a) → Each P as'
  from_place P [] f = tt
  from_place P (a ∷ as') f = (f zero a refl, from_place P as' (λ i b e. f (suc i) b e))

  pub dos_calm : (body : StmtTrees) → HasNumbers body → Each (DoIs (DoIsCalm (at_list body cs ss))) (list_whats body)
  dos_calm body numbered =
      let es = at_list body cs ss in
      let own : HaveOwnNumbers (at_list body cs ss) = own_numbers (at_list body cs ss) body (r_list body) numbered in
      list_dos (Given es) (DoIsCalm es) (do_calm es) body
      (list_told (λ (a : At EffectSet). GivenAt (at_list body cs ss) a.id a.value) body
      (from_place (λ (a : At EffectSet). GivenAt (at_list body cs ss) a.id a.value) es (λ i a e. (let q = found_at es i a own e in record { above = q.0; place = i; given = e; found = q.1 }))))
