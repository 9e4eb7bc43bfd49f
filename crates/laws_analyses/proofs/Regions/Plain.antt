-- Bare names in the expressions of a module that is read are those of no arrays, and elements of arrays have subscripts.
use Rattle.std.proofs.Common.{◌≡◌, inl, inr, ℕ, suc, Bool, true, false, not, List, [], Option, Some, None, refl, sym, ap, ◌∙◌, arith}
use Rattle.std.specs.Prelude.{◌&&◌, ◌||◌, is_some}
use Rattle.std.proofs.lemmas.Bool.{and_from, or_from, or_left, not_from_true}
use Rattle.f77_ast.specs.Trees.{ExprTree, ExprTrees, StmtTree, WhatTree, ArmTree, ArmTrees, ElseTree, LoopTree, StmtTrees}
use Rattle.f77_ast.specs.Trees as tree
use Rattle.f77_ast.specs.Numbers.{intrinsic_named}
use Rattle.f77_ast.specs.Symbols.{SymbolTree}
use Rattle.f77_ast.specs.Shared.{symbol_at}
use Rattle.tracked_cells.specs.Standing.{has_bounds}
use Rattle.laws_programs.specs.SymbolTables.Shapes.{bounds_of, StandsBare, StandsIndexed, Shaped, AllShaped, ShapedActual, ShapedActuals, ShapedStep, ShapedStmt, ShapedWhat, ShapedArms, ShapedArm, ShapedElse, ShapedLoop, ShapedList}
use Rattle.preconditions.specs.transformers.Jumps.{stmt_has, parts_have, list_has, arms_have, arm_has, else_has, loop_has}
use Rattle.laws_analyses.specs.Statements.Laws.{is_scalar_symbol, scalar_at, is_scalar}
use Rattle.laws_analyses.specs.Regions.Settings.{is_indexed, is_plain, are_plain, actual_plain, actuals_plain, maybe_plain, loop_plain, tests_plain, has_plain, lacks_plain}
use Rattle.laws_analyses.proofs.Regions.Names.{Found, missing, at_place, found}
use Rattle.f77_ast.proofs.StorageLaws.{to_number as next_symbol}

module _ (ss : List SymbolTree) where
  abbrev Bare : List ℕ → Type 0
  Bare = StandsBare ss

  abbrev Indexed : List ℕ → ExprTrees → Type 0
  Indexed = StandsIndexed ss

  abbrev such : WhatTree → Bool
  such = lacks_plain (is_scalar ss)

  pub bare_scalar : (x : List ℕ) → StandsBare ss x → is_scalar ss x ≡ true
  bare_scalar x h = go (found 1 ss x)
    where
      go : Found 1 ss x → is_scalar ss x ≡ true
      go (missing q) = ap (scalar_at ss) q
      go (at_place i k s same q e d m) =
          let number : k ≡ suc i = omega (arith, same) in
          let symbol : symbol_at ss k ≡ Some s = ap (symbol_at ss) number ∙ next_symbol ss i s e in
          let flat : s.bounds ≡ [] = ap bounds_of (sym d) ∙ h in
          ap (scalar_at ss) q ∙ ap is_scalar_symbol symbol ∙ ap (λ bs. not (has_bounds bs)) flat

  indexed : (x : List ℕ) (es : ExprTrees) → StandsIndexed ss x es → is_indexed (is_scalar ss) x es ≡ true
  indexed x tree.no_exprs (inl h) = absurd h.1
  indexed x tree.no_exprs (inr h) = or_left (is_some (intrinsic_named x)) (not (is_scalar ss x)) h.1
  indexed x (tree.more_exprs e es) h = refl

  -- ---- expressions

  mutual
    expression : (e : ExprTree) → Shaped Bare Indexed e → is_plain (is_scalar ss) e ≡ true
    expression (tree.int n) h = refl
    expression (tree.log b) h = refl
    expression (tree.name x) h = bare_scalar x h
    expression (tree.element x es) h = and_from (is_indexed (is_scalar ss) x es) (are_plain (is_scalar ss) es) (indexed x es h.0) (expressions es h.1)
    expression (tree.paren e) h = expression e h
    expression (tree.unary o e) h = expression e h
    expression (tree.binary o a b) h = and_from (is_plain (is_scalar ss) a) (is_plain (is_scalar ss) b) (expression a h.0) (expression b h.1)
    expression (tree.chars x) h = refl

    expressions : (es : ExprTrees) → AllShaped Bare Indexed es → are_plain (is_scalar ss) es ≡ true
    expressions tree.no_exprs h = refl
    expressions (tree.more_exprs e es) h = and_from (is_plain (is_scalar ss) e) (are_plain (is_scalar ss) es) (expression e h.0) (expressions es h.1)

  one_actual : (e : ExprTree) → ShapedActual Bare Indexed e → actual_plain (is_scalar ss) e ≡ true
  one_actual (tree.int n) h = refl
  one_actual (tree.log b) h = refl
  one_actual (tree.name x) h = refl
  one_actual (tree.element x es) h = expression (tree.element x es) h
  one_actual (tree.paren e) h = expression (tree.paren e) h
  one_actual (tree.unary o e) h = expression (tree.unary o e) h
  one_actual (tree.binary o a b) h = expression (tree.binary o a b) h
  one_actual (tree.chars x) h = refl

  actuals : (es : ExprTrees) → ShapedActuals Bare Indexed es → actuals_plain (is_scalar ss) es ≡ true
  actuals tree.no_exprs h = refl
  actuals (tree.more_exprs e es) h = and_from (actual_plain (is_scalar ss) e) (actuals_plain (is_scalar ss) es) (one_actual e h.0) (actuals es h.1)

  step : (o : Option ExprTree) → ShapedStep Bare Indexed o → maybe_plain (is_scalar ss) o ≡ true
  step None h = refl
  step (Some e) h = expression e h

  tests : (arms : ArmTrees) → ShapedArms Bare Indexed arms → tests_plain (is_scalar ss) arms ≡ true
  tests tree.no_arms h = refl
  tests (tree.more_arms (tree.arm e body) rest) h = and_from (is_plain (is_scalar ss) e) (tests_plain (is_scalar ss) rest) (expression e h.0.0) (tests rest h.1)

  loop_head : (l : LoopTree) → ShapedLoop Bare Indexed l → loop_plain (is_scalar ss) l ≡ true
  loop_head (tree.loop index first last by body) h =
      and_from (is_scalar ss index) (is_plain (is_scalar ss) first && (is_plain (is_scalar ss) last && maybe_plain (is_scalar ss) by)) (bare_scalar index h.0)
      (and_from (is_plain (is_scalar ss) first) (is_plain (is_scalar ss) last && maybe_plain (is_scalar ss) by) (expression first h.1)
      (and_from (is_plain (is_scalar ss) last) (maybe_plain (is_scalar ss) by) (expression last h.2) (step by h.3)))

  -- ---- statements

  -- one whose expressions are plain, as are those of its parts
  lacks_none : (w : WhatTree) → has_plain (is_scalar ss) w ≡ true → parts_have such w ≡ false → (such w || parts_have such w) ≡ false
  lacks_none w h k = or_from (such w) (parts_have such w) (not_from_true (has_plain (is_scalar ss) w) h) k

  mutual
    statement : (s : StmtTree) → ShapedStmt Bare Indexed s → stmt_has such s ≡ false
    statement (tree.stmt n label w) h = what w h

    what : (w : WhatTree) → ShapedWhat Bare Indexed w → (such w || parts_have such w) ≡ false
    what (tree.assign a b) h = lacks_none (tree.assign a b) (and_from (is_plain (is_scalar ss) a) (is_plain (is_scalar ss) b) (expression a h.0) (expression b h.1)) refl
    what (tree.block_if arms other) h = lacks_none (tree.block_if arms other) (tests arms h.0) (or_from (arms_have such arms) (else_has such other) (bodies arms h.0) (otherwise other h.1))
    what (tree.logical_if e s) h = lacks_none (tree.logical_if e s) (expression e h.0) (statement s h.1)
    what (tree.do_loop l) h = lacks_none (tree.do_loop l) (loop_head l h) (loop l h)
    what (tree.call x es) h = lacks_none (tree.call x es) (actuals es h) refl
    what (tree.goto l) h = refl
    what tree.continue h = refl
    what tree.return h = refl
    what (tree.stop text) h = refl
    what (tree.print es) h = lacks_none (tree.print es) (expressions es h) refl
    what (tree.read es) h = lacks_none (tree.read es) (expressions es h) refl

    pub list_plain : (body : StmtTrees) → ShapedList (StandsBare ss) (StandsIndexed ss) body → list_has (lacks_plain (is_scalar ss)) body ≡ false
    list_plain tree.no_stmts h = refl
    list_plain (tree.more_stmts s rest) h = or_from (stmt_has such s) (list_has such rest) (statement s h.0) (list_plain rest h.1)

    bodies : (arms : ArmTrees) → ShapedArms Bare Indexed arms → arms_have such arms ≡ false
    bodies tree.no_arms h = refl
    bodies (tree.more_arms a rest) h = or_from (arm_has such a) (arms_have such rest) (body a h.0) (bodies rest h.1)

    body : (a : ArmTree) → ShapedArm Bare Indexed a → arm_has such a ≡ false
    body (tree.arm e list) h = list_plain list h.1

    otherwise : (other : ElseTree) → ShapedElse Bare Indexed other → else_has such other ≡ false
    otherwise tree.no_else h = refl
    otherwise (tree.otherwise list) h = list_plain list h

    loop : (l : LoopTree) → ShapedLoop Bare Indexed l → loop_has such l ≡ false
    loop (tree.loop index first last by list) h = list_plain list h.4
