-- No actual is misread.
use Rattle.std.proofs.Common.{◌≡◌, ◌⊎◌, inl, inr, ℕ, Bool, true, false, not, List, [], ◌∷◌, Option, Some, None, Ok, refl, sym, ap, ◌∙◌, subst}
use Rattle.std.specs.Prelude.{if◌then◌else◌, bytes_eq, is_some, ◌&&◌}
use Rattle.std.proofs.lemmas.Bool.{and_from}
use Rattle.std.proofs.lemmas.Slice.Eq.{bytes_eq-Decides}
use Rattle.f77_ast.specs.Trees.{ExprTree, ExprTrees, StmtTree, WhatTree, ArmTree, ArmTrees, ElseTree, LoopTree, StmtTrees}
use Rattle.f77_ast.specs.Trees as tree
use Rattle.f77_ast.specs.DeclTrees.{ParsedTree}
use Rattle.f77_ast.specs.Numbers.{intrinsic_named}
use Rattle.f77_ast.specs.Places.{Meant, Constant, Variable, Function}
use Rattle.f77_ast.specs.declared.symbol.Place.{Place}
use Rattle.f77_ast.specs.declared.symbol.Place.TheVariants as place
use Rattle.f77_ast.specs.Symbols.{BoundTree, SymbolTree}
use Rattle.tracked_cells.specs.Standing.{has_bounds}
use Rattle.call_graph.specs.Actuals.{symbol_with_name, is_array}
use Rattle.f77_meaning.specs.Modules.{is_function, meant_by, names}
use Rattle.storage_layout.specs.Symbols.{symbols_of}
use Rattle.laws_programs.specs.SymbolTables.Shapes.{symbol_named, has_any, bounds_of, StandsBare, StandsIndexed, AllShaped, ShapedActual, ShapedActuals, ShapedStmt, ShapedWhat, ShapedArms, ShapedArm, ShapedElse, ShapedLoop, ShapedList}
use Rattle.laws_programs.proofs.SymbolTables.ShapeLaws.{bodies_are_shaped}
use Rattle.laws_programs.proofs.SymbolTables.ConstantLaws.{constants_are_scalars}
use Rattle.laws_programs.specs.Storage.Calls.{IsMisread, indexed, constant_array, AllRead, EachCall, CallsOf, CallsIn, ArmCalls, OneArm, ElseCalls, LoopCalls, CallsAreRead}
use Rattle.laws_programs.proofs.Storage.ActualLaws.{Meaning, meaning, no_meaning}
use Rattle.laws_programs.proofs.Fitting.{same_named, name_of, any_array, function_named}

-- ---- names

array_kept : (ss : List SymbolTree) (x : List ℕ) (c : _) → ((s : SymbolTree) (k : _) → symbol_with_name ss x ≡ Some s → s.place ≡ place.Constant k → s.bounds ≡ []) → is_array (symbol_with_name ss x) ≡ true → names ss x ≡ Constant c → ⊥
array_kept ss x c flat a n = go (symbol_with_name ss x) refl a
  where
    by_place : (s : SymbolTree) (q : Place) (k : ℕ) → symbol_with_name ss x ≡ Some s → has_bounds s.bounds ≡ true → s.place ≡ q → meant_by s.scalar k q ≡ Constant c → ⊥
    by_place s (place.Local g o) k e h p f = cc
    by_place s (place.Dummy d) k e h p f = cc
    by_place s (place.Block b o) k e h p f = cc
    by_place s (place.Constant v) k e h p f = let z : true ≡ false = sym h ∙ ap has_bounds (flat s v e p) in cc

    by_function : (s : SymbolTree) (b : Bool) (k : ℕ) → symbol_with_name ss x ≡ Some s → has_bounds s.bounds ≡ true → (if b then Function else meant_by s.scalar k s.place) ≡ Constant c → ⊥
    by_function s true k e h f = cc
    by_function s false k e h f = by_place s s.place k e h refl f

    go : (o : Option SymbolTree) → symbol_with_name ss x ≡ o → is_array o ≡ true → ⊥
    go None e h = cc
    go (Some s) e h = let m = meaning ss x s e in by_function s (is_function s) m.number e h (sym m.meant ∙ n)

-- ---- actuals

module _ (p : ParsedTree) (ss : List SymbolTree) (laid : symbols_of p ≡ Ok ss) where
  not_misread : (e : ExprTree) → ShapedActual (StandsBare ss) (StandsIndexed ss) e → IsMisread ss e → ⊥
  not_misread e h (indexed x es q a f) =
      let s = (subst (ShapedActual (StandsBare ss) (StandsIndexed ss)) q h).0 in
      elim s [
        | inl w ↦ (let z : true ≡ false = sym (any_array (symbol_with_name ss x) (subst (λ o. has_any (bounds_of o)) (same_named ss x) w.0)) ∙ a in cc)
        | inr w ↦ f (function_named ss x (ap bounds_of (sym (same_named ss x)) ∙ w.0) w.1)
      ]
  not_misread e h (constant_array x c a n) = array_kept ss x c (λ s k i j. constants_are_scalars p ss laid x s k (same_named ss x ∙ i) j) a n

  all_read : (es : ExprTrees) → ShapedActuals (StandsBare ss) (StandsIndexed ss) es → AllRead ss es
  all_read tree.no_exprs h = tt
  all_read (tree.more_exprs e es) h = (not_misread e h.0, all_read es h.1)

  -- ---- statements

  mutual
    list_read : (t : StmtTrees) → ShapedList (StandsBare ss) (StandsIndexed ss) t → EachCall (λ n x es. AllRead ss es) t
    list_read tree.no_stmts h = tt
    list_read (tree.more_stmts s rest) h = (stmt_read s h.0, list_read rest h.1)

    stmt_read : (t : StmtTree) → ShapedStmt (StandsBare ss) (StandsIndexed ss) t → CallsOf (λ n x es. AllRead ss es) t
    stmt_read (tree.stmt n label w) h = what_read w n h

    what_read : (w : WhatTree) (n : ℕ) → ShapedWhat (StandsBare ss) (StandsIndexed ss) w → CallsIn (λ n x es. AllRead ss es) n w
    what_read (tree.assign a b) n h = tt
    what_read (tree.block_if arms other) n h = (arms_read arms h.0, else_read other h.1)
    what_read (tree.logical_if e s) n h = stmt_read s h.1
    what_read (tree.do_loop l) n h = loop_read l h
    what_read (tree.call x es) n h = all_read es h
    what_read (tree.goto l) n h = tt
    what_read tree.continue n h = tt
    what_read tree.return n h = tt
    what_read (tree.stop text) n h = tt
    what_read (tree.print es) n h = tt
    what_read (tree.read es) n h = tt

    arms_read : (as' : ArmTrees) → ShapedArms (StandsBare ss) (StandsIndexed ss) as' → ArmCalls (λ n x es. AllRead ss es) as'
    arms_read tree.no_arms h = tt
    arms_read (tree.more_arms a rest) h = (arm_read a h.0, arms_read rest h.1)

    arm_read : (a : ArmTree) → ShapedArm (StandsBare ss) (StandsIndexed ss) a → OneArm (λ n x es. AllRead ss es) a
    arm_read (tree.arm test body) h = list_read body h.1

    else_read : (y : ElseTree) → ShapedElse (StandsBare ss) (StandsIndexed ss) y → ElseCalls (λ n x es. AllRead ss es) y
    else_read tree.no_else h = tt
    else_read (tree.otherwise body) h = list_read body h

    loop_read : (l : LoopTree) → ShapedLoop (StandsBare ss) (StandsIndexed ss) l → LoopCalls (λ n x es. AllRead ss es) l
    loop_read (tree.loop index first last step body) h = list_read body h.4

  pub body_read : EachCall (λ n x es. AllRead ss es) p.module_read.body
  body_read = list_read p.module_read.body (bodies_are_shaped p ss laid)

pub calls_are_read : CallsAreRead
calls_are_read p ss laid = body_read p ss laid
