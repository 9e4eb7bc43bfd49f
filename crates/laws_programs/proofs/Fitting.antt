-- Arrays stand in statements as they may, and statements have numbers from 1 on.
use Rattle.std.proofs.Common.{◌≡◌, inl, inr, ℕ, suc, ◌<◌, Bool, true, false, not, List, [], ◌∷◌, ◌++◌, Option, Some, None, refl, sym, ap, ◌∙◌, subst}
use Rattle.std.specs.Prelude.{if◌then◌else◌, bytes_eq, is_some, slice_get}
use Rattle.std.proofs.lemmas.Bool.{and_from}
use Rattle.std.proofs.lemmas.Slice.Eq.{bytes_eq-Decides}
use Rattle.f77_ast.specs.Trees.{ExprTree, ExprTrees, StmtTree, WhatTree, ArmTrees, ElseTree, LoopTree, StmtTrees}
use Rattle.f77_ast.specs.Trees as tree
use Rattle.f77_ast.specs.Numbers.{intrinsic_named}
use Rattle.f77_ast.specs.Places.{Function}
use Rattle.f77_ast.specs.Symbols.{BoundTree, SymbolTree}
use Rattle.tracked_cells.specs.Standing.{has_bounds}
use Rattle.call_graph.specs.Actuals.{symbol_with_name, is_array}
use Rattle.f77_meaning.specs.Modules.{is_function, meant_by, names}
use Rattle.laws_programs.specs.SymbolTables.Shapes.{symbol_named, has_any, bounds_of, Shaped, AllShaped, ShapedActual, ShapedActuals, ShapedStep, ShapedStmt, ShapedWhat, ShapedArms, ShapedElse, ShapedLoop, ShapedList}
use Rattle.laws_programs.specs.SymbolTables.Shapes as laid
use Rattle.laws_programs.proofs.Storage.ActualLaws.{meaning, no_meaning}
use Rattle.f77_ast.specs.StatementNumbers.{stmt_numbers, part_numbers, list_numbers, arms_numbers, else_numbers, loop_numbers}
use Rattle.laws_programs.specs.Effects.Trees.{StandsBare, StandsIndexed, IsShaped, AreShaped, IsActual, AreActuals, OfMaybe, StmtFits, WhatFits, ListFits, ArmsFit, ElseFits, LoopFits}
use Rattle.laws_programs.specs.Effects.Tables.{anything}

-- ---- names

pub same_named : (ss : List SymbolTree) (x : List ℕ) → symbol_named ss x ≡ symbol_with_name ss x
same_named [] x = refl
same_named (s ∷ ss) x = go (bytes_eq x s.name) (same_named ss x)
  where
    go : (b : Bool) → symbol_named ss x ≡ symbol_with_name ss x → (if b then Some s else symbol_named ss x) ≡ (if b then Some s else symbol_with_name ss x)
    go true h = refl
    go false h = h

pub name_of : (ss : List SymbolTree) (x : List ℕ) (s : SymbolTree) → symbol_with_name ss x ≡ Some s → x ≡ s.name
name_of [] x s e = cc
name_of (y ∷ ss) x s e = go (bytes_eq x y.name) refl e (name_of ss x s)
  where
    go : (b : Bool) → bytes_eq x y.name ≡ b → (if b then Some y else symbol_with_name ss x) ≡ Some s → (symbol_with_name ss x ≡ Some s → x ≡ s.name) → x ≡ s.name
    go true t h ih = let same : y ≡ s = cc in (bytes_eq-Decides x y.name).0 t ∙ ap (λ z. z.name) same
    go false t h ih = ih h

pub any_array : (o : Option SymbolTree) → has_any (bounds_of o) → is_array o ≡ true
any_array None h = absurd h
any_array (Some s) h = go s.bounds h
  where
    go : (bs : List BoundTree) → has_any bs → has_bounds bs ≡ true
    go [] k = absurd k
    go (b ∷ bs) k = refl

no_array : (o : Option SymbolTree) → bounds_of o ≡ [] → is_array o ≡ false
no_array None h = refl
no_array (Some s) h = ap has_bounds h

-- what has the name of a function and no bounds is one
pub function_named : (ss : List SymbolTree) (x : List ℕ) → bounds_of (symbol_with_name ss x) ≡ [] → is_some (intrinsic_named x) ≡ true → names ss x ≡ Function
function_named ss x b i = go (symbol_with_name ss x) refl b
  where
    go : (o : Option SymbolTree) → symbol_with_name ss x ≡ o → bounds_of o ≡ [] → names ss x ≡ Function
    go None e h = no_meaning ss x e
    go (Some s) e h =
        let m = meaning ss x s e in
        let is : is_function s ≡ true = and_from (not (has_bounds s.bounds)) (is_some (intrinsic_named s.name)) (ap (λ bs. not (has_bounds bs)) h) (ap (λ n. is_some (intrinsic_named n)) (sym (name_of ss x s e)) ∙ i) in
        m.meant ∙ ap (λ c. if c then Function else meant_by s.scalar m.number s.place) is

-- ---- numbers from 1 on

abbrev pub AreAbove : List ℕ → Type 0
AreAbove [] = Unit {0}
AreAbove (n ∷ ns) = (0 < n) × AreAbove ns

left_above : (ms ns : List ℕ) → AreAbove (ms ++ ns) → AreAbove ms
left_above [] ns h = tt
left_above (m ∷ ms) ns h = (h.0, left_above ms ns h.1)

right_above : (ms ns : List ℕ) → AreAbove (ms ++ ns) → AreAbove ns
right_above [] ns h = h
right_above (m ∷ ms) ns h = right_above ms ns h.1

pub all_above : (ns : List ℕ) → ((i n : ℕ) → slice_get ns i ≡ Some n → 0 < n) → AreAbove ns
all_above [] f = tt
all_above (n ∷ ns) f = (f 0 n refl, all_above ns (λ i m e. f (suc i) m e))

module _ (ss : List SymbolTree) where
  abbrev Bare : List ℕ → Type 0
  Bare = laid.StandsBare ss

  abbrev Indexed : List ℕ → ExprTrees → Type 0
  Indexed = laid.StandsIndexed ss

  is_bare : (x : List ℕ) → Bare x → StandsBare x ss
  is_bare x h = no_array (symbol_with_name ss x) (ap bounds_of (sym (same_named ss x)) ∙ h)

  is_indexed : (x : List ℕ) (es : ExprTrees) → Indexed x es → StandsIndexed x ss
  is_indexed x es (inl h) = inl (any_array (symbol_with_name ss x) (subst (λ o. has_any (bounds_of o)) (same_named ss x) h.0))
  is_indexed x es (inr h) = inr (function_named ss x (ap bounds_of (sym (same_named ss x)) ∙ h.0) h.1)

  -- ---- expressions

  mutual
    expr_is : (e : ExprTree) → Shaped Bare Indexed e → IsShaped e ss
    expr_is (tree.int n) h = tt
    expr_is (tree.log b) h = tt
    expr_is (tree.name x) h = is_bare x h
    expr_is (tree.element x es) h = (is_indexed x es h.0, exprs_are es h.1)
    expr_is (tree.paren e) h = expr_is e h
    expr_is (tree.unary o e) h = expr_is e h
    expr_is (tree.binary o a b) h = (expr_is a h.0, expr_is b h.1)
    expr_is (tree.chars x) h = tt

    exprs_are : (es : ExprTrees) → AllShaped Bare Indexed es → AreShaped es ss
    exprs_are tree.no_exprs h = tt
    exprs_are (tree.more_exprs e es) h = (expr_is e h.0, exprs_are es h.1)

  actual_is : (e : ExprTree) → ShapedActual Bare Indexed e → IsActual e ss
  actual_is (tree.int n) h = tt
  actual_is (tree.log b) h = tt
  actual_is (tree.name x) h = tt
  actual_is (tree.element x es) h = (is_indexed x es h.0, exprs_are es h.1)
  actual_is (tree.paren e) h = expr_is e h
  actual_is (tree.unary o e) h = expr_is e h
  actual_is (tree.binary o a b) h = (expr_is a h.0, expr_is b h.1)
  actual_is (tree.chars x) h = tt

  actuals_are : (es : ExprTrees) → ShapedActuals Bare Indexed es → AreActuals es ss
  actuals_are tree.no_exprs h = tt
  actuals_are (tree.more_exprs e es) h = (actual_is e h.0, actuals_are es h.1)

  step_is : (s : Option ExprTree) → ShapedStep Bare Indexed s → OfMaybe s ss
  step_is None h = tt
  step_is (Some e) h = expr_is e h

  -- ---- statements

  mutual
    pub list_fits : (t : StmtTrees) → AreAbove (list_numbers t) → ShapedList Bare Indexed t → ListFits t ss anything
    list_fits tree.no_stmts a h = tt
    list_fits (tree.more_stmts s rest) a h = (stmt_fits s (left_above (stmt_numbers s) (list_numbers rest) a) h.0, list_fits rest (right_above (stmt_numbers s) (list_numbers rest) a) h.1)

    stmt_fits : (s : StmtTree) → AreAbove (stmt_numbers s) → ShapedStmt Bare Indexed s → StmtFits s ss anything
    stmt_fits (tree.stmt id label w) a h = (a.0, what_fits w a.1 h)

    what_fits : (w : WhatTree) → AreAbove (part_numbers w) → ShapedWhat Bare Indexed w → WhatFits w ss anything
    what_fits (tree.assign v e) a h = (expr_is v h.0, expr_is e h.1)
    what_fits (tree.block_if arms other) a h = (arms_fit arms (left_above (arms_numbers arms) (else_numbers other) a) h.0, else_fits other (right_above (arms_numbers arms) (else_numbers other) a) h.1)
    what_fits (tree.logical_if e s) a h = (expr_is e h.0, stmt_fits s a h.1)
    what_fits (tree.do_loop l) a h = loop_fits l a h
    what_fits (tree.call x es) a h = (actuals_are es h, tt)
    what_fits (tree.goto l) a h = tt
    what_fits tree.continue a h = tt
    what_fits tree.return a h = tt
    what_fits (tree.stop text) a h = tt
    what_fits (tree.print es) a h = exprs_are es h
    what_fits (tree.read es) a h = exprs_are es h

    arms_fit : (arms : ArmTrees) → AreAbove (arms_numbers arms) → ShapedArms Bare Indexed arms → ArmsFit arms ss anything
    arms_fit tree.no_arms a h = tt
    arms_fit (tree.more_arms (tree.arm test body) rest) a h =
        ((expr_is test h.0.0, list_fits body (left_above (list_numbers body) (arms_numbers rest) a) h.0.1), arms_fit rest (right_above (list_numbers body) (arms_numbers rest) a) h.1)

    else_fits : (other : ElseTree) → AreAbove (else_numbers other) → ShapedElse Bare Indexed other → ElseFits other ss anything
    else_fits tree.no_else a h = tt
    else_fits (tree.otherwise body) a h = list_fits body a h

    loop_fits : (l : LoopTree) → AreAbove (loop_numbers l) → ShapedLoop Bare Indexed l → LoopFits l ss anything
    loop_fits (tree.loop index first last step body) a h = (is_bare index h.0, expr_is first h.1, expr_is last h.2, step_is step h.3, list_fits body a h.4)
