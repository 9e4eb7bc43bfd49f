-- In the statements of a module that is read, a variable with parentheses is an array.
use Rattle.std.proofs.Common.{◌≡◌, inl, inr, ℕ, suc, List, [], ◌∷◌, Option, Some, None, Bool, true, refl, sym, ap, ◌∙◌, subst, arith}
use Rattle.f77_ast.specs.Trees.{ExprTree, ExprTrees, StmtTree, WhatTree, ArmTree, ArmTrees, ElseTree, LoopTree, StmtTrees}
use Rattle.f77_ast.specs.Trees as tree
use Rattle.f77_ast.specs.Places.{Meant, Constant, Variable, Function}
use Rattle.f77_ast.specs.Store.{Content}
use Rattle.f77_ast.specs.Symbols.{BoundTree, SymbolTree, number_from}
use Rattle.f77_ast.specs.Shared.{symbol_at}
use Rattle.f77_ast.proofs.StorageLaws.{to_number as next_symbol}
use Rattle.f77_meaning.specs.Modules.{names, meant_in, symbol_names}
use Rattle.tracked_cells.specs.Standing.{has_bounds}
use Rattle.laws_programs.specs.SymbolTables.Shapes.{symbol_named, has_any, bounds_of, StandsBare, StandsIndexed, Shaped, AllShaped, ShapedActual, ShapedActuals, ShapedStep, ShapedStmt, ShapedWhat, ShapedArms, ShapedArm, ShapedElse, ShapedLoop, ShapedList, BodiesAreShaped}
use Rattle.laws_analyses.specs.Statements.Laws.{scope_of}
use Rattle.laws_analyses.proofs.Regions.Names.{Found, missing, at_place, found, Stands, no_symbol, as_function, as_constant, as_variable, stands}
use Rattle.bound_check.specs.References.{bounds_in, bounds_at}
use Rattle.laws_bounds.specs.Faults.{AnyName, IsArrayIndexed, BodiesAreIndexed}

-- ---- names

some_bounds : (bs : List BoundTree) → has_any bs → has_bounds bs ≡ true
some_bounds [] h = absurd h
some_bounds (b ∷ bs) h = refl

other_meant : (k : Meant) (v : ℕ) → k ≡ Variable v → (k ≡ Function → ⊥) × ((c : Content) → k ≡ Constant c → ⊥)
other_meant k v e = ((λ q. cc), (λ c q. cc))

module _ (ss : List SymbolTree) (flags : List Bool) where
  indexed : (x : List ℕ) (es : ExprTrees) → StandsIndexed ss x es → IsArrayIndexed (scope_of ss flags) (names ss) x es
  indexed x es h v e = go (stands ss x) h
    where
      by_found : (n : ℕ) → Found 1 ss x → has_any (bounds_of (symbol_named ss x)) → number_from 1 (symbol_names ss) x ≡ Some n → has_bounds (bounds_at ss (Some n)) ≡ true
      by_found n (missing q) g r = absurd (let no : None ≡ Some n = sym q ∙ r in cc)
      by_found n (at_place i k s same q f d m) g r =
          let here : k ≡ n = (let z : Some k ≡ Some n = sym q ∙ r in cc) in
          let number : n ≡ suc i = sym here ∙ omega (arith, same) in
          let symbol : symbol_at ss n ≡ Some s = ap (symbol_at ss) number ∙ next_symbol ss i s f in
          ap (λ o. has_bounds (bounds_in o)) symbol ∙ some_bounds s.bounds (subst (λ o. has_any (bounds_of o)) d g)

      go : Stands ss x → StandsIndexed ss x es → has_bounds (bounds_at ss (number_from 1 (symbol_names ss) x)) ≡ true
      go (no_symbol q) g = absurd ((other_meant (names ss x) v e).0 (ap (meant_in ss) q))
      go (as_function n s q y k w) g = absurd ((other_meant (names ss x) v e).0 w)
      go (as_constant n s c q y k w) g = absurd ((other_meant (names ss x) v e).1 c w)
      go (as_variable n s q y k f w) (inl g) = ap (λ o. has_bounds (bounds_at ss o)) q ∙ by_found n (found 1 ss x) g.0 q
      go (as_variable n s q y k f w) (inr g) = ap (λ o. has_bounds (bounds_at ss o)) q ∙ (ap (λ o. has_bounds (bounds_in o)) y ∙ f g.1)

  abbrev Bare : List ℕ → Type 0
  Bare = StandsBare ss

  abbrev Was : List ℕ → ExprTrees → Type 0
  Was = StandsIndexed ss

  abbrev Is : List ℕ → ExprTrees → Type 0
  Is = IsArrayIndexed (scope_of ss flags) (names ss)

  -- ---- expressions

  mutual
    expression : (e : ExprTree) → Shaped Bare Was e → Shaped AnyName Is e
    expression (tree.int n) h = tt
    expression (tree.log b) h = tt
    expression (tree.name x) h = tt
    expression (tree.element x es) h = (indexed x es h.0, expressions es h.1)
    expression (tree.paren e) h = expression e h
    expression (tree.unary o e) h = expression e h
    expression (tree.binary o a b) h = (expression a h.0, expression b h.1)
    expression (tree.chars x) h = tt

    expressions : (es : ExprTrees) → AllShaped Bare Was es → AllShaped AnyName Is es
    expressions tree.no_exprs h = tt
    expressions (tree.more_exprs e es) h = (expression e h.0, expressions es h.1)

  actual : (e : ExprTree) → ShapedActual Bare Was e → ShapedActual AnyName Is e
  actual (tree.int n) h = tt
  actual (tree.log b) h = tt
  actual (tree.name x) h = tt
  actual (tree.element x es) h = (indexed x es h.0, expressions es h.1)
  actual (tree.paren e) h = expression e h
  actual (tree.unary o e) h = expression e h
  actual (tree.binary o a b) h = (expression a h.0, expression b h.1)
  actual (tree.chars x) h = tt

  actuals : (es : ExprTrees) → ShapedActuals Bare Was es → ShapedActuals AnyName Is es
  actuals tree.no_exprs h = tt
  actuals (tree.more_exprs e es) h = (actual e h.0, actuals es h.1)

  step : (o : Option ExprTree) → ShapedStep Bare Was o → ShapedStep AnyName Is o
  step None h = tt
  step (Some e) h = expression e h

  -- ---- statements

  mutual
    in_stmt : (s : StmtTree) → ShapedStmt Bare Was s → ShapedStmt AnyName Is s
    in_stmt (tree.stmt n label w) h = in_what w h

    in_what : (w : WhatTree) → ShapedWhat Bare Was w → ShapedWhat AnyName Is w
    in_what (tree.assign a b) h = (expression a h.0, expression b h.1)
    in_what (tree.block_if arms other) h = (in_arms arms h.0, in_else other h.1)
    in_what (tree.logical_if e s) h = (expression e h.0, in_stmt s h.1)
    in_what (tree.do_loop l) h = in_loop l h
    in_what (tree.call x es) h = actuals es h
    in_what (tree.goto l) h = tt
    in_what tree.continue h = tt
    in_what tree.return h = tt
    in_what (tree.stop text) h = tt
    in_what (tree.print es) h = expressions es h
    in_what (tree.read es) h = expressions es h

    in_arms : (arms : ArmTrees) → ShapedArms Bare Was arms → ShapedArms AnyName Is arms
    in_arms tree.no_arms h = tt
    in_arms (tree.more_arms a rest) h = (in_arm a h.0, in_arms rest h.1)

    in_arm : (a : ArmTree) → ShapedArm Bare Was a → ShapedArm AnyName Is a
    in_arm (tree.arm test body) h = (expression test h.0, in_list body h.1)

    in_else : (other : ElseTree) → ShapedElse Bare Was other → ShapedElse AnyName Is other
    in_else tree.no_else h = tt
    in_else (tree.otherwise body) h = in_list body h

    in_loop : (l : LoopTree) → ShapedLoop Bare Was l → ShapedLoop AnyName Is l
    in_loop (tree.loop index first last st body) h = (tt, expression first h.1, expression last h.2, step st h.3, in_list body h.4)

    in_list : (body : StmtTrees) → ShapedList Bare Was body → ShapedList AnyName Is body
    in_list tree.no_stmts h = tt
    in_list (tree.more_stmts s rest) h = (in_stmt s h.0, in_list rest h.1)

pub bodies_are_indexed : BodiesAreShaped → BodiesAreIndexed
bodies_are_indexed shaped p ss flags e = in_list ss flags p.module_read.body (shaped p ss e)
