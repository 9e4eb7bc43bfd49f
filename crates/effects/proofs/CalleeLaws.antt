-- The actual at a place.
use Rattle.std.proofs.Common.{◌≡◌, ℕ, zero, suc, List, [], ◌∷◌, Some, None, refl, ap}
use Rattle.std.specs.Prelude.{slice_get}
use Rattle.f77_ast.specs.declared.expr.Expr.{Expr}
use Rattle.f77_ast.specs.Plain.{expr_tree, expr_trees}
use Rattle.f77_ast.specs.Symbols.{SymbolTree}
use Rattle.effects.specs.Names.{variable_named}
use Rattle.effects.specs.Callee.{actual_variable}

pub actual-none : (es : List Expr) (k : ℕ) (ss : List SymbolTree) → slice_get es k ≡ None → actual_variable (expr_trees es) k ss ≡ []
actual-none [] k ss e = refl
actual-none (a ∷ es) zero ss e = cc
actual-none (a ∷ es) (suc k) ss e = actual-none es k ss e

pub actual-some : (es : List Expr) (k : ℕ) (ss : List SymbolTree) (a : Expr) → slice_get es k ≡ Some a → actual_variable (expr_trees es) k ss ≡ variable_named (expr_tree a) ss
actual-some [] k ss a e = cc
actual-some (b ∷ es) zero ss a e =
    let same : b ≡ a = cc in ap (λ x. variable_named (expr_tree x) ss) same
actual-some (b ∷ es) (suc k) ss a e = actual-some es k ss a e
