-- Functions of two arguments.
use Rattle.std.proofs.Common.{◌≡◌, ℕ, ◌<◌, ◌≤◌, Bool, false, List, [], ◌∷◌, Option, None, length, refl, sym, ap, ◌∙◌, arith}
use Rattle.std.specs.Prelude.{if◌then◌else◌}
use Rattle.f77_ast.specs.declared.expr.Expr.{Expr}
use Rattle.f77_ast.specs.Plain.{expr_trees}
use Rattle.f77_ast.specs.Symbols.{SymbolTree}
use Rattle.result_lines.specs.declared.reduction.ReduceOp.{ReduceOp}
use Rattle.reductions.specs.Accumulations.{is_array, of_arguments, by_function}

few : (x f : List ℕ) (es : List Expr) → length es < 2 → of_arguments x f (expr_trees es) ≡ None
few x f [] h = refl
few x f (a ∷ []) h = refl
few x f (a ∷ b ∷ es) h = absurd (omega (arith, h))

many : (x f : List ℕ) (es : List Expr) → 3 ≤ length es → of_arguments x f (expr_trees es) ≡ None
many x f [] h = absurd (omega (arith, h))
many x f (a ∷ []) h = absurd (omega (arith, h))
many x f (a ∷ b ∷ []) h = absurd (omega (arith, h))
many x f (a ∷ b ∷ c ∷ es) h = refl

-- of arguments with which nothing accumulates
none_of : (ss : List SymbolTree) (x f : List ℕ) (es : List Expr) → is_array ss f ≡ false → of_arguments x f (expr_trees es) ≡ None → None ≡ by_function ss x f (expr_trees es)
none_of ss x f es h e = sym (ap (λ (b : Bool). if b then None else of_arguments x f (expr_trees es)) h ∙ e)

pub none_of_few : (ss : List SymbolTree) (x f : List ℕ) (es : List Expr) → is_array ss f ≡ false → length es < 2 → None ≡ by_function ss x f (expr_trees es)
none_of_few ss x f es h l = none_of ss x f es h (few x f es l)

pub none_of_many : (ss : List SymbolTree) (x f : List ℕ) (es : List Expr) → is_array ss f ≡ false → 3 ≤ length es → None ≡ by_function ss x f (expr_trees es)
none_of_many ss x f es h l = none_of ss x f es h (many x f es l)
