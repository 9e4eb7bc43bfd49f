-- One step of a chain of operands, and of a list.
use Rattle.std.proofs.Common.{◌++◌, ◌∷◌, [], ◌≡◌, ℕ, zero, suc, ◌<◌, ◌-◌, List, refl, arith, Some}
use Rattle.std.proofs.lemmas.List.{map-append}
use native.Mathlib.Numerals.{unary_clauses}
use Rattle.f77_ast.specs.declared.expr.BinaryOp.{BinaryOp}
use Rattle.f77_ast.specs.Trees.{ExprTree, binary}
use Rattle.f77_exprs.specs.State.{State, Reader, or_done, ◌>>=◌}
use Rattle.f77_exprs.specs.Operators.{one_of}
use Rattle.f77_exprs.specs.Grammar.{more, Between, more_by}

pub more-zero : (ops : List BinaryOp) (operand : Reader ExprTree) (n : ℕ) (left : ExprTree) (s : State) → n < 1
    → more ops operand n left s ≡ Some (left, s)
unfolding more
more-zero ops operand zero left s h = refl
more-zero ops operand (suc n) left s h = absurd (omega arith)

pub more-suc : (ops : List BinaryOp) (operand : Reader ExprTree) (n : ℕ) (left : ExprTree) (s : State) → 0 < n
    → more ops operand n left s ≡ or_done left s (one_of ops s) (λ o. operand o.1 >>= λ r. more ops operand (n - 1) (binary o.0 left r.0) r.1)
unfolding more
more-suc ops operand zero left s h = absurd (omega arith)
more-suc ops operand (suc n) left s h = simp unary_clauses

pub ruleset more_steps = (more-zero, more-suc)

pub more_by-zero : {A : Type 0} (between : Between) (one : Reader A) (n : ℕ) (found : List A) (s : State) → n < 1 → more_by between one n found s ≡ Some (found, s)
unfolding more_by
more_by-zero between one zero found s h = refl
more_by-zero between one (suc n) found s h = absurd (omega arith)

pub more_by-suc : {A : Type 0} (between : Between) (one : Reader A) (n : ℕ) (found : List A) (s : State) → 0 < n
    → more_by between one n found s ≡ or_done found s (between s) (λ t. one t >>= λ r. more_by between one (n - 1) (found ++ r.0 ∷ []) r.1)
unfolding more_by
more_by-suc between one zero found s h = absurd (omega arith)
more_by-suc between one (suc n) found s h = simp unary_clauses

pub ruleset items_steps = (more_by-zero, more_by-suc, map-append)
