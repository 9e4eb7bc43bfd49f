use Rattle.std.proofs.Common.{◌≡◌, ℕ, Bool, List, Option, ℤ, ap, sym, ◌∙◌, unwrap_or}
use Rattle.f77_ast.specs.Trees.{ExprTree, LoopTree, StmtTrees}
use Rattle.f77_ast.specs.Trees as tree
use Rattle.f77_ast.specs.declared.stmt.Loop.{out-Loop}
use Rattle.f77_ast.specs.Plain.{expr_tree}
use Rattle.f77_ast.specs.PlainStmt.{stmt_trees, maybe_tree}
use Rattle.f77_ast.proofs.PlainlyStmt.{loop_tree-out}
use Rattle.affine_forms.specs.declared.affine.Affine.{Affine}
use Rattle.affine_forms.specs.Scalars.{is_cell}
use Rattle.affine_forms.specs.Forms.{affine_of}
use Rattle.call_translation.specs.transformer_algebra.declared.transformer.Transformer.{Transformer}
use Rattle.call_translation.specs.transformer_algebra.declared.loop_parts.LoopParts.{LoopParts}
use Rattle.call_translation.specs.Scopes.{ScopeTree, scope_tree}
use Rattle.transformers.specs.Loops.{step_of, number_in, loop_parts}
use Rattle.transformers.proofs.loops.loop_parts.Goals as goal

parts_made : (m : ScopeTree) (x : List ℕ) (a b : ExprTree) (o : Option ExprTree) (body : StmtTrees) (t : Transformer) (i : ℕ) (k : Bool) (s : Option ℤ) (f g : Option Affine) → i ≡ number_in m x → k ≡ is_cell m.tracked i → s ≡ step_of m.scalars.value o → f ≡ affine_of m.scalars a → g ≡ affine_of m.scalars b →
    (let made : LoopParts = record { index = i; tracked = k; step = s; first = f; last = g; body = t } in made) ≡ loop_parts m (tree.loop x a b o body) t
parts_made m x a b o body t i k s f g p q r u v = cc

pub returns-clause-defined : goal.returns-clause-defined
returns-clause-defined c =
    let m = scope_tree c.args.scope.now.symbols.now c.args.scope.now.tracked.now in
    let l = out-Loop c.args.l.now in
    parts_made m l.index (expr_tree l.first) (expr_tree l.last) (maybe_tree l.step) (stmt_trees l.body) c.args.body c.unwrap_or-index.result c.is_cell.result c.step_of.result c.in_ok-affine_of.field-0 c.in_ok-affine_of-2.field-0
    (c.unwrap_or-index.ensures ∙ ap (λ (n : Option ℕ). unwrap_or n 0) c.number.ensures) c.is_cell.ensures c.step_of.ensures c.in_ok-affine_of.ensures.defined c.in_ok-affine_of-2.ensures.defined
    ∙ sym (ap (λ (y : LoopTree). loop_parts m y c.args.body) (loop_tree-out c.args.l.now))
