use Rattle.std.proofs.Common.{◌≡◌, ◌∙◌, List, ap, ap₂, Result, Ok, Err}
use Rattle.std.specs.Prelude.{IfOk}
use Rattle.affine_systems.specs.declared.row.Var.TheVariants.{Exit}
use Rattle.affine_systems.specs.declared.row.Row.{Row}
use Rattle.transformer_algebra.specs.declared.transformer.Transformer.{Transformer}
use Rattle.transformer_algebra.specs.declared.loop_parts.LoopParts.{LoopParts}
use Rattle.transformer_algebra.specs.Transformers.{followed, iterate}
use Rattle.transformer_algebra.specs.Loops.{start, guard, inside, beyond_last, with_rows, some_iterations}
use Rattle.transformer_algebra.proofs.loop_iterations.some_iterations.Goals as goal

-- the steps, one after another
some_done : {E : Type 0} (l : LoopParts) (t begin first turns begun within done : Transformer) (g i p : List Row) (r : Result Transformer E) → begin ≡ start l → g ≡ guard l → first ≡ with_rows begin g → turns ≡ iterate t → begun ≡ followed first turns → i ≡ inside l (Exit l.index) → within ≡ with_rows begun i → done ≡ followed within t → p ≡ beyond_last l (Exit l.index) → IfOk r (λ s. s ≡ with_rows done p) → IfOk r (λ s. s ≡ some_iterations l t)
some_done l t begin first turns begun within done g i p (Ok s) a b c d e f h k m n =
    n ∙ ap₂ with_rows (k ∙ ap (λ (w : Transformer). followed w t) (h ∙ ap₂ with_rows (e ∙ ap₂ followed (c ∙ ap₂ with_rows a b) d) f)) m
some_done l t begin first turns begun within done g i p (Err z) a b c d e f h k m n = tt

pub returns-clause-defined : goal.returns-clause-defined
returns-clause-defined c =
    some_done c.args.l.now c.args.t.now _ c.in_ok-first.first c.in_ok-turns.turns c.in_ok-begun.begun c.in_ok-within.within c.in_ok-done.done _ _ _ c.with_rows-3.result c.in_ok-start.ensures.defined c.in_ok-guard.ensures.defined
    c.in_ok-first.ensures.defined c.in_ok-turns.ensures.defined c.in_ok-begun.ensures.defined c.in_ok-inside.ensures.defined c.in_ok-within.ensures.defined c.in_ok-done.ensures.defined c.in_ok-beyond_last.ensures.defined c.with_rows-3.ensures.defined
