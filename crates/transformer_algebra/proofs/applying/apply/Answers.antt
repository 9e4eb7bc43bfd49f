use Rattle.std.proofs.Common.{◌≡◌, ◌∙◌, ℕ, List, ap, ap₂, Result, Ok, Err}
use Rattle.std.specs.Prelude.{IfOk}
use Rattle.affine_systems.specs.declared.row.System.{System}
use Rattle.affine_systems.specs.Calls.{meet}
use Rattle.transformer_algebra.specs.declared.naming.Naming.{Naming}
use Rattle.transformer_algebra.specs.Renaming.{rename_all}
use Rattle.transformer_algebra.specs.declared.transformer.Transformer.{Transformer}
use Rattle.transformer_algebra.specs.Halves.{to_cells}
use Rattle.transformer_algebra.specs.Transformers.{apply, without}
use Rattle.transformer_algebra.proofs.applying.apply.Goals as goal

-- the four steps, one after another
apply_done : {E : Type 0} (t : Transformer) (p met left : System) (cs ds : List ℕ) (ns ms : List Naming) (r : Result System E) → cs ≡ t.cells → ds ≡ t.cells → met ≡ meet t.system p → left ≡ without cs met → ns ≡ to_cells ds → ms ≡ ns → IfOk r (λ s. s ≡ rename_all ms left) → IfOk r (λ s. s ≡ apply t p)
apply_done t p met left cs ds ns ms (Ok s) a b m l n k h = h ∙ ap₂ rename_all (k ∙ (n ∙ ap to_cells b)) (l ∙ ap₂ without a m)
apply_done t p met left cs ds ns ms (Err e) a b m l n k h = tt

pub returns-clause-defined : goal.returns-clause-defined
returns-clause-defined c =
    apply_done c.args.t.now c.args.p.now c.in_ok-met.met c.in_ok-left.left _ _ _ _ c.rename_all.result c.as_slice.ensures c.as_slice-2.ensures c.in_ok-met.ensures.defined c.in_ok-left.ensures.defined
    c.in_ok-names.ensures c.as_slice-3.ensures.value c.rename_all.ensures.defined
