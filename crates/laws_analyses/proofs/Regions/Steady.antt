-- Cells that no statement of a module changes have at each statement the numbers that they had at the entry.
use Rattle.std.proofs.Common.{◌≡◌, ℕ, List, [], ◌∷◌, true, false, refl, ◌∙◌}
use Rattle.f77_ast.specs.Store.{Store}
use Rattle.f77_ast.specs.declared.results.At.{At}
use Rattle.affine_forms.specs.Scalars.{is_cell}
use Rattle.affine_forms.specs.Claims.{unit_in, numbers_of}
use Rattle.preconditions.specs.transformer_algebra.declared.transformer.Transformer.{Transformer}
use Rattle.preconditions.specs.transformer_algebra.Cells.{has, joined_cells}
use Rattle.preconditions.specs.transformer_algebra.Claims.{Kept}
use Rattle.preconditions.proofs.TransformerAlgebra.CellLaws.{left_out, right_out}
use Rattle.in_out_regions.specs.call_equations.Sides.{changed_by, changed_cells}
use Rattle.call_graph.specs.CallsIn.{Each}
use Rattle.laws_analyses.specs.Regions.Settings.{Setting, scene}

-- a cell that is none of these is changed by no statement
unchanged : (cs : List ℕ) (as' : List (At Transformer)) (c : ℕ) → has (changed_by cs as') c ≡ false → (has cs c ≡ false) × Each (λ (a : At Transformer). has a.value.cells c ≡ false) as'
unchanged cs [] c h = (h, tt)
unchanged cs (a ∷ as') c h =
    let r = unchanged (joined_cells cs a.value.cells) as' c h in
    (left_out cs a.value.cells c r.0, (right_out cs a.value.cells c r.0, r.1))

-- began: the store at the entry
module _ (k : Setting) (changed : List ℕ) (began : Store) where
  abbrev pub Steady : Store → Type 0
  Steady z = (c : ℕ) → is_cell k.m.tracked c ≡ true → has changed c ≡ false → numbers_of z (unit_in k.at c) ≡ numbers_of began (unit_in k.at c)

  pub steady_begin : Steady began
  steady_begin c t h = refl

  steady_each : (as' : List (At Transformer)) → ((c : ℕ) → has changed c ≡ false → Each (λ (a : At Transformer). has a.value.cells c ≡ false) as') → Each (λ (a : At Transformer). (x y : Store) → Kept (scene k) a.value.cells a.value.foreign (numbers_of x) (numbers_of y) → Steady x → Steady y) as'
  steady_each [] f = tt
  steady_each (a ∷ as') f = (λ x y kept i c t h. kept.cells c t (f c h).0 ∙ i c t h, steady_each as' (λ c h. (f c h).1))

pub steady_keeps : (k : Setting) (as' : List (At Transformer)) (began : Store) → Each (λ (a : At Transformer). (x y : Store) → Kept (scene k) a.value.cells a.value.foreign (numbers_of x) (numbers_of y) → Steady k (changed_cells as') began x → Steady k (changed_cells as') began y) as'
steady_keeps k as' began = steady_each k (changed_cells as') began as' (λ c h. (unchanged [] as' c h).1)
