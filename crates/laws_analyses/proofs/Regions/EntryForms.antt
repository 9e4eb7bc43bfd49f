-- The cells of what is called have, where it is entered, the values of their forms over the cells of the caller where the CALL begins.
use Rattle.std.proofs.Common.{◌≡◌, ℕ, ℤ, List, [], Option, Some, None, true, refl, sym, ap, ◌∙◌, subst, arith}
use Rattle.std.proofs.lemmas.Int.{ints}
use Rattle.f77_ast.specs.declared.symbol.Place.{Place}
use Rattle.f77_ast.specs.declared.symbol.Place.TheVariants.{Local, Dummy, Block, Constant}
use Rattle.f77_ast.specs.Shared.{place_at}
use Rattle.tracked_cells.specs.Scalars.{unit}
use Rattle.affine_forms.specs.Forms.{cell_form}
use Rattle.f77_ast.specs.declared.variable.Unit.{Unit as BlockUnit}
use Rattle.preconditions.specs.transformer_algebra.Claims.{Scene, Means, Kept}
use Rattle.preconditions.specs.call_translation.Actuals.{actual_of, form_in}
use Rattle.preconditions.specs.call_translation.Common.{tracked_at}
use Rattle.in_out_regions.specs.call_equations.Sides.{SidesTree}
use Rattle.in_out_regions.specs.call_equations.Cells.{form_at}
use Rattle.in_out_regions.specs.region_translation.Claims.{FormsMean}
use Rattle.laws_analyses.specs.Calls.Bindings.{IsDummy}
use Rattle.laws_analyses.specs.Calls.Scenes.{IsInBlock, IsSceneOf}
use Rattle.laws_analyses.proofs.Calls.TableLaws.{tracked_at_cell}

module _ (c : SidesTree) (h k : Scene) (x y : ℕ → ℤ) (caller : IsSceneOf c.caller h) (places : (u : BlockUnit) → k.place u ≡ h.place u) (kept : Kept h [] [] x y)
    (values : (d n : ℕ) → IsDummy c.callee.symbols d n → Means h (form_in c.caller (actual_of c.actuals n)) x (y (k.unit d))) (lies : (n : ℕ) (b : List ℕ) (o : ℕ) → IsInBlock c.callee.symbols n b o → k.unit n ≡ k.place (unit b o)) where
  cell_means : (v : ℕ) → h.tracked v ≡ true → Means h (cell_form (Some v)) x (x (h.unit v))
  cell_means v t p st = let e = st v t in omega (arith, ints, e)

  -- a variable of a block is the caller's tracked cell at the same unit
  block_means : (n : ℕ) (b : List ℕ) (o : ℕ) → IsInBlock c.callee.symbols n b o → (f : Option ℕ) → tracked_at c.caller b o ≡ f → Means h (cell_form f) x (y (k.unit n))
  block_means n b o e None q = tt
  block_means n b o e (Some v) q =
      let w = tracked_at_cell c.caller b o v q in
      let there : h.tracked v ≡ true = caller.tracked v ∙ w.0 in
      let same : k.unit n ≡ h.unit v = lies n b o e ∙ (places (unit b o) ∙ sym (caller.blocks v b o there w.1)) in
      subst (λ z. Means h (cell_form (Some v)) x z) (sym (ap y same ∙ kept.cells v there refl)) (cell_means v there)

  by_place : (n : ℕ) (p : Option Place) → place_at c.callee.symbols n ≡ p → Means h (form_at c p) x (y (k.unit n))
  by_place n None e = tt
  by_place n (Some (Local g o)) e = tt
  by_place n (Some (Dummy d)) e = values n d e
  by_place n (Some (Block b o)) e = block_means n b o e (tracked_at c.caller b o) refl
  by_place n (Some (Constant v)) e = tt

  pub forms_mean : FormsMean c h k x y
  forms_mean n = by_place n (place_at c.callee.symbols n) refl
