-- The cells of the caller that a CALL does not list, and its far units, keep their numbers.
use Rattle.std.proofs.Common.{◌≡◌, ℕ, List, ◌&&◌, Some, true, false, refl, sym, ap, ◌∙◌, ℤ}
use Rattle.std.proofs.lemmas.Bool.{and_from, false_from_ne_true}
use Rattle.f77_ast.specs.declared.variable.Unit.{Unit as BlockUnit}
use Rattle.f77_ast.specs.Shared.{place_at}
use Rattle.tracked_cells.specs.Scalars.{unit}
use Rattle.preconditions.specs.transformer_algebra.declared.transformer.Transformer.{Transformer}
use Rattle.preconditions.specs.transformer_algebra.Cells.{has}
use Rattle.preconditions.specs.transformer_algebra.Claims.{Scene, Kept, IsIn}
use Rattle.preconditions.proofs.TransformerAlgebra.CellLaws.{left_in, right_in, unit_left, unit_right}
use Rattle.preconditions.specs.call_translation.Common.{tracked_at}
use Rattle.preconditions.specs.call_translation.Call.{CallTree, cell_at}
use Rattle.preconditions.specs.call_translation.Summary.{unit_cells, cells_of, hidden_units, units_of, summary_in_caller}
use Rattle.preconditions.specs.transformers.Modules.{is_seen, is_visible_to_callers}
use Rattle.laws_analyses.specs.Calls.Scenes.{outside, IsInBlock}
use Rattle.laws_analyses.specs.Calls.Bindings.{IsDummy, Binds, Reached, passed_to, shared_with, passed_by, untouched, FarReached, far_shared_with, far_passed_by, far_untouched, Runs}
use Rattle.laws_analyses.proofs.Calls.TableLaws.{tracked_at_cell, tracked_at_finds}
use Rattle.laws_analyses.proofs.Calls.ListLaws.{unit_cells_has, hidden_has, units_of_has}
use Rattle.fx_lists.proofs.Booleans.{clash as clashes}
use Rattle.preconditions.proofs.CallTranslation.CallerCells.{cells_of_has}

-- ---- the same units

module _ (c : CallTree) (h k : Scene) (q : Binds c h k) where
  -- a cell that is seen from outside
  pub dummy_seen : (d n : ℕ) → k.tracked d ≡ true → IsDummy c.symbols d n → (k.tracked d && is_visible_to_callers c.symbols d) ≡ true
  dummy_seen d n t e = and_from (k.tracked d) (is_visible_to_callers c.symbols d) t (ap is_seen e)

  pub shared_seen : (d : ℕ) (b : List ℕ) (o : ℕ) → k.tracked d ≡ true → IsInBlock c.symbols d b o → (k.tracked d && is_visible_to_callers c.symbols d) ≡ true
  shared_seen d b o t e = and_from (k.tracked d) (is_visible_to_callers c.symbols d) t (ap is_seen e)

  -- cells at one offset of a block are one unit
  pub same_unit : (d : ℕ) (b : List ℕ) (o v : ℕ) → k.tracked d ≡ true → IsInBlock c.symbols d b o → h.tracked v ≡ true → IsInBlock c.caller.symbols v b o → k.unit d ≡ h.unit v
  same_unit d b o v t i u j = q.callee d b o t i ∙ (q.places (unit b o) ∙ sym (q.caller.blocks v b o u j))

  -- what the caller tracks at the unit of a tracked cell is that unit
  pub found_unit : (d : ℕ) (b : List ℕ) (o v : ℕ) → k.tracked d ≡ true → IsInBlock c.symbols d b o → tracked_at c.caller b o ≡ Some v → (h.tracked v ≡ true) × (k.unit d ≡ h.unit v)
  found_unit d b o v t i e =
      let f = tracked_at_cell c.caller b o v e in
      let u : h.tracked v ≡ true = q.caller.tracked v ∙ f.0 in
      (u, same_unit d b o v t i u f.1)

-- ---- what a CALL keeps

module _ (c : CallTree) (t : Transformer) (h k : Scene) (x y z w : ℕ → ℤ) (r : Runs c h k x y z w) (s : Kept (outside c.symbols k) t.cells t.foreign y z) where
  abbrev called : Transformer
  called = summary_in_caller c t

  -- a cell that is the same unit in the callee
  stays : (d v : ℕ) → (k.tracked d && is_visible_to_callers c.symbols d) ≡ true → k.unit d ≡ h.unit v → cell_at c (place_at c.symbols d) ≡ Some v → has called.cells v ≡ false → z (h.unit v) ≡ y (h.unit v)
  stays d v u q f e =
      let n : has t.cells d ≡ false = false_from_ne_true (has t.cells d) (λ i. clashes (has called.cells v) (right_in (unit_cells c t.foreign) (cells_of c t.cells) v (cells_of_has c t.cells d v i f)) e) in
      ap z (sym q) ∙ (s.cells d u n ∙ ap y q)

  cell_stays : (v : ℕ) → h.tracked v ≡ true → has called.cells v ≡ false → Reached c h k y z v → z (h.unit v) ≡ y (h.unit v)
  cell_stays v u e (passed_to d n i m f) = let b = r.binds.passed_by_reference d n v m f in stays d v (dummy_seen c h k r.binds d n i m) b.1 (ap (cell_at c) m ∙ f) e
  cell_stays v u e (shared_with d b o i m f) =
      stays d v (shared_seen c h k r.binds d b o i m) (same_unit c h k r.binds d b o v i m u f) (ap (cell_at c) m ∙ tracked_at_finds c.caller h r.binds.caller v b o u f) e
  cell_stays v u e (passed_by a i f) =
      let g = tracked_at_finds c.caller h r.binds.caller v a.block a.offset u f in
      let p : k.place a ≡ h.unit v = r.binds.places a ∙ sym (r.binds.caller.blocks v a.block a.offset u f) in
      let n = s.foreign a i (λ j. clashes (has called.cells v) (left_in (unit_cells c t.foreign) (cells_of c t.cells) v (unit_cells_has c t.foreign a v j g)) e) in
      ap z (sym p) ∙ (n ∙ ap y p)
  cell_stays v u e (untouched q) = q

  far_stays : (u : BlockUnit) → h.far u ≡ true → (IsIn u called.foreign → ⊥) → FarReached c h k y z u → z (h.place u) ≡ y (h.place u)
  far_stays u i f (far_shared_with d j m) =
      let g = r.binds.caller.hidden u i in
      let p : k.unit d ≡ h.place u = r.binds.callee d u.block u.offset j m ∙ r.binds.places u in
      let n : has t.cells d ≡ false = false_from_ne_true (has t.cells d) (λ a. f (unit_right (hidden_units c t.foreign) (hidden_units c (units_of c t.cells)) u (hidden_has c (units_of c t.cells) u (units_of_has c t.cells d u a m) g))) in
      ap z (sym p) ∙ (s.cells d (shared_seen c h k r.binds d u.block u.offset j m) n ∙ ap y p)
  far_stays u i f (far_passed_by j) =
      let g = r.binds.caller.hidden u i in
      let n = s.foreign u j (λ a. f (unit_left (hidden_units c t.foreign) (hidden_units c (units_of c t.cells)) u (hidden_has c t.foreign u a g))) in
      ap z (sym (r.binds.places u)) ∙ (n ∙ ap y (r.binds.places u))
  far_stays u i f (far_untouched q) = q

  pub kept_call : Kept h called.cells called.foreign x w
  kept_call = record {
    cells = λ v u e. r.ends.cells v u refl ∙ (cell_stays v u e (r.cells v u) ∙ r.begins.kept.cells v u refl);
    foreign = λ u i f. r.ends.foreign u i (λ j. j) ∙ (far_stays u i f (r.far u i) ∙ r.begins.kept.foreign u i (λ j. j));
  }
