-- The transformer of a CALL describes the way of the CALL.
use Rattle.std.proofs.Common.{◌≡◌, ℕ, suc, List, [], ◌∷◌, ◌++◌, ◌&&◌, Option, Some, None, Bool, true, false, refl, sym, ap, ◌∙◌, arith, ℤ, pos, ◌⊎◌, inl, inr, ⊎_elim}
use Rattle.std.specs.Prelude.{if◌then◌else◌}
use Rattle.std.proofs.lemmas.Bool.{and_from, cases_Bool, and_parts}
use Rattle.std.proofs.lemmas.Int.{ints}
use Rattle.affine_systems.specs.declared.row.Var.{Var}
use Rattle.affine_systems.specs.declared.row.Var.TheVariants.{Cell, Exit, Phi, Aux}
use Rattle.affine_systems.specs.Points.{Point, HoldsAll}
use Rattle.affine_systems.proofs.CallLaws.{append_all}
use Rattle.hull_projection.specs.Variables.{with_vars}
use Rattle.hull_projection.specs.Laws.{IsOneOf}
use Rattle.hull_projection.proofs.ProjectLaws.{project_keeps}
use Rattle.hull_projection.proofs.VarLaws.{rows_covered}
use Rattle.hull_projection.proofs.LiftLaws.{agree_hold}
use Rattle.f77_ast.specs.declared.symbol.Place.{Place}
use Rattle.f77_ast.specs.declared.symbol.Place.TheVariants.{Local, Dummy, Block, Constant}
use Rattle.f77_ast.specs.Shared.{place_at}
use Rattle.preconditions.specs.transformer_algebra.declared.naming.Naming.{Naming}
use Rattle.preconditions.specs.transformer_algebra.Renaming.{renamed_by, rename_all, push_rows}
use Rattle.preconditions.specs.transformer_algebra.Fresh.{above_rows}
use Rattle.preconditions.proofs.TransformerAlgebra.KeepLaws.{rename_all_holds, push_rows_holds}
use Rattle.affine_forms.specs.declared.affine.Affine.{Affine}
use Rattle.affine_forms.specs.Comparisons.{var_form}
use Rattle.affine_forms.specs.Claims.{form_value}
use Rattle.affine_forms.proofs.RowLaws.{same_holds}
use Rattle.preconditions.specs.transformer_algebra.declared.transformer.Transformer.{Transformer}
use Rattle.preconditions.specs.transformer_algebra.Cells.{has}
use Rattle.preconditions.specs.transformer_algebra.Claims.{Scene, AtStart, AtEnd, Means, Does}
use Rattle.preconditions.proofs.TransformerAlgebra.CellLaws.{right_in}
use Rattle.preconditions.specs.call_translation.Common.{tracked_at}
use Rattle.preconditions.specs.call_translation.Actuals.{actual_of, form_in}
use Rattle.preconditions.specs.call_translation.Variables.{auxiliaries_in}
use Rattle.preconditions.specs.call_translation.Call.{CallTree, actual_cell, cell_at, block_cell_at, form_at, cell_or_aux, exit_or_aux, unless_among, exit_of, in_caller, cell_passed_by, names_from, form_row, row_of, rows_from}
use Rattle.preconditions.specs.call_translation.Summary.{exits, summary_vars, named_system, unit_cells, cells_of, summary_in_caller}
use Rattle.preconditions.specs.transformers.Modules.{is_visible_to_callers}
use Rattle.laws_analyses.specs.Calls.Scenes.{outside}
use Rattle.laws_analyses.specs.Calls.Bindings.{NamesCell, Runs}
use Rattle.laws_analyses.proofs.Calls.PointLaws.{lifted, lifted_off, lifted_plain, IsNamed, StandsFor, Named, Filled, filled, found}
use Rattle.laws_analyses.proofs.Calls.TableLaws.{nothing_some}
use Rattle.laws_analyses.proofs.Calls.KeptLaws.{found_unit, kept_call}
use Rattle.preconditions.proofs.CallTranslation.CallerCells.{cells_of_has}

-- ---- what stands for a variable of the callee

-- a cell of the caller at a place of the callee: of a dummy, or in a block
pub record IsShared (c : CallTree) (p : Option Place) (v : ℕ) : Type 0 where
  pub block : List ℕ
  pub offset : ℕ
  pub is : p ≡ Some (Block block offset)
  pub found : tracked_at c.caller block offset ≡ Some v

pub record IsLent (c : CallTree) (p : Option Place) (v : ℕ) : Type 0 where
  pub dummy : ℕ
  pub is : p ≡ Some (Dummy dummy)
  pub names : NamesCell c dummy v

shared_is : (c : CallTree) (p : Option Place) (v : ℕ) → block_cell_at c p ≡ Some v → IsShared c p v
shared_is c None v e = nothing_some v e
shared_is c (Some (Local g o)) v e = nothing_some v e
shared_is c (Some (Dummy m)) v e = nothing_some v e
shared_is c (Some (Block b o)) v e = record { block = b; offset = o; is = refl; found = e }
shared_is c (Some (Constant n)) v e = nothing_some v e

new_is : (passed_by_reference : List ℕ) (o : Option ℕ) (v : ℕ) → unless_among passed_by_reference o ≡ Some v → o ≡ Some v
new_is passed_by_reference None v e = e
new_is passed_by_reference (Some a) v e = go (has passed_by_reference a) e
  where
    go : (b : Bool) → (if b then None else Some a) ≡ Some v → Some a ≡ Some v
    go true k = nothing_some v k
    go false k = k

exit_is : (c : CallTree) (passed_by_reference : List ℕ) (p : Option Place) (v : ℕ) → exit_of c passed_by_reference p ≡ Some v → IsLent c p v ⊎ IsShared c p v
exit_is c passed_by_reference None v e = nothing_some v e
exit_is c passed_by_reference (Some (Local g o)) v e = nothing_some v e
exit_is c passed_by_reference (Some (Dummy m)) v e = inl (record { dummy = m; is = refl; names = new_is passed_by_reference (actual_cell c m) v e })
exit_is c passed_by_reference (Some (Block b o)) v e = inr (record { block = b; offset = o; is = refl; found = e })
exit_is c passed_by_reference (Some (Constant n)) v e = nothing_some v e

is_named : (c : CallTree) (n : ℕ) (passed_by_reference : List ℕ) (vs : List Var) (v : Var) → IsOneOf v vs → IsNamed v (names_from c n passed_by_reference vs)
is_named c n passed_by_reference [] v h = h
is_named c n passed_by_reference (w ∷ vs) v h = ⊎_elim (λ e. inl e) (λ r. inr (is_named c (suc n) (passed_by_reference ++ cell_passed_by c w) vs v r)) h

module _ (c : CallTree) (t : Transformer) (h k : Scene) (x y z w : ℕ → ℤ) (r : Runs c h k x y z w) (d : Does (outside c.symbols k) t y z) where
  abbrev called : Transformer
  called = summary_in_caller c t

  -- the numbers in the callee
  abbrev own : Point
  own (Cell a) = y (k.unit a)
  own (Exit a) = z (k.unit a)
  own (Phi a) = pos 0
  own (Aux a) = pos 0

  abbrev must : Var → Bool
  must (Cell a) = k.tracked a && is_visible_to_callers c.symbols a
  must (Exit a) = (k.tracked a && is_visible_to_callers c.symbols a) && has t.cells a
  must (Phi a) = false
  must (Aux a) = false

  module _ (p : Point) (st : AtStart h x p) (en : AtEnd h called.cells w p) where
    -- a cell of the caller that is a variable of the callee has the same numbers
    cell_is : (a v : ℕ) → h.tracked v ≡ true → k.unit a ≡ h.unit v → p (Cell v) ≡ y (k.unit a)
    cell_is a v u q = st v u ∙ (sym (r.begins.kept.cells v u refl) ∙ ap y (sym q))

    exit_same : (a v : ℕ) → h.tracked v ≡ true → k.unit a ≡ h.unit v → has t.cells a ≡ true → cell_at c (place_at c.symbols a) ≡ Some v → p (Exit v) ≡ z (k.unit a)
    exit_same a v u q i f =
        en v u (right_in (unit_cells c t.foreign) (cells_of c t.cells) v (cells_of_has c t.cells a v i f)) ∙ (r.ends.cells v u refl ∙ ap z (sym q))

    cell_stands : (n a : ℕ) (o : Option ℕ) → block_cell_at c (place_at c.symbols a) ≡ o → StandsFor own p must n (Cell a) (cell_or_aux n o)
    cell_stands n a None e = refl
    cell_stands n a (Some v) e = λ m.
        let s = shared_is c (place_at c.symbols a) v e in
        let u = found_unit c h k r.binds a s.block s.offset v (and_parts (k.tracked a) (is_visible_to_callers c.symbols a) m).0 s.is s.found in
        cell_is a v u.0 u.1

    exit_stands : (n a : ℕ) (passed_by_reference : List ℕ) (o : Option ℕ) → exit_of c passed_by_reference (place_at c.symbols a) ≡ o → StandsFor own p must n (Exit a) (exit_or_aux n o)
    exit_stands n a passed_by_reference None e = refl
    exit_stands n a passed_by_reference (Some v) e = λ m.
        let b = and_parts (k.tracked a && is_visible_to_callers c.symbols a) (has t.cells a) m in
        ⊎_elim
        (λ (s : IsLent c (place_at c.symbols a) v). let u = r.binds.passed_by_reference a s.dummy v s.is s.names in exit_same a v u.0 u.1 b.1 (ap (cell_at c) s.is ∙ s.names))
        (λ (s : IsShared c (place_at c.symbols a) v).
        let u = found_unit c h k r.binds a s.block s.offset v (and_parts (k.tracked a) (is_visible_to_callers c.symbols a) b.0).0 s.is s.found in
        exit_same a v u.0 u.1 b.1 (ap (cell_at c) s.is ∙ s.found))
        (exit_is c passed_by_reference (place_at c.symbols a) v e)

    stands : (n : ℕ) (passed_by_reference : List ℕ) (v : Var) → StandsFor own p must n v (in_caller c n passed_by_reference v)
    stands n passed_by_reference (Cell a) = cell_stands n a (block_cell_at c (place_at c.symbols a)) refl
    stands n passed_by_reference (Exit a) = exit_stands n a passed_by_reference (exit_of c passed_by_reference (place_at c.symbols a)) refl
    stands n passed_by_reference (Phi a) = refl
    stands n passed_by_reference (Aux a) = refl

    named : (n : ℕ) (passed_by_reference : List ℕ) (vs : List Var) → Named own p must n (names_from c n passed_by_reference vs)
    named n passed_by_reference [] = tt
    named n passed_by_reference (v ∷ vs) = (stands n passed_by_reference v, named (suc n) (passed_by_reference ++ cell_passed_by c v) vs)

    -- ---- with auxiliary variables from n on

    module _ (n : ℕ) where
      abbrev ns : List Naming
      ns = names_from c n [] (summary_vars t)

      abbrev q : Point
      q v = lifted own p ns v

      filled_q : Filled own p must q ns
      filled_q = filled own p must n ns (named n [] (summary_vars t))

      -- a point of the summary
      abbrev whole : Point
      whole v = if must v then own v else q (renamed_by ns v)

      whole_start : AtStart (outside c.symbols k) y whole
      whole_start a u = rw u refl

      whole_end : AtEnd (outside c.symbols k) t.cells z whole
      whole_end a u i = rw (and_from (k.tracked a && is_visible_to_callers c.symbols a) (has t.cells a) u i) refl

      agrees : (v : Var) → IsOneOf v (summary_vars t) → whole v ≡ q (renamed_by ns v)
      agrees v i =
          ⊎_elim
          (λ e. rw e (sym (found own p must q n ns v (named n [] (summary_vars t)) filled_q (λ u f. lifted_plain own p ns u f) e (is_named c n [] (summary_vars t) v i))))
          (λ e. rw e refl)
          (cases_Bool (must v))

      -- ---- rows of dummies

      q_start : AtStart h x q
      q_start v u = lifted_plain own p ns (Cell v) (λ i. i) ∙ st v u

      form_holds : (m a : ℕ) (f : Option Affine) → q (Aux m) ≡ y (k.unit a) → Means h f x (y (k.unit a)) → HoldsAll q (form_row (Aux m) f)
      form_holds m a None e g = tt
      form_holds m a (Some f) e g = (same_holds (var_form (Aux m)) f q (let s : q (Aux m) ≡ form_value q f = e ∙ sym (g q q_start) in omega (arith, ints, s)), tt)

      place_holds : (m a : ℕ) (o : Option Place) → place_at c.symbols a ≡ o → (block_cell_at c o ≡ None → q (Aux m) ≡ y (k.unit a)) → HoldsAll q (form_row (Aux m) (form_at c o))
      place_holds m a None e f = tt
      place_holds m a (Some (Local g o)) e f = tt
      place_holds m a (Some (Dummy b)) e f = form_holds m a (form_in c.caller (actual_of c.actuals b)) (f refl) (r.begins.values a b e)
      place_holds m a (Some (Block b o)) e f = tt
      place_holds m a (Some (Constant b)) e f = tt

      row_holds : (m : ℕ) (passed_by_reference : List ℕ) (v : Var) → ((j : ℕ) → in_caller c m passed_by_reference v ≡ Aux j → q (Aux j) ≡ own v) → HoldsAll q (row_of c m v)
      row_holds m passed_by_reference (Cell a) f = place_holds m a (place_at c.symbols a) refl (λ e. f m (ap (cell_or_aux m) e))
      row_holds m passed_by_reference (Exit a) f = tt
      row_holds m passed_by_reference (Phi a) f = tt
      row_holds m passed_by_reference (Aux a) f = tt

      rows_hold : (m : ℕ) (passed_by_reference : List ℕ) (vs : List Var) → Filled own p must q (names_from c m passed_by_reference vs) → HoldsAll q (rows_from c m vs)
      rows_hold m passed_by_reference [] f = tt
      rows_hold m passed_by_reference (v ∷ vs) f = (append_all q (row_of c m v) (rows_from c (suc m) vs)).0 (row_holds m passed_by_reference v f.0, rows_hold (suc m) (passed_by_reference ++ cell_passed_by c v) vs f.1)

      renamed_holds : HoldsAll q (rename_all ns t.system).rows
      renamed_holds =
          rename_all_holds ns t.system q
          (agree_hold whole (λ v. q (renamed_by ns v)) (summary_vars t) t.system.rows agrees (rows_covered (with_vars [] (exits t.cells)) t.system.rows) (d.relates whole whole_start whole_end))

      system_holds : HoldsAll p (named_system c n ns t).rows
      system_holds =
          project_keeps (push_rows (rename_all ns t.system) (rows_from c n (summary_vars t))) (auxiliaries_in ns) q p (λ v f. sym (lifted_off own p ns v f))
          (push_rows_holds (rename_all ns t.system) (rows_from c n (summary_vars t)) q renamed_holds (rows_hold n [] (summary_vars t) filled_q))

  pub does_call : Does h called x w
  does_call = record { relates = λ p st en. system_holds p st en (above_rows 0 t.system.rows); kept = kept_call c t h k x y z w r d.kept }
