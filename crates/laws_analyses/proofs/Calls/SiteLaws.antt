-- What holds at a CALL holds where the module is entered from there.
use Rattle.std.proofs.Common.{◌≡◌, ℕ, suc, List, [], ◌∷◌, map, Option, Some, None, Bool, true, false, refl, sym, ap, ◌∙◌, arith, ℤ, pos, inl, inr, ⊎_elim}
use Rattle.std.specs.Prelude.{if◌then◌else◌}
use Rattle.std.proofs.lemmas.Bool.{and_from, cases_Bool}
use Rattle.std.proofs.lemmas.Int.{ints}
use Rattle.affine_systems.specs.declared.row.Var.{Var}
use Rattle.affine_systems.specs.declared.row.Var.TheVariants.{Cell, Exit, Phi, Aux}
use Rattle.affine_systems.specs.declared.row.Row.{Row}
use Rattle.affine_systems.specs.Points.{Point, HoldsAll}
use Rattle.affine_systems.specs.Rows.{renamed_row}
use Rattle.affine_systems.proofs.CallLaws.{append_all, renamed_same}
use Rattle.hull_projection.specs.Variables.{with_rows}
use Rattle.hull_projection.specs.Laws.{IsOneOf}
use Rattle.hull_projection.proofs.ProjectLaws.{project_keeps}
use Rattle.hull_projection.proofs.VarLaws.{rows_covered, rows_more, kept-rows}
use Rattle.hull_projection.proofs.LiftLaws.{agree_hold}
use Rattle.f77_ast.specs.declared.symbol.Place.{Place}
use Rattle.f77_ast.specs.declared.symbol.Place.TheVariants.{Local, Dummy, Block, Constant}
use Rattle.f77_ast.specs.Symbols.{SymbolTree}
use Rattle.f77_ast.specs.Shared.{symbol_at, place_of, place_at}
use Rattle.preconditions.specs.transformer_algebra.declared.naming.Naming.{Naming}
use Rattle.preconditions.specs.transformer_algebra.Renaming.{renamed_by, rename_all, push_rows}
use Rattle.preconditions.specs.transformer_algebra.Fresh.{above_rows}
use Rattle.preconditions.proofs.TransformerAlgebra.KeepLaws.{rename_all_holds, push_rows_holds}
use Rattle.affine_forms.specs.declared.affine.Affine.{Affine}
use Rattle.affine_forms.specs.Scalars.{is_cell}
use Rattle.affine_forms.specs.Comparisons.{var_form}
use Rattle.affine_forms.specs.Claims.{form_value}
use Rattle.affine_forms.proofs.RowLaws.{same_holds}
use Rattle.tracked_cells.specs.Standing.{is_int_scalar}
use Rattle.tracked_cells.specs.Scalars.{unit}
use Rattle.preconditions.specs.transformer_algebra.Claims.{Scene, AtStart, HoldsAt, Means}
use Rattle.preconditions.specs.call_translation.Scopes.{ScopeTree}
use Rattle.preconditions.specs.call_translation.Common.{tracked_at}
use Rattle.preconditions.specs.call_translation.Actuals.{actual_of, form_in}
use Rattle.preconditions.specs.call_translation.Variables.{auxiliaries_in}
use Rattle.preconditions.specs.call_translation.Sites.{HoldingSite}
use Rattle.preconditions.specs.call_translation.SiteEntry.{row_for, form_at, row_of, rows_from, same_unit, kept_cell, or_aux, in_callee, names_from, named_entry, site_entry}
use Rattle.preconditions.specs.transformers.Modules.{is_seen, is_visible_to_callers}
use Rattle.laws_analyses.specs.Calls.Scenes.{outside, IsInBlock}
use Rattle.laws_analyses.specs.Calls.Entries.{Enters}
use Rattle.laws_analyses.proofs.Calls.PointLaws.{lifted, lifted_off, lifted_plain, IsNamed, StandsFor, Named, filled, found}
use Rattle.laws_analyses.proofs.Calls.TableLaws.{nothing_some, IsRest, whole_rest, next_rest, first_rest, tracked_at_cell}

-- a cell of the callee that is a cell of the caller
pub record IsKept (s : ScopeTree) (c : HoldingSite) (v e : ℕ) : Type 0 where
  pub block : List ℕ
  pub offset : ℕ
  pub is : IsInBlock c.caller.symbols v block offset
  pub found : tracked_at s block offset ≡ Some e

unit_same : (s : ScopeTree) (p : Option Place) (e : ℕ) → same_unit s p ≡ Some e → (b : List ℕ) × (o : ℕ) × (p ≡ Some (Block b o)) × (tracked_at s b o ≡ Some e)
unit_same s None e h = nothing_some e h
unit_same s (Some (Local g o)) e h = nothing_some e h
unit_same s (Some (Dummy d)) e h = nothing_some e h
unit_same s (Some (Block b o)) e h = (b, o, refl, h)
unit_same s (Some (Constant k)) e h = nothing_some e h

kept_is : (s : ScopeTree) (c : HoldingSite) (v e : ℕ) → kept_cell s c v ≡ Some e → IsKept s c v e
kept_is s c v e = go (is_cell c.caller.tracked v)
  where
    go : (b : Bool) → (if b then same_unit s (place_at c.caller.symbols v) else None) ≡ Some e → IsKept s c v e
    go true h = let u = unit_same s (place_at c.caller.symbols v) e h in record { block = u.0; offset = u.1; is = u.2; found = u.3 }
    go false h = nothing_some e h

is_named : (s : ScopeTree) (c : HoldingSite) (n : ℕ) (vs : List Var) (v : Var) → IsOneOf v vs → IsNamed v (names_from s c n vs)
is_named s c n [] v h = h
is_named s c n (w ∷ vs) v h = ⊎_elim (λ e. inl e) (λ r. inr (is_named s c (suc n) vs v r)) h

module _ (s : ScopeTree) (c : HoldingSite) (h k : Scene) (x y : ℕ → ℤ) (r : Enters s c h k x y) where
  module _ (p : Point) (st : AtStart (outside s.symbols k) y p) where
    -- the numbers in the caller, and those of the dummies
    abbrev own : Point
    own (Cell a) = x (h.unit a)
    own (Exit a) = p (Cell a)
    own (Phi a) = pos 0
    own (Aux a) = pos 0

    abbrev must : Var → Bool
    must (Cell a) = h.tracked a
    must (Exit a) = true
    must (Phi a) = false
    must (Aux a) = false

    cell_stands : (n a : ℕ) (o : Option ℕ) → kept_cell s c a ≡ o → StandsFor own p must n (Cell a) (or_aux n o)
    cell_stands n a None e = refl
    cell_stands n a (Some b) e = λ u.
        let f = kept_is s c a b e in
        let g = tracked_at_cell s f.block f.offset b f.found in
        let v : k.tracked b ≡ true = r.callee.tracked b ∙ g.0 in
        let i : k.unit b ≡ h.unit a = r.callee.blocks b f.block f.offset v g.1 ∙ (r.binds.places (unit f.block f.offset) ∙ sym (r.binds.caller.blocks a f.block f.offset u f.is)) in
        st b (and_from (k.tracked b) (is_visible_to_callers s.symbols b) v (ap is_seen g.1)) ∙ (ap y i ∙ r.begins.kept.cells a u refl)

    stands : (n : ℕ) (v : Var) → StandsFor own p must n v (in_callee s c n v)
    stands n (Cell a) = cell_stands n a (kept_cell s c a) refl
    stands n (Exit a) = λ u. refl
    stands n (Phi a) = refl
    stands n (Aux a) = refl

    named : (n : ℕ) (vs : List Var) → Named own p must n (names_from s c n vs)
    named n [] = tt
    named n (v ∷ vs) = (stands n v, named (suc n) vs)

    module _ (n : ℕ) (hold : HoldsAt h c.value x) where
      abbrev rs : List Row
      rs = rows_from c 1 s.symbols

      abbrev vs : List Var
      vs = with_rows (with_rows [] c.value.rows) rs

      abbrev ns : List Naming
      ns = names_from s c n vs

      abbrev q : Point
      q v = lifted own p ns v

      -- a point of what holds at the CALL
      abbrev whole : Point
      whole v = if must v then own v else q (renamed_by ns v)

      whole_start : AtStart h x whole
      whole_start a u = rw u refl

      agrees : (v : Var) → IsOneOf v vs → whole v ≡ q (renamed_by ns v)
      agrees v i =
          ⊎_elim
          (λ e. rw e (sym (found own p must q n ns v (named n vs) (filled own p must n ns (named n vs)) (λ u f. lifted_plain own p ns u f) e (is_named s c n vs v i))))
          (λ e. rw e refl)
          (cases_Bool (must v))

      -- ---- rows of dummies

      form_holds : (m : ℕ) (f : Option Affine) → p (Cell m) ≡ y (k.unit m) → Means h f x (y (k.unit m)) → HoldsAll whole (row_for m f)
      form_holds m None e g = tt
      form_holds m (Some f) e g = (same_holds (var_form (Exit m)) f whole (let i : whole (Exit m) ≡ form_value whole f = e ∙ sym (g whole whole_start) in omega (arith, ints, i)), tt)

      place_holds : (m : ℕ) (v : SymbolTree) (o : Place) → symbol_at s.symbols m ≡ Some v → is_int_scalar v ≡ true → v.place ≡ o → HoldsAll whole (row_for m (form_at c o))
      place_holds m v (Local g o) e i f = tt
      place_holds m v (Dummy d) e i f =
          let a : place_at s.symbols m ≡ Some (Dummy d) = ap place_of e ∙ ap (λ j. Some j) f in
          form_holds m (form_in c.caller (actual_of c.actuals d)) (st m (and_from (k.tracked m) (is_visible_to_callers s.symbols m) (r.dummies m d v e i f) (ap is_seen a))) (r.begins.values m d a)
      place_holds m v (Block b o) e i f = tt
      place_holds m v (Constant d) e i f = tt

      row_holds : (m : ℕ) (v : SymbolTree) → symbol_at s.symbols m ≡ Some v → HoldsAll whole (row_of c m v)
      row_holds m v e = go (is_int_scalar v) refl
        where
          go : (b : Bool) → is_int_scalar v ≡ b → HoldsAll whole (row_for m (if b then form_at c v.place else None))
          go true i = place_holds m v v.place e i refl
          go false i = tt

      rows_hold : (m : ℕ) (ss : List SymbolTree) → IsRest m ss s.symbols → HoldsAll whole (rows_from c m ss)
      rows_hold m [] e = tt
      rows_hold m (v ∷ ss) e =
          (append_all whole (row_of c m v) (rows_from c (suc m) ss)).0 (row_holds m v (first_rest m v ss s.symbols e), rows_hold (suc m) ss (next_rest m v ss s.symbols e))

      -- ---- the entry

      renamed_holds : HoldsAll q (rename_all ns c.value).rows
      renamed_holds =
          rename_all_holds ns c.value q
          (agree_hold whole (λ v. q (renamed_by ns v)) vs c.value.rows agrees (rows_more (with_rows [] c.value.rows) vs c.value.rows (λ u i. kept-rows u (with_rows [] c.value.rows) rs i) (rows_covered [] c.value.rows)) (hold whole whole_start))

      dummies_hold : HoldsAll q (map (renamed_row (renamed_by ns)) rs)
      dummies_hold =
          (renamed_same q (renamed_by ns) rs).0
          (agree_hold whole (λ v. q (renamed_by ns v)) vs rs agrees (rows_covered (with_rows [] c.value.rows) rs) (rows_hold 1 s.symbols (whole_rest s.symbols)))

      entry_holds : HoldsAll p (named_entry ns c.value rs).rows
      entry_holds =
          project_keeps (push_rows (rename_all ns c.value) (map (renamed_row (renamed_by ns)) rs)) (auxiliaries_in ns) q p (λ v f. sym (lifted_off own p ns v f))
          (push_rows_holds (rename_all ns c.value) (map (renamed_row (renamed_by ns)) rs) q renamed_holds dummies_hold)

  pub holds_site : HoldsAt h c.value x → HoldsAt (outside s.symbols k) (site_entry s c) y
  holds_site hold p st = entry_holds p st (above_rows 0 c.value.rows) hold
