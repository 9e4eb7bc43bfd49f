-- What later iterations of a DO may read first, as it is where an earlier one begins.
use Rattle.std.proofs.Common.{◌≡◌, ℕ, ◌<◌, List, [], ◌∷◌, map, ◌&&◌, Bool, true, false, refl, sym, ap, ◌∙◌, subst, ℤ, nat_eq, Option, Some, None}
use Rattle.std.specs.Prelude.{if◌then◌else◌}
use Rattle.std.proofs.lemmas.Bool.{and_parts}
use Rattle.affine_systems.specs.declared.row.Var.TheVariants.{Cell, Aux}
use Rattle.affine_systems.specs.declared.row.System.{System}
use Rattle.affine_systems.specs.Points.{Point, HoldsAll}
use Rattle.affine_systems.specs.Tidy.{is_unit}
use Rattle.hull_projection.proofs.ProjectLaws.{project_keeps}
use Rattle.preconditions.specs.transformer_algebra.Renaming.{naming, renamed_by, rename_all, push_rows}
use Rattle.preconditions.proofs.TransformerAlgebra.KeepLaws.{rename_all_holds, push_rows_holds}
use Rattle.affine_forms.specs.declared.affine.Affine.{Affine}
use Rattle.affine_forms.specs.Claims.{form_value}
use Rattle.affine_forms.specs.Comparisons.{var_form}
use Rattle.preconditions.specs.transformer_algebra.Cells.{has, others}
use Rattle.preconditions.specs.transformer_algebra.Loops.{goes_up, stays}
use Rattle.preconditions.specs.transformer_algebra.Transformers.{without}
use Rattle.preconditions.specs.transformer_algebra.Claims.{Scene, AtStart, Means, NotBeyond, Kept}
use Rattle.preconditions.proofs.TransformerAlgebra.TurnLaws.{kept_chain}
use Rattle.in_out_regions.specs.region_sets.declared.range.Range.{Range}
use Rattle.in_out_regions.specs.region_sets.declared.region.Access.{Access}
use Rattle.in_out_regions.specs.region_sets.declared.region.Region.{Region}
use Rattle.in_out_regions.specs.region_sets.Naming.{named_cells, has_none}
use Rattle.in_out_regions.specs.region_sets.Claims.{AreNumbers, HasCells, Describes, DescribedBy, Places, LiesInSet, Iteration, Begins}
use Rattle.in_out_regions.proofs.RegionSets.DescribedLaws.{at_start, moved, moved_cells, moved_are}
use Rattle.in_out_regions.proofs.RegionSets.NameLaws.{rows_agree}
use Rattle.in_out_regions.proofs.RegionSets.StepLaws.{in_map, forgotten_describes}
use Rattle.in_out_regions.specs.Loops.{is_one_step}
use Rattle.loop_marker.specs.out_regions.Later.{later_from, later_rows_by, later_rows, is_steady, later_index, later_piece, later, all_later}
use Rattle.laws_marks.proofs.Indices.{Before, beyond_so, unit_before, unchanged, form_stays}
use Rattle.laws_marks.proofs.InEarlier.{with_earlier, earlier_vars, earlier_off, begun_at, named_alike}
use Rattle.in_out_regions.proofs.RegionSets.LoopLaws.{within_holds as within_so}
use Rattle.in_out_regions.proofs.ArrayRegions.Exact.{var_value}
use Rattle.fx_lists.proofs.Numbers.{same_is as nat_same}

module _ (m : Scene) (g : Range) (x : ℕ → ℤ) (a b : ℤ) (bg : Begins m g x a b) (tracked : Bool) (is_tracked : m.tracked g.index ≡ tracked) where
  -- one iteration, and a later one
  module _ (n r : ℤ) (i j : ℕ) (y z : ℕ → ℤ) (it : Iteration m g x a b n i y) (jt : Iteration m g x a b r j z) (before : i < j) where
    pub kept_between : Kept m g.turn.cells g.turn.foreign y z
    kept_between = record {
      cells = λ c t h. unchanged m g x a b bg r j z jt c t h ∙ sym (unchanged m g x a b bg n i y it c t h);
      foreign = λ u f h. ((kept_chain m g.turn jt.begin z jt.chain).foreign u f h ∙ jt.wrote.foreign u f) ∙ sym ((kept_chain m g.turn it.begin y it.chain).foreign u f h ∙ it.wrote.foreign u f);
    }

    -- the index of the later one; where it is not analysed, any number
    abbrev number_then : (ℕ → ℤ) → ℤ
    number_then o = moved m g.turn.cells z o g.index

    then_is : (o : ℕ → ℤ) → m.tracked g.index ≡ true → r ≡ number_then o
    then_is o t = sym (ap (λ (h : Bool). if h then z (m.unit g.index) else o g.index) (bg.index t) ∙ jt.number)

    -- it stands in Aux(2)
    rows_hold : is_one_step g.step ≡ true → stays g.turn.cells g.last ≡ true → (o : ℕ → ℤ) (p : Point) → AtStart m y p → HoldsAll (with_earlier (number_then o) p) (later_rows tracked g)
    rows_hold one st o p at = go tracked is_tracked
      where
        forms : (s : ℤ) (l : Affine) → g.step ≡ Some s → is_unit s ≡ true → g.last ≡ Some l → p (Cell g.index) ≡ n → HoldsAll (with_earlier r p) (later_from s g.index l)
        forms s l q u e h = (
          beyond_so s (var_form (Aux 2)) (var_form (Cell g.index)) (with_earlier r p)
              (subst (λ w. Before (goes_up s) w (form_value (with_earlier r p) (var_form (Aux 2)))) (sym (var_value (Cell g.index) (with_earlier r p) ∙ h)) (subst (λ w. Before (goes_up s) n w) (sym (var_value (Aux 2) (with_earlier r p))) (unit_before s a n r i j u before (it.range s q).place (jt.range s q).place))),
          (
            within_so s (var_form (Aux 2)) l (with_earlier r p)
                (subst (λ w. NotBeyond (goes_up s) w (form_value (with_earlier r p) l)) (sym (var_value (Aux 2) (with_earlier r p)))
                (subst (λ w. NotBeyond (goes_up s) r w) (sym (form_stays m g x a b bg l b (ap (stays g.turn.cells) (sym e) ∙ st) (subst (λ o. Means m o x b) e bg.last) n i y it (with_earlier r p) (λ c t. at c t))) (jt.range s q).before_last)),
            tt,
          ),
        )

        by_last : (s : ℤ) (o : Option Affine) → g.step ≡ Some s → is_unit s ≡ true → g.last ≡ o → p (Cell g.index) ≡ n → HoldsAll (with_earlier r p) (later_rows_by (Some s) g.index o)
        by_last s None q u e h = tt
        by_last s (Some l) q u e h = forms s l q u e h

        by_step : (o : Option ℤ) → g.step ≡ o → is_one_step o ≡ true → p (Cell g.index) ≡ n → HoldsAll (with_earlier r p) (later_rows_by o g.index g.last)
        by_step None q u h = tt
        by_step (Some s) q u h = by_last s g.last q u refl h

        go : (t : Bool) → m.tracked g.index ≡ t → HoldsAll (with_earlier (number_then o) p) (if t then later_rows_by g.step g.index g.last else [])
        go false e = tt
        go true e = subst (λ (w : ℤ). HoldsAll (with_earlier w p) (later_rows_by g.step g.index g.last)) (then_is o e) (by_step g.step refl one (at g.index e ∙ it.number))

    -- the numbers of all cells at the later one
    cells_then : (o : ℕ → ℤ) (p : Point) → HasCells o p → HasCells (moved m g.turn.cells z o) (begun_at m g x a b bg (number_then o) z (with_earlier (number_then o) p))
    cells_then o p h c = go (nat_eq g.index c) refl
      where
        go : (i : Bool) → nat_eq g.index c ≡ i → (if i then number_then o else if has g.turn.cells c then z (m.unit c) else p (Cell c)) ≡ moved m g.turn.cells z o c
        go true e = ap (λ (k : ℕ). moved m g.turn.cells z o k) (nat_same g.index c e)
        go false e = moved_cells m g.turn.cells z o p h c

    piece_describes : (s : System) (o phi : ℕ → ℤ) → AreNumbers m y o → Describes s (moved m g.turn.cells z o) phi → Describes (later_piece tracked g s) o phi
    piece_describes s o phi are d = go (is_steady g s) refl
      where
        turned : is_steady g s ≡ true → Describes (later_index tracked g s) o phi
        turned e p h ph =
            let w = number_then o in
            let c = and_parts (is_one_step g.step) (stays g.turn.cells g.last && has_none (named_cells (others g.turn.cells (g.index ∷ [])) s)) e in
            let f = and_parts (stays g.turn.cells g.last) (has_none (named_cells (others g.turn.cells (g.index ∷ [])) s)) c.1 in
            project_keeps (push_rows (rename_all (naming (Cell g.index) (Aux 2) ∷ []) s) (later_rows tracked g)) earlier_vars (with_earlier w p) p (λ v k. earlier_off w p v k)
            (push_rows_holds (rename_all (naming (Cell g.index) (Aux 2) ∷ []) s) (later_rows tracked g) (with_earlier w p)
            (rename_all_holds (naming (Cell g.index) (Aux 2) ∷ []) s (with_earlier w p)
            (rows_agree s.rows (begun_at m g x a b bg w z (with_earlier w p)) (λ v. with_earlier w p (renamed_by (naming (Cell g.index) (Aux 2) ∷ []) v)) (named_alike m g x a b bg s w z (with_earlier w p) f.1 refl)
            (d (begun_at m g x a b bg w z (with_earlier w p)) (cells_then o p h) (λ k. ph k))))
            (rows_hold c.0 f.0 o p (at_start m y o p are h)))

        go : (t : Bool) → is_steady g s ≡ t → Describes (if t then later_index tracked g s else without g.turn.cells s) o phi
        go true e = turned e
        go false e = forgotten_describes m g.turn.cells s z o phi d

    pub later_lies : (at : Places) (rs : List Region) (k : Access) (u : ℕ) → LiesInSet m at k rs z u → LiesInSet m at k (all_later tracked g rs) y u
    later_lies at rs k u l = record {
      region = later tracked g l.region;
      is_one = in_map (later tracked g) l.region rs l.is_one;
      kind = l.kind;
      lies = record { phi = l.lies.phi; there = l.lies.there; described = λ o e. later_by o e (l.lies.described (moved m g.turn.cells z o) (moved_are m g.turn.cells g.turn.foreign y z o kept_between e)) };
    }
      where
        later_by : (o : ℕ → ℤ) → AreNumbers m y o → DescribedBy l.region.pieces (moved m g.turn.cells z o) l.lies.phi → DescribedBy (map (later_piece tracked g) l.region.pieces) o l.lies.phi
        later_by o e d = record { piece = later_piece tracked g d.piece; is_one = in_map (later_piece tracked g) d.piece l.region.pieces d.is_one; holds = piece_describes d.piece o l.lies.phi e d.holds }
