-- A system that names none of some cells says without them what it says.
use Rattle.std.proofs.Common.{◌≡◌, ⊎_elim, inl, inr, ℕ, suc, pos, List, [], ◌∷◌, Bool, true, false, refl, sym, ap, ◌∙◌, subst, true≢false, int_eq}
use Rattle.std.specs.Prelude.{if◌then◌else◌, not}
use Rattle.std.proofs.lemmas.Bool.{or_parts, or_from}
use Rattle.affine_systems.specs.declared.row.Var.{Var}
use Rattle.affine_systems.specs.declared.row.Var.TheVariants.{Cell}
use Rattle.affine_systems.specs.declared.row.Row.{Row}
use Rattle.affine_systems.specs.declared.row.System.{System}
use Rattle.affine_systems.specs.Points.{Point, HoldsAll, occurs}
use Rattle.affine_systems.specs.Items.{items_from, rows_of, cut_at}
use Rattle.affine_systems.specs.Eliminate.{unchanged, any_has, is_unit_on, by_unit, eliminate}
use Rattle.affine_systems.proofs.FitLaws.{rows_of-items_from}
use Rattle.affine_systems.proofs.LackLaws.{factor-only}
use Rattle.hull_projection.specs.declared.projection.Shadow.{Shadow}
use Rattle.hull_projection.specs.Laws.{IsOneOf}
use Rattle.hull_projection.specs.Variables.{in_order}
use Rattle.hull_projection.specs.Project.{shadow, shadow_after, eliminate_each}
use Rattle.hull_projection.proofs.CleanLaws.{clean_same}
use Rattle.hull_projection.proofs.ProjectLaws.{in_order-from, project_keeps}
use Rattle.preconditions.specs.transformer_algebra.Halves.{cell_vars}
use Rattle.preconditions.specs.transformer_algebra.Transformers.{without}
use Rattle.in_out_regions.specs.region_sets.Naming.{in_terms, in_rows, named_cells, has_none}
use Rattle.in_out_regions.proofs.RegionSets.NilLaws.{off_terms}

absent_row : (v : Var) (r : Row) → in_terms v r.terms ≡ false → occurs v r ≡ false
absent_row v r h = ap (λ n. not (int_eq n (pos 0))) (factor-only v r.terms ∙ off_terms v r.terms h)

none_has : (v : Var) (n : ℕ) (rs : List Row) → in_rows v rs ≡ false → any_has v (items_from n rs) ≡ false
none_has v n [] h = refl
none_has v n (r ∷ rs) h =
    let k = or_parts (in_terms v r.terms) (in_rows v rs) h in
    or_from (occurs v r) (any_has v (items_from (suc n) rs)) (absent_row v r k.0) (none_has v (suc n) rs k.1)

absent_rows : (s : System) (v : Var) → in_rows v s.rows ≡ false → (eliminate s v).system.rows ≡ s.rows
absent_rows s v h =
    let is = items_from 0 s.rows in
    ap (λ b. rows_of (if b then by_unit false v (items_from 0 s.rows) (cut_at (is_unit_on v) (items_from 0 s.rows)) else unchanged (items_from 0 s.rows)).items) (none_has v 0 s.rows h)
    ∙ rows_of-items_from 0 s.rows

each_absent : (s : Shadow) (vs : List Var) → ((v : Var) → IsOneOf v vs → in_rows v s.system.rows ≡ false) → (eliminate_each s vs).system.rows ≡ s.system.rows
each_absent s [] h = refl
each_absent s (v ∷ vs) h =
    let e = absent_rows s.system v (h v (inl refl)) in
    each_absent (shadow_after s (eliminate s.system v)) vs (λ w i. ap (in_rows w) e ∙ h w (inr i)) ∙ e

named_none : (cs : List ℕ) (s : System) → has_none (named_cells cs s) ≡ true → (v : Var) → IsOneOf v (cell_vars cs) → in_rows v s.rows ≡ false
named_none [] s h v i = absurd i
named_none (c ∷ cs) s h v i = go (in_rows (Cell c) s.rows) refl h (λ k j. named_none cs s k v j)
  where
    go : (b : Bool) → in_rows (Cell c) s.rows ≡ b → has_none (if b then c ∷ named_cells cs s else named_cells cs s) ≡ true → (has_none (named_cells cs s) ≡ true → IsOneOf v (cell_vars cs) → in_rows v s.rows ≡ false) → in_rows v s.rows ≡ false
    go true e k ih = absurd (true≢false (sym k))
    go false e k ih = ⊎_elim (λ q. ap (λ w. in_rows w s.rows) q ∙ e) (λ j. ih k j) i

pub without_back : (cs : List ℕ) (s : System) (p : Point) → has_none (named_cells cs s) ≡ true → HoldsAll p (without cs s).rows → HoldsAll p s.rows
without_back cs s p h k =
    subst (HoldsAll p) (each_absent (shadow s true) (in_order (cell_vars cs)) (λ v i. named_none cs s h v (in_order-from v (cell_vars cs) i)))
    ((clean_same p (eliminate_each (shadow s true) (in_order (cell_vars cs))).system).1 k)

pub without_keeps : (cs : List ℕ) (s : System) (p : Point) → HoldsAll p s.rows → HoldsAll p (without cs s).rows
without_keeps cs s p h = project_keeps s (cell_vars cs) p p (λ w n. refl) h
