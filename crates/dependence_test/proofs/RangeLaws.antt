-- An iteration of a DO changes no other cells than those that are known of its body.
use Rattle.std.proofs.Common.{◌≡◌, ℕ, List, [], ◌∷◌, ◌||◌, Bool, true, false, refl, ◌∙◌, nat_eq}
use Rattle.std.specs.Prelude.{if◌then◌else◌}
use Rattle.affine_systems.specs.declared.row.System.{System}
use Rattle.f77_ast.specs.Trees.{LoopTree}
use Rattle.f77_ast.specs.Trees as tree
use Rattle.preconditions.specs.transformer_algebra.declared.loop_parts.LoopParts.{LoopParts}
use Rattle.preconditions.specs.transformer_algebra.Cells.{has, joined_cells}
use Rattle.preconditions.specs.transformer_algebra.Loops.{own_cells, iteration}
use Rattle.preconditions.proofs.TransformerAlgebra.CellLaws.{has-joined, left_out, right_out, right_in}
use Rattle.region_sets.specs.declared.region.Region.{Region}
use Rattle.dependence_test.specs.Body.{changed_cells, with_parts, parts_of}
use Rattle.dependence_test.specs.Claims.{IsRange, range_with, HasRange}
use Rattle.fx_lists.proofs.Numbers.{nat_eq_same}

neither : (cs ds : List ℕ) (c : ℕ) → has cs c ≡ false → has ds c ≡ false → has (joined_cells cs ds) c ≡ false
neither cs ds c e f = has-joined cs ds c ∙ both (has cs c) (has ds c) e f
  where
    both : (a b : Bool) → a ≡ false → b ≡ false → (a || b) ≡ false
    both a b p q = rw p (rw q refl)

own_out : (l : LoopParts) (c : ℕ) → has (l.index ∷ []) c ≡ false → has (own_cells l) c ≡ false
own_out l c e = go l.tracked
  where
    go : (t : Bool) → has (if t then l.index ∷ [] else []) c ≡ false
    go true = e
    go false = refl

iteration_out : (l : LoopParts) (c : ℕ) → has (changed_cells l) c ≡ false → has (iteration l).cells c ≡ false
iteration_out l c e = neither l.body.cells (own_cells l) c (left_out l.body.cells (l.index ∷ []) c e) (own_out l c (right_out l.body.cells (l.index ∷ []) c e))

is_own : (l : LoopParts) → has (changed_cells l) l.index ≡ true
is_own l = right_in l.body.cells (l.index ∷ []) l.index (one (nat_eq l.index l.index) (nat_eq_same l.index))
  where
    one : (b : Bool) → b ≡ true → (b || false) ≡ true
    one b e = rw e refl

parts_range : (l : LoopParts) (s : System) (rs : List Region) → IsRange (with_parts l s rs) (range_with l)
parts_range l s rs = record { index = refl; step = refl; cells = λ c e. iteration_out l c e; own = is_own l }

pub has_range : HasRange
has_range (tree.loop index first last step body) m t ps f = parts_range (parts_of (tree.loop index first last step body) m t) _ _
