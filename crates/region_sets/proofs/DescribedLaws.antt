-- Subscripts that pieces describe, at the numbers of all cells.
use Rattle.std.proofs.Common.{◌≡◌, ℕ, ℤ, pos, List, [], ◌∷◌, Bool, true, false, refl, sym, ap, ◌∙◌}
use Rattle.std.specs.Prelude.{if◌then◌else◌}
use Rattle.affine_systems.specs.declared.row.Var.{Var}
use Rattle.affine_systems.specs.declared.row.Var.TheVariants.{Cell, Exit, Phi, Aux}
use Rattle.affine_systems.specs.declared.row.System.{System}
use Rattle.affine_systems.specs.Points.{Point, HoldsAll}
use Rattle.f77_ast.specs.declared.variable.Unit.{Unit as BlockUnit}
use Rattle.transformers.specs.transformer_algebra.Cells.{has}
use Rattle.transformers.specs.transformer_algebra.Laws.{In, here}
use Rattle.transformers.specs.transformer_algebra.Claims.{Scene, AtStart, Kept}
use Rattle.region_sets.specs.Claims.{HasSubscripts, AreNumbers, HasCells, DescribedBy}

-- a point with these numbers of the cells and these subscripts
abbrev pub arrival : (ℕ → ℤ) → (ℕ → ℤ) → Var → ℤ
arrival n phi (Cell c) = n c
arrival n phi (Exit c) = pos 0
arrival n phi (Phi k) = phi k
arrival n phi (Aux j) = pos 0

-- the numbers of the units, also of cells that are not tracked
abbrev pub stored : Scene → (ℕ → ℤ) → ℕ → ℤ
stored m x c = x (m.unit c)

pub at_start : (m : Scene) (x n : ℕ → ℤ) (p : Point) → AreNumbers m x n → HasCells n p → AtStart m x p
at_start m x n p a h c t = h c ∙ a c t

-- ---- one piece for all numbers

-- a piece that describes the subscripts at each point with the numbers of the tracked cells
pub by_piece :
    (m : Scene) (x phi : ℕ → ℤ) (s : System) (ss : List System) → In s ss → ((p : Point) → AtStart m x p → HasSubscripts phi p → HoldsAll p s.rows) →
    (n : ℕ → ℤ) → AreNumbers m x n → DescribedBy ss n phi
by_piece m x phi s ss i d n a = record { piece = s; is_one = i; holds = λ p h ph. d p (at_start m x n p a h) ph }

-- the piece of a region that has no other
pub by_only : (m : Scene) (x phi : ℕ → ℤ) (s : System) → ((p : Point) → AtStart m x p → HasSubscripts phi p → HoldsAll p s.rows) → (n : ℕ → ℤ) → AreNumbers m x n → DescribedBy (s ∷ []) n phi
by_only m x phi s d n a = by_piece m x phi s (s ∷ []) here d n a

pub none_by : {B : Type 0} (n phi : ℕ → ℤ) → DescribedBy [] n phi → B
none_by n phi d = elim d.is_one [ ]

-- ---- where some cells change

-- those have the numbers afterwards, the others stay
abbrev pub moved : Scene → List ℕ → (ℕ → ℤ) → (ℕ → ℤ) → ℕ → ℤ
moved m cs y n c = if has cs c then y (m.unit c) else n c

-- a point where they have moved
pub moved_cells : (m : Scene) (cs : List ℕ) (y n : ℕ → ℤ) (p : Point) → HasCells n p → (c : ℕ) → (if has cs c then y (m.unit c) else p (Cell c)) ≡ moved m cs y n c
moved_cells m cs y n p h c = ap (λ (z : ℤ). if has cs c then y (m.unit c) else z) (h c)

pub moved_are : (m : Scene) (cs : List ℕ) (us : List BlockUnit) (x y n : ℕ → ℤ) → Kept m cs us x y → AreNumbers m x n → AreNumbers m y (moved m cs y n)
moved_are m cs us x y n k a c t = go (has cs c) refl
  where
    go : (b : Bool) → has cs c ≡ b → (if b then y (m.unit c) else n c) ≡ y (m.unit c)
    go true e = refl
    go false e = a c t ∙ sym (k.cells c t e)
