-- What is known of a CALL in a run where a region of the caller is handed to the module that is called: the numbers in the units of both modules, and the
-- elements of their variables.
use Rattle.std.specs.Prelude.{◌≡◌, ℕ, true, false, Option, Some, ℤ}
use Rattle.affine_systems.specs.declared.row.Var.TheVariants.{Cell, Phi, Aux}
use Rattle.affine_systems.specs.Points.{Point, HoldsAll}
use Rattle.f77_ast.specs.Shared.{symbol_at}
use Rattle.call_translation.specs.transformer_algebra.Claims.{Scene}
use Rattle.region_sets.specs.Claims.{HasSubscripts, Elements}
use Rattle.call_equations.specs.Sides.{SidesTree}
use Rattle.call_equations.specs.Cells.{cell_name}
use Rattle.region_translation.specs.Pieces.{standing, is_own}
use Rattle.region_translation.specs.declared.links.CalleeLink.{CalleeLink}
use Rattle.region_translation.specs.Values.{is_scalar_dummy}

-- x has the number of each unit at the CALL, y where the callee begins; m has the cells of the caller, e those of the callee. The caller's variable has q
-- subscripts

-- the INTEGER scalar dummies of the callee are analysed there
abbrev pub DummiesAreTracked : SidesTree → Scene → Type 0
DummiesAreTracked c e = (n : ℕ) → is_scalar_dummy (symbol_at c.callee.symbols n) ≡ true → e.tracked n ≡ true

-- a point with the numbers of both, those of the caller by the names of its cells
pub record MatchesBoth (m e : Scene) (q : ℕ) (x y : ℕ → ℤ) (p : Point) : Type 0 where
  pub inside : (n : ℕ) → p (Cell n) ≡ y (e.unit n)
  pub outside : (n : ℕ) → p (cell_name q n) ≡ x (m.unit n)

-- the subscripts of the caller's variable, by their names
abbrev pub HasOuter : CalleeLink → ℕ → (ℕ → ℤ) → Point → Type 0
HasOuter l q phi p = (k : ℕ) → is_own l.moved q (Phi k) ≡ true → p (standing l.moved q (Phi k)) ≡ phi k

-- an element of a variable has the unit
pub record HasUnit (at : Elements) (u : ℕ) : Type 0 where
  pub subscripts : ℕ → ℤ
  pub there : at subscripts ≡ Some u

-- the equations of a link hold between the elements of the caller's variable and those of the callee's with the same units
pub record LinkHolds (m e : Scene) (q : ℕ) (x y : ℕ → ℤ) (outer inner : Elements) (l : CalleeLink) : Type 0 where
  pub to : (phi : ℕ → ℤ) (u : ℕ) → outer phi ≡ Some u → HasUnit inner u → ℕ → ℤ
  pub there : (phi : ℕ → ℤ) (u : ℕ) (h : outer phi ≡ Some u) (w : HasUnit inner u) → inner (to phi u h w) ≡ Some u
  pub stays : l.moved ≡ false → (phi : ℕ → ℤ) (u : ℕ) (h : outer phi ≡ Some u) (w : HasUnit inner u) (k : ℕ) → to phi u h w k ≡ phi k
  pub holds : (phi : ℕ → ℤ) (u : ℕ) (h : outer phi ≡ Some u) (w : HasUnit inner u) (p : Point) → MatchesBoth m e q x y p → HasSubscripts (to phi u h w) p → HasOuter l q phi p → HoldsAll p l.rows
