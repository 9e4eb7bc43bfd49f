-- What transformers say of the numbers in the units of storage, before and after. A claim is one on each point that has the numbers of the
-- tracked cells; so what a system says of other variables does not matter.
use Rattle.std.specs.Prelude.{◌≡◌, ◌⊎◌, ℕ, Bool, true, false, nat_eq, List, [], ◌∷◌, Option, ℤ, pos, ◌+ℤ◌, ◌≤ℤ◌}
use Rattle.affine_systems.specs.declared.row.Var.TheVariants.{Exit}
use Rattle.affine_systems.specs.declared.row.System.{System}
use Rattle.affine_systems.specs.Points.{Point, HoldsAll}
use Rattle.f77_ast.specs.declared.variable.Unit.{Unit as BlockUnit}
use Rattle.affine_forms.specs.declared.affine.Affine.{Affine}
use Rattle.affine_forms.specs.Claims as forms
use Rattle.transformer_algebra.specs.declared.transformer.Transformer.{Transformer}
use Rattle.transformer_algebra.specs.Cells.{has}

-- which cells of a module are tracked, and the unit of each; where the units of blocks lie, and which of them are tracked and reached by no
-- name and no dummy argument of the module
pub record Scene : Type 0 where
  pub tracked : ℕ → Bool
  pub unit : ℕ → ℕ
  pub far : BlockUnit → Bool
  pub place : BlockUnit → ℕ

abbrev pub AtStart : Scene → (ℕ → ℤ) → Point → Type 0
AtStart m x p = forms.AtStart m.tracked m.unit x p

abbrev pub HoldsAt : Scene → System → (ℕ → ℤ) → Type 0
HoldsAt m s x = forms.HoldsAt m.tracked m.unit s x

-- the exits of these cells are the numbers after
abbrev pub AtEnd : Scene → List ℕ → (ℕ → ℤ) → Point → Type 0
AtEnd m cs y p = (c : ℕ) → m.tracked c ≡ true → has cs c ≡ true → p (Exit c) ≡ y (m.unit c)

abbrev pub IsIn : BlockUnit → List BlockUnit → Type 0
IsIn u [] = ⊥
IsIn u (v ∷ vs) = (u ≡ v) ⊎ IsIn u vs

-- other tracked cells, and other far units, have the numbers that they had
pub record Kept (m : Scene) (cs : List ℕ) (us : List BlockUnit) (x y : ℕ → ℤ) : Type 0 where
  pub cells : (c : ℕ) → m.tracked c ≡ true → has cs c ≡ false → y (m.unit c) ≡ x (m.unit c)
  pub foreign : (u : BlockUnit) → m.far u ≡ true → (IsIn u us → ⊥) → y (m.place u) ≡ x (m.place u)

-- the transformer describes the way from the numbers x to the numbers y
pub record Does (m : Scene) (t : Transformer) (x y : ℕ → ℤ) : Type 0 where
  pub relates : (p : Point) → AtStart m x p → AtEnd m t.cells y p → HoldsAll p t.system.rows
  pub kept : Kept m t.cells t.foreign x y

-- one iteration after the other
pub data Chain (m : Scene) (t : Transformer) (x : ℕ → ℤ) : (ℕ → ℤ) → Type 0 where
  none_yet : Chain m t x x
  then_iteration : {y z : ℕ → ℤ} → Chain m t x y → Does m t y z → Chain m t x z

-- a variable was given a number: nothing else that counts has changed
pub record Wrote (m : Scene) (i : ℕ) (n : ℤ) (x y : ℕ → ℤ) : Type 0 where
  pub there : y (m.unit i) ≡ n
  pub cells : (c : ℕ) → m.tracked c ≡ true → nat_eq i c ≡ false → y (m.unit c) ≡ x (m.unit c)
  pub foreign : (u : BlockUnit) → m.far u ≡ true → y (m.place u) ≡ x (m.place u)

-- all cells of a list are tracked
abbrev pub Tracks : Scene → List ℕ → Type 0
Tracks m cs = (c : ℕ) → has cs c ≡ true → m.tracked c ≡ true

-- a form, where there is one, has this value at these numbers
abbrev pub Means : Scene → Option Affine → (ℕ → ℤ) → ℤ → Type 0
Means m f x n = forms.Means m.tracked m.unit f x n

-- in the direction of a step, up or down: a is not beyond b, a is beyond b
abbrev pub NotBeyond : Bool → ℤ → ℤ → Type 0
NotBeyond true a b = a ≤ℤ b
NotBeyond false a b = b ≤ℤ a

abbrev pub Beyond : Bool → ℤ → ℤ → Type 0
Beyond true a b = (b +ℤ pos 1) ≤ℤ a
Beyond false a b = (a +ℤ pos 1) ≤ℤ b
