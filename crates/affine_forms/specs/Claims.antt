-- What forms and conditions say. A claim on a store is one on each point that has the numbers of the tracked cells.
use Rattle.std.specs.Prelude.{◌≡◌, ℕ, List, Option, Some, None, Bool, true, false, ℤ, ◌+ℤ◌}
use Rattle.affine_systems.specs.declared.row.Var.TheVariants.{Cell}
use Rattle.affine_systems.specs.declared.row.System.{System}
use Rattle.affine_systems.specs.Points.{Point, value, HoldsAll}
use Rattle.f77_ast.specs.Trees.{ExprTree}
use Rattle.f77_ast.specs.Store.{Content, content, Int, Log, truth, Store}
use Rattle.f77_ast.specs.Numbers.{is_true}
use Rattle.f77_ast.specs.Places.{Meant, Variable, Names, Places}
use Rattle.f77_ast.specs.Places as meant
use Rattle.f77_ast.specs.Values as values
use Rattle.f77_ast.specs.Runs as run
use Rattle.f77_ast.specs.Executions.{AtEndOf}
use Rattle.f77_ast.specs.declared.constant.Constant.{Constant}
use Rattle.f77_ast.specs.declared.constant.Constant.TheVariants as constant
use Rattle.affine_forms.specs.declared.affine.Affine.{Affine}
use Rattle.affine_forms.specs.Scalars.{Scalars}
use Rattle.affine_forms.specs.Forms.{affine_of}
use Rattle.affine_forms.specs.Conditions.{condition_of}

-- ---- on numbers: x has the number of each unit, and each tracked cell has a unit

-- the tracked cells have these numbers
abbrev pub AtStart : (ℕ → Bool) → (ℕ → ℕ) → (ℕ → ℤ) → Point → Type 0
AtStart tracked unit x p = (c : ℕ) → tracked c ≡ true → p (Cell c) ≡ x (unit c)

-- a system holds at these numbers
abbrev pub HoldsAt : (ℕ → Bool) → (ℕ → ℕ) → System → (ℕ → ℤ) → Type 0
HoldsAt tracked unit s x = (p : Point) → AtStart tracked unit x p → HoldsAll p s.rows

abbrev pub form_value : Point → Affine → ℤ
form_value p f = value p f.terms +ℤ f.constant

-- a form, where there is one, has this value at these numbers
abbrev pub Means : (ℕ → Bool) → (ℕ → ℕ) → Option Affine → (ℕ → ℤ) → ℤ → Type 0
Means tracked unit None x n = Unit {0}
Means tracked unit (Some f) x n = (p : Point) → AtStart tracked unit x p → form_value p f ≡ n

-- ---- on expressions

-- the unit of a cell, and the number in a unit
abbrev pub unit_in : Places → ℕ → ℕ
unit_in at c = (at c).first

abbrev pub numbers_of : Store → ℕ → ℤ
numbers_of s u = (s u).number

abbrev pub content_of : Constant → Content
content_of (constant.Int n) = content Int n
content_of (constant.Log b) = content Log (truth b)

-- names stand in a run for what they are taken for: constants for their values, cells for tracked variables; or for functions, which have no value
pub record Agrees (w : Names) (k : Scalars) (tracked : ℕ → Bool) : Type 0 where
  pub constants : (x : List ℕ) (c : Constant) → k.value x ≡ Some c → (w x ≡ meant.Function → ⊥) → w x ≡ meant.Constant (content_of c)
  pub cells : (x : List ℕ) (n : ℕ) → k.cell x ≡ Some n → ((w x ≡ meant.Function → ⊥) → w x ≡ Variable n) × (tracked n ≡ true)

-- of each expression that is evaluated without a fault
abbrev pub FormsHold : Type 0
FormsHold = (w : Names) (k : Scalars) (tracked : ℕ → Bool) (at : Places) (s : Store) (i : List Content) → Agrees w k tracked → (e : ExprTree) →
    AtEndOf (run.run (values.value e w at) (run.Whole s) i) (λ c z j. Means tracked (unit_in at) (affine_of k e) (numbers_of s) c.number)

-- the side for the value of a LOGICAL expression
pub record Says (tracked : ℕ → Bool) (unit : ℕ → ℕ) (yes no : System) (x : ℕ → ℤ) (b : Bool) : Type 0 where
  pub true_side : b ≡ true → HoldsAt tracked unit yes x
  pub false_side : b ≡ false → HoldsAt tracked unit no x

abbrev pub ConditionsHold : Type 0
ConditionsHold = (w : Names) (k : Scalars) (tracked : ℕ → Bool) (at : Places) (s : Store) (i : List Content) → Agrees w k tracked → (e : ExprTree) →
    AtEndOf (run.run (values.value e w at) (run.Whole s) i) (λ c z j. let d = condition_of k e in Says tracked (unit_in at) d.yes d.no (numbers_of s) (is_true c.number))
