-- What regions say of the units of storage. A claim is one on each point that has the numbers of the tracked cells; so what a system says of other
-- variables does not matter.
use Rattle.std.specs.Prelude.{◌≡◌, ℕ, Bool, true, List, [], ◌∷◌, Option, Some, ℤ, pos, ◌+ℤ◌, ◌*ℤ◌}
use Rattle.std.specs.declared.cmp.Ordering.TheVariants.{Equal}
use Rattle.affine_systems.specs.declared.row.Var.TheVariants.{Cell, Phi}
use Rattle.affine_systems.specs.declared.row.System.{System}
use Rattle.affine_systems.specs.Points.{Point, HoldsAll}
use Rattle.hull_projection.specs.Unions.{HoldsSome}
use Rattle.transformers.specs.transformer_algebra.Cells.{has}
use Rattle.transformers.specs.transformer_algebra.Loops.{goes_up}
use Rattle.transformers.specs.transformer_algebra.Laws.{In}
use Rattle.transformers.specs.transformer_algebra.Claims.{Scene, AtStart, Does, Chain, Wrote, Tracks, Means, NotBeyond}
use Rattle.f77_ast.specs.declared.variable.Variable.{Variable}
use Rattle.f77_ast.specs.Variables.{variable_cmp}
use Rattle.transformers.specs.transformer_algebra.declared.transformer.Transformer.{Transformer}
use Rattle.region_sets.specs.declared.range.Range.{Range}
use Rattle.region_sets.specs.declared.region.Access.{Access}
use Rattle.region_sets.specs.declared.region.Region.{Region}

-- the subscripts have these numbers
abbrev pub HasSubscripts : (ℕ → ℤ) → Point → Type 0
HasSubscripts phi p = (k : ℕ) → p (Phi k) ≡ phi k

-- numbers of all cells: those of the units, as far as cells are tracked
abbrev pub AreNumbers : Scene → (ℕ → ℤ) → (ℕ → ℤ) → Type 0
AreNumbers m x n = (c : ℕ) → m.tracked c ≡ true → n c ≡ x (m.unit c)

-- the cells have these numbers
abbrev pub HasCells : (ℕ → ℤ) → Point → Type 0
HasCells n p = (c : ℕ) → p (Cell c) ≡ n c

-- a system describes these subscripts where the cells have these numbers, whatever the other variables are
abbrev pub Describes : System → (ℕ → ℤ) → (ℕ → ℤ) → Type 0
Describes s n phi = (p : Point) → HasCells n p → HasSubscripts phi p → HoldsAll p s.rows

-- one of the systems does
pub record DescribedBy (ss : List System) (n phi : ℕ → ℤ) : Type 0 where
  pub piece : System
  pub is_one : In piece ss
  pub holds : Describes piece n phi

-- the unit of the element with these subscripts, where it is in bounds; of a scalar, whatever the subscripts
abbrev pub Elements : Type 0
Elements = (ℕ → ℤ) → Option ℕ

-- a unit is that of an element that the region describes: for any numbers of all cells one of its pieces does
pub record LiesIn (m : Scene) (at : Elements) (r : Region) (x : ℕ → ℤ) (u : ℕ) : Type 0 where
  pub phi : ℕ → ℤ
  pub there : at phi ≡ Some u
  pub described : (n : ℕ → ℤ) → AreNumbers m x n → DescribedBy r.pieces n phi

-- the subscripts are those of an element in bounds, which is accessed
pub record Accessed (at : Elements) (accessed : ℕ → Bool) (phi : ℕ → ℤ) : Type 0 where
  pub unit : ℕ
  pub there : at phi ≡ Some unit
  pub is_so : accessed unit ≡ true

-- each element that an exact region describes is in bounds and accessed
abbrev pub IsSharp : Scene → Elements → Region → (ℕ → ℤ) → (ℕ → Bool) → Type 0
IsSharp m at r x accessed = r.exact ≡ true → (p : Point) → AtStart m x p → HoldsSome p r.pieces → Accessed at accessed (λ k. p (Phi k))

-- ---- sets

-- the elements of each variable
abbrev pub Places : Type 0
Places = Variable → Elements

-- variables that the order of variables does not tell apart have the same elements
abbrev pub AreByOrder : Places → Type 0
AreByOrder at = (v w : Variable) → variable_cmp v w ≡ Equal → at v ≡ at w

-- a unit lies in a region of a kind
pub record LiesInSet (m : Scene) (at : Places) (k : Access) (rs : List Region) (x : ℕ → ℤ) (u : ℕ) : Type 0 where
  pub region : Region
  pub is_one : In region rs
  pub kind : region.kind ≡ k
  pub lies : LiesIn m (at region.variable) region x u

-- each element that an exact one describes is accessed as its kind says
abbrev pub IsSharpSet : Scene → Places → List Region → (ℕ → ℤ) → (Access → ℕ → Bool) → Type 0
IsSharpSet m at rs x accessed = (r : Region) → In r rs → IsSharp m (at r.variable) r x (accessed r.kind)

-- ---- statements one after another, by their numbers: t has the transformer of each, f the set

-- the statement with the number n is reached at the numbers z, from the first of a list at others
pub data Reached (m : Scene) (t : ℕ → Transformer) (n : ℕ) (z : ℕ → ℤ) : List ℕ → (ℕ → ℤ) → Type 0 where
  arrived : {ns : List ℕ} → Reached m t n z (n ∷ ns) z
  past : {j : ℕ} {ns : List ℕ} {x y : ℕ → ℤ} → Does m (t j) x y → Reached m t n z ns y → Reached m t n z (j ∷ ns) x

-- all statements of a list are executed, and each accesses what its set certainly says
pub data AllSharp (m : Scene) (at : Places) (t : ℕ → Transformer) (f : ℕ → List Region) (accessed : Access → ℕ → Bool) : List ℕ → (ℕ → ℤ) → Type 0 where
  no_more : {x : ℕ → ℤ} → AllSharp m at t f accessed [] x
  before_more : {n : ℕ} {ns : List ℕ} {x y : ℕ → ℤ} → IsSharpSet m at (f n) x accessed → Does m (t n) x y → AllSharp m at t f accessed ns y → AllSharp m at t f accessed (n ∷ ns) x

-- ---- iterations

-- n is the number of the index that is reached from a after k steps, and not beyond b
pub record InRange (a b s n : ℤ) (k : ℕ) : Type 0 where
  pub after_first : NotBeyond (goes_up s) a n
  pub before_last : NotBeyond (goes_up s) n b
  pub place : n ≡ a +ℤ (s *ℤ pos k)

-- an iteration begins at the numbers y with the index n, after k others, in a loop that was begun at the numbers x and whose first and last
-- expressions have the values a and b there. The index is first given the value a, which makes the numbers x1
pub record Iteration (m : Scene) (g : Range) (x : ℕ → ℤ) (a b n : ℤ) (k : ℕ) (y : ℕ → ℤ) : Type 0 where
  pub begin : ℕ → ℤ
  pub wrote : Wrote m g.index a x begin
  pub chain : Chain m g.turn begin y
  pub number : y (m.unit g.index) ≡ n
  pub range : (s : ℤ) → g.step ≡ Some s → InRange a b s n k

-- the values of the expressions, and that an iteration changes tracked cells alone, and the index where that is one
pub record Begins (m : Scene) (g : Range) (x : ℕ → ℤ) (a b : ℤ) : Type 0 where
  pub first : Means m g.first x a
  pub last : Means m g.last x b
  pub tracks : Tracks m g.turn.cells
  pub index : m.tracked g.index ≡ true → has g.turn.cells g.index ≡ true
