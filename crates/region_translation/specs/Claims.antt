-- What is known of a CALL in a run where regions are translated: the numbers in the units of both modules, and the places of their variables.
use Rattle.std.specs.Prelude.{◌≡◌, ℕ, zero, suc, ◌+◌, ◌≤◌, ◌<◌, true, false, List, [], ◌∷◌, length, Option, Some, None, option_map, ℤ}
use Rattle.affine_systems.specs.declared.row.Var.TheVariants.{Cell, Phi}
use Rattle.affine_systems.specs.Points.{Point, HoldsAll}
use Rattle.f77_ast.specs.Trees.{ExprTree, ExprTrees}
use Rattle.f77_ast.specs.Trees as tree
use Rattle.f77_ast.specs.Places.{Dim, Place, total_size, element_in}
use Rattle.f77_ast.specs.Calls.{is_open}
use Rattle.f77_ast.specs.declared.constant.Constant.{Constant}
use Rattle.f77_ast.specs.Constants.{const_value}
use Rattle.f77_ast.specs.Symbols.{BoundTree}
use Rattle.affine_forms.specs.declared.affine.Affine.{Affine}
use Rattle.affine_forms.specs.Forms.{affine_of}
use Rattle.affine_forms.specs.Scalars.{Scalars}
use Rattle.affine_forms.specs.Claims.{form_value}
use Rattle.call_translation.specs.transformer_algebra.Claims.{Scene, AtStart, Means}
use Rattle.region_sets.specs.Claims.{HasSubscripts, Elements}
use Rattle.call_equations.specs.declared.link.Link.{Link}
use Rattle.call_equations.specs.Sides.{SidesTree}
use Rattle.call_equations.specs.Cells.{cell_name, form_of, actual_bound, dummy_bound}
use Rattle.call_equations.specs.Positions.{number_in, high_number}
use Rattle.region_translation.specs.Pieces.{standing, is_own}

-- x has the number of each unit at the CALL, y where the callee begins; m has the cells of the caller, e those of the callee

-- ---- cells

-- a form that stands for a variable of the callee has the number that is in the first unit of that
abbrev pub FormsMean : SidesTree → Scene → Scene → (ℕ → ℤ) → (ℕ → ℤ) → Type 0
FormsMean c m e x y = (n : ℕ) → Means m (form_of c n) x (y (e.unit n))

-- a point with the numbers of both, those of the callee by the names of its cells
pub record Matches (m e : Scene) (r : ℕ) (x y : ℕ → ℤ) (q : Point) : Type 0 where
  pub outside : AtStart m x q
  pub inside : (n : ℕ) → q (cell_name r n) ≡ y (e.unit n)

-- ---- equations

-- the subscripts of the callee's variable, by their names
abbrev pub inner_of : Link → Point → ℕ → ℤ
inner_of l q k = q (standing l.moved l.rank (Phi k))

abbrev pub HasInner : Link → (ℕ → ℤ) → Point → Type 0
HasInner l phi q = (k : ℕ) → is_own l.moved l.rank (Phi k) ≡ true → inner_of l q k ≡ phi k

-- the equations of a link hold between the elements of the caller's variable and those of the callee's
pub record LinkHolds (m e : Scene) (x y : ℕ → ℤ) (outer inner : Elements) (l : Link) : Type 0 where
  -- each element of the callee's variable is one of the caller's, and the equations say which
  pub to : (phi : ℕ → ℤ) (u : ℕ) → inner phi ≡ Some u → ℕ → ℤ
  pub there : (phi : ℕ → ℤ) (u : ℕ) (h : inner phi ≡ Some u) → outer (to phi u h) ≡ Some u
  pub stays : l.moved ≡ false → (phi : ℕ → ℤ) (u : ℕ) (h : inner phi ≡ Some u) (k : ℕ) → to phi u h k ≡ phi k
  pub holds : (phi : ℕ → ℤ) (u : ℕ) (h : inner phi ≡ Some u) (q : Point) → Matches m e l.rank x y q → HasSubscripts (to phi u h) q → HasInner l phi q → HoldsAll q l.rows
  -- where it is exact, they hold of no other
  pub back : l.exact ≡ true → (q : Point) → Matches m e l.rank x y q → HoldsAll q l.rows → (u : ℕ) → inner (inner_of l q) ≡ Some u → outer (λ k. q (Phi k)) ≡ Some u

-- ---- elements

-- the first subscripts, from the k-th on
abbrev pub listed_from : ℕ → ℕ → (ℕ → ℤ) → List ℤ
listed_from k zero phi = []
listed_from k (suc n) phi = phi k ∷ listed_from (suc k) n phi

-- the unit of the element with as many subscripts as the variable has dimensions
abbrev pub elements_of : Place → Elements
elements_of p phi = option_map (λ k. p.first + k) (element_in p (listed_from 1 (length p.dims) phi))

-- ---- places of arrays

-- constant bounds are those of the dimension
pub record ConstantsFit (value : List ℕ → Option Constant) (b : BoundTree) (d : Dim) : Type 0 where
  pub low : (n : ℤ) → number_in (const_value value b.low) ≡ Some n → d.low ≡ n
  pub high : (n : ℤ) → high_number value b.high ≡ Some n → d.high ≡ Some n

-- forms of bounds have the values of the dimension at each such point
pub record BoundMeans (form : ExprTree → Option Affine) (P : Point → Type 0) (b : BoundTree) (d : Dim) : Type 0 where
  pub low : (f : Affine) → form b.low ≡ Some f → (q : Point) → P q → form_value q f ≡ d.low
  pub high : (a : ExprTree) (f : Affine) → b.high ≡ Some a → form a ≡ Some f → (q : Point) → P q → d.high ≡ Some (form_value q f)

abbrev pub EachDim : (BoundTree → Dim → Type 0) → List BoundTree → List Dim → Type 0
EachDim P [] [] = Unit {0}
EachDim P [] (d ∷ ds) = ⊥
EachDim P (b ∷ bs) [] = ⊥
EachDim P (b ∷ bs) (d ∷ ds) = P b d × EachDim P bs ds

abbrev pub IsClosed : Option ℤ → Type 0
IsClosed None = ⊥
IsClosed (Some h) = Unit {0}

-- the bound of the last dimension alone may be `*`
abbrev pub LastMayBeOpen : List Dim → Type 0
LastMayBeOpen [] = Unit {0}
LastMayBeOpen (d ∷ []) = Unit {0}
LastMayBeOpen (d ∷ (f ∷ ds)) = IsClosed d.high × LastMayBeOpen (f ∷ ds)

-- a variable with these bounds at a place: without `*` it reaches no more than its elements, and where it reaches a unit each dimension has an
-- element
pub record Stands (value : List ℕ → Option Constant) (bs : List BoundTree) (p : Place) : Type 0 where
  pub constants : EachDim (ConstantsFit value) bs p.dims
  pub last : LastMayBeOpen p.dims
  pub within : is_open p.dims ≡ false → p.extent ≤ total_size p.dims
  pub filled : 0 < p.extent → 0 < total_size p.dims

-- at a point of the callee, its cells have their numbers
abbrev pub AtEntry : Scene → (ℕ → ℤ) → Point → Type 0
AtEntry e y q = (n : ℕ) → q (Cell n) ≡ y (e.unit n)

-- the array of the caller, and that of the callee, with the forms of their bounds
pub record ActualStands (c : SidesTree) (m : Scene) (x : ℕ → ℤ) (bs : List BoundTree) (p : Place) : Type 0 where
  pub stands : Stands c.caller.scalars.value bs p
  pub bounds : EachDim (BoundMeans (actual_bound c) (AtStart m x)) bs p.dims

pub record DummyStands (c : SidesTree) (e : Scene) (y : ℕ → ℤ) (bs : List BoundTree) (p : Place) : Type 0 where
  pub stands : Stands c.callee.scalars.value bs p
  pub bounds : EachDim (BoundMeans (dummy_bound c) (AtEntry e y)) bs p.dims

-- the callee's variable begins so many units behind the first of the caller's, and ends with it
pub record IsPart (p d : Place) (k : ℕ) : Type 0 where
  pub first : d.first ≡ p.first + k
  pub room : d.extent + k ≤ p.extent

-- ---- elements as actuals

-- the forms of subscripts have these values
abbrev pub SubscriptsMean : Scalars → Scene → (ℕ → ℤ) → ExprTrees → List ℤ → Type 0
SubscriptsMean s m x tree.no_exprs [] = Unit {0}
SubscriptsMean s m x tree.no_exprs (n ∷ ns) = ⊥
SubscriptsMean s m x (tree.more_exprs a es) [] = ⊥
SubscriptsMean s m x (tree.more_exprs a es) (n ∷ ns) = Means m (affine_of s a) x n × SubscriptsMean s m x es ns

-- an actual that is the element with the number k of an array, in bounds
pub record IsElement (c : SidesTree) (m : Scene) (x : ℕ → ℤ) (es : ExprTrees) (p : Place) (k : ℕ) : Type 0 where
  pub subscripts : List ℤ
  pub values : SubscriptsMean c.caller.scalars m x es subscripts
  pub there : element_in p subscripts ≡ Some k
