-- What the rules keep of the units that lie in regions, and of what exact regions say.
use Rattle.std.specs.Prelude.{◌≡◌, ◌⊎◌, ℕ, Bool, true, false, List, Option, Some, MatchOption, ℤ, pos}
use Rattle.affine_systems.specs.declared.row.System.{System}
use Rattle.affine_systems.specs.Points.{Point, HoldsAll}
use Rattle.transformers.specs.transformer_algebra.declared.transformer.Transformer.{Transformer}
use Rattle.f77_ast.specs.declared.variable.Unit.{Unit as BlockUnit}
use Rattle.transformers.specs.transformer_algebra.Claims.{Scene, Kept, Does}
use Rattle.transformers.specs.transformer_algebra.Laws.{In}
use Rattle.f77_ast.specs.Trees.{StmtTrees}
use Rattle.transformers.specs.Jumps.{unstructured}
use Rattle.transformers.specs.Lists.{list_at}
use Rattle.region_sets.specs.declared.range.Range.{Range}
use Rattle.region_sets.specs.declared.region.Region.{Region}
use Rattle.region_sets.specs.declared.region.Access.{Access}
use Rattle.region_sets.specs.Lists.{numbers}
use Rattle.hull_projection.specs.Unions.{HoldsSome}
use Rattle.region_sets.specs.Claims.{Elements, LiesIn, IsSharp, Places, AreByOrder, LiesInSet, IsSharpSet, Reached, AllSharp, InRange, Iteration, Begins}

-- ---- of two regions

-- a piece has all points of a system
pub record WithinOne (s : System) (ss : List System) : Type 0 where
  pub piece : System
  pub is_one : In piece ss
  pub has : (p : Point) → HoldsAll p s.rows → HoldsAll p piece.rows

abbrev pub HasAll : Region → Region → Type 0
HasAll r a = (s : System) → In s a.pieces → WithinOne s r.pieces

-- each piece of either lies within one of the region
abbrev pub HasBoth : Region → Region → Region → Type 0
HasBoth a b r = HasAll r a × HasAll r b

-- where it is exact, each of its points is one of one of the two that is exact
abbrev pub IsOneExact : Region → Region → Region → Type 0
IsOneExact a b r = r.exact ≡ true → (p : Point) → HoldsSome p r.pieces → ((a.exact ≡ true) × HoldsSome p a.pieces) ⊎ ((b.exact ≡ true) × HoldsSome p b.pieces)

-- a unit that lies in the first stays, unless the second says that it is certainly accessed
abbrev pub KeepsRest : Region → Region → Option Region → Type 0
KeepsRest a b o =
    (m : Scene) (at : Elements) (x : ℕ → ℤ) (accessed : ℕ → Bool) → IsSharp m at b x accessed → (u : ℕ) → accessed u ≡ false → LiesIn m at a x u →
    MatchOption o ⊥ (λ r. LiesIn m at r x u)

-- where it is exact, it has only what is of the first, which is exact, and not of the second
abbrev pub HasRestAlone : Region → Region → Option Region → Type 0
HasRestAlone a b o = MatchOption o (Unit {0}) (λ r. r.exact ≡ true → (a.exact ≡ true) × ((p : Point) → HoldsSome p r.pieces → HoldsSome p a.pieces × (HoldsSome p b.pieces → ⊥)))

-- ---- from after a statement to before it

-- a unit that lies in the first after what the transformer describes lies in the second before it
abbrev pub MovesUnits : Transformer → Region → Region → Type 0
MovesUnits t r q = (m : Scene) (at : Elements) (x y : ℕ → ℤ) → Does m t x y → (u : ℕ) → LiesIn m at r y u → LiesIn m at q x u

abbrev pub MovesSharp : Transformer → Region → Region → Type 0
MovesSharp t r q = (m : Scene) (at : Elements) (x y : ℕ → ℤ) → Does m t x y → (accessed : ℕ → Bool) → IsSharp m at r y accessed → IsSharp m at q x accessed

-- ---- of sets

-- a unit that lies in a region of the first lies in one of that kind of the second
abbrev pub HasUnits : List Region → List Region → Type 0
HasUnits rs qs = (m : Scene) (at : Places) → AreByOrder at → (k : Access) (x : ℕ → ℤ) (u : ℕ) → LiesInSet m at k rs x u → LiesInSet m at k qs x u

-- what exact regions of the second say is so, where it is so of the first
abbrev pub IsAsSharp : List Region → List Region → Type 0
IsAsSharp rs qs = (m : Scene) (at : Places) → AreByOrder at → (x : ℕ → ℤ) (accessed : Access → ℕ → Bool) → IsSharpSet m at rs x accessed → IsSharpSet m at qs x accessed

-- ---- of lists of statements, by their numbers, with the transformer and the set of each

-- a unit that lies in the set of a statement where that is reached lies in the set at the beginning of the list
abbrev pub HasSteps : (ℕ → Transformer) → (ℕ → List Region) → List ℕ → List Region → Type 0
HasSteps t f ns qs =
    (m : Scene) (at : Places) → AreByOrder at → (k : Access) (n : ℕ) (x y : ℕ → ℤ) (u : ℕ) → Reached m t n y ns x → LiesInSet m at k (f n) y u → LiesInSet m at k qs x u

abbrev pub HasStepsAlone : (ℕ → Transformer) → (ℕ → List Region) → List ℕ → List Region → Type 0
HasStepsAlone t f ns qs =
    (m : Scene) (at : Places) → AreByOrder at → (x : ℕ → ℤ) (accessed : Access → ℕ → Bool) → AllSharp m at t f accessed ns x → IsSharpSet m at qs x accessed

-- a unit that lies in the set of any statement of a list, at numbers that differ in these cells, lies in a set; in which nothing is exact
abbrev pub HasAnyStep : List ℕ → (ℕ → List Region) → List ℕ → List Region → Type 0
HasAnyStep cs f ns qs =
    (m : Scene) (at : Places) → AreByOrder at → (k : Access) (n : ℕ) → In n ns → (us : List BlockUnit) (x y : ℕ → ℤ) → Kept m cs us x y → (u : ℕ) → LiesInSet m at k (f n) y u → LiesInSet m at k qs x u

abbrev pub NoneExact : List Region → Type 0
NoneExact qs = (r : Region) → In r qs → r.exact ≡ false

-- of a list that is executed from the first statement to the last, and of one whose statements are executed in any order
pub record HasList (t : ℕ → Transformer) (f : ℕ → List Region) (whole : Bool) (body : StmtTrees) (qs : List Region) : Type 0 where
  pub in_order : unstructured whole body ≡ false → HasSteps t f (numbers body) qs
  pub in_any_order : unstructured whole body ≡ true → HasAnyStep (list_at t whole body).cells f (numbers body) qs

pub record HasListAlone (t : ℕ → Transformer) (f : ℕ → List Region) (whole : Bool) (body : StmtTrees) (qs : List Region) : Type 0 where
  pub in_order : unstructured whole body ≡ false → HasStepsAlone t f (numbers body) qs
  pub in_any_order : unstructured whole body ≡ true → NoneExact qs

-- ---- from the iterations of a DO to the DO

-- a unit that lies in the first at the beginning of an iteration lies in the second at the DO
abbrev pub HasIterations : Range → Region → Region → Type 0
HasIterations g r q =
    (m : Scene) (at : Elements) (x : ℕ → ℤ) (a b : ℤ) → Begins m g x a b → (n : ℤ) (k : ℕ) (y : ℕ → ℤ) → Iteration m g x a b n k y → (u : ℕ) → LiesIn m at r y u → LiesIn m at q x u

-- an iteration with this index, at whose beginning what the region says is so
pub record SharpIteration (m : Scene) (at : Elements) (g : Range) (r : Region) (x : ℕ → ℤ) (a b n : ℤ) (k : ℕ) (accessed : ℕ → Bool) : Type 0 where
  pub begin : ℕ → ℤ
  pub iteration : Iteration m g x a b n k begin
  pub sharp : IsSharp m at r begin accessed

-- where there is an iteration for each number in the range, what the second says is so
abbrev pub HasIterationsAlone : Range → Region → Region → Type 0
HasIterationsAlone g r q =
    (m : Scene) (at : Elements) (x : ℕ → ℤ) (a b : ℤ) (accessed : ℕ → Bool) → Begins m g x a b →
    ((s : ℤ) → g.step ≡ Some s → (s ≡ pos 0 → ⊥) × ((n : ℤ) (k : ℕ) → InRange a b s n k → SharpIteration m at g r x a b n k accessed)) →
    IsSharp m at q x accessed
