-- What the translation keeps of the units that lie in regions, and of what exact regions say.
use Rattle.std.specs.Prelude.{◌≡◌, ℕ, ◌+◌, ◌<◌, Bool, List, [], ◌∷◌, Option, Some, MatchOption, ℤ, pos}
use Rattle.f77_ast.specs.Trees.{ExprTrees}
use Rattle.f77_ast.specs.Places.{Place}
use Rattle.f77_ast.specs.declared.variable.Variable.{Variable}
use Rattle.f77_ast.specs.Symbols.{BoundTree}
use Rattle.call_translation.specs.transformer_algebra.Claims.{Scene}
use Rattle.region_sets.specs.declared.region.Region.{Region}
use Rattle.region_sets.specs.Claims.{Elements, LiesIn, IsSharp}
use Rattle.call_equations.specs.declared.link.Link.{Link}
use Rattle.call_equations.specs.Sides.{SidesTree}
use Rattle.call_equations.specs.Links.{same_elements, scalar_link, element_link, array_link, rest_link, block_link, link_of}
use Rattle.region_translation.specs.Claims.{FormsMean, LinkHolds, elements_of, ActualStands, DummyStands, IsPart, IsElement}

-- ---- of regions

-- a unit that lies in the region of the callee where that begins lies in the region of the caller at the CALL
abbrev pub SendsUnits : SidesTree → Region → Option Region → Type 0
SendsUnits c r o =
    (m e : Scene) (x y : ℕ → ℤ) (outer inner : Elements) (l : Link) → link_of c r.variable ≡ Some l → FormsMean c m e x y → LinkHolds m e x y outer inner l →
    (u : ℕ) → LiesIn e inner r y u → MatchOption o ⊥ (λ q. LiesIn m outer q x u)

-- what the region of the callee says of each element, that of the caller says
abbrev pub SendsSharp : SidesTree → Region → Option Region → Type 0
SendsSharp c r o =
    (m e : Scene) (x y : ℕ → ℤ) (outer inner : Elements) (l : Link) → link_of c r.variable ≡ Some l → FormsMean c m e x y → LinkHolds m e x y outer inner l →
    (accessed : ℕ → Bool) → IsSharp e inner r y accessed → MatchOption o ⊥ (λ q. IsSharp m outer q x accessed)

-- ---- of the equations for each kind of variable, by the places of both variables

-- a variable that has the same elements in both modules
abbrev pub SameElementsHold : Type 0
SameElementsHold = (m e : Scene) (x y : ℕ → ℤ) (outer inner : Elements) → ((phi : ℕ → ℤ) (u : ℕ) → inner phi ≡ Some u → outer phi ≡ Some u) → (v : Variable) → LinkHolds m e x y outer inner (same_elements v)

-- a scalar dummy whose actual is a scalar
abbrev pub ScalarLinkHolds : Type 0
ScalarLinkHolds = (m e : Scene) (x y : ℕ → ℤ) (p d : Place) → p.dims ≡ [] → d.dims ≡ [] → 0 < p.extent → d.first ≡ p.first → (n : ℕ) → LinkHolds m e x y (elements_of p) (elements_of d) (scalar_link n)

-- a scalar dummy whose actual is an element
abbrev pub ElementLinkHolds : Type 0
ElementLinkHolds =
    (c : SidesTree) (m e : Scene) (x y : ℕ → ℤ) (es : ExprTrees) (bs : List BoundTree) (p d : Place) (k n : ℕ) →
    ActualStands c m x bs p → IsElement c m x es p k → d.dims ≡ [] → d.first ≡ p.first + k →
    LinkHolds m e x y (elements_of p) (elements_of d) (element_link c n es bs)

-- an array whose actual is a whole array
abbrev pub ArrayLinkHolds : Type 0
ArrayLinkHolds =
    (c : SidesTree) (m e : Scene) (x y : ℕ → ℤ) (bs ds : List BoundTree) (p d : Place) (n : ℕ) → FormsMean c m e x y →
    ActualStands c m x bs p → DummyStands c e y ds d → IsPart p d 0 →
    LinkHolds m e x y (elements_of p) (elements_of d) (array_link c n bs ds)

-- an array whose actual is an element
abbrev pub RestLinkHolds : Type 0
RestLinkHolds =
    (c : SidesTree) (m e : Scene) (x y : ℕ → ℤ) (es : ExprTrees) (bs ds : List BoundTree) (p d : Place) (k n : ℕ) →
    ActualStands c m x bs p → IsElement c m x es p k → DummyStands c e y ds d → IsPart p d k →
    LinkHolds m e x y (elements_of p) (elements_of d) (rest_link c n es bs ds)

-- a variable of a block, at a place of the block with the offset o, where the caller has none like it
abbrev pub BlockLinkHolds : Type 0
BlockLinkHolds =
    (c : SidesTree) (m e : Scene) (x y : ℕ → ℤ) (b : List ℕ) (ds : List BoundTree) (p d : Place) (o : ℕ) →
    p.dims ≡ record { low = pos 1; high = Some (pos p.extent) } ∷ [] → DummyStands c e y ds d → IsPart p d o →
    LinkHolds m e x y (elements_of p) (elements_of d) (block_link c b o ds)
