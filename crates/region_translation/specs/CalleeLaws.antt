-- What is kept of the units that lie in a region of the caller.
use Rattle.std.specs.Prelude.{◌≡◌, ℕ, ◌<◌, ◌≤◌, ◌&&◌, Bool, true, false, nat_lt, nat_le, List, Some, ℤ}
use Rattle.affine_systems.specs.declared.row.Var.{Var}
use Rattle.affine_systems.specs.declared.row.Var.TheVariants.{Cell, Exit, Phi, Aux}
use Rattle.f77_ast.specs.declared.variable.Variable.{Variable}
use Rattle.call_translation.specs.transformer_algebra.Claims.{Scene}
use Rattle.call_translation.specs.transformer_algebra.Laws.{In}
use Rattle.region_sets.specs.declared.region.Region.{Region}
use Rattle.region_sets.specs.Naming.{in_rows}
use Rattle.region_sets.specs.Claims.{Elements, Places, AreByOrder, LiesIn, LiesInSet}
use Rattle.call_equations.specs.Sides.{SidesTree}
use Rattle.call_equations.specs.declared.link.Link.{Link}
use Rattle.region_translation.specs.Claims.{FormsMean}
use Rattle.region_translation.specs.Claims as outward
use Rattle.region_translation.specs.declared.links.CalleeLink.{CalleeLink}
use Rattle.region_translation.specs.Names.{turned_rows}
use Rattle.region_translation.specs.Links.{link, same_link, callee_links, subscripts_of}
use Rattle.region_translation.specs.CalleeClaims.{DummiesAreTracked, HasUnit, LinkHolds}

-- a unit of the variable of a link that lies in the region of the caller at the CALL lies in a region of the callee where that begins
abbrev pub SendsUnits : (List ℕ → ℕ) → SidesTree → Region → List Region → Type 0
SendsUnits size c r rs =
    (m e : Scene) (x y : ℕ → ℤ) (outer : Elements) (at : Places) → AreByOrder at → FormsMean c m e x y → DummiesAreTracked c e →
    (l : CalleeLink) → In l (callee_links size c r.variable) → LinkHolds m e (subscripts_of c r.variable) x y outer (at l.variable) l →
    (u : ℕ) → HasUnit (at l.variable) u → LiesIn m outer r x u → LiesInSet e at r.kind rs y u

-- ---- of the equations

-- a variable that has the same elements in both modules
abbrev pub SameLinkHolds : Type 0
SameLinkHolds = (m e : Scene) (q : ℕ) (x y : ℕ → ℤ) (outer inner : Elements) → ((phi : ℕ → ℤ) (u : ℕ) → outer phi ≡ Some u → inner phi ≡ Some u) → (v : Variable) → LinkHolds m e q x y outer inner (same_link v)

-- a cell, a subscript of the callee's variable, or one of the caller's, which has q
abbrev pub is_of_both : ℕ → Var → Bool
is_of_both q (Cell n) = true
is_of_both q (Exit n) = false
is_of_both q (Phi k) = nat_lt 0 k && nat_le k q
is_of_both q (Aux n) = true

-- the unit of an element says what its subscripts are, of which there are q
abbrev pub AreTold : ℕ → Elements → Type 0
AreTold q at = (phi psi : ℕ → ℤ) (u : ℕ) → at phi ≡ Some u → at psi ≡ Some u → (k : ℕ) → 0 < k → k ≤ q → phi k ≡ psi k

-- a dummy, where the equations from the callee to the caller hold
abbrev pub DummyLinkHolds : Type 0
DummyLinkHolds =
    (m e : Scene) (q : ℕ) (x y : ℕ → ℤ) (outer inner : Elements) (l : Link) → outward.LinkHolds m e x y outer inner l → l.moved ≡ true →
    ((v : Var) → in_rows v l.rows ≡ true → is_of_both q v ≡ true) → AreTold q outer → (v : Variable) → LinkHolds m e q x y outer inner (link v true (turned_rows l.rank q l.rows))
