-- What exact regions have no more of: parts of an IF below a test, and elements with subscripts.
use Rattle.std.specs.Prelude.{◌≡◌, ℕ, suc, true, false, List, ◌++◌, [], ◌∷◌, Option, Some, None}
use Rattle.std.specs.List.{AllByRecursion}
use Rattle.affine_systems.specs.declared.row.Var.TheVariants.{Phi}
use Rattle.affine_systems.specs.Points.{Point, HoldsAll}
use Rattle.f77_ast.specs.Trees.{ExprTree, ExprTrees, ArmTree, ArmTrees}
use Rattle.f77_ast.specs.Trees as tree
use Rattle.f77_ast.specs.Symbols.{BoundTree}
use Rattle.affine_forms.specs.declared.affine.Affine.{Affine}
use Rattle.affine_forms.specs.Claims.{form_value}
use Rattle.affine_forms.specs.Conditions.{condition_of}
use Rattle.affine_forms.specs.Forms.{affine_of}
use Rattle.transformers.specs.call_translation.Scopes.{ScopeTree}
use Rattle.region_translation.specs.region_sets.declared.region.Access.{Access}
use Rattle.region_translation.specs.region_sets.declared.region.Region.{Region}
use Rattle.hull_projection.specs.Unions.{HoldsSome}
use Rattle.array_regions.specs.declared.arms.Reached.{Reached}
use Rattle.array_regions.specs.Arms.{into_arm, past_arms, all_met, arm_reads, tests_reads}
use Rattle.array_regions.specs.References.{array_at}

-- ---- parts of an IF

-- a test is false at a point: its false side is exact, has lost no row, and has the point
pub record IsFalseAt (m : ScopeTree) (e : ExprTree) (p : Point) : Type 0 where
  pub exact : (condition_of m.scalars e).no_exact ≡ true
  pub whole : (condition_of m.scalars e).no.weak ≡ false
  pub point : HoldsAll p (condition_of m.scalars e).no.rows

-- an exact region has only points at which the test is false: where it is true, the region says of nothing that it is accessed
abbrev pub OnlyWhereFalse : ScopeTree → ExprTree → Region → Type 0
OnlyWhereFalse m e r = r.exact ≡ true → (p : Point) → HoldsSome p r.pieces → IsFalseAt m e p

abbrev pub test_of : ArmTree → ExprTree
test_of (tree.arm e body) = e

-- some regions, and behind them others, each of which is such
pub record IsFollowed (P : Region → Type 0) (own all : List Region) : Type 0 where
  pub below : List Region
  pub parts : all ≡ own ++ below
  pub each : AllByRecursion P below

-- below an arm: what the later tests read, and whatever is accessed in a later arm, or behind all of them
pub record LaterParts (m : ScopeTree) (a : ArmTree) (rest : ArmTrees) (w : Reached) : Type 0 where
  pub tests : IsFollowed (OnlyWhereFalse m (test_of a)) (arm_reads a m w) (tests_reads (tree.more_arms a rest) m w)
  pub later : (b : ArmTree) (rs : List Region) → AllByRecursion (OnlyWhereFalse m (test_of a)) (all_met (into_arm b m (past_arms (tree.more_arms a rest) m w)) rs)
  pub behind : (rs : List Region) → AllByRecursion (OnlyWhereFalse m (test_of a)) (all_met (past_arms (tree.more_arms a rest) m w) rs)

abbrev pub LaterPartsAreExact : Type 0
LaterPartsAreExact = (m : ScopeTree) (a : ArmTree) (rest : ArmTrees) (w : Reached) → LaterParts m a rest w

-- ---- elements

-- there is a form, and the k-th subscript of a point has its value
abbrev pub IsValue : Point → ℕ → Option Affine → Type 0
IsValue p k None = ⊥
IsValue p k (Some f) = p (Phi k) ≡ form_value p f

-- so it is of each dimension, from the k-th on
abbrev pub AreValues : ScopeTree → ℕ → ExprTrees → List BoundTree → Point → Type 0
AreValues m k tree.no_exprs bs p = Unit {0}
AreValues m k (tree.more_exprs e es) [] p = Unit {0}
AreValues m k (tree.more_exprs e es) (b ∷ bs) p = IsValue p k (affine_of m.scalars e) × AreValues m (suc k) es bs p

-- an exact region of an element has only subscripts that are the values of forms
abbrev pub ElementsAreExact : Type 0
ElementsAreExact =
    (m : ScopeTree) (a : Access) (n : ℕ) (es : ExprTrees) (bs : List BoundTree) → (array_at m a n es bs).exact ≡ true → (p : Point) → HoldsSome p (array_at m a n es bs).pieces → AreValues m 1 es bs p
