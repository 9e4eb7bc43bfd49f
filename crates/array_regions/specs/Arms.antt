-- How the parts of an IF are reached, and what is accessed there (ANSI X3.9-1978 §11.5 to §11.9).
use Rattle.std.specs.Prelude.{Bool, true, ◌&&◌, List, [], ◌++◌, map}
use Rattle.affine_systems.specs.declared.row.System.{System}
use Rattle.affine_systems.specs.Given.{Fits}
use Rattle.affine_systems.specs.Calls.{meet}
use Rattle.f77_ast.specs.Trees.{ExprTree, ArmTree, ArmTrees}
use Rattle.f77_ast.specs.Trees as tree
use Rattle.affine_forms.specs.Conditions.{no_rows, condition_of}
use Rattle.transformers.specs.call_translation.Scopes.{ScopeTree}
use Rattle.region_translation.specs.region_sets.declared.region.Region.{Region}
use Rattle.region_translation.specs.region_sets.Regions.{remade}
use Rattle.region_translation.specs.region_sets.Sets.{unite_all}
use Rattle.array_regions.specs.declared.arms.Reached.{Reached}
use Rattle.array_regions.specs.Reads.{reads}

-- ---- ways to a part

abbrev pub reached : System → Bool → Reached
reached s e = record { system = s; exact = e }

abbrev pub ReachedFits : Reached → Type 0
ReachedFits w = Fits w.system

abbrev pub always : Reached
always = reached no_rows true

-- where a test that is reached so is true, and where it is false
abbrev pub if_true : ScopeTree → ExprTree → Reached → Reached
if_true m e w = reached (meet w.system (condition_of m.scalars e).yes) (w.exact && (condition_of m.scalars e).yes_exact)

abbrev pub if_false : ScopeTree → ExprTree → Reached → Reached
if_false m e w = reached (meet w.system (condition_of m.scalars e).no) (w.exact && (condition_of m.scalars e).no_exact)

-- where the test of an arm is true and where it is false, and where the tests of all arms are false
abbrev pub into_arm : ArmTree → ScopeTree → Reached → Reached
into_arm (tree.arm e body) m w = if_true m e w

abbrev pub past_arm : ArmTree → ScopeTree → Reached → Reached
past_arm (tree.arm e body) m w = if_false m e w

abbrev pub past_arms : ArmTrees → ScopeTree → Reached → Reached
past_arms tree.no_arms m w = w
past_arms (tree.more_arms a rest) m w = past_arms rest m (past_arm a m w)

-- ---- regions of a part

abbrev pub met_pieces : System → List System → List System
met_pieces s ss = map (λ r. meet r s) ss

-- exact where the region is and the part is reached just there
abbrev pub under_tests : Reached → Region → Region
under_tests w r = remade r (r.exact && w.exact) (met_pieces w.system r.pieces)

abbrev pub all_met : Reached → List Region → List Region
all_met w rs = map (under_tests w) rs

-- what a test reads that is reached so
abbrev pub test_reads : ScopeTree → ExprTree → Reached → List Region
test_reads m e w = all_met w (reads e m)

abbrev pub arm_reads : ArmTree → ScopeTree → Reached → List Region
arm_reads (tree.arm e body) m w = test_reads m e w

-- the tests of arms, each where those above it are false
abbrev pub tests_reads : ArmTrees → ScopeTree → Reached → List Region
tests_reads tree.no_arms m w = []
tests_reads (tree.more_arms a rest) m w = arm_reads a m w ++ tests_reads rest m (past_arm a m w)

-- a logical IF whose statement has this set
abbrev pub if_set : ScopeTree → ExprTree → List Region → List Region
if_set m e rs = unite_all (reads e m ++ all_met (if_true m e always) rs)
