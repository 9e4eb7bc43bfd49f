-- What regions show of a run: of what it reads and writes, and how it ends.
use Rattle.std.specs.Prelude.{◌≡◌, ℕ, Bool, true, false, ◌&&◌, ◌||◌, nat_eq, List}
use Rattle.std.specs.List.{list_any}
use Rattle.f77_ast.specs.Store.{Store}
use Rattle.f77_ast.specs.Runs.{Event, Answer, Gave, Broke}
use Rattle.f77_ast.specs.Plans.{Flow, Normal, Jump, Returned, Stopped}
use Rattle.call_graph.specs.declared.graph.Graph.{Graph}
use Rattle.f77_meaning.specs.Areas.{is_own_unit}
use Rattle.f77_meaning.specs.Modules.{Known, all_lost}
use Rattle.f77_meaning.specs.Linked.{numbering}
use Rattle.f77_meaning.specs.Accesses.{is_read, is_written, is_entered}
use Rattle.affine_forms.specs.Claims.{numbers_of}
use Rattle.in_out_regions.specs.region_sets.declared.region.Access.{Access}
use Rattle.in_out_regions.specs.region_sets.declared.region.Access.TheVariants.{Read, Write, In, Out}
use Rattle.in_out_regions.specs.region_sets.declared.region.Region.{Region}
use Rattle.in_out_regions.specs.region_sets.Claims.{LiesInSet, IsSharpSet}
use Rattle.laws_analyses.specs.Regions.Settings.{Setting, scene, elements_at}

-- the units that are accessed so
abbrev pub accessed : Access → List Event → ℕ → Bool
accessed Read es u = is_read u es
accessed Write es u = is_written u es
accessed In es u = false
accessed Out es u = false

-- a unit of a local, not saved, of a module that was entered
abbrev pub is_lost : List Known → Graph → List Event → ℕ → Bool
is_lost ks g es u = list_any (λ k. is_entered k.read.name es && list_any (λ v. nat_eq v u) (all_lost (numbering ks g) k.read.name k.symbols k.symbols)) ks

-- that, or the unit of an expression that is an actual
abbrev pub is_hidden : List Known → Graph → List Event → ℕ → Bool
is_hidden ks g es u = is_own_unit (numbering ks g) u || is_lost ks g es u

-- a unit that is not hidden is accessed
pub record Touches (ks : List Known) (g : Graph) (a : Access) (es : List Event) (u : ℕ) : Type 0 where
  pub is_so : accessed a es u ≡ true
  pub seen : is_hidden ks g es u ≡ false

-- all that is accessed, but what is hidden, lies in the regions, at the numbers of the store
abbrev pub Holds : Setting → List Region → Store → List Event → Type 0
Holds k rs s es = (a : Access) (u : ℕ) → Touches k.ks k.g a es u → LiesInSet (scene k) (elements_at k) a rs (numbers_of s) u

-- what exact regions describe is accessed
abbrev pub Sharp : Setting → List Region → Store → List Event → Type 0
Sharp k rs s es = IsSharpSet (scene k) (elements_at k) rs (numbers_of s) (λ a. accessed a es)

-- at a normal end; own: whether a RETURN counts as that
abbrev pub Finally : Bool → Answer Flow → Type 0 → Type 0
Finally own (Gave Normal) P = P
Finally own (Gave (Jump l)) P = Unit {0}
Finally own (Gave Returned) P = own ≡ true → P
Finally own (Gave Stopped) P = Unit {0}
Finally own (Broke b) P = Unit {0}

pub record Shown (k : Setting) (own : Bool) (rs : List Region) (s : Store) (a : Answer Flow) (es : List Event) : Type 0 where
  pub holds : Holds k rs s es
  pub sharp : Finally own a (Sharp k rs s es)
