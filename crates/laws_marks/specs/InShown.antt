-- What IN regions show of a run: of what it reads before it writes it, and how it ended.
use Rattle.std.specs.Prelude.{◌≡◌, ℕ, Bool, true, false, List, None}
use Rattle.f77_ast.specs.Store.{Store}
use Rattle.f77_ast.specs.Runs.{Event, Answer}
use Rattle.f77_ast.specs.Writes.{Locks}
use Rattle.f77_ast.specs.Plans.{Flow}
use Rattle.call_graph.specs.declared.graph.Graph.{Graph}
use Rattle.f77_meaning.specs.Modules.{Known}
use Rattle.f77_meaning.specs.Accesses.{is_written, is_read_first}
use Rattle.affine_forms.specs.Claims.{numbers_of}
use Rattle.in_out_regions.specs.region_sets.declared.region.Access.TheVariants.{In}
use Rattle.in_out_regions.specs.region_sets.declared.region.Region.{Region}
use Rattle.in_out_regions.specs.region_sets.Claims.{LiesInSet, IsSharpSet}
use Rattle.laws_analyses.specs.Regions.Settings.{scene}
use Rattle.laws_analyses.specs.Regions.Shown.{is_lost, is_hidden, Finally}
use Rattle.laws_marks.specs.InFrames.{Frame, elements_in}

abbrev pub first_read : List Event → ℕ → Bool
first_read es u = is_read_first u es

-- a unit that is not hidden is read first
pub record IsFirst (ks : List Known) (g : Graph) (es : List Event) (u : ℕ) : Type 0 where
  pub is_so : is_read_first u es ≡ true
  pub seen : is_hidden ks g es u ≡ false

-- all that is read first, but what is hidden, lies in the regions, at the numbers of the store
abbrev pub FirstHolds : Frame → List Region → Store → List Event → Type 0
FirstHolds k rs s es = (u : ℕ) → IsFirst k.ks k.g es u → LiesInSet (scene k.base) (elements_in k) In rs (numbers_of s) u

-- what exact regions describe is read first
abbrev pub FirstSharp : Frame → List Region → Store → List Event → Type 0
FirstSharp k rs s es = IsSharpSet (scene k.base) (elements_in k) rs (numbers_of s) (λ a. first_read es)

-- what is written is not locked, and a unit of a local of a module that was entered is below
pub record IsFree (k : Frame) (locked : Locks) (es : List Event) : Type 0 where
  pub unlocked : (u : ℕ) → is_written u es ≡ true → locked u ≡ None
  pub lost : (u : ℕ) → is_lost k.ks k.g es u ≡ true → k.low u ≡ true

-- own: whether a RETURN counts as a normal end
pub record FirstShown (k : Frame) (own : Bool) (locked : Locks) (rs : List Region) (s : Store) (a : Answer Flow) (es : List Event) : Type 0 where
  pub holds : FirstHolds k rs s es
  pub sharp : Finally own a (FirstSharp k rs s es)
  pub free : IsFree k locked es
