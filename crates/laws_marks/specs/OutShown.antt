-- What OUT regions show of a stretch of a run, and of what the run does after it.
use Rattle.std.specs.Prelude.{◌≡◌, ℕ, ℤ, true, false, List, Some}
use Rattle.f77_ast.specs.Store.{Store}
use Rattle.f77_ast.specs.Runs.{Event}
use Rattle.f77_ast.specs.declared.variable.Variable.{Variable}
use Rattle.f77_meaning.specs.Accesses.{is_written, is_read_first}
use Rattle.affine_forms.specs.Claims.{numbers_of}
use Rattle.preconditions.specs.transformer_algebra.Laws.{In}
use Rattle.in_out_regions.specs.region_sets.declared.region.Access.TheVariants.{Write, Out}
use Rattle.in_out_regions.specs.region_sets.declared.region.Region.{Region}
use Rattle.in_out_regions.specs.region_sets.Claims.{LiesIn, LiesInSet}
use Rattle.laws_analyses.specs.Regions.Settings.{scene}
use Rattle.laws_analyses.specs.Regions.Shown.{is_hidden}
use Rattle.laws_marks.specs.InFrames.{Frame, elements_in}

-- a unit is written, and what comes later reads it before it writes it
pub record IsNeeded (es later : List Event) (u : ℕ) : Type 0 where
  pub written : is_written u es ≡ true
  pub read : is_read_first u later ≡ true

-- a unit of an element of a variable that regions may name
pub record IsElement (k : Frame) (u : ℕ) : Type 0 where
  pub variable : Variable
  pub phi : ℕ → ℤ
  pub there : elements_in k variable phi ≡ Some u

-- all units that are needed later lie in the regions, at the numbers of the store
abbrev pub NeedsLie : Frame → List Region → Store → List Event → List Event → Type 0
NeedsLie k rs s es later = (u : ℕ) → IsElement k u → IsNeeded es later u → LiesInSet (scene k.base) (elements_in k) Out rs (numbers_of s) u

-- the same of those that the execution does not hide
abbrev pub OutShown : Frame → List Region → Store → List Event → List Event → Type 0
OutShown k rs s es later = (u : ℕ) → IsNeeded es later u → is_hidden k.ks k.g es u ≡ false → LiesInSet (scene k.base) (elements_in k) Out rs (numbers_of s) u

-- a unit lies in a region of this variable, among those that are given
pub record LiesAs (k : Frame) (v : Variable) (rs : List Region) (s : Store) (u : ℕ) : Type 0 where
  pub region : Region
  pub is_one : In region rs
  pub kind : region.kind ≡ Out
  pub same : region.variable ≡ v
  pub lies : LiesIn (scene k.base) (elements_in k region.variable) region (numbers_of s) u

-- of each variable in whose WRITE region a needed unit lies, the OUT region has it
abbrev pub IsHanded : Frame → List Region → List Region → Store → List Event → List Event → Type 0
IsHanded k ws os s es later =
    (u : ℕ) → IsNeeded es later u → (w : Region) → In w ws → w.kind ≡ Write → LiesIn (scene k.base) (elements_in k w.variable) w (numbers_of s) u → LiesAs k w.variable os s u
