-- What is said of a program leaves no module, no statement and no loop out.
use Rattle.std.specs.Prelude.{◌≡◌, ℕ, List, Option, Some, IsSome, slice_get}
use Rattle.f77_ast.specs.StatementNumbers.{list_numbers}
use Rattle.f77_meaning.specs.Modules.{Known}
use Rattle.in_out_regions.specs.transformers.Lists.{value_at}
use Rattle.laws_bounds.specs.laws_analyses.Coverage.{IsWhole}
use Rattle.laws_bounds.specs.laws_analyses.Regions.Claims.{set_in}
use Rattle.laws_lines.specs.Marks.Marked.{loops_in}
use Rattle.pipsmake_base.specs.loop_marker.Results.{ModuleResults}
use Rattle.pips_top.specs.Said.{scalars_said}

-- for each of these numbers there is a result
abbrev pub HasEach : {T : Type 0} → List ℕ → (ℕ → Option T) → Type 0
HasEach ns result = (j n : ℕ) → slice_get ns j ≡ Some n → IsSome (result n)

-- each statement of the module has a precondition and a transformer, a set of READ and WRITE regions, one of IN and one of OUT regions; each DO has a mark
pub record IsCovered (f : ModuleResults) : Type 0 where
  pub scalars : IsWhole (scalars_said f)
  pub regions : HasEach (list_numbers f.known.read.body) (set_in f.regions)
  pub ins : HasEach (list_numbers f.known.read.body) (set_in f.ins)
  pub outs : HasEach (list_numbers f.known.read.body) (set_in f.outs)
  pub marks : HasEach (loops_in f.known.read.body) (value_at f.marks)

-- something is said of each module, once, and of nothing else, and covers the module
pub record AreCovered (ks : List Known) (fs : List ModuleResults) : Type 0 where
  pub each : (i : ℕ) (k : Known) → slice_get ks i ≡ Some k → (j : ℕ) × (f : ModuleResults) × (slice_get fs j ≡ Some f) × (f.known ≡ k)
  pub once : (i j : ℕ) (e f : ModuleResults) → slice_get fs i ≡ Some e → slice_get fs j ≡ Some f → e.known.read.name ≡ f.known.read.name → i ≡ j
  pub modules : (j : ℕ) (f : ModuleResults) → slice_get fs j ≡ Some f → (i : ℕ) × (slice_get ks i ≡ Some f.known)
  pub covered : (j : ℕ) (f : ModuleResults) → slice_get fs j ≡ Some f → IsCovered f
