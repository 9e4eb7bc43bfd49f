-- The analyses of a program leave no module and no statement out.
use Rattle.std.specs.Prelude.{◌≡◌, ℕ, List, Some, IsSome, slice_get}
use Rattle.f77_meaning.specs.Modules.{Known}
use Rattle.f77_ast.specs.StatementNumbers.{list_numbers}
use Rattle.module_phases.specs.ScalarPhases.{Analysis}
use Rattle.laws_analyses.specs.Claims.{precondition_in, transformer_in}

-- each statement of the module has a precondition and a transformer
pub record IsWhole (a : Analysis) : Type 0 where
  pub preconditions : (j n : ℕ) → slice_get (list_numbers a.found.known.read.body) j ≡ Some n → IsSome (precondition_in a n)
  pub transformers : (j n : ℕ) → slice_get (list_numbers a.found.known.read.body) j ≡ Some n → IsSome (transformer_in a n)

-- each module has an analysis, and no name has two; each is of a module, and whole
pub record AreWhole (ks : List Known) (as' : List Analysis) : Type 0 where
  pub each : (i : ℕ) (k : Known) → slice_get ks i ≡ Some k → (j : ℕ) × (a : Analysis) × (slice_get as' j ≡ Some a) × (a.found.known ≡ k)
  pub once : (i j : ℕ) (a b : Analysis) → slice_get as' i ≡ Some a → slice_get as' j ≡ Some b → a.found.known.read.name ≡ b.found.known.read.name → i ≡ j
  pub modules : (j : ℕ) (a : Analysis) → slice_get as' j ≡ Some a → (i : ℕ) × (slice_get ks i ≡ Some a.found.known)
  pub whole : (j : ℕ) (a : Analysis) → slice_get as' j ≡ Some a → IsWhole a
