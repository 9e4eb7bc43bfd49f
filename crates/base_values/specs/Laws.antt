-- What is written is read again, and what is read fits.
use Rattle.std.specs.Prelude.{◌≡◌, ◌≤◌, ℕ, true, false, List, [], ◌∷◌, Some}
use Rattle.serde_json.specs.Data.{Data, depth}
use Rattle.serde_json.specs.Written.{has_float}
use Rattle.affine_systems.specs.Given.{Fits}
use Rattle.preconditions.specs.transformers.Given.{ResultsFit}
use Rattle.preconditions.specs.Statement.{EachFits}
use Rattle.region_sets.specs.Sets.{SetFits}
use Rattle.region_sets.specs.Lists.{SetsFit}
use Rattle.pipsmake_rules.specs.declared.kind.Kind.{Kind}
use Rattle.base_values.specs.declared.stored.StoredValue.{StoredValue}
use Rattle.base_values.specs.declared.stored.StoredValue.TheVariants as stored
use Rattle.base_values.specs.Modules.{ModuleNames}
use Rattle.base_values.specs.Read.{stored_of}
use Rattle.base_values.specs.Written.{stored_data}
use Rattle.base_values.specs.Sizes.{kind_of, is_small_value}
use Rattle.base_values.specs.Naming.{AreNames}
use Rattle.base_values.specs.Fits.{StoredFits}

-- a result that fits its module is read again as itself
abbrev pub WrittenIsRead : Type 0
WrittenIsRead = (m : ModuleNames) (v : StoredValue) → AreNames m.names → StoredFits m v → stored_of m (kind_of v) (stored_data m.names v) ≡ Some v

-- its numbers are small
abbrev pub FitsIsSmall : Type 0
FitsIsSmall = (m : ModuleNames) (v : StoredValue) → StoredFits m v → is_small_value v ≡ true

-- what is read and small fits the module, and is of that kind
abbrev pub ReadFits : Type 0
ReadFits = (m : ModuleNames) (k : Kind) (d : Data) (v : StoredValue) → stored_of m k d ≡ Some v → is_small_value v ≡ true → (kind_of v ≡ k) × StoredFits m v

-- the systems of a result are such as calls take
abbrev pub IsTaken : StoredValue → Type 0
IsTaken (stored.Effects r) = Unit {0}
IsTaken (stored.Transformers r) = ResultsFit r.at × Fits r.summary.system
IsTaken (stored.Preconditions r) = EachFits r.at × Fits r.summary
IsTaken (stored.Regions r) = SetsFit r.at × SetFits r.summary
IsTaken (stored.InRegions r) = SetsFit r.at × SetFits r.summary
IsTaken (stored.OutRegions r) = SetsFit r.at × SetFits r.summary
IsTaken (stored.Marks ms) = Unit {0}

-- those of one that fits a module are
abbrev pub FitsIsTaken : Type 0
FitsIsTaken = (m : ModuleNames) (v : StoredValue) → StoredFits m v → IsTaken v

-- what is written has no number that is not whole
abbrev pub WrittenIsWhole : Type 0
WrittenIsWhole = (names : List (List ℕ)) (v : StoredValue) → has_float (stored_data names v) ≡ false

-- and nests less deep than JSON may
abbrev pub WrittenIsFlat : Type 0
WrittenIsFlat = (names : List (List ℕ)) (v : StoredValue) → depth (stored_data names v) ≤ 12
