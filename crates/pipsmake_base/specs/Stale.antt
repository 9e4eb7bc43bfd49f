-- Whether a stored result is another than what is defined, or kept: cited by private functions alone.
use Rattle.std.specs.Prelude.{◌≡◌, Bool, true, false, List, Some}
use Rattle.pipsmake_db.specs.base_values.Sizes.{kind_of}
use Rattle.base_text.specs.declared.base.StoredResult.{StoredResult}
use Rattle.pipsmake_db.specs.pipsmake_meaning.Texts.{ModuleText}
use Rattle.pipsmake_db.specs.pipsmake_meaning.MemoCells.{MemoCells, kept_of}
use Rattle.pipsmake_base.specs.Saved.{value_in, IsDefinedAt}

-- a stored result is not what is defined for these texts, or is
abbrev pub IsStale : List ModuleText → StoredResult → Bool → Type 0
IsStale ts r true = IsDefinedAt ts r → ⊥
IsStale ts r false = IsDefinedAt ts r

-- it is what is kept
abbrev pub IsKeptAs : MemoCells → StoredResult → Type 0
IsKeptAs sh r = kept_of sh (kind_of r.value) r.name ≡ Some (value_in r.value)

-- it is another than what is kept, or is that
abbrev pub IsOther : MemoCells → StoredResult → Bool → Type 0
IsOther sh r true = IsKeptAs sh r → ⊥
IsOther sh r false = IsKeptAs sh r
