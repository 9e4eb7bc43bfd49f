-- A base out of a text, in version 1 or 2 of its grammar.
use Rattle.std.specs.Prelude.{ℕ, ℤ, pos, Bool, false, ◌||◌, if◌then◌else◌, is_none, List, Option, Some, None, option_map, option_and_then, Result, Ok, Err, codes}
use Rattle.std.specs.List.{list_all, list_any}
use Rattle.std.specs.Ordering.{int_eq}
use Rattle.std.specs.Str.{is_utf8}
use Rattle.serde_json.specs.Data.{Data}
use Rattle.serde_json.specs.Read.{read}
use Rattle.base_json.specs.Shapes.{has_members, list_of, member_as, list_as, text_of, whole_of}
use Rattle.base_values.specs.Sizes.{is_small_value}
use Rattle.base_text.specs.declared.base.BaseModule.{BaseModule}
use Rattle.base_text.specs.declared.base.StoredResult.{StoredResult}
use Rattle.base_text.specs.declared.base.Base.{Base}
use Rattle.base_text.specs.declared.refusal.BaseRefusal.{BaseRefusal}
use Rattle.base_text.specs.declared.refusal.BaseRefusal.TheVariants.{NotJson, WrongVersion, WrongShape, NumberTooBig}
use Rattle.base_text.specs.declared.version.Version.{Version}
use Rattle.base_text.specs.declared.version.Version.TheVariants.{First, Second}
use Rattle.base_text.specs.Modules.{known_in}
use Rattle.base_text.specs.Entries.{has_later_format, results_of}

-- ---- a module: `{"name":N,"text":X}`

abbrev pub base_module : List ℕ → List ℕ → BaseModule
base_module x t = record { name = x; text = t }

abbrev pub module_of : Data → Option BaseModule
module_of d =
    if has_members 2 d
    then option_and_then (λ x. option_map (base_module x) (member_as text_of (codes "text") d)) (member_as text_of (codes "name") d)
    else None

-- ---- a version: `"pips":1` or `"pips":2`

abbrev pub version_with : ℤ → Option Version
version_with z = if int_eq z (pos 1) then Some First else (if int_eq z (pos 2) then Some Second else None)

-- the whole number of the version
abbrev pub pips_of : Data → Option ℤ
pips_of d = member_as whole_of (codes "pips") d

abbrev pub version_of : Data → Option Version
version_of d = option_and_then version_with (pips_of d)

-- a whole number that is of no version
abbrev pub is_unknown : Option ℤ → Bool
is_unknown None = false
is_unknown (Some z) = is_none (version_with z)

abbrev pub any_later : Option (List Data) → Bool
any_later None = false
any_later (Some ds) = list_any has_later_format ds

-- in version 2, a result of a later format than the current one of its kind
abbrev pub is_later : Option Version → Data → Bool
is_later None d = false
is_later (Some First) d = false
is_later (Some Second) d = any_later (member_as list_of (codes "results") d)

-- of another version, or with a result of a later format
abbrev pub is_another : Data → Bool
is_another d = is_unknown (pips_of d) || is_later (version_of d) d

-- ---- a base: `{"modules":[..],"pips":2,"results":[..]}`

abbrev pub base : List BaseModule → List StoredResult → Base
base ms rs = record { modules = ms; results = rs }

abbrev pub base_with : Data → Version → List BaseModule → Option Base
base_with d v ms = option_and_then (λ k. option_map (base ms) (member_as (results_of v k) (codes "results") d)) (known_in ms)

abbrev pub base_at : Data → Option Base
base_at d = if has_members 3 d then option_and_then (λ v. option_and_then (base_with d v) (member_as (list_as module_of) (codes "modules") d)) (version_of d) else None

-- ---- a text

-- the JSON value of a text
abbrev pub data_of : List ℕ → Option Data
data_of text = if is_utf8 text then read text else None

-- the numbers of the rows of all results are below 2^62 in magnitude
abbrev pub are_small : List StoredResult → Bool
are_small rs = list_all (λ (r : StoredResult). is_small_value r.value) rs

abbrev pub if_small : Option Base → Result Base BaseRefusal
if_small None = Err WrongShape
if_small (Some b) = if are_small b.results then Ok b else Err NumberTooBig

abbrev pub base_in : Option Data → Result Base BaseRefusal
base_in None = Err NotJson
base_in (Some d) = if is_another d then Err WrongVersion else if_small (base_at d)

-- no JSON, then another version or a later format, then another shape, then a number that is too big
unfoldable pub base_of : List ℕ → Result Base BaseRefusal
base_of text = base_in (data_of text)
