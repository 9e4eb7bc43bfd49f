-- The results of a base out of JSON data: those whose values are in the current formats, and the places of older ones.
use Rattle.std.specs.Prelude.{ℕ, ℤ, pos, Bool, false, if◌then◌else◌, int_lt, int_le, List, [], ◌∷◌, Option, Some, None, option_map, option_and_then, codes}
use Rattle.serde_json.specs.Data.{Data}
use Rattle.serde_json.specs.Find.{as_str}
use Rattle.session_texts.specs.pipsmake_rules.declared.kind.Kind.{Kind}
use Rattle.session_texts.specs.pipsmake_rules.Kinds.{kind_with}
use Rattle.base_json.specs.Shapes.{has_members, member_as, list_as, when, text_of, whole_of}
use Rattle.base_values.specs.declared.stored.StoredValue.{StoredValue}
use Rattle.base_values.specs.Modules.{ModuleNames}
use Rattle.base_values.specs.Read.{stored_of}
use Rattle.base_values.specs.Sizes.{kind_of}
use Rattle.base_text.specs.declared.base.StoredResult.{StoredResult}
use Rattle.base_text.specs.declared.entries.Entry.{Entry}
use Rattle.base_text.specs.declared.entries.Entry.TheVariants.{Current, Old}
use Rattle.base_text.specs.declared.version.Version.{Version}
use Rattle.base_text.specs.declared.version.Version.TheVariants.{First, Second}
use Rattle.base_text.specs.Formats.{is_stored, format_of}
use Rattle.base_text.specs.Modules.{KnownNames, names_at}
use Rattle.base_text.specs.Order.{in_order_by}

-- ---- kinds and format numbers

-- a stored kind by its name
abbrev pub kind_in : Data → Option Kind
kind_in d = option_and_then (λ k. when (is_stored k) k) (option_and_then kind_with (as_str d))

-- a whole number from 1
abbrev pub positive_of : Data → Option ℤ
positive_of d = option_and_then (λ z. when (int_le (pos 1) z) z) (whole_of d)

-- the format number of a result: in version 1 it has none, and counts as of 1
abbrev pub format_in : Version → Data → Option ℤ
format_in First d = Some (pos 1)
format_in Second d = member_as positive_of (codes "format") d

abbrev pub is_above : Option Kind → Option ℤ → Bool
is_above None f = false
is_above (Some k) None = false
is_above (Some k) (Some z) = int_lt (pos (format_of k)) z

-- an object with a stored kind under `kind`, and under `format` a whole number above the current one of this kind
abbrev pub has_later_format : Data → Bool
has_later_format d = is_above (member_as kind_in (codes "kind") d) (member_as whole_of (codes "format") d)

-- ---- one result: `{"format":F,"kind":K,"name":N,"value":V}`, without the format in version 1

abbrev pub count_of : Version → ℕ
count_of First = 3
count_of Second = 4

abbrev pub stored_result : List ℕ → StoredValue → StoredResult
stored_result x v = record { name = x; value = v }

-- of this kind and format number, of a module with this name that names this, by its value: where the number is below that of the kind, the value may be any
abbrev pub entry_in : ModuleNames → Kind → List ℕ → ℤ → Data → Option Entry
entry_in n kind x f d = if int_lt f (pos (format_of kind)) then Some (Old x kind) else option_map (λ v. Current (stored_result x v)) (stored_of n kind d)

-- of this kind, of the module with this name; a base with a later format was refused before
abbrev pub entry_with : Version → KnownNames → Data → Kind → List ℕ → Option Entry
entry_with v k d kind x = option_and_then (λ f. option_and_then (λ n. member_as (entry_in n kind x f) (codes "value") d) (names_at k x)) (format_in v d)

abbrev pub entry_of : Version → KnownNames → Data → Option Entry
entry_of v k d =
    if has_members (count_of v) d
    then option_and_then (λ kind. option_and_then (λ x. entry_with v k d kind x) (member_as text_of (codes "name") d)) (member_as kind_in (codes "kind") d)
    else None

-- ---- all results

abbrev pub entry_name : Entry → List ℕ
entry_name (Current r) = r.name
entry_name (Old x k) = x

abbrev pub entry_kind : Entry → Kind
entry_kind (Current r) = kind_of r.value
entry_kind (Old x k) = k

-- in their order, older ones too
abbrev pub entries_of : Version → KnownNames → Data → Option (List Entry)
entries_of v k d = option_and_then (λ es. when (in_order_by entry_name entry_kind k.names es) es) (list_as (entry_of v k) d)

-- without the older ones
abbrev pub current : List Entry → List StoredResult
current [] = []
current (Current r ∷ es) = r ∷ current es
current (Old x k ∷ es) = current es

abbrev pub results_of : Version → KnownNames → Data → Option (List StoredResult)
results_of v k d = option_map current (entries_of v k d)
