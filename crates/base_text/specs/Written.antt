-- A base as JSON data and as a text, in version 2 of its grammar.
use Rattle.std.specs.Prelude.{ℕ, if◌then◌else◌, nat_le, List, [], map, length, Option, unwrap_or, codes}
use Rattle.serde_json.specs.Data.{Data, string, object, Members, no_members, member}
use Rattle.serde_json.specs.Written.{compact_text}
use Rattle.session_texts.specs.pipsmake_rules.Kinds.{name_of}
use Rattle.base_json.specs.Shapes.{when}
use Rattle.base_json.specs.Written.{list_data, number_data, text_data}
use Rattle.base_values.specs.Modules.{ModuleNames}
use Rattle.base_values.specs.Sizes.{kind_of}
use Rattle.base_values.specs.Written.{stored_data}
use Rattle.base_text.specs.declared.base.BaseModule.{BaseModule}
use Rattle.base_text.specs.declared.base.StoredResult.{StoredResult}
use Rattle.base_text.specs.declared.base.Base.{Base}
use Rattle.base_text.specs.Formats.{format_of}
use Rattle.base_text.specs.Modules.{KnownNames, known, names_at, names_of}

abbrev pub module_data : BaseModule → Data
module_data m = object (member (codes "name") (text_data m.name) (member (codes "text") (text_data m.text) no_members))

-- no names: of a text that is not the one module of its name
abbrev pub no_names : ModuleNames
no_names = record { names = []; statements = []; loops = [] }

abbrev pub names_or_none : BaseModule → ModuleNames
names_or_none m = unwrap_or (names_of m) no_names

abbrev pub known_or_none : List BaseModule → KnownNames
known_or_none ms = known ms (map names_or_none ms)

abbrev pub names_for : KnownNames → List ℕ → ModuleNames
names_for k x = unwrap_or (names_at k x) no_names

-- the value is with the names of the symbols of its module
abbrev pub kind_and_value : KnownNames → StoredResult → Members
kind_and_value k r =
    member (codes "kind") (string (name_of (kind_of r.value))) (member (codes "name") (text_data r.name)
    (member (codes "value") (stored_data (names_for k r.name).names r.value) no_members))

-- in the current format of its kind
abbrev pub result_data : KnownNames → StoredResult → Data
result_data k r = object (member (codes "format") (number_data (format_of (kind_of r.value))) (kind_and_value k r))

abbrev pub data_with : List BaseModule → List StoredResult → Data
data_with ms rs =
    object (member (codes "modules") (list_data (map module_data ms)) (member (codes "pips") (number_data 2)
    (member (codes "results") (list_data (map (result_data (known_or_none ms)) rs)) no_members)))

abbrev pub base_data : Base → Data
base_data b = data_with b.modules b.results

-- compact, keys ascending, without a line end
unfoldable pub base_text : Base → List ℕ
base_text b = compact_text (base_data b)

-- ---- within a limit

abbrev pub without_results : Base → Base
without_results b = record { modules = b.modules; results = [] }

-- the base, or its modules alone where its text is longer than the limit
abbrev pub kept_base : Base → ℕ → Base
kept_base b limit = if nat_le (length (base_text b)) limit then b else without_results b

-- none where the text of its modules alone is longer, too
abbrev pub kept : Base → ℕ → Option (List ℕ)
kept b limit = when (nat_le (length (base_text (kept_base b limit))) limit) (base_text (kept_base b limit))

-- ---- in code: cited by private functions alone

-- with what results may name
abbrev pub data_for : KnownNames → List BaseModule → List StoredResult → Data
data_for k ms rs =
    object (member (codes "modules") (list_data (map module_data ms)) (member (codes "pips") (number_data 2)
    (member (codes "results") (list_data (map (result_data k) rs)) no_members)))
