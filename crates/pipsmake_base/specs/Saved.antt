-- A base as texts and results of a session, and when it holds only results of its own texts.
use Rattle.std.specs.Prelude.{◌≡◌, ◌⊎◌, List, [], ◌∷◌, map, Option, Some, None}
use Rattle.pipsmake_db.specs.pipsmake_rules.declared.key.Key.{Key}
use Rattle.pipsmake_db.specs.base_values.declared.stored.StoredValue.{StoredValue}
use Rattle.pipsmake_db.specs.base_values.declared.stored.StoredValue.TheVariants as stored
use Rattle.pipsmake_db.specs.base_values.Naming.{Each}
use Rattle.pipsmake_db.specs.base_values.Sizes.{kind_of}
use Rattle.base_text.specs.declared.base.BaseModule.{BaseModule}
use Rattle.base_text.specs.declared.base.StoredResult.{StoredResult}
use Rattle.base_text.specs.declared.base.Base.{Base}
use Rattle.pipsmake_db.specs.pipsmake_meaning.Texts.{ModuleText}
use Rattle.pipsmake_db.specs.pipsmake_meaning.Definitions.{definition}
use Rattle.pipsmake_db.specs.pipsmake_meaning.Session.{none_made, made_now}
use Rattle.pipsmake_db.specs.pipsmake_meaning.Values.{Value, effects, transformers, preconditions, regions, ins, outs, marks}
use Rattle.pipsmake_db.specs.State.{State}

-- the text of a module, which begins at its own first line
abbrev pub text_at : BaseModule → ModuleText
text_at m = record { name = m.name; text = m.text; first = 1 }

-- the texts of a base, in its order
abbrev pub texts_in : Base → List ModuleText
texts_in b = map text_at b.modules

-- the result that is stored: of this kind and module
abbrev pub key_at : StoredResult → Key
key_at r = record { kind = kind_of r.value; name = r.name }

-- the results that a base holds, in its order
abbrev pub keys_in : Base → List Key
keys_in b = map key_at b.results

-- a stored value as the value of a result
abbrev pub value_in : StoredValue → Value
value_in (stored.Effects r) = effects r
value_in (stored.Transformers r) = transformers r
value_in (stored.Preconditions r) = preconditions r
value_in (stored.Regions r) = regions r
value_in (stored.InRegions r) = ins r
value_in (stored.OutRegions r) = outs r
value_in (stored.Marks ms) = marks ms

-- ---- results of their own texts

-- a stored result is what is defined for these texts
abbrev pub IsDefinedAt : List ModuleText → StoredResult → Type 0
IsDefinedAt ts r = definition ts (kind_of r.value) r.name ≡ Some (value_in r.value)

-- a base holds only results of its own texts: each is what is defined for the texts that it is stored with
abbrev pub IsSaved : Base → Type 0
IsSaved b = Each (IsDefinedAt (texts_in b)) b.results

-- the first of these results that is not what is defined for these texts; none where all are
abbrev pub FirstStale : List ModuleText → List StoredResult → Option Key → Type 0
FirstStale ts [] o = o ≡ None
FirstStale ts (r ∷ rs) o = (IsDefinedAt ts r × FirstStale ts rs o) ⊎ ((IsDefinedAt ts r → ⊥) × (o ≡ Some (key_at r)))

-- ---- a session that goes on from a base

-- the texts are those of the base; each stored result was made at them, and is fresh; nothing else was made
abbrev pub loaded_state : Base → State
loaded_state b = record { texts = texts_in b; made = made_now none_made (texts_in b) (keys_in b); fresh = keys_in b }
