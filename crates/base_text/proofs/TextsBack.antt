-- The text of a base in the grammar is read again as this base.
use Rattle.std.proofs.Common.{◌≡◌, ℕ, ◌<◌, ◌^◌, List, Some, map, Ok, refl, sym, subst, ap, ◌∙◌, arith}
use Rattle.std.specs.Prelude.{unwrap_or, slice_get}
use Rattle.serde_json.specs.Data.{string}
use Rattle.serde_json.specs.Read.{read}
use Rattle.serde_json.specs.Written.{compact_text}
use Rattle.f77_ast.specs.Symbols.{number_from}
use Rattle.session_texts.specs.pipsmake_rules.Kinds.{name_of}
use Rattle.base_json.specs.Written.{list_data}
use Rattle.base_json.proofs.Back.{IsBack, word_back, number_back, no_members_back, member_back, object_back, read_back}
use Rattle.base_values.specs.declared.stored.StoredValue.{StoredValue}
use Rattle.base_values.specs.declared.stored.StoredValue.TheVariants as stored
use Rattle.base_values.specs.Modules.{ModuleNames}
use Rattle.base_values.specs.Naming.{Each}
use Rattle.base_values.specs.Ranges.{NumbersFit}
use Rattle.base_values.specs.Sizes.{kind_of}
use Rattle.base_values.specs.Written.{stored_data}
use Rattle.base_values.proofs.Options.{and_then_some, each_map, each_both}
use Rattle.base_values.proofs.TextsBack.{list_is_back, text_is_back, stored_back}
use Rattle.base_text.specs.declared.base.BaseModule.{BaseModule}
use Rattle.base_text.specs.declared.base.StoredResult.{StoredResult}
use Rattle.base_text.specs.declared.base.Base.{Base}
use Rattle.base_text.specs.Formats.{format_of}
use Rattle.base_text.specs.Modules.{known, names_each, module_names_in}
use Rattle.base_text.specs.Read.{base, data_of, base_in, base_of}
use Rattle.base_text.specs.Written.{no_names, module_data, result_data, data_with, base_data}
use Rattle.base_text.specs.Grammar.{HasBytes, ResultFits, IsBase}
use Rattle.base_text.proofs.KnownLaws.{known_same, found_names, found_bytes}
use Rattle.base_text.proofs.Sizes.{base_within}
use Rattle.base_text.proofs.Texts.{data_some}
use Rattle.base_text.proofs.FormatLaws.{format_fits}
use Rattle.base_text.proofs.Back.{written_is_read}

module_is_back : (m : BaseModule) → HasBytes m → IsBack (module_data m)
module_is_back m h = object_back (member_back refl (text_is_back m.name h.0) (member_back refl (text_is_back m.text h.1) no_members_back))

kind_is_back : (v : StoredValue) → IsBack (string (name_of (kind_of v)))
kind_is_back (stored.Effects r) = word_back (name_of (kind_of (stored.Effects r))) refl
kind_is_back (stored.Transformers r) = word_back (name_of (kind_of (stored.Transformers r))) refl
kind_is_back (stored.Preconditions r) = word_back (name_of (kind_of (stored.Preconditions r))) refl
kind_is_back (stored.Regions r) = word_back (name_of (kind_of (stored.Regions r))) refl
kind_is_back (stored.InRegions r) = word_back (name_of (kind_of (stored.InRegions r))) refl
kind_is_back (stored.OutRegions r) = word_back (name_of (kind_of (stored.OutRegions r))) refl
kind_is_back (stored.Marks ms) = word_back (name_of (kind_of (stored.Marks ms))) refl

-- a result of one of the modules, which it fits
result_is_back : (ms : List BaseModule) (ns : List ModuleNames) → Each HasBytes ms → names_each ms ≡ Some ns → (r : StoredResult) → ResultFits (known ms ns) r → NumbersFit r.value
    → IsBack (result_data (known ms ns) r)
result_is_back ms ns h e r f l =
    let at = and_then_some (slice_get ns) (number_from 0 (module_names_in ms) r.name) f.names f.of_module in
    let value = stored_back f.names r.value (found_names ms ns r.name f.names e f.of_module) f.fits l in
    object_back (member_back refl (number_back (format_of (kind_of r.value)) (format_fits (kind_of r.value))) (member_back refl (kind_is_back r.value) (member_back refl (text_is_back r.name (found_bytes 0 ms r.name at.0 h at.1))
    (member_back refl (subst (λ o. IsBack (stored_data (unwrap_or o no_names).names r.value)) (sym f.of_module) value) no_members_back))))

base_is_back : (b : Base) → IsBase b → Each (λ (r : StoredResult). NumbersFit r.value) b.results → IsBack (base_data b)
base_is_back b h l =
    let k = known b.modules h.found in
    let each = each_both (ResultFits k) (λ (r : StoredResult). NumbersFit r.value) (λ r. IsBack (result_data k r)) (result_is_back b.modules h.found h.bytes h.are_modules) b.results h.fit l in
    let results = subst (λ j. IsBack (list_data (map (result_data j) b.results))) (sym (known_same b.modules h.found h.are_modules)) (list_is_back (result_data k) b.results each) in
    let two : 2 < 2 ^ 64 = omega arith in
    object_back (member_back refl (list_is_back module_data b.modules (each_map HasBytes (λ m. IsBack (module_data m)) module_is_back b.modules h.bytes))
    (member_back refl (number_back 2 two) (member_back refl results no_members_back)))

-- what a text that was written is read as
pub text_read : (ms : List BaseModule) (rs : List StoredResult) (t : List ℕ) → t ≡ compact_text (data_with ms rs) → Each (λ (r : StoredResult). NumbersFit r.value) rs → IsBase (base ms rs) → base_of t ≡ Ok (base ms rs)
unfolding base_of
text_read ms rs t e l h =
    let d = data_with ms rs in
    let k : IsBack (data_with ms rs) = base_is_back (base ms rs) h l in
    let back : read (compact_text (data_with ms rs)) ≡ Some (data_with ms rs) = read_back d k (base_within ms rs) in
    ap (λ u. base_in (data_of u)) e ∙ (ap base_in (data_some (compact_text d) d k.utf8 back) ∙ written_is_read (base ms rs) h)
