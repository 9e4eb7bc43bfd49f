-- A base in the grammar is read again as it was written.
use Rattle.std.proofs.Common.{◌≡◌, true, false, List, [], ◌∷◌, map, Some, None, option_map, option_and_then, Ok, Err, refl, ap, ◌∙◌, pos}
use Rattle.std.specs.Prelude.{unwrap_or, slice_get, int_lt}
use Rattle.std.specs.List.{list_any}
use Rattle.f77_ast.specs.Symbols.{number_from}
use Rattle.base_json.specs.Shapes.{each_as, list_as, when, text_of}
use Rattle.base_json.specs.Written.{list_data, text_data}
use Rattle.base_json.specs.Distinct.{are_new}
use Rattle.base_json.proofs.Parts.{data-items}
use Rattle.base_values.specs.Modules.{ModuleNames}
use Rattle.base_values.specs.Naming.{Each, AreBytes}
use Rattle.base_values.specs.Read.{stored_of}
use Rattle.base_values.specs.Sizes.{kind_of, is_small_value}
use Rattle.base_values.specs.Written.{stored_data}
use Rattle.base_values.proofs.Options.{and_then_some, each_map, all_each, each_to, list_back}
use Rattle.base_values.proofs.RowsBack.{when_true}
use Rattle.base_values.proofs.NamesBack.{text_back}
use Rattle.base_values.proofs.TakenLaws.{fits_is_small}
use Rattle.base_values.proofs.ValuesBack.{written_is_read as value_back}
use Rattle.base_text.specs.declared.base.BaseModule.{BaseModule}
use Rattle.base_text.specs.declared.base.StoredResult.{StoredResult}
use Rattle.base_text.specs.declared.base.Base.{Base}
use Rattle.base_text.specs.declared.refusal.BaseRefusal.TheVariants.{WrongVersion, NumberTooBig}
use Rattle.base_text.specs.declared.entries.Entry.TheVariants.{Current, Old}
use Rattle.base_text.specs.declared.version.Version.TheVariants.{Second}
use Rattle.base_text.specs.Formats.{format_of}
use Rattle.base_text.specs.Modules.{KnownNames, known, known_in, names_at, names_each, module_names_in}
use Rattle.base_text.specs.Order.{in_order_by, are_in_order}
use Rattle.base_text.specs.Entries.{is_above, has_later_format, stored_result, entry_in, entry_with, entry_of, entry_name, entry_kind, entries_of, current, results_of}
use Rattle.base_text.specs.Read.{base_module, module_of, is_another, base, base_with, base_at, are_small, if_small}
use Rattle.base_text.specs.Written.{no_names, names_for, known_or_none, module_data, result_data, data_with, base_data}
use Rattle.base_text.specs.Grammar.{HasBytes, ResultFits, IsBase}
use Rattle.base_text.specs.Laws.{WrittenIsRead}
use Rattle.base_text.proofs.KnownLaws.{known_same, found_names, found_bytes}
use Rattle.base_text.proofs.FormatLaws.{kind_back, format_back, not_below}
use Rattle.base_text.proofs.EntryLaws.{entries_for, current_all, all_ordered}
use Rattle.fx_lists.proofs.Booleans.{chosen, not_chosen, neither}

-- ---- modules

module_back : (m : BaseModule) → HasBytes m → module_of (module_data m) ≡ Some m
module_back m h =
    ap (option_and_then (λ x. option_map (base_module x) (text_of (text_data m.text)))) (text_back m.name h.0)
    ∙ ap (option_map (base_module m.name)) (text_back m.text h.1)

modules_back : (ms : List BaseModule) → Each HasBytes ms → list_as module_of (list_data (map module_data ms)) ≡ Some ms
modules_back ms h = list_back module_of module_data ms (each_map HasBytes (λ m. module_of (module_data m) ≡ Some m) module_back ms h)

-- ---- results

current_back : (r : StoredResult) (n : ModuleNames) → stored_of n (kind_of r.value) (stored_data n.names r.value) ≡ Some r.value
    → entry_in n (kind_of r.value) r.name (pos (format_of (kind_of r.value))) (stored_data n.names r.value) ≡ Some (Current r)
current_back r n e =
    let f = pos (format_of (kind_of r.value)) in
    let read = option_map (λ v. Current (stored_result r.name v)) (stored_of n (kind_of r.value) (stored_data n.names r.value)) in
    not_chosen (int_lt f f) (Some (Old r.name (kind_of r.value))) read (not_below f) ∙ ap (option_map (λ v. Current (stored_result r.name v))) e

found_back : (k : KnownNames) (r : StoredResult) (n : ModuleNames) → names_at k r.name ≡ Some n → stored_of n (kind_of r.value) (stored_data n.names r.value) ≡ Some r.value
    → entry_with Second k (result_data k r) (kind_of r.value) r.name ≡ Some (Current r)
found_back k r n e f =
    let kind = kind_of r.value in
    let value = stored_data (names_for k r.name).names r.value in
    ap (option_and_then (λ z. option_and_then (λ m. entry_in m kind r.name z value) (names_at k r.name))) (format_back kind)
    ∙ (ap (option_and_then (λ m. entry_in m kind r.name (pos (format_of kind)) value)) e
    ∙ (ap (λ o. entry_in n kind r.name (pos (format_of kind)) (stored_data (unwrap_or o no_names).names r.value)) e
    ∙ current_back r n f))

entry_back : (k : KnownNames) (r : StoredResult) (n : ModuleNames) → AreBytes r.name → names_at k r.name ≡ Some n → stored_of n (kind_of r.value) (stored_data n.names r.value) ≡ Some r.value
    → entry_of Second k (result_data k r) ≡ Some (Current r)
entry_back k r n b e f =
    ap (option_and_then (λ kind. option_and_then (λ x. entry_with Second k (result_data k r) kind x) (text_of (text_data r.name)))) (kind_back r.value)
    ∙ (ap (option_and_then (λ x. entry_with Second k (result_data k r) (kind_of r.value) x)) (text_back r.name b)
    ∙ found_back k r n e f)

-- the results of modules that are there
fit_back : (ms : List BaseModule) (ns : List ModuleNames) → Each HasBytes ms → names_each ms ≡ Some ns → (r : StoredResult) → ResultFits (known ms ns) r
    → entry_of Second (known ms ns) (result_data (known ms ns) r) ≡ Some (Current r)
fit_back ms ns h e r f =
    let at = and_then_some (slice_get ns) (number_from 0 (module_names_in ms) r.name) f.names f.of_module in
    entry_back (known ms ns) r f.names (found_bytes 0 ms r.name at.0 h at.1) f.of_module (value_back f.names r.value (found_names ms ns r.name f.names e f.of_module) f.fits)

entries_back : (k : KnownNames) (rs : List StoredResult) → Each (λ r. entry_of Second k (result_data k r) ≡ Some (Current r)) rs → are_in_order k.names rs ≡ true
    → entries_of Second k (list_data (map (result_data k) rs)) ≡ Some (entries_for rs)
entries_back k rs h e =
    let read : list_as (entry_of Second k) (list_data (map (result_data k) rs)) ≡ Some (entries_for rs) =
    ap (each_as (entry_of Second k)) (data-items (map (result_data k) rs)) ∙ each_to (entry_of Second k) (result_data k) (λ r. Current r) rs h in
    ap (option_and_then (λ es. when (in_order_by entry_name entry_kind k.names es) es)) read
    ∙ when_true (in_order_by entry_name entry_kind k.names (entries_for rs)) (entries_for rs) (all_ordered k.names rs ∙ e)

results_back : (k : KnownNames) (rs : List StoredResult) → Each (λ r. entry_of Second k (result_data k r) ≡ Some (Current r)) rs → are_in_order k.names rs ≡ true
    → results_of Second k (list_data (map (result_data k) rs)) ≡ Some rs
results_back k rs h e = ap (option_map current) (entries_back k rs h e) ∙ ap Some (current_all rs)

-- ---- a version that is known, and no later format

not_later : (k : KnownNames) (r : StoredResult) → has_later_format (result_data k r) ≡ false
not_later k r = let f = pos (format_of (kind_of r.value)) in ap (λ o. is_above o (Some f)) (kind_back r.value) ∙ not_below f

none_later : (k : KnownNames) (rs : List StoredResult) → list_any has_later_format (map (result_data k) rs) ≡ false
none_later k [] = refl
none_later k (r ∷ rs) = neither (has_later_format (result_data k r)) (list_any has_later_format (map (result_data k) rs)) (not_later k r) (none_later k rs)

not_another : (ms : List BaseModule) (rs : List StoredResult) → is_another (data_with ms rs) ≡ false
not_another ms rs = ap (list_any has_later_format) (data-items (map (result_data (known_or_none ms)) rs)) ∙ none_later (known_or_none ms) rs

-- ---- a base

known_back : (ms : List BaseModule) (ns : List ModuleNames) → are_new [] (module_names_in ms) ≡ true → names_each ms ≡ Some ns → known_in ms ≡ Some (known ms ns)
known_back ms ns e f = chosen (are_new [] (module_names_in ms)) (option_map (known ms) (names_each ms)) None e ∙ ap (option_map (known ms)) f

with_back : (ms : List BaseModule) (rs : List StoredResult) (k : KnownNames) → known_in ms ≡ Some k → known_or_none ms ≡ k → results_of Second k (list_data (map (result_data k) rs)) ≡ Some rs
    → base_with (data_with ms rs) Second ms ≡ Some (base ms rs)
with_back ms rs k e f g =
    ap (option_and_then (λ j. option_map (base ms) (results_of Second j (list_data (map (result_data (known_or_none ms)) rs))))) e
    ∙ ap (λ j. option_map (base ms) (results_of Second k (list_data (map (result_data j) rs)))) f
    ∙ ap (option_map (base ms)) g

at_back : (ms : List BaseModule) (rs : List StoredResult) → Each HasBytes ms → base_with (data_with ms rs) Second ms ≡ Some (base ms rs) → base_at (data_with ms rs) ≡ Some (base ms rs)
at_back ms rs h e = ap (option_and_then (base_with (data_with ms rs) Second)) (modules_back ms h) ∙ e

small_fit : (k : KnownNames) (rs : List StoredResult) → Each (ResultFits k) rs → are_small rs ≡ true
small_fit k rs h =
    all_each (λ (r : StoredResult). is_small_value r.value) rs (each_map (ResultFits k) (λ (r : StoredResult). is_small_value r.value ≡ true) (λ r f. fits_is_small f.names r.value f.fits) rs h)

pub base_back : (b : Base) → IsBase b → base_at (base_data b) ≡ Some b
base_back b h =
    let k = known b.modules h.found in
    let each = each_map (ResultFits k) (λ r. entry_of Second k (result_data k r) ≡ Some (Current r)) (fit_back b.modules h.found h.bytes h.are_modules) b.results h.fit in
    at_back b.modules b.results h.bytes
    (with_back b.modules b.results k (known_back b.modules h.found h.once h.are_modules) (known_same b.modules h.found h.are_modules) (results_back k b.results each h.ordered))

pub written_is_read : WrittenIsRead
written_is_read b h =
    let k = known b.modules h.found in
    not_chosen (is_another (base_data b)) (Err WrongVersion) (if_small (base_at (base_data b))) (not_another b.modules b.results)
    ∙ (ap if_small (base_back b h) ∙ chosen (are_small b.results) (Ok b) (Err NumberTooBig) (small_fit k b.results h.fit))
