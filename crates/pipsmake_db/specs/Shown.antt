-- The text that shows a result.
use Rattle.std.specs.Prelude.{ℕ, List, [], ◌∷◌, ◌++◌, codes, Option, Some, None, option_map, option_and_then}
use Rattle.serde_json.specs.Written.{compact_text}
use Rattle.f77_ast.specs.Symbols.{SymbolTree}
use Rattle.f77_printer.specs.ModuleText as printer
use Rattle.f77_meaning.specs.Modules.{symbol_names}
use Rattle.session_texts.specs.pipsmake_rules.declared.kind.Kind.{Kind}
use Rattle.session_texts.specs.pipsmake_rules.declared.kind.Kind.TheVariants as kind
use Rattle.base_values.specs.declared.stored.StoredValue.{StoredValue}
use Rattle.base_values.specs.declared.stored.StoredValue.TheVariants as stored
use Rattle.base_values.specs.Written.{stored_data}
use Rattle.result_lines.specs.declared.show.Show.{Show}
use Rattle.result_lines.specs.Lines.{PrintedResults, lines_of}
use Rattle.session_texts.specs.pipsmake_meaning.Texts.{ModuleText, ReadModule}
use Rattle.session_texts.specs.pipsmake_meaning.Definitions.{module_named, definition}
use Rattle.session_texts.specs.pipsmake_meaning.Values.{Value, source, parsed, lines, symbols, graph, effects, transformers, preconditions, regions, ins, outs, marks, printed}
use Rattle.laws_database.specs.ProgramTexts.{text_named, before_text}
use Rattle.session_texts.specs.pipsmake_meaning.Rules.{known}
use Rattle.laws_database.specs.Stands.{Valuation}
use Rattle.laws_database.specs.Unverified.{stored_results}

-- a value of a kind that is stored
abbrev pub stored_in : Value → Option StoredValue
stored_in (source x) = None
stored_in (parsed x) = None
stored_in (lines x) = None
stored_in (symbols x) = None
stored_in (graph x) = None
stored_in (effects x) = Some (stored.Effects x)
stored_in (transformers x) = Some (stored.Transformers x)
stored_in (preconditions x) = Some (stored.Preconditions x)
stored_in (regions x) = Some (stored.Regions x)
stored_in (ins x) = Some (stored.InRegions x)
stored_in (outs x) = Some (stored.OutRegions x)
stored_in (marks x) = Some (stored.Marks x)
stored_in (printed x) = None

-- its JSON, in one line
abbrev pub json_line : List SymbolTree → StoredValue → List ℕ
json_line table v = compact_text (stored_data (symbol_names table) v) ++ codes "\n"

abbrev pub json_with : Option ReadModule → Option Value → Option (List ℕ)
json_with m v = option_and_then (λ m. option_and_then (λ v. option_map (json_line m.table) (stored_in v)) v) m

-- of the result of a kind and a module
abbrev pub json_named : List ModuleText → Kind → List ℕ → Option (List ℕ)
json_named ts k x = json_with (module_named ts x) (definition ts k x)

-- the text that shows a result of these texts: the written text of a module, with what `show` adds to it, and of stored kinds the JSON
abbrev pub text_for : List ModuleText → Show → Kind → List ℕ → Option (List ℕ)
text_for ts show kind.Printed x = text_named show ts x
text_for ts show kind.Parsed x = None
text_for ts show kind.Lines x = None
text_for ts show kind.Symbols x = None
text_for ts show kind.CallGraph x = None
text_for ts show kind.Effects x = json_named ts kind.Effects x
text_for ts show kind.Transformers x = json_named ts kind.Transformers x
text_for ts show kind.Preconditions x = json_named ts kind.Preconditions x
text_for ts show kind.Regions x = json_named ts kind.Regions x
text_for ts show kind.InRegions x = json_named ts kind.InRegions x
text_for ts show kind.OutRegions x = json_named ts kind.OutRegions x
text_for ts show kind.Marks x = json_named ts kind.Marks x

-- ---- stored results, whatever they are

-- the written text of a module with results
abbrev pub text_of_results : Show → ReadModule → PrintedResults → List ℕ
text_of_results show m r = printer.module_text m.module_is.places m.module_is.module_read (lines_of show (known m) r)

-- the written text of the module of a name, with its stored results
abbrev pub printed_from : List ModuleText → Valuation → Show → List ℕ → Option (List ℕ)
printed_from ts stored show x = option_and_then (λ m. option_map (text_of_results show m) (stored_results stored x)) (module_named ts x)

-- those of these modules one after another, where there are all
abbrev pub texts_from : List ModuleText → Valuation → Show → List (List ℕ) → Option (List ℕ)
texts_from ts stored show [] = Some []
texts_from ts stored show (x ∷ xs) = before_text (printed_from ts stored show x) (texts_from ts stored show xs)

-- the text that shows a result where these are the stored ones: the written text of a module with what `show` adds of them, and of stored kinds the JSON
abbrev pub text_from : List ModuleText → Valuation → Show → Kind → List ℕ → Option (List ℕ)
text_from ts stored show kind.Printed x = printed_from ts stored show x
text_from ts stored show kind.Parsed x = None
text_from ts stored show kind.Lines x = None
text_from ts stored show kind.Symbols x = None
text_from ts stored show kind.CallGraph x = None
text_from ts stored show kind.Effects x = json_with (module_named ts x) (stored kind.Effects x)
text_from ts stored show kind.Transformers x = json_with (module_named ts x) (stored kind.Transformers x)
text_from ts stored show kind.Preconditions x = json_with (module_named ts x) (stored kind.Preconditions x)
text_from ts stored show kind.Regions x = json_with (module_named ts x) (stored kind.Regions x)
text_from ts stored show kind.InRegions x = json_with (module_named ts x) (stored kind.InRegions x)
text_from ts stored show kind.OutRegions x = json_with (module_named ts x) (stored kind.OutRegions x)
text_from ts stored show kind.Marks x = json_with (module_named ts x) (stored kind.Marks x)
