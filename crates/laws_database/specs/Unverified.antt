-- A session that goes on from stored results, whether or not these are what is defined.
use Rattle.std.specs.Prelude.{◌≡◌, ℕ, true, List, ◌++◌, Option, Some, option_map, option_and_then}
use Rattle.f77_printer.specs.ModuleText as printer
use Rattle.session_texts.specs.pipsmake_rules.declared.kind.Kind.{Kind}
use Rattle.session_texts.specs.pipsmake_rules.declared.kind.Kind.TheVariants.{Parsed, Lines, Symbols, CallGraph, Effects, Transformers, Preconditions, Regions, InRegions, OutRegions, Marks, Printed}
use Rattle.session_texts.specs.pipsmake_rules.declared.key.Key.{Key}
use Rattle.session_texts.specs.pipsmake_rules.Neighbours.{has_name}
use Rattle.result_lines.specs.Lines.{PrintedResults, lines_of}
use Rattle.result_lines.specs.declared.show.Show.TheVariants.{All}
use Rattle.call_graph.specs.CallsIn.{Each}
use Rattle.session_texts.specs.pipsmake_meaning.Texts.{ModuleText, ReadModule, names_in, SameTexts}
use Rattle.session_texts.specs.pipsmake_meaning.Definitions.{module_named, definition}
use Rattle.session_texts.specs.pipsmake_meaning.MemoCells.{MemoCells, Kept, kept_of}
use Rattle.session_texts.specs.pipsmake_meaning.Values.{Value, printed, result}
use Rattle.session_texts.specs.pipsmake_meaning.Rules.{transformers_in, preconditions_in, regions_in, ins_in, outs_in, marks_in, known, results_from}
use Rattle.session_texts.specs.pipsmake_meaning.Making.{BringsAll}
use Rattle.laws_database.specs.Stands.{Valuation, KeepsValues}
use Rattle.laws_database.specs.Laws.{CanMake, walk_in}

-- ---- values

-- kinds whose results are stored
abbrev pub IsStored : Kind → Type 0
IsStored Parsed = ⊥
IsStored Lines = ⊥
IsStored Symbols = ⊥
IsStored CallGraph = ⊥
IsStored Effects = Unit {0}
IsStored Transformers = Unit {0}
IsStored Preconditions = Unit {0}
IsStored Regions = Unit {0}
IsStored InRegions = Unit {0}
IsStored OutRegions = Unit {0}
IsStored Marks = Unit {0}
IsStored Printed = ⊥

-- the stored results of a module that lines say, where all of them are there
abbrev pub stored_results : Valuation → List ℕ → Option PrintedResults
stored_results stored x =
    results_from (option_and_then transformers_in (stored Transformers x)) (option_and_then preconditions_in (stored Preconditions x)) (option_and_then regions_in (stored Regions x))
    (option_and_then ins_in (stored InRegions x)) (option_and_then outs_in (stored OutRegions x)) (option_and_then marks_in (stored Marks x))

-- the written text of a module with results
abbrev pub printed_with_results : ReadModule → PrintedResults → Value
printed_with_results m r = printed (printer.module_text m.module_is.places m.module_is.module_read (lines_of All (known m) r))

-- results of stored kinds are what was stored, the written text has these results, and all others are what is defined
abbrev pub value_with : List ModuleText → Valuation → Valuation
value_with ts stored Parsed x = definition ts Parsed x
value_with ts stored Lines x = definition ts Lines x
value_with ts stored Symbols x = definition ts Symbols x
value_with ts stored CallGraph x = definition ts CallGraph x
value_with ts stored Effects x = stored Effects x
value_with ts stored Transformers x = stored Transformers x
value_with ts stored Preconditions x = stored Preconditions x
value_with ts stored Regions x = stored Regions x
value_with ts stored InRegions x = stored InRegions x
value_with ts stored OutRegions x = stored OutRegions x
value_with ts stored Marks x = stored Marks x
value_with ts stored Printed x = option_and_then (λ m. option_map (printed_with_results m) (stored_results stored x)) (module_named ts x)

-- each module has all results that lines say
abbrev pub IsWhole : List ModuleText → Valuation → Type 0
IsWhole ts stored = (x : List ℕ) → has_name (names_in ts) x ≡ true → (r : PrintedResults) × (stored_results stored x ≡ Some r)

-- ---- what is kept

-- each kept result has its value, and one is kept of each stored kind and module
pub record RestsOn (sh : MemoCells) (ts : List ModuleText) (d : Valuation) : Type 0 where
  pub keeps : KeepsValues sh ts d
  pub stored : (kind : Kind) (x : List ℕ) → IsStored kind → has_name (names_in ts) x ≡ true → (kept : Kept) × ((sh (result kind) x).kept ≡ Some kept)

-- ---- the law

-- after making: what is kept rests on the same values, no result of a stored kind was made, and what was walked has its value
pub record RestsStill (ts : List ModuleText) (stored : Valuation) (walked now : List Key) (new : MemoCells) : Type 0 where
  pub rests : RestsOn new ts (value_with ts stored)
  pub none_stored : Each (λ (n : Key). IsStored n.kind → ⊥) now
  pub shown : Each (λ (n : Key). kept_of new n.kind n.name ≡ value_with ts stored n.kind n.name) walked

abbrev pub RestingStays : Type 0
RestingStays =
    (sh new : MemoCells) (ts : List ModuleText) (stored : Valuation) (k : Key) (before after now : List Key) → CanMake ts k.kind k.name → IsWhole ts stored → RestsOn sh ts (value_with ts stored) → walk_in ts k ≡ before ++ after →
    BringsAll sh ts before now new → RestsStill ts stored before now new

-- the same texts at other lines: what rests on stored results does so still
abbrev pub LinesMayChange : Type 0
LinesMayChange = (sh : MemoCells) (ts us : List ModuleText) (stored : Valuation) → RestsOn sh ts (value_with ts stored) → SameTexts ts us → RestsOn sh us (value_with us stored)
