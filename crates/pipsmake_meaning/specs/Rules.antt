-- The value that the rule of each kind makes of values that are kept.
use Rattle.std.specs.Prelude.{ℕ, List, [], ◌∷◌, ◌++◌, Option, Some, None, option_map, option_and_then, option_to_list}
use Rattle.affine_systems.specs.declared.row.System.{System}
use Rattle.f77_printer.specs.ModuleText as printer
use Rattle.f77_ast.specs.declared.effect_set.EffectSet.{EffectSet}
use Rattle.f77_ast.specs.declared.results.At.{At}
use Rattle.f77_ast.specs.declared.results.Results.{Results}
use Rattle.f77_meaning.specs.Modules.{Known, symbol_names}
use Rattle.loop_marker.specs.transformer_algebra.declared.transformer.Transformer.{Transformer}
use Rattle.loop_marker.specs.region_sets.declared.region.Region.{Region}
use Rattle.f77_ast.specs.declared.marks.Mark.{Mark}
use Rattle.loop_marker.specs.module_phases.ScalarPhases.{scope_of}
use Rattle.loop_marker.specs.Known.{knowledge_of}
use Rattle.loop_marker.specs.Marks.{marks_of}
use Rattle.pipsmake_rules.specs.declared.kind.Kind.{Kind}
use Rattle.pipsmake_rules.specs.declared.kind.Kind.TheVariants as kind
use Rattle.pipsmake_rules.specs.declared.key.Key.{Key}
use Rattle.pipsmake_rules.specs.Neighbours.{callees_of, callers_of}
use Rattle.result_lines.specs.Lines.{PrintedResults, lines_of}
use Rattle.result_lines.specs.declared.show.Show.{Show}
use Rattle.result_lines.specs.declared.show.Show.TheVariants.{All}
use Rattle.loop_marker.specs.module_phases.Callees.{Callee}
use Rattle.loop_marker.specs.module_phases.Callers.{CallerHolds, CallerOuts}
use Rattle.loop_marker.specs.module_phases.Rules.{effects_from, transformers_from, preconditions_from, regions_from, ins_from, outs_from}
use Rattle.pipsmake_meaning.specs.Texts.{ModuleText, ReadModule, graph_of}
use Rattle.pipsmake_meaning.specs.Definitions.{module_named, definition}
use Rattle.pipsmake_meaning.specs.MemoCells.{MemoCells, kept_of}
use Rattle.pipsmake_meaning.specs.Values.{Value, source, parsed, lines, symbols, graph, effects, transformers, preconditions, regions, ins, outs, marks, printed}

-- ---- values of one kind

abbrev pub effects_in : Value → Option (Results EffectSet)
effects_in (source x) = None
effects_in (parsed x) = None
effects_in (lines x) = None
effects_in (symbols x) = None
effects_in (graph x) = None
effects_in (effects x) = Some x
effects_in (transformers x) = None
effects_in (preconditions x) = None
effects_in (regions x) = None
effects_in (ins x) = None
effects_in (outs x) = None
effects_in (marks x) = None
effects_in (printed x) = None

abbrev pub transformers_in : Value → Option (Results Transformer)
transformers_in (source x) = None
transformers_in (parsed x) = None
transformers_in (lines x) = None
transformers_in (symbols x) = None
transformers_in (graph x) = None
transformers_in (effects x) = None
transformers_in (transformers x) = Some x
transformers_in (preconditions x) = None
transformers_in (regions x) = None
transformers_in (ins x) = None
transformers_in (outs x) = None
transformers_in (marks x) = None
transformers_in (printed x) = None

abbrev pub preconditions_in : Value → Option (Results System)
preconditions_in (source x) = None
preconditions_in (parsed x) = None
preconditions_in (lines x) = None
preconditions_in (symbols x) = None
preconditions_in (graph x) = None
preconditions_in (effects x) = None
preconditions_in (transformers x) = None
preconditions_in (preconditions x) = Some x
preconditions_in (regions x) = None
preconditions_in (ins x) = None
preconditions_in (outs x) = None
preconditions_in (marks x) = None
preconditions_in (printed x) = None

abbrev pub regions_in : Value → Option (Results (List Region))
regions_in (source x) = None
regions_in (parsed x) = None
regions_in (lines x) = None
regions_in (symbols x) = None
regions_in (graph x) = None
regions_in (effects x) = None
regions_in (transformers x) = None
regions_in (preconditions x) = None
regions_in (regions x) = Some x
regions_in (ins x) = None
regions_in (outs x) = None
regions_in (marks x) = None
regions_in (printed x) = None

abbrev pub ins_in : Value → Option (Results (List Region))
ins_in (source x) = None
ins_in (parsed x) = None
ins_in (lines x) = None
ins_in (symbols x) = None
ins_in (graph x) = None
ins_in (effects x) = None
ins_in (transformers x) = None
ins_in (preconditions x) = None
ins_in (regions x) = None
ins_in (ins x) = Some x
ins_in (outs x) = None
ins_in (marks x) = None
ins_in (printed x) = None

abbrev pub outs_in : Value → Option (Results (List Region))
outs_in (source x) = None
outs_in (parsed x) = None
outs_in (lines x) = None
outs_in (symbols x) = None
outs_in (graph x) = None
outs_in (effects x) = None
outs_in (transformers x) = None
outs_in (preconditions x) = None
outs_in (regions x) = None
outs_in (ins x) = None
outs_in (outs x) = Some x
outs_in (marks x) = None
outs_in (printed x) = None

abbrev pub marks_in : Value → Option (List (At Mark))
marks_in (source x) = None
marks_in (parsed x) = None
marks_in (lines x) = None
marks_in (symbols x) = None
marks_in (graph x) = None
marks_in (effects x) = None
marks_in (transformers x) = None
marks_in (preconditions x) = None
marks_in (regions x) = None
marks_in (ins x) = None
marks_in (outs x) = None
marks_in (marks x) = Some x
marks_in (printed x) = None

-- ---- what is kept

abbrev pub effects_kept : MemoCells → List ℕ → Option (Results EffectSet)
effects_kept sh x = option_and_then effects_in (kept_of sh kind.Effects x)

abbrev pub transformers_kept : MemoCells → List ℕ → Option (Results Transformer)
transformers_kept sh x = option_and_then transformers_in (kept_of sh kind.Transformers x)

abbrev pub preconditions_kept : MemoCells → List ℕ → Option (Results System)
preconditions_kept sh x = option_and_then preconditions_in (kept_of sh kind.Preconditions x)

abbrev pub regions_kept : MemoCells → List ℕ → Option (Results (List Region))
regions_kept sh x = option_and_then regions_in (kept_of sh kind.Regions x)

abbrev pub ins_kept : MemoCells → List ℕ → Option (Results (List Region))
ins_kept sh x = option_and_then ins_in (kept_of sh kind.InRegions x)

abbrev pub outs_kept : MemoCells → List ℕ → Option (Results (List Region))
outs_kept sh x = option_and_then outs_in (kept_of sh kind.OutRegions x)

abbrev pub marks_kept : MemoCells → List ℕ → Option (List (At Mark))
marks_kept sh x = option_and_then marks_in (kept_of sh kind.Marks x)

-- ---- what a rule takes of other modules

abbrev pub known : ReadModule → Known
known m = record { read = m.module_is.module_read; symbols = m.table }

abbrev pub callee_with : {T : Type 0} → List ℕ → Option ReadModule → Option (Results T) → Option (Callee T)
callee_with x None r = None
callee_with x (Some m) None = None
callee_with x (Some m) (Some r) = Some (record { name = x; symbols = m.table; summary = r.summary })

-- the modules of these names, as their callers see them
abbrev pub callees_with : {T : Type 0} → (List ℕ → Option (Results T)) → List ModuleText → List (List ℕ) → List (Callee T)
callees_with found ts [] = []
callees_with found ts (x ∷ xs) = option_to_list (callee_with x (module_named ts x) (found x)) ++ callees_with found ts xs

abbrev pub holding_with : Option ReadModule → Option (Results System) → Option CallerHolds
holding_with None r = None
holding_with (Some m) None = None
holding_with (Some m) (Some r) = Some (record { known = known m; holds = r.at })

abbrev pub holding_callers : MemoCells → List ModuleText → List (List ℕ) → List CallerHolds
holding_callers sh ts [] = []
holding_callers sh ts (x ∷ xs) = option_to_list (holding_with (module_named ts x) (preconditions_kept sh x)) ++ holding_callers sh ts xs

abbrev pub outs_with : Option ReadModule → Option (Results Transformer) → Option (Results (List Region)) → Option CallerOuts
outs_with None own r = None
outs_with (Some m) None r = None
outs_with (Some m) (Some own) None = None
outs_with (Some m) (Some own) (Some r) = Some (record { known = known m; own = own; outs = r.at })

abbrev pub later_callers : MemoCells → List ModuleText → List (List ℕ) → List CallerOuts
later_callers sh ts [] = []
later_callers sh ts (x ∷ xs) = option_to_list (outs_with (module_named ts x) (transformers_kept sh x) (outs_kept sh x)) ++ later_callers sh ts xs

-- ---- the value that a rule makes of what is kept

abbrev pub rule_of : MemoCells → List ModuleText → Kind → List ℕ → ReadModule → Option Value
rule_of sh ts kind.Parsed x m = Some (parsed m.module_is.module_read)
rule_of sh ts kind.Lines x m = Some (lines m.module_is.places)
rule_of sh ts kind.Symbols x m = Some (symbols m.table)
rule_of sh ts kind.CallGraph x m = None
rule_of sh ts kind.Effects x m = Some (effects (effects_from (known m) (callees_with (effects_kept sh) ts (callees_of (graph_of ts) x))))
rule_of sh ts kind.Transformers x m = Some (transformers (transformers_from (graph_of ts).untracked (known m) (callees_with (transformers_kept sh) ts (callees_of (graph_of ts) x))))
rule_of sh ts kind.Preconditions x m =
    option_map (λ own. preconditions (preconditions_from (graph_of ts).untracked (known m) own (holding_callers sh ts (callers_of (graph_of ts) x)))) (transformers_kept sh x)
rule_of sh ts kind.Regions x m =
    option_map (λ own. regions (regions_from (graph_of ts).untracked (known m) own (callees_with (regions_kept sh) ts (callees_of (graph_of ts) x)))) (transformers_kept sh x)
rule_of sh ts kind.InRegions x m =
    option_and_then (λ own. option_map (λ found. ins (ins_from (graph_of ts).untracked (known m) own found (callees_with (ins_kept sh) ts (callees_of (graph_of ts) x)))) (regions_kept sh x)) (transformers_kept sh x)
rule_of sh ts kind.OutRegions x m =
    option_and_then (λ own. option_and_then (λ found. option_map (λ taken. outs (outs_from (graph_of ts) (known m) own found taken (later_callers sh ts (callers_of (graph_of ts) x)))) (ins_kept sh x)) (regions_kept sh x)) (transformers_kept sh x)
rule_of sh ts kind.Marks x m =
    option_and_then (λ e. option_and_then (λ own. option_and_then (λ holds. option_and_then (λ found. option_and_then (λ taken. option_map (λ later.
    marks (marks_of (knowledge_of (known m).read (known m).symbols (symbol_names (known m).symbols) (scope_of (graph_of ts).untracked (known m)) e.at own.at holds.at found.at taken.at later.at)))
    (outs_kept sh x)) (ins_kept sh x)) (regions_kept sh x)) (preconditions_kept sh x)) (transformers_kept sh x)) (effects_kept sh x)
rule_of sh ts kind.Printed x m =
    option_and_then (λ own. option_and_then (λ holds. option_and_then (λ found. option_and_then (λ taken. option_and_then (λ later. option_map (λ ms.
    printed (printer.module_text m.module_is.places m.module_is.module_read (lines_of All (known m) (record { transformers = own; preconditions = holds; regions = found; ins = taken; outs = later; marks = ms }))))
    (marks_kept sh x)) (outs_kept sh x)) (ins_kept sh x)) (regions_kept sh x)) (preconditions_kept sh x)) (transformers_kept sh x)

abbrev pub rule_with : MemoCells → List ModuleText → Kind → List ℕ → Option ReadModule → Option Value
rule_with sh ts k x None = None
rule_with sh ts k x (Some m) = rule_of sh ts k x m

-- the graph is of no module
abbrev pub rule_for : MemoCells → List ModuleText → Kind → List ℕ → Option Value
rule_for sh ts kind.CallGraph x = definition ts kind.CallGraph x
rule_for sh ts k x = rule_with sh ts k x (module_named ts x)

abbrev pub rule_value : MemoCells → List ModuleText → Key → Option Value
rule_value sh ts k = rule_for sh ts k.kind k.name

-- ---- the text of a module with what is kept of it

abbrev pub results_from : Option (Results Transformer) → Option (Results System) → Option (Results (List Region)) → Option (Results (List Region)) → Option (Results (List Region)) → Option (List (At Mark)) → Option PrintedResults
results_from own holds found taken later ms =
    option_and_then (λ own. option_and_then (λ holds. option_and_then (λ found. option_and_then (λ taken. option_and_then (λ later. option_map (λ ms.
    record { transformers = own; preconditions = holds; regions = found; ins = taken; outs = later; marks = ms })
    ms) later) taken) found) holds) own

-- the results of a module that lines say, where all are kept
abbrev pub kept_results : MemoCells → List ℕ → Option PrintedResults
kept_results sh x = results_from (transformers_kept sh x) (preconditions_kept sh x) (regions_kept sh x) (ins_kept sh x) (outs_kept sh x) (marks_kept sh x)

-- the written text, with what `show` adds to it
abbrev pub text_with : MemoCells → ReadModule → List ℕ → Show → Option (List ℕ)
text_with sh m x show = option_map (λ r. printer.module_text m.module_is.places m.module_is.module_read (lines_of show (known m) r)) (kept_results sh x)
