-- What each result of a program is: the value of its kind for a list of module texts.
use Rattle.std.specs.Prelude.{ℕ, List, Option, Some, None, option_map, option_and_then, Result, Ok, Err}
use Rattle.call_graph.specs.declared.graph.Graph.{Graph}
use Rattle.call_graph.specs.declared.refusal.Fault.{Fault}
use Rattle.f77_printer.specs.ModuleText as printer
use Rattle.loop_marker.specs.Results.{ModuleResults}
use Rattle.pipsmake_rules.specs.declared.kind.Kind.{Kind}
use Rattle.pipsmake_rules.specs.declared.kind.Kind.TheVariants.{Parsed, Lines, Symbols, CallGraph, Effects, Transformers, Preconditions, Regions, InRegions, OutRegions, Marks, Printed}
use Rattle.result_lines.specs.Lines.{PrintedResults, lines_of}
use Rattle.result_lines.specs.declared.show.Show.{Show}
use Rattle.result_lines.specs.declared.show.Show.TheVariants.{All}
use Rattle.pipsmake_meaning.specs.ResultEntries.{results_of_modules, results_for}
use Rattle.pipsmake_meaning.specs.Texts.{ModuleText, ReadModule, module_read, text_of, links_in, known_in}
use Rattle.pipsmake_meaning.specs.Values.{Value, parsed, lines, symbols, graph, effects, transformers, preconditions, regions, ins, outs, marks, printed}

-- the module of a name
abbrev pub module_named : List ModuleText → List ℕ → Option ReadModule
module_named ts x = option_and_then module_read (text_of ts x)

-- all results of the modules of linked texts
abbrev pub results_with : List ModuleText → Result Graph Fault → List ℕ → Option ModuleResults
results_with ts (Ok g) x = results_for (results_of_modules (known_in ts) g) x
results_with ts (Err f) x = None

-- those of the module of a name; none where the texts do not link
abbrev pub results_in : List ModuleText → List ℕ → Option ModuleResults
results_in ts x = results_with ts (links_in ts) x

abbrev pub graph_found : Result Graph Fault → Option Value
graph_found (Ok g) = Some (graph g)
graph_found (Err f) = None

-- those that lines say
abbrev pub printed_of : ModuleResults → PrintedResults
printed_of r = record { transformers = r.transformers; preconditions = r.preconditions; regions = r.regions; ins = r.ins; outs = r.outs; marks = r.marks }

-- the written text of a module, with what `show` adds to it
abbrev pub text_shown : Show → ReadModule → ModuleResults → List ℕ
text_shown show m r = printer.module_text m.module_is.places m.module_is.module_read (lines_of show r.known (printed_of r))

abbrev pub printed_with : Option ReadModule → Option ModuleResults → Option Value
printed_with None f = None
printed_with (Some m) None = None
printed_with (Some m) (Some f) = Some (printed (text_shown All m f))

-- the value of a result for these texts; none where a module lacks, or where it needs links and there are none
abbrev pub definition : List ModuleText → Kind → List ℕ → Option Value
definition ts Parsed x = option_map (λ m. parsed m.module_is.module_read) (module_named ts x)
definition ts Lines x = option_map (λ m. lines m.module_is.places) (module_named ts x)
definition ts Symbols x = option_map (λ m. symbols m.table) (module_named ts x)
definition ts CallGraph x = graph_found (links_in ts)
definition ts Effects x = option_map (λ f. effects f.effects) (results_in ts x)
definition ts Transformers x = option_map (λ f. transformers f.transformers) (results_in ts x)
definition ts Preconditions x = option_map (λ f. preconditions f.preconditions) (results_in ts x)
definition ts Regions x = option_map (λ f. regions f.regions) (results_in ts x)
definition ts InRegions x = option_map (λ f. ins f.ins) (results_in ts x)
definition ts OutRegions x = option_map (λ f. outs f.outs) (results_in ts x)
definition ts Marks x = option_map (λ f. marks f.marks) (results_in ts x)
definition ts Printed x = printed_with (module_named ts x) (results_in ts x)
