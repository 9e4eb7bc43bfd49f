-- The values of the code as plain data, and what a value of one kind has.
use Rattle.std.specs.Prelude.{ℕ, List, map, Option, Some, None, option_and_then}
use Rattle.f77_ast.specs.declared.places.Places.{Places}
use Rattle.f77_ast.specs.DeclTrees.{ModuleTree}
use Rattle.f77_ast.specs.PlainDecl.{module_tree}
use Rattle.f77_ast.specs.Symbols.{SymbolTree, symbol_tree}
use Rattle.call_graph.specs.declared.graph.Graph.{Graph}
use Rattle.pipsmake_rules.specs.declared.kind.Kind.TheVariants as kind
use Rattle.pipsmake_meaning.specs.MemoCells.{MemoCells, Stamped, Kept, kept_of}
use Rattle.pipsmake_meaning.specs.Values.{Value, source, parsed, lines, symbols, graph, effects, transformers, preconditions, regions, ins, outs, marks, printed, Item, text, result}
use Rattle.result_store.specs.declared.item.Item as code_item
use Rattle.result_store.specs.declared.item.Item.TheVariants.{Text, Result}
use Rattle.result_store.specs.declared.item.Stamped as code_stamped
use Rattle.result_store.specs.declared.item.Kept as code_kept
use Rattle.result_store.specs.declared.value.Value as code_value
use Rattle.result_store.specs.declared.value.Value.TheVariants.{Source, Parsed, Lines, Symbols, CallGraph, Effects, Transformers, Preconditions, Regions, InRegions, OutRegions, Marks, Printed}

abbrev pub item_of : code_item.Item → Item
item_of Text = text
item_of (Result k) = result k

abbrev pub value_tree : code_value.Value → Value
value_tree (Source x) = source x
value_tree (Parsed x) = parsed (module_tree x)
value_tree (Lines x) = lines x
value_tree (Symbols x) = symbols (map symbol_tree x)
value_tree (CallGraph x) = graph x
value_tree (Effects x) = effects x
value_tree (Transformers x) = transformers x
value_tree (Preconditions x) = preconditions x
value_tree (Regions x) = regions x
value_tree (InRegions x) = ins x
value_tree (OutRegions x) = outs x
value_tree (Marks x) = marks x
value_tree (Printed x) = printed x

abbrev pub stamped_tree : code_stamped.Stamped → Stamped
stamped_tree s = record { item = item_of s.item; name = s.name; stamp = s.stamp }

abbrev pub kept_tree : code_kept.Kept → Kept
kept_tree k = record { stamp = k.stamp; needs = map stamped_tree k.needs }

-- ---- what a value of one kind has; those of the analyses are in laws_database

abbrev pub source_in : Value → Option (List ℕ)
source_in (source x) = Some x
source_in (parsed x) = None
source_in (lines x) = None
source_in (symbols x) = None
source_in (graph x) = None
source_in (effects x) = None
source_in (transformers x) = None
source_in (preconditions x) = None
source_in (regions x) = None
source_in (ins x) = None
source_in (outs x) = None
source_in (marks x) = None
source_in (printed x) = None

abbrev pub parsed_in : Value → Option ModuleTree
parsed_in (source x) = None
parsed_in (parsed x) = Some x
parsed_in (lines x) = None
parsed_in (symbols x) = None
parsed_in (graph x) = None
parsed_in (effects x) = None
parsed_in (transformers x) = None
parsed_in (preconditions x) = None
parsed_in (regions x) = None
parsed_in (ins x) = None
parsed_in (outs x) = None
parsed_in (marks x) = None
parsed_in (printed x) = None

abbrev pub lines_in : Value → Option Places
lines_in (source x) = None
lines_in (parsed x) = None
lines_in (lines x) = Some x
lines_in (symbols x) = None
lines_in (graph x) = None
lines_in (effects x) = None
lines_in (transformers x) = None
lines_in (preconditions x) = None
lines_in (regions x) = None
lines_in (ins x) = None
lines_in (outs x) = None
lines_in (marks x) = None
lines_in (printed x) = None

abbrev pub symbols_in : Value → Option (List SymbolTree)
symbols_in (source x) = None
symbols_in (parsed x) = None
symbols_in (lines x) = None
symbols_in (symbols x) = Some x
symbols_in (graph x) = None
symbols_in (effects x) = None
symbols_in (transformers x) = None
symbols_in (preconditions x) = None
symbols_in (regions x) = None
symbols_in (ins x) = None
symbols_in (outs x) = None
symbols_in (marks x) = None
symbols_in (printed x) = None

abbrev pub graph_in : Value → Option Graph
graph_in (source x) = None
graph_in (parsed x) = None
graph_in (lines x) = None
graph_in (symbols x) = None
graph_in (graph x) = Some x
graph_in (effects x) = None
graph_in (transformers x) = None
graph_in (preconditions x) = None
graph_in (regions x) = None
graph_in (ins x) = None
graph_in (outs x) = None
graph_in (marks x) = None
graph_in (printed x) = None

abbrev pub printed_in : Value → Option (List ℕ)
printed_in (source x) = None
printed_in (parsed x) = None
printed_in (lines x) = None
printed_in (symbols x) = None
printed_in (graph x) = None
printed_in (effects x) = None
printed_in (transformers x) = None
printed_in (preconditions x) = None
printed_in (regions x) = None
printed_in (ins x) = None
printed_in (outs x) = None
printed_in (marks x) = None
printed_in (printed x) = Some x

abbrev pub printed_kept : MemoCells → List ℕ → Option (List ℕ)
printed_kept sh x = option_and_then printed_in (kept_of sh kind.Printed x)
