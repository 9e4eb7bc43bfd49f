-- Values that calls take: their systems are such as the rules of results ask.
use Rattle.std.specs.List.{AllByRecursion}
use Rattle.preconditions.specs.Statement.{EachFits}
use Rattle.loop_marker.specs.module_phases.RegionViews.{RegionsFit}
use Rattle.loop_marker.specs.module_phases.ScalarViews.{OwnFits}
use Rattle.pipsmake_meaning.specs.MemoCells.{MemoCell}
use Rattle.pipsmake_meaning.specs.Values.{Value, source, parsed, lines, symbols, graph, effects, transformers, preconditions, regions, ins, outs, marks, printed}

abbrev pub ValueFits : Value → Type 0
ValueFits (source x) = Unit {0}
ValueFits (parsed x) = Unit {0}
ValueFits (lines x) = Unit {0}
ValueFits (symbols x) = Unit {0}
ValueFits (graph x) = Unit {0}
ValueFits (effects x) = Unit {0}
ValueFits (transformers x) = OwnFits x
ValueFits (preconditions x) = EachFits x.at
ValueFits (regions x) = RegionsFit x
ValueFits (ins x) = RegionsFit x
ValueFits (outs x) = RegionsFit x
ValueFits (marks x) = Unit {0}
ValueFits (printed x) = Unit {0}

abbrev pub MemoCellFits : MemoCell → Type 0
MemoCellFits s = AllByRecursion ValueFits s.values
