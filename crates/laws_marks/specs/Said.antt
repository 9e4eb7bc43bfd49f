-- What the directive of a DO says: of a parallel one its mark, of another one its reduction variables, if it has some.
use Rattle.std.specs.Prelude.{ℕ, Bool, true, false, List, [], Option, Some, None}
use Rattle.f77_ast.specs.declared.marks.Mark.{Mark}
use Rattle.f77_ast.specs.declared.marks.Mark.TheVariants.{Parallel, Serial}
use Rattle.f77_ast.specs.declared.results.At.{At}
use Rattle.call_graph.specs.declared.graph.Graph.{Graph}
use Rattle.f77_meaning.specs.Modules.{symbol_names}
use Rattle.preconditions.specs.transformers.Lists.{value_at}
use Rattle.loop_marker.specs.module_phases.ScalarPhases.{scope_of}
use Rattle.loop_marker.specs.Known.{knowledge_of}
use Rattle.loop_marker.specs.Marks.{Knowledge}
use Rattle.loop_marker.specs.Results.{ModuleResults}
use Rattle.result_lines.specs.declared.reduction.Reduction.{Reduction}
use Rattle.reductions.specs.Reduced.{reduced_of}

-- what is known of a module where its marks are made
abbrev pub knowledge : Graph → ModuleResults → Knowledge
knowledge g f =
    knowledge_of f.known.read f.known.symbols (symbol_names f.known.symbols) (scope_of g.untracked f.known) f.effects.at f.transformers.at f.preconditions.at f.regions.at f.ins.at f.outs.at

-- the loops of a module that run in parallel with reduction variables, in a program with this graph
abbrev pub reduced_in : Graph → ModuleResults → List (At Reduction)
reduced_in g f = reduced_of (knowledge g f) g.order f.marks

-- where they are asked for
abbrev pub reductions_of : Bool → Graph → ModuleResults → List (At Reduction)
reductions_of false g f = []
reductions_of true g f = reduced_in g f

-- of a parallel DO: it has no reduction variables
abbrev pub without_parts : List ℕ → Reduction
without_parts ns = record { private = ns; parts = [] }

abbrev pub said_by : Option Reduction → Mark → Option Reduction
said_by r (Parallel ns) = Some (without_parts ns)
said_by r (Serial s) = r

abbrev pub said_of : Option Reduction → Option Mark → Option Reduction
said_of r None = None
said_of r (Some m) = said_by r m

-- of the DO with this number; where no reductions are asked for, that is its mark
abbrev pub said_at : Graph → Bool → ModuleResults → ℕ → Option Reduction
said_at g reductions f n = said_of (value_at (reductions_of reductions g f) n) (value_at f.marks n)
