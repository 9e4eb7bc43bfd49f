-- The names of a directive, and those that the text does not say; its REDUCTION clauses.
use Rattle.std.specs.Prelude.{ℕ, List, map, ◌++◌}
use Rattle.system_text.specs.SystemText.{name_at}
use Rattle.f77_ast.specs.Symbols.{SymbolTree}
use Rattle.f77_meaning.specs.Modules.{Known, symbol_names}
use Rattle.result_lines.specs.ShownMarks.{shown_numbers}
use Rattle.result_lines.specs.declared.reduction.ReduceOp.{ReduceOp}
use Rattle.result_lines.specs.declared.reduction.ReduceOp.TheVariants.{Sum, Max, Min, And, Or}
use Rattle.result_lines.specs.declared.reduction.Part.{Part}
use Rattle.laws_interleavings.specs.Reductions.{ReduceOp as Operator}
use Rattle.laws_interleavings.specs.Reductions as operator
use Rattle.laws_interleavings.specs.Accumulating.{Reduction}
use Rattle.laws_lines.specs.Marks.Marked.{functions_of}

-- of a DO that is parallel with the symbols of these numbers, as they are written
abbrev pub directive_names : List SymbolTree → List ℕ → List (List ℕ)
directive_names ss ns = map (name_at (symbol_names ss)) ns

-- of the DO with this number: the names of its directive, which has none of functions, and the functions of which each iteration has the result for itself
abbrev pub marked_names : Known → ℕ → List ℕ → List (List ℕ)
marked_names k n ns = directive_names k.symbols (shown_numbers k.read (symbol_names k.symbols) ns) ++ functions_of k.read n

-- ---- REDUCTION clauses

-- what an operator means in runs
abbrev pub op_meant : ReduceOp → Operator
op_meant Sum = operator.Sum
op_meant Max = operator.Max
op_meant Min = operator.Min
op_meant And = operator.And
op_meant Or = operator.Or

-- of a reduction variable, by its name
abbrev pub reduction_named : List SymbolTree → Part → Reduction
reduction_named ss p = record { name = name_at (symbol_names ss) p.cell; op = op_meant p.op }
