-- What is written of a loop with reduction variables (OpenMP, fixed source form).
use Rattle.std.specs.Prelude.{ℕ, List, [], ◌∷◌, ◌++◌, codes}
use Rattle.system_text.specs.SystemText.{Bytes, name_at}
use Rattle.result_lines.specs.MarkText.{directive_text}
use Rattle.result_lines.specs.declared.reduction.ReduceOp.{ReduceOp}
use Rattle.result_lines.specs.declared.reduction.ReduceOp.TheVariants.{Sum, Max, Min, And, Or}
use Rattle.result_lines.specs.declared.reduction.Part.{Part}

-- the word of an operator in a clause
abbrev pub op_word : ReduceOp → Bytes
op_word Sum = codes "+"
op_word Max = codes "MAX"
op_word Min = codes "MIN"
op_word And = codes ".AND."
op_word Or = codes ".OR."

-- ` REDUCTION(+:K)`
abbrev pub reduction_clause : List Bytes → Part → Bytes
reduction_clause names p = codes " REDUCTION(" ++ (op_word p.op ++ (codes ":" ++ (name_at names p.cell ++ codes ")")))

-- one for each variable
abbrev pub reduction_clauses : List Bytes → List Part → Bytes
reduction_clauses names [] = []
reduction_clauses names (p ∷ ps) = reduction_clause names p ++ reduction_clauses names ps

-- they come after PRIVATE
abbrev pub reduction_text : List Bytes → List ℕ → List Part → Bytes
reduction_text names ns ps = directive_text names ns ++ reduction_clauses names ps
