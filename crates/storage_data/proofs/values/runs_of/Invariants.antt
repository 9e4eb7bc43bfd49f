use Rattle.std.proofs.Common.{◌≡◌, ◌++◌, drop, map}
use Rattle.f77_ast.specs.PlainDecl.{data_value_tree}
use Rattle.storage_data.specs.Initials.{runs_of}
use Rattle.storage_data.proofs.values.runs_of.Given as goal

abbrev pub invariant-loop-value : goal.invariant-loop-value
invariant-loop-value l = l.runs ++ runs_of (map data_value_tree (drop l.value-index l.values)) ≡ runs_of (map data_value_tree l.values)
