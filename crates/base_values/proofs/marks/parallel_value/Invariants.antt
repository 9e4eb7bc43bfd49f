use Rattle.std.proofs.Common.{◌≡◌, ◌∷◌, ◌++◌, map, drop}
use Rattle.std.specs.Prelude.{codes}
use Rattle.serde_json.specs.Data.{string}
use Rattle.serde_json.specs.View.{view}
use Rattle.f77_ast.specs.Index.{names_of}
use Rattle.base_values.specs.Written.{private_data}
use Rattle.base_values.proofs.marks.parallel_value.Given as goal

abbrev pub invariant-loop-number : goal.invariant-loop-number
invariant-loop-number l =
    map view l.items.items ++ map (private_data (names_of l.symbols)) (drop l.number-index l.numbers) ≡ string (codes "PARALLEL") ∷ map (private_data (names_of l.symbols)) l.fn.numbers
