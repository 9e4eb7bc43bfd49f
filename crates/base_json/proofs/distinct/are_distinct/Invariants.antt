use Rattle.std.proofs.Common.{◌≡◌, [], take, drop}
use Rattle.f77_ast.specs.Index.{Indexes}
use Rattle.base_json.specs.Distinct.{are_new}
use Rattle.base_json.proofs.distinct.are_distinct.Given as goal

abbrev pub invariant-loop-name : goal.invariant-loop-name
invariant-loop-name l = Indexes l.index (take l.name-index l.names) × (are_new (take l.name-index l.names) (drop l.name-index l.names) ≡ are_new [] l.fn.names)
