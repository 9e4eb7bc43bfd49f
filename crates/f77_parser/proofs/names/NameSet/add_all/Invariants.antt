use Rattle.std.proofs.Common.{◌≡◌, ◌++◌, drop}
use Rattle.f77_parser.proofs.names.NameSet.add_all.Given as goal

abbrev pub invariant-loop-name : goal.invariant-loop-name
invariant-loop-name l = l.self ++ drop l.name-index l.name-items ≡ l.fn.self ++ l.name-items
