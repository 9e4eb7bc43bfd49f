use Rattle.std.proofs.Common.{◌≡◌, ◌++◌, drop}
use Rattle.f77_ast.specs.Index.{names_of}
use Rattle.f77_ast.proofs.names.names_of.Given as goal

abbrev pub invariant-loop-symbol : goal.invariant-loop-symbol
invariant-loop-symbol l = l.names ++ names_of (drop l.symbol-index l.symbols) ≡ names_of l.symbols
