use Rattle.std.proofs.Common.{◌≡◌, ◌++◌, ◌<◌, ◌^◌, length, map}
use Rattle.std.specs.Prelude.{sum_by}
use Rattle.f77_parser.specs.Statements.{statement_tree, those_read, length_of}
use Rattle.f77_parser.proofs.statement.those_read.Given as goal

abbrev pub invariant-loop-rest : goal.invariant-loop-rest
invariant-loop-rest l = record {
  same : map statement_tree l.done ++ those_read l.rest ≡ those_read l.fn.lines;
  room : sum_by length_of l.rest < 2 ^ 28;
}

abbrev pub decreases-loop-rest : goal.decreases-loop-rest
decreases-loop-rest l = length l.rest
