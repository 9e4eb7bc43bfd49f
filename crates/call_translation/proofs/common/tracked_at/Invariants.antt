use Rattle.std.proofs.Common.{◌≡◌, length, map}
use Rattle.f77_ast.specs.Symbols.{symbol_tree}
use Rattle.call_translation.specs.Common.{tracked_from}
use Rattle.call_translation.proofs.common.tracked_at.Given as goal

abbrev pub invariant-loop-rest : goal.invariant-loop-rest
invariant-loop-rest l =
    tracked_from l.number (map symbol_tree l.rest) l.flags l.block l.offset ≡ tracked_from 1 (map symbol_tree l.scope.symbols.now) l.scope.tracked.now l.block l.offset

abbrev pub decreases-loop-rest : goal.decreases-loop-rest
decreases-loop-rest l = length l.rest
