use Rattle.std.proofs.Common.{◌≡◌, ◌++◌, length}
use Rattle.session_texts.specs.Commands.{commands_after, commands_of}
use Rattle.session_texts.proofs.script.commands.Given as goal

abbrev pub invariant-loop-line : goal.invariant-loop-line
invariant-loop-line l = l.commands ++ commands_after 0 l.lines ≡ commands_of l.script

abbrev pub decreases-loop-line : goal.decreases-loop-line
decreases-loop-line l = length l.lines
