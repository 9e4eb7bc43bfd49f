use Rattle.std.proofs.Common.{◌≡◌, ◌+◌, ◌≤◌, ◌++◌, length, take, drop}
use Rattle.session_texts.specs.Commands.{source_text}
use Rattle.session_texts.proofs.script.take_source.Given as goal

abbrev pub invariant-loop-left : goal.invariant-loop-left
invariant-loop-left l = record {
  text : l.text ++ source_text (take l.left l.lines) ≡ source_text (take l.count l.initial.lines);
  rest : drop l.left l.lines ≡ drop l.count l.initial.lines;
  lines : length l.lines + l.count ≡ length l.initial.lines + l.left;
  fewer : l.left ≤ l.count;
}

abbrev pub decreases-loop-left : goal.decreases-loop-left
decreases-loop-left l = l.left
