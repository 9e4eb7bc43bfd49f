use Rattle.std.proofs.Common.{◌≡◌, ◌++◌, drop}
use Rattle.f77_ast.specs.declared.places.Part.{Part}
use Rattle.f77_printer.specs.AddedText.{added_text}
use Rattle.f77_printer.specs.Lines.{lines_of}
use Rattle.f77_printer.proofs.added.lines_by_part.Given as goal

abbrev pub invariant-loop-a : goal.invariant-loop-a
invariant-loop-a l = record {
  first : l.lines.first ≡ l.fn.first;
  same : (part : Part) → lines_of l.lines part ++ added_text l.fn.first (drop l.a-index l.a-items) part ≡ added_text l.fn.first l.a-items part;
}
