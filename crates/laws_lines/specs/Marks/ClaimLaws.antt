-- Claims are read from the bytes of a written text, each before the part of which it is.
use Rattle.std.specs.Prelude.{List}
use Rattle.f77_ast.specs.DeclTrees.{ParsedTree}
use Rattle.f77_printer.specs.declared.added.Added.{Added}
use Rattle.laws_programs.specs.roundtrip_programs.Texts.Texts.{IsReadAs, modules_text}
use Rattle.laws_programs.specs.roundtrip_programs.Texts.Laws.{AllPassedOver}
use Rattle.system_text.specs.Reading.{Bytes}
use Rattle.laws_lines.specs.Marks.ClaimsRead.{ClaimsBack}

-- of the written text of modules, with lines that reading drops
abbrev pub ClaimsReadBack : Type 0
ClaimsReadBack = (text : Bytes) (ps : List ParsedTree) (added : ParsedTree → List Added) → IsReadAs text ps → AllPassedOver added ps → ClaimsBack (modules_text added ps) ps added
