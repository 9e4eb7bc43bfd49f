-- The part that a part in writing is.
use Rattle.f77_ast.specs.declared.places.Part.{Part}
use Rattle.f77_ast.specs.declared.places.Part.TheVariants as parts
use Rattle.f77_printer.specs.declared.here.Here.{Here}
use Rattle.f77_printer.specs.declared.here.Here.TheVariants.{Title, Decl, Stmt, ElseIf, Else, Close, End}

abbrev pub here_part : Here → Part
here_part Title = parts.Title
here_part (Decl n) = parts.Decl n
here_part (Stmt i) = parts.Stmt i
here_part (ElseIf i n) = parts.ElseIf i n
here_part (Else i) = parts.Else i
here_part (Close i) = parts.Close i
here_part End = parts.End
