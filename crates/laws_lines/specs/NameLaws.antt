-- The names of the table of a module.
use Rattle.std.specs.Prelude.{◌≡◌, List, All, Ok, true, bytes_eq}
use Rattle.std.specs.List.{list_all, IsDistinct}
use Rattle.fixed_form.specs.declared.line.Lines.{Lines}
use Rattle.f77_ast.specs.DeclTrees.{ParsedTree}
use Rattle.f77_parser.specs.Modules.{parse_of}
use Rattle.f77_ast.specs.Symbols.{SymbolTree}
use Rattle.f77_meaning.specs.Modules.{symbol_names}
use Rattle.storage_layout.specs.Symbols.{symbols_of}
use Rattle.system_text.specs.Printed.{is_name}
use Rattle.laws_programs.specs.Programs.{AreTables}

-- in the table of a module that is not refused no two symbols have one name (ANSI X3.9-1978 §18.1)
abbrev pub NamesAreDistinct : Type 0
NamesAreDistinct = (p : ParsedTree) (ss : List SymbolTree) → symbols_of p ≡ Ok ss → IsDistinct bytes_eq (symbol_names ss)

-- the names of the symbols of a table are names as they are written: a letter, then letters, digits and `_`
abbrev pub AreWords : List SymbolTree → Type 0
AreWords ss = list_all is_name (symbol_names ss) ≡ true

-- so they are in each table of the modules of lines
abbrev pub NamesAreWords : Type 0
NamesAreWords = (lines : Lines) (ps : List ParsedTree) (sss : List (List SymbolTree)) → parse_of lines ≡ Ok ps → AreTables ps sss → All AreWords sss
