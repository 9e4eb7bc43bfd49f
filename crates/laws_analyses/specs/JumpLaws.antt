-- Where the GO TOs of modules that are read lead (ANSI X3.9-1978 §11.1).
use Rattle.std.specs.Prelude.{◌≡◌, ℕ, List, Ok, Some, slice_get}
use Rattle.fixed_form.specs.declared.line.Lines.{Lines}
use Rattle.f77_ast.specs.DeclTrees.{ParsedTree}
use Rattle.f77_parser.specs.Modules.{parse_of}
use Rattle.laws_programs.specs.Programs.{AreLabelled}
use Rattle.laws_analyses.specs.Statements.Leads.{StaysIn}

-- every GO TO of a module leads to a label of a list around it
abbrev pub JumpsStayInside : Type 0
JumpsStayInside = (lines : Lines) → AreLabelled lines.lines → (ps : List ParsedTree) → parse_of lines ≡ Ok ps → (i : ℕ) (p : ParsedTree) → slice_get ps i ≡ Some p → StaysIn p.module_read.body
