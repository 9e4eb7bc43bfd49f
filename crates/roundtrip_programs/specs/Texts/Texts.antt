-- The written text of modules, and the modules that a text is read as.
use Rattle.std.specs.Prelude.{◌≡◌, ℕ, List, [], ◌∷◌, ◌++◌, Ok, true}
use Rattle.fixed_form.specs.declared.line.Lines.{Lines}
use Rattle.fixed_form.specs.Cards.{is_dropped}
use Rattle.fixed_form.specs.Reading.{reading}
use Rattle.f77_ast.specs.DeclTrees.{ModuleTree, ParsedTree}
use Rattle.f77_parser.specs.Modules.{parse_of}
use Rattle.f77_printer.specs.declared.added.Added.{Added}
use Rattle.f77_printer.specs.ModuleText.{module_text}
use Rattle.roundtrip_programs.specs.Cards.Good.{IsComment}

-- no line, no statement and no module of the text has a fault, and these are its modules
pub record IsReadAs (text : List ℕ) (ps : List ParsedTree) : Type 0 where
  pub lines : Lines
  pub lined : reading text ≡ Ok lines
  pub parsed : parse_of lines ≡ Ok ps

-- a comment line that reading drops
pub record IsPassedOver (a : Added) : Type 0 where
  pub comment : IsComment a.line
  pub dropped : is_dropped a.line ≡ true

-- a module with the lines that are added to it
abbrev pub text_of : (ParsedTree → List Added) → ParsedTree → List ℕ
text_of added p = module_text p.places p.module_read (added p)

-- modules one after another
abbrev pub modules_text : (ParsedTree → List Added) → List ParsedTree → List ℕ
modules_text added [] = []
modules_text added (p ∷ ps) = text_of added p ++ modules_text added ps

abbrev pub module_of : ParsedTree → ModuleTree
module_of p = p.module_read

-- a module to which nothing is added
abbrev pub plain_text : ParsedTree → List ℕ
plain_text p = module_text p.places p.module_read []
