-- Programs that are read: the modules of a text with their tables, which link.
use Rattle.std.specs.Prelude.{◌≡◌, ℕ, ◌+◌, Bool, not, List, [], ◌∷◌, Ok}
use Rattle.fixed_form.specs.declared.line.Line.{Line}
use Rattle.fixed_form.specs.declared.line.Lines.{Lines}
use Rattle.f77_ast.specs.DeclTrees.{ParsedTree}
use Rattle.f77_ast.specs.Hidden.{is_hidden}
use Rattle.f77_parser.specs.Modules.{parse_of}
use Rattle.f77_ast.specs.Symbols.{SymbolTree}
use Rattle.storage_layout.specs.Symbols.{symbols_of}
use Rattle.call_graph.specs.declared.graph.Graph.{Graph}
use Rattle.call_graph.specs.Links.{link_of}
use Rattle.roundtrip_programs.specs.Statements.Formed.{Each}
use Rattle.roundtrip_programs.specs.ModuleTexts.ModuleLaws.{MaybeLabel}

-- no module is refused, and these are the tables of their symbols
abbrev pub AreTables : List ParsedTree → List (List SymbolTree) → Type 0
AreTables [] [] = Unit {0}
AreTables [] (ss ∷ sss) = ⊥
AreTables (p ∷ ps) [] = ⊥
AreTables (p ∷ ps) (ss ∷ sss) = (symbols_of p ≡ Ok ss) × AreTables ps sss

-- labels are numbers up to 99,999 (ANSI X3.9-1978 §3.4), as reading gives them
abbrev pub AreLabelled : List Line → Type 0
AreLabelled ls = Each (λ (l : Line). MaybeLabel l.label) ls

-- the modules of some lines, the tables of their symbols, and their links
pub record IsProgram (ps : List ParsedTree) (sss : List (List SymbolTree)) (g : Graph) : Type 0 where
  pub lines : Lines
  pub labelled : AreLabelled lines.lines
  pub parsed : parse_of lines ≡ Ok ps
  pub tables : AreTables ps sss
  pub links : link_of ps sss ≡ Ok g

-- these numbers go up by one, from this one on
abbrev pub GoUp : ℕ → List ℕ → Type 0
GoUp n [] = Unit {0}
GoUp n (x ∷ xs) = (x ≡ n) × GoUp (n + 1) xs

-- that of a statement of the text
abbrev pub is_shown : ℕ → Bool
is_shown n = not (is_hidden n)
