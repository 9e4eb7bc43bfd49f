-- Programs as reading gives them, and what reading their written text gives.
use Rattle.std.specs.Prelude.{◌≡◌, ℕ, List, [], ◌∷◌, map, Ok}
use Rattle.f77_ast.specs.DeclTrees.{ParsedTree}
use Rattle.f77_ast.specs.Symbols.{SymbolTree}
use Rattle.f77_printer.specs.declared.added.Added.{Added}
use Rattle.storage_layout.specs.Symbols.{symbols_of}
use Rattle.call_graph.specs.declared.graph.Graph.{Graph}
use Rattle.call_graph.specs.Links.{link_of}
use Rattle.roundtrip_programs.specs.Statements.Formed.{Each}
use Rattle.roundtrip_programs.specs.Statements.Phrased.{IsPhrase}
use Rattle.roundtrip_programs.specs.ModuleTexts.Cards.{Card, statements_of}
use Rattle.roundtrip_programs.specs.ModuleTexts.Numbered.{IsWell}
use Rattle.roundtrip_programs.specs.Texts.Texts.{IsReadAs, modules_text, plain_text}
use Rattle.roundtrip_programs.specs.Texts.Laws.{AllPassedOver}
use Rattle.roundtrip_programs.specs.Laws.{tree_of}
use Rattle.roundtrip_programs.specs.Lines.{AreShown}

-- no module is refused, and these are the tables of their symbols
abbrev pub AreTables : List ParsedTree → List (List SymbolTree) → Type 0
AreTables [] [] = Unit {0}
AreTables [] (table ∷ tables) = ⊥
AreTables (p ∷ ps) [] = ⊥
AreTables (p ∷ ps) (table ∷ tables) = (symbols_of p ≡ Ok table) × AreTables ps tables

-- the text is read as these modules, which have these tables and this graph
pub record IsProgram (text : List ℕ) (ps : List ParsedTree) (tables : List (List SymbolTree)) (g : Graph) : Type 0 where
  pub read : IsReadAs text ps
  pub tabled : AreTables ps tables
  pub linked : link_of ps tables ≡ Ok g

-- the text is read as a program with these tables and this graph: its modules are the same as these, and each is written as the same text
pub record ProgramBack (text : List ℕ) (ps : List ParsedTree) (tables : List (List SymbolTree)) (g : Graph) : Type 0 where
  pub again : List ParsedTree
  pub program : IsProgram text again tables g
  pub same : map tree_of again ≡ map tree_of ps
  pub written : map plain_text again ≡ map plain_text ps

-- the written text of a program, with added comment lines that reading drops, is read as the same program
abbrev pub ProgramsReadBack : Type 0
ProgramsReadBack = (text : List ℕ) (ps : List ParsedTree) (tables : List (List SymbolTree)) (g : Graph) (added : ParsedTree → List Added) → IsProgram text ps tables g → AllPassedOver added ps
    → ProgramBack (modules_text added ps) ps tables g

-- each statement that is written of the module is such as the grammar gives
abbrev pub IsFormed : ParsedTree → Type 0
IsFormed p = Each (λ (c : Card). IsPhrase c.phrase) (statements_of p.module_read)

-- then the names of its symbols are of printable ASCII
abbrev pub NamesAreShown : Type 0
NamesAreShown = (p : ParsedTree) (table : List SymbolTree) → IsWell p.module_read → IsFormed p → symbols_of p ≡ Ok table → AreShown (map (λ s. s.name) table)
