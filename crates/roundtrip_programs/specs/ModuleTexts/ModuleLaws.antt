-- What is written of a module makes it again.
use Rattle.std.specs.Prelude.{◌≡◌, ℕ, ◌≤◌, List, [], ◌∷◌, map, ◌++◌, Option, Some, None, Ok}
use Rattle.f77_ast.specs.declared.places.Places.{Places}
use Rattle.f77_ast.specs.DeclTrees.{ModuleTree, ParsedTree}
use Rattle.f77_statements.specs.Phrases.{PhraseTree, end_module}
use Rattle.f77_structure.specs.Steps.{blocks_of}
use Rattle.f77_structure.specs.Checks.{fault_of}
use Rattle.f77_structure.specs.Lists.{is_none_of}
use Rattle.f77_parser.specs.Statements.{StatementTree, marks_of}
use Rattle.f77_parser.specs.Building.{build_module}
use Rattle.f77_parser.specs.Modules.{closing_at, module_fault, modules_from}
use Rattle.f77_printer.specs.declared.added.Added.{Added}
use Rattle.f77_printer.specs.PageText.{lines_text}
use Rattle.f77_printer.specs.AddedText.{added_text}
use Rattle.f77_printer.specs.ModuleText.{first_part, module_text}
use Rattle.roundtrip_programs.specs.Statements.Formed.{Each}
use Rattle.roundtrip_programs.specs.Statements.Phrased.{IsPhrase}
use Rattle.roundtrip_programs.specs.Statements.Written.{as_written}
use Rattle.roundtrip_programs.specs.ModuleTexts.Cards.{Card, statements_of}
use Rattle.roundtrip_programs.specs.ModuleTexts.Numbered.{IsWell}
use Rattle.roundtrip_programs.specs.ModuleTexts.Page.{page_text}
use Rattle.roundtrip_programs.specs.ModuleTexts.Shallow.{IsNested}

-- a statement by itself with its label
pub record Labelled : Type 0 where
  pub label : Option ℕ
  pub phrase : PhraseTree

abbrev pub of_statement : StatementTree → Labelled
of_statement s = record { label = s.label; phrase = s.phrase }

abbrev pub of_card : Card → Labelled
of_card c = record { label = c.label; phrase = c.phrase }

-- these statements are those that are written of the module, at any lines and with any comments
abbrev pub AreWritten : ModuleTree → List StatementTree → Type 0
AreWritten m ss = map of_statement ss ≡ map of_card (statements_of m)

-- the statements that are written of a module make it again
abbrev pub BuiltAgain : Type 0
BuiltAgain = (m : ModuleTree) (closing : List (List ℕ)) (ss : List StatementTree) → IsWell m → AreWritten m ss → (build_module closing ss).module_read ≡ m

abbrev pub IsStatement : StatementTree → Type 0
IsStatement s = IsPhrase s.phrase

-- a module, which goes up to its END and is without a fault, stands for one that is numbered in the order of its text
abbrev pub BuiltWell : Type 0
BuiltWell = (closing : List (List ℕ)) (begun : List StatementTree) (s : StatementTree) → s.phrase ≡ end_module → Each IsStatement (begun ++ s ∷ [])
    → fault_of (marks_of (begun ++ s ∷ [])) ≡ None → IsWell (build_module closing (begun ++ s ∷ [])).module_read

-- from 1 to 99999, where there is one
abbrev pub MaybeLabel : Option ℕ → Type 0
MaybeLabel None = Unit {0}
MaybeLabel (Some l) = record { least : 1 ≤ l; most : l ≤ 99999 }

-- a statement as lines and the grammar give it
pub record IsRead (s : StatementTree) : Type 0 where
  pub label : MaybeLabel s.label
  pub phrase : IsPhrase s.phrase

-- a statement that is read as it is written
pub record IsCard (c : Card) : Type 0 where
  pub label : MaybeLabel c.label
  pub phrase : IsPhrase c.phrase
  pub same : as_written c.phrase ≡ c.phrase

-- what is written of a module, which goes up to its END and is without a fault, is formed as what was read of it
abbrev pub CardsRead : Type 0
CardsRead = (closing : List (List ℕ)) (begun : List StatementTree) (s : StatementTree) → s.phrase ≡ end_module → Each IsRead (begun ++ s ∷ [])
    → fault_of (marks_of (begun ++ s ∷ [])) ≡ None → Each IsCard (statements_of (build_module closing (begun ++ s ∷ [])).module_read)

-- the text of a module is that of its statements, each behind its comments and what is added, and the comments at its end
abbrev pub WrittenByCards : Type 0
WrittenByCards = (places : Places) (m : ModuleTree) (added : List Added) → IsWell m
    → module_text places m added ≡ page_text (added_text (first_part m) added) places.spots (statements_of m) ++ lines_text places.closing

-- statements that are written of a module, where no fault is found in them, are read as one module, which is that one
pub record OneModule (m : ModuleTree) (closing : List (List ℕ)) (ss : List StatementTree) : Type 0 where
  pub alone : modules_from closing [] [] ss ≡ Ok (build_module closing ss ∷ [])
  pub same : (build_module closing ss).module_read ≡ m

abbrev pub ReadAlone : Type 0
ReadAlone = (m : ModuleTree) (closing : List (List ℕ)) (ss : List StatementTree) → IsWell m → AreWritten m ss → module_fault ss ≡ None → OneModule m closing ss

-- before others they are read as that module, and the others behind it; the last module has the comments at the end
abbrev pub ReadNext : Type 0
ReadNext = (m : ModuleTree) (closing : List (List ℕ)) (done : List ParsedTree) (ss more : List StatementTree) → AreWritten m ss → module_fault ss ≡ None
    → modules_from closing done [] (ss ++ more) ≡ modules_from closing (done ++ build_module (closing_at (is_none_of more) closing) ss ∷ []) [] more

-- in a module without a fault at most 64 blocks stand in one another
abbrev pub BuiltNested : Type 0
BuiltNested = (closing : List (List ℕ)) (begun : List StatementTree) (s : StatementTree) → s.phrase ≡ end_module → Each IsStatement (begun ++ s ∷ [])
    → fault_of (marks_of (begun ++ s ∷ [])) ≡ None → IsNested (build_module closing (begun ++ s ∷ [])).module_read

-- in what is written of such a module each block ends, no part is out of place, no label ends a DO, and no block is too deep
abbrev pub BlocksAgain : Type 0
BlocksAgain = (m : ModuleTree) (ss : List StatementTree) → IsNested m → AreWritten m ss → (blocks_of (marks_of ss)).found ≡ None
