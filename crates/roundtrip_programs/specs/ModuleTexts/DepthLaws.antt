-- Parentheses stand no deeper in what is written than in what was read.
use Rattle.std.specs.Prelude.{◌≡◌, ℕ, List, [], ◌∷◌, ◌++◌, None, Ok, false}
use Rattle.f77_ast.specs.Trees.{continue}
use Rattle.f77_structure.specs.Depth.{is_deep}
use Rattle.f77_statements.specs.Phrases.{PhraseTree, simple, else_part, end_if, end_do, end_module}
use Rattle.f77_statements.specs.Statements.{phrase_of}
use Rattle.f77_structure.specs.Checks.{fault_of}
use Rattle.f77_parser.specs.Statements.{StatementTree, marks_of}
use Rattle.f77_parser.specs.Building.{build_module}
use Rattle.roundtrip_programs.specs.Statements.Formed.{Each}
use Rattle.roundtrip_programs.specs.Statements.Written.{as_written}
use Rattle.roundtrip_programs.specs.ModuleTexts.Cards.{Card, statements_of}
use Rattle.roundtrip_programs.specs.ModuleTexts.ModuleLaws.{IsStatement}
use Rattle.roundtrip_programs.specs.ModuleTexts.Flat.{IsFlat}

-- statements by themselves
pub record NotDeeper : Type 0 where
  -- what was read and does not stand too deep is written so
  pub flat : (body : List ℕ) (p : PhraseTree) → phrase_of body ≡ Ok p → is_deep body ≡ false → IsFlat p
  pub kept : (p : PhraseTree) → IsFlat p → IsFlat (as_written p)
  -- nor do the statements that end a block or begin its last part
  pub else_flat : IsFlat else_part
  pub end_if_flat : IsFlat end_if
  pub end_do_flat : IsFlat end_do
  pub end_flat : IsFlat end_module
  pub continue_flat : IsFlat (simple continue)

abbrev pub FlatStatement : StatementTree → Type 0
FlatStatement s = IsFlat s.phrase

abbrev pub FlatCard : Card → Type 0
FlatCard c = IsFlat c.phrase

-- each statement that is written of a module, which goes up to its END and is without a fault, stands no deeper than those that the module was built of
abbrev pub CardsFlat : Type 0
CardsFlat = (closing : List (List ℕ)) (begun : List StatementTree) (s : StatementTree) → s.phrase ≡ end_module → Each IsStatement (begun ++ s ∷ []) → Each FlatStatement (begun ++ s ∷ [])
    → fault_of (marks_of (begun ++ s ∷ [])) ≡ None → Each FlatCard (statements_of (build_module closing (begun ++ s ∷ [])).module_read)
