-- What is written of a module is in order.
use Rattle.std.specs.Prelude.{◌≡◌, ℕ, false, List, [], ◌∷◌, ◌++◌, None}
use Rattle.f77_statements.specs.Phrases.{end_module}
use Rattle.f77_structure.specs.Order.{order_of}
use Rattle.f77_structure.specs.Checks.{fault_of}
use Rattle.f77_parser.specs.Statements.{StatementTree, marks_of}
use Rattle.f77_parser.specs.Building.{build_module}
use Rattle.roundtrip_programs.specs.Statements.Formed.{Each}
use Rattle.roundtrip_programs.specs.ModuleTexts.ModuleLaws.{IsStatement, AreWritten}

-- its expressions are not too deep
abbrev pub IsFlat : StatementTree → Type 0
IsFlat s = s.deep ≡ false

-- of a module, which goes up to its END and is without a fault, statements are written that have no fault of order, number or labels
abbrev pub OrderAgain : Type 0
OrderAgain = (closing : List (List ℕ)) (begun : List StatementTree) (s : StatementTree) (ss : List StatementTree) → s.phrase ≡ end_module
    → Each IsStatement (begun ++ s ∷ []) → fault_of (marks_of (begun ++ s ∷ [])) ≡ None
    → AreWritten (build_module closing (begun ++ s ∷ [])).module_read ss → Each IsFlat ss → order_of (marks_of ss) ≡ None
