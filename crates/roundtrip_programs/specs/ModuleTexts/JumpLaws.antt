-- Where the GO TOs of a module lead that is written again.
use Rattle.std.specs.Prelude.{◌≡◌, ℕ, List, [], ◌∷◌, ◌++◌, None}
use Rattle.f77_statements.specs.Phrases.{end_module}
use Rattle.f77_structure.specs.Steps.{blocks_of}
use Rattle.f77_structure.specs.Jumps.{block_fault}
use Rattle.f77_structure.specs.Checks.{fault_of}
use Rattle.f77_parser.specs.Statements.{StatementTree, marks_of}
use Rattle.f77_parser.specs.Building.{build_module}
use Rattle.roundtrip_programs.specs.Statements.Formed.{Each}
use Rattle.roundtrip_programs.specs.ModuleTexts.ModuleLaws.{AreWritten, IsStatement}

-- in the statements that are written of a module, which goes up to its END and is without a fault, neither the blocks nor
-- the GO TOs have a fault: each leads to an executable statement of a list that contains it
abbrev pub JumpsAgain : Type 0
JumpsAgain = (closing : List (List ℕ)) (begun : List StatementTree) (s : StatementTree) (ss : List StatementTree) → s.phrase ≡ end_module → Each IsStatement (begun ++ s ∷ [])
    → fault_of (marks_of (begun ++ s ∷ [])) ≡ None → AreWritten (build_module closing (begun ++ s ∷ [])).module_read ss → block_fault (blocks_of (marks_of ss)) ≡ None
