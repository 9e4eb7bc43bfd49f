-- The lines on the references of what is read are comment lines that reading drops.
use Rattle.std.specs.Prelude.{ℕ, List}
use Rattle.f77_ast.specs.DeclTrees.{ParsedTree}
use Rattle.laws_programs.specs.roundtrip_programs.Statements.Formed.{Each}
use Rattle.laws_programs.specs.roundtrip_programs.Texts.Texts.{IsReadAs, IsPassedOver}
use Rattle.bound_check.specs.CheckLines.{check_lines_of}
use Rattle.bound_check.specs.Checked.{Knowledge, checked_of}

-- those of a module, by whatever its references are judged
abbrev pub ChecksPass : ParsedTree → Type 0
ChecksPass p = (k : Knowledge) → Each IsPassedOver (check_lines_of (checked_of k p.module_read.body))

-- those of each module of a text
abbrev pub CheckLinesPass : Type 0
CheckLinesPass = (text : List ℕ) (ps : List ParsedTree) → IsReadAs text ps → Each ChecksPass ps
