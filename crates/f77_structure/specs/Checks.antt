-- The faults of a module.
use Rattle.std.specs.Prelude.{ℕ, Bool, true, not, ◌||◌, nat_eq, nat_le, List, [], ◌∷◌, ◌++◌, length, Option, if◌then◌else◌}
use Rattle.std.specs.List.{list_any, list_all}
use Rattle.fx_lists.specs.declared.code.Code.{Code}
use Rattle.fx_lists.specs.declared.code.Code.TheVariants.{UnclosedDo, UnclosedIf, StrayPart, BadTerminal, LabelMissing, JumpIntoBlock, TooDeep}
use Rattle.fx_lists.specs.declared.refusal.Refusal.{Refusal}
use Rattle.f77_structure.specs.declared.mark.Role.{Role}
use Rattle.f77_structure.specs.declared.mark.Role.TheVariants.{BlockIf, ElseIf, Else, EndIf, Do, EndDo, End}
use Rattle.f77_structure.specs.declared.mark.Mark.{Mark}
use Rattle.f77_structure.specs.declared.open.Sought.{Sought}
use Rattle.f77_structure.specs.declared.open.Sought.TheVariants as sought
use Rattle.f77_structure.specs.declared.blocks.Landing.{Landing}
use Rattle.fx_lists.specs.Refusals.{refuse_if}
use Rattle.f77_structure.specs.Kinds.{is_if}
use Rattle.f77_structure.specs.Nesting.{Block, Going, Nesting, nothing, is_within, inside, is_divisible, is_bad_end, over_by, past_label, after}
use Rattle.f77_structure.specs.Order.{order_of}

abbrev pub fault_if : Bool → ℕ → Code → List Refusal
fault_if wrong line fault = if wrong then record { line = line; code = fault } ∷ [] else []

-- ---- blocks

-- these blocks are without their ends; of a DO that is over that is told at its last statement
abbrev pub unclosed_all : List Block → List Refusal
unclosed_all [] = []
unclosed_all (o ∷ os) = fault_if (not o.over) o.line (if is_if o.kind then UnclosedIf else UnclosedDo) ++ unclosed_all os

-- a part goes with the innermost block that fits, and the blocks in it are without their ends
abbrev pub unclosed_in : Sought → List Block → List Refusal
unclosed_in what os = if is_within what os then unclosed_all (inside what os) else []

abbrev pub too_deep : ℕ → List Block → List Refusal
too_deep line os = fault_if (nat_le 64 (length os)) line TooDeep

-- ELSE and ELSE IF want a block IF that had no ELSE
abbrev pub part_faults : ℕ → List Block → List Refusal
part_faults line os = unclosed_in sought.BlockIf os ++ fault_if (not (is_divisible os)) line StrayPart

abbrev pub end_faults : Sought → ℕ → List Block → List Refusal
end_faults what line os = unclosed_in what os ++ fault_if (not (is_within what os)) line StrayPart

abbrev pub faults_by : Role → Option ℕ → ℕ → List Block → List Refusal
faults_by BlockIf label line os = too_deep line os
faults_by (Do t) label line os = too_deep line os
faults_by ElseIf label line os = part_faults line os
faults_by Else label line os = part_faults line os
faults_by EndIf label line os = end_faults sought.BlockIf line os
faults_by EndDo label line os = end_faults sought.PlainDo line (past_label label os)
faults_by End label line os = unclosed_all (past_label label os)
faults_by role label line os = []

-- the faults of a statement, where these blocks are open before it
abbrev pub faults_at : Mark → List Block → List Refusal
faults_at m os = fault_if (is_bad_end m.role m.label os) m.line BadTerminal ++ faults_by m.role m.label m.line (over_by m.role m.label os)

-- ---- GO TOs (§11.1)

-- an executable statement has the label
abbrev pub stands : List Landing → ℕ → Bool
stands labels l = list_any (λ x. nat_eq x.label l) labels

-- each statement with the label of the GO TO is in a list that contains the GO TO
abbrev pub is_reached : List Landing → Going → Bool
is_reached labels j = list_all (λ x. not (nat_eq x.label j.label) || list_any (λ k. nat_eq k x.list) j.lists) labels

abbrev pub jump_faults : List Landing → Going → List Refusal
jump_faults labels j =
    if stands labels j.label then fault_if (not (is_reached labels j)) j.line JumpIntoBlock else fault_if true j.line LabelMissing

abbrev pub all_jump_faults : List Landing → List Going → List Refusal
all_jump_faults labels [] = []
all_jump_faults labels (j ∷ js) = jump_faults labels j ++ all_jump_faults labels js

-- ---- the module

-- the faults of these statements and of the GO TOs, behind statements that nest so
abbrev pub nest_faults : Nesting → List Mark → List Refusal
nest_faults n [] = all_jump_faults n.labels n.jumps
nest_faults n (m ∷ ms) = faults_at m n.blocks ++ nest_faults (after m n) ms

-- the first of a fault and these
abbrev pub first_among : List Refusal → Option Refusal → Option Refusal
first_among [] found = found
first_among (f ∷ fs) found = first_among fs (refuse_if true f.line f.code found)

-- the fault of a module at the earliest line, and there the one with the lowest number
unfoldable pub fault_of : List Mark → Option Refusal
fault_of ms = first_among (nest_faults nothing ms) (order_of ms)
