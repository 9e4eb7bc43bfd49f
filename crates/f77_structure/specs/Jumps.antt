-- Where the GO TOs of a module lead (ANSI X3.9-1978 §11.1).
use Rattle.std.specs.Prelude.{ℕ, Bool, true, false, not, ◌||◌, nat_eq, List, [], ◌∷◌, slice_get, Option, Some, None, if◌then◌else◌}
use Rattle.std.specs.List.{list_all}
use Rattle.fx_lists.specs.declared.code.Code.TheVariants.{LabelMissing, JumpIntoBlock}
use Rattle.fx_lists.specs.declared.refusal.Refusal.{Refusal}
use Rattle.f77_structure.specs.declared.open.Span.{Span}
use Rattle.f77_structure.specs.declared.blocks.Blocks.{Blocks}
use Rattle.f77_structure.specs.declared.blocks.Landing.{Landing}
use Rattle.f77_structure.specs.declared.blocks.Jump.{Jump}
use Rattle.fx_lists.specs.Refusals.{refuse_if}
use Rattle.f77_structure.specs.Opens.{contains}
pub use Rattle.f77_structure.specs.Checks.{stands}

abbrev pub contained_in : Option Span → ℕ → Bool
contained_in None place = false
contained_in (Some s) place = contains s place

-- a list contains the statement at a place
abbrev pub has_place : List Span → ℕ → ℕ → Bool
has_place spans list place = contained_in (slice_get spans list) place

-- each statement with the label of the GO TO stands in a list that contains the GO TO
abbrev pub reaches : List Span → List Landing → Jump → Bool
reaches spans landings j = list_all (λ x. not (nat_eq x.label j.label) || has_place spans x.list j.place) landings

abbrev pub check_jump : List Span → List Landing → Jump → Option Refusal → Option Refusal
check_jump spans landings j found =
    if stands landings j.label then refuse_if (not (reaches spans landings j)) j.line JumpIntoBlock found
    else refuse_if true j.line LabelMissing found

-- the first fault, also of these GO TOs
abbrev pub all_judged : List Span → List Landing → List Jump → Option Refusal → Option Refusal
all_judged spans landings [] found = found
all_judged spans landings (j ∷ js) found = all_judged spans landings js (check_jump spans landings j found)

-- the first fault of the blocks and of the GO TOs
abbrev pub block_fault : Blocks → Option Refusal
block_fault b = all_judged b.spans b.landings b.jumps b.found
