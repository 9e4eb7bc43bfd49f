-- Labelled DOs that end at a statement that may not end one (ANSI X3.9-1978 §11.10).
use Rattle.std.specs.Prelude.{ℕ, Bool, true, false, List, [], ◌∷◌, Option, Some, None, if◌then◌else◌}
use Rattle.fx_lists.specs.declared.code.Code.TheVariants.{BadTerminal}
use Rattle.f77_structure.specs.declared.mark.Role.{Role}
use Rattle.f77_structure.specs.declared.open.Open.{Open}
use Rattle.f77_structure.specs.declared.blocks.Blocks.{Blocks}
use Rattle.f77_structure.specs.Lists.{first_of}
use Rattle.fx_lists.specs.Refusals.{refuse_if}
use Rattle.f77_structure.specs.Opens.{is_if, can_spoil}
pub use Rattle.f77_structure.specs.LastStatements.{is_forbidden, is_part}

abbrev pub spoiled : Open → Open
spoiled o = record o { spoiled = true }

-- of these open blocks, the innermost DOs with this label have their bad end
abbrev pub spoiled_run : ℕ → List Open → List Open
spoiled_run l [] = []
spoiled_run l (o ∷ os) = if can_spoil l o then spoiled o ∷ spoiled_run l os else o ∷ os

-- the innermost open block is one of them
abbrev pub ends_one : ℕ → Option Open → Bool
ends_one l None = false
ends_one l (Some o) = can_spoil l o

-- the statement stands in the list of the innermost block
abbrev pub spoil : ℕ → ℕ → Blocks → Blocks
spoil l line b = record b {
  stack = spoiled_run l b.stack;
  found = refuse_if (ends_one l (first_of b.stack)) line BadTerminal b.found;
}

abbrev pub spoil_behind : ℕ → ℕ → List Open → Blocks → Blocks
spoil_behind l line [] b = b
spoil_behind l line (o ∷ os) b = record b {
  stack = o ∷ spoiled_run l os;
  found = refuse_if (ends_one l (first_of os)) line BadTerminal b.found;
}

-- the statement is a part of the innermost block, and stands in the list around it
abbrev pub spoil_around : ℕ → ℕ → Blocks → Blocks
spoil_around l line b = spoil_behind l line b.stack b

abbrev pub spoil_within : Option Open → ℕ → ℕ → Blocks → Blocks
spoil_within None l line b = b
spoil_within (Some o) l line b = if is_if o.kind then spoil_around l line b else if o.in_if then b else spoil l line b

-- ELSE, ELSE IF or END IF: no DO ends at it where the block IF that it belongs to stands around the innermost block
abbrev pub spoil_part : ℕ → ℕ → Blocks → Blocks
spoil_part l line b = spoil_within (first_of b.stack) l line b

-- the DOs whose label stands at a statement that may not end them, as it is written
abbrev pub spoiled_by : Role → Option ℕ → ℕ → Blocks → Blocks
spoiled_by role None line b = b
spoiled_by role (Some l) line b =
    if is_forbidden role then spoil l line b
    else if is_part role then spoil_part l line b
    else b

-- blocks that were taken off, the last one first, and the others
abbrev pub put_back : List Open → List Open → List Open
put_back [] rest = rest
put_back (o ∷ os) rest = put_back os (o ∷ rest)
