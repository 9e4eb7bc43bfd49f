-- The blocks of a module, as its statements open and close them.
use Rattle.std.specs.Prelude.{ℕ, true, false, not, nat_le, List, [], ◌∷◌, ◌++◌, length, slice_set, Option, Some, None, if◌then◌else◌}
use Rattle.fx_lists.specs.declared.code.Code.TheVariants.{UnclosedDo, UnclosedIf, StrayPart, TooDeep}
use Rattle.fx_lists.specs.declared.refusal.Refusal.{Refusal}
use Rattle.f77_structure.specs.declared.mark.Action.{Action}
use Rattle.f77_structure.specs.declared.mark.Action.TheVariants.{Goto, Return, Stop, Other}
use Rattle.f77_structure.specs.declared.open.Kind.{Kind}
use Rattle.f77_structure.specs.declared.open.Sought.{Sought}
use Rattle.f77_structure.specs.declared.open.Open.{Open}
use Rattle.f77_structure.specs.declared.open.End.TheVariants as ends
use Rattle.f77_structure.specs.declared.open.Span.{Span}
use Rattle.f77_structure.specs.declared.blocks.Blocks.{Blocks}
use Rattle.fx_lists.specs.Refusals.{refuse_if}
use Rattle.f77_structure.specs.Lists.{first_of}
use Rattle.f77_structure.specs.Opens.{ends_at, is_if, fits, within_if, within_do}

-- ---- blocks end

-- the list of a block ends at a place
abbrev pub close_list : Open → ℕ → List Span → List Span
close_list o place spans = slice_set spans o.list (record { from = o.from; end = ends.At place })

-- a block ends, and these are open around it
abbrev pub left_one : Open → List Open → Blocks → Blocks
left_one o os b = record b { stack = os; spans = close_list o b.place b.spans }

abbrev pub left_from : List Open → Blocks → Blocks
left_from [] b = b
left_from (o ∷ os) b = left_one o os b

-- the innermost block ends
abbrev pub leave_innermost : Blocks → Blocks
leave_innermost b = left_from b.stack b

-- of these open blocks the innermost DOs with this label end: several may share their last statement (ANSI X3.9-1978 §11.10)
abbrev pub ended_by : ℕ → List Open → Blocks → Blocks
ended_by l [] b = b
ended_by l (o ∷ os) b = if ends_at l o.kind then ended_by l os (left_one o os b) else b

-- a block ends without its end, unless a bad one was told
abbrev pub refuse_unclosed : Open → Option Refusal → Option Refusal
refuse_unclosed o found = refuse_if (not o.spoiled) o.line (if is_if o.kind then UnclosedIf else UnclosedDo) found

-- of these open blocks those in the innermost that is sought end without their ends
abbrev pub down_to : Sought → List Open → Blocks → Blocks
down_to sought [] b = b
down_to sought (o ∷ os) b =
    if fits sought o.kind then b
    else down_to sought os (left_one o os (record b { found = refuse_unclosed o b.found }))

-- ---- blocks begin

abbrev pub opened : Kind → ℕ → Blocks → Open
opened kind line b = record {
  kind = kind;
  line = line;
  list = length b.spans;
  from = b.place;
  spoiled = false;
  in_if = within_if (first_of b.stack);
  in_do = within_do (first_of b.stack);
}

-- a list of statements begins
abbrev pub push_block : Kind → ℕ → Blocks → Blocks
push_block kind line b = record b {
  stack = opened kind line b ∷ b.stack;
  spans = b.spans ++ record { from = b.place; end = ends.Open } ∷ [];
}

-- a block is opened; 64 may stand in one another
abbrev pub enter_block : Kind → ℕ → Blocks → Blocks
enter_block kind line b = push_block kind line (record b { found = refuse_if (nat_le 64 (length b.stack)) line TooDeep b.found })

-- a part is out of place
abbrev pub stray : ℕ → Blocks → Blocks
stray line b = record b { found = refuse_if true line StrayPart b.found }

-- ---- executable statements

-- the place of the list that a statement stands in, this being the innermost open block
abbrev pub list_at : Option Open → ℕ
list_at None = 0
list_at (Some o) = o.list

-- an executable statement stands in the open list
abbrev pub add_landing : Option ℕ → Blocks → Blocks
add_landing None b = b
add_landing (Some l) b = record b { landings = b.landings ++ record { label = l; list = list_at (first_of b.stack) } ∷ [] }

abbrev pub ended_at : Option ℕ → Blocks → Blocks
ended_at None b = b
ended_at (Some l) b = ended_by l b.stack b

-- an executable statement that opens no block ends the DOs to its label
unfoldable pub parse_executable : Option ℕ → Blocks → Blocks
parse_executable label b = ended_at label (add_landing label b)

-- a GO TO is judged when the module was read
abbrev pub keep_jump : Action → ℕ → Blocks → Blocks
keep_jump (Goto l) line b = record b { jumps = b.jumps ++ record { line = line; label = l; place = b.place } ∷ [] }
keep_jump Return line b = b
keep_jump Stop line b = b
keep_jump Other line b = b
