-- What one statement changes of the blocks of its module.
use Rattle.std.specs.Prelude.{ℕ, ◌+◌, Bool, List, [], ◌∷◌, Option, Some, None, if◌then◌else◌}
use Rattle.f77_structure.specs.declared.mark.Role.{Role}
use Rattle.f77_structure.specs.declared.mark.Role.TheVariants.{Program, Subroutine, Specification, Plain, LogicalIf, BlockIf, ElseIf, Else, EndIf, Do, EndDo, End}
use Rattle.f77_structure.specs.declared.mark.Mark.{Mark}
use Rattle.f77_structure.specs.declared.open.Kind.{Kind}
use Rattle.f77_structure.specs.declared.open.Kind.TheVariants as kinds
use Rattle.f77_structure.specs.declared.open.Sought.{Sought}
use Rattle.f77_structure.specs.declared.open.Sought.TheVariants as sought
use Rattle.f77_structure.specs.declared.open.Open.{Open}
use Rattle.f77_structure.specs.declared.open.End.TheVariants as ends
use Rattle.f77_structure.specs.declared.blocks.Blocks.{Blocks}
use Rattle.f77_structure.specs.Lists.{first_of}
pub use Rattle.f77_structure.specs.Kinds.{is_else}
use Rattle.f77_structure.specs.Opens.{within_if, within_do}
use Rattle.f77_structure.specs.Blocks.{leave_innermost, down_to, push_block, enter_block, stray, add_landing, parse_executable, keep_jump}
use Rattle.f77_structure.specs.Terminals.{spoiled_by}

-- the innermost block, an IF, goes on with another list; nothing follows its ELSE but END IF
abbrev pub next_arm : Kind → ℕ → Option Open → Blocks → Blocks
next_arm next line None b = stray line b
next_arm next line (Some o) b = if is_else o.kind then stray line b else push_block next o.line (leave_innermost b)

-- ELSE and ELSE IF go with the innermost block IF, and the blocks in it are unclosed
abbrev pub divided_in : Kind → ℕ → Blocks → Blocks
divided_in next line b = next_arm next line (first_of b.stack) b

abbrev pub part : Kind → ℕ → Blocks → Blocks
part next line b =
    if within_if (first_of b.stack) then divided_in next line (down_to sought.BlockIf b.stack b) else stray line b

-- END IF and END DO end the innermost block that they fit, and the blocks in it are unclosed
abbrev pub end_block : Sought → Bool → ℕ → Blocks → Blocks
end_block what within line b = if within then leave_innermost (down_to what b.stack b) else stray line b

abbrev pub ended_if : ℕ → Blocks → Blocks
ended_if line b = end_block sought.BlockIf (within_if (first_of b.stack)) line b

abbrev pub ended_do : ℕ → Blocks → Blocks
ended_do line b = end_block sought.PlainDo (within_do (first_of b.stack)) line b

-- what is still open at the end of the module is unclosed
abbrev pub ended_module : Blocks → Blocks
ended_module b = down_to sought.Neither b.stack b

-- what a statement opens, divides and ends: a label of END IF stands for a CONTINUE behind it, and one of END DO or END
-- for a CONTINUE before it
abbrev pub by_role : Role → Option ℕ → ℕ → Blocks → Blocks
by_role Program label line b = b
by_role Subroutine label line b = b
by_role Specification label line b = b
by_role (Plain a) label line b = parse_executable label (keep_jump a line b)
by_role (LogicalIf a) label line b = parse_executable label (keep_jump a line b)
by_role BlockIf label line b = enter_block kinds.If line (add_landing label b)
by_role ElseIf label line b = part kinds.If line b
by_role Else label line b = part kinds.Else line b
by_role EndIf label line b = parse_executable label (ended_if line b)
by_role (Do t) label line b = enter_block (kinds.Do t) line (add_landing label b)
by_role EndDo label line b = ended_do line (parse_executable label b)
by_role End label line b = ended_module (parse_executable label b)

-- the statement at a place
unfoldable pub parse_statement : ℕ → Mark → Blocks → Blocks
parse_statement place m b = by_role m.role m.label m.line (spoiled_by m.role m.label m.line (record b { place = place }))

-- these statements, the first at a place
abbrev pub all_stepped : ℕ → List Mark → Blocks → Blocks
all_stepped place [] b = b
all_stepped place (m ∷ ms) b = all_stepped (place + 1) ms (parse_statement place m b)

-- before the first statement only the list of the module itself is there
abbrev pub nothing_open : Blocks
nothing_open = record {
  place = 0;
  stack = [];
  spans = record { from = 0; end = ends.Open } ∷ [];
  landings = [];
  jumps = [];
  found = None;
}

-- the blocks, the lists, the labels and the GO TOs of a module
abbrev pub blocks_of : List Mark → Blocks
blocks_of ms = all_stepped 0 ms nothing_open
