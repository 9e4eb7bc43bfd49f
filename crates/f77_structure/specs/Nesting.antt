-- How the statements of a module nest: which blocks are open behind each, and in which lists of statements labels and GO TOs are (ANSI X3.9-1978 §11).
use Rattle.std.specs.Prelude.{ℕ, ◌+◌, ◌-◌, Bool, true, false, not, ◌&&◌, ◌||◌, List, [], ◌∷◌, ◌++◌, length, take, Option, Some, None, if◌then◌else◌}
use Rattle.std.specs.List.{list_any}
use Rattle.f77_structure.specs.declared.mark.Action.{Action}
use Rattle.f77_structure.specs.declared.mark.Action.TheVariants.{Goto}
use Rattle.f77_structure.specs.declared.mark.Role.{Role}
use Rattle.f77_structure.specs.declared.mark.Role.TheVariants.{Plain, LogicalIf, BlockIf, ElseIf, Else, EndIf, Do, EndDo, End}
use Rattle.f77_structure.specs.declared.mark.Mark.{Mark}
use Rattle.f77_structure.specs.declared.open.Kind.{Kind}
use Rattle.f77_structure.specs.declared.open.Kind.TheVariants as kinds
use Rattle.f77_structure.specs.declared.open.Sought.{Sought}
use Rattle.f77_structure.specs.declared.open.Sought.TheVariants as sought
use Rattle.f77_structure.specs.declared.blocks.Landing.{Landing}
use Rattle.f77_structure.specs.Kinds.{ends_at, is_if, is_else, fits}
use Rattle.f77_structure.specs.Marks.{label_by}
use Rattle.f77_structure.specs.LastStatements.{is_forbidden, is_part}

-- an open block: what opened it and at which line, the number of the list that is open in it, and whether it is a DO whose
-- last statement came and may not be one
pub record Block : Type 0 where
  pub kind : Kind
  pub line : ℕ
  pub list : ℕ
  pub over : Bool

-- a GO TO, and the lists that contain it
pub record Going : Type 0 where
  pub line : ℕ
  pub label : ℕ
  pub lists : List ℕ

-- behind some statements: the open blocks, the innermost first; how many lists began, which are numbered from 0, the module's own; the labels of
-- executable statements, each with the list that it is in; the GO TOs
pub record Nesting : Type 0 where
  pub blocks : List Block
  pub lists : ℕ
  pub labels : List Landing
  pub jumps : List Going

-- before the first statement only the list of the module itself is there
abbrev pub nothing : Nesting
nothing = record { blocks = []; lists = 1; labels = []; jumps = [] }

-- ---- open blocks, the innermost first

-- the lists that contain a statement in these blocks, and the innermost of them
abbrev pub lists_of : List Block → List ℕ
lists_of [] = 0 ∷ []
lists_of (o ∷ os) = o.list ∷ lists_of os

abbrev pub list_of : List Block → ℕ
list_of [] = 0
list_of (o ∷ os) = o.list

-- a block that fits is open
abbrev pub is_within : Sought → List Block → Bool
is_within what os = list_any (λ o. fits what o.kind) os

-- the innermost block that fits, with those around it
abbrev pub innermost : Sought → List Block → List Block
innermost what [] = []
innermost what (o ∷ os) = if fits what o.kind then o ∷ os else innermost what os

-- the blocks in it
abbrev pub inside : Sought → List Block → List Block
inside what [] = []
inside what (o ∷ os) = if fits what o.kind then [] else o ∷ inside what os

-- without the innermost
abbrev pub outside : List Block → List Block
outside [] = []
outside (o ∷ os) = os

-- the innermost block IF that is open has had no ELSE
abbrev pub first_divisible : List Block → Bool
first_divisible [] = false
first_divisible (o ∷ os) = not (is_else o.kind)

abbrev pub is_divisible : List Block → Bool
is_divisible os = first_divisible (innermost sought.BlockIf os)

-- ---- the last statement of a labelled DO

-- the blocks whose innermost list a statement with a label is in: a part of the innermost block is in the list around it, and where the block IF of a
-- part is further out, that is no list in which a DO can end
abbrev pub around_part : List Block → List Block
around_part [] = []
around_part (o ∷ os) = if is_if o.kind then os else if is_within sought.BlockIf os then [] else o ∷ os

abbrev pub around : Role → List Block → List Block
around role os = if is_part role then around_part os else os

-- a DO to this label whose last statement did not come yet
abbrev pub awaits : ℕ → Block → Bool
awaits l o = ends_at l o.kind && not o.over

abbrev pub first_awaits : ℕ → List Block → Bool
first_awaits l [] = false
first_awaits l (o ∷ os) = awaits l o

-- a DO has its last statement at one that may not be one, and this is told once
abbrev pub is_bad_end : Role → Option ℕ → List Block → Bool
is_bad_end role None os = false
is_bad_end role (Some l) os = (is_forbidden role || is_part role) && first_awaits l (around role os)

-- the innermost DOs that wait for the label are over
abbrev pub over_at : ℕ → List Block → List Block
over_at l [] = []
over_at l (o ∷ os) = if awaits l o then record o { over = true } ∷ over_at l os else o ∷ os

abbrev pub over_around : ℕ → List Block → List Block → List Block
over_around l outer os = take (length os - length outer) os ++ over_at l outer

-- the open blocks, once the statement is seen as a last one
abbrev pub over_by : Role → Option ℕ → List Block → List Block
over_by role None os = os
over_by role (Some l) os = if is_forbidden role || is_part role then over_around l (around role os) os else os

-- ---- what a statement opens, divides and ends

-- the DOs to a label end: several may have one last statement (§11.10)
abbrev pub past : ℕ → List Block → List Block
past l [] = []
past l (o ∷ os) = if ends_at l o.kind then past l os else o ∷ os

abbrev pub past_label : Option ℕ → List Block → List Block
past_label None os = os
past_label (Some l) os = past l os

-- the innermost block that fits ends, and those in it
abbrev pub without : Sought → List Block → List Block
without what os = if is_within what os then outside (innermost what os) else os

-- the innermost block IF goes on with another list
abbrev pub next_list : Kind → ℕ → List Block → List Block
next_list kind list [] = []
next_list kind list (o ∷ os) = if is_else o.kind then o ∷ os else record { kind = kind; line = o.line; list = list; over = false } ∷ os

abbrev pub divide : Kind → ℕ → List Block → List Block
divide kind list os = if is_within sought.BlockIf os then next_list kind list (innermost sought.BlockIf os) else os

abbrev pub begin : Kind → ℕ → ℕ → List Block → List Block
begin kind line list os = record { kind = kind; line = line; list = list; over = false } ∷ os

-- a list of this number begins with the statement
abbrev pub begins : Role → List Block → Bool
begins BlockIf os = true
begins (Do t) os = true
begins ElseIf os = is_divisible os
begins Else os = is_divisible os
begins role os = false

-- the blocks around an executable statement: a label of END IF stands for a CONTINUE behind it, one of END DO or END for one before it
abbrev pub at_label : Role → List Block → List Block
at_label EndIf os = without sought.BlockIf os
at_label role os = os

-- the open blocks behind a statement; a list that it begins has this number
abbrev pub blocks_after : Role → Option ℕ → ℕ → ℕ → List Block → List Block
blocks_after (Plain a) label line list os = past_label label os
blocks_after (LogicalIf a) label line list os = past_label label os
blocks_after BlockIf label line list os = begin kinds.If line list os
blocks_after ElseIf label line list os = divide kinds.If list os
blocks_after Else label line list os = divide kinds.Else list os
blocks_after EndIf label line list os = past_label label (without sought.BlockIf os)
blocks_after (Do t) label line list os = begin (kinds.Do t) line list os
blocks_after EndDo label line list os = without sought.PlainDo (past_label label os)
blocks_after End label line list os = []
blocks_after role label line list os = os

-- ---- behind a statement

abbrev pub label_in_list : Option ℕ → ℕ → List Landing
label_in_list None list = []
label_in_list (Some l) list = record { label = l; list = list } ∷ []

abbrev pub going : Action → ℕ → List ℕ → List Going
going (Goto l) line lists = record { line = line; label = l; lists = lists } ∷ []
going action line lists = []

abbrev pub goings : Role → ℕ → List ℕ → List Going
goings (Plain a) line lists = going a line lists
goings (LogicalIf a) line lists = going a line lists
goings role line lists = []

abbrev pub after_role : Role → Option ℕ → ℕ → List Block → Nesting → Nesting
after_role role label line os n = record {
  blocks = blocks_after role label line n.lists os;
  lists = if begins role os then n.lists + 1 else n.lists;
  labels = n.labels ++ label_in_list (label_by role label) (list_of (at_label role os));
  jumps = n.jumps ++ goings role line (lists_of os);
}

-- one statement more
abbrev pub after : Mark → Nesting → Nesting
after m n = after_role m.role m.label m.line (over_by m.role m.label n.blocks) n
