-- What the structure of a module asks of a statement.
use Rattle.std.specs.Prelude.{ℕ, Bool, true, false, Option, Some, None}
use Rattle.f77_structure.specs.declared.mark.Action.{Action}
use Rattle.f77_structure.specs.declared.mark.Action.TheVariants.{Goto, Return, Stop, Other}
use Rattle.f77_structure.specs.declared.mark.Role.{Role}
use Rattle.f77_structure.specs.declared.mark.Role.TheVariants.{Program, Subroutine, Specification, Plain, LogicalIf, BlockIf, ElseIf, Else, EndIf, Do, EndDo, End}
use Rattle.f77_structure.specs.declared.mark.Mark.{Mark}

-- the CONTINUE that a label stands for
abbrev pub one_labelled : Option ℕ → ℕ
one_labelled None = 0
one_labelled (Some l) = 1

abbrev pub statements_by : Role → Option ℕ → ℕ
statements_by Program label = 0
statements_by Subroutine label = 0
statements_by Specification label = 0
statements_by (Plain a) label = 1
statements_by (LogicalIf a) label = 2
statements_by BlockIf label = 1
statements_by ElseIf label = 0
statements_by Else label = 0
statements_by EndIf label = one_labelled label
statements_by (Do t) label = 1
statements_by EndDo label = one_labelled label
statements_by End label = one_labelled label

-- how many executable statements a statement makes
abbrev pub statements_in : Mark → ℕ
statements_in m = statements_by m.role m.label

-- labels of headings, specifications, ELSE and ELSE IF are dropped
abbrev pub label_by : Role → Option ℕ → Option ℕ
label_by Program label = None
label_by Subroutine label = None
label_by Specification label = None
label_by (Plain a) label = label
label_by (LogicalIf a) label = label
label_by BlockIf label = label
label_by ElseIf label = None
label_by Else label = None
label_by EndIf label = label
label_by (Do t) label = label
label_by EndDo label = label
label_by End label = label

-- the label of an executable statement that a statement is or stands for
abbrev pub label_in : Mark → Option ℕ
label_in m = label_by m.role m.label

abbrev pub is_return : Action → Bool
is_return (Goto l) = false
is_return Return = true
is_return Stop = false
is_return Other = false

-- a RETURN, also one in a logical IF
abbrev pub returns_in : Role → Bool
returns_in Program = false
returns_in Subroutine = false
returns_in Specification = false
returns_in (Plain a) = is_return a
returns_in (LogicalIf a) = is_return a
returns_in BlockIf = false
returns_in ElseIf = false
returns_in Else = false
returns_in EndIf = false
returns_in (Do t) = false
returns_in EndDo = false
returns_in End = false
