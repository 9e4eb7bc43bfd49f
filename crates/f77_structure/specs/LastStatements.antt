-- Which statements may not be the last of a DO (ANSI X3.9-1978 §11.10).
use Rattle.std.specs.Prelude.{Bool, true, false}
use Rattle.f77_structure.specs.declared.mark.Action.{Action}
use Rattle.f77_structure.specs.declared.mark.Action.TheVariants.{Goto, Return, Stop, Other}
use Rattle.f77_structure.specs.declared.mark.Role.{Role}
use Rattle.f77_structure.specs.declared.mark.Role.TheVariants.{Program, Subroutine, Specification, Plain, LogicalIf, BlockIf, ElseIf, Else, EndIf, Do, EndDo, End}

abbrev pub leaves : Action → Bool
leaves (Goto l) = true
leaves Return = true
leaves Stop = true
leaves Other = false

-- GO TO, RETURN, STOP, a block IF, DO and END may not be the last statement of a DO
abbrev pub is_forbidden : Role → Bool
is_forbidden Program = false
is_forbidden Subroutine = false
is_forbidden Specification = false
is_forbidden (Plain a) = leaves a
is_forbidden (LogicalIf a) = false
is_forbidden BlockIf = true
is_forbidden ElseIf = false
is_forbidden Else = false
is_forbidden EndIf = false
is_forbidden (Do t) = true
is_forbidden EndDo = false
is_forbidden End = true

-- nor may ELSE IF, ELSE and END IF
abbrev pub is_part : Role → Bool
is_part Program = false
is_part Subroutine = false
is_part Specification = false
is_part (Plain a) = false
is_part (LogicalIf a) = false
is_part BlockIf = false
is_part ElseIf = true
is_part Else = true
is_part EndIf = true
is_part (Do t) = false
is_part EndDo = false
is_part End = false
