-- The forms of the profile and the keyword of each.
use Rattle.std.specs.Prelude.{ℕ, List, [], ◌∷◌, map, Option, codes}
use Rattle.f77_forms.specs.declared.form.FormId.{FormId}
use Rattle.f77_forms.specs.declared.form.FormId.TheVariants.{Program, Subroutine, Function, IntegerFunction, LogicalFunction, Implicit, Integer, Logical, Dimension, Parameter, Common, Equivalence, Save, Data, Assignment, LogicalIf, BlockIf, ElseIf, Else, EndIf, Do, DoWhile, EndDo, Continue, Return, End, Goto, Call, Stop, Print, Write, Read}
use Rattle.f77_forms.specs.declared.refused.Refused.{Refused}
use Rattle.f77_forms.specs.Choice.{Entry, choice_of, form_of, refused_of}

-- the keyword that a form begins with; no keyword tells an assignment, an IF, a DO or a DO WHILE
abbrev pub keyword_of : FormId → List ℕ
keyword_of Program = codes "PROGRAM"
keyword_of Subroutine = codes "SUBROUTINE"
keyword_of Function = codes "FUNCTION"
keyword_of IntegerFunction = codes "INTEGERFUNCTION"
keyword_of LogicalFunction = codes "LOGICALFUNCTION"
keyword_of Implicit = codes "IMPLICIT"
keyword_of Integer = codes "INTEGER"
keyword_of Logical = codes "LOGICAL"
keyword_of Dimension = codes "DIMENSION"
keyword_of Parameter = codes "PARAMETER"
keyword_of Common = codes "COMMON"
keyword_of Equivalence = codes "EQUIVALENCE"
keyword_of Save = codes "SAVE"
keyword_of Data = codes "DATA"
keyword_of Assignment = []
keyword_of LogicalIf = []
keyword_of BlockIf = []
keyword_of ElseIf = codes "ELSEIF"
keyword_of Else = codes "ELSE"
keyword_of EndIf = codes "ENDIF"
keyword_of Do = []
keyword_of DoWhile = []
keyword_of EndDo = codes "ENDDO"
keyword_of Continue = codes "CONTINUE"
keyword_of Return = codes "RETURN"
keyword_of End = codes "END"
keyword_of Goto = codes "GOTO"
keyword_of Call = codes "CALL"
keyword_of Stop = codes "STOP"
keyword_of Print = codes "PRINT"
keyword_of Write = codes "WRITE"
keyword_of Read = codes "READ"

abbrev pub all_forms : List FormId
all_forms =
    Program ∷ Subroutine ∷ Function ∷ IntegerFunction ∷ LogicalFunction ∷ Implicit ∷ Integer ∷ Logical ∷ Dimension ∷ Parameter ∷ Common ∷ Equivalence ∷ Save ∷ Data ∷ Assignment ∷ LogicalIf ∷ BlockIf ∷
    ElseIf ∷ Else ∷ EndIf ∷ Do ∷ DoWhile ∷ EndDo ∷ Continue ∷ Return ∷ End ∷ Goto ∷ Call ∷ Stop ∷ Print ∷ Write ∷ Read ∷ []

-- each form with its keyword
abbrev pub profile : List Entry
profile = map (λ id. record { word = keyword_of id; id = id }) all_forms

-- the form of a statement
abbrev pub statement_form : List ℕ → Option FormId
statement_form body = form_of profile body

-- the keyword for which a statement is refused
abbrev pub statement_refused : List ℕ → Option Refused
statement_refused body = refused_of (choice_of profile body)
