-- The keywords of statements that the profile leaves out.
use Rattle.std.specs.Prelude.{ℕ, List, [], ◌∷◌, Option, Some, None, Bool, true, false, not, ◌&&◌, ◌||◌, nat_eq, codes}
use Rattle.std.specs.List.{list_any}
use Rattle.f77_forms.specs.declared.refused.Refused.{Refused}
use Rattle.f77_forms.specs.declared.refused.Refused.TheVariants.{Real, DoublePrecision, Complex, Character, Format, Open, Close, Inquire, Rewind, Backspace, EndFile, Entry, BlockData, External, Intrinsic, Assign, Pause, OtherGoto, OtherPrint, OtherWrite, OtherRead, ArithmeticIf}
use Rattle.f77_forms.specs.Words.{rest_after, begins, is_letter, is_empty}

abbrev pub refused_word : Refused → List ℕ
refused_word Real = codes "REAL"
refused_word DoublePrecision = codes "DOUBLEPRECISION"
refused_word Complex = codes "COMPLEX"
refused_word Character = codes "CHARACTER"
refused_word Format = codes "FORMAT"
refused_word Open = codes "OPEN"
refused_word Close = codes "CLOSE"
refused_word Inquire = codes "INQUIRE"
refused_word Rewind = codes "REWIND"
refused_word Backspace = codes "BACKSPACE"
refused_word EndFile = codes "ENDFILE"
refused_word Entry = codes "ENTRY"
refused_word BlockData = codes "BLOCKDATA"
refused_word External = codes "EXTERNAL"
refused_word Intrinsic = codes "INTRINSIC"
refused_word Assign = codes "ASSIGN"
refused_word Pause = codes "PAUSE"
refused_word OtherGoto = codes "GOTO"
refused_word OtherPrint = codes "PRINT"
refused_word OtherWrite = codes "WRITE"
refused_word OtherRead = codes "READ"
refused_word ArithmeticIf = codes "IF"

-- all but the arithmetic IF, which no keyword alone tells
abbrev pub refused_keywords : List Refused
refused_keywords =
    Real ∷ DoublePrecision ∷ Complex ∷ Character ∷ Format ∷ Open ∷ Close ∷ Inquire ∷ Rewind ∷ Backspace ∷ EndFile ∷ Entry ∷ BlockData ∷ External ∷
    Intrinsic ∷ Assign ∷ Pause ∷ OtherGoto ∷ OtherPrint ∷ OtherWrite ∷ OtherRead ∷ []

-- a letter or a parenthesis behind GO TO: assigned or computed
abbrev pub is_indirect : List ℕ → Bool
is_indirect [] = false
is_indirect (c ∷ cs) = nat_eq c 40 || is_letter c

-- a control part, and none of these
abbrev pub has_other_control : List (List ℕ) → List ℕ → Bool
has_other_control parts rest = not (is_empty rest) && not (list_any (λ part. begins part rest) parts)

-- whether the keyword is refused before this text: some are only before certain texts
abbrev pub is_refused_before : Refused → List ℕ → Bool
is_refused_before OtherGoto rest = is_indirect rest
is_refused_before OtherPrint rest = has_other_control (codes "*" ∷ []) rest
is_refused_before OtherWrite rest = has_other_control (codes "(*,*)" ∷ codes "(6,*)" ∷ []) rest
is_refused_before OtherRead rest = has_other_control (codes "*" ∷ codes "(*,*)" ∷ codes "(5,*)" ∷ []) rest
is_refused_before ArithmeticIf rest = false
is_refused_before _ rest = true

abbrev pub stands_before : Refused → Option (List ℕ) → Bool
stands_before r None = false
stands_before r (Some rest) = is_refused_before r rest

-- a statement begins with the keyword and is refused for it
abbrev pub refused_stands : List ℕ → Refused → Bool
refused_stands body r = stands_before r (rest_after (refused_word r) body)
