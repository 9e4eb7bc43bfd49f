-- The codes of refusals, and which of several refusals is reported.
use Rattle.std.specs.Prelude.{ℕ, Bool, List, [], ◌∷◌, ◌&&◌, ◌||◌, codes, nat_eq, nat_lt, Option, Some, None, if◌then◌else◌}
use Rattle.fx_lists.specs.declared.code.Code.{Code}
use Rattle.fx_lists.specs.declared.code.Code.TheVariants.{NonAscii, Tab, BadLabelField, ContinuationFirst, TooManyContinuations, NoEnd, Syntax, OutOfProfile, RealConstant, NumberTooBig, NameTooLong, UnclosedDo, UnclosedIf, StrayPart, BadTerminal, LabelTwice, LabelMissing, JumpIntoBlock, TooManyStatements, TooDeep, RealName, DeclaredTwice, BadDimension, BadParameter, CommonTwice, EquivalenceClash, EquivalenceExtendsBack, InitialMismatch, SubscriptCount, TypeMismatch, AssignToConstant, NotAnArray, NoMain, TwoMains, ModuleTwice, NoSuchModule, ArgumentCount, ArgumentType, Recursion, TooManyModules}
use Rattle.fx_lists.specs.declared.refusal.Refusal.{Refusal}

-- the numbers by which they are reported
abbrev pub number_of : Code → ℕ
number_of NonAscii = 1
number_of Tab = 2
number_of BadLabelField = 3
number_of ContinuationFirst = 4
number_of TooManyContinuations = 5
number_of NoEnd = 6
number_of Syntax = 10
number_of OutOfProfile = 11
number_of RealConstant = 12
number_of NumberTooBig = 13
number_of NameTooLong = 14
number_of UnclosedDo = 15
number_of UnclosedIf = 16
number_of StrayPart = 17
number_of BadTerminal = 18
number_of LabelTwice = 19
number_of LabelMissing = 20
number_of JumpIntoBlock = 21
number_of TooManyStatements = 22
number_of TooDeep = 23
number_of RealName = 30
number_of DeclaredTwice = 31
number_of BadDimension = 32
number_of BadParameter = 33
number_of CommonTwice = 34
number_of EquivalenceClash = 35
number_of EquivalenceExtendsBack = 36
number_of InitialMismatch = 37
number_of SubscriptCount = 38
number_of TypeMismatch = 39
number_of AssignToConstant = 40
number_of NotAnArray = 41
number_of NoMain = 50
number_of TwoMains = 51
number_of ModuleTwice = 52
number_of NoSuchModule = 53
number_of ArgumentCount = 54
number_of ArgumentType = 55
number_of Recursion = 56
number_of TooManyModules = 57

-- the names by which they are reported
abbrev pub name_of : Code → List ℕ
name_of NonAscii = codes "NonAscii"
name_of Tab = codes "Tab"
name_of BadLabelField = codes "BadLabelField"
name_of ContinuationFirst = codes "ContinuationFirst"
name_of TooManyContinuations = codes "TooManyContinuations"
name_of NoEnd = codes "NoEnd"
name_of Syntax = codes "Syntax"
name_of OutOfProfile = codes "OutOfProfile"
name_of RealConstant = codes "RealConstant"
name_of NumberTooBig = codes "NumberTooBig"
name_of NameTooLong = codes "NameTooLong"
name_of UnclosedDo = codes "UnclosedDo"
name_of UnclosedIf = codes "UnclosedIf"
name_of StrayPart = codes "StrayPart"
name_of BadTerminal = codes "BadTerminal"
name_of LabelTwice = codes "LabelTwice"
name_of LabelMissing = codes "LabelMissing"
name_of JumpIntoBlock = codes "JumpIntoBlock"
name_of TooManyStatements = codes "TooManyStatements"
name_of TooDeep = codes "TooDeep"
name_of RealName = codes "RealName"
name_of DeclaredTwice = codes "DeclaredTwice"
name_of BadDimension = codes "BadDimension"
name_of BadParameter = codes "BadParameter"
name_of CommonTwice = codes "CommonTwice"
name_of EquivalenceClash = codes "EquivalenceClash"
name_of EquivalenceExtendsBack = codes "EquivalenceExtendsBack"
name_of InitialMismatch = codes "InitialMismatch"
name_of SubscriptCount = codes "SubscriptCount"
name_of TypeMismatch = codes "TypeMismatch"
name_of AssignToConstant = codes "AssignToConstant"
name_of NotAnArray = codes "NotAnArray"
name_of NoMain = codes "NoMain"
name_of TwoMains = codes "TwoMains"
name_of ModuleTwice = codes "ModuleTwice"
name_of NoSuchModule = codes "NoSuchModule"
name_of ArgumentCount = codes "ArgumentCount"
name_of ArgumentType = codes "ArgumentType"
name_of Recursion = codes "Recursion"
name_of TooManyModules = codes "TooManyModules"

-- all codes, in the order of their numbers
abbrev pub all_codes : List Code
all_codes =
    NonAscii ∷ Tab ∷ BadLabelField ∷ ContinuationFirst ∷ TooManyContinuations ∷ NoEnd ∷ Syntax ∷ OutOfProfile ∷
    RealConstant ∷ NumberTooBig ∷ NameTooLong ∷ UnclosedDo ∷ UnclosedIf ∷ StrayPart ∷ BadTerminal ∷ LabelTwice ∷
    LabelMissing ∷ JumpIntoBlock ∷ TooManyStatements ∷ TooDeep ∷ RealName ∷ DeclaredTwice ∷ BadDimension ∷
    BadParameter ∷ CommonTwice ∷ EquivalenceClash ∷ EquivalenceExtendsBack ∷ InitialMismatch ∷ SubscriptCount ∷
    TypeMismatch ∷ AssignToConstant ∷ NotAnArray ∷ NoMain ∷ TwoMains ∷ ModuleTwice ∷ NoSuchModule ∷ ArgumentCount ∷
    ArgumentType ∷ Recursion ∷ TooManyModules ∷ []

-- the first of these codes with this number
abbrev pub numbered_in : List Code → ℕ → Option Code
numbered_in [] number = None
numbered_in (code ∷ others) number = if nat_eq number (number_of code) then Some code else numbered_in others number

abbrev pub code_numbered : ℕ → Option Code
code_numbered number = numbered_in all_codes number

-- the earlier line, then the lower number
unfoldable pub is_before : Refusal → Refusal → Bool
is_before a b = nat_lt a.line b.line || (nat_eq a.line b.line && nat_lt (number_of a.code) (number_of b.code))

-- the earlier of a new refusal and of what was found, which stays where neither is before the other
abbrev pub earliest : Refusal → Option Refusal → Refusal
earliest new None = new
earliest new (Some old) = if is_before new old then new else old

-- the first refusal, where one more was met if something is wrong
unfoldable pub refuse_if : Bool → ℕ → Code → Option Refusal → Option Refusal
refuse_if wrong line code found = if wrong then Some (earliest (record { line = line; code = code }) found) else found
