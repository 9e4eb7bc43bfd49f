-- The line that says why a command is refused.
use Rattle.std.specs.Prelude.{ℕ, List, [], ◌++◌, codes, decimal, nat_eq, Option, Some, None, if◌then◌else◌}
use Rattle.fx_lists.specs.declared.code.Code.{Code}
use Rattle.fx_lists.specs.declared.code.Code.TheVariants.{NoMain}
use Rattle.fx_lists.specs.Refusals.{number_of as number_of_code, name_of, code_numbered}
use Rattle.session_texts.specs.declared.refusal.Refusal.{Refusal}
use Rattle.session_texts.specs.declared.refusal.Refusal.TheVariants.{Source, Links, NoSuchKind, NoSuchName, NotShown, BadCommand, ShortSource}

abbrev pub number_of : Refusal → ℕ
number_of (Source line code) = code
number_of (Links name line code) = code
number_of NoSuchKind = 70
number_of NoSuchName = 71
number_of NotShown = 72
number_of BadCommand = 80
number_of ShortSource = 81

-- the name of a code, or nothing
abbrev pub name_or_nothing : Option Code → List ℕ
name_or_nothing None = []
name_or_nothing (Some code) = name_of code

abbrev pub word_of : Refusal → List ℕ
word_of (Source line code) = name_or_nothing (code_numbered code)
word_of (Links name line code) = name_or_nothing (code_numbered code)
word_of NoSuchKind = codes "NoSuchKind"
word_of NoSuchName = codes "NoSuchName"
word_of NotShown = codes "NotShown"
word_of BadCommand = codes "BadCommand"
word_of ShortSource = codes "ShortSource"

-- the line of a source text, or of the text of a module; that there is no main program is said of no line
abbrev pub place_of : Refusal → List ℕ
place_of (Source line code) = codes " line " ++ decimal line
place_of (Links name line code) = if nat_eq code (number_of_code NoMain) then [] else codes " line " ++ decimal line ++ codes " of " ++ name
place_of NoSuchKind = []
place_of NoSuchName = []
place_of NotShown = []
place_of BadCommand = []
place_of ShortSource = []

abbrev pub refused_line : Refusal → List ℕ
refused_line r = codes "refused " ++ decimal (number_of r) ++ codes " " ++ word_of r ++ place_of r ++ codes "\n"
