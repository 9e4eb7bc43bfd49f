-- The exit number of each status, and the lines on err.
use Rattle.std.specs.Prelude.{ℕ, List, [], ◌∷◌, ◌++◌, codes, decimal}
use Rattle.pipsmake_base.specs.pipsmake_rules.declared.key.Key.{Key}
use Rattle.pipsmake_base.specs.pipsmake_rules.Kinds.{name_of}
use Rattle.pipsmake_base.specs.base_text.declared.refusal.BaseRefusal.{BaseRefusal}
use Rattle.pipsmake_base.specs.base_text.declared.refusal.BaseRefusal.TheVariants.{NotJson, WrongShape, WrongVersion, NumberTooBig, Memory as NoRoom}
use Rattle.pips_top.specs.Codes.{code_name}
use Rattle.pips_top.specs.declared.status.Status.{Status}
use Rattle.pips_top.specs.declared.status.Status.TheVariants.{Done, Refused, Usage, NoInput, TooLong, ReadFault, WriteFault, BadBase, StaleBase, BaseFault, Memory}

abbrev pub number_of : Status → ℕ
number_of Done = 0
number_of (Refused line code) = 1
number_of Usage = 2
number_of NoInput = 3
number_of TooLong = 4
number_of ReadFault = 5
number_of WriteFault = 6
number_of (BadBase code) = 7
number_of StaleBase = 8
number_of BaseFault = 9
number_of Memory = 10

-- words, a name, and the end of the line
abbrev pub naming : List ℕ → List ℕ → List ℕ
naming text name = text ++ name ++ codes "\n"

-- the keyword of what is outside the profile, behind a blank
abbrev pub keyword_text : List ℕ → List ℕ
keyword_text [] = []
keyword_text (c ∷ cs) = codes " " ++ c ∷ cs

abbrev pub refusal_line : ℕ → ℕ → List ℕ → List ℕ
refusal_line line code keyword =
    codes "pips: line " ++ (decimal line ++ (codes ": " ++ (decimal code ++ (codes " " ++ (code_name code ++ (keyword_text keyword ++ codes "\n"))))))

-- the number and the name of what is wrong with a base; want of memory has none
abbrev pub base_word : BaseRefusal → List ℕ
base_word NotJson = codes "60 NotJson"
base_word WrongShape = codes "61 WrongShape"
base_word WrongVersion = codes "62 WrongVersion"
base_word NumberTooBig = codes "63 NumberTooBig"
base_word NoRoom = []

-- a base by its name, and what is wrong with it
abbrev pub base_line : List ℕ → BaseRefusal → List ℕ
base_line name refusal = codes "pips: base " ++ name ++ codes ": " ++ base_word refusal ++ codes "\n"

-- the result that is not what is defined
abbrev pub stale_line : Key → List ℕ
stale_line k = codes "pips: stale " ++ name_of k.kind ++ codes " " ++ k.name ++ codes "\n"

abbrev pub usage_line : List ℕ
usage_line = codes "usage: pips [--show all|bare|why] [--base NAME] [--verify] [--session] [--generate N] [--reductions] [--bounds] [INPUT]\n"
