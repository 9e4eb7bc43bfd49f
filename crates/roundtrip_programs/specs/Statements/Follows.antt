-- What may stand behind an expression or a variable, where it does not go on.
use Rattle.std.specs.Prelude.{◌≡◌, ℕ, List, [], ◌∷◌, false, ◌||◌, nat_eq, IsTrue}
use Rattle.f77_exprs.specs.declared.at.Notes.{Notes}
use Rattle.f77_exprs.specs.State.{State}

-- a text and what was met before it
abbrev pub standing : List ℕ → Notes → State
standing text notes = record { rest = text; notes = notes }

-- no number with a point, none that is too big, and no name that is too long was met
pub record IsClean (notes : Notes) : Type 0 where
  pub real : notes.real ≡ false
  pub big : notes.big ≡ false
  pub long : notes.long ≡ false

-- nothing, or one of `)`, `,`, `:`
abbrev pub EndsExpression : List ℕ → Type 0
EndsExpression [] = Unit {0}
EndsExpression (c ∷ cs) = IsTrue (nat_eq c 41 || nat_eq c 44 || nat_eq c 58)

-- nothing, or one of `)`, `,`, `/`, `=`
abbrev pub EndsVariable : List ℕ → Type 0
EndsVariable [] = Unit {0}
EndsVariable (c ∷ cs) = IsTrue (nat_eq c 41 || nat_eq c 44 || nat_eq c 47 || nat_eq c 61)
