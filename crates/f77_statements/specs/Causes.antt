-- Why a statement is refused: the lowest cause.
use Rattle.std.specs.Prelude.{ℕ, List, [], ◌∷◌, Option, Some, None, Result, Ok, Err, if◌then◌else◌}
use Rattle.fx_lists.specs.declared.code.Code.{Code}
use Rattle.fx_lists.specs.declared.code.Code.TheVariants as codes
use Rattle.f77_exprs.specs.declared.at.Notes.{Notes}
use Rattle.f77_exprs.specs.State.{State}
use Rattle.f77_statements.specs.declared.refusal.Cause.{Cause}
use Rattle.f77_statements.specs.declared.refusal.Cause.TheVariants.{Syntax, OutOfProfile, RealConstant, NumberTooBig, NameTooLong}

-- the codes by which causes are reported
abbrev pub code_of : Cause → Code
code_of Syntax = codes.Syntax
code_of (OutOfProfile keyword) = codes.OutOfProfile
code_of RealConstant = codes.RealConstant
code_of NumberTooBig = codes.NumberTooBig
code_of NameTooLong = codes.NameTooLong

-- the lowest cause that was noted
abbrev pub noted : {A : Type 0} → Notes → A → Result A Cause
noted n a = if n.real then Err RealConstant else if n.big then Err NumberTooBig else if n.long then Err NameTooLong else Ok a

-- nothing may be left
abbrev pub finished : {A : Type 0} → List ℕ → Notes → A → Result A Cause
finished [] n a = noted n a
finished (c ∷ cs) n a = Err Syntax

-- what a reading of the whole statement gives
abbrev pub verdict : {A : Type 0} → Option (A × State) → Result A Cause
verdict None = Err Syntax
verdict (Some r) = finished r.1.rest r.1.notes r.0
