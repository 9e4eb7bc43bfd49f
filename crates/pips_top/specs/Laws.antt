-- What is said of programs that are read.
use Rattle.std.specs.Prelude.{◌≡◌, ℕ, List, Ok}
use Rattle.pips_top.specs.Bounded.{BoundsHold}
use Rattle.pips_top.specs.ClaimsRead.{ReadsClaims}
use Rattle.pips_top.specs.Claimed.{ClaimsHold, SaysAll, LinesMean}
use Rattle.pips_top.specs.MarkedText.{ReadsMarked, RunsInterleaved}
use Rattle.pips_top.specs.Program.{ProgramTree}
use Rattle.pips_top.specs.ReadBack.{ReadsBack}
use Rattle.pips_top.specs.Reading.{reading}
use Rattle.pipsmake_base.specs.result_lines.declared.show.Show.{Show}
use Rattle.pipsmake_base.specs.pipsmake_meaning.Texts.{AreModules}
use Rattle.pipsmake_base.specs.pipsmake_db.State.{State}
use Rattle.pipsmake_base.specs.pipsmake_db.Scripts.{AnswersScript}
use Rattle.pips_top.specs.Sound.{IsSound, PrintsSoundly}
use Rattle.pips_top.specs.declared.wanted.Wanted.{Wanted}

-- what is said of a program that was read is true of every run
abbrev pub ReadClaimsHold : Type 0
ReadClaimsHold = (bytes : List ℕ) (p : ProgramTree) → reading bytes ≡ Ok p → ClaimsHold p

-- so is what the lines SAFE say of references
abbrev pub ReadBoundsHold : Type 0
ReadBoundsHold = (bytes : List ℕ) (p : ProgramTree) → reading bytes ≡ Ok p → BoundsHold p

-- and leaves nothing out
abbrev pub ReadAllSaid : Type 0
ReadAllSaid = (bytes : List ℕ) (p : ProgramTree) → reading bytes ≡ Ok p → SaysAll p

-- each line of it is read as just what was found
abbrev pub ReadLinesMean : Type 0
ReadLinesMean = (show : Wanted) (bytes : List ℕ) (p : ProgramTree) → reading bytes ≡ Ok p → LinesMean show p

-- what is written of a program that was read is read again as the same program, and written as the same text
abbrev pub ReadWrittenBack : Type 0
ReadWrittenBack = (show : Wanted) (bytes : List ℕ) (p : ProgramTree) → reading bytes ≡ Ok p → ReadsBack show p

-- and, with its claims, as that program with just the claims that are said of it
abbrev pub ReadClaimsBack : Type 0
ReadClaimsBack = (show : Wanted) (bytes : List ℕ) (p : ProgramTree) → reading bytes ≡ Ok p → ReadsClaims show p

-- and, with its directives, as that program with its parallel loops marked
abbrev pub ReadMarkedBack : Type 0
ReadMarkedBack = (show : Wanted) (bytes : List ℕ) (p : ProgramTree) → reading bytes ≡ Ok p → ReadsMarked show p

-- and this does as the program does, its marked loops interleaved
abbrev pub ReadRunsInterleaved : Type 0
ReadRunsInterleaved = (show : Wanted) (bytes : List ℕ) (p : ProgramTree) → reading bytes ≡ Ok p → (m : ReadsMarked show p) → RunsInterleaved show p m

-- so what is written of it is sound
abbrev pub ReadSoundly : Type 0
ReadSoundly = (show : Wanted) (bytes : List ℕ) (p : ProgramTree) → reading bytes ≡ Ok p → IsSound show p

-- and so is each program that a session prints
abbrev pub AnsweredSoundly : Type 0
AnsweredSoundly = (show : Show) (s : State) (script out : List ℕ) (end : State) → AreModules s.texts → AnswersScript show s script out end → PrintsSoundly show s script out
