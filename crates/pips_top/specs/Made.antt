-- What becomes of a text: it is refused, or there is a text to be written.
use Rattle.std.specs.Prelude.{ℕ, List, Result, Ok, Err}
use Rattle.f77_parser.specs.Gives.{Refused}
use Rattle.pips_top.specs.declared.wanted.Wanted.{Wanted}
use Rattle.pips_top.specs.Sample.{sample_program}
use Rattle.pips_top.specs.Counts.{counts_text}
use Rattle.pips_top.specs.Program.{ProgramTree}
use Rattle.pips_top.specs.Reading.{reading}
use Rattle.pips_top.specs.Written.{written}
use Rattle.pips_top.specs.declared.make.Made.{Made}
use Rattle.pips_top.specs.declared.make.Made.TheVariants.{Writes, Refuses}

-- the most bytes of INPUT
abbrev pub input_limit : ℕ
input_limit = 1048576

abbrev pub made_of : Wanted → Result ProgramTree Refused → Made
made_of w (Ok p) = Writes (written w p)
made_of w (Err r) = Refuses r.line r.code r.keyword

-- of INPUT: the written program
abbrev pub made : Wanted → List ℕ → Made
made w bytes = made_of w (reading bytes)

abbrev pub counted_of : Result ProgramTree Refused → Made
counted_of (Ok p) = Writes (counts_text p)
counted_of (Err r) = Refuses r.line r.code r.keyword

-- of a sample program of this many parts: its counts
abbrev pub counted : ℕ → Made
counted parts = counted_of (reading (sample_program parts))
