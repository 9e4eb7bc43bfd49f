-- What the run of the small program does.
use Rattle.std.proofs.Common.{◌≡◌, refl}
use Rattle.f77_ast.specs.Runs.{Gave}
use Rattle.f77_ast.specs.Plans.{Normal}
use Rattle.pips_top.specs.Small.{trace}
use Rattle.pips_top.specs.ExampleLaws.{program, run_of, TextRunsSo}
use Rattle.pips_top.proofs.ExampleReading.{text_is_read}

run_ends : (run_of program).answer ≡ Gave Normal
run_ends = refl

run_does : (run_of program).trace ≡ trace
run_does = refl

pub runs_so : TextRunsSo
runs_so = record { read = text_is_read; ends = run_ends; does = run_does }
