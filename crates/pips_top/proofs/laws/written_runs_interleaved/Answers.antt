use Rattle.pips_top.proofs.Interleaved.{interleaved_from}
use Rattle.pips_top.proofs.laws.written_runs_interleaved.Goals as goal

pub returns : goal.returns
returns c = interleaved_from c.read_runs_do_as_plain.ensures c.analyses_are_whole.ensures
