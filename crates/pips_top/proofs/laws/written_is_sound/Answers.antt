use Rattle.pips_top.proofs.Sessions.{soundly_from}
use Rattle.pips_top.proofs.laws.written_is_sound.Goals as goal

pub returns : goal.returns
returns c = soundly_from c.claims_hold.ensures c.bounds_hold.ensures c.all_is_said.ensures c.lines_mean_results.ensures c.written_reads_back.ensures c.written_reads_claims.ensures c.written_reads_marked.ensures c.written_runs_interleaved.ensures
