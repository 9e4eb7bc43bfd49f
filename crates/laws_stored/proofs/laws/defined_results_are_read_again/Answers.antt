use Rattle.laws_stored.proofs.Joined.{read_again}
use Rattle.laws_stored.proofs.laws.defined_results_are_read_again.Goals as goal

pub returns : goal.returns
returns c = read_again c.written_is_read.ensures c.fits_is_small.ensures
