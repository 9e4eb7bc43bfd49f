use Rattle.base_values.proofs.ReadLaws as lemma
use Rattle.base_values.proofs.laws.read_fits.Goals as goal

pub returns : goal.returns
returns c = lemma.read_fits
