use Rattle.base_values.proofs.TakenLaws as lemma
use Rattle.base_values.proofs.laws.fits_is_taken.Goals as goal

pub returns : goal.returns
returns c = lemma.fits_is_taken
