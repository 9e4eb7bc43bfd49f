use Rattle.laws_database.proofs.Whole.{texts_are_shown}
use Rattle.laws_database.proofs.texts_are_shown.Goals as goal

pub returns : goal.returns
returns c = texts_are_shown
