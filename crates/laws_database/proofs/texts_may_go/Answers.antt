use Rattle.laws_database.proofs.Changes.{texts_may_go}
use Rattle.laws_database.proofs.texts_may_go.Goals as goal

pub returns : goal.returns
returns c = texts_may_go
