use Rattle.laws_database.proofs.TextSame as same
use Rattle.laws_database.proofs.text_laws.texts_are_written_alike.Goals as goal

pub returns : goal.returns
returns c = same.texts_are_written_alike c.joined_have_the_same_trees.ensures c.joined_are_written_alike.ensures
