use Rattle.laws_database.proofs.TextRead as read
use Rattle.laws_database.proofs.text_laws.texts_make_the_program.Goals as goal

pub returns : goal.returns
returns c = read.texts_make_the_program c.joined_make_the_program.ensures
