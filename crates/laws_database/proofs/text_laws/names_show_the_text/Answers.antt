use Rattle.laws_database.proofs.TextNamed as named
use Rattle.laws_database.proofs.text_laws.names_show_the_text.Goals as goal

pub returns : goal.returns
returns c = named.names_show_the_text
