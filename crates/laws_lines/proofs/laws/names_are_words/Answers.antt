use Rattle.laws_lines.proofs.NameWords.{names_are_words}
use Rattle.laws_lines.proofs.laws.names_are_words.Goals as goal

pub returns : goal.returns
returns c = names_are_words
