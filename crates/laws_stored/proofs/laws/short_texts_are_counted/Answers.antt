use Rattle.laws_stored.proofs.Counting.{short_texts_are_counted}
use Rattle.laws_stored.proofs.laws.short_texts_are_counted.Goals as goal

pub returns : goal.returns
returns c = short_texts_are_counted
