use Rattle.std.proofs.lemmas.List.{take-replicate}
use Rattle.fixed_form.proofs.cards.blanks.Goals as goal

pub returns : goal.returns
returns c = take-replicate c.args.count 72 32 c.requires
