use Rattle.std.proofs.lemmas.List.{get_or-replicate}
use Rattle.elimination.proofs.lone.no_homes.Goals as goal

pub returns : goal.returns
returns c b l = get_or-replicate 4096 b 0 0 l
