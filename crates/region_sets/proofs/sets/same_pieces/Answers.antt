use Rattle.region_sets.proofs.SameSystems.{pieces_same}
use Rattle.region_sets.proofs.sets.same_pieces.Goals as goal

pub returns : goal.returns
returns c = pieces_same c.eq.result c.args.a.now c.args.b.now c.eq.ensures
