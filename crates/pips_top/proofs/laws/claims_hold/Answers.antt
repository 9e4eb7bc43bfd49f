use Rattle.pips_top.proofs.EntryClaims.{claims_from}
use Rattle.pips_top.proofs.laws.claims_hold.Goals as goal

pub returns : goal.returns
returns c = claims_from c.read_analyses_hold.ensures c.read_regions_hold.ensures c.read_ins_hold.ensures c.read_outs_hold.ensures c.regions_are_over_places.ensures c.ins_are_over_places.ensures c.outs_are_over_places.ensures
