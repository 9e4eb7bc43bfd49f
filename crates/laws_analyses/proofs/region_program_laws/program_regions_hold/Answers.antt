use Rattle.laws_analyses.proofs.Regions.Carrying.{LinkLaws}
use Rattle.laws_analyses.proofs.Regions.Whole.{program_regions_hold}
use Rattle.laws_analyses.proofs.region_program_laws.program_regions_hold.Goals as goal

pub returns : goal.returns
returns c = program_regions_hold (record { same = c.links_hold.ensures.same; scalar = c.links_hold.ensures.scalar; element = c.links_hold.ensures.element; array = c.links_hold.ensures.array; rest = c.links_hold.ensures.rest; block = c.links_hold.ensures.block })
