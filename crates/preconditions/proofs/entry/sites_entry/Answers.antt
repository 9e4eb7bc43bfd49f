use Rattle.preconditions.proofs.Steps.{later_fit}
use Rattle.preconditions.proofs.entry.sites_entry.Goals as goal

pub hull_with_sites-requires-clause-more : goal.hull_with_sites-requires-clause-more
hull_with_sites-requires-clause-more c = later_fit c.args.sites.now c.requires
