-- The counts that a store keeps.
use Rattle.fx_base.specs.declared.tally.Tally.{Tally}
use Rattle.fx_base.specs.declared.tally.Tallies.{Tallies}
use Rattle.fx_base.specs.declared.store.Role.{Role}
use Rattle.fx_base.specs.declared.store.Role.TheVariants.{Input, Base}

-- the counts of a role
abbrev pub tally_of : Tallies → Role → Tally
tally_of t Input = t.input
tally_of t Base = t.base
