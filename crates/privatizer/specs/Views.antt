-- What the code holds, as plain data, and what calls ask of it.
use Rattle.affine_systems.specs.Given.{Fits}
use Rattle.in_out_regions.specs.region_sets.Sets.{SetFits}
use Rattle.privatizer.specs.declared.uses.Uses as code
use Rattle.privatizer.specs.Uses as plain

abbrev pub uses_tree : code.Uses → plain.Uses
uses_tree u = record { head = u.head; ins = u.ins; before = u.before; outs = u.outs.now }

pub record UsesFit (u : code.Uses) : Type 0 where
  pub head : Fits u.head
  pub ins : SetFits u.ins
  pub before : Fits u.before
  pub outs : SetFits u.outs.now
