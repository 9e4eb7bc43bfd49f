use Rattle.std.proofs.Common.{All, sym, subst}
use Rattle.std.proofs.lemmas.List.Elements.{All-push}
use Rattle.module_phases.specs.InViews.{ModuleFits}
use Rattle.module_phases.proofs.in_phases.add_module.Goals as goal

pub returns-clause-fits : goal.returns-clause-fits
returns-clause-fits c = subst (All ModuleFits) (sym c.in_ok-push.ensures.items) (All-push ModuleFits _ _ c.requires.all (c.requires.known, c.in_ok-ins.ensures.fits))
