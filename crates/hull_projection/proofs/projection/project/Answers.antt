use Rattle.std.proofs.Common.{sym, subst}
use Rattle.std.specs.Prelude.{IfOk}
use Rattle.affine_systems.specs.declared.row.System.{System}
use Rattle.affine_systems.specs.Given.{Fits}
use Rattle.hull_projection.specs.Laws.{ProjectsPoints, ExtendsPoints}
use Rattle.hull_projection.proofs.projection.project.Goals as goal

pub project_owned-requires : goal.project_owned-requires
project_owned-requires c = record { fits = subst Fits (sym c.in_ok-copy.ensures) c.requires.fits }

pub returns-clause-sound : goal.returns-clause-sound
returns-clause-sound c = subst (λ (s : System). IfOk c.project_owned.result (ProjectsPoints s c.args.vars.now)) c.in_ok-copy.ensures c.project_owned.ensures.sound

pub returns-clause-exact : goal.returns-clause-exact
returns-clause-exact c = subst (λ (s : System). IfOk c.project_owned.result (ExtendsPoints s c.args.vars.now)) c.in_ok-copy.ensures c.project_owned.ensures.exact
