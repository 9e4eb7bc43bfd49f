use Rattle.pipsmake_base.proofs.BaseLaws.{bases_are_modules, empty_is_base}
use Rattle.pipsmake_base.proofs.laws.bases_are_modules.Goals as goal

pub returns : goal.returns
returns c = record { modules = bases_are_modules; empty = empty_is_base }
