-- The part of a module's results that claims on scalars are about.
use Rattle.pipsmake_base.specs.module_phases.ScalarPhases.{Analysis}
use Rattle.pipsmake_base.specs.loop_marker.Results.{ModuleResults}

-- its preconditions and transformers
abbrev pub scalars_said : ModuleResults → Analysis
scalars_said r = record { found = record { known = r.known; own = r.transformers }; holds = r.preconditions }
