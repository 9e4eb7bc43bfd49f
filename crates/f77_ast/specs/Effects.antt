-- Sets of effects.
use Rattle.std.specs.Prelude.{false, ◌||◌, []}
use Rattle.f77_ast.specs.declared.effect_set.EffectSet.{EffectSet}
use Rattle.f77_ast.specs.Variables.{union}

abbrev pub no_effect : EffectSet
no_effect = record { reads = []; writes = []; io = false; stops = false }

-- the effects of both
abbrev pub unite : EffectSet → EffectSet → EffectSet
unite a b = record {
  reads = union a.reads b.reads;
  writes = union a.writes b.writes;
  io = a.io || b.io;
  stops = a.stops || b.stops;
}
