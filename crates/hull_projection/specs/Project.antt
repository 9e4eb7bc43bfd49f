-- Projection: variables are eliminated in ascending order, and the rest is cleaned.
use Rattle.std.specs.Prelude.{Bool, true, ◌&&◌, List, [], ◌∷◌}
use Rattle.affine_systems.specs.declared.row.Var.{Var}
use Rattle.affine_systems.specs.declared.row.System.{System}
use Rattle.affine_systems.specs.declared.row.Elim.{Elim}
use Rattle.affine_systems.specs.Eliminate.{eliminate}
use Rattle.hull_projection.specs.declared.projection.Shadow.{Shadow}
use Rattle.hull_projection.specs.Variables.{in_order}
use Rattle.hull_projection.specs.Clean.{clean}

abbrev pub shadow : System → Bool → Shadow
shadow s e = record { system = s; exact = e }

-- one variable less; exact where it was and the elimination is
abbrev pub shadow_after : Shadow → Elim → Shadow
shadow_after s e = shadow e.system (s.exact && e.exact)

abbrev pub eliminate_each : Shadow → List Var → Shadow
eliminate_each s [] = s
eliminate_each s (v ∷ vs) = eliminate_each (shadow_after s (eliminate s.system v)) vs

abbrev pub cleaned_shadow : Shadow → Shadow
cleaned_shadow s = shadow (clean s.system) s.exact

abbrev pub project : System → List Var → Shadow
project s vs = cleaned_shadow (eliminate_each (shadow s true) (in_order vs))
