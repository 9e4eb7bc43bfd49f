-- Systems that fit, where they are trimmed and where others are taken away.
use Rattle.std.proofs.Common.{List, [], ◌∷◌}
use Rattle.std.specs.List.{AllByRecursion}
use Rattle.affine_systems.specs.declared.row.System.{System}
use Rattle.affine_systems.specs.Given.{Fits}
use Rattle.hull_projection.specs.Minus.{AllFit, apart}
use Rattle.in_out_regions.specs.region_sets.Trim.{trim, or_infeasible}
use Rattle.in_out_regions.specs.region_sets.Subtract.{less_all}
use Rattle.in_out_regions.proofs.RegionSets.KeptLaws.{trim_are, trimmed_are, less_are}
use Rattle.laws_stored.proofs.Hulls.{hull_fit, apart_fit}
use Rattle.laws_stored.proofs.RulesFit.{infeasible_fit}

each_fits : (ss : List System) → AllFit ss → AllByRecursion Fits ss
each_fits [] h = tt
each_fits (s ∷ ss) h = (h.0, each_fits ss h.1)

all_fit : (ss : List System) → AllByRecursion Fits ss → AllFit ss
all_fit [] h = tt
all_fit (s ∷ ss) h = (h.0, all_fit ss h.1)

pub trim_fit : (ss : List System) → AllFit ss → AllFit (trim ss).pieces
trim_fit ss h = all_fit (trim ss).pieces (trim_are Fits hull_fit ss (each_fits ss h))

pub trimmed_fit : (ss : List System) → AllFit ss → AllFit (or_infeasible (trim ss).pieces)
trimmed_fit ss h = all_fit (or_infeasible (trim ss).pieces) (trimmed_are Fits hull_fit infeasible_fit ss (each_fits ss h))

pub less_fit : (ss ts : List System) → AllFit ss → AllFit ts → AllFit (less_all ss ts)
less_fit ss ts h k = all_fit (less_all ss ts) (less_are Fits (λ a b f g. each_fits (apart a b) (apart_fit a b f g)) ss ts (each_fits ss h) (each_fits ts k))
