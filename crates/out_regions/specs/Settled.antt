-- From which place on the regions of a list are trimmed.
use Rattle.std.specs.Prelude.{ℕ, ◌≤◌, List, length, drop}
use Rattle.in_out_regions.specs.region_sets.declared.region.Region.{Region}
use Rattle.in_out_regions.specs.region_sets.Settled.{AllSettled}

pub record IsSettledFrom (n : ℕ) (rs : List Region) : Type 0 where
  pub within : n ≤ length rs
  pub settled : AllSettled (drop n rs)
