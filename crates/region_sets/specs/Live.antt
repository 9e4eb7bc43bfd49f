-- What is left out of sets, and how many pieces regions have.
use Rattle.std.specs.Prelude.{◌≡◌, ◌<◌, ◌≤◌, false, List, length, take, MatchOption}
use Rattle.affine_systems.specs.declared.row.System.{System}
use Rattle.hull_projection.specs.Refute.{refuted}
use Rattle.transformers.specs.transformer_algebra.Laws.{In}
use Rattle.transformers.specs.transformer_algebra.declared.transformer.Transformer.{Transformer}
use Rattle.region_sets.specs.declared.range.Range.{Range}
use Rattle.region_sets.specs.declared.region.Region.{Region}
use Rattle.region_sets.specs.Trim.{trim}
use Rattle.region_sets.specs.Unite.{unite}
use Rattle.region_sets.specs.Subtract.{subtract}
use Rattle.region_sets.specs.Compose.{compose}
use Rattle.region_sets.specs.Loops.{over_loop}
use Rattle.region_sets.specs.Sets.{unite_all}

-- no system of a region of a set is refuted; of the fourth, which may be a hull, this is not said
abbrev pub NoneIsRefuted : Type 0
NoneIsRefuted = (rs : List Region) (r : Region) → In r (unite_all rs) → (s : System) → In s (take 3 r.pieces) → refuted s.rows ≡ false

-- one to four
abbrev pub IsFew : List System → Type 0
IsFew ss = (0 < length ss) × (length ss ≤ 4)

-- each region that a rule makes has one to four pieces, where those that it is made of have
pub record RegionsAreFew : Type 0 where
  pub sets : (rs : List Region) (r : Region) → In r (unite_all rs) → IsFew r.pieces
  pub trims : (ss : List System) → length (trim ss).pieces ≤ 4
  pub unites : (a b : Region) → IsFew a.pieces → IsFew b.pieces → IsFew (unite a b).pieces
  pub subtracts : (a b : Region) → IsFew a.pieces → MatchOption (subtract a b) (Unit {0}) (λ r. IsFew r.pieces)
  pub composes : (r : Region) (t : Transformer) → IsFew (compose r t).pieces
  pub loops : (r : Region) (g : Range) → IsFew (over_loop r g).pieces
