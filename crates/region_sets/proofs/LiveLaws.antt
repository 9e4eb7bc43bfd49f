-- What is refuted is in no set, and each region has one to four pieces.
use Rattle.std.proofs.Common.{◌≡◌, ◌<◌, ◌≤◌, ◌&&◌, Bool, true, false, List, [], ◌∷◌, ◌++◌, map, length, take, Some, arith}
use Rattle.std.specs.Prelude.{if◌then◌else◌, MatchOption}
use Rattle.affine_systems.specs.declared.row.System.{System}
use Rattle.hull_projection.specs.Refute.{refuted}
use Rattle.transformers.specs.transformer_algebra.Laws.{In, here, there}
use Rattle.region_sets.specs.declared.region.Region.{Region}
use Rattle.region_sets.specs.Regions.{remade, all_exact, systems}
use Rattle.region_sets.specs.Compose.{compose_piece}
use Rattle.region_sets.specs.Loops.{loop_piece}
use Rattle.region_sets.specs.Within.{all_within}
use Rattle.region_sets.specs.Trim.{trim, or_infeasible, trimmed_to}
use Rattle.region_sets.specs.Unite.{unite}
use Rattle.region_sets.specs.Subtract.{are_places, less_all, unless_empty, all_left, all_apart, subtract}
use Rattle.region_sets.specs.Sets.{with_pieces, with_regions, all_trimmed}
use Rattle.region_sets.specs.Live.{NoneIsRefuted, IsFew, RegionsAreFew}
use Rattle.region_sets.proofs.TrimLaws.{trim_front, trim_few}

abbrev pub IsLive : System → Type 0
IsLive s = refuted s.rows ≡ false

-- what is so of the pieces of each trimmed region, where one is left
module _ (P : List System → Type 0) (of_trim : (ss : List System) → 0 < length (trim ss).pieces → P (trim ss).pieces) where
  pub of_sets : (rs : List Region) (r : Region) → In r (all_trimmed rs) → P r.pieces
  of_sets [] r i = elim i [ ]
  of_sets (a ∷ rs) r i = go (a.exact && (trim a.pieces).exact) (trim a.pieces).pieces (of_trim a.pieces) i (of_sets rs r)
    where
      at_front : (b : Region) → P b.pieces → In r (b ∷ all_trimmed rs) → (In r (all_trimmed rs) → P r.pieces) → P r.pieces
      at_front b h here f = h
      at_front b h (there j) f = f j

      go : (e : Bool) (ss : List System) → (0 < length ss → P ss) → In r (with_pieces a e ss (λ q. q ∷ all_trimmed rs) (all_trimmed rs)) → (In r (all_trimmed rs) → P r.pieces) → P r.pieces
      go e [] h j f = f j
      go e (u ∷ us) h j f = at_front (remade a e (u ∷ us)) (h (omega arith)) j f

abbrev AreLive : List System → Type 0
AreLive ss = (s : System) → In s (take 3 ss) → IsLive s

pub none_is_refuted : NoneIsRefuted
none_is_refuted rs r i = of_sets AreLive (λ ss l s j. (trim_front s ss j).0) (with_regions [] rs) r i

-- ---- one to four

pub few_left : (ss : List System) → length ss ≤ 4 → IsFew (or_infeasible ss)
few_left [] l = (omega arith, omega arith)
few_left (s ∷ ss) l = (omega arith, l)

few_trimmed : (r : Region) (e : Bool) (ss : List System) → IsFew (trimmed_to r e ss).pieces
few_trimmed r e ss = few_left (trim ss).pieces (trim_few ss)

few_united : (a b : Region) → IsFew a.pieces → IsFew b.pieces → IsFew (unite a b).pieces
few_united a b h k = go (all_within a.pieces b.pieces) (all_within b.pieces a.pieces)
  where
    go : (m n : Bool) → IsFew (if m then remade a a.exact a.pieces else if n then remade b b.exact b.pieces else trimmed_to a (a.exact && b.exact) (a.pieces ++ b.pieces)).pieces
    go true n = h
    go false true = k
    go false false = few_trimmed a (a.exact && b.exact) (a.pieces ++ b.pieces)

few_unless : (r : Region) (e : Bool) (ss : List System) → length ss ≤ 4 → MatchOption (unless_empty r e ss) (Unit {0}) (λ q. IsFew q.pieces)
few_unless r e [] l = tt
few_unless r e (s ∷ ss) l = (omega arith, l)

few_subtracted : (a b : Region) → IsFew a.pieces → MatchOption (subtract a b) (Unit {0}) (λ r. IsFew r.pieces)
few_subtracted a b h = go (b.exact && are_places b.pieces)
  where
    ss : List System
    ss = less_all a.pieces b.pieces

    go : (m : Bool) → MatchOption (if m then all_left a (less_all a.pieces b.pieces) else Some (remade a (a.exact && all_apart a.pieces b.pieces) a.pieces)) (Unit {0}) (λ r. IsFew r.pieces)
    go true = few_unless a (a.exact && (trim ss).exact) (trim ss).pieces (trim_few ss)
    go false = h

pub are_few : RegionsAreFew
are_few = record {
  sets = λ rs r i. of_sets IsFew (λ ss l. (l, trim_few ss)) (with_regions [] rs) r i;
  trims = trim_few;
  unites = few_united;
  subtracts = few_subtracted;
  composes = λ r t. few_trimmed r (r.exact && all_exact (map (compose_piece t) r.pieces)) (systems (map (compose_piece t) r.pieces));
  loops = λ r g. few_trimmed r (r.exact && all_exact (map (loop_piece g) r.pieces)) (systems (map (loop_piece g) r.pieces));
}
