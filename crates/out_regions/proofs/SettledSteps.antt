-- OUT regions as they are gathered: those from a place on are trimmed.
use Rattle.std.proofs.Common.{◌≡◌, ℕ, false, true≢false, List, [], ◌∷◌, ◌++◌, Option, Some, None, length, drop, sym, subst, length-append, arith}
use Rattle.std.proofs.lemmas.List.{drop-append-le}
use Rattle.std.proofs.Math.Seq.{drop-length}
use Rattle.affine_systems.specs.declared.row.System.{System}
use Rattle.in_out_regions.specs.region_sets.declared.region.Region.{Region}
use Rattle.in_out_regions.specs.transformer_algebra.declared.transformer.Transformer.{Transformer}
use Rattle.in_out_regions.specs.region_sets.Lists.{all_composed}
use Rattle.in_out_regions.specs.region_sets.Trim.{trim}
use Rattle.in_out_regions.specs.region_sets.Settled.{AreSettled, AllSettled}
use Rattle.in_out_regions.proofs.RegionSets.SettledLaws.{settled_trim, settled_append, settled_composed}
use Rattle.out_regions.specs.Settled.{IsSettledFrom}
use Rattle.out_regions.specs.Used.{unless_empty, each_met, met_with}

unless_settled : (w : Region) (ss : List System) → AreSettled false ss → AllSettled (unless_empty w ss)
unless_settled w [] h = tt
unless_settled w (s ∷ ss) h = (h, tt)

met_settled : (w : Region) (o : Option Region) → AllSettled (met_with w o)
met_settled w None = tt
met_settled w (Some u) = let ms = each_met w.pieces u.pieces in unless_settled w (trim ms).pieces (settled_trim false ms (λ e. absurd (true≢false (sym e))))

-- with what is met of one region more
pub settled_met : (out new : List Region) (w : Region) (o : Option Region) (n : ℕ) → IsSettledFrom n out → new ≡ out ++ met_with w o → IsSettledFrom n new
settled_met out new w o n h e =
    let qs = met_with w o in
    subst (IsSettledFrom n) (sym e) (record {
      within = omega (arith, length-append out qs, h.within);
      settled = subst AllSettled (sym (drop-append-le n out qs h.within)) (settled_append (drop n out) qs h.settled (met_settled w o));
    })

pub settled_end : (out : List Region) (n : ℕ) → n ≡ length out → IsSettledFrom n out
settled_end out n e = record { within = omega (arith, e); settled = subst (λ k. AllSettled (drop k out)) (sym e) (subst AllSettled (sym (drop-length out)) tt) }

pub settled_none : (out : List Region) → out ≡ [] → IsSettledFrom 0 out
settled_none out e = subst (IsSettledFrom 0) (sym e) (record { within = omega arith; settled = tt })

-- as seen from before what a transformer describes
pub settled_seen : (t : Transformer) (rs new : List Region) → new ≡ all_composed t rs → AllSettled new
settled_seen t rs new n = subst AllSettled (sym n) (settled_composed t rs)

pub ruleset seen = (settled_seen)

pub ruleset settled_steps = (settled_met, settled_end, settled_none)
