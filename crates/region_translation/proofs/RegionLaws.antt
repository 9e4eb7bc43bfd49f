-- What the translation keeps of each system it keeps of the region.
use Rattle.std.proofs.Common.{◌≡◌, ℕ, ℤ, map, ◌&&◌, true, false, Bool, Option, Some, refl, sym, subst}
use Rattle.std.specs.Prelude.{not, MatchOption, option_map}
use Rattle.std.proofs.lemmas.Bool.{and_parts, not-true}
use Rattle.call_translation.specs.transformer_algebra.Claims.{Scene}
use Rattle.call_translation.specs.transformer_algebra.Laws.{In, here, there}
use Rattle.region_sets.specs.declared.region.Region.{Region}
use Rattle.region_sets.specs.Regions.{any_weak, all_exact, systems}
use Rattle.region_sets.specs.Claims.{Elements, LiesIn, IsSharp}
use Rattle.call_equations.specs.declared.link.Link.{Link}
use Rattle.call_equations.specs.Sides.{SidesTree}
use Rattle.region_translation.specs.Pieces.{piece_in_caller}
use Rattle.region_translation.specs.Caller.{by_link, to_caller}
use Rattle.region_translation.specs.Claims.{FormsMean, LinkHolds, inner_of}
use Rattle.region_translation.specs.Laws.{SendsUnits, SendsSharp}
use Rattle.region_translation.proofs.PieceLaws.{entered, piece_describes, piece_source}
use Rattle.region_sets.proofs.DescribedLaws.{stored, by_piece}
use Rattle.region_sets.proofs.PieceLaws.{in_systems, made}

record Exactly (c : SidesTree) (r : Region) (l : Link) : Type 0 where
  region : r.exact ≡ true
  link : l.exact ≡ true
  each : all_exact (map (piece_in_caller c l) r.pieces) ≡ true
  strong : any_weak (systems (map (piece_in_caller c l) r.pieces)) ≡ false

exactly : (c : SidesTree) (r : Region) (l : Link) → (by_link c r l).exact ≡ true → Exactly c r l
exactly c r l h =
    let f = piece_in_caller c l in
    let a = and_parts ((r.exact && l.exact) && all_exact (map f r.pieces)) (not (any_weak (systems (map f r.pieces)))) h in
    let b = and_parts (r.exact && l.exact) (all_exact (map f r.pieces)) a.0 in
    let d = and_parts r.exact l.exact b.0 in
    record { region = d.0; link = d.1; each = b.1; strong = not-true (any_weak (systems (map f r.pieces))) a.1 }

module _ (c : SidesTree) (r : Region) (m e : Scene) (x y : ℕ → ℤ) (outer inner : Elements) (l : Link) (forms : FormsMean c m e x y) (lh : LinkHolds m e x y outer inner l) where
  lies_by_link : (u : ℕ) → LiesIn e inner r y u → LiesIn m outer (by_link c r l) x u
  lies_by_link u w =
      let d = w.described (stored e y) (λ n t. refl) in
      let psi = lh.to w.phi u w.there in
      record {
        phi = psi;
        there = lh.there w.phi u w.there;
        described = by_piece m x psi (piece_in_caller c l d.piece).system (systems (map (piece_in_caller c l) r.pieces)) (in_systems (piece_in_caller c l) d.piece r.pieces d.is_one)
            (piece_describes c l m e x y forms d.piece w.phi psi (λ q k. lh.stays q w.phi u w.there k) (λ q a b h. lh.holds w.phi u w.there q a b h) d.holds);
      }

  sharp_by_link : (accessed : ℕ → Bool) → IsSharp e inner r y accessed → IsSharp m outer (by_link c r l) x accessed
  sharp_by_link accessed sharp ex p st h =
      let k = exactly c r l ex in
      let w = made (piece_in_caller c l) p r.pieces k.each k.strong h in
      let z = piece_source c l m e x y forms w.piece p st w.exact w.strong w.holds in
      let got = sharp k.region (entered c l m e x y forms (inner_of l z.point) z.point) (λ n t. refl) (w.back (entered c l m e x y forms (inner_of l z.point) z.point) z.holds) in
      let there = lh.back k.link z.point z.matches z.rows got.unit got.there in
      record { unit = got.unit; there = subst (λ (phi : ℕ → ℤ). outer phi ≡ Some got.unit) (λ i j. z.same j i) there; is_so = got.is_so }

pub units_sent : (c : SidesTree) (r : Region) → SendsUnits c r (to_caller c r)
units_sent c r m e x y outer inner l q forms lh u w = subst (λ (o : Option Link). MatchOption (option_map (by_link c r) o) ⊥ (λ z. LiesIn m outer z x u)) (sym q) (lies_by_link c r m e x y outer inner l forms lh u w)

pub sharp_sent : (c : SidesTree) (r : Region) → SendsSharp c r (to_caller c r)
sharp_sent c r m e x y outer inner l q forms lh accessed w = subst (λ (o : Option Link). MatchOption (option_map (by_link c r) o) ⊥ (λ z. IsSharp m outer z x accessed)) (sym q) (sharp_by_link c r m e x y outer inner l forms lh accessed w)
