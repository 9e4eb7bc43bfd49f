-- What is kept of each system is kept of the regions.
use Rattle.std.proofs.Common.{◌≡◌, ℕ, ℤ, List, [], ◌∷◌, map, refl}
use Rattle.call_translation.specs.transformer_algebra.Claims.{Scene}
use Rattle.call_translation.specs.transformer_algebra.Laws.{In, here, there}
use Rattle.region_sets.specs.declared.region.Region.{Region}
use Rattle.region_sets.specs.Claims.{Elements, LiesIn}
use Rattle.region_sets.proofs.SetLaws.{gathered_units}
use Rattle.region_sets.proofs.DescribedLaws.{stored, by_piece}
use Rattle.call_equations.specs.Sides.{SidesTree}
use Rattle.region_translation.specs.Claims.{FormsMean}
use Rattle.region_translation.specs.declared.links.CalleeLink.{CalleeLink}
use Rattle.region_translation.specs.CalleePieces.{piece_in_callee}
use Rattle.region_translation.specs.Links.{callee_links, subscripts_of}
use Rattle.region_translation.specs.Callee.{by_link, to_callee}
use Rattle.region_translation.specs.CalleeClaims.{DummiesAreTracked, HasUnit, LinkHolds}
use Rattle.region_translation.specs.CalleeLaws.{SendsUnits}
use Rattle.region_translation.proofs.CalleePieceLaws.{piece_describes}

in_map : {A B : Type 0} (f : A → B) (a : A) (as' : List A) → In a as' → In (f a) (map f as')
in_map f a [] i = elim i [ ]
in_map f a (b ∷ bs) here = here
in_map f a (b ∷ bs) (there i) = there (in_map f a bs i)

lies_by_link :
    (c : SidesTree) (r : Region) (m e : Scene) (x y : ℕ → ℤ) (outer inner : Elements) (l : CalleeLink) → FormsMean c m e x y → DummiesAreTracked c e →
    LinkHolds m e (subscripts_of c r.variable) x y outer inner l → (u : ℕ) → HasUnit inner u → LiesIn m outer r x u → LiesIn e inner (by_link c r l) y u
lies_by_link c r m e x y outer inner l forms dummies lh u has w =
    let q = subscripts_of c r.variable in
    let d = w.described (stored m x) (λ n t. refl) in
    let psi = lh.to w.phi u w.there has in
    record {
      phi = psi;
      there = lh.there w.phi u w.there has;
      described = by_piece e y psi (piece_in_callee c l.moved q l.rows d.piece) (map (piece_in_callee c l.moved q l.rows) r.pieces) (in_map (piece_in_callee c l.moved q l.rows) d.piece r.pieces d.is_one)
          (piece_describes c q m e x y forms l dummies w.phi psi (λ f k. lh.stays f w.phi u w.there has k) d.piece (λ p a b h. lh.holds w.phi u w.there has p a b h) d.holds);
    }

pub units_sent : (size : List ℕ → ℕ) (c : SidesTree) (r : Region) → SendsUnits size c r (to_callee size c r)
units_sent size c r m e x y outer at by_order forms dummies l i lh u has w =
    gathered_units (map (by_link c r) (callee_links size c r.variable)) e at by_order r.kind y u
    (record { region = by_link c r l; is_one = in_map (by_link c r) l (callee_links size c r.variable) i; kind = refl; lies = lies_by_link c r m e x y outer (at l.variable) l forms dummies lh u has w })
