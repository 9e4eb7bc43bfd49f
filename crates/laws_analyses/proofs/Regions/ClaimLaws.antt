-- Units that lie in a region, and what an exact one says, as they are claimed of executions.
use Rattle.std.proofs.Common.{◌≡◌, ℕ, ◌+◌, ℤ, pos, Bool, true, List, Option, Some, None, length, refl, subst}
use Rattle.std.specs.Prelude.{option_map}
use Rattle.affine_systems.specs.declared.row.Var.{Var}
use Rattle.affine_systems.specs.declared.row.Var.TheVariants.{Cell, Exit, Phi, Aux}
use Rattle.affine_systems.specs.Points.{Point}
use Rattle.f77_ast.specs.Places.{Place, element_in}
use Rattle.f77_meaning.specs.Claims.{place_of, OfElement, ElementIs}
use Rattle.in_out_regions.proofs.RegionSets.TrimLaws.{holds_in}
use Rattle.laws_analyses.specs.Regions.Claims.{listed}
use Rattle.laws_analyses.specs.Regions.Laws.{LiesAsClaimed, SharpAsClaimed}

element_is : (p : Place) (o : Option ℕ) (u : ℕ) → option_map (λ k. p.first + k) o ≡ Some u → OfElement p o (λ v. v ≡ u)
element_is p None u e = absurd (cc)
element_is p (Some k) u e = let same : p.first + k ≡ u = cc in same

pub element_has : (p : Place) (o : Option ℕ) (u : ℕ) (test : ℕ → Bool) → option_map (λ k. p.first + k) o ≡ Some u → test u ≡ true → OfElement p o (λ v. test v ≡ true)
element_has p None u test e t = absurd (cc)
element_has p (Some k) u test e t = let same : u ≡ p.first + k = cc in subst (λ v. test v ≡ true) same t

-- a point with these numbers of cells and these subscripts
abbrev point_of : (ℕ → ℤ) → (ℕ → ℤ) → Var → ℤ
point_of n phi (Cell c) = n c
point_of n phi (Exit c) = pos 0
point_of n phi (Phi k) = phi k
point_of n phi (Aux c) = pos 0

pub lies_claimed : LiesAsClaimed
lies_claimed ks g tracked far place x r u l =
    let at = place_of ks g x.places r.variable in (
      listed (length at.dims) l.phi,
      element_is at (element_in at (listed (length at.dims) l.phi)) u l.there,
      λ n a. record {
        phi = l.phi;
        is_list = refl;
        describes = l.described n a;
      },
    )

pub sharp_claimed : SharpAsClaimed
sharp_claimed ks g tracked far place x test r s e n a subscripts d =
    let at = place_of ks g x.places r.variable in
    let p : Point = point_of n d.phi in
    let h = d.describes.holds p (λ c. refl) (λ k. refl) in
    let w = s e p (λ c t. a c t) (holds_in p d.describes.piece r.pieces d.describes.is_one h) in
    let found = element_has at (element_in at (listed (length at.dims) d.phi)) w.unit test w.there w.is_so in
    subst (λ (ns : List ℤ). ElementIs at ns (λ v. test v ≡ true)) d.is_list found
