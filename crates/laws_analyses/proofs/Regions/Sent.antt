-- Sets of regions of what is called, in the terms of the caller.
use Rattle.std.proofs.Common.{◌≡◌, ⊎_elim, ℕ, ℤ, List, [], ◌∷◌, Option, Some, None, Bool, refl, ◌∙◌, subst}
use Rattle.std.specs.Prelude.{option_to_list}
use Rattle.preconditions.specs.transformer_algebra.Claims.{Scene}
use Rattle.preconditions.specs.transformer_algebra.Laws.{In, here, there}
use Rattle.in_out_regions.specs.region_sets.declared.region.Access.{Access}
use Rattle.in_out_regions.specs.region_sets.declared.region.Region.{Region}
use Rattle.in_out_regions.specs.region_sets.Claims.{Places, LiesIn, LiesInSet, IsSharp, IsSharpSet}
use Rattle.in_out_regions.proofs.RegionSets.StepLaws.{in_either}
use Rattle.in_out_regions.specs.call_equations.Sides.{SidesTree}
use Rattle.in_out_regions.specs.region_translation.Caller.{to_caller}
use Rattle.in_out_regions.specs.array_regions.Calls.{all_in_caller}
use Rattle.in_out_regions.proofs.ListLaws.{in_option as in_one, option_in as of_one}
use Rattle.preconditions.proofs.TransformerAlgebra.Members.{in_left, in_right}

module _ (c : SidesTree) where
  -- a region that is sent
  pub in_sent : (rs : List Region) (r q : Region) → In r rs → to_caller c r ≡ Some q → In q (all_in_caller c rs)
  in_sent [] r q i e = elim i [ ]
  in_sent (w ∷ rs) r q here e = in_left q (option_to_list (to_caller c r)) (all_in_caller c rs) (in_one (to_caller c r) q e)
  in_sent (w ∷ rs) r q (there i) e = in_right q (option_to_list (to_caller c w)) (all_in_caller c rs) (in_sent rs r q i e)

  -- and from which it is
  pub record SentFrom (rs : List Region) (q : Region) : Type 0 where
    pub region : Region
    pub is_one : In region rs
    pub sent : to_caller c region ≡ Some q

  pub of_sent : (rs : List Region) (q : Region) → In q (all_in_caller c rs) → SentFrom rs q
  of_sent [] q i = elim i [ ]
  of_sent (w ∷ rs) q i =
      ⊎_elim (λ a. record { region = w; is_one = here; sent = of_one (to_caller c w) q a })
      (λ a. (let r = of_sent rs q a in record { region = r.region; is_one = there r.is_one; sent = r.sent }))
      (in_either q (option_to_list (to_caller c w)) (all_in_caller c rs) i)

  -- h, x: of the caller; k, y: of what is called
  module _ (h : Scene) (spots : Places) (x : ℕ → ℤ) (k : Scene) (elements : Places) (y : ℕ → ℤ) where
    -- a unit of a region lies in what it is to the caller
    pub record Arrives (r : Region) (u : ℕ) : Type 0 where
      pub region : Region
      pub sent : to_caller c r ≡ Some region
      pub kind : region.kind ≡ r.kind
      pub lies : LiesIn h (spots region.variable) region x u

    pub set_sent : (rs : List Region) (a : Access) (u : ℕ) → ((r : Region) → In r rs → LiesIn k (elements r.variable) r y u → Arrives r u) → LiesInSet k elements a rs y u → LiesInSet h spots a (all_in_caller c rs) x u
    set_sent rs a u f l =
        let w = f l.region l.is_one l.lies in
        record { region = w.region; is_one = in_sent rs l.region w.region l.is_one w.sent; kind = w.kind ∙ l.kind; lies = w.lies }

    pub sharp_sent : (rs : List Region) (acc : Access → ℕ → Bool) → ((r q : Region) → In r rs → to_caller c r ≡ Some q → IsSharp k (elements r.variable) r y (acc r.kind) → IsSharp h (spots q.variable) q x (acc q.kind)) → IsSharpSet k elements rs y acc → IsSharpSet h spots (all_in_caller c rs) x acc
    sharp_sent rs acc f g q i = (let w = of_sent rs q i in f w.region q w.is_one w.sent (g w.region w.is_one))
