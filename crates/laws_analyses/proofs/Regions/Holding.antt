-- Units in sets of regions, of accesses one after another.
use Rattle.std.proofs.Common.{◌≡◌, ⊎_elim, ℕ, ℤ, List, [], ◌∷◌, ◌++◌, Bool, true}
use Rattle.f77_ast.specs.Store.{Store}
use Rattle.f77_ast.specs.Runs.{Event}
use Rattle.affine_forms.specs.Claims.{numbers_of}
use Rattle.preconditions.specs.transformer_algebra.declared.transformer.Transformer.{Transformer}
use Rattle.preconditions.specs.transformer_algebra.Claims.{Scene, Does}
use Rattle.preconditions.specs.transformer_algebra.Laws.{here, there}
use Rattle.in_out_regions.specs.region_sets.declared.region.Access.{Access}
use Rattle.in_out_regions.specs.region_sets.declared.region.Region.{Region}
use Rattle.in_out_regions.specs.region_sets.Compose.{compose}
use Rattle.in_out_regions.specs.region_sets.Sets.{unite_all}
use Rattle.in_out_regions.specs.region_sets.Lists.{all_composed}
use Rattle.in_out_regions.specs.region_sets.Claims.{Elements, Places as Elements_of, Accessed, LiesIn, LiesInSet, IsSharp, IsSharpSet}
use Rattle.in_out_regions.proofs.RegionSets.SetLaws.{gathered_units, gathered_sharp}
use Rattle.in_out_regions.proofs.RegionSets.StepLaws.{in_either, in_map, of_map}
use Rattle.in_out_regions.proofs.RegionSets.PieceLaws.{compose_moves, compose_sharp}
use Rattle.laws_analyses.specs.Regions.Settings.{Setting, scene, elements_at}
use Rattle.laws_analyses.specs.Regions.Shown.{accessed, Holds, Sharp}
use Rattle.laws_analyses.proofs.Regions.Told.{by_order}
use Rattle.laws_analyses.proofs.Regions.Traces.{accessed_left, accessed_right, accessed_none, touches_cases}
use Rattle.preconditions.proofs.TransformerAlgebra.Members.{in_left, in_right}

-- ---- units

module _ (m : Scene) (at : Elements_of) (a : Access) (x : ℕ → ℤ) (u : ℕ) where
  pub set_left : (rs qs : List Region) → LiesInSet m at a rs x u → LiesInSet m at a (rs ++ qs) x u
  set_left rs qs l = record { region = l.region; is_one = in_left l.region rs qs l.is_one; kind = l.kind; lies = l.lies }

  pub set_right : (rs qs : List Region) → LiesInSet m at a qs x u → LiesInSet m at a (rs ++ qs) x u
  set_right rs qs l = record { region = l.region; is_one = in_right l.region rs qs l.is_one; kind = l.kind; lies = l.lies }

  pub set_one : (r : Region) → r.kind ≡ a → LiesIn m (at r.variable) r x u → LiesInSet m at a (r ∷ []) x u
  set_one r e l = record { region = r; is_one = here; kind = e; lies = l }

  pub set_moved : (t : Transformer) (rs : List Region) (y : ℕ → ℤ) → Does m t x y → LiesInSet m at a rs y u → LiesInSet m at a (all_composed t rs) x u
  set_moved t rs y d l = record {
    region = compose l.region t;
    is_one = in_map (λ (q : Region). compose q t) l.region rs l.is_one;
    kind = l.kind;
    lies = compose_moves l.region t m (at l.region.variable) x y d u l.lies;
  }

-- ---- what exact regions say

module _ (m : Scene) (at : Elements_of) (x : ℕ → ℤ) where
  pub sharp_none : (c : Access → ℕ → Bool) → IsSharpSet m at [] x c
  sharp_none c r i = elim i [ ]

  pub sharp_one : (r : Region) (c : Access → ℕ → Bool) → IsSharp m (at r.variable) r x (c r.kind) → IsSharpSet m at (r ∷ []) x c
  sharp_one r c h q here = h
  sharp_one r c h q (there i) = elim i [ ]

  pub sharp_append : (rs qs : List Region) (c : Access → ℕ → Bool) → IsSharpSet m at rs x c → IsSharpSet m at qs x c → IsSharpSet m at (rs ++ qs) x c
  sharp_append rs qs c h g r i = ⊎_elim (λ j. h r j) (λ j. g r j) (in_either r rs qs i)

  accessed_more : (e : Elements) (c d : ℕ → Bool) (phi : ℕ → ℤ) → ((u : ℕ) → c u ≡ true → d u ≡ true) → Accessed e c phi → Accessed e d phi
  accessed_more e c d phi f h = record { unit = h.unit; there = h.there; is_so = f h.unit h.is_so }

  pub sharp_more : (rs : List Region) (c d : Access → ℕ → Bool) → ((a : Access) (u : ℕ) → c a u ≡ true → d a u ≡ true) → IsSharpSet m at rs x c → IsSharpSet m at rs x d
  sharp_more rs c d f h r i e p st g = accessed_more (at r.variable) (c r.kind) (d r.kind) _ (f r.kind) (h r i e p st g)

  pub sharp_moved : (t : Transformer) (rs : List Region) (y : ℕ → ℤ) (c : Access → ℕ → Bool) → Does m t x y → IsSharpSet m at rs y c → IsSharpSet m at (all_composed t rs) x c
  sharp_moved t rs y c d h = of_map (λ (q : Region). compose q t) (λ (r : Region). IsSharp m (at r.variable) r x (c r.kind)) rs (λ q i. compose_sharp q t m (at q.variable) x y d (c q.kind) (h q i))

-- ---- of accesses

module _ (k : Setting) where
  pub holds_none : (rs : List Region) (s : Store) → Holds k rs s []
  holds_none rs s a u h = absurd (accessed_none a u h.is_so)

  pub holds_left : (rs qs : List Region) (s : Store) (es : List Event) → Holds k rs s es → Holds k (rs ++ qs) s es
  holds_left rs qs s es h a u e = set_left (scene k) (elements_at k) a (numbers_of s) u rs qs (h a u e)

  pub holds_right : (rs qs : List Region) (s : Store) (es : List Event) → Holds k qs s es → Holds k (rs ++ qs) s es
  holds_right rs qs s es h a u e = set_right (scene k) (elements_at k) a (numbers_of s) u rs qs (h a u e)

  pub holds_then : (rs : List Region) (s : Store) (es fs : List Event) → Holds k rs s es → Holds k rs s fs → Holds k rs s (es ++ fs)
  holds_then rs s es fs h g a u e = ⊎_elim (λ q. h a u q) (λ q. g a u q) (touches_cases k.ks k.g a es fs u e)

  pub holds_both : (rs qs : List Region) (s : Store) (es fs : List Event) → Holds k rs s es → Holds k qs s fs → Holds k (rs ++ qs) s (es ++ fs)
  holds_both rs qs s es fs h g = holds_then (rs ++ qs) s es fs (holds_left rs qs s es h) (holds_right rs qs s fs g)

  pub holds_gathered : (rs : List Region) (s : Store) (es : List Event) → Holds k rs s es → Holds k (unite_all rs) s es
  holds_gathered rs s es h a u e = gathered_units rs (scene k) (elements_at k) (by_order k) a (numbers_of s) u (h a u e)

  pub sharp_first : (rs : List Region) (s : Store) (es fs : List Event) → Sharp k rs s es → Sharp k rs s (es ++ fs)
  sharp_first rs s es fs h = sharp_more (scene k) (elements_at k) (numbers_of s) rs (λ a. accessed a es) (λ a. accessed a (es ++ fs)) (λ a u e. accessed_left a es fs u e) h

  pub sharp_last : (rs : List Region) (s : Store) (es fs : List Event) → Sharp k rs s fs → Sharp k rs s (es ++ fs)
  sharp_last rs s es fs h = sharp_more (scene k) (elements_at k) (numbers_of s) rs (λ a. accessed a fs) (λ a. accessed a (es ++ fs)) (λ a u e. accessed_right a es fs u e) h

  pub sharp_both : (rs qs : List Region) (s : Store) (es fs : List Event) → Sharp k rs s es → Sharp k qs s fs → Sharp k (rs ++ qs) s (es ++ fs)
  sharp_both rs qs s es fs h g = sharp_append (scene k) (elements_at k) (numbers_of s) rs qs (λ a. accessed a (es ++ fs)) (sharp_first rs s es fs h) (sharp_last qs s es fs g)

  pub sharp_gathered : (rs : List Region) (s : Store) (es : List Event) → Sharp k rs s es → Sharp k (unite_all rs) s es
  sharp_gathered rs s es h = gathered_sharp rs (scene k) (elements_at k) (by_order k) (numbers_of s) (λ a. accessed a es) h
