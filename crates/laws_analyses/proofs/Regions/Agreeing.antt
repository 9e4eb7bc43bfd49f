-- Numbers that are the same in all tracked cells say the same.
use Rattle.std.proofs.Common.{◌≡◌, ℕ, ℤ, List, Option, Some, None, Bool, true, ◌∙◌}
use Rattle.f77_ast.specs.Store.{Store}
use Rattle.f77_ast.specs.Runs.{Event}
use Rattle.affine_forms.specs.declared.affine.Affine.{Affine}
use Rattle.affine_forms.specs.Claims.{numbers_of}
use Rattle.preconditions.specs.transformer_algebra.Claims.{Scene, Means}
use Rattle.in_out_regions.specs.region_sets.declared.region.Access.{Access}
use Rattle.in_out_regions.specs.region_sets.declared.region.Region.{Region}
use Rattle.in_out_regions.specs.region_sets.Claims.{Elements, Places, LiesIn, LiesInSet, IsSharpSet}
use Rattle.laws_analyses.specs.Regions.Settings.{Setting, scene, elements_at}
use Rattle.laws_analyses.specs.Regions.Shown.{accessed, Holds, Sharp}

module _ (m : Scene) (x y : ℕ → ℤ) (same : (c : ℕ) → m.tracked c ≡ true → y (m.unit c) ≡ x (m.unit c)) where
  pub means_alike : (f : Option Affine) (n : ℤ) → Means m f x n → Means m f y n
  means_alike None n h = tt
  means_alike (Some f) n h = λ p st. h p (λ c t. st c t ∙ same c t)

  lies_alike : (e : Elements) (r : Region) (u : ℕ) → LiesIn m e r x u → LiesIn m e r y u
  lies_alike e r u l = record { phi = l.phi; there = l.there; described = λ n a. l.described n (λ c t. a c t ∙ same c t) }

  pub set_alike : (at : Places) (a : Access) (rs : List Region) (u : ℕ) → LiesInSet m at a rs x u → LiesInSet m at a rs y u
  set_alike at a rs u l = record { region = l.region; is_one = l.is_one; kind = l.kind; lies = lies_alike (at l.region.variable) l.region u l.lies }

  pub sharp_alike : (at : Places) (rs : List Region) (acc : Access → ℕ → Bool) → IsSharpSet m at rs x acc → IsSharpSet m at rs y acc
  sharp_alike at rs acc h r i e p st g = h r i e p (λ c t. st c t ∙ same c t) g

module _ (k : Setting) (s z : Store) (same : (c : ℕ) → (scene k).tracked c ≡ true → numbers_of z ((scene k).unit c) ≡ numbers_of s ((scene k).unit c)) where
  pub holds_alike : (rs : List Region) (es : List Event) → Holds k rs s es → Holds k rs z es
  holds_alike rs es h a u t = set_alike (scene k) (numbers_of s) (numbers_of z) same (elements_at k) a rs u (h a u t)

  pub alike_sharp : (rs : List Region) (es : List Event) → Sharp k rs s es → Sharp k rs z es
  alike_sharp rs es h = sharp_alike (scene k) (numbers_of s) (numbers_of z) same (elements_at k) rs (λ a. accessed a es) h
