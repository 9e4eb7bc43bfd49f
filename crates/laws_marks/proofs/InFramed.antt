-- Elements of the variables that regions may name.
use Rattle.std.proofs.Common.{◌≡◌, ℕ, ℤ, List, Option, Some, None, Bool, true, false, refl, sym, ap, ◌∙◌, subst, Ordering}
use Rattle.std.specs.Prelude.{if◌then◌else◌}
use Rattle.std.specs.declared.cmp.Ordering.TheVariants.{Equal}
use Rattle.f77_ast.specs.declared.variable.Variable.{Variable}
use Rattle.in_out_regions.specs.region_sets.declared.region.Access.{Access}
use Rattle.in_out_regions.specs.region_sets.declared.region.Region.{Region}
use Rattle.in_out_regions.specs.region_sets.Claims.{Elements, LiesIn, LiesInSet, IsSharp, AreByOrder}
use Rattle.laws_analyses.specs.Regions.Settings.{scene, elements_at}
use Rattle.laws_analyses.proofs.Regions.Told.{told_same}
use Rattle.laws_marks.specs.InFrames.{Frame, elements_in}
use Rattle.laws_marks.specs.InUnits.{AreOf}
use Rattle.laws_programs.proofs.Effects.Named.{equal_key}

module _ (k : Frame) where
  pub elements_on : (v : Variable) → k.may_name v ≡ true → elements_at k.base v ≡ elements_in k v
  elements_on v h = sym (ap (λ b. if b then elements_at k.base v else (λ phi. None)) h)

  elements_off : (v : Variable) → k.may_name v ≡ false → elements_in k v ≡ (λ phi. None)
  elements_off v h = ap (λ b. if b then elements_at k.base v else (λ phi. None)) h

  pub by_order : AreByOrder (elements_in k)
  by_order v w e = go (k.may_name v) refl (k.may_name w) refl
    where
      go : (b : Bool) → k.may_name v ≡ b → (c : Bool) → k.may_name w ≡ c → elements_in k v ≡ elements_in k w
      go true p c q = ap (elements_in k) (told_same v w (k.told v p) (equal_key v w e))
      go false p true q = ap (elements_in k) (sym (told_same w v (k.told w q) (sym (equal_key v w e))))
      go false p false q = elements_off v p ∙ sym (elements_off w q)

  -- an element is one of a variable that may be named
  pub element_named : (v : Variable) (phi : ℕ → ℤ) (u : ℕ) → elements_in k v phi ≡ Some u → k.may_name v ≡ true
  element_named v phi u e = go (k.may_name v) refl e
    where
      go : (b : Bool) → k.may_name v ≡ b → (if b then elements_at k.base v else (λ psi. None)) phi ≡ Some u → k.may_name v ≡ true
      go true h f = h
      go false h f = cc

  pub element_of : (v : Variable) (phi : ℕ → ℤ) (u : ℕ) → elements_in k v phi ≡ Some u → elements_at k.base v phi ≡ Some u
  element_of v phi u e = go (k.may_name v) e
    where
      go : (b : Bool) → (if b then elements_at k.base v else (λ psi. None)) phi ≡ Some u → elements_at k.base v phi ≡ Some u
      go true f = f
      go false f = cc

  -- ---- regions of such variables

  pub lies_in : (r : Region) (x : ℕ → ℤ) (u : ℕ) → k.may_name r.variable ≡ true → LiesIn (scene k.base) (elements_at k.base r.variable) r x u → LiesIn (scene k.base) (elements_in k r.variable) r x u
  lies_in r x u h l = subst (λ (e : Elements). LiesIn (scene k.base) e r x u) (elements_on r.variable h) l

  pub sharp_in : (r : Region) (x : ℕ → ℤ) (c : ℕ → Bool) → k.may_name r.variable ≡ true → IsSharp (scene k.base) (elements_at k.base r.variable) r x c → IsSharp (scene k.base) (elements_in k r.variable) r x c
  sharp_in r x c h l = subst (λ (e : Elements). IsSharp (scene k.base) e r x c) (elements_on r.variable h) l

  pub set_in : (a : Access) (rs : List Region) (x : ℕ → ℤ) (u : ℕ) → AreOf k.may_name rs → LiesInSet (scene k.base) (elements_at k.base) a rs x u → LiesInSet (scene k.base) (elements_in k) a rs x u
  set_in a rs x u h l = record { region = l.region; is_one = l.is_one; kind = l.kind; lies = lies_in l.region x u (h l.region l.is_one) l.lies }

  -- ---- back

  pub lies_back : (r : Region) (x : ℕ → ℤ) (u : ℕ) → LiesIn (scene k.base) (elements_in k r.variable) r x u → LiesIn (scene k.base) (elements_at k.base r.variable) r x u
  lies_back r x u l = record { phi = l.phi; there = element_of r.variable l.phi u l.there; described = l.described }

  pub sharp_back : (r : Region) (x : ℕ → ℤ) (c : ℕ → Bool) → IsSharp (scene k.base) (elements_in k r.variable) r x c → IsSharp (scene k.base) (elements_at k.base r.variable) r x c
  sharp_back r x c l e p st h = (let w = l e p st h in record { unit = w.unit; there = element_of r.variable _ w.unit w.there; is_so = w.is_so })
