-- What exact regions of one variable say, where regions are gathered, those of it say in the set.
use Rattle.std.proofs.Common.{◌≡◌, ℕ, zero, suc, ℤ, List, Bool, true, false, Option, Some, None, refl, sym, ap, subst}
use Rattle.std.specs.Prelude.{option_map}
use Rattle.std.specs.Ordering.{is_eq}
use Rattle.affine_systems.specs.declared.row.Var.TheVariants.{Phi}
use Rattle.f77_ast.specs.declared.variable.Variable.{Variable}
use Rattle.f77_ast.specs.Variables.{same_variable}
use Rattle.f77_ast.proofs.SameLaws.{cmp_to_same}
use Rattle.preconditions.specs.transformer_algebra.Claims.{Scene}
use Rattle.preconditions.specs.transformer_algebra.Laws.{In}
use Rattle.in_out_regions.specs.region_sets.declared.region.Region.{Region}
use Rattle.in_out_regions.specs.region_sets.Sets.{unite_all}
use Rattle.in_out_regions.specs.region_sets.Claims.{Accessed, IsSharp, IsSharpSet, Places, AreByOrder}
use Rattle.in_out_regions.proofs.ListLaws.{tagged, tagged_test}
use Rattle.in_out_regions.proofs.RegionSets.SetLaws.{gathered_sharp}

-- each of a list
abbrev pub EachOne : (Region → Type 0) → List Region → Type 0
EachOne P rs = (r : Region) → In r rs → P r

module _ (m : Scene) (at : Places) (by_order : AreByOrder at) (x : ℕ → ℤ) (c : ℕ → Bool) (v : Variable) where
  abbrev beside : Places
  beside w phi = tagged (same_variable v w) (at w phi)

  beside_order : AreByOrder beside
  beside_order w z e =
      let tags : same_variable v w ≡ same_variable v z = ap is_eq (cmp_to_same v w z e) in
      let places = by_order w z e in
      λ i phi. tagged (tags i) (places i phi)

  into : (w : Variable) (phi : ℕ → ℤ) → (same_variable v w ≡ true → Accessed (at w) c phi) → Accessed (beside w) (tagged_test c) phi
  into w phi h = go (same_variable v w) refl
    where
      go : (b : Bool) → same_variable v w ≡ b → Accessed (λ f. tagged b (at w f)) (tagged_test c) phi
      go false e = record { unit = 0; there = refl; is_so = refl }
      go true e = let a = h e in record { unit = suc a.unit; there = ap (option_map suc) a.there; is_so = a.is_so }

  back : (w : Variable) (phi : ℕ → ℤ) → same_variable v w ≡ true → Accessed (beside w) (tagged_test c) phi → Accessed (at w) c phi
  back w phi s a = go (at w phi) refl (subst (λ b. tagged b (at w phi) ≡ Some a.unit) s a.there)
    where
      go : (o : Option ℕ) → at w phi ≡ o → option_map suc o ≡ Some a.unit → Accessed (at w) c phi
      go None e q = cc
      go (Some u) e q = let same : suc u ≡ a.unit = cc in record { unit = u; there = e; is_so = subst (λ n. tagged_test c n ≡ true) (sym same) a.is_so }

  -- of this variable, and sharp
  abbrev pub IsSharpOfIt : Region → Type 0
  IsSharpOfIt r = same_variable v r.variable ≡ true → IsSharp m (at r.variable) r x c

  pub gathered_so : (rs : List Region) → EachOne IsSharpOfIt rs → EachOne IsSharpOfIt (unite_all rs)
  gathered_so rs h r i s e p st g = back r.variable (λ k. p (Phi k)) s (gathered_sharp rs m beside beside_order x (λ k. tagged_test c) each r i e p st g)
    where
      each : IsSharpSet m beside rs x (λ k. tagged_test c)
      each q j f o t w = into q.variable (λ k. o (Phi k)) (λ y. h q j y f o t w)
