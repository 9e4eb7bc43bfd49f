-- Lemmas on texts.
use Rattle.std.proofs.Common.{Bool, List, [], false, refl, sym, true, true≢false, ℕ, ◌∙◌, ◌≡◌}
use Rattle.std.proofs.lemmas.Slice.Eq.{bytes_eq-Decides}
use Rattle.std.specs.Cmp.Lexicographic.{nat_list_eq_equiv}
use Rattle.std.specs.List.{IsDistinct}
use Rattle.std.specs.Prelude.{bytes_eq}

pub apart_back : (k j : List ℕ) → bytes_eq k j ≡ false → bytes_eq j k ≡ false
apart_back k j e = nat_list_eq_equiv.symm j k ∙ e

pub differs : (y x : List ℕ) → bytes_eq y x ≡ false → y ≡ x → ⊥
differs y x e p = true≢false (sym ((bytes_eq-Decides y x).1 p) ∙ e)

pub turned : (x y : List ℕ) → bytes_eq x y ≡ bytes_eq y x
turned x y = nat_list_eq_equiv.symm x y

pub no_names : IsDistinct bytes_eq []
unfolding IsDistinct
no_names = tt

pub same_name : (x : List ℕ) → bytes_eq x x ≡ true
same_name x = (bytes_eq-Decides x x).1 refl

pub same_name_2 : (x y : List ℕ) → bytes_eq x y ≡ true → x ≡ y
same_name_2 x y e = (bytes_eq-Decides x y).0 e

pub unequal_texts : (x y : List ℕ) → (x ≡ y → ⊥) → bytes_eq x y ≡ false
unequal_texts x y h = go (bytes_eq x y) refl
  where
    go : (b : Bool) → bytes_eq x y ≡ b → b ≡ false
    go true e = absurd (h ((bytes_eq-Decides x y).0 e))
    go false e = refl
