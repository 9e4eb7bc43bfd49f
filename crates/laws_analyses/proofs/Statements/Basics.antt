-- Truths and numbers of stores.
use Rattle.std.proofs.Common.{◌≡◌, ℕ, Bool, true, false, refl, sym, ap, ◌∙◌, nat_eq, true≢false, Option, Some, None}
use Rattle.std.specs.Prelude.{if◌then◌else◌, is_some}
use Rattle.f77_ast.specs.Store.{Content, Store, put}
use Rattle.f77_ast.specs.Faults.{Fault}
use Rattle.affine_forms.specs.Claims.{numbers_of}
use Rattle.fx_lists.proofs.Numbers.{same_is as nat_same, nat_eq_same}

pub not_locked : {A : Type 0} (o : Option Fault) → o ≡ None → is_some o ≡ true → A
not_locked o e h = absurd (true≢false (sym h ∙ ap is_some e))

-- what a write leaves
pub put_other : (s : Store) (u : ℕ) (c : Content) (x : ℕ) → (x ≡ u → ⊥) → numbers_of (put s u c) x ≡ numbers_of s x
put_other s u c x h = go (nat_eq x u) refl
  where
    go : (b : Bool) → nat_eq x u ≡ b → (if b then c else s x).number ≡ (s x).number
    go true e = absurd (h (nat_same x u e))
    go false e = refl

pub put_here : (s : Store) (u : ℕ) (c : Content) → numbers_of (put s u c) u ≡ c.number
put_here s u c = ap (λ b. (if b then c else s u).number) (nat_eq_same u)
