-- Steps of the loops over lists, and what is handed on may be handed on.
use Rattle.std.proofs.Common.{◌≡◌, ℕ, zero, suc, Bool, true, false, List, [], ◌∷◌, ◌++◌, Option, Some, None, ◌-◌, refl, append_assoc, append-nil, sym, ap, subst, ◌∙◌}
use Rattle.std.specs.Prelude.{slice_get, nat_eq, if◌then◌else◌}
use Rattle.affine_systems.specs.Given.{Fits}
use Rattle.f77_ast.specs.Shared.{numbered}
use Rattle.f77_ast.specs.declared.results.At.{At}
use Rattle.call_translation.specs.transformer_algebra.declared.transformer.Transformer.{Transformer}
use Rattle.transformers.specs.Given.{ResultsFit}
use Rattle.transformers.specs.Lists.{first_at, or_first, value_at}
use Rattle.call_translation.proofs.TransformerAlgebra.Shared.{fits-push}

pub ruleset lists = (append_assoc, append-nil)

-- ---- one more

pub results-push : (as' : List (At Transformer)) (a : At Transformer) → ResultsFit as' → Fits a.value.system → ResultsFit (as' ++ a ∷ [])
results-push [] a h f = (f, tt)
results-push (b ∷ as') a h f = (h.0, results-push as' a h.1 f)

pub ruleset fitting = (fits-push, results-push, append_assoc, append-nil)

-- ---- results that are looked up

slice-fits : (as' : List (At Transformer)) (k : ℕ) (a : At Transformer) → slice_get as' k ≡ Some a → ResultsFit as' → Fits a.value.system
slice-fits [] k a e h = cc
slice-fits (b ∷ as') zero a e h = let same : b ≡ a = cc in subst (λ (x : At Transformer). Fits x.value.system) same h.0
slice-fits (b ∷ as') (suc k) a e h = slice-fits as' k a e h.1

first-fits : (n : ℕ) (as' : List (At Transformer)) (t : Transformer) → first_at n as' ≡ Some t → ResultsFit as' → Fits t.system
first-fits n [] t e h = cc
first-fits n (a ∷ as') t e h = go (nat_eq a.id n) e (λ q. first-fits n as' t q h.1)
  where
    go : (b : Bool) → (if b then Some a.value else first_at n as') ≡ Some t → (first_at n as' ≡ Some t → Fits t.system) → Fits t.system
    go true q k = let same : a.value ≡ t = cc in subst (λ (x : Transformer). Fits x.system) same h.0
    go false q k = k q

place-fits : (as' : List (At Transformer)) (n : ℕ) (a : At Transformer) → numbered as' n ≡ Some a → ResultsFit as' → Fits a.value.system
place-fits as' n a e h = go (nat_eq n 0) e
  where
    go : (z : Bool) → (if z then None else slice_get as' (n - 1)) ≡ Some a → Fits a.value.system
    go true x = cc
    go false x = slice-fits as' (n - 1) a x h

or-fits : (o : Option (At Transformer)) (n : ℕ) (as' : List (At Transformer)) (t : Transformer) → numbered as' n ≡ o → or_first o n as' ≡ Some t → ResultsFit as' → Fits t.system
or-fits None n as' t e q h = first-fits n as' t q h
or-fits (Some a) n as' t e q h = go (nat_eq a.id n) q
  where
    go : (b : Bool) → (if b then Some a.value else first_at n as') ≡ Some t → Fits t.system
    go true x = let same : a.value ≡ t = cc in subst (λ (y : Transformer). Fits y.system) same (place-fits as' n a e h)
    go false x = first-fits n as' t x h

pub value-fits : (as' : List (At Transformer)) (n : ℕ) (t : Transformer) → value_at as' n ≡ Some t → ResultsFit as' → Fits t.system
value-fits as' n t q h = or-fits (numbered as' n) n as' t refl q h
