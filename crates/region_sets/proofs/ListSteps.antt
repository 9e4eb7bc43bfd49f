-- A statement before the rest of a list.
use Rattle.std.proofs.Common.{◌≡◌, ℕ, zero, suc, ◌-◌, Bool, true, false, Option, Some, None, subst, nat_eq, ◌+◌, ◌<◌, List, [], ◌∷◌, ◌++◌, length, drop, get_or, drop-cons, add-one, append_assoc, append-nil, ap, refl, sym, ◌∙◌}
use Rattle.std.specs.Prelude.{slice_get, if◌then◌else◌}
use Rattle.f77_ast.specs.Shared.{numbered}
use Rattle.f77_ast.specs.declared.results.At.{At}
use Rattle.transformers.specs.transformer_algebra.declared.transformer.Transformer.{Transformer}
use Rattle.transformers.specs.Lists.{first_at, or_first, value_at}
use Rattle.region_sets.specs.declared.region.Region.{Region}
use Rattle.region_sets.specs.Sets.{SetFits, unite_all}
use Rattle.region_sets.specs.Lists.{SetsFit, or_none, set_at, all_composed, in_order}
use Rattle.region_sets.proofs.Steps.{fits-push, set-push, and_assoc}

pub order_step : (t : ℕ → Transformer) (f : ℕ → List Region) (ns : List ℕ) (i d : ℕ) (set new : List Region) → i < length ns → set ≡ in_order t f (drop (i + 1) ns) → new ≡ unite_all (f (get_or ns i d) ++ all_composed (t (get_or ns i d)) set) → new ≡ in_order t f (drop i ns)
order_step t f ns i d set new l e h =
    h ∙ (ap (λ (us : List Region). unite_all (f (get_or ns i d) ++ all_composed (t (get_or ns i d)) us)) (e ∙ ap (λ n. in_order t f (drop n ns)) (add-one i)) ∙ ap (in_order t f) (sym (drop-cons ns i d l)))

-- ---- sets that are looked up

slice-fits : (as' : List (At (List Region))) (k : ℕ) (a : At (List Region)) → slice_get as' k ≡ Some a → SetsFit as' → SetFits a.value
slice-fits [] k a e h = cc
slice-fits (b ∷ as') zero a e h = let same : b ≡ a = cc in subst (λ (x : At (List Region)). SetFits x.value) same h.0
slice-fits (b ∷ as') (suc k) a e h = slice-fits as' k a e h.1

first-fits : (n : ℕ) (as' : List (At (List Region))) (t : List Region) → first_at n as' ≡ Some t → SetsFit as' → SetFits t
first-fits n [] t e h = cc
first-fits n (a ∷ as') t e h = go (nat_eq a.id n) e (λ q. first-fits n as' t q h.1)
  where
    go : (b : Bool) → (if b then Some a.value else first_at n as') ≡ Some t → (first_at n as' ≡ Some t → SetFits t) → SetFits t
    go true q k = let same : a.value ≡ t = cc in subst SetFits same h.0
    go false q k = k q

place-fits : (as' : List (At (List Region))) (n : ℕ) (a : At (List Region)) → numbered as' n ≡ Some a → SetsFit as' → SetFits a.value
place-fits as' n a e h = go (nat_eq n 0) e
  where
    go : (z : Bool) → (if z then None else slice_get as' (n - 1)) ≡ Some a → SetFits a.value
    go true x = cc
    go false x = slice-fits as' (n - 1) a x h

or-fits : (o : Option (At (List Region))) (n : ℕ) (as' : List (At (List Region))) (t : List Region) → numbered as' n ≡ o → or_first o n as' ≡ Some t → SetsFit as' → SetFits t
or-fits None n as' t e q h = first-fits n as' t q h
or-fits (Some a) n as' t e q h = go (nat_eq a.id n) q
  where
    go : (b : Bool) → (if b then Some a.value else first_at n as') ≡ Some t → SetFits t
    go true x = let same : a.value ≡ t = cc in subst SetFits same (place-fits as' n a e h)
    go false x = first-fits n as' t x h

pub value-fits : (as' : List (At (List Region))) (n : ℕ) (t : List Region) → value_at as' n ≡ Some t → SetsFit as' → SetFits t
value-fits as' n t q h = or-fits (numbered as' n) n as' t refl q h

none-fits : (o : Option (List Region)) → ((t : List Region) → o ≡ Some t → SetFits t) → SetFits (or_none o)
none-fits None h = tt
none-fits (Some t) h = h t refl

pub set-fits : (as' : List (At (List Region))) (n : ℕ) (rs : List Region) → rs ≡ set_at as' n → SetsFit as' → SetFits rs
set-fits as' n rs e h = subst SetFits (sym e) (none-fits (value_at as' n) (λ t q. value-fits as' n t q h))

pub ruleset looked_up = (set-push, fits-push, append_assoc, append-nil, and_assoc, set-fits)
