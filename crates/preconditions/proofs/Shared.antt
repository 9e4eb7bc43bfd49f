-- Lemmas that several crates use.
use Rattle.std.proofs.Common.{List, Option, Some, ap, subst, sym, ℕ, ◌-◌, ◌∙◌, ◌≡◌, Bool, true, false, [], ◌∷◌, None, nat_eq, arith, suc}
use Rattle.affine_systems.specs.Given.{Fits}
use Rattle.affine_systems.specs.declared.row.System.{System}
use Rattle.f77_ast.specs.declared.results.At.{At}
use Rattle.preconditions.specs.Statement.{EachFits}
use Rattle.std.proofs.lemmas.Option.{slice_get_within, unwrap_or-slice_get}
use Rattle.std.specs.Prelude.{slice_get, unwrap_or, if◌then◌else◌}
use Rattle.f77_ast.specs.Shared.{numbered}
use Rattle.transformers.specs.Lists.{first_at, or_first}

pub slice-fits : (as' : List (At System)) (k : ℕ) (a : At System) → slice_get as' k ≡ Some a → EachFits as' → Fits a.value
slice-fits as' k a e h = subst (λ (x : At System). Fits x.value) (sym (unwrap_or-slice_get as' k a) ∙ ap (λ (o : Option (At System)). unwrap_or o a) e) (h k a (slice_get_within as' k a e))

tail-fits : (a : At System) (as' : List (At System)) → EachFits (a ∷ as') → EachFits as'
tail-fits a as' h k d l = h (suc k) d (omega (arith, l))

pub first-fits : (n : ℕ) (as' : List (At System)) (s : System) → first_at n as' ≡ Some s → EachFits as' → Fits s
first-fits n [] s e h = cc
first-fits n (a ∷ as') s e h = go (nat_eq a.id n) e (λ q. first-fits n as' s q (tail-fits a as' h))
  where
    go : (b : Bool) → (if b then Some a.value else first_at n as') ≡ Some s → (first_at n as' ≡ Some s → Fits s) → Fits s
    go true q k = let same : a.value ≡ s = cc in subst Fits same (h 0 a (omega arith))
    go false q k = k q

pub place-fits : (as' : List (At System)) (n : ℕ) (a : At System) → numbered as' n ≡ Some a → EachFits as' → Fits a.value
place-fits as' n a e h = go (nat_eq n 0) e
  where
    go : (z : Bool) → (if z then None else slice_get as' (n - 1)) ≡ Some a → Fits a.value
    go true x = cc
    go false x = slice-fits as' (n - 1) a x h

pub or-fits : (o : Option (At System)) (n : ℕ) (as' : List (At System)) (s : System) → numbered as' n ≡ o → or_first o n as' ≡ Some s → EachFits as' → Fits s
or-fits None n as' s e q h = first-fits n as' s q h
or-fits (Some a) n as' s e q h = go (nat_eq a.id n) q
  where
    go : (b : Bool) → (if b then Some a.value else first_at n as') ≡ Some s → Fits s
    go true x = let same : a.value ≡ s = cc in subst Fits same (place-fits as' n a e h)
    go false x = first-fits n as' s x h
