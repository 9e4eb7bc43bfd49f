-- The results of a main program are found by the numbers of its statements.
use Rattle.std.proofs.Common.{◌≡◌, ℕ, zero, suc, ◌-◌, ◌<◌, List, [], ◌∷◌, Option, Some, None, Bool, true, false, refl, sym, ap, ◌∙◌, nat_eq}
use Rattle.std.specs.Prelude.{if◌then◌else◌, slice_get}
use Rattle.f77_ast.specs.declared.results.At.{At}
use Rattle.f77_ast.specs.Shared.{numbered}
use Rattle.f77_ast.proofs.NumberOrder.{first_found}
use Rattle.preconditions.specs.transformers.Lists.{or_first, first_at, value_at}
use Rattle.laws_analyses.specs.Statements.Laws.{HaveOwnNumbers}
use Rattle.call_graph.specs.CallsIn.{Each}
use Rattle.fx_lists.proofs.Numbers.{same_is}

-- what stands at a place is what is found by its number
pub found_at : {T : Type 0} (all : List (At T)) (i : ℕ) (a : At T) → HaveOwnNumbers all → slice_get all i ≡ Some a → (0 < a.id) × (value_at all a.id ≡ Some a.value)
found_at {T} all i a own e = (own.above i a e, go (numbered all a.id) refl)
  where
    first : first_at a.id all ≡ Some a.value
    first = first_found all i a e (λ j b f g. own.once j i b a f e g)

    placed : (b : At T) → b.id ≡ a.id → (c : Bool) → (if c then None else slice_get all (a.id - 1)) ≡ Some b → Some b.value ≡ Some a.value
    placed b s true q = cc
    placed b s false q = let same : b ≡ a = (let z : Some b ≡ Some a = sym q ∙ (ap (slice_get all) (own.once (a.id - 1) i b a q e s) ∙ e) in cc) in ap (λ (y : At T). Some y.value) same

    go : (o : Option (At T)) → numbered all a.id ≡ o → or_first o a.id all ≡ Some a.value
    go None q = first
    go (Some b) q = one (nat_eq b.id a.id) refl
      where
        one : (c : Bool) → nat_eq b.id a.id ≡ c → (if c then Some b.value else first_at a.id all) ≡ Some a.value
        one true s = placed b (same_is b.id a.id s) (nat_eq a.id 0) q
        one false s = first

from_place : {T : Type 0} (P : At T → Type 0) (as' : List (At T)) → ((i : ℕ) (a : At T) → slice_get as' i ≡ Some a → P a) → Each P as'
from_place P [] f = tt
from_place P (a ∷ as') f = (f zero a refl, from_place P as' (λ i b e. f (suc i) b e))

pub each_found_at : {T : Type 0} (P : At T → Type 0) (all : List (At T)) → HaveOwnNumbers all → ((a : At T) → 0 < a.id → value_at all a.id ≡ Some a.value → P a) → Each P all
each_found_at P all own f = from_place P all (λ i a e. (let q = found_at all i a own e in f a q.0 q.1))
