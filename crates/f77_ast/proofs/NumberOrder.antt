-- Results in the order of their numbers are found, and claimed of, as those in the order of the text.
use Rattle.std.proofs.Common.{◌≡◌, ℕ, zero, suc, ◌-◌, List, [], ◌∷◌, ◌++◌, map, Option, Some, None, Bool, true, false, refl, sym, ap, ◌∙◌, subst, arith, nat_eq, true≢false}
use Rattle.std.specs.Prelude.{if◌then◌else◌, slice_get, not}
use Rattle.std.specs.List.{All, filter}
use Rattle.std.proofs.lemmas.List.Elements.{All-nil, All-cons, All-head, All-tail, All-append, All-filter, All-weaker}
use Rattle.f77_ast.specs.Shared.{numbered}
use Rattle.f77_ast.specs.declared.results.At.{At}
use Rattle.f77_ast.specs.StatementNumbers.{StandOnce}
use Rattle.f77_ast.specs.Hidden.{is_hidden}
use Rattle.f77_ast.specs.ResultLists.{first_at, or_first, value_at}
use Rattle.f77_ast.specs.NumberOrder.{in_number_order}
use Rattle.fx_lists.proofs.Numbers.{same_is, same_number}

-- ---- lists

at_place : {X : Type 0} (P : X → Type 0) (xs : List X) (i : ℕ) (x : X) → All P xs → slice_get xs i ≡ Some x → P x
at_place P [] i x h e = cc
at_place P (y ∷ xs) zero x h e = let same : y ≡ x = cc in subst P same (All-head P y xs h)
at_place P (y ∷ xs) (suc i) x h e = at_place P xs i x (All-tail P y xs h) e

from_places : {X : Type 0} (P : X → Type 0) (xs : List X) → ((i : ℕ) (x : X) → slice_get xs i ≡ Some x → P x) → All P xs
from_places P [] f = All-nil P
from_places P (x ∷ xs) f = All-cons P x xs (f zero x refl) (from_places P xs (λ i y e. f (suc i) y e))

filter_all : {X : Type 0} (p : X → Bool) (xs : List X) → All (λ x. p x ≡ true) xs → filter p xs ≡ xs
filter_all p [] h = refl
filter_all p (x ∷ xs) h =
    ap (λ c. if c then x ∷ filter p xs else filter p xs) (All-head (λ y. p y ≡ true) x xs h)
    ∙ ap (λ ys. x ∷ ys) (filter_all p xs (All-tail (λ y. p y ≡ true) x xs h))

filter_none : {X : Type 0} (p : X → Bool) (xs : List X) → All (λ x. p x ≡ false) xs → filter p xs ≡ []
filter_none p [] h = refl
filter_none p (x ∷ xs) h =
    ap (λ c. if c then x ∷ filter p xs else filter p xs) (All-head (λ y. p y ≡ false) x xs h)
    ∙ filter_none p xs (All-tail (λ y. p y ≡ false) x xs h)

append_none : {X : Type 0} (xs ys : List X) → ys ≡ [] → xs ++ ys ≡ xs
append_none [] ys e = e
append_none (x ∷ xs) ys e = ap (λ zs. x ∷ zs) (append_none xs ys e)

-- ---- the first of a number

module _ {T : Type 0} where
  -- what stands at a place is the first of its number, where no other has it
  pub first_found : (xs : List (At T)) (i : ℕ) (a : At T) → slice_get xs i ≡ Some a → ((j : ℕ) (b : At T) → slice_get xs j ≡ Some b → b.id ≡ a.id → j ≡ i) → first_at a.id xs ≡ Some a.value
  first_found [] i a e d = cc
  first_found (x ∷ xs) zero a e d =
      let same : x ≡ a = cc in
      ap (λ (y : At T). if nat_eq y.id a.id then Some y.value else first_at a.id xs) same ∙ ap (λ c. if c then Some a.value else first_at a.id xs) (same_number a.id)
  first_found (x ∷ xs) (suc i) a e d = go (nat_eq x.id a.id) refl (first_found xs i a e (λ j b f g. (let z = d (suc j) b f g in omega (arith, z))))
    where
      go : (c : Bool) → nat_eq x.id a.id ≡ c → first_at a.id xs ≡ Some a.value → (if c then Some x.value else first_at a.id xs) ≡ Some a.value
      go true q ih = let z : zero ≡ suc i = d zero x refl (same_is x.id a.id q) in absurd (omega (arith, z))
      go false q ih = ih

  -- of those whose numbers pass a test, it is the same where the number passes, and none where it does not
  first_kept : (p : ℕ → Bool) (n : ℕ) (as' : List (At T)) → p n ≡ true → first_at n (filter (λ a. p a.id) as') ≡ first_at n as'
  first_kept p n [] h = refl
  first_kept p n (a ∷ as') h = go (p a.id) refl (first_kept p n as' h)
    where
      other : (c : Bool) → nat_eq a.id n ≡ c → p a.id ≡ false → first_at n (filter (λ b. p b.id) as') ≡ first_at n as' → first_at n (filter (λ b. p b.id) as') ≡ (if c then Some a.value else first_at n as')
      other true s q ih = absurd (true≢false (sym h ∙ sym (ap p (same_is a.id n s)) ∙ q))
      other false s q ih = ih

      go : (c : Bool) → p a.id ≡ c → first_at n (filter (λ b. p b.id) as') ≡ first_at n as' → first_at n (if c then a ∷ filter (λ b. p b.id) as' else filter (λ b. p b.id) as') ≡ (if nat_eq a.id n then Some a.value else first_at n as')
      go true q ih = ap (λ z. if nat_eq a.id n then Some a.value else z) ih
      go false q ih = other (nat_eq a.id n) refl q ih

  first_left : (p : ℕ → Bool) (n : ℕ) (as' : List (At T)) → p n ≡ false → first_at n (filter (λ a. p a.id) as') ≡ None
  first_left p n [] h = refl
  first_left p n (a ∷ as') h = go (p a.id) refl (first_left p n as' h)
    where
      other : (c : Bool) → nat_eq a.id n ≡ c → p a.id ≡ true → first_at n (filter (λ b. p b.id) as') ≡ None → (if c then Some a.value else first_at n (filter (λ b. p b.id) as')) ≡ None
      other true s q ih = absurd (true≢false (sym q ∙ ap p (same_is a.id n s) ∙ h))
      other false s q ih = ih

      go : (c : Bool) → p a.id ≡ c → first_at n (filter (λ b. p b.id) as') ≡ None → first_at n (if c then a ∷ filter (λ b. p b.id) as' else filter (λ b. p b.id) as') ≡ None
      go true q ih = other (nat_eq a.id n) refl q ih
      go false q ih = ih

  none_before : (n : ℕ) (xs ys : List (At T)) → first_at n xs ≡ None → first_at n (xs ++ ys) ≡ first_at n ys
  none_before n [] ys e = refl
  none_before n (a ∷ xs) ys e = go (nat_eq a.id n) e (λ f. none_before n xs ys f)
    where
      go : (c : Bool) → (if c then Some a.value else first_at n xs) ≡ None → (first_at n xs ≡ None → first_at n (xs ++ ys) ≡ first_at n ys) → (if c then Some a.value else first_at n (xs ++ ys)) ≡ first_at n ys
      go true q ih = cc
      go false q ih = ih q

  none_behind : (n : ℕ) (xs ys : List (At T)) → first_at n ys ≡ None → first_at n (xs ++ ys) ≡ first_at n xs
  none_behind n [] ys e = e
  none_behind n (a ∷ xs) ys e = ap (λ z. if nat_eq a.id n then Some a.value else z) (none_behind n xs ys e)

  first_same : (as' : List (At T)) (n : ℕ) → first_at n (in_number_order as') ≡ first_at n as'
  first_same as' n = go (is_hidden n) refl
    where
      shown : List (At T)
      shown = filter (λ a. not (is_hidden a.id)) as'

      hidden : List (At T)
      hidden = filter (λ a. is_hidden a.id) as'

      go : (c : Bool) → is_hidden n ≡ c → first_at n (in_number_order as') ≡ first_at n as'
      go true q = none_before n shown hidden (first_left (λ m. not (is_hidden m)) n as' (ap not q)) ∙ first_kept is_hidden n as' q
      go false q = none_behind n shown hidden (first_left is_hidden n as' q) ∙ first_kept (λ m. not (is_hidden m)) n as' (ap not q)

  -- what is found at the place of a number, or else from the start, is the first of the number where each result with it has that value
  value_first : (all as' : List (At T)) (n : ℕ) → first_at n as' ≡ first_at n all → All (λ (a : At T). a.id ≡ n → Some a.value ≡ first_at n all) as' → value_at as' n ≡ first_at n all
  value_first all as' n f h = go (numbered as' n) refl
    where
      placed : (b : At T) → b.id ≡ n → (c : Bool) → (if c then None else slice_get as' (n - 1)) ≡ Some b → Some b.value ≡ first_at n all
      placed b s true q = cc
      placed b s false q = at_place (λ (a : At T). a.id ≡ n → Some a.value ≡ first_at n all) as' (n - 1) b h q s

      go : (o : Option (At T)) → numbered as' n ≡ o → or_first o n as' ≡ first_at n all
      go None q = f
      go (Some b) q = one (nat_eq b.id n) refl
        where
          one : (c : Bool) → nat_eq b.id n ≡ c → (if c then Some b.value else first_at n as') ≡ first_at n all
          one true s = placed b (same_is b.id n s) (nat_eq n 0) q
          one false s = f

  -- ---- the laws

  -- what holds of each result holds of each in the order of numbers
  pub all_kept : (P : At T → Type 0) (as' : List (At T)) → All P as' → All P (in_number_order as')
  all_kept P as' h =
      All-append P (filter (λ a. not (is_hidden a.id)) as') (filter (λ a. is_hidden a.id) as')
      (All-filter (λ a. not (is_hidden a.id)) P as' h) (All-filter (λ a. is_hidden a.id) P as' h)

  -- where none is hidden, it is the order of the text
  pub text_order_stays : (as' : List (At T)) → All (λ (a : At T). is_hidden a.id ≡ false) as' → in_number_order as' ≡ as'
  text_order_stays as' h =
      append_none (filter (λ a. not (is_hidden a.id)) as') (filter (λ a. is_hidden a.id) as') (filter_none (λ a. is_hidden a.id) as' h)
      ∙ filter_all (λ a. not (is_hidden a.id)) as' (All-weaker (λ (a : At T). is_hidden a.id ≡ false) (λ a. not (is_hidden a.id) ≡ true) (λ a e. ap not e) as' h)

  id_at : (xs : List (At T)) (i : ℕ) (a : At T) → slice_get xs i ≡ Some a → slice_get (map (λ (b : At T). b.id) xs) i ≡ Some a.id
  id_at [] i a e = cc
  id_at (x ∷ xs) zero a e = let same : x ≡ a = cc in ap (λ (y : At T). Some y.id) same
  id_at (x ∷ xs) (suc i) a e = id_at xs i a e

  -- results whose numbers stand once are found by their numbers as before
  pub value_same : (as' : List (At T)) (n : ℕ) → StandOnce (map (λ (a : At T). a.id) as') → value_at (in_number_order as') n ≡ value_at as' n
  value_same as' n once =
      value_first as' (in_number_order as') n (first_same as' n) (all_kept (λ a. a.id ≡ n → Some a.value ≡ first_at n as') as' each)
      ∙ sym (value_first as' as' n refl each)
    where
      one : (i : ℕ) (a : At T) → slice_get as' i ≡ Some a → a.id ≡ n → Some a.value ≡ first_at n as'
      one i a e s = sym (subst (λ m. first_at m as' ≡ Some a.value) s (first_found as' i a e (λ j b f g. once j i a.id (id_at as' j b f ∙ ap Some g) (id_at as' i a e))))

      each : All (λ (a : At T). a.id ≡ n → Some a.value ≡ first_at n as') as'
      each = from_places (λ (a : At T). a.id ≡ n → Some a.value ≡ first_at n as') as' one
