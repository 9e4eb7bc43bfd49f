-- Lists of which something holds of each.
use Rattle.std.proofs.Common.{◌≡◌, ℕ, zero, suc, ◌-◌, Bool, true, false, List, [], ◌∷◌, ◌++◌, map, Option, Some, None, nat_eq, refl, subst}
use Rattle.std.specs.Prelude.{filter, if◌then◌else◌, slice_get}
use Rattle.f77_ast.specs.Shared.{numbered}
use Rattle.f77_ast.specs.declared.results.At.{At}
use Rattle.preconditions.specs.transformer_algebra.declared.transformer.Transformer.{Transformer}
use Rattle.preconditions.specs.transformer_algebra.Transformers.{identity_transformer}
use Rattle.preconditions.specs.transformers.Lists.{first_at, or_first, value_at, or_unchanging, transformer_at}
use Rattle.in_out_regions.specs.region_sets.declared.region.Region.{Region}
use Rattle.in_out_regions.specs.region_sets.Lists.{or_none}
use Rattle.base_values.specs.Naming.{Each}
use Rattle.base_values.proofs.Options.{each_map as each_more}

pub each-append : {A : Type 0} (P : A → Type 0) (xs ys : List A) → Each P xs → Each P ys → Each P (xs ++ ys)
each-append P [] ys h k = k
each-append P (x ∷ xs) ys h k = (h.0, each-append P xs ys h.1 k)

pub each_both : {A : Type 0} (P Q : A → Type 0) (xs : List A) → Each P xs → Each Q xs → Each (λ x. P x × Q x) xs
each_both P Q [] h k = tt
each_both P Q (x ∷ xs) h k = ((h.0, k.0), each_both P Q xs h.1 k.1)

pub each_mapped : {A B : Type 0} (P : B → Type 0) (f : A → B) (xs : List A) → Each (λ x. P (f x)) xs → Each P (map f xs)
each_mapped P f [] h = tt
each_mapped P f (x ∷ xs) h = (h.0, each_mapped P f xs h.1)

pub each_kept : {A : Type 0} (P : A → Type 0) (f : A → Bool) (xs : List A) → Each P xs → Each P (filter f xs)
each_kept P f [] h = tt
each_kept P f (x ∷ xs) h = go (f x) (each_kept P f xs h.1)
  where
    go : (b : Bool) → Each P (filter f xs) → Each P (if b then x ∷ filter f xs else filter f xs)
    go true k = (h.0, k)
    go false k = k

-- ---- results at statements, by their numbers

first_is : {T : Type 0} (P : T → Type 0) (n : ℕ) (xs : List (At T)) (v : T) → Each (λ (a : At T). P a.value) xs → first_at n xs ≡ Some v → P v
first_is P n [] v h e = cc
first_is P n (x ∷ xs) v h e = go (nat_eq x.id n) e (first_is P n xs v h.1)
  where
    go : (b : Bool) → (if b then Some x.value else first_at n xs) ≡ Some v → (first_at n xs ≡ Some v → P v) → P v
    go true q ih = let same : x.value ≡ v = cc in subst P same h.0
    go false q ih = ih q

got_is : {T : Type 0} (P : T → Type 0) (xs : List (At T)) (i : ℕ) (a : At T) → Each (λ (b : At T). P b.value) xs → slice_get xs i ≡ Some a → P a.value
got_is P [] i a h e = cc
got_is {T} P (x ∷ xs) zero a h e = let same : x ≡ a = cc in subst (λ (z : At T). P z.value) same h.0
got_is P (x ∷ xs) (suc i) a h e = got_is P xs i a h.1 e

numbered_is : {T : Type 0} (P : T → Type 0) (xs : List (At T)) (n : ℕ) (a : At T) → Each (λ (b : At T). P b.value) xs → numbered xs n ≡ Some a → P a.value
numbered_is P xs n a h e = go (nat_eq n 0) e
  where
    go : (b : Bool) → (if b then None else slice_get xs (n - 1)) ≡ Some a → P a.value
    go true q = cc
    go false q = got_is P xs (n - 1) a h q

pub value_is : {T : Type 0} (P : T → Type 0) (xs : List (At T)) (n : ℕ) (v : T) → Each (λ (a : At T). P a.value) xs → value_at xs n ≡ Some v → P v
value_is {T} P xs n v h e = go (numbered xs n) refl e
  where
    there : (a : At T) → numbered xs n ≡ Some a → (b : Bool) → (if b then Some a.value else first_at n xs) ≡ Some v → P v
    there a q true k = let same : a.value ≡ v = cc in subst P same (numbered_is P xs n a h q)
    there a q false k = first_is P n xs v h k

    go : (o : Option (At T)) → numbered xs n ≡ o → or_first o n xs ≡ Some v → P v
    go None q k = first_is P n xs v h k
    go (Some a) q k = there a q (nat_eq a.id n) k

-- none says nothing
pub at_found : (P : Transformer → Type 0) → P identity_transformer → (xs : List (At Transformer)) → Each (λ (a : At Transformer). P a.value) xs → (n : ℕ) → P (transformer_at xs n)
at_found P u xs h n = go (value_at xs n) (λ v e. value_is P xs n v h e)
  where
    go : (o : Option Transformer) → ((v : Transformer) → o ≡ Some v → P v) → P (or_unchanging o)
    go None f = u
    go (Some t) f = f t refl

pub set_found : (P : List Region → Type 0) → P [] → (xs : List (At (List Region))) → Each (λ (a : At (List Region)). P a.value) xs → (n : ℕ) → P (or_none (value_at xs n))
set_found P u xs h n = go (value_at xs n) (λ v e. value_is P xs n v h e)
  where
    go : (o : Option (List Region)) → ((v : List Region) → o ≡ Some v → P v) → P (or_none o)
    go None f = u
    go (Some t) f = f t refl
