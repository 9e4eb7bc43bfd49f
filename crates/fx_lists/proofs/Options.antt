-- Lemmas on options and results.
use Rattle.std.proofs.Common.{None, Option, Some, false, refl, ℕ, ◌≡◌}
use Rattle.std.specs.Prelude.{Err, IfOk, Ok, OnOk, Result, is_some}

pub if_ok : {T E : Type 0} {P Q : T → Type 0} (r : Result T E) → ((v : T) → P v → Q v) → IfOk r P → IfOk r Q
if_ok (Ok v) f h = f v h
if_ok (Err e) f h = h

pub none_some : {A : Type 0} {B : Type 0} (x : A) → None ≡ Some x → B
none_some x q = absurd (cc)

pub none_some_2 : (u : ℕ) → None ≡ Some u → ⊥
none_some_2 u e = cc

pub not_found : (o : Option ℕ) → is_some o ≡ false → o ≡ None
not_found (Some k) t = cc
not_found None t = refl

pub on_ok : {T E P Q : Type 0} (r : Result T E) → (P → Q) → OnOk r P → OnOk r Q
on_ok (Ok v) f h = f h
on_ok (Err e) f h = h

pub some_is : {A : Type 0} (x y : A) → Some x ≡ Some y → x ≡ y
some_is x y e = cc

pub some_same : (a b : ℕ) → Some a ≡ Some b → a ≡ b
some_same a b e = cc
