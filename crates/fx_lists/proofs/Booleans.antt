-- Lemmas on booleans.
use Rattle.std.proofs.Common.{Bool, ap, false, if◌then◌else◌, inl, inr, not, refl, true, true≢false, ◌&&◌, ◌||◌, ◌∙◌, ◌≡◌, ◌⊎◌}
use Rattle.std.proofs.lemmas.Bool.{or_left, or_right}
use mathlib.Core.Bool.{beq}

pub and_from : (a b : Bool) → a ≡ true → b ≡ true → (a && b) ≡ true
and_from a b e f = ap (λ c. c && b) e ∙ f

pub and_parts : (a b : Bool) → (a && b) ≡ true → (a ≡ true) × (b ≡ true)
and_parts true b e = (refl, e)
and_parts false b e = cc

pub and_true : (b : Bool) → (b && true) ≡ b
and_true true = refl
and_true false = refl

pub beq-true : (a b : Bool) → beq a b ≡ true → a ≡ b
beq-true true true e = refl
beq-true true false e = cc
beq-true false true e = cc
beq-true false false e = refl

pub chosen : {A : Type 0} (b : Bool) (x y : A) → b ≡ true → (if b then x else y) ≡ x
chosen true x y e = refl
chosen false x y e = cc

pub clash : {A : Type 0} (b : Bool) → b ≡ true → b ≡ false → A
clash b e f = cc

pub neither : (a b : Bool) → a ≡ false → b ≡ false → (a || b) ≡ false
neither true b e f = cc
neither false b e f = f

pub no_both : (b : Bool) → b ≡ true → b ≡ false → ⊥
no_both true e f = cc
no_both false e f = cc

pub not_and : (a b : Bool) → a ≡ false → (not a && b) ≡ false → b ≡ false
not_and true b e f = absurd (true≢false e)
not_and false b e f = f

pub not_true : (b : Bool) → not b ≡ true → b ≡ false
not_true true e = cc
not_true false e = refl

pub or_assoc : (a b c : Bool) → (a || (b || c)) ≡ ((a || b) || c)
or_assoc true b c = refl
or_assoc false b c = refl

pub or_turned : (a b c : Bool) → ((a || b) || c) ≡ (a || (b || c))
or_turned true b c = refl
or_turned false b c = refl

pub or_cases : (a b : Bool) → (a || b) ≡ true → (a ≡ true) ⊎ (b ≡ true)
or_cases true b h = inl refl
or_cases false b h = inr h

pub or_false : (b : Bool) → (b || false) ≡ b
or_false true = refl
or_false false = refl

pub alone : (w : Bool) → (w || false) ≡ w
alone true = refl
alone false = refl

pub or_map : (a b c d : Bool) → (a ≡ true → c ≡ true) → (b ≡ true → d ≡ true) → (a || b) ≡ true → (c || d) ≡ true
or_map true b c d f g h = or_left c d (f refl)
or_map false b c d f g h = or_right c d (g h)

pub or_neither : (a b : Bool) → (a || b) ≡ false → (a ≡ false) × (b ≡ false)
or_neither true b e = cc
or_neither false b e = (refl, e)

pub or_split : {P : Type 0} (a b : Bool) → (a || b) ≡ true → (a ≡ true → P) → (b ≡ true → P) → P
or_split true b h f g = f refl
or_split false b h f g = g h

pub or_swap : (a b c : Bool) → (a || (b || c)) ≡ (b || (a || c))
or_swap true true c = refl
or_swap true false c = refl
or_swap false b c = refl

pub or_there : (a b : Bool) → b ≡ true → (a || b) ≡ true
or_there true b e = refl
or_there false b e = e

pub or_true : (b : Bool) → (b || true) ≡ true
or_true true = refl
or_true false = refl

pub plain_from : (a b : Bool) → (a && not b) ≡ false → a ≡ true → b ≡ true
plain_from true true e h = refl
plain_from true false e h = cc
plain_from false b e h = cc

pub right_of : (a b : Bool) → a ≡ false → (a || b) ≡ true → b ≡ true
right_of true b n e = cc
right_of false b n e = e

pub same_left : (a b : Bool) → (a && b) ≡ true → a ≡ true
same_left true b h = refl
same_left false b h = cc

pub same_right : (a b : Bool) → (a && b) ≡ true → b ≡ true
same_right true b h = h
same_right false b h = cc

pub and_false : (b : Bool) → (b && false) ≡ false
and_false true = refl
and_false false = refl

pub never_both : (a b : Bool) → (a ≡ true → b ≡ false) → (a && b) ≡ false
never_both true b h = h refl
never_both false b h = refl

pub not_first : (a b : Bool) → (not a && b) ≡ true → a ≡ false
not_first true b e = cc
not_first false b e = refl

pub not_chosen : {A : Type 0} (b : Bool) (x y : A) → b ≡ false → (if b then x else y) ≡ y
not_chosen true x y e = cc
not_chosen false x y e = refl

pub or_here : (a b : Bool) → a ≡ true → (a || b) ≡ true
or_here true b e = refl
or_here false b e = cc

pub with_false : (b : Bool) → b ≡ (b || false)
with_false true = refl
with_false false = refl

pub bool_cases : (b : Bool) (X : Type 0) → (b ≡ true → X) → (b ≡ false → X) → X
bool_cases true X f g = f refl
bool_cases false X f g = g refl
