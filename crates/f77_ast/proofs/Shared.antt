-- Lemmas that several crates use.
use Rattle.std.proofs.Common.{Bool, List, ap, arith, false, negsuc, pos, refl, sym, true, ℕ, ℤ, ◌∙◌, ◌≡◌, ◌≤ℤ◌, ◌≤◌}
use Rattle.f77_ast.specs.Numbers.{is_true}
use Rattle.f77_ast.specs.Places.{as_count}
use Rattle.f77_ast.specs.Steps.{Arrive, Breaks, Done, Forget, Hold, Look, Set, Show, Steps, Take, ◌>>=◌}
use Rattle.f77_ast.specs.Store.{put, truth}
use Rattle.f77_ast.specs.Plans.{Flow, Plan, steps_of, ◌▹◌}
use Rattle.f77_ast.specs.Plans as plan
use Rattle.f77_ast.specs.Variables.{text_cmp}
use Rattle.std.proofs.lemmas.Bool.Decides.{nat_tests}
use Rattle.std.proofs.lemmas.Int.{ints}
use Rattle.std.proofs.lemmas.Map.Text.{is_eq-slice_cmp}
use Rattle.std.proofs.lemmas.Slice.Eq.{bytes_eq-Decides}
use Rattle.std.specs.Ordering.{is_eq}
use Rattle.std.specs.declared.cmp.Ordering.TheVariants.{Equal}

pub truth_true : (b : Bool) → is_true (truth b) ≡ b
truth_true true = refl
truth_true false = refl

pub counted : (z : ℤ) → pos 0 ≤ℤ z → pos (as_count z) ≡ z
counted (pos n) h = refl
counted (negsuc n) h = absurd (omega (arith, ints))

pub same_texts : (x y : List ℕ) → text_cmp x y ≡ Equal → x ≡ y
same_texts x y e = (bytes_eq-Decides x y).0 (sym (is_eq-slice_cmp x y) ∙ ap is_eq e)

pub bind_assoc : {A B C : Type 0} (t : Steps A) (f : A → Steps B) (g : B → Steps C) → ((t >>= f) >>= g) ≡ (t >>= λ a. f a >>= g)
bind_assoc (Done a) f g = refl
bind_assoc (Breaks b) f g = refl
bind_assoc (Look u k) f g = λ i. Look u (λ c. bind_assoc (k c) f g i)
bind_assoc (Set u c t) f g = ap (Set u c) (bind_assoc t f g)
bind_assoc (Hold u c t) f g = ap (Hold u c) (bind_assoc t f g)
bind_assoc (Forget u t) f g = ap (Forget u) (bind_assoc t f g)
bind_assoc (Show xs t) f g = ap (Show xs) (bind_assoc t f g)
bind_assoc (Take k) f g = λ i. Take (λ o. bind_assoc (k o) f g i)
bind_assoc (Arrive p t) f g = ap (Arrive p) (bind_assoc t f g)

pub put_same : {A : Type 0} (f : ℕ → A) (k : ℕ) (a : A) → put f k a k ≡ a
put_same f k a = grind (arith, nat_tests)

pub steps_then : (t : Plan) (f : Flow → Plan) → steps_of (t ▹ f) ≡ (steps_of t >>= λ g. steps_of (f g))
steps_then (plan.Ends g) f = refl
steps_then (plan.Breaks b) f = refl
steps_then (plan.Look u k) f = λ i. Look u (λ c. steps_then (k c) f i)
steps_then (plan.Set u c t) f = ap (Set u c) (steps_then t f)
steps_then (plan.Hold u c t) f = ap (Hold u c) (steps_then t f)
steps_then (plan.Forget u t) f = ap (Forget u) (steps_then t f)
steps_then (plan.Show xs t) f = ap (Show xs) (steps_then t f)
steps_then (plan.Take k) f = λ i. Take (λ o. steps_then (k o) f i)
steps_then (plan.Within p at t k) f =
    let inner : (steps_of t >>= λ g. steps_of (k g ▹ f)) ≡ (steps_of t >>= λ g. (steps_of (k g) >>= λ h. steps_of (f h))) = λ i. steps_of t >>= λ g. steps_then (k g) f i in
    ap (Arrive p) (inner ∙ sym (bind_assoc (steps_of t) (λ g. steps_of (k g)) (λ h. steps_of (f h))))
