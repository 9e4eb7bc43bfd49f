-- Stores after events.
use Rattle.std.proofs.Common.{◌≡◌, ◌≢◌, ℕ, zero, suc, ◌<◌, ◌⊎◌, inl, inr, ⊎_elim, List, [], ◌∷◌, ◌++◌, refl, sym, ap, ◌∙◌, subst, arith}
use Rattle.std.proofs.lemmas.Bool.{cases_lt}
use Rattle.std.proofs.lemmas.Bool.Decides.{eqb_tells, nat_tests}
use Rattle.f77_ast.specs.Store.{Store, put}
use Rattle.f77_ast.specs.Runs.{Event, Arrived, Read, Wrote, Printed, Took}
use Rattle.f77_meaning.specs.Interleavings.{Process}
use Rattle.laws_interleavings.specs.Alone.{after, DoesAlone, in_order, Reads, Writes, NoneMeet}
use Rattle.f77_ast.proofs.Shared.{put_same}

pub put_other : {A : Type 0} (f : ℕ → A) (k : ℕ) (a : A) (x : ℕ) → x ≢ k → put f k a x ≡ f x
put_other f k a x h = grind (arith, nat_tests)

pub put_cong : {A : Type 0} (f g : ℕ → A) (k : ℕ) (a : A) (x : ℕ) → f x ≡ g x → put f k a x ≡ put g k a x
put_cong f g k a x h = grind (arith, nat_tests)

pub after_at : (t : List Event) (s z : Store) (x : ℕ) → s x ≡ z x → after t s x ≡ after t z x
after_at [] s z x h = h
after_at (Arrived p ∷ t) s z x h = after_at t s z x h
after_at (Printed xs ∷ t) s z x h = after_at t s z x h
after_at (Took o ∷ t) s z x h = after_at t s z x h
after_at (Read u v ∷ t) s z x h = after_at t s z x h
after_at (Wrote u v ∷ t) s z x h = after_at t (put s u v) (put z u v) x (put_cong s z u v x h)

pub after_untouched : (t : List Event) (s : Store) (x : ℕ) → (Writes x t → ⊥) → after t s x ≡ s x
after_untouched [] s x h = refl
after_untouched (Arrived p ∷ t) s x h = after_untouched t s x h
after_untouched (Printed xs ∷ t) s x h = after_untouched t s x h
after_untouched (Took o ∷ t) s x h = after_untouched t s x h
after_untouched (Read u v ∷ t) s x h = after_untouched t s x h
after_untouched (Wrote u v ∷ t) s x h = after_untouched t (put s u v) x (λ w. h (inr w)) ∙ put_other s u v x (λ e. h (inl e))

pub after_snoc : (h : List Event) (e : Event) (s : Store) → after (h ++ e ∷ []) s ≡ after (e ∷ []) (after h s)
after_snoc [] e s = refl
after_snoc (Arrived p ∷ h) e s = after_snoc h e s
after_snoc (Printed xs ∷ h) e s = after_snoc h e s
after_snoc (Took o ∷ h) e s = after_snoc h e s
after_snoc (Read u v ∷ h) e s = after_snoc h e s
after_snoc (Wrote u v ∷ h) e s = after_snoc h e (put s u v)

abbrev pub Touches : ℕ → List Event → Type 0
Touches x t = Reads x t ⊎ Writes x t

-- what it does alone rests only on the units that it touches
pub alone_at : (p : Process) (t h : List Event) (s z : Store) → ((x : ℕ) → Touches x t → s x ≡ z x) → DoesAlone p h s t → DoesAlone p h z t
alone_at p [] h s z same f = f
alone_at p (Arrived a ∷ t) h s z same f = absurd f
alone_at p (Printed xs ∷ t) h s z same f = absurd f
alone_at p (Took o ∷ t) h s z same f = absurd f
alone_at p (Read u v ∷ t) h s z same f =
    (f.0, f.1 ∙ same u (inl (inl refl)), alone_at p t (h ++ Read u v ∷ []) s z (λ x. ⊎_elim (λ r. same x (inl (inr r))) (λ w. same x (inr w))) f.2)
alone_at p (Wrote u v ∷ t) h s z same f =
    (f.0, alone_at p t (h ++ Wrote u v ∷ []) (put s u v) (put z u v) (λ x. ⊎_elim (λ r. put_cong s z u v x (same x (inl r))) (λ w. put_cong s z u v x (same x (inr (inr w))))) f.1)

pub in_order_untouched : (t : ℕ → List Event) (s : Store) (n x : ℕ) → ((j : ℕ) → j < n → Writes x (t j) → ⊥) → in_order t s n x ≡ s x
in_order_untouched t s zero x h = refl
in_order_untouched t s (suc n) x h =
    after_untouched (t n) (in_order t s n) x (h n (omega arith)) ∙ in_order_untouched t s n x (λ j lt. h j (omega arith))

-- where only the i-th writes the unit
pub in_order_writer : (t : ℕ → List Event) (s : Store) (n i x : ℕ) → i < n → ((j : ℕ) → j < n → j ≢ i → Writes x (t j) → ⊥) → in_order t s n x ≡ after (t i) s x
in_order_writer t s zero i x lt h = absurd (omega arith)
in_order_writer t s (suc n) i x lt h =
    ⊎_elim
    (λ e. after_at (t n) (in_order t s n) s x (in_order_untouched t s n x (λ j l. h j (omega arith) (omega (arith, e.1)))) ∙ ap (λ k. after (t k) s x) (sym e.1))
    (λ e. after_untouched (t n) (in_order t s n) x (h n (omega arith) (λ q. e.1 (sym q))) ∙ in_order_writer t s n i x (omega (arith, e.1)) (λ j l ne. h j (omega arith) ne))
    (eqb_tells i n)

pub writes_dec : (x : ℕ) (t : List Event) → Writes x t ⊎ (Writes x t → ⊥)
writes_dec x [] = inr (λ w. w)
writes_dec x (Arrived p ∷ t) = writes_dec x t
writes_dec x (Printed xs ∷ t) = writes_dec x t
writes_dec x (Took o ∷ t) = writes_dec x t
writes_dec x (Read u v ∷ t) = writes_dec x t
writes_dec x (Wrote u v ∷ t) =
    ⊎_elim
    (λ e. inl (inl e.1))
    (λ e. ⊎_elim (λ w. inl (inr w)) (λ n. inr (⊎_elim e.1 n)) (writes_dec x t))
    (eqb_tells x u)

pub writer : (t : ℕ → List Event) (n x : ℕ) → ((i : ℕ) × (i < n) × Writes x (t i)) ⊎ ((i : ℕ) → i < n → Writes x (t i) → ⊥)
writer t zero x = inr (λ i lt. absurd (omega arith))
writer t (suc n) x =
    ⊎_elim
    (λ w. inl (n, omega arith, w))
    (λ no. ⊎_elim
    (λ w. inl (w.0, omega (arith, w.1), w.2))
    (λ none. inr (λ i lt w. ⊎_elim (λ e. no (subst (λ k. Writes x (t k)) e.1 w)) (λ e. none i (omega (arith, e.1)) w) (eqb_tells i n)))
    (writer t n x))
    (writes_dec x (t n))

-- a unit that one of them touches is written by no other
pub alone : (n : ℕ) (t : ℕ → List Event) → NoneMeet n t → (i x : ℕ) → i < n → Touches x (t i) → (j : ℕ) → j < n → j ≢ i → Writes x (t j) → ⊥
alone n t c i x lt touch j l ne w =
    ⊎_elim
    (λ less. ⊎_elim (λ r. c.write_read j i x less lt w r) (λ v. c.write_write j i x less lt w v) touch)
    (λ more. ⊎_elim (λ r. c.read_write i j x (omega arith) l r w) (λ v. c.write_write i j x (omega arith) l v w) touch)
    (cases_lt j i)
