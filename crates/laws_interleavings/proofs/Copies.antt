-- Which units the run of marked loops may leave without a value.
use Rattle.std.proofs.Common.{◌≡◌, ℕ, zero, suc, ⊎_elim, inl, inr, ◌⊎◌, List, [], ◌∷◌, ◌++◌, ◌||◌, ◌&&◌, not, Bool, true, false, refl, ap, ap₂, ◌∙◌, nat_eq, true≢false}
use Rattle.std.specs.Prelude.{if◌then◌else◌}
use Rattle.std.proofs.lemmas.List.Folds.{list_any-append}
use Rattle.f77_ast.specs.Store.{Store}
use Rattle.f77_ast.specs.Runs.{Event, Arrived, Read, Wrote, Printed, Took, Ran, store_of}
use Rattle.f77_ast.specs.Plans.{Flow}
use Rattle.f77_meaning.specs.Processes.{Marked}
use Rattle.laws_interleavings.specs.Iterations.{does}
use Rattle.laws_interleavings.specs.Marks.{Parallel}
use Rattle.laws_interleavings.specs.Sound.{grow, known_at, some_wrote, known_after, may_lose, may_lose_one_of, IsForgotten, LosesOnlyCopies, Alike}
use Rattle.fx_lists.proofs.Booleans.{or_true, or_neither as or_false}

-- what is not known later was not known before
grow_false : (es : List Event) (known : ℕ → Bool) (x : ℕ) → grow es known x ≡ false → known x ≡ false
grow_false [] known x e = e
grow_false (Arrived p ∷ es) known x e = grow_false es known x e
grow_false (Read u c ∷ es) known x e = grow_false es known x e
grow_false (Wrote u c ∷ es) known x e = (or_false (nat_eq x u) (known x) (grow_false es (λ y. nat_eq y u || known y) x e)).1
grow_false (Printed xs ∷ es) known x e = grow_false es known x e
grow_false (Took o ∷ es) known x e = grow_false es known x e

pub known_at_false : (es : ℕ → List Event) (known : ℕ → Bool) (n x : ℕ) → known_at es known n x ≡ false → known x ≡ false
known_at_false es known zero x e = e
known_at_false es known (suc n) x e = known_at_false es known n x (grow_false (es n) (known_at es known n) x e)

-- without a loop
pub none_forgotten : (known : ℕ → Bool) → IsForgotten known known []
none_forgotten known x e = inl e

-- where more was known
pub forgotten_less : (known after : ℕ → Bool) (u : ℕ) (ms : List Marked) → IsForgotten (λ x. nat_eq x u || known x) after ms → IsForgotten known after ms
forgotten_less known after u ms h x e = ⊎_elim (λ k. inl (or_false (nat_eq x u) (known x) k).1) inr (h x e)

-- one part after the other
pub forgotten_then : (k0 k1 k2 : ℕ → Bool) (ms ns : List Marked) → IsForgotten k0 k1 ms → IsForgotten k1 k2 ns → IsForgotten k0 k2 (ms ++ ns)
forgotten_then k0 k1 k2 ms ns a b x e =
    ⊎_elim
    (λ f. ⊎_elim inl (λ m. inr (both ∙ ap (λ c. c || may_lose_one_of ns x) m)) (a x f))
    (λ n. inr (both ∙ ap (λ c. may_lose_one_of ms x || c) n ∙ or_true (may_lose_one_of ms x)))
    (b x e)
  where
    both : may_lose_one_of (ms ++ ns) x ≡ (may_lose_one_of ms x || may_lose_one_of ns x)
    both = list_any-append (λ (m : Marked). may_lose m x) ms ns

-- after a loop
pub forgotten_behind : (m : Marked) (s : Store) (known after : ℕ → Bool) (ms : List Marked) → IsForgotten (known_after m known s) after ms → IsForgotten known after (m ∷ ms)
forgotten_behind m s known after ms h x e =
    ⊎_elim
    (λ f. by_kind (nat_eq x m.index) (m.named x) (m.private x) refl refl f)
    (λ g. inr (ap (λ c. may_lose m x || c) g ∙ or_true (may_lose m x)))
    (h x e)
  where
    by_kind : (b1 b2 b3 : Bool) → nat_eq x m.index ≡ b1 → m.named x ≡ b2 →
        (if b1 then false else if b2 then (not (some_wrote m s m.count x) && known x) else if b3 then true else known_at (does m s) known m.count x) ≡ false →
        (known x ≡ false) ⊎ (may_lose_one_of (m ∷ ms) x ≡ true)
    by_kind true b2 b3 e1 e2 f = inr (ap (λ c. (c || m.named x) || may_lose_one_of ms x) e1)
    by_kind false true b3 e1 e2 f = inr (ap₂ (λ c d. (c || d) || may_lose_one_of ms x) e1 e2)
    by_kind false false true e1 e2 f = absurd (true≢false f)
    by_kind false false false e1 e2 f = inl (known_at_false (does m s) known m.count x f)

-- where all is known at first
pub only_copies : (q : Ran Flow) (r : Parallel) (after : ℕ → Bool) → Alike after (store_of q.memory) r.store → IsForgotten (λ x. true) after r.loops → LosesOnlyCopies q r
only_copies q r after alike forgotten x value none = go (after x) refl
  where
    go : (b : Bool) → after x ≡ b → may_lose_one_of r.loops x ≡ true
    go true e = absurd (⊎_elim (λ same. value (ap (λ c. c.tag) same ∙ none)) (λ both. value both.0) ((alike x).0 e))
    go false e = ⊎_elim (λ k. absurd (true≢false k)) (λ g. g) (forgotten x e)
