-- The order of modules: what stands in it, and that without recursion none is missing.
use Rattle.std.proofs.Common.{◌≡◌, ℕ, zero, suc, ◌+◌, ◌-◌, ◌<◌, ◌≤◌, Bool, true, false, not, ◌&&◌, ◌||◌, ◌⊎◌, inl, inr, List, [], ◌∷◌, ◌++◌, length, get_or, Option, Some, None, refl, sym, ap, ◌∙◌, subst, arith}
use Rattle.std.specs.Prelude.{nat_eq, nat_lt, if◌then◌else◌}
use Rattle.std.specs.List.{list_any, list_all}
use Rattle.std.proofs.lemmas.Bool.{eqb-true, and_parts, not-true, or_left, or_right}
use Rattle.std.proofs.lemmas.Bool.Decides.{nat_tests}
use Rattle.call_graph.specs.Recursion.{callees_at, leads, reaches}
use Rattle.call_graph.specs.Order.{holds, ready, first_ready, with_next, order_from, order_of}
use Rattle.call_graph.specs.Laws.{IsBottomUp, HasEach, AreModules, NeverBack}
use Rattle.fx_lists.proofs.Booleans.{no_both}
use Rattle.fx_lists.proofs.Numbers.{same_number}

-- ---- a loop that counts up

pub order_step : (r n : ℕ) (css : List (List ℕ)) (done : List ℕ) → r < n → order_from (n - r) css done ≡ order_from (n - (r + 1)) css (with_next (first_ready 0 css done) done)
order_step r n css done h = let e : n - r ≡ suc (n - (r + 1)) = omega arith in rw e refl

pub order_end : (r n : ℕ) (css : List (List ℕ)) (done : List ℕ) → n ≤ r → order_from (n - r) css done ≡ done
order_end r n css done h = let e : n - r ≡ zero = omega arith in rw e refl

pub ruleset order_steps = (order_step, order_end)

-- ---- tests

or_mono : (a b c : Bool) → (b ≡ true → c ≡ true) → (a || b) ≡ true → (a || c) ≡ true
or_mono true b c h e = refl
or_mono false b c h e = h e

-- ---- what is ready

-- a module that is ready is one, with what it calls in the order
pub first-ready : (k m : ℕ) (css : List (List ℕ)) (done : List ℕ) → first_ready k css done ≡ Some m → (i : ℕ) × (m ≡ k + i) × (i < length css) × (ready done m (get_or css i []) ≡ true)
first-ready k m [] done e = cc
first-ready k m (cs ∷ css) done e = go (ready done k cs) refl e (first-ready (suc k) m css done)
  where
    go : (b : Bool) → ready done k cs ≡ b → (if b then Some k else first_ready (suc k) css done) ≡ Some m → (first_ready (suc k) css done ≡ Some m → (j : ℕ) × (m ≡ suc k + j) × (j < length css) × (ready done m (get_or css j []) ≡ true)) → (i : ℕ) × (m ≡ k + i) × (i < suc (length css)) × (ready done m (get_or (cs ∷ css) i []) ≡ true)
    go true r q ih =
        let same : k ≡ m = cc in
        (zero, omega arith, omega arith, subst (λ j. ready done j cs ≡ true) same r)
    go false r q ih =
        let later = ih q in
        (suc later.0, omega (arith, later.1), omega (arith, later.2), later.3)

-- where none is, each module is in the order or calls one that is not
pub none-ready : (k : ℕ) (css : List (List ℕ)) (done : List ℕ) → first_ready k css done ≡ None → (i : ℕ) → i < length css → ready done (k + i) (get_or css i []) ≡ false
none-ready k [] done e i h = absurd (omega (arith, h))
none-ready k (cs ∷ css) done e i h = go (ready done k cs) refl e (none-ready (suc k) css done) i h
  where
    go : (b : Bool) → ready done k cs ≡ b → (if b then Some k else first_ready (suc k) css done) ≡ None → (first_ready (suc k) css done ≡ None → (j : ℕ) → j < length css → ready done (suc k + j) (get_or css j []) ≡ false) → (i : ℕ) → i < suc (length css) → ready done (k + i) (get_or (cs ∷ css) i []) ≡ false
    go true r q ih i h = cc
    go false r q ih zero h = let z : k ≡ k + zero = omega arith in subst (λ j. ready done j cs ≡ false) z r
    go false r q ih (suc i) h =
        let z : suc k + i ≡ k + suc i = omega arith in
        subst (λ j. ready done j (get_or css i []) ≡ false) z (ih q i (omega (arith, h)))

-- ---- bottom-up

no_empty : (before : List ℕ) (k : ℕ) (after : List ℕ) → [] ≡ before ++ k ∷ after → ⊥
no_empty [] k after e = cc
no_empty (b ∷ bs) k after e = cc

split : (done before after : List ℕ) (k j : ℕ) → done ++ k ∷ [] ≡ before ++ j ∷ after → ((before ≡ done) × (j ≡ k)) ⊎ ((rest : List ℕ) × (done ≡ before ++ j ∷ rest))
split [] [] after k j e = let s : k ≡ j = cc in inl (refl, sym s)
split [] (b ∷ bs) after k j e = let t : [] ≡ bs ++ j ∷ after = cc in absurd (no_empty bs j after t)
split (d ∷ ds) [] after k j e = let s : d ≡ j = cc in inr (ds, ap (λ x. x ∷ ds) s)
split (d ∷ ds) (b ∷ bs) after k j e =
    let s : d ≡ b = cc in
    let t : ds ++ k ∷ [] ≡ bs ++ j ∷ after = cc in
    elim (split ds bs after k j t) [
      | inl w ↦ inl (cc, w.1)
      | inr w ↦ inr (w.0, cc)
    ]

bottom_up-more : (css : List (List ℕ)) (done : List ℕ) (k : ℕ) → IsBottomUp css done → holds done k ≡ false → list_all (λ c. holds done c) (callees_at css k) ≡ true → IsBottomUp css (done ++ k ∷ [])
bottom_up-more css done k up new calls before j after e =
    elim (split done before after k j e) [
      | inl w ↦ subst (λ (b : List ℕ). (holds b j ≡ false) × (list_all (λ c. holds b c) (callees_at css j) ≡ true)) (sym w.0)
          (subst (λ m. (holds done m ≡ false) × (list_all (λ c. holds done c) (callees_at css m) ≡ true)) (sym w.1) (new, calls))
      | inr w ↦ up before j w.0 w.1
    ]

bottom_up-next : (css : List (List ℕ)) (done : List ℕ) → IsBottomUp css done → (o : Option ℕ) → first_ready 0 css done ≡ o → IsBottomUp css (with_next o done)
bottom_up-next css done up None e = up
bottom_up-next css done up (Some m) e =
    let r = first-ready 0 m css done e in
    let z : r.0 ≡ m = omega (arith, r.1) in
    let test : ready done m (get_or css m []) ≡ true = subst (λ i. ready done m (get_or css i []) ≡ true) z r.3 in
    let parts = and_parts (not (holds done m)) (list_all (λ c. holds done c) (get_or css m [])) test in
    bottom_up-more css done m up (not-true (holds done m) parts.0) parts.1

bottom_up-from : (t : ℕ) (css : List (List ℕ)) (done : List ℕ) → IsBottomUp css done → IsBottomUp css (order_from t css done)
bottom_up-from zero css done up = up
bottom_up-from (suc t) css done up =
    bottom_up-from t css (with_next (first_ready 0 css done) done) (bottom_up-next css done up (first_ready 0 css done) refl)

pub bottom_up : (css : List (List ℕ)) → IsBottomUp css (order_of css)
bottom_up css = bottom_up-from (length css) css [] (λ before k after e. absurd (no_empty before k after e))

-- ---- how many numbers below n fail a test

abbrev missing : ℕ → (ℕ → Bool) → ℕ
missing zero f = zero
missing (suc n) f = (if f n then zero else suc zero) + missing n f

one : (b c : Bool) → (b ≡ true → c ≡ true) → (if c then zero else suc zero) ≤ (if b then zero else suc zero)
one true true h = omega arith
one true false h = let z : false ≡ true = h refl in cc
one false true h = omega arith
one false false h = omega arith

missing-le : (n : ℕ) → missing n (λ k. false) ≤ n
missing-le zero = omega arith
missing-le (suc n) = omega (arith, missing-le n)

missing-fewer : (n : ℕ) (f g : ℕ → Bool) → ((k : ℕ) → f k ≡ true → g k ≡ true) → missing n g ≤ missing n f
missing-fewer zero f g h = omega arith
missing-fewer (suc n) f g h = omega (arith, missing-fewer n f g h, one (f n) (g n) (h n))

apart_below : (k n : ℕ) → k < suc n → nat_eq k n ≡ false → k < n
apart_below k n lt e = grind (arith, nat_tests)

missing-less : (n k : ℕ) (f g : ℕ → Bool) → ((j : ℕ) → f j ≡ true → g j ≡ true) → k < n → f k ≡ false → g k ≡ true → suc (missing n g) ≤ missing n f
missing-less zero k f g h lt out into = absurd (omega (arith, lt))
missing-less (suc n) k f g h lt out into = go (nat_eq k n) refl (λ l. missing-less n k f g h l out into)
  where
    go : (b : Bool) → nat_eq k n ≡ b → (k < n → suc (missing n g) ≤ missing n f) → suc ((if g n then zero else suc zero) + missing n g) ≤ (if f n then zero else suc zero) + missing n f
    go true e ih =
        let same : k ≡ n = eqb-true k n e in
        let outside : f n ≡ false = subst (λ m. f m ≡ false) same out in
        let inside : g n ≡ true = subst (λ m. g m ≡ true) same into in
        rw (outside, inside) (omega (arith, missing-fewer n f g h))
    go false e ih =
        let apart : k < n = apart_below k n lt e in
        omega (arith, ih apart, one (f n) (g n) (h n))

missing-none : (n k : ℕ) (f : ℕ → Bool) → k < n → missing n f ≡ zero → f k ≡ true
missing-none n k f lt e = go (f k) refl
  where
    go : (b : Bool) → f k ≡ b → b ≡ true
    go true q = refl
    go false q = absurd (omega (arith, e, missing-less n k f (λ j. true) (λ j h. refl) lt q refl))

-- ---- tests of lists

any_mono : (f g : ℕ → Bool) (xs : List ℕ) → ((x : ℕ) → f x ≡ true → g x ≡ true) → list_any f xs ≡ true → list_any g xs ≡ true
any_mono f g [] h e = cc
any_mono f g (x ∷ xs) h e = go (f x) refl e (any_mono f g xs h)
  where
    go : (b : Bool) → f x ≡ b → (b || list_any f xs) ≡ true → (list_any f xs ≡ true → list_any g xs ≡ true) → (g x || list_any g xs) ≡ true
    go true q r ih = or_left (g x) (list_any g xs) (h x q)
    go false q r ih = or_right (g x) (list_any g xs) (ih r)

any_has : (f : ℕ → Bool) (xs : List ℕ) (c : ℕ) → holds xs c ≡ true → f c ≡ true → list_any f xs ≡ true
any_has f xs c e y = any_mono (λ m. nat_eq m c) f xs (λ m q. subst (λ j. f j ≡ true) (sym (eqb-true m c q)) y) e

all_fails : (f : ℕ → Bool) (xs : List ℕ) → list_all f xs ≡ false → (c : ℕ) × (holds xs c ≡ true) × (f c ≡ false)
all_fails f [] e = cc
all_fails f (x ∷ xs) e = go (f x) refl e (all_fails f xs)
  where
    go : (b : Bool) → f x ≡ b → (b && list_all f xs) ≡ false → (list_all f xs ≡ false → (d : ℕ) × (holds xs d ≡ true) × (f d ≡ false)) → (c : ℕ) × ((nat_eq x c || holds xs c) ≡ true) × (f c ≡ false)
    go true q r ih =
        let later = ih r in
        (later.0, or_right (nat_eq x later.0) (holds xs later.0) later.1, later.2)
    go false q r ih = (x, or_left (nat_eq x x) (holds xs x) (same_number x), q)

holds-more : (xs : List ℕ) (k j : ℕ) → holds xs j ≡ true → holds (xs ++ k ∷ []) j ≡ true
holds-more [] k j e = cc
holds-more (x ∷ xs) k j e = or_mono (nat_eq x j) (holds xs j) (holds (xs ++ k ∷ []) j) (holds-more xs k j) e

holds-last : (xs : List ℕ) (k : ℕ) → holds (xs ++ k ∷ []) k ≡ true
holds-last [] k = or_left (nat_eq k k) false (same_number k)
holds-last (x ∷ xs) k = or_right (nat_eq x k) (holds (xs ++ k ∷ []) k) (holds-last xs k)

-- ---- leading

leads-here : (t : ℕ) (css : List (List ℕ)) (x : ℕ) → leads (suc t) css x x ≡ true
leads-here t css x = or_left (nat_eq x x) (list_any (λ c. leads t css c x) (callees_at css x)) (same_number x)

leads-more : (t : ℕ) (css : List (List ℕ)) (x y : ℕ) → leads t css x y ≡ true → leads (suc t) css x y ≡ true
leads-more zero css x y e = cc
leads-more (suc t) css x y e =
    or_mono (nat_eq x y) (list_any (λ c. leads t css c y) (callees_at css x)) (list_any (λ c. leads (suc t) css c y) (callees_at css x))
    (any_mono (λ c. leads t css c y) (λ c. leads (suc t) css c y) (callees_at css x) (λ c. leads-more t css c y)) e

leads-by : (d t : ℕ) (css : List (List ℕ)) (x y : ℕ) → leads t css x y ≡ true → leads (d + t) css x y ≡ true
leads-by zero t css x y e = let z : t ≡ zero + t = omega arith in subst (λ m. leads m css x y ≡ true) z e
leads-by (suc d) t css x y e =
    let z : suc (d + t) ≡ suc d + t = omega arith in
    subst (λ m. leads m css x y ≡ true) z (leads-more (d + t) css x y (leads-by d t css x y e))

leads-le : (t s : ℕ) (css : List (List ℕ)) (x y : ℕ) → t ≤ s → leads t css x y ≡ true → leads s css x y ≡ true
leads-le t s css x y h e =
    let z : (s - t) + t ≡ s = omega arith in subst (λ m. leads m css x y ≡ true) z (leads-by (s - t) t css x y e)

-- one call behind
leads-step : (t : ℕ) (css : List (List ℕ)) (x h c : ℕ) → holds (callees_at css h) c ≡ true → leads t css x h ≡ true → leads (suc t) css x c ≡ true
leads-step zero css x h c called e = cc
leads-step (suc t) css x h c called e = go (nat_eq x h) refl e (λ z. leads-step t css z h c called)
  where
    go : (b : Bool) → nat_eq x h ≡ b → (b || list_any (λ z. leads t css z h) (callees_at css x)) ≡ true → ((z : ℕ) → leads t css z h ≡ true → leads (suc t) css z c ≡ true) → (nat_eq x c || list_any (λ z. leads (suc t) css z c) (callees_at css x)) ≡ true
    go true q r ih =
        let same : h ≡ x = sym (eqb-true x h q) in
        let here : holds (callees_at css x) c ≡ true = subst (λ m. holds (callees_at css m) c ≡ true) same called in
        or_right (nat_eq x c) (list_any (λ z. leads (suc t) css z c) (callees_at css x)) (any_has (λ z. leads (suc t) css z c) (callees_at css x) c here (leads-here t css c))
    go false q r ih =
        or_right (nat_eq x c) (list_any (λ z. leads (suc t) css z c) (callees_at css x))
        (any_mono (λ z. leads t css z h) (λ z. leads (suc t) css z c) (callees_at css x) ih r)

-- ---- nothing is missing

-- a walk along calls to modules that are not in the order, each new, ends, and then it comes to a cycle
module _ (css : List (List ℕ)) (done : List ℕ) (modules : AreModules css) (never : NeverBack css) (none : first_ready 0 css done ≡ None) where
  next_missing : (h : ℕ) → h < length css → holds done h ≡ false → (c : ℕ) × (holds (callees_at css h) c ≡ true) × (holds done c ≡ false)
  next_missing h lt out =
      let z : 0 + h ≡ h = omega arith in
      let test : ready done h (get_or css h []) ≡ false = subst (λ j. ready done j (get_or css h []) ≡ false) z (none-ready 0 css done none h lt) in
      let fails : list_all (λ c. holds done c) (get_or css h []) ≡ false = sym (ap (λ b. not b && list_all (λ c. holds done c) (get_or css h [])) out) ∙ test in
      all_fails (λ c. holds done c) (get_or css h []) fails

  -- each module of a longer walk leads to its new last one
  came : (w : List ℕ) (h c x : ℕ) → holds (callees_at css h) c ≡ true → ((y : ℕ) → holds w y ≡ true → leads (length w) css y h ≡ true) → (b : Bool) → nat_eq c x ≡ b → (b || holds w x) ≡ true → leads (suc (length w)) css x c ≡ true
  came w h c x called leading true e q = subst (λ j. leads (suc (length w)) css j c ≡ true) (eqb-true c x e) (leads-here (length w) css c)
  came w h c x called leading false e q = leads-step (length w) css x h c called (leading x q)

  -- one module further, unless the walk has been there
  further : (w : List ℕ) (h c : ℕ) → h < length css → holds (callees_at css h) c ≡ true → c < length css → ((x : ℕ) → holds w x ≡ true → leads (length w) css x h ≡ true) → length w + missing (length css) (holds w) ≤ length css → (((x : ℕ) → holds (c ∷ w) x ≡ true → leads (suc (length w)) css x c ≡ true) → suc (missing (length css) (holds (c ∷ w))) ≤ missing (length css) (holds w) → ⊥) → (b : Bool) → holds w c ≡ b → ⊥
  further w h c lt called is leading room on true e =
      no_both (reaches css c h) (leads-le (length w) (length css) css c h (omega (arith, room)) (leading c e)) (never h c lt called)
  further w h c lt called is leading room on false e =
      on (λ x q. came w h c x called leading (nat_eq c x) refl q)
      (missing-less (length css) c (holds w) (holds (c ∷ w)) (λ j q. or_right (nat_eq c j) (holds w j) q) is e (or_left (nat_eq c c) (holds w c) (same_number c)))

  -- each module of the walk leads to its last
  walk : (fuel : ℕ) (w : List ℕ) (h : ℕ) → h < length css → holds done h ≡ false → ((x : ℕ) → holds w x ≡ true → leads (length w) css x h ≡ true) → length w + missing (length css) (holds w) ≤ length css → missing (length css) (holds w) ≤ fuel → ⊥
  walk zero w h lt out leading room left =
      let next = next_missing h lt out in
      further w h next.0 lt next.1 (modules h next.0 next.1) leading room (λ l less. absurd (omega (arith, less, left))) (holds w next.0) refl
  walk (suc f) w h lt out leading room left =
      let next = next_missing h lt out in
      further w h next.0 lt next.1 (modules h next.0 next.1) leading room
      (λ l less. walk f (next.0 ∷ w) next.0 (modules h next.0 next.1) next.2 l (omega (arith, less, room)) (omega (arith, less, left)))
      (holds w next.0) refl

  start : (k x : ℕ) → (b : Bool) → nat_eq k x ≡ b → (b || false) ≡ true → leads (suc zero) css x k ≡ true
  start k x true q e = subst (λ j. leads (suc zero) css j k ≡ true) (eqb-true k x q) (leads-here zero css k)
  start k x false q e = cc

  -- where none is ready, all are there
  pub all_there : HasEach css done
  all_there k lt = go (holds done k) refl k lt
    where
      go : (b : Bool) → holds done k ≡ b → (m : ℕ) → m < length css → holds done k ≡ true
      go true e m h = e
      go false e m h =
          let less = missing-less (length css) k (λ j. false) (holds (k ∷ [])) (λ j q. absurd (no_both false q refl)) lt refl (or_left (nat_eq k k) false (same_number k)) in
          absurd
          (walk (missing (length css) (holds (k ∷ []))) (k ∷ []) k lt e (λ x q. start k x (nat_eq k x) refl q) (omega (arith, less, missing-le (length css))) (omega arith))

order-stays : (t : ℕ) (css : List (List ℕ)) (done : List ℕ) → first_ready 0 css done ≡ None → order_from t css done ≡ done
order-stays zero css done e = refl
order-stays (suc t) css done e = ap (λ o. order_from t css (with_next o done)) e ∙ order-stays t css done e

whole-from : (t : ℕ) (css : List (List ℕ)) (done : List ℕ) → AreModules css → NeverBack css → missing (length css) (holds done) ≤ t → HasEach css (order_from t css done)
whole-from zero css done modules never left k lt = missing-none (length css) k (holds done) lt (omega (arith, left))
whole-from (suc t) css done modules never left k lt =
    go (first_ready 0 css done) refl (λ d l. whole-from t css d modules never l k lt)
  where
    go : (o : Option ℕ) → first_ready 0 css done ≡ o → ((d : List ℕ) → missing (length css) (holds d) ≤ t → holds (order_from t css d) k ≡ true) → holds (order_from t css (with_next o done)) k ≡ true
    go None e ih =
        subst (λ d. holds d k ≡ true) (sym (order-stays t css done e)) (all_there css done modules never e k lt)
    go (Some m) e ih =
        let r = first-ready 0 m css done e in
        let is : m < length css = omega (arith, r.1, r.2) in
        let new : holds done m ≡ false = not-true (holds done m) (and_parts (not (holds done m)) (list_all (λ c. holds done c) (get_or css r.0 [])) r.3).0 in
        ih (done ++ m ∷ [])
        (omega (arith, left, missing-less (length css) m (holds done) (holds (done ++ m ∷ [])) (λ j q. holds-more done m j q) is new (holds-last done m)))

pub whole : (css : List (List ℕ)) → AreModules css → NeverBack css → HasEach css (order_of css)
whole css modules never = whole-from (length css) css [] modules never (missing-le (length css))
