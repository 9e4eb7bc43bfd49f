-- The places of modules in their order: what is called has a lower one.
use Rattle.std.proofs.Common.{◌≡◌, ℕ, zero, suc, ◌+◌, ◌<◌, ◌≤◌, Bool, true, false, List, [], ◌∷◌, ◌++◌, length, Option, Some, None, refl, sym, ap, ◌∙◌, subst, arith, length-append}
use Rattle.std.specs.Prelude.{if◌then◌else◌, nat_eq, ◌&&◌, ◌||◌}
use Rattle.std.specs.List.{list_any, list_all}
use Rattle.std.proofs.lemmas.Bool.{and_parts, eqb-true, eq-eqb}
use Rattle.call_graph.specs.Recursion.{callees_at}
use Rattle.call_graph.specs.Order.{holds, first_ready, with_next, order_from, order_of}
use Rattle.call_graph.specs.Laws.{IsBottomUp}

-- the place of a number, from 0
abbrev pub rank : List ℕ → ℕ → ℕ
rank [] k = 0
rank (x ∷ xs) k = if nat_eq x k then 0 else suc (rank xs k)

-- an order, split at one of its numbers
pub record Split (order : List ℕ) (k : ℕ) : Type 0 where
  pub before : List ℕ
  pub after : List ℕ
  pub parts : order ≡ before ++ k ∷ after
  pub is_rank : rank order k ≡ length before

pub split : (order : List ℕ) (k : ℕ) → holds order k ≡ true → Split order k
split [] k h = cc
split (x ∷ xs) k h = go (nat_eq x k) refl h (split xs k)
  where
    go : (b : Bool) → nat_eq x k ≡ b → (b || holds xs k) ≡ true → (holds xs k ≡ true → Split xs k) → Split (x ∷ xs) k
    go true e i ih =
        let same = eqb-true x k e in
        record { before = []; after = xs; parts = ap (λ z. z ∷ xs) same; is_rank = ap (λ c. if c then 0 else suc (rank xs k)) e }
    go false e i ih =
        let r = ih i in
        record { before = x ∷ r.before; after = r.after; parts = ap (λ z. x ∷ z) r.parts; is_rank = ap (λ c. if c then 0 else suc (rank xs k)) e ∙ ap suc r.is_rank }

rank_in : (before rest : List ℕ) (c : ℕ) → holds before c ≡ true → rank (before ++ rest) c < length before
rank_in [] rest c h = cc
rank_in (x ∷ xs) rest c h = go (nat_eq x c) h (rank_in xs rest c)
  where
    go : (b : Bool) → (b || holds xs c) ≡ true → (holds xs c ≡ true → rank (xs ++ rest) c < length xs) → (if b then 0 else suc (rank (xs ++ rest) c)) < suc (length xs)
    go true i ih = omega arith
    go false i ih = let less = ih i in omega (arith, less)

pub all_hold : (f : ℕ → Bool) (cs : List ℕ) (c : ℕ) → list_all f cs ≡ true → holds cs c ≡ true → f c ≡ true
all_hold f [] c a h = cc
all_hold f (x ∷ xs) c a h = go (nat_eq x c) refl h (all_hold f xs c (and_parts (f x) (list_all f xs) a).1)
  where
    go : (b : Bool) → nat_eq x c ≡ b → (b || holds xs c) ≡ true → (holds xs c ≡ true → f c ≡ true) → f c ≡ true
    go true e i ih = ap f (sym (eqb-true x c e)) ∙ (and_parts (f x) (list_all f xs) a).0
    go false e i ih = ih i

-- what a module calls stands before it
pub rank_falls : (css : List (List ℕ)) (order : List ℕ) (k c : ℕ) → IsBottomUp css order → holds order k ≡ true → holds (callees_at css k) c ≡ true → rank order c < rank order k
rank_falls css order k c up h called =
    let s = split order k h in
    let there = all_hold (λ d. holds s.before d) (callees_at css k) c (up s.before k s.after s.parts).1 called in
    let low = rank_in s.before (k ∷ s.after) c there in
    let same : rank order c ≡ rank (s.before ++ k ∷ s.after) c = ap (λ z. rank z c) s.parts in
    omega (arith, low, same, s.is_rank)

-- ---- no more places than modules

next_length : (o : Option ℕ) (done : List ℕ) → length (with_next o done) ≤ suc (length done)
next_length None done = omega arith
next_length (Some k) done = omega (arith, length-append done (k ∷ []))

order_length : (t : ℕ) (css : List (List ℕ)) (done : List ℕ) → length (order_from t css done) ≤ length done + t
order_length zero css done = omega arith
order_length (suc t) css done =
    let more = order_length t css (with_next (first_ready 0 css done) done) in
    let one = next_length (first_ready 0 css done) done in
    omega (arith, more, one)

pub rank_below : (css : List (List ℕ)) (k : ℕ) → holds (order_of css) k ≡ true → rank (order_of css) k < length css
rank_below css k h =
    let s = split (order_of css) k h in
    let all = order_length (length css) css [] in
    let long : length (order_of css) ≡ length s.before + suc (length s.after) = ap length s.parts ∙ length-append s.before (k ∷ s.after) in
    omega (arith, all, long, s.is_rank)
