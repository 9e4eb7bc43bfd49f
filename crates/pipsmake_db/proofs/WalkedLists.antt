-- Walks one after another: what was walked before is left out.
use Rattle.std.proofs.Common.{◌≡◌, ◌≤◌, ◌⊎◌, inl, inr, ℕ, zero, suc, Bool, true, false, ◌||◌, List, [], ◌∷◌, ◌++◌, length, drop, refl, sym, ap, ◌∙◌, subst, append_assoc, append-nil, length-append, arith}
use Rattle.std.specs.Prelude.{fold, if◌then◌else◌}
use Rattle.std.specs.List.{list_all}
use Rattle.std.proofs.lemmas.Bool.{and_parts, and_from, or_left, or_right, or_cases}
use Rattle.std.proofs.lemmas.List.Folds.{list_any-append}
use Rattle.call_graph.specs.declared.graph.Graph.{Graph}
use Rattle.session_texts.specs.pipsmake_rules.declared.key.Key.{Key}
use Rattle.session_texts.specs.pipsmake_rules.Keys.{same_key, holds}
use Rattle.session_texts.specs.pipsmake_rules.Needs.{needs_of}
use Rattle.session_texts.specs.pipsmake_rules.Walk.{walk_from}
use Rattle.session_texts.specs.pipsmake_rules.Laws.{StandBehindNeeds}
use Rattle.session_texts.proofs.PipsmakeRules.KeyLaws.{same_key-true}
use Rattle.session_texts.proofs.PipsmakeRules.StepLaws.{walk_there}
use Rattle.fx_lists.proofs.Booleans.{no_both as clash}
use Rattle.session_texts.proofs.PipsmakeRules.WalkLaws.{no_empty}

pub front_holds : (xs ys : List Key) (k : Key) → holds xs k ≡ true → holds (xs ++ ys) k ≡ true
front_holds xs ys k e = list_any-append (λ j. same_key j k) xs ys ∙ or_left (holds xs k) (holds ys k) e

pub both_hold : (xs ys : List Key) (k : Key) → holds (xs ++ ys) k ≡ true → (holds xs k ≡ true) ⊎ (holds ys k ≡ true)
both_hold xs ys k e = or_cases (holds xs k) (holds ys k) (sym (list_any-append (λ j. same_key j k) xs ys) ∙ e)

all_alike : (p q : Key → Bool) → ((n : Key) → p n ≡ true → q n ≡ true) → (ns : List Key) → list_all p ns ≡ true → list_all q ns ≡ true
all_alike p q f [] e = refl
all_alike p q f (n ∷ ns) e = let h = and_parts (p n) (list_all p ns) e in and_from (q n) (list_all q ns) (f n h.0) (all_alike p q f ns h.1)

pub drop_front : (l xs : List Key) → drop (length l) (l ++ xs) ≡ xs
drop_front [] xs = refl
drop_front (k ∷ l) xs = drop_front l xs

-- ---- those that are not in a list

abbrev pub new_of : List Key → List Key → List Key
new_of l [] = []
new_of l (k ∷ ks) = if holds l k then new_of l ks else k ∷ new_of l ks

new_of-append : (l xs ys : List Key) → new_of l (xs ++ ys) ≡ new_of l xs ++ new_of l ys
new_of-append l [] ys = refl
new_of-append l (x ∷ xs) ys = go (holds l x) (new_of-append l xs ys)
  where
    go : (b : Bool) → new_of l (xs ++ ys) ≡ new_of l xs ++ new_of l ys → (if b then new_of l (xs ++ ys) else x ∷ new_of l (xs ++ ys)) ≡ (if b then new_of l xs else x ∷ new_of l xs) ++ new_of l ys
    go true ih = ih
    go false ih = ap (λ ks. x ∷ ks) ih

new_old : (l xs : List Key) (k : Key) → holds l k ≡ true → new_of l (xs ++ k ∷ []) ≡ new_of l xs
new_old l xs k e = new_of-append l xs (k ∷ []) ∙ ap (λ b. new_of l xs ++ (if b then [] else k ∷ [])) e ∙ append-nil (new_of l xs)

new_new : (l xs : List Key) (k : Key) → holds l k ≡ false → new_of l (xs ++ k ∷ []) ≡ new_of l xs ++ k ∷ []
new_new l xs k e = new_of-append l xs (k ∷ []) ∙ ap (λ b. new_of l xs ++ (if b then [] else k ∷ [])) e

new_holds : (l ks : List Key) (k : Key) → holds l k ≡ false → holds (new_of l ks) k ≡ holds ks k
new_holds l [] k e = refl
new_holds l (j ∷ js) k e = go (holds l j) refl (new_holds l js k e)
  where
    other : (c : Bool) → same_key j k ≡ c → holds l j ≡ true → holds (new_of l js) k ≡ holds js k → holds (new_of l js) k ≡ (c || holds js k)
    other true s q ih = absurd (clash (holds l k) (subst (λ i. holds l i ≡ true) (same_key-true j k s) q) e)
    other false s q ih = ih

    go : (b : Bool) → holds l j ≡ b → holds (new_of l js) k ≡ holds js k → holds (if b then new_of l js else j ∷ new_of l js) k ≡ (same_key j k || holds js k)
    go true q ih = other (same_key j k) refl q ih
    go false q ih = ap (λ b. same_key j k || b) ih

pub new_there : (l ks : List Key) (k : Key) → holds (new_of l ks) k ≡ true → holds ks k ≡ true
new_there l [] k e = e
new_there l (j ∷ js) k e = go (holds l j) e (new_there l js k)
  where
    go : (b : Bool) → holds (if b then new_of l js else j ∷ new_of l js) k ≡ true → (holds (new_of l js) k ≡ true → holds js k ≡ true) → (same_key j k || holds js k) ≡ true
    go true h ih = or_right (same_key j k) (holds js k) (ih h)
    go false h ih =
        elim (or_cases (same_key j k) (holds (new_of l js) k) h) [
          | inl s ↦ or_left (same_key j k) (holds js k) s
          | inr r ↦ or_right (same_key j k) (holds js k) (ih r)
        ]

with_new : (l ks : List Key) (k : Key) → holds l k ≡ false → holds (l ++ new_of l ks) k ≡ holds ks k
with_new l ks k e = list_any-append (λ j. same_key j k) l (new_of l ks) ∙ ap (λ b. b || holds (new_of l ks) k) e ∙ new_holds l ks k e

pub still_holds : (l ks : List Key) (k : Key) → holds ks k ≡ true → holds (l ++ new_of l ks) k ≡ true
still_holds l ks k e = go (holds l k) refl
  where
    go : (b : Bool) → holds l k ≡ b → holds (l ++ new_of l ks) k ≡ true
    go true q = front_holds l (new_of l ks) k q
    go false q = with_new l ks k q ∙ e

-- ---- places

-- where a result of two lists stands
abbrev InFirst : List Key → List Key → Key → Type 0
InFirst l before k = (rest : List Key) × (l ≡ before ++ k ∷ rest)

abbrev InSecond : List Key → List Key → List Key → Key → List Key → Type 0
InSecond l xs before k after = (mid : List Key) × (before ≡ l ++ mid) × (xs ≡ mid ++ k ∷ after)

split_at : (l xs before : List Key) (k : Key) (after : List Key) → l ++ xs ≡ before ++ k ∷ after → InFirst l before k ⊎ InSecond l xs before k after
split_at [] xs before k after e = inr (before, refl, e)
split_at (j ∷ l) xs [] k after e = let s : j ≡ k = cc in inl (l, ap (λ i. i ∷ l) s)
split_at (j ∷ l) xs (b ∷ bs) k after e =
    let s : j ≡ b = cc in
    let t : l ++ xs ≡ bs ++ k ∷ after = cc in
    elim (split_at l xs bs k after t) [
      | inl w ↦ inl (w.0, λ i. s i ∷ w.1 i)
      | inr w ↦ inr (w.0, (λ i. sym s i ∷ w.1 i), w.2)
    ]

-- where a new one stood
record Stood (l ks mid : List Key) (k : Key) : Type 0 where
  before : List Key
  after : List Key
  is : ks ≡ before ++ k ∷ after
  new : new_of l before ≡ mid
  out : holds l k ≡ false

abbrev front : List Key → Key → Bool → List Key → List Key
front l j b before = if b then new_of l before else j ∷ new_of l before

stood : (l ks mid : List Key) (k : Key) (after : List Key) → new_of l ks ≡ mid ++ k ∷ after → Stood l ks mid k
stood l [] mid k after e = absurd (no_empty mid k after e)
stood l (j ∷ js) mid k after e = go (holds l j) refl mid e (λ m f. stood l js m k after f)
  where
    go : (b : Bool) → holds l j ≡ b → (m : List Key) → (if b then new_of l js else j ∷ new_of l js) ≡ m ++ k ∷ after → ((n : List Key) → new_of l js ≡ n ++ k ∷ after → Stood l js n k) → Stood l (j ∷ js) m k
    go true q m f ih = let r = ih m f in record { before = j ∷ r.before; after = r.after; is = ap (λ ks. j ∷ ks) r.is; new = ap (λ b. front l j b r.before) q ∙ r.new; out = r.out }
    go false q [] f ih = let s : j ≡ k = cc in record { before = []; after = js; is = ap (λ i. i ∷ js) s; new = refl; out = subst (λ i. holds l i ≡ false) s q }
    go false q (n ∷ ns) f ih =
        let s : j ≡ n = cc in
        let t : new_of l js ≡ ns ++ k ∷ after = cc in
        let r = ih ns t in
        record { before = j ∷ r.before; after = r.after; is = ap (λ ks. j ∷ ks) r.is; new = ap (λ b. front l j b r.before) q ∙ (λ i. s i ∷ r.new i); out = r.out }

record HasPlace (ks : List Key) (k : Key) : Type 0 where
  before : List Key
  after : List Key
  is : ks ≡ before ++ k ∷ after

placed : (ks : List Key) (k : Key) → holds ks k ≡ true → HasPlace ks k
placed [] k e = cc
placed (j ∷ js) k e = go (same_key j k) refl e (placed js k)
  where
    go : (b : Bool) → same_key j k ≡ b → (b || holds js k) ≡ true → (holds js k ≡ true → HasPlace js k) → HasPlace (j ∷ js) k
    go true s f later = let same : j ≡ k = same_key-true j k s in record { before = []; after = js; is = ap (λ i. i ∷ js) same }
    go false s f later = let p = later f in record { before = j ∷ p.before; after = p.after; is = ap (λ is. j ∷ is) p.is }

-- ---- walks

module _ (names : List (List ℕ)) (g : Graph) where
  abbrev runs : ℕ → List Key → List Key → List Key
  runs t done ns = fold (λ d n. walk_from t names g d n) done ns

  longer_run : (t : ℕ) → ((done : List Key) (k : Key) → length done ≤ length (walk_from t names g done k)) → (ns done : List Key) → length done ≤ length (runs t done ns)
  longer_run t walks [] done = omega arith
  longer_run t walks (n ∷ ns) done = omega (arith, walks done n, longer_run t walks ns (walk_from t names g done n))

  -- a walk only adds
  pub longer : (t : ℕ) (done : List Key) (k : Key) → length done ≤ length (walk_from t names g done k)
  longer zero done k = omega arith
  longer (suc t) done k = go (holds done k) (longer_run t (longer t) (needs_of names g k) done)
    where
      go : (b : Bool) → length done ≤ length (runs t done (needs_of names g k)) → length done ≤ length (if b then done else runs t done (needs_of names g k) ++ k ∷ [])
      go true h = omega arith
      go false h = omega (arith, h, length-append (runs t done (needs_of names g k)) (k ∷ []))

module _ (names : List (List ℕ)) (g : Graph) (l : List Key) (stand : StandBehindNeeds names g l) where
  -- all that a result of the list needs is there
  closed : (k : Key) → holds l k ≡ true → list_all (λ n. holds l n) (needs_of names g k) ≡ true
  closed k e =
      let p = placed l k e in
      all_alike (λ n. holds p.before n) (λ n. holds l n) (λ n h. subst (λ ks. holds ks n ≡ true) (sym p.is) (front_holds p.before (k ∷ p.after) n h)) (needs_of names g k) (stand p.before k p.after p.is).1

  abbrev run : ℕ → List Key → List Key → List Key
  run t done ns = fold (λ d n. walk_from t names g d n) done ns

  old_run : (t : ℕ) → ((done : List Key) (k : Key) → holds l k ≡ true → new_of l (walk_from t names g done k) ≡ new_of l done) → (ns done : List Key) → list_all (λ n. holds l n) ns ≡ true → new_of l (run t done ns) ≡ new_of l done
  old_run t walks [] done e = refl
  old_run t walks (n ∷ ns) done e = let p = and_parts (holds l n) (list_all (λ m. holds l m) ns) e in old_run t walks ns (walk_from t names g done n) p.1 ∙ walks done n p.0

  -- a walk from a result of the list adds none that is new
  old_walk : (t : ℕ) (done : List Key) (k : Key) → holds l k ≡ true → new_of l (walk_from t names g done k) ≡ new_of l done
  old_walk zero done k e = refl
  old_walk (suc t) done k e = go (holds done k) (new_old l (run t done (needs_of names g k)) k e ∙ old_run t (old_walk t) (needs_of names g k) done (closed k e))
    where
      go : (b : Bool) → new_of l (run t done (needs_of names g k) ++ k ∷ []) ≡ new_of l done → new_of l (if b then done else run t done (needs_of names g k) ++ k ∷ []) ≡ new_of l done
      go true h = refl
      go false h = h

  onward_run : (t : ℕ) → ((done : List Key) (k : Key) → walk_from t names g (l ++ new_of l done) k ≡ l ++ new_of l (walk_from t names g done k)) → (ns done : List Key) → run t (l ++ new_of l done) ns ≡ l ++ new_of l (run t done ns)
  onward_run t walks [] done = refl
  onward_run t walks (n ∷ ns) done = ap (λ d. run t d ns) (walks done n) ∙ onward_run t walks ns (walk_from t names g done n)

  onward : (t : ℕ) (done : List Key) (k : Key) → walk_from t names g (l ++ new_of l done) k ≡ l ++ new_of l (walk_from t names g done k)
  onward zero done k = refl
  onward (suc t) done k = go (holds l k) refl (onward_run t (onward t) (needs_of names g k) done)
    where
      both : (b : Bool) → holds l k ≡ false → run t (l ++ new_of l done) (needs_of names g k) ≡ l ++ new_of l (run t done (needs_of names g k))
          → (if b then l ++ new_of l done else run t (l ++ new_of l done) (needs_of names g k) ++ k ∷ []) ≡ l ++ new_of l (if b then done else run t done (needs_of names g k) ++ k ∷ [])
      both true e h = refl
      both false e h =
          ap (λ d. d ++ k ∷ []) h ∙ append_assoc l (new_of l (run t done (needs_of names g k))) (k ∷ [])
          ∙ ap (λ d. l ++ d) (sym (new_new l (run t done (needs_of names g k)) k e))

      go : (b : Bool) → holds l k ≡ b → run t (l ++ new_of l done) (needs_of names g k) ≡ l ++ new_of l (run t done (needs_of names g k)) → walk_from (suc t) names g (l ++ new_of l done) k ≡ l ++ new_of l (walk_from (suc t) names g done k)
      go true e h = walk_there (suc t) names g (l ++ new_of l done) k (front_holds l (new_of l done) k e) ∙ ap (λ d. l ++ d) (sym (old_walk (suc t) done k e))
      go false e h =
          ap (λ b. if b then l ++ new_of l done else run t (l ++ new_of l done) (needs_of names g k) ++ k ∷ []) (with_new l done k e) ∙ both (holds done k) e h

  -- a walk that goes on adds what is new
  pub goes_on : (t : ℕ) (k : Key) → walk_from t names g l k ≡ l ++ new_of l (walk_from t names g [] k)
  goes_on t k = ap (λ d. walk_from t names g d k) (sym (append-nil l)) ∙ onward t [] k

  pub added_are : (t : ℕ) (k : Key) → drop (length l) (walk_from t names g l k) ≡ new_of l (walk_from t names g [] k)
  added_are t k = ap (drop (length l)) (goes_on t k) ∙ drop_front l (new_of l (walk_from t names g [] k))

  -- each still stands behind its needs
  pub stand_on : (ks : List Key) → StandBehindNeeds names g ks → StandBehindNeeds names g (l ++ new_of l ks)
  stand_on ks stands before k after e =
      elim (split_at l (new_of l ks) before k after e) [
        | inl w ↦ stand before k w.0 w.1
        | inr w ↦ second w.0 w.1 (stood l ks w.0 k after w.2)
      ]
    where
      second : (mid : List Key) → before ≡ l ++ mid → Stood l ks mid k → (holds before k ≡ false) × (list_all (λ n. holds before n) (needs_of names g k) ≡ true)
      second mid is s =
          let at = stands s.before k s.after s.is in
          let whole : before ≡ l ++ new_of l s.before = is ∙ ap (λ m. l ++ m) (sym s.new) in
          subst (λ bs. (holds bs k ≡ false) × (list_all (λ n. holds bs n) (needs_of names g k) ≡ true)) (sym whole)
          (with_new l s.before k s.out ∙ at.0, all_alike (λ n. holds s.before n) (λ n. holds (l ++ new_of l s.before) n) (λ n h. still_holds l s.before n h) (needs_of names g k) at.1)
