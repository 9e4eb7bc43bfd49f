-- Copies are combined in any order.
use Rattle.std.proofs.Common.{◌≡◌, ℕ, zero, suc, ◌<◌, ◌≤◌, ◌%◌, ◌⊎◌, inl, inr, ⊎_elim, List, [], ◌∷◌, ◌++◌, length, Some, None, Bool, true, false, ◌||◌, ℤ, refl, sym, ap, ◌∙◌, subst, arith, nat_eq, true≢false}
use Rattle.std.specs.Prelude.{if◌then◌else◌}
use Rattle.std.proofs.lemmas.Bool.Decides.{eqb_tells}
use Rattle.f77_ast.specs.Store.{Tag, Int, Log, same_tag, Content, Store, content}
use Rattle.f77_ast.specs.Runs.{Ran, store_of}
use Rattle.f77_ast.specs.Plans.{Flow}
use Rattle.f77_meaning.specs.Processes.{writes}
use Rattle.laws_interleavings.specs.Reductions.{ReduceOp, Sum, Max, Min, And, Or, tag_of, joined, Accumulator, operator_at, Copy, copy_of, copies_in, copy_at, other_copies, AllCombined, CopiesLeft, with_copy, combined}
use Rattle.laws_interleavings.specs.ReducedLoops.{AreDistinct}
use Rattle.laws_interleavings.proofs.Stores.{put_other}
use Rattle.laws_interleavings.proofs.Joined.{accumulated, joined_turned}
use Rattle.laws_interleavings.proofs.Riding.{Gained, some_amount, apart, differ}
use Rattle.fx_lists.proofs.Booleans.{or_swap as or_turned}
use Rattle.f77_ast.proofs.Shared.{put_same}
use Rattle.fx_lists.proofs.Numbers.{eq_refl}
use Rattle.fx_lists.proofs.Options.{some_is as some_operator}

-- the numbers of the copies of a unit
abbrev pub numbers_of : ℕ → List Copy → List ℤ
numbers_of v [] = []
numbers_of v (c ∷ cs) = if nat_eq v c.of_unit then c.number ∷ numbers_of v cs else numbers_of v cs

pub numbers_append : (v : ℕ) (cs ds : List Copy) → numbers_of v (cs ++ ds) ≡ numbers_of v cs ++ numbers_of v ds
numbers_append v [] ds = refl
numbers_append v (c ∷ cs) ds = go (numbers_append v cs ds) (nat_eq v c.of_unit)
  where
    go : numbers_of v (cs ++ ds) ≡ numbers_of v cs ++ numbers_of v ds → (b : Bool) → (if b then c.number ∷ numbers_of v (cs ++ ds) else numbers_of v (cs ++ ds)) ≡ (if b then c.number ∷ numbers_of v cs else numbers_of v cs) ++ numbers_of v ds
    go e true = ap (λ l. c.number ∷ l) e
    go e false = e

-- each is a copy of a reduction variable
abbrev pub AreOf : List Accumulator → List Copy → Type 0
AreOf as' [] = Unit {0}
AreOf as' (c ∷ cs) = (operator_at as' c.of_unit ≡ Some c.op) × AreOf as' cs

pub are_append : (as' : List Accumulator) (cs ds : List Copy) → AreOf as' cs → AreOf as' ds → AreOf as' (cs ++ ds)
are_append as' [] ds a b = b
are_append as' (c ∷ cs) ds a b = (a.0, are_append as' cs ds a.1 b)

-- the number with a copy, if that is of the unit
abbrev with_number : ReduceOp → ℕ → Copy → ℤ → ℤ
with_number o v x m = if nat_eq v x.of_unit then joined o m x.number else m

numbers_first : (o : ReduceOp) (v : ℕ) (c : Copy) (cs : List Copy) (m : ℤ) → accumulated o m (numbers_of v (c ∷ cs)) ≡ accumulated o (with_number o v c m) (numbers_of v cs)
numbers_first o v c cs m = go (nat_eq v c.of_unit)
  where
    go : (b : Bool) → accumulated o m (if b then c.number ∷ numbers_of v cs else numbers_of v cs) ≡ accumulated o (if b then joined o m c.number else m) (numbers_of v cs)
    go true = refl
    go false = refl

with_turned : (o : ReduceOp) (v : ℕ) (x y : Copy) (m : ℤ) → with_number o v x (with_number o v y m) ≡ with_number o v y (with_number o v x m)
with_turned o v x y m = go (nat_eq v x.of_unit) (nat_eq v y.of_unit)
  where
    go : (a b : Bool) → (if a then joined o (if b then joined o m y.number else m) x.number else (if b then joined o m y.number else m)) ≡ (if b then joined o (if a then joined o m x.number else m) y.number else (if a then joined o m x.number else m))
    go true true = joined_turned o m y.number x.number
    go true false = refl
    go false true = refl
    go false false = refl

-- one copy, whichever, and then the others
taken : (o : ReduceOp) (v k : ℕ) (c : Copy) (cs : List Copy) (m : ℤ) → accumulated o m (numbers_of v (c ∷ cs)) ≡ accumulated o (with_number o v (copy_at k c cs) m) (numbers_of v (other_copies k c cs))
taken o v zero c cs m = numbers_first o v c cs m
taken o v (suc k) c [] m = numbers_first o v c [] m
taken o v (suc k) c (x ∷ xs) m =
    numbers_first o v c (x ∷ xs) m
    ∙ taken o v k x xs (with_number o v c m)
    ∙ ap (λ n. accumulated o n (numbers_of v (other_copies k x xs))) (with_turned o v (copy_at k x xs) c m)
    ∙ sym (numbers_first o v c (other_copies k x xs) (with_number o v (copy_at k x xs) m))

fewer : (k : ℕ) (c : Copy) (cs : List Copy) → length (other_copies k c cs) ≡ length cs
fewer zero c cs = refl
fewer (suc k) c [] = refl
fewer (suc k) c (x ∷ xs) = ap suc (fewer k x xs)

at_of : (as' : List Accumulator) (k : ℕ) (c : Copy) (cs : List Copy) → AreOf as' (c ∷ cs) → (operator_at as' (copy_at k c cs).of_unit ≡ Some (copy_at k c cs).op) × AreOf as' (other_copies k c cs)
at_of as' zero c cs h = (h.0, h.1)
at_of as' (suc k) c [] h = (h.0, tt)
at_of as' (suc k) c (x ∷ xs) h = let q = at_of as' k x xs h.1 in (q.0, (h.0, q.1))

abbrev any_first : ℕ → Copy → List Copy → Bool
any_first v x cs = nat_eq v x.of_unit || some_amount (numbers_of v cs)

any_of : (v : ℕ) (x : Copy) (cs : List Copy) → some_amount (numbers_of v (x ∷ cs)) ≡ any_first v x cs
any_of v x cs = go (nat_eq v x.of_unit)
  where
    go : (b : Bool) → some_amount (if b then x.number ∷ numbers_of v cs else numbers_of v cs) ≡ (b || some_amount (numbers_of v cs))
    go true = refl
    go false = refl

any_taken : (v k : ℕ) (c : Copy) (cs : List Copy) → some_amount (numbers_of v (c ∷ cs)) ≡ any_first v (copy_at k c cs) (other_copies k c cs)
any_taken v zero c cs = any_of v c cs
any_taken v (suc k) c [] = any_of v c []
any_taken v (suc k) c (x ∷ xs) =
    any_of v c (x ∷ xs)
    ∙ ap (λ b. nat_eq v c.of_unit || b) (any_taken v k x xs)
    ∙ or_turned (nat_eq v c.of_unit) (nat_eq v (copy_at k x xs).of_unit) (some_amount (numbers_of v (other_copies k x xs)))
    ∙ ap (λ b. nat_eq v (copy_at k x xs).of_unit || b) (sym (any_of v c (other_copies k x xs)))

-- a reduction variable of which there are copies has a value of its type
abbrev pub HaveValues : List Accumulator → List Copy → Store → Type 0
HaveValues as' cs s = (v : ℕ) (o : ReduceOp) → operator_at as' v ≡ Some o → some_amount (numbers_of v cs) ≡ true → (s v).tag ≡ tag_of o

pub record AreCombined (as' : List Accumulator) (cs : List Copy) (s y : Store) : Type 0 where
  pub others : (x : ℕ) → operator_at as' x ≡ None → y x ≡ s x
  pub sums : (v : ℕ) (o : ReduceOp) → operator_at as' v ≡ Some o → Gained o (numbers_of v cs) (s v) (y v)

same_tags : (o : ReduceOp) (t : Tag) → t ≡ tag_of o → same_tag (tag_of o) t ≡ true
same_tags Sum t e = ap (same_tag Int) e
same_tags Max t e = ap (same_tag Int) e
same_tags Min t e = ap (same_tag Int) e
same_tags And t e = ap (same_tag Log) e
same_tags Or t e = ap (same_tag Log) e

-- contents that have joined amounts, from the number on
gained_from : (o : ReduceOp) (g : List ℤ) (n : ℤ) (c e : Content) → c ≡ content (tag_of o) n → Gained o g c e → e ≡ content (tag_of o) (accumulated o n g)
gained_from o [] n c e ec h = h ∙ ec
gained_from o (a ∷ g) n c e ec h = h.1 ∙ ap (λ y. content (tag_of o) (accumulated o y.number (a ∷ g))) ec

gained_of : (o : ReduceOp) (g : List ℤ) (c e : Content) → some_amount g ≡ true → c.tag ≡ tag_of o → e ≡ content (tag_of o) (accumulated o c.number g) → Gained o g c e
gained_of o [] c e some t h = absurd (true≢false (sym some))
gained_of o (a ∷ g) c e some t h = (t, h)

-- the combination of one copy, and then of the others
step : (as' : List Accumulator) (k : ℕ) (c : Copy) (cs : List Copy) (s y : Store) → AreOf as' (c ∷ cs) → (s (copy_at k c cs).of_unit).tag ≡ tag_of (copy_at k c cs).op → AreCombined as' (other_copies k c cs) (with_copy s (copy_at k c cs)) y → AreCombined as' (c ∷ cs) s y
step as' k c cs s y of_which tag h =
    let x = copy_at k c cs in
    let given = content (tag_of x.op) (joined x.op (s x.of_unit).number x.number) in
    let some = (at_of as' k c cs of_which).0 in
    record {
      others = λ w none. h.others w none ∙ put_other s x.of_unit given w (λ e. apart as' x.of_unit w x.op some none (sym e));
      sums = λ v o found.
          ⊎_elim
          (λ is.
          let same : x.op ≡ o = some_operator x.op o (sym some ∙ ap (operator_at as') (sym is.1) ∙ found) in
          let here : with_copy s x v ≡ content (tag_of o) (joined o (s v).number x.number) =
          ap (with_copy s x) is.1 ∙ put_same s x.of_unit given ∙ (λ i. content (tag_of (same i)) (joined (same i) (s (sym is.1 i)).number x.number)) in
          let any : some_amount (numbers_of v (c ∷ cs)) ≡ true = any_taken v k c cs ∙ ap (λ b. b || some_amount (numbers_of v (other_copies k c cs))) is.0 in
          let sum : accumulated o (s v).number (numbers_of v (c ∷ cs)) ≡ accumulated o (joined o (s v).number x.number) (numbers_of v (other_copies k c cs)) =
          taken o v k c cs (s v).number ∙ ap (λ b. accumulated o (if b then joined o (s v).number x.number else (s v).number) (numbers_of v (other_copies k c cs))) is.0 in
          gained_of o (numbers_of v (c ∷ cs)) (s v) (y v) any (ap (λ u. (s u).tag) is.1 ∙ tag ∙ ap tag_of same)
          (gained_from o (numbers_of v (other_copies k c cs)) (joined o (s v).number x.number) (with_copy s x v) (y v) here (h.sums v o found) ∙ ap (content (tag_of o)) (sym sum)))
          (λ no.
          let keep : (g : List ℤ) → some_amount g ≡ some_amount (numbers_of v (other_copies k c cs)) → accumulated o (s v).number g ≡ accumulated o (s v).number (numbers_of v (other_copies k c cs)) → Gained o (numbers_of v (other_copies k c cs)) (s v) (y v) → Gained o g (s v) (y v) = λ g a b q. carried o g (numbers_of v (other_copies k c cs)) (s v) (y v) a b q in
          keep (numbers_of v (c ∷ cs))
          (any_taken v k c cs ∙ ap (λ b. b || some_amount (numbers_of v (other_copies k c cs))) no.0)
          (taken o v k c cs (s v).number ∙ ap (λ b. accumulated o (if b then joined o (s v).number x.number else (s v).number) (numbers_of v (other_copies k c cs))) no.0)
          (subst (λ e. Gained o (numbers_of v (other_copies k c cs)) e (y v)) (put_other s x.of_unit given v no.1) (h.sums v o found)))
          (eqb_tells v x.of_unit);
    }
  where
    carried : (o : ReduceOp) (g g' : List ℤ) (c e : Content) → some_amount g ≡ some_amount g' → accumulated o c.number g ≡ accumulated o c.number g' → Gained o g' c e → Gained o g c e
    carried o [] [] c e a b q = q
    carried o [] (n ∷ ns) c e a b q = absurd (true≢false (sym a))
    carried o (m ∷ ms) [] c e a b q = absurd (true≢false a)
    carried o (m ∷ ms) (n ∷ ns) c e a b q = (q.0, q.1 ∙ ap (content (tag_of o)) (sym b))

-- what is left of the values
values_left : (as' : List Accumulator) (k : ℕ) (c : Copy) (cs : List Copy) (s : Store) → AreOf as' (c ∷ cs) → HaveValues as' (c ∷ cs) s → HaveValues as' (other_copies k c cs) (with_copy s (copy_at k c cs))
values_left as' k c cs s of_which h v o found any =
    let x = copy_at k c cs in
    let given = content (tag_of x.op) (joined x.op (s x.of_unit).number x.number) in
    let some = (at_of as' k c cs of_which).0 in
    ⊎_elim
    (λ is. ap (λ w. (with_copy s x w).tag) is.1 ∙ ap (λ e. e.tag) (put_same s x.of_unit given) ∙ ap tag_of (some_operator x.op o (sym some ∙ ap (operator_at as') (sym is.1) ∙ found)))
    (λ no. ap (λ e. e.tag) (put_other s x.of_unit given v no.1) ∙ h v o found (any_taken v k c cs ∙ ap (λ b. b || some_amount (numbers_of v (other_copies k c cs))) no.0 ∙ any))
    (eqb_tells v x.of_unit)

-- how a combination comes out: all are combined, or there were fewer picks than copies
abbrev pub Combines : List Accumulator → List ℕ → Store → List Copy → Type 0
Combines as' ps s cs =
    ((y : Store) × (combined ps s cs ≡ AllCombined y) × AreCombined as' cs s y)
    ⊎ ((y : Store) × (combined ps s cs ≡ CopiesLeft y) × (length ps < length cs))

pub combines : (as' : List Accumulator) (ps : List ℕ) (s : Store) (cs : List Copy) → AreOf as' cs → HaveValues as' cs s → Combines as' ps s cs
combines as' [] s [] of_which values = inl (s, refl, record { others = λ x none. refl; sums = λ v o found. refl })
combines as' [] s (c ∷ cs) of_which values = inr (s, refl, omega arith)
combines as' (p ∷ ps) s [] of_which values = inl (s, refl, record { others = λ x none. refl; sums = λ v o found. refl })
combines as' (p ∷ ps) s (c ∷ cs) of_which values =
    let k = p % length (c ∷ cs) in
    let x = copy_at k c cs in
    let some = at_of as' k c cs of_which in
    let tag : (s x.of_unit).tag ≡ tag_of x.op = values x.of_unit x.op some.0 (any_taken x.of_unit k c cs ∙ ap (λ b. b || some_amount (numbers_of x.of_unit (other_copies k c cs))) (eq_refl x.of_unit)) in
    let go : combined (p ∷ ps) s (c ∷ cs) ≡ combined ps (with_copy s x) (other_copies k c cs) = rw (same_tags x.op (s x.of_unit).tag tag) in
    ⊎_elim
    (λ a. inl (a.0, go ∙ a.1, step as' k c cs s a.0 of_which tag a.2))
    (λ b. inr (b.0, go ∙ b.1, let n = fewer k c cs in omega (arith, n, b.2)))
    (combines as' ps (with_copy s x) (other_copies k c cs) some.1 (values_left as' k c cs s of_which values))

-- ---- the copies of an iteration

none_of : (as' : List Accumulator) (r : Ran Flow) (v : ℕ) → operator_at as' v ≡ None → numbers_of v (copies_in as' r) ≡ []
none_of [] r v e = refl
none_of (a ∷ as') r v e = first (λ n. none_of as' r v n) (nat_eq v a.unit) refl e
  where
    some_is : Some a.op ≡ None → ⊥
    some_is q = cc

    pick : numbers_of v (copies_in as' r) ≡ [] → nat_eq v a.unit ≡ false → (b : Bool) → numbers_of v (if b then copy_of a r ∷ copies_in as' r else copies_in as' r) ≡ []
    pick h n true = rw n h
    pick h n false = h

    first : (operator_at as' v ≡ None → numbers_of v (copies_in as' r) ≡ []) → (b : Bool) → nat_eq v a.unit ≡ b → (if b then Some a.op else operator_at as' v) ≡ None → numbers_of v (if writes a.unit r.trace then copy_of a r ∷ copies_in as' r else copies_in as' r) ≡ []
    first ih true n q = absurd (some_is q)
    first ih false n q = pick (ih q) n (writes a.unit r.trace)

-- of a reduction variable there is one copy, where it was written
pub one_of : (as' : List Accumulator) (r : Ran Flow) (v : ℕ) (o : ReduceOp) → AreDistinct as' → operator_at as' v ≡ Some o → numbers_of v (copies_in as' r) ≡ (if writes v r.trace then (store_of r.memory v).number ∷ [] else [])
one_of [] r v o d e = absurd (no e)
  where
    no : None ≡ Some o → ⊥
    no e = cc
one_of (a ∷ as') r v o d e = ⊎_elim (λ q. mine q.1 (none_of as' r v (ap (operator_at as') q.1 ∙ d.0)) (writes a.unit r.trace) refl) (λ q. other q.0 (one_of as' r v o d.1 (sym (ap (λ b. if b then Some a.op else operator_at as' v) q.0) ∙ e)) (writes a.unit r.trace)) (eqb_tells v a.unit)
  where
    mine : v ≡ a.unit → numbers_of v (copies_in as' r) ≡ [] → (b : Bool) → writes a.unit r.trace ≡ b → numbers_of v (if b then copy_of a r ∷ copies_in as' r else copies_in as' r) ≡ (if writes v r.trace then (store_of r.memory v).number ∷ [] else [])
    mine q h true w =
        ap (λ b. if b then (store_of r.memory a.unit).number ∷ numbers_of v (copies_in as' r) else numbers_of v (copies_in as' r)) (ap (λ u. nat_eq u a.unit) q ∙ eq_refl a.unit)
        ∙ ap (λ l. (store_of r.memory a.unit).number ∷ l) h
        ∙ ap (λ u. (store_of r.memory u).number ∷ []) (sym q)
        ∙ ap (λ b. if b then (store_of r.memory v).number ∷ [] else []) (sym w ∙ ap (λ u. writes u r.trace) (sym q))
    mine q h false w = h ∙ ap (λ b. if b then (store_of r.memory v).number ∷ [] else []) (sym w ∙ ap (λ u. writes u r.trace) (sym q))

    other : nat_eq v a.unit ≡ false → numbers_of v (copies_in as' r) ≡ (if writes v r.trace then (store_of r.memory v).number ∷ [] else []) → (b : Bool) → numbers_of v (if b then copy_of a r ∷ copies_in as' r else copies_in as' r) ≡ (if writes v r.trace then (store_of r.memory v).number ∷ [] else [])
    other n h true = rw n h
    other n h false = h

found_later : (a : Accumulator) (as' : List Accumulator) (u : ℕ) (o : ReduceOp) → operator_at as' a.unit ≡ None → operator_at as' u ≡ Some o → operator_at (a ∷ as') u ≡ Some o
found_later a as' u o none some = ap (λ b. if b then Some a.op else operator_at as' u) (differ u a.unit (apart as' u a.unit o some none)) ∙ some

are_later : (a : Accumulator) (as' : List Accumulator) (cs : List Copy) → operator_at as' a.unit ≡ None → AreOf as' cs → AreOf (a ∷ as') cs
are_later a as' [] none h = tt
are_later a as' (c ∷ cs) none h = (found_later a as' c.of_unit c.op none h.0, are_later a as' cs none h.1)

pub are_copies : (as' : List Accumulator) (r : Ran Flow) → AreDistinct as' → AreOf as' (copies_in as' r)
are_copies [] r d = tt
are_copies (a ∷ as') r d = go (are_later a as' (copies_in as' r) d.0 (are_copies as' r d.1)) (writes a.unit r.trace)
  where
    go : AreOf (a ∷ as') (copies_in as' r) → (b : Bool) → AreOf (a ∷ as') (if b then copy_of a r ∷ copies_in as' r else copies_in as' r)
    go h true = (ap (λ b. if b then Some a.op else operator_at as' a.unit) (eq_refl a.unit), h)
    go h false = h

pub few_copies : (as' : List Accumulator) (r : Ran Flow) → length (copies_in as' r) ≤ length as'
few_copies [] r = omega arith
few_copies (a ∷ as') r = go (few_copies as' r) (writes a.unit r.trace)
  where
    go : length (copies_in as' r) ≤ length as' → (b : Bool) → length (if b then copy_of a r ∷ copies_in as' r else copies_in as' r) ≤ length (a ∷ as')
    go h true = omega arith
    go h false = omega arith
