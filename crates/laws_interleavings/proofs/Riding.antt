-- A computation that rides on another: both end alike, and join the same amounts to each reduction variable.
use Rattle.std.proofs.Common.{◌≡◌, ◌≢◌, ℕ, ◌⊎◌, inl, inr, ⊎_elim, List, [], ◌∷◌, ◌++◌, Option, Some, None, Bool, true, false, not, ◌&&◌, ◌||◌, ℤ, refl, sym, ap, ap₂, ◌∙◌, subst, arith, nat_eq, true≢false}
use Rattle.std.specs.Prelude.{if◌then◌else◌, is_some, MatchOption}
use Rattle.std.proofs.lemmas.Bool.Decides.{eqb_tells, nat_tests}
use Rattle.f77_ast.specs.Store.{Tag, Int, Log, Undefined, same_tag, Content, Store, content, put, undefined}
use Rattle.f77_ast.specs.Steps.{Steps, Done, Breaks, Look, Set, Hold, Forget, Show, Take, Arrive}
use Rattle.f77_ast.specs.Runs.{Event, Read, Wrote, Answer, Gave, Broke, store_of}
use Rattle.f77_ast.specs.Plans.{Flow}
use Rattle.f77_meaning.specs.Accesses.{is_read_first}
use Rattle.f77_meaning.specs.Processes.{shared, writes}
use Rattle.laws_interleavings.specs.Iterations.{on_store, OwnFirst, with_unit, without_unit}
use Rattle.laws_interleavings.specs.Faults.{StepsFault}
use Rattle.laws_interleavings.specs.Reductions.{ReduceOp, tag_of, joined, Accumulator, operator_at, is_accumulator}
use Rattle.laws_interleavings.specs.Rides.{Phase, Outside, Inside, Rides}
use Rattle.laws_interleavings.proofs.Stores.{put_other}
use Rattle.laws_interleavings.proofs.Joined.{accumulated}
use Rattle.fx_lists.proofs.Numbers.{eq_refl, swapped}
use Rattle.fx_lists.proofs.Booleans.{or_false as or_false_right, or_true as or_true_right}
use Rattle.f77_ast.proofs.Shared.{put_same}
use Rattle.fx_lists.proofs.Options.{some_is}

abbrev pub at_end : Steps Flow → Store → Store
at_end t s = store_of (on_store t s).memory

abbrev pub trace_of : Steps Flow → Store → List Event
trace_of t s = (on_store t s).trace

-- these amounts are joined to the contents of a unit
abbrev pub Gained : ReduceOp → List ℤ → Content → Content → Type 0
Gained o [] c e = e ≡ c
Gained o (a ∷ as') c e = (c.tag ≡ tag_of o) × (e ≡ content (tag_of o) (accumulated o c.number (a ∷ as')))

abbrev pub some_amount : List ℤ → Bool
some_amount [] = false
some_amount (a ∷ as') = true

-- of one reduction variable, in two runs: what its unit has first and in the end, and the events; and whether an accumulation of it is begun already
pub record Sums (o : ReduceOp) (g : List ℤ) (v : ℕ) (begun : Bool) (c c' : Content) (es : List Event) (e e' : Content) (fs : List Event) : Type 0 where
  pub first : Gained o g c c'
  pub second : Gained o g e e'
  pub wrote : writes v es ≡ some_amount g
  pub copied : writes v fs ≡ some_amount g
  pub reads : begun ≡ false → (rest : List Event) → is_read_first v (es ++ rest) ≡ (some_amount g || is_read_first v rest)
  pub ends : begun ≡ true → some_amount g ≡ true

-- outside reduction variables the stores are the same
abbrev pub Off : List Accumulator → Store → Store → Type 0
Off as' s z = (x : ℕ) → operator_at as' x ≡ None → s x ≡ z x

-- each reduction variable has a value of its type
abbrev pub AreTyped : List Accumulator → Store → Type 0
AreTyped as' z = (v : ℕ) (o : ReduceOp) → operator_at as' v ≡ Some o → (z v).tag ≡ tag_of o

abbrev pub Held : List Accumulator → Phase → Store → Store → Type 0
Held as' Outside s z = Unit {0}
Held as' (Inside v o m n) s z = (operator_at as' v ≡ Some o) × (s v ≡ content (tag_of o) m) × (z v ≡ content (tag_of o) n)

abbrev pub is_begun : Phase → ℕ → Bool
is_begun Outside x = false
is_begun (Inside v o m n) x = nat_eq x v

-- what is known of the first, and the reduction variables, are known of the second
abbrev pub Covers : List Accumulator → (ℕ → Bool) → (ℕ → Bool) → Type 0
Covers as' known more = (x : ℕ) → (known x || is_accumulator as' x) ≡ true → more x ≡ true

pub record Rode (as' : List Accumulator) (phase : Phase) (t h : Steps Flow) (s z : Store) (f : Flow) : Type 0 where
  pub answer : (on_store h z).answer ≡ Gave f
  pub same : Off as' (at_end t s) (at_end h z)
  pub events : shared (is_accumulator as') (trace_of h z) ≡ shared (is_accumulator as') (trace_of t s)
  pub gains : ℕ → List ℤ
  pub sums : (v : ℕ) (o : ReduceOp) → operator_at as' v ≡ Some o → Sums o (gains v) v (is_begun phase v) (s v) (at_end t s v) (trace_of t s) (z v) (at_end h z v) (trace_of h z)
  pub own : (p known more : ℕ → Bool) → OwnFirst p t known s → Covers as' known more → OwnFirst (λ x. p x || is_accumulator as' x) h more z

-- ---- small facts

abbrev pub IsGave : Answer Flow → Type 0
IsGave (Gave f) = Unit {0}
IsGave (Broke b) = ⊥

fault_breaks : (t : Steps Flow) (s : Store) (f : Flow) → StepsFault t → (on_store t s).answer ≡ Gave f → ⊥
fault_breaks (Breaks b) s f h e = subst IsGave (sym e) tt
fault_breaks (Done a) s f h e = h
fault_breaks (Look u k) s f h e = h
fault_breaks (Set u c t) s f h e = h
fault_breaks (Hold u c t) s f h e = h
fault_breaks (Forget u t) s f h e = h
fault_breaks (Show xs t) s f h e = h
fault_breaks (Take k) s f h e = h
fault_breaks (Arrive a t) s f h e = h

same_tag_is : (a b : Tag) → same_tag a b ≡ true → b ≡ a
same_tag_is Int Int e = refl
same_tag_is Int Log e = absurd (true≢false (sym e))
same_tag_is Int Undefined e = absurd (true≢false (sym e))
same_tag_is Log Int e = absurd (true≢false (sym e))
same_tag_is Log Log e = refl
same_tag_is Log Undefined e = absurd (true≢false (sym e))
same_tag_is Undefined Int e = absurd (true≢false (sym e))
same_tag_is Undefined Log e = absurd (true≢false (sym e))
same_tag_is Undefined Undefined e = refl

pub content_is : (c : Content) (t : Tag) → c.tag ≡ t → c ≡ content t c.number
content_is c t e = ap (λ y. content y c.number) e

-- a unit that is no reduction variable is another one
pub apart : (as' : List Accumulator) (v u : ℕ) (o : ReduceOp) → operator_at as' v ≡ Some o → operator_at as' u ≡ None → v ≢ u
apart as' v u o some none e = true≢false (ap is_some (sym some ∙ ap (operator_at as') e ∙ none))

pub differ : (v u : ℕ) → v ≢ u → nat_eq v u ≡ false
differ v u n = ⊎_elim (λ e. absurd (n e.1)) (λ e. e.0) (eqb_tells v u)

pub no_accumulator : (as' : List Accumulator) (u : ℕ) → operator_at as' u ≡ None → is_accumulator as' u ≡ false
no_accumulator as' u none = ap is_some none

-- ---- events

read_events : (p : ℕ → Bool) (u : ℕ) (c d : Content) (es fs : List Event) → c ≡ d → shared p fs ≡ shared p es → shared p (Read u d ∷ fs) ≡ shared p (Read u c ∷ es)
read_events p u c d es fs e h = go (p u)
  where
    go : (b : Bool) → (if b then shared p fs else Read u d ∷ shared p fs) ≡ (if b then shared p es else Read u c ∷ shared p es)
    go true = h
    go false = ap₂ (λ k l. Read u k ∷ l) (sym e) h

write_events : (p : ℕ → Bool) (u : ℕ) (c : Content) (es fs : List Event) → shared p fs ≡ shared p es → shared p (Wrote u c ∷ fs) ≡ shared p (Wrote u c ∷ es)
write_events p u c es fs h = go (p u)
  where
    go : (b : Bool) → (if b then shared p fs else Wrote u c ∷ shared p fs) ≡ (if b then shared p es else Wrote u c ∷ shared p es)
    go true = h
    go false = ap (λ l. Wrote u c ∷ l) h

own_read : (p : ℕ → Bool) (u : ℕ) (c d : Content) (es fs : List Event) → p u ≡ true → shared p fs ≡ shared p es → shared p (Read u d ∷ fs) ≡ shared p (Read u c ∷ es)
own_read p u c d es fs e h = rw e h

own_write : (p : ℕ → Bool) (u : ℕ) (c d : Content) (es fs : List Event) → p u ≡ true → shared p fs ≡ shared p es → shared p (Wrote u d ∷ fs) ≡ shared p (Wrote u c ∷ es)
own_write p u c d es fs e h = rw e h

-- ---- steps of one reduction variable

module _ (o : ReduceOp) (g : List ℤ) (v : ℕ) (c c' : Content) (es : List Event) (e e' : Content) (fs : List Event) where
  other_read : (b : Bool) (u : ℕ) (k l : Content) → nat_eq u v ≡ false → Sums o g v b c c' es e e' fs → Sums o g v b c c' (Read u k ∷ es) e e' (Read u l ∷ fs)
  other_read b u k l n q = record {
    first = q.first;
    second = q.second;
    wrote = q.wrote;
    copied = q.copied;
    reads = λ f rest. ap (λ a. a || is_read_first v (es ++ rest)) n ∙ q.reads f rest;
    ends = q.ends;
  }

  other_write : (b : Bool) (u : ℕ) (k l : Content) → nat_eq u v ≡ false → Sums o g v b c c' es e e' fs → Sums o g v b c c' (Wrote u k ∷ es) e e' (Wrote u l ∷ fs)
  other_write b u k l n q = record {
    first = q.first;
    second = q.second;
    wrote = ap (λ a. a || writes v es) (swapped u v n) ∙ q.wrote;
    copied = ap (λ a. a || writes v fs) (swapped u v n) ∙ q.copied;
    reads = λ f rest. ap (λ a. not a && is_read_first v (es ++ rest)) n ∙ q.reads f rest;
    ends = q.ends;
  }

  -- the read that begins an accumulation of u
  begins : (u : ℕ) (k l : Content) → Sums o g v (nat_eq v u) c c' es e e' fs → Sums o g v false c c' (Read u k ∷ es) e e' (Read u l ∷ fs)
  begins u k l q = record {
    first = q.first;
    second = q.second;
    wrote = q.wrote;
    copied = q.copied;
    reads = λ f rest. go rest (eqb_tells v u);
    ends = λ f. absurd (true≢false (sym f));
  }
    where
      go : (rest : List Event) → ((nat_eq v u ≡ true) × (v ≡ u)) ⊎ ((nat_eq v u ≡ false) × (v ≢ u)) → (nat_eq u v || is_read_first v (es ++ rest)) ≡ (some_amount g || is_read_first v rest)
      go rest (inl w) =
          ap (λ a. a || is_read_first v (es ++ rest)) (subst (λ x. nat_eq x v ≡ true) w.1 (eq_refl v))
          ∙ ap (λ a. a || is_read_first v rest) (sym (q.ends w.0))
      go rest (inr w) = ap (λ a. a || is_read_first v (es ++ rest)) (swapped v u w.0) ∙ q.reads w.0 rest

-- the write that ends one
gained_more : (o : ReduceOp) (a m : ℤ) (g : List ℤ) (c d k : Content) → c ≡ content (tag_of o) m → d ≡ content (tag_of o) (joined o m a) → Gained o g d k → Gained o (a ∷ g) c k
gained_more o a m [] c d k ec ed h = (ap (λ y. y.tag) ec, h ∙ ed ∙ ap (λ y. content (tag_of o) (joined o y a)) (sym (ap (λ y. y.number) ec)))
gained_more o a m (b ∷ g) c d k ec ed h = (
  ap (λ y. y.tag) ec,
  h.1 ∙ ap (λ y. content (tag_of o) (accumulated o y (b ∷ g))) (ap (λ y. y.number) ed ∙ ap (λ y. joined o y a) (sym (ap (λ y. y.number) ec))),
)

-- ---- stores

off_put : (as' : List Accumulator) (s z : Store) (u : ℕ) (c d : Content) → c ≡ d → Off as' s z → Off as' (put s u c) (put z u d)
off_put as' s z u c d e off x none = go (nat_eq x u)
  where
    go : (b : Bool) → (if b then c else s x) ≡ (if b then d else z x)
    go true = e
    go false = off x none

off_own : (as' : List Accumulator) (s z : Store) (v : ℕ) (o : ReduceOp) (c d : Content) → operator_at as' v ≡ Some o → Off as' s z → Off as' (put s v c) (put z v d)
off_own as' s z v o c d some off x none =
    let n : x ≢ v = λ q. apart as' v x o some none (sym q) in put_other s v c x n ∙ off x none ∙ sym (put_other z v d x n)

typed_put : (as' : List Accumulator) (z : Store) (u : ℕ) (d : Content) → operator_at as' u ≡ None → AreTyped as' z → AreTyped as' (put z u d)
typed_put as' z u d none ty v o some = ap (λ y. y.tag) (put_other z u d v (apart as' v u o some none)) ∙ ty v o some

typed_own : (as' : List Accumulator) (z : Store) (u : ℕ) (o : ReduceOp) (d : Content) → operator_at as' u ≡ Some o → d.tag ≡ tag_of o → AreTyped as' z → AreTyped as' (put z u d)
typed_own as' z u o d some e ty v o' some' =
    ⊎_elim
    (λ q. subst (λ y. (put z u d y).tag ≡ tag_of o') (sym q.1) (ap (λ y. y.tag) (put_same z u d) ∙ e ∙ ap tag_of (some_is o o' (sym some ∙ ap (operator_at as') (sym q.1) ∙ some'))))
    (λ q. ap (λ y. y.tag) (put_other z u d v q.1) ∙ ty v o' some')
    (eqb_tells v u)

-- ---- what is known

covers_with : (as' : List Accumulator) (known more : ℕ → Bool) (u : ℕ) → Covers as' known more → Covers as' (with_unit u known) (with_unit u more)
covers_with as' known more u h x = go (nat_eq x u)
  where
    go : (b : Bool) → ((b || known x) || is_accumulator as' x) ≡ true → (b || more x) ≡ true
    go true e = refl
    go false e = h x e

covers_without : (as' : List Accumulator) (known more : ℕ → Bool) (u : ℕ) → operator_at as' u ≡ None → Covers as' known more → Covers as' (without_unit u known) (without_unit u more)
covers_without as' known more u none h x =
    ⊎_elim
    (λ q e. absurd (true≢false (sym e ∙ ap (λ b. (not b && known x) || is_accumulator as' x) q.0 ∙ no_accumulator as' x (ap (operator_at as') q.1 ∙ none))))
    (λ q e. ap (λ b. not b && more x) q.0 ∙ h x (sym (ap (λ b. (not b && known x) || is_accumulator as' x) q.0) ∙ e))
    (eqb_tells x u)

covers_own : (as' : List Accumulator) (p known more : ℕ → Bool) (u : ℕ) → operator_at as' u ≡ None → (p u ≡ true → known u ≡ true) → Covers as' known more → (p u || is_accumulator as' u) ≡ true → more u ≡ true
covers_own as' p known more u none own cover e =
    let pu : p u ≡ true = sym (or_false_right (p u)) ∙ ap (λ b. p u || b) (sym (no_accumulator as' u none)) ∙ e in
    cover u (ap (λ b. b || is_accumulator as' u) (own pu))

covers_accumulator : (as' : List Accumulator) (known more : ℕ → Bool) (u : ℕ) (o : ReduceOp) → operator_at as' u ≡ Some o → Covers as' known more → more u ≡ true
covers_accumulator as' known more u o some cover = cover u (ap (λ b. known u || b) (ap is_some some) ∙ or_true_right (known u))

more_own : (as' : List Accumulator) (p : ℕ → Bool) (u : ℕ) → p u ≡ true → (p u || is_accumulator as' u) ≡ true
more_own as' p u e = ap (λ b. b || is_accumulator as' u) e

-- ---- the induction

module _ (as' : List Accumulator) where
  -- the same unit and the same contents in both
  abbrev moved : (v u : ℕ) (o : ReduceOp) → operator_at as' v ≡ Some o → operator_at as' u ≡ None → nat_eq u v ≡ false
  moved v u o some none = swapped v u (differ v u (apart as' v u o some none))

  pub ride : (phase : Phase) (t h : Steps Flow) (s z : Store) (f : Flow) → Rides as' phase t h → Off as' s z → AreTyped as' z → Held as' phase s z → (on_store t s).answer ≡ Gave f → Rode as' phase t h s z f
  ride phase (Breaks b) h s z f r off ty held e = absurd (subst IsGave (sym e) tt)
  ride Outside (Done a) (Done b) s z f r off ty held e = record {
    answer = ap Gave (sym r) ∙ e;
    same = off;
    events = refl;
    gains = λ v. [];
    sums = λ v o some. record { first = refl; second = refl; wrote = refl; copied = refl; reads = λ n rest. refl; ends = λ n. absurd (true≢false (sym n)) };
    own = λ p known more own cover. tt;
  }
  ride Outside (Look u k) (Look x h) s z f r off ty held e = subst (λ y. Rode as' Outside (Look u k) (Look y h) s z f) r.0 (go (λ phase l q now. ride phase (k (s u)) l s z f q off ty now e) (operator_at as' u) refl r.1)
    where
      go : ((phase : Phase) (l : Steps Flow) → Rides as' phase (k (s u)) l → Held as' phase s z → Rode as' phase (k (s u)) l s z f) → (a : Option ReduceOp) → operator_at as' u ≡ a → MatchOption a ((c : Content) → Rides as' Outside (k c) (h c)) (λ o. ((c : Content) → same_tag (tag_of o) c.tag ≡ false → StepsFault (k c)) × ((m n : ℤ) → Rides as' (Inside u o m n) (k (content (tag_of o) m)) (h (content (tag_of o) n)))) → Rode as' Outside (Look u k) (Look u h) s z f
      go on None none q =
          let ih = on Outside (h (z u)) (subst (λ y. Rides as' Outside (k (s u)) (h y)) (off u none) (q (s u))) tt in
          record {
            answer = ih.answer;
            same = ih.same;
            events = read_events (is_accumulator as') u (s u) (z u) (trace_of (k (s u)) s) (trace_of (h (z u)) z) (off u none) ih.events;
            gains = ih.gains;
            sums = λ v o some. other_read o (ih.gains v) v (s v) (at_end (k (s u)) s v) (trace_of (k (s u)) s) (z v) (at_end (h (z u)) z v) (trace_of (h (z u)) z) false u (s u) (z u) (moved v u o some none) (ih.sums v o some);
            own = λ p known more own cover. (covers_own as' p known more u none own.0 cover, ih.own p known more own.1 cover);
          }
      go on (Some o) some q = typed (same_tag (tag_of o) (s u).tag) refl
        where
          typed : (b : Bool) → same_tag (tag_of o) (s u).tag ≡ b → Rode as' Outside (Look u k) (Look u h) s z f
          typed false n = absurd (fault_breaks (k (s u)) s f (q.0 (s u) n) e)
          typed true n =
              let es : s u ≡ content (tag_of o) (s u).number = content_is (s u) (tag_of o) (same_tag_is (tag_of o) (s u).tag n) in
              let ez : z u ≡ content (tag_of o) (z u).number = content_is (z u) (tag_of o) (ty u o some) in
              let both = subst (λ y. Rides as' (Inside u o (s u).number (z u).number) (k (s u)) (h y)) (sym ez) (subst (λ y. Rides as' (Inside u o (s u).number (z u).number) (k y) (h (content (tag_of o) (z u).number))) (sym es) (q.1 (s u).number (z u).number)) in
              let ih = on (Inside u o (s u).number (z u).number) (h (z u)) both (some, es, ez) in
              record {
                answer = ih.answer;
                same = ih.same;
                events = own_read (is_accumulator as') u (s u) (z u) (trace_of (k (s u)) s) (trace_of (h (z u)) z) (ap is_some some) ih.events;
                gains = ih.gains;
                sums = λ v o' some'. begins o' (ih.gains v) v (s v) (at_end (k (s u)) s v) (trace_of (k (s u)) s) (z v) (at_end (h (z u)) z v) (trace_of (h (z u)) z) u (s u) (z u) (ih.sums v o' some');
                own = λ p known more own cover. (λ n. covers_accumulator as' known more u o some cover, ih.own p known more own.1 cover);
              }
  ride Outside (Set u c t) (Set x d h) s z f r off ty held e =
      subst (λ y. Rode as' Outside (Set u c t) (Set y d h) s z f) r.0
      (subst (λ y. Rode as' Outside (Set u c t) (Set u y h) s z f) r.1
      (let ih = ride Outside t h (put s u c) (put z u c) f r.3 (off_put as' s z u c c refl off) (typed_put as' z u c r.2 ty) tt e in
      record {
        answer = ih.answer;
        same = ih.same;
        events = write_events (is_accumulator as') u c (trace_of t (put s u c)) (trace_of h (put z u c)) ih.events;
        gains = ih.gains;
        sums = λ v o some.
            let n = apart as' v u o some r.2 in
            other_write o (ih.gains v) v (s v) (at_end t (put s u c) v) (trace_of t (put s u c)) (z v) (at_end h (put z u c) v) (trace_of h (put z u c)) false u c c (moved v u o some r.2)
            (subst (λ y. Sums o (ih.gains v) v false y (at_end t (put s u c) v) (trace_of t (put s u c)) (z v) (at_end h (put z u c) v) (trace_of h (put z u c))) (put_other s u c v n)
            (subst (λ y. Sums o (ih.gains v) v false (put s u c v) (at_end t (put s u c) v) (trace_of t (put s u c)) y (at_end h (put z u c) v) (trace_of h (put z u c))) (put_other z u c v n) (ih.sums v o some)));
        own = λ p known more own cover. ih.own p (with_unit u known) (with_unit u more) own (covers_with as' known more u cover);
      }))
  ride Outside (Hold u c t) (Hold x d h) s z f r off ty held e =
      subst (λ y. Rode as' Outside (Hold u c t) (Hold y d h) s z f) r.0
      (subst (λ y. Rode as' Outside (Hold u c t) (Hold u y h) s z f) r.1
      (let ih = ride Outside t h (put s u c) (put z u c) f r.3 (off_put as' s z u c c refl off) (typed_put as' z u c r.2 ty) tt e in
      record {
        answer = ih.answer;
        same = ih.same;
        events = ih.events;
        gains = ih.gains;
        sums = λ v o some.
            let n = apart as' v u o some r.2 in
            subst (λ y. Sums o (ih.gains v) v false y (at_end t (put s u c) v) (trace_of t (put s u c)) (z v) (at_end h (put z u c) v) (trace_of h (put z u c))) (put_other s u c v n)
            (subst (λ y. Sums o (ih.gains v) v false (put s u c v) (at_end t (put s u c) v) (trace_of t (put s u c)) y (at_end h (put z u c) v) (trace_of h (put z u c))) (put_other z u c v n) (ih.sums v o some));
        own = λ p known more own cover. (more_own as' p u own.0, ih.own p (with_unit u known) (with_unit u more) own.1 (covers_with as' known more u cover));
      }))
  ride Outside (Forget u t) (Forget x h) s z f r off ty held e =
      subst (λ y. Rode as' Outside (Forget u t) (Forget y h) s z f) r.0
      (let c = undefined (s u) in
      let d = undefined (z u) in
      let ih = ride Outside t h (put s u c) (put z u d) f r.2 (off_put as' s z u c d (ap undefined (off u r.1)) off) (typed_put as' z u d r.1 ty) tt e in
      record {
        answer = ih.answer;
        same = ih.same;
        events = ih.events;
        gains = ih.gains;
        sums = λ v o some.
            let n = apart as' v u o some r.1 in
            subst (λ y. Sums o (ih.gains v) v false y (at_end t (put s u c) v) (trace_of t (put s u c)) (z v) (at_end h (put z u d) v) (trace_of h (put z u d))) (put_other s u c v n)
            (subst (λ y. Sums o (ih.gains v) v false (put s u c v) (at_end t (put s u c) v) (trace_of t (put s u c)) y (at_end h (put z u d) v) (trace_of h (put z u d))) (put_other z u d v n) (ih.sums v o some));
        own = λ p known more own cover. (more_own as' p u own.0, ih.own p (without_unit u known) (without_unit u more) own.1 (covers_without as' known more u r.1 cover));
      })
  ride Outside (Show xs t) (Show ys h) s z f r off ty held e =
      let ih = ride Outside t h s z f r.1 off ty tt e in
      record {
        answer = ih.answer;
        same = ih.same;
        events = ih.events;
        gains = ih.gains;
        sums = λ v o some. let q = ih.sums v o some in record { first = q.first; second = q.second; wrote = q.wrote; copied = q.copied; reads = q.reads; ends = q.ends };
        own = ih.own;
      }
  ride Outside (Take k) (Take h) s z f r off ty held e =
      let ih = ride Outside (k None) (h None) s z f (r None) off ty tt e in
      record {
        answer = ih.answer;
        same = ih.same;
        events = ih.events;
        gains = ih.gains;
        sums = λ v o some. let q = ih.sums v o some in record { first = q.first; second = q.second; wrote = q.wrote; copied = q.copied; reads = q.reads; ends = q.ends };
        own = λ p known more own cover. own;
      }
  ride Outside (Arrive a t) (Arrive b h) s z f r off ty held e =
      let ih = ride Outside t h s z f r.1 off ty tt e in
      record {
        answer = ih.answer;
        same = ih.same;
        events = ih.events;
        gains = ih.gains;
        sums = λ v o some. let q = ih.sums v o some in record { first = q.first; second = q.second; wrote = q.wrote; copied = q.copied; reads = q.reads; ends = q.ends };
        own = ih.own;
      }
  ride (Inside v o m n) (Look u k) (Look x h) s z f r off ty held e =
      subst (λ y. Rode as' (Inside v o m n) (Look u k) (Look y h) s z f) r.0
      (let ih = ride (Inside v o m n) (k (s u)) (h (z u)) s z f (subst (λ y. Rides as' (Inside v o m n) (k (s u)) (h y)) (off u r.1) (r.2 (s u))) off ty held e in
      record {
        answer = ih.answer;
        same = ih.same;
        events = read_events (is_accumulator as') u (s u) (z u) (trace_of (k (s u)) s) (trace_of (h (z u)) z) (off u r.1) ih.events;
        gains = ih.gains;
        sums = λ w o' some. other_read o' (ih.gains w) w (s w) (at_end (k (s u)) s w) (trace_of (k (s u)) s) (z w) (at_end (h (z u)) z w) (trace_of (h (z u)) z) (nat_eq w v) u (s u) (z u) (moved w u o' some r.1) (ih.sums w o' some);
        own = λ p known more own cover. (covers_own as' p known more u r.1 own.0 cover, ih.own p known more own.1 cover);
      })
  ride (Inside v o m n) (Set u c t) (Set x d h) s z f r off ty held e =
      subst (λ y. Rode as' (Inside v o m n) (Set y c t) (Set x d h) s z f) (sym r.0)
      (subst (λ y. Rode as' (Inside v o m n) (Set v c t) (Set y d h) s z f) (sym r.1)
      (let q = r.2 in
      let ih = ride Outside t h (put s v c) (put z v d) f r.3 (off_own as' s z v o c d held.0 off) (typed_own as' z v o d held.0 (ap (λ y. y.tag) q.second) ty) tt (subst (λ y. (on_store (Set y c t) s).answer ≡ Gave f) r.0 e) in
      let es = trace_of t (put s v c) in
      let fs = trace_of h (put z v d) in
      let g = λ (w : ℕ). put ih.gains v (q.amount ∷ ih.gains v) w in
      record {
        answer = ih.answer;
        same = ih.same;
        events = own_write (is_accumulator as') v c d es fs (ap is_some held.0) ih.events;
        gains = g;
        sums = λ w o' some.
            ⊎_elim
            (λ is.
            let mine = ih.sums v o held.0 in
            subst (λ y. Sums o' (g y) y (nat_eq y v) (s y) (at_end t (put s v c) y) (Wrote v c ∷ es) (z y) (at_end h (put z v d) y) (Wrote v d ∷ fs)) (sym is.1)
            (subst (λ y. Sums y (g v) v (nat_eq v v) (s v) (at_end t (put s v c) v) (Wrote v c ∷ es) (z v) (at_end h (put z v d) v) (Wrote v d ∷ fs)) (some_is o o' (sym held.0 ∙ ap (operator_at as') (sym is.1) ∙ some))
            (subst (λ y. Sums o y v (nat_eq v v) (s v) (at_end t (put s v c) v) (Wrote v c ∷ es) (z v) (at_end h (put z v d) v) (Wrote v d ∷ fs)) (sym (put_same ih.gains v (q.amount ∷ ih.gains v)))
            (record {
              first = gained_more o q.amount m (ih.gains v) (s v) c (at_end t (put s v c) v) held.1 q.first (subst (λ y. Gained o (ih.gains v) y (at_end t (put s v c) v)) (put_same s v c) mine.first);
              second = gained_more o q.amount n (ih.gains v) (z v) d (at_end h (put z v d) v) held.2 q.second (subst (λ y. Gained o (ih.gains v) y (at_end h (put z v d) v)) (put_same z v d) mine.second);
              wrote = ap (λ b. b || writes v es) (eq_refl v);
              copied = ap (λ b. b || writes v fs) (eq_refl v);
              reads = λ k rest. absurd (true≢false (sym (eq_refl v) ∙ k));
              ends = λ k. refl;
            }))))
            (λ no.
            subst (λ y. Sums o' y w (nat_eq w v) (s w) (at_end t (put s v c) w) (Wrote v c ∷ es) (z w) (at_end h (put z v d) w) (Wrote v d ∷ fs)) (sym (put_other ih.gains v (q.amount ∷ ih.gains v) w no.1))
            (subst (λ b. Sums o' (ih.gains w) w b (s w) (at_end t (put s v c) w) (Wrote v c ∷ es) (z w) (at_end h (put z v d) w) (Wrote v d ∷ fs)) (sym no.0)
            (other_write o' (ih.gains w) w (s w) (at_end t (put s v c) w) es (z w) (at_end h (put z v d) w) fs false v c d (swapped w v no.0)
            (subst (λ y. Sums o' (ih.gains w) w false y (at_end t (put s v c) w) es (z w) (at_end h (put z v d) w) fs) (put_other s v c w no.1)
            (subst (λ y. Sums o' (ih.gains w) w false (put s v c w) (at_end t (put s v c) w) es y (at_end h (put z v d) w) fs) (put_other z v d w no.1) (ih.sums w o' some))))))
            (eqb_tells w v);
        own = λ p known more own cover. ih.own p (with_unit v known) (with_unit v more) own (covers_with as' known more v cover);
      }))
  ride phase t h s z f r off ty held e = absurd r
