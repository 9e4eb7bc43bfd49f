-- Steps and plans that are the same but for the numbers of their units.
use Rattle.std.proofs.Common.{◌≡◌, ℕ, zero, suc, Bool, true, false, List, [], ◌∷◌, ◌++◌, Option, refl, sym, ap, ◌∙◌, subst}
use Rattle.std.specs.Prelude.{if◌then◌else◌, nat_eq, ◌||◌}
use Rattle.std.proofs.lemmas.Bool.{eqb-true, ne_eqb, eq-eqb}
use Rattle.f77_ast.specs.Store.{Content, Store, put}
use Rattle.f77_ast.specs.Steps.{Spot, Shown, Break, Steps, Done, Breaks, Look, Set, Show, Arrive, ◌>>=◌}
use Rattle.f77_ast.specs.Runs.{Answer, Gave, Broke, Whole, Ran, run, store_of}
use Rattle.f77_ast.specs.Places.{Places}
use Rattle.f77_ast.specs.Plans.{Flow, Normal, Jump, Returned, Stopped, Plan, steps_of, first, ◌▹◌}
use Rattle.f77_ast.specs.Plans as plan
use Rattle.f77_ast.specs.Lists.{Part, is_label, has_label, from_label, go_on, in_order, with_jumps, list_plan}
use Rattle.f77_ast.specs.Executions.{Claim, Executions, AtEndOf, AtEnd, run_of}
use Rattle.f77_meaning.specs.StraightRuns.{printed}

-- f gives each unit its other number; what is written is among D
pub data Like (f : ℕ → ℕ) (D : ℕ → Bool) {A : Type 0} : Steps A → Steps A → Type 0 where
  like_done : {a : A} → Like f D (Done a) (Done a)
  like_breaks : {b : Break} → Like f D (Breaks b) (Breaks b)
  like_look : {u : ℕ} {k l : Content → Steps A} → ((c : Content) → Like f D (k c) (l c)) → Like f D (Look u k) (Look (f u) l)
  like_set : {u : ℕ} {c : Content} {t z : Steps A} → D u ≡ true → Like f D t z → Like f D (Set u c t) (Set (f u) c z)
  like_show : {xs : List Shown} {t z : Steps A} → Like f D t z → Like f D (Show xs t) (Show xs z)
  like_arrive : {p : Spot} {t z : Steps A} → Like f D t z → Like f D (Arrive p t) (Arrive p z)

pub data Alike (f : ℕ → ℕ) (D : ℕ → Bool) (at at' : Places) : Plan → Plan → Type 0 where
  alike_ends : {g : Flow} → Alike f D at at' (plan.Ends g) (plan.Ends g)
  alike_breaks : {b : Break} → Alike f D at at' (plan.Breaks b) (plan.Breaks b)
  alike_look : {u : ℕ} {k l : Content → Plan} → ((c : Content) → Alike f D at at' (k c) (l c)) → Alike f D at at' (plan.Look u k) (plan.Look (f u) l)
  alike_set : {u : ℕ} {c : Content} {t z : Plan} → D u ≡ true → Alike f D at at' t z → Alike f D at at' (plan.Set u c t) (plan.Set (f u) c z)
  alike_show : {xs : List Shown} {t z : Plan} → Alike f D at at' t z → Alike f D at at' (plan.Show xs t) (plan.Show xs z)
  alike_within : {p : Spot} {t z : Plan} {k l : Flow → Plan} → Alike f D at at' t z → ((g : Flow) → Alike f D at at' (k g) (l g)) → Alike f D at at' (plan.Within p at t k) (plan.Within p at' z l)

pub like_then : {f : ℕ → ℕ} {D : ℕ → Bool} {A B : Type 0} {t z : Steps A} {k l : A → Steps B} → Like f D t z → ((a : A) → Like f D (k a) (l a)) → Like f D (t >>= k) (z >>= l)
like_then {k = k} {l = l} (like_done {a = a}) h = h a
like_then like_breaks h = like_breaks
like_then (like_look e) h = like_look (λ c. like_then (e c) h)
like_then (like_set d e) h = like_set d (like_then e h)
like_then (like_show e) h = like_show (like_then e h)
like_then (like_arrive e) h = like_arrive (like_then e h)

module _ {f : ℕ → ℕ} {D : ℕ → Bool} {at at' : Places} where
  pub alike_first : {A : Type 0} {t z : Steps A} {k l : A → Plan} → Like f D t z → ((a : A) → Alike f D at at' (k a) (l a)) → Alike f D at at' (first t k) (first z l)
  alike_first (like_done {a = a}) h = h a
  alike_first like_breaks h = alike_breaks
  alike_first (like_look e) h = alike_look (λ c. alike_first (e c) h)
  alike_first (like_set d e) h = alike_set d (alike_first e h)
  alike_first (like_show e) h = alike_show (alike_first e h)
  alike_first (like_arrive e) h = alike_first e h

  alike_then : {t z : Plan} {k l : Flow → Plan} → Alike f D at at' t z → ((g : Flow) → Alike f D at at' (k g) (l g)) → Alike f D at at' (t ▹ k) (z ▹ l)
  alike_then (alike_ends {g = g}) h = h g
  alike_then alike_breaks h = alike_breaks
  alike_then (alike_look e) h = alike_look (λ c. alike_then (e c) h)
  alike_then (alike_set d e) h = alike_set d (alike_then e h)
  alike_then (alike_show e) h = alike_show (alike_then e h)
  alike_then (alike_within e k) h = alike_within e (λ g. alike_then (k g) h)

  steps_alike : {t z : Plan} → Alike f D at at' t z → Like f D (steps_of t) (steps_of z)
  steps_alike alike_ends = like_done
  steps_alike alike_breaks = like_breaks
  steps_alike (alike_look e) = like_look (λ c. steps_alike (e c))
  steps_alike (alike_set d e) = like_set d (steps_alike e)
  steps_alike (alike_show e) = like_show (steps_alike e)
  steps_alike (alike_within e k) = like_arrive (like_then (steps_alike e) (λ g. steps_alike (k g)))

-- ---- lists

pub data Parts (f : ℕ → ℕ) (D : ℕ → Bool) (at at' : Places) : List Part → List Part → Type 0 where
  no_parts : Parts f D at at' [] []
  more_parts : {o : Option ℕ} {t z : Plan} {qs rs : List Part} → Alike f D at at' t z → Parts f D at at' qs rs → Parts f D at at' (record { label = o; does = t } ∷ qs) (record { label = o; does = z } ∷ rs)

module _ {f : ℕ → ℕ} {D : ℕ → Bool} {at at' : Places} where
  same_labels : (l : ℕ) {qs rs : List Part} → Parts f D at at' qs rs → has_label l qs ≡ has_label l rs
  same_labels l no_parts = refl
  same_labels l (more_parts {o = o} e p) = ap (λ b. is_label l o || b) (same_labels l p)

  parts_from : (l : ℕ) {qs rs : List Part} → Parts f D at at' qs rs → Parts f D at at' (from_label l qs) (from_label l rs)
  parts_from l no_parts = no_parts
  parts_from l (more_parts {o = o} {t = t} {z = z} {qs = qs} {rs = rs} e p) = go (is_label l o) (parts_from l p)
    where
      go : (b : Bool) → Parts f D at at' (from_label l qs) (from_label l rs) →
          Parts f D at at' (if b then record { label = o; does = t } ∷ qs else from_label l qs) (if b then record { label = o; does = z } ∷ rs else from_label l rs)
      go true h = more_parts e p
      go false h = h

  module _ {all all' : List Part} (same : Parts f D at at' all all') where
    goes_on : {jump jump' : ℕ → Plan} {rest rest' : Plan} → ((l : ℕ) → Alike f D at at' (jump l) (jump' l)) → Alike f D at at' rest rest' → (g : Flow) → Alike f D at at' (go_on jump all rest g) (go_on jump' all' rest' g)
    goes_on j r Normal = r
    goes_on {jump = jump} {jump' = jump'} j r (Jump l) = go (has_label l all) (has_label l all') (same_labels l same)
      where
        go : (b c : Bool) → b ≡ c → Alike f D at at' (if b then jump l else plan.Ends (Jump l)) (if c then jump' l else plan.Ends (Jump l))
        go true true e = j l
        go true false e = cc
        go false true e = cc
        go false false e = alike_ends
    goes_on j r Returned = alike_ends
    goes_on j r Stopped = alike_ends

    orders : {jump jump' : ℕ → Plan} → ((l : ℕ) → Alike f D at at' (jump l) (jump' l)) → {qs rs : List Part} → Parts f D at at' qs rs → Alike f D at at' (in_order jump all qs) (in_order jump' all' rs)
    orders j no_parts = alike_ends
    orders j (more_parts e p) = alike_then e (goes_on j (orders j p))

    jumps : (n : ℕ) {qs rs : List Part} → Parts f D at at' qs rs → Alike f D at at' (with_jumps n all qs) (with_jumps n all' rs)
    jumps zero p = orders (λ l. alike_breaks) p
    jumps (suc n) p = orders (λ l. jumps n (parts_from l same)) p

  pub lists_alike : (n : ℕ) {qs rs : List Part} → Parts f D at at' qs rs → Alike f D at at' (list_plan n qs) (list_plan n rs)
  lists_alike n p = jumps p n p

-- ---- runs

pub record Same {A : Type 0} (f : ℕ → ℕ) (a b : Ran A) : Type 0 where
  pub answer : a.answer ≡ b.answer
  pub input : a.input ≡ b.input
  pub printed : printed a.trace ≡ printed b.trace
  pub store : (u : ℕ) → store_of a.memory (f u) ≡ store_of b.memory u

module _ {f : ℕ → ℕ} {D : ℕ → Bool} (apart : (u v : ℕ) → D u ≡ true → (v ≡ u → ⊥) → f v ≡ f u → ⊥) where
  put_same : (s s' : Store) → ((u : ℕ) → s' (f u) ≡ s u) → (u : ℕ) → D u ≡ true → (c : Content) → (v : ℕ) → put s' (f u) c (f v) ≡ put s u c v
  put_same s s' r u d c v = go (nat_eq v u) refl
    where
      go : (b : Bool) → nat_eq v u ≡ b → (if nat_eq (f v) (f u) then c else s' (f v)) ≡ (if b then c else s v)
      go true e = let e' : nat_eq (f v) (f u) ≡ true = eq-eqb (f v) (f u) (ap f (eqb-true v u e)) in ap (λ b. if b then c else s' (f v)) e'
      go false e = let n : nat_eq (f v) (f u) ≡ false = ne_eqb (f v) (f u) (apart u v d (λ q. let t = eq-eqb v u q in cc)) in ap (λ b. if b then c else s' (f v)) n ∙ r v

  run_like : {A : Type 0} {t z : Steps A} → Like f D t z → (s s' : Store) → ((u : ℕ) → s' (f u) ≡ s u) → (i : List Content) → Same f (run z (Whole s') i) (run t (Whole s) i)
  run_like like_done s s' r i = record { answer = refl; input = refl; printed = refl; store = r }
  run_like like_breaks s s' r i = record { answer = refl; input = refl; printed = refl; store = r }
  run_like (like_look {u = u} {k = k} {l = l} e) s s' r i =
      let h : Same f (run (l (s' (f u))) (Whole s') i) (run (k (s u)) (Whole s) i) = subst (λ c. Same f (run (l c) (Whole s') i) (run (k (s u)) (Whole s) i)) (sym (r u)) (run_like (e (s u)) s s' r i) in
      record { answer = h.answer; input = h.input; printed = h.printed; store = h.store }
  run_like (like_set {u = u} {c = c} d e) s s' r i =
      let h = run_like e (put s u c) (put s' (f u) c) (put_same s s' r u d c) i in
      record { answer = h.answer; input = h.input; printed = h.printed; store = h.store }
  run_like (like_show {xs = xs} e) s s' r i = let h = run_like e s s' r i in record { answer = h.answer; input = h.input; printed = ap (λ t. xs ++ t) h.printed; store = h.store }
  run_like (like_arrive e) s s' r i = let h = run_like e s s' r i in record { answer = h.answer; input = h.input; printed = h.printed; store = h.store }

  pub run_alike : {at at' : Places} {t z : Plan} → Alike f D at at' t z → (s s' : Store) → ((u : ℕ) → s' (f u) ≡ s u) → (i : List Content) → Same f (run_of z s' i) (run_of t s i)
  run_alike e s s' r i = run_like (steps_alike e) s s' r i

  -- ---- executions

  at_ends : {A : Type 0} (a b : Ran A) → Same f a b → (P Q : A → Store → List Content → Type 0) → ((x : A) (s s' : Store) (i j : List Content) → ((u : ℕ) → s' (f u) ≡ s u) → i ≡ j → Q x s i → P x s' j) → AtEndOf b Q → AtEndOf a P
  at_ends a b h P Q m q = go a.answer b.answer h.answer q
    where
      go : (x y : Answer _) → x ≡ y → AtEnd y (store_of b.memory) b.input Q → AtEnd x (store_of a.memory) a.input P
      go (Gave x) (Gave y) e w = let same : y ≡ x = cc in m x (store_of b.memory) (store_of a.memory) b.input a.input h.store (sym h.input) (subst (λ v. Q v (store_of b.memory) b.input) same w)
      go (Gave x) (Broke y) e w = cc
      go (Broke x) y e w = tt

  module _ {at at' : Places} (C : Claim) (carries : (p : Spot) (s s' : Store) → ((u : ℕ) → s' (f u) ≡ s u) → (a b : Ran Flow) → Same f a b → C p at s b → C p at' s' a) where
    pub executions_alike : {t z : Plan} → Alike f D at at' t z → (s s' : Store) → ((u : ℕ) → s' (f u) ≡ s u) → (i : List Content) → Executions C t s i → Executions C z s' i
    executions_alike alike_ends s s' r i h = tt
    executions_alike alike_breaks s s' r i h = tt
    executions_alike (alike_look {u = u} {l = l} e) s s' r i h = subst (λ c. Executions C (l c) s' i) (sym (r u)) (executions_alike (e (s u)) s s' r i h)
    executions_alike (alike_set {u = u} {c = c} d e) s s' r i h = executions_alike e (put s u c) (put s' (f u) c) (put_same s s' r u d c) i h
    executions_alike (alike_show e) s s' r i h = executions_alike e s s' r i h
    executions_alike (alike_within {p = p} {t = t} {z = z} {k = k} {l = l} e g) s s' r i h =
        let same = run_alike e s s' r i in (
          carries p s s' r (run_of z s' i) (run_of t s i) same h.0,
          executions_alike e s s' r i h.1,
          at_ends (run_of z s' i) (run_of t s i) same (λ x y j. Executions C (l x) y j) (λ x y j. Executions C (k x) y j) (λ x y y' j j' q w d. subst (λ n. Executions C (l x) y' n) w (executions_alike (g x) y y' q j d)) h.2,
        )
