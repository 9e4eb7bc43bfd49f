-- A DO: its turns, one after the other.
use Rattle.std.proofs.Common.{⊎_elim, ◌⊎◌, ◌≡◌, ℕ, suc, ◌+◌, ◌<◌, List, [], ◌∷◌, ◌||◌, Option, Some, None, Bool, true, false, refl, sym, ap, ◌∙◌, subst, arith, ℤ, pos, ◌+ℤ◌, nat_eq, inl, inr}
use Rattle.std.specs.Prelude.{if◌then◌else◌, is_some}
use Rattle.std.proofs.lemmas.Bool.{or_right}
use Rattle.affine_systems.specs.declared.row.System.{System}
use Rattle.affine_systems.specs.Points.{Point, HoldsAll}
use Rattle.f77_ast.specs.Store.{Content, content, Int, Store, put}
use Rattle.f77_ast.specs.Faults.{Fault, Locked}
use Rattle.f77_ast.specs.Numbers.{kept}
use Rattle.f77_ast.specs.Places.{Names, Places, Variable}
use Rattle.f77_ast.specs.Writes.{Locks, lock, first_lock}
use Rattle.f77_ast.specs.Plans.{Flow, Normal, Jump, Returned, Stopped, Plan}
use Rattle.f77_ast.specs.Executions.{Claim}
use Rattle.f77_ast.specs.Loops.{iteration_count, iterations_from}
use Rattle.f77_ast.specs.declared.variable.Unit.{Unit as BlockUnit}
use Rattle.affine_forms.specs.Claims.{unit_in, numbers_of}
use Rattle.preconditions.specs.transformer_algebra.declared.transformer.Transformer.{Transformer}
use Rattle.preconditions.specs.transformer_algebra.declared.loop_parts.LoopParts.{LoopParts}
use Rattle.preconditions.specs.transformer_algebra.Cells.{has}
use Rattle.preconditions.specs.transformer_algebra.Transformers.{without}
use Rattle.preconditions.specs.transformer_algebra.Loops.{own_cells, goes_up, iteration, counted_by, loop_transformer, iteration_by, at_iteration, end_by, after_loop}
use Rattle.preconditions.specs.transformer_algebra.Claims.{Scene, HoldsAt, Kept, Does, Wrote, Chain, none_yet, then_iteration, Tracks, Means, NotBeyond, Beyond, IsIn}
use Rattle.preconditions.specs.transformer_algebra.Laws.{Begun, LoopRulesHold}
use Rattle.preconditions.proofs.TransformerAlgebra.CellLaws.{left_out, right_out, right_in, unit_left}
use Rattle.preconditions.proofs.TransformerAlgebra.RuleLaws.{holds_without}
use Rattle.preconditions.proofs.TransformerAlgebra.TurnLaws.{kept_chain}
use Rattle.preconditions.proofs.TransformerAlgebra.AllLaws.{loop_rules_hold}
use Rattle.preconditions.specs.call_translation.Scopes.{ScopeTree}
use Rattle.laws_analyses.specs.Statements.Good.{Good}
use Rattle.laws_analyses.proofs.Statements.Rules.{good_more}
use Rattle.laws_analyses.proofs.Statements.Turns.{Turn_ends, turns_good}
use Rattle.laws_analyses.specs.Statements.Activation.{NamesFit, scene_at, is_locked, Fit, Still, Stayed, Done, Ended}
use Rattle.laws_analyses.proofs.Statements.Basics.{put_here}
use Rattle.laws_analyses.proofs.Statements.Writes.{put_cells, put_far, put_still}
use Rattle.laws_analyses.proofs.Statements.Tracks.{turn_tracks}
use Rattle.laws_analyses.proofs.Statements.Counts.{NotZero, count_more, count_none}
use Rattle.fx_lists.proofs.Numbers.{same_is as nat_same, nat_eq_same}
use Rattle.fx_lists.proofs.Booleans.{clash as clashes}
use Rattle.f77_ast.proofs.KeptNumbers.{kept_is}

-- the units that stay, and the unit of the index
abbrev pub also : (ℕ → Bool) → ℕ → ℕ → Bool
also still u x = nat_eq x u || still x

pub first_some : (o : Option Fault) (f : Fault) → is_some (first_lock o f) ≡ true
first_some None f = refl
first_some (Some g) f = refl

pub lock_more : (locked : Locks) (u : ℕ) (f : Fault) (x : ℕ) → is_locked locked x ≡ true → is_locked (lock locked u f) x ≡ true
lock_more locked u f x h = go (nat_eq x u)
  where
    go : (b : Bool) → is_some (if b then first_lock (locked x) f else locked x) ≡ true
    go true = first_some (locked x) f
    go false = h

pub lock_both : (locked : Locks) (still : ℕ → Bool) (u : ℕ) (f : Fault) (x : ℕ) → (still x ≡ true → is_locked locked x ≡ true) → also still u x ≡ true → is_locked (lock locked u f) x ≡ true
lock_both locked still u f x k h = go (nat_eq x u) h
  where
    go : (b : Bool) → (b || still x) ≡ true → is_some (if b then first_lock (locked x) f else locked x) ≡ true
    go true q = first_some (locked x) f
    go false q = k q

-- the same where the index is locked too
pub fit_lock : (w : Names) (scalar : List ℕ → Bool) (at : Places) (e : Scene) (locked : Locks) (still : ℕ → Bool) (u : ℕ) (f : Fault) → Fit w scalar at e locked still → Fit w scalar at e (lock locked u f) (also still u)
fit_lock w scalar at e locked still u f fit = record {
  apart = λ x v n c named small t d q. lock_more locked u f (e.unit c) (fit.apart x v n c named small t d q);
  stays = λ x v n named small h. lock_both locked still u f ((at v).first + n) (fit.stays x v n named small) h;
  near = fit.near;
  solid = fit.solid;
  flat = fit.flat;
}

module _ (C : Claim) (w : Names) (m : ScopeTree) (scalar : List ℕ → Bool) (at : Places) (far : BlockUnit → Bool) (place : BlockUnit → ℕ) (nf : NamesFit w m) (locked : Locks) (still : ℕ → Bool) (fit : Fit w scalar at (scene_at m at far place) locked still) (index : List ℕ) (lp : LoopParts) (named : w index ≡ Variable lp.index) (sc : scalar index ≡ true) (free : locked (unit_in at lp.index) ≡ None) (known : (scene_at m at far place).tracked lp.index ≡ lp.tracked) (trs : Tracks (scene_at m at far place) lp.body.cells) (body : Plan) (goes : List ℕ → Bool) (ret own : Bool) (no : own ≡ true → ⊥) (P Pb : System) (z : Store) (hp : HoldsAt (scene_at m at far place) P (numbers_of z)) where
  abbrev e : Scene
  e = scene_at m at far place

  abbrev unit : ℕ
  unit = unit_in at lp.index

  abbrev rules : LoopRulesHold
  rules = loop_rules_hold

  abbrev t : Transformer
  t = iteration lp

  abbrev still' : ℕ → Bool
  still' = also still unit

  still_own : still' unit ≡ true
  still_own = ap (λ b. b || still unit) (nat_eq_same unit)

  still_more : (x : ℕ) → still x ≡ true → still' x ≡ true
  still_more x h = or_right (nat_eq x unit) (still x) h

  zero_off : unit ≡ unit + 0
  zero_off = omega arith

  -- the index is given a number
  wrote : (n : ℤ) (y : Store) → Wrote e lp.index n (numbers_of y) (numbers_of (put y unit (content Int n)))
  wrote n y = record {
    there = put_here y unit (content Int n);
    cells = λ d r k. put_cells w m scalar at far place nf locked still fit y (content Int n) index lp.index 0 unit named (fit.solid index lp.index named sc) zero_off free d r k;
    foreign = λ b f. put_far w m scalar at far place nf locked still fit y (content Int n) index lp.index 0 unit named (fit.solid index lp.index named sc) zero_off free b f;
  }

  wrote_still : (n : ℤ) (y : Store) → Still still y (put y unit (content Int n))
  wrote_still n y = put_still w m scalar at far place nf locked still fit y (content Int n) index lp.index 0 unit named (fit.solid index lp.index named sc) zero_off free

  own_in : (c : ℕ) → nat_eq lp.index c ≡ true → e.tracked c ≡ true → has (own_cells lp) c ≡ true
  own_in c q r = go lp.tracked refl
    where
      go : (b : Bool) → lp.tracked ≡ b → has (if b then lp.index ∷ [] else []) c ≡ true
      go true k = ap (λ b. b || false) q
      go false k = clashes (e.tracked c) r (ap e.tracked (sym (nat_same lp.index c q)) ∙ (known ∙ k))

  kept_wrote : (n : ℤ) (x y : ℕ → ℤ) → Wrote e lp.index n x y → Kept e t.cells t.foreign x y
  kept_wrote n x y wr = record {
    cells = λ c r k. wr.cells c r (go c r k (nat_eq lp.index c) refl);
    foreign = λ u r k. wr.foreign u r;
  }
    where
      go : (c : ℕ) → e.tracked c ≡ true → has t.cells c ≡ false → (b : Bool) → nat_eq lp.index c ≡ b → b ≡ false
      go c r k false q = refl
      go c r k true q = clashes (has t.cells c) (right_in lp.body.cells (own_cells lp) c (own_in c q r)) k

  tracks : Tracks e t.cells
  tracks = turn_tracks e lp known trs

  -- what the body keeps, the loop keeps
  body_kept : (y v : Store) → Kept e lp.body.cells lp.body.foreign (numbers_of y) (numbers_of v) → Kept e t.cells t.foreign (numbers_of y) (numbers_of v)
  body_kept y v k = record {
    cells = λ c r q. k.cells c r (left_out lp.body.cells (own_cells lp) c q);
    foreign = λ u r n. k.foreign u r (λ i. n (unit_left lp.body.foreign [] u i));
  }

  both_kept : (x y v : Store) → Kept e t.cells t.foreign (numbers_of x) (numbers_of y) → Kept e t.cells t.foreign (numbers_of y) (numbers_of v) → Kept e t.cells t.foreign (numbers_of x) (numbers_of v)
  both_kept x y v a b = record { cells = λ c r q. b.cells c r q ∙ a.cells c r q; foreign = λ u r n. b.foreign u r n ∙ a.foreign u r n }

  -- ---- a constant step

  module _ (s a b : ℤ) (nz : NotZero s) (step : lp.step ≡ Some s) (mf : Means e lp.first (numbers_of z) a) (ml : Means e lp.last (numbers_of z) b) where
    abbrev s1 : Store
    s1 = put z unit (content Int a)

    begun : Begun e lp t s a b (numbers_of z) (numbers_of s1)
    begun = record { step = step; index = known; tracks = tracks; changes = λ c h. right_in lp.body.cells (own_cells lp) c h; first = mf; last = ml; wrote = wrote a z }

    -- after a turn: it began with this number of the index
    record Later (m' : ℤ) (y : Store) : Type 0 where
      number : ℤ
      from : Store
      ended : Store
      chain : Chain e t (numbers_of s1) (numbers_of from)
      from_number : numbers_of from unit ≡ number
      guard : NotBeyond (goes_up s) a b
      in_range : NotBeyond (goes_up s) number b
      does : Does e t (numbers_of from) (numbers_of y)
      after : HoldsAt e Pb (numbers_of ended)
      ended_number : numbers_of ended unit ≡ number
      wrote_next : Wrote e lp.index (number +ℤ s) (numbers_of ended) (numbers_of y)

    -- where the turn begins that has k turns to go, and at the end
    record Turning (k : ℕ) (n : ℤ) (y : Store) : Type 0 where
      number : numbers_of y unit ≡ n
      chain : Chain e t (numbers_of s1) (numbers_of y)
      left : iteration_count n b s ≡ k
      steady : Still still z y
      came : ((s1 ≡ y) × (n ≡ a)) ⊎ Later n y

    abbrev Q : Flow → Store → Type 0
    Q = Ended e (loop_transformer lp t) (after_loop lp t P Pb) goes ret own still z

    guard_of : (n : ℤ) (y : Store) → NotBeyond (goes_up s) n b → ((s1 ≡ y) × (n ≡ a)) ⊎ Later n y → NotBeyond (goes_up s) a b
    guard_of n y h c = ⊎_elim (λ q. subst (λ x. NotBeyond (goes_up s) x b) q.1 h) (λ l. l.guard) c

    stayed : (y v : Store) → Chain e t (numbers_of s1) (numbers_of y) → Still still z y → Stayed e lp.body still' y v → Stayed e (loop_transformer lp t) still z v
    stayed y v ch st h =
        let k = both_kept z y v (both_kept z s1 y (kept_wrote a (numbers_of z) (numbers_of s1) (wrote a z)) (kept_chain e t (numbers_of s1) (numbers_of y) ch)) (body_kept y v h.kept) in
        record { kept = record { cells = k.cells; foreign = k.foreign }; steady = λ x f. h.steady x (still_more x f) ∙ st x f }

    next_turn : (k : ℕ) (n : ℤ) (y v : Store) → Turning (suc k) n y → Done e lp.body Pb still' y v → Turning k (n +ℤ s) (put v unit (content Int (n +ℤ s)))
    next_turn k n y v i d =
        let v3 = put v unit (content Int (n +ℤ s)) in
        let cm = count_more n b s k nz i.left in
        let e2 : numbers_of v unit ≡ n = d.steady unit still_own ∙ i.number in
        let wr = wrote (n +ℤ s) v in
        let dt = rules.turn_does e lp t s a b (numbers_of z) (numbers_of s1) begun n (numbers_of y) (numbers_of v) (numbers_of v3) d.does e2 wr in
        record {
          number = wr.there;
          chain = then_iteration i.chain dt;
          left = cm.rest;
          steady = λ x f. wrote_still (n +ℤ s) v x f ∙ (d.steady x (still_more x f) ∙ i.steady x f);
          came = inr (record { number = n; from = y; ended = v; chain = i.chain; from_number = i.number; guard = guard_of n y cm.in_range i.came; in_range = cm.in_range; does = dt; after = d.after; ended_number = e2; wrote_next = wr });
        }

    at_end : (n : ℤ) (y : Store) → Turning 0 n y → Q Normal y
    at_end n y i =
        let bey = count_none n b s nz i.left in
        let bey' : Beyond (goes_up s) (numbers_of y unit) b = subst (λ x. Beyond (goes_up s) x b) (sym i.number) bey in
        ⊎_elim
        (λ q. subst (λ x. Done e (loop_transformer lp t) (after_loop lp t P Pb) still z x) q.0
        (let h = subst (λ x. Beyond (goes_up s) x b) q.1 bey in
        record {
          does = rules.zero_does e lp t s a b (numbers_of z) (numbers_of s1) begun h;
          after = rules.zero_holds e lp t s a b (numbers_of z) (numbers_of s1) begun P hp h Pb;
          steady = wrote_still a z;
        }))
        (λ l. record {
          does = rules.some_does e lp t s a b (numbers_of z) (numbers_of s1) begun l.guard (numbers_of l.from) (numbers_of y) l.chain (subst (λ x. NotBeyond (goes_up s) x b) (sym l.from_number) l.in_range) l.does bey';
          after = rules.some_holds e lp t s a b (numbers_of z) (numbers_of s1) begun P hp Pb l.number (numbers_of l.ended) (numbers_of y) l.after l.ended_number l.wrote_next i.chain bey';
          steady = i.steady;
        })
        i.came

    pub counted_good : ((y : Store) → HoldsAt e (at_iteration lp t P) (numbers_of y) → Good C body y (Ended e lp.body Pb goes ret false still' y)) → Good C (iterations_from (iteration_count a b s) a s unit body) s1 Q
    counted_good body_good =
        turns_good C s unit body Turning Q turns at_end (iteration_count a b s) a s1
        (record { number = (wrote a z).there; chain = none_yet; left = refl; steady = wrote_still a z; came = inl (refl, refl) })
      where
        ends : (k : ℕ) (n : ℤ) (y : Store) → Turning (suc k) n y → (f : Flow) (v : Store) → Ended e lp.body Pb goes ret false still' y f v → Turn_ends C s unit body Turning Q k n f v
        ends k n y i Normal v d = λ o q. subst (λ x. Turning k x (put v unit (content Int x))) (kept_is (n +ℤ s) o q) (next_turn k n y v i d)
        ends k n y i (Jump l) v d = (d.0, stayed y v i.chain i.steady d.1)
        ends k n y i Returned v d = (d.0, stayed y v i.chain i.steady d.1, λ q. absurd (no q))
        ends k n y i Stopped v d = tt

        turns : (k : ℕ) (n : ℤ) (y : Store) → Turning (suc k) n y → Good C body y (Turn_ends C s unit body Turning Q k n)
        turns k n y i =
            let cm = count_more n b s k nz i.left in
            good_more C body y (Ended e lp.body Pb goes ret false still' y) (Turn_ends C s unit body Turning Q k n) (ends k n y i)
            (body_good y (rules.turn_holds e lp t s a b (numbers_of z) (numbers_of s1) begun P hp (guard_of n y cm.in_range i.came) (numbers_of y) i.chain (subst (λ x. NotBeyond (goes_up s) x b) (sym i.number) cm.in_range)))

  -- ---- any other step

  module _ (n0 : ℕ) (a c : ℤ) (step : lp.step ≡ None) where
    abbrev I : Store → Type 0
    I y = Stayed e t still z y

    abbrev Q' : Flow → Store → Type 0
    Q' = Ended e (loop_transformer lp t) (after_loop lp t P Pb) goes ret own still z

    loop_stayed : (y : Store) → I y → Stayed e (loop_transformer lp t) still z y
    loop_stayed y h = record { kept = record { cells = h.kept.cells; foreign = h.kept.foreign }; steady = h.steady }

    put_stayed : (n : ℤ) (y : Store) → I y → I (put y unit (content Int n))
    put_stayed n y h = record {
      kept = both_kept z y (put y unit (content Int n)) h.kept (kept_wrote n (numbers_of y) (numbers_of (put y unit (content Int n))) (wrote n y));
      steady = λ x f. wrote_still n y x f ∙ h.steady x f;
    }

    body_stayed : (y v : Store) → I y → Kept e lp.body.cells lp.body.foreign (numbers_of y) (numbers_of v) → Still still' y v → I v
    body_stayed y v h k st = record { kept = both_kept z y v h.kept (body_kept y v k); steady = λ x f. st x (still_more x f) ∙ h.steady x f }

    loose_done : (y : Store) → I y → Done e (loop_transformer lp t) (after_loop lp t P Pb) still z y
    loose_done y h = record {
      does = record { relates = λ p st en. subst (λ o. Holds_all p (counted_by o lp t)) (sym step) tt; kept = record { cells = h.kept.cells; foreign = h.kept.foreign } };
      after = subst (λ o. HoldsAt e (end_by o lp t P Pb) (numbers_of y)) (sym step) (holds_without e t.cells t.foreign P (numbers_of z) (numbers_of y) hp h.kept);
      steady = h.steady;
    }
      where
        Holds_all : Point → System → Type 0
        Holds_all p q = HoldsAll p q.rows

    pub loose_good : ((y : Store) → HoldsAt e (at_iteration lp t P) (numbers_of y) → Good C body y (Ended e lp.body Pb goes ret false still' y)) → Good C (iterations_from n0 a c unit body) (put z unit (content Int a)) Q'
    loose_good body_good =
        turns_good C c unit body (λ k n y. I y) Q' turns (λ n y h. loose_done y h) n0 a (put z unit (content Int a))
        (put_stayed a z (record { kept = record { cells = λ d r q. refl; foreign = λ u r q. refl }; steady = λ x f. refl }))
      where
        ends : (k : ℕ) (n : ℤ) (y : Store) → I y → (f : Flow) (v : Store) → Ended e lp.body Pb goes ret false still' y f v → Turn_ends C c unit body (λ k n y. I y) Q' k n f v
        ends k n y i Normal v d = λ o q. put_stayed o v (body_stayed y v i d.does.kept d.steady)
        ends k n y i (Jump l) v d = (d.0, loop_stayed v (body_stayed y v i d.1.kept d.1.steady))
        ends k n y i Returned v d = (d.0, loop_stayed v (body_stayed y v i d.1.kept d.1.steady), λ q. absurd (no q))
        ends k n y i Stopped v d = tt

        turns : (k : ℕ) (n : ℤ) (y : Store) → I y → Good C body y (Turn_ends C c unit body (λ k n y. I y) Q' k n)
        turns k n y i =
            good_more C body y (Ended e lp.body Pb goes ret false still' y) (Turn_ends C c unit body (λ k n y. I y) Q' k n) (ends k n y i)
            (body_good y (subst (λ o. HoldsAt e (iteration_by o lp t P) (numbers_of y)) (sym step) (holds_without e t.cells t.foreign P (numbers_of z) (numbers_of y) hp i.kept)))
