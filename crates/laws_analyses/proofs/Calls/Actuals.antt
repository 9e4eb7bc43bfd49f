-- What the actuals of a CALL stand for.
use Rattle.std.proofs.Common.{◌≡◌, ℕ, zero, suc, ◌+◌, ◌-◌, ◌<◌, List, [], ◌∷◌, Option, Some, None, Bool, true, false, refl, sym, ap, ◌∙◌, subst, arith, ℤ, nat_eq, nat_lt, true≢false}
use Rattle.std.specs.Prelude.{if◌then◌else◌, slice_get, is_some}
use Rattle.std.proofs.lemmas.Bool.Decides.{nat_tests}
use Rattle.std.proofs.lemmas.Bool.{and_parts}
use Rattle.f77_ast.specs.Trees.{ExprTree, ExprTrees}
use Rattle.f77_ast.specs.Trees as tree
use Rattle.f77_ast.specs.Store.{Content, Store}
use Rattle.f77_ast.specs.Faults.{Fault, Locked}
use Rattle.f77_ast.specs.Steps.{◌>>=◌}
use Rattle.f77_ast.specs.Runs.{run, Whole}
use Rattle.f77_ast.specs.Places.{Meant, Constant, Variable, Function, Names, Place, Places, position, within, element_in}
use Rattle.f77_ast.specs.Values.{value, values}
use Rattle.f77_ast.specs.Writes.{Locks, lock, first_lock}
use Rattle.f77_ast.specs.Calls.{Actual, passed_by_reference, stored, rest_after, name_actual, element_actual, actual, actuals, places_of, own_units, lock_own, in_place}
use Rattle.f77_ast.proofs.StepLaws.{Leads, leads_then}
use Rattle.preconditions.specs.call_translation.Actuals.{actual_at}
use Rattle.laws_analyses.specs.Statements.Evaluations.{AreMany}
use Rattle.laws_analyses.proofs.Statements.Ends.{more}
use Rattle.laws_analyses.proofs.Statements.Evaluations.{value_leads, values_leads}
use Rattle.laws_analyses.specs.Statements.Activation.{is_locked}
use Rattle.laws_analyses.proofs.Statements.Loops.{lock_more, first_some as first_locks}
use Rattle.laws_analyses.specs.Calls.Parts.{nth}
use Rattle.laws_analyses.specs.Calls.Sites.{has_subscript, have_subscripts}
use Rattle.fx_lists.proofs.Numbers.{same_is as nat_same}

module _ (w : Names) (at : Places) (own : ℕ → ℕ) where
  -- what an actual at a place stands for: a variable by its name, a part of an array, or the value of an expression
  pub data Stands (e : ExprTree) (n : ℕ) (x : Actual) : Type 0 where
    as_name : (y : List ℕ) (v : ℕ) → e ≡ tree.name y → w y ≡ Variable v → x ≡ passed_by_reference (at v) → Stands e n x
    as_part : (y : List ℕ) (v : ℕ) → w y ≡ Variable v → ((at v).dims ≡ [] → ⊥) → ((u : ℕ) → in_place x.place u ≡ true → in_place (at v) u ≡ true) → 0 < x.place.extent → x.own ≡ false → Stands e n x
    as_value : x.place.first ≡ own n → x.place.extent ≡ 1 → x.own ≡ true → Stands e n x

  abbrev pub StandFor : ExprTrees → ℕ → List Actual → Type 0
  StandFor tree.no_exprs n [] = Unit {0}
  StandFor tree.no_exprs n (x ∷ xs) = ⊥
  StandFor (tree.more_exprs e es) n [] = ⊥
  StandFor (tree.more_exprs e es) n (x ∷ xs) = Stands e n x × StandFor es (suc n) xs

  stored_leads : (e : ExprTree) (n : ℕ) (c : Content) (s : Store) (i : List Content) → Leads (stored (own n) c) s i (λ x z j. Stands e n x)
  stored_leads e n c s i = as_value refl refl refl

  value_actual : (e f : ExprTree) (n : ℕ) (s : Store) (i : List Content) → Leads (value f w at >>= stored (own n)) s i (λ x z j. Stands e n x)
  value_actual e f n s i = leads_then (value f w at) (stored (own n)) s i _ (value_leads w at s i f _ (λ c. stored_leads e n c s i))

  within_is : (p : Place) (o : Option ℕ) (k : ℕ) → within p o ≡ Some k → k < p.extent
  within_is p None k e = absurd (grind arith)
  within_is p (Some j) k e = pick (nat_lt j p.extent) refl e
    where
      pick : (b : Bool) → nat_lt j p.extent ≡ b → (if b then Some j else None) ≡ Some k → k < p.extent
      pick true q h = let d : j ≡ k = cc in subst (λ x. x < p.extent) d (grind (arith, nat_tests))
      pick false q h = absurd (grind arith)

  none_some : {A : Type 0} (k : ℕ) → None ≡ Some k → A
  none_some k e = absurd (grind arith)

  not_flat : (p : Place) (f : ExprTree) (es : ExprTrees) (ns : List ℤ) (k : ℕ) → AreMany (tree.more_exprs f es) ns → element_in p ns ≡ Some k → p.dims ≡ [] → ⊥
  not_flat p f es [] k many found d = many
  not_flat p f es (n ∷ ns) k many found d = none_some k (sym (ap (λ o. within p (position o (n ∷ ns))) d) ∙ found)

  rest_in : (p : Place) (k : ℕ) (u : ℕ) → in_place (record { first = p.first + k; extent = p.extent - k; tag = p.tag; dims = [] }) u ≡ true → in_place p u ≡ true
  rest_in p k u h = grind (arith, nat_tests)

  part_leads : (y : List ℕ) (v : ℕ) (f : ExprTree) (es : ExprTrees) (n : ℕ) (s : Store) (i : List Content) → w y ≡ Variable v → Leads (values (tree.more_exprs f es) w at >>= λ ns. rest_after (at v) (element_in (at v) ns)) s i (λ x z j. Stands (tree.element y (tree.more_exprs f es)) n x)
  part_leads y v f es n s i e =
      leads_then (values (tree.more_exprs f es) w at) (λ ns. rest_after (at v) (element_in (at v) ns)) s i _ (values_leads w at s i (tree.more_exprs f es) _ (λ ns many. pick ns many (element_in (at v) ns) refl))
    where
      pick : (ns : List ℤ) → AreMany (tree.more_exprs f es) ns → (o : Option ℕ) → element_in (at v) ns ≡ o → Leads (rest_after (at v) o) s i (λ x z j. Stands (tree.element y (tree.more_exprs f es)) n x)
      pick ns many None q = tt
      pick ns many (Some k) q = let l = within_is (at v) (position (at v).dims ns) k q in as_part y v e (λ d. not_flat (at v) f es ns k many q d) (λ u h. rest_in (at v) k u h) (omega (arith, l)) refl

  pub actual_leads : (e : ExprTree) (n : ℕ) (s : Store) (i : List Content) → has_subscript e ≡ true → Leads (actual e w at (own n)) s i (λ x z j. Stands e n x)
  actual_leads (tree.int a) n s i h = value_actual (tree.int a) (tree.int a) n s i
  actual_leads (tree.log a) n s i h = value_actual (tree.log a) (tree.log a) n s i
  actual_leads (tree.name y) n s i h = pick (w y) refl
    where
      pick : (m : Meant) → w y ≡ m → Leads (name_actual m at (own n)) s i (λ x z j. Stands (tree.name y) n x)
      pick (Constant c) e = stored_leads (tree.name y) n c s i
      pick (Variable v) e = as_name y v refl e refl
      pick Function e = tt
  actual_leads (tree.element y tree.no_exprs) n s i h = absurd (true≢false (sym h))
  actual_leads (tree.element y (tree.more_exprs f es)) n s i h = pick (w y) refl
    where
      pick : (m : Meant) → w y ≡ m → Leads (element_actual m (tree.element y (tree.more_exprs f es)) (tree.more_exprs f es) w at (own n)) s i (λ x z j. Stands (tree.element y (tree.more_exprs f es)) n x)
      pick (Constant c) e = tt
      pick (Variable v) e = part_leads y v f es n s i e
      pick Function e = value_actual (tree.element y (tree.more_exprs f es)) (tree.element y (tree.more_exprs f es)) n s i
  actual_leads (tree.paren f) n s i h = value_actual (tree.paren f) (tree.paren f) n s i
  actual_leads (tree.unary o f) n s i h = value_actual (tree.unary o f) (tree.unary o f) n s i
  actual_leads (tree.binary o f g) n s i h = value_actual (tree.binary o f g) (tree.binary o f g) n s i
  actual_leads (tree.chars y) n s i h = tt

  pub actuals_leads : (es : ExprTrees) (n : ℕ) (s : Store) (i : List Content) → have_subscripts es ≡ true → Leads (actuals es n w at own) s i (λ xs z j. StandFor es n xs)
  actuals_leads tree.no_exprs n s i h = tt
  actuals_leads (tree.more_exprs e es) n s i h =
      leads_then (actual e w at (own n)) _ s i _ (more (run (actual e w at (own n)) (Whole s) i) (λ x z j. Stands e n x) _ (λ x z j l.
      leads_then (actuals es (suc n) w at own) _ z j _ (more (run (actuals es (suc n) w at own) (Whole z) j) (λ xs y k. StandFor es (suc n) xs) _ (λ xs y k ls. (l, ls)) (actuals_leads es (suc n) z j (and_parts (has_subscript e) (have_subscripts es) h).1)))
      (actual_leads e n s i (and_parts (has_subscript e) (have_subscripts es) h).0))

  -- the actual at a place
  pub record StandsAt (xs : List Actual) (e : ExprTree) (i n : ℕ) : Type 0 where
    pub actual : Actual
    pub is_actual_at : slice_get xs i ≡ Some actual
    pub stands : Stands e n actual

  pub stands_at : (es : ExprTrees) (n : ℕ) (xs : List Actual) (i : ℕ) (e : ExprTree) → StandFor es n xs → actual_at es i ≡ Some e → StandsAt xs e i (n + i)
  stands_at tree.no_exprs n xs i e h q = cc
  stands_at (tree.more_exprs f es) n [] i e h q = absurd h
  stands_at (tree.more_exprs f es) n (x ∷ xs) zero e h q =
      let same : f ≡ e = cc in
      let off : n ≡ n + 0 = omega arith in
      record { actual = x; is_actual_at = refl; stands = subst (λ y. Stands y (n + 0) x) same (subst (λ k. Stands f k x) off h.0) }
  stands_at (tree.more_exprs f es) n (x ∷ xs) (suc i) e h q =
      let r = stands_at es (suc n) xs i e h.1 q in
      let off : suc n + i ≡ n + suc i = omega arith in
      record { actual = r.actual; is_actual_at = r.is_actual_at; stands = subst (λ k. Stands e k r.actual) off r.stands }

-- ---- places and locks

pub nth_place : (xs : List Actual) (i : ℕ) (x : Actual) → slice_get xs i ≡ Some x → nth (places_of xs) i ≡ x.place
nth_place [] i x e = cc
nth_place (y ∷ xs) zero x e = let same : y ≡ x = cc in ap (λ a. a.place) same
nth_place (y ∷ xs) (suc i) x e = nth_place xs i x e

pub own_more : (locked : Locks) (us : List ℕ) (u : ℕ) → is_locked locked u ≡ true → is_locked (lock_own locked us) u ≡ true
own_more locked [] u h = h
own_more locked (v ∷ us) u h = own_more (lock locked v Locked) us u (lock_more locked v Locked u h)

-- a unit that is locked was locked, or is one of these
pub own_less : (locked : Locks) (us : List ℕ) (X : Type 0) (u : ℕ) → is_locked (lock_own locked us) u ≡ true → (is_locked locked u ≡ true → X) → ((i : ℕ) → slice_get us i ≡ Some u → X) → X
own_less locked [] X u h f g = f h
own_less locked (v ∷ us) X u h f g = own_less (lock locked v Locked) us X u h (λ q. go (nat_eq u v) refl q) (λ i e. g (suc i) e)
  where
    go : (b : Bool) → nat_eq u v ≡ b → is_some (if b then first_lock (locked u) Locked else locked u) ≡ true → X
    go true e q = g zero (ap Some (sym (nat_same u v e)))
    go false e q = f q

-- the units of expressions are those of actuals that are their own
pub record OwnUnit (xs : List Actual) (u : ℕ) : Type 0 where
  pub at : ℕ
  pub actual : Actual
  pub is_there : slice_get xs at ≡ Some actual
  pub own : actual.own ≡ true
  pub unit : actual.place.first ≡ u

own_later : (x : Actual) (xs : List Actual) (u : ℕ) → OwnUnit xs u → OwnUnit (x ∷ xs) u
own_later x xs u r = record { at = suc r.at; actual = r.actual; is_there = r.is_there; own = r.own; unit = r.unit }

pub own_unit_of : (xs : List Actual) (i u : ℕ) → slice_get (own_units xs) i ≡ Some u → OwnUnit xs u
own_unit_of [] i u e = cc
own_unit_of (x ∷ xs) i u e = go x.own refl i e (λ k q. own_later x xs u (own_unit_of xs k u q))
  where
    go : (b : Bool) → x.own ≡ b → (i : ℕ) → slice_get (if b then x.place.first ∷ own_units xs else own_units xs) i ≡ Some u → ((k : ℕ) → slice_get (own_units xs) k ≡ Some u → OwnUnit (x ∷ xs) u) → OwnUnit (x ∷ xs) u
    go true q zero f ih = record { at = zero; actual = x; is_there = refl; own = q; unit = cc }
    go true q (suc k) f ih = ih k f
    go false q k f ih = ih k f

module _ (w : Names) (at : Places) (own : ℕ → ℕ) where
  pub stands_back : (es : ExprTrees) (n : ℕ) (xs : List Actual) (i : ℕ) (x : Actual) → StandFor w at own es n xs → slice_get xs i ≡ Some x → (e : ExprTree) × Stands w at own e (n + i) x
  stands_back tree.no_exprs n [] i x h q = cc
  stands_back tree.no_exprs n (y ∷ xs) i x h q = absurd h
  stands_back (tree.more_exprs f es) n [] i x h q = absurd h
  stands_back (tree.more_exprs f es) n (y ∷ xs) zero x h q = (let same : y ≡ x = cc in let off : n ≡ n + 0 = omega arith in (f, subst (λ a. Stands w at own f (n + 0) a) same (subst (λ k. Stands w at own f k y) off h.0)))
  stands_back (tree.more_exprs f es) n (y ∷ xs) (suc i) x h q = (let r = stands_back es (suc n) xs i x h.1 q in let off : suc n + i ≡ n + suc i = omega arith in (r.0, subst (λ k. Stands w at own r.0 k x) off r.1))
