-- Lists of statements: in order, and with jumps to their labels.
use Rattle.std.proofs.Common.{◌≡◌, ℕ, zero, suc, ◌||◌, List, [], ◌∷◌, Bool, true, false, refl, sym, true≢false}
use Rattle.std.specs.Prelude.{if◌then◌else◌}
use Rattle.f77_ast.specs.Store.{Store}
use Rattle.f77_ast.specs.Steps.{OutOfTurns}
use Rattle.f77_ast.specs.Plans.{Flow, Normal, Jump, Returned, Stopped, Plan, Ends, Breaks}
use Rattle.f77_ast.specs.Executions.{Claim}
use Rattle.f77_ast.specs.Lists.{Part, is_label, has_label, from_label, go_on, in_order, with_jumps}
use Rattle.laws_analyses.specs.Statements.Good.{Good}
use Rattle.laws_analyses.proofs.Statements.Rules.{good_ends, good_breaks, good_more, good_then}

abbrev pub Choice : Bool → Type 0 → Type 0 → Type 0
Choice true A B = A
Choice false A B = B

-- the place of the statement with a label, where the first has the place k
abbrev pub at_label : ℕ → ℕ → List Part → ℕ
at_label l k [] = k
at_label l k (q ∷ qs) = if is_label l q.label then k else at_label l (suc k) qs

-- I: what holds where the statement of each place begins. Q: how the list ends
module _ (C : Claim) (I : ℕ → Store → Type 0) (Q : Flow → Store → Type 0) (all : List Part) where
  abbrev pub Next_holds : ℕ → Flow → Store → Type 0
  Next_holds k Normal z = I (suc k) z
  Next_holds k (Jump l) z = Choice (has_label l all) (I (at_label l 0 all) z) (Q (Jump l) z)
  Next_holds k Returned z = Q Returned z
  Next_holds k Stopped z = Q Stopped z

  abbrev pub Verified : ℕ → List Part → Type 0
  Verified k [] = (z : Store) → I k z → Q Normal z
  Verified k (q ∷ qs) = ((z : Store) → I k z → Good C q.does z (Next_holds k)) × Verified (suc k) qs

  verified_from : (l k : ℕ) (qs : List Part) → has_label l qs ≡ true → Verified k qs → Verified (at_label l k qs) (from_label l qs)
  verified_from l k [] e v = absurd (true≢false (sym e))
  verified_from l k (q ∷ qs) e v = go (is_label l q.label) e (λ e'. verified_from l (suc k) qs e' v.1)
    where
      go : (b : Bool) → (b || has_label l qs) ≡ true → (has_label l qs ≡ true → Verified (at_label l (suc k) qs) (from_label l qs)) → Verified (if b then k else at_label l (suc k) qs) (if b then q ∷ qs else from_label l qs)
      go true e' ih = v
      go false e' ih = ih e'

  in_order_good : (jump : ℕ → Plan) → ((l : ℕ) → has_label l all ≡ true → (z : Store) → I (at_label l 0 all) z → Good C (jump l) z Q) → (k : ℕ) (qs : List Part) → Verified k qs → (z : Store) → I k z → Good C (in_order jump all qs) z Q
  in_order_good jump jumps k [] v z i = good_ends C Normal z Q (v z i)
  in_order_good jump jumps k (q ∷ qs) v z i =
      good_then C q.does (go_on jump all (in_order jump all qs)) z Q
      (good_more C q.does z (Next_holds k) (λ f y. Good C (go_on jump all (in_order jump all qs) f) y Q) (λ f y h. next f y h (λ j. in_order_good jump jumps (suc k) qs v.1 y j)) (v.0 z i))
    where
      next : (f : Flow) (y : Store) → Next_holds k f y → (I (suc k) y → Good C (in_order jump all qs) y Q) → Good C (go_on jump all (in_order jump all qs) f) y Q
      next Normal y h ih = ih h
      next (Jump l) y h ih = go (has_label l all) refl h
        where
          go : (b : Bool) → has_label l all ≡ b → Choice b (I (at_label l 0 all) y) (Q (Jump l) y) → Good C (if b then jump l else Ends (Jump l)) y Q
          go true e c = jumps l e y c
          go false e c = good_ends C (Jump l) y Q c
      next Returned y h ih = good_ends C Returned y Q h
      next Stopped y h ih = good_ends C Stopped y Q h

  pub jumps_good : Verified 0 all → (n k : ℕ) (qs : List Part) → Verified k qs → (z : Store) → I k z → Good C (with_jumps n all qs) z Q
  jumps_good v zero k qs w z i = in_order_good (λ l. Breaks OutOfTurns) (λ l e y j. good_breaks C OutOfTurns y Q) k qs w z i
  jumps_good v (suc n) k qs w z i =
      in_order_good (λ l. with_jumps n all (from_label l all)) (λ l e y j. jumps_good v n (at_label l 0 all) (from_label l all) (verified_from l 0 all e v) y j) k qs w z i
