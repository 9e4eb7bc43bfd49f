-- The turns of a DO, one after the other.
use Rattle.std.proofs.Common.{◌≡◌, ℕ, zero, suc, Option, Some, None, refl, ℤ, ◌+ℤ◌}
use Rattle.f77_ast.specs.Store.{Content, Store, put, Int, content}
use Rattle.f77_ast.specs.Numbers.{kept}
use Rattle.f77_ast.specs.Values.{given}
use Rattle.f77_ast.specs.Plans.{Flow, Normal, Jump, Returned, Stopped, Plan, first, on_normal, Set as SetPlan}
use Rattle.f77_ast.specs.Executions.{Claim}
use Rattle.f77_ast.specs.Loops.{iterations_from}
use Rattle.laws_analyses.specs.Statements.Good.{Good}
use Rattle.laws_analyses.proofs.Statements.Rules.{good_ends, good_breaks, good_more, good_then, good_set}

-- I k m: what holds where the turn begins that has k turns to go, with the number m of the index; and after the last turn, where k is 0
module _ (C : Claim) (step : ℤ) (u : ℕ) (body : Plan) (I : ℕ → ℤ → Store → Type 0) (Q : Flow → Store → Type 0) where
  abbrev pub Turn_ends : ℕ → ℤ → Flow → Store → Type 0
  Turn_ends k m Normal y = (n : ℤ) → kept (m +ℤ step) ≡ Some n → I k n (put y u (content Int n))
  Turn_ends k m (Jump l) y = Q (Jump l) y
  Turn_ends k m Returned y = Q Returned y
  Turn_ends k m Stopped y = Q Stopped y

  pub turns_good : ((k : ℕ) (m : ℤ) (z : Store) → I (suc k) m z → Good C body z (Turn_ends k m)) → ((m : ℤ) (z : Store) → I 0 m z → Q Normal z) → (k : ℕ) (m : ℤ) (z : Store) → I k m z → Good C (iterations_from k m step u body) z Q
  turns_good turn last zero m z i = good_ends C Normal z Q (last m z i)
  turns_good turn last (suc k) m z i =
      good_then C body (λ f. on_normal f (first (given Int (kept (m +ℤ step))) (λ c. SetPlan u c (iterations_from k c.number step u body)))) z Q
      (good_more C body z (Turn_ends k m) _ (λ f y h. next f y h (λ n x. turns_good turn last k n (put y u (content Int n)) x)) (turn k m z i))
    where
      next : (f : Flow) (y : Store) → Turn_ends k m f y → ((n : ℤ) → I k n (put y u (content Int n)) → Good C (iterations_from k n step u body) (put y u (content Int n)) Q) → Good C (on_normal f (first (given Int (kept (m +ℤ step))) (λ c. SetPlan u c (iterations_from k c.number step u body)))) y Q
      next Normal y h ih = go (kept (m +ℤ step)) refl
        where
          go : (o : Option ℤ) → kept (m +ℤ step) ≡ o → Good C (first (given Int o) (λ c. SetPlan u c (iterations_from k c.number step u body))) y Q
          go None e = good_breaks C _ y Q
          go (Some n) e = good_set C u (content Int n) (iterations_from k n step u body) y Q (ih n (h n e))
      next (Jump l) y h ih = good_ends C (Jump l) y Q h
      next Returned y h ih = good_ends C Returned y Q h
      next Stopped y h ih = good_ends C Stopped y Q h
