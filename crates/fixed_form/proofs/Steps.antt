-- The two cases of a step.
use Rattle.std.proofs.Common.{◌≡◌, ℕ, List, refl, Bool, true, false, if◌then◌else◌}
use Rattle.fixed_form.specs.declared.progress.Progress.{Progress}
use Rattle.fixed_form.specs.Cards.{is_initial}
use Rattle.fixed_form.specs.Steps.{step, initial, continuation}

choice-true : (b : Bool) (p q : Progress) → true ≡ b → (if b then p else q) ≡ p
choice-true true p q h = refl
choice-true false p q h = cc

choice-false : (b : Bool) (p q : Progress) → false ≡ b → (if b then p else q) ≡ q
choice-false false p q h = refl
choice-false true p q h = cc

pub step-initial : (n : ℕ) (card : List ℕ) (p : Progress) → true ≡ is_initial card → step n card p ≡ initial n card p
unfolding step
step-initial n card p h = choice-true (is_initial card) _ _ h

pub step-continuation : (n : ℕ) (card : List ℕ) (p : Progress) → false ≡ is_initial card → step n card p ≡ continuation n card p
unfolding step
step-continuation n card p h = choice-false (is_initial card) _ _ h

pub ruleset step_cases = (step-initial, step-continuation)
