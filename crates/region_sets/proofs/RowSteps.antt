-- Rows of the range of a loop are given to calls as they are asked.
use Rattle.std.proofs.Common.{◌≡◌, ℕ, ◌<◌, ◌≤◌, ◌^◌, Bool, true, false, List, [], ◌∷◌, ◌++◌, ℤ, pos, negsuc, neg_ℤ, unsigned_abs, nat_lt, arith, refl, append_assoc, append-nil}
use Rattle.std.proofs.lemmas.Int.{ints}
use Rattle.std.proofs.lemmas.Bool.Decides.{nat_tests}
use Rattle.std.specs.Ordering.{int_eq}
use Rattle.hull_projection.proofs.GivenLaws.{at_least_0_given}
use Rattle.hull_projection.proofs.VarLaws.{aux_lt}
use Rattle.affine_forms.specs.Forms.{IsSmallForm}
use Rattle.region_sets.specs.Loops.{start_of}
use Rattle.transformers.proofs.CallTranslation.Steps.{given-push}
use Rattle.fx_lists.proofs.Numbers.{size_turned as abs-neg}

not_zero : (s : ℤ) → nat_lt 1 (unsigned_abs s) ≡ true → int_eq (neg_ℤ s) (pos 0) ≡ false
not_zero (pos n) e = grind (arith, ints, nat_tests)
not_zero (negsuc n) e = grind (arith, ints, nat_tests)

pub start_small : (s : ℤ) → unsigned_abs s < 2 ^ 62 → nat_lt 1 (unsigned_abs s) ≡ true → IsSmallForm (start_of s)
start_small s h e =
    let k = abs-neg s in
    let below : unsigned_abs (neg_ℤ s) < 2 ^ 62 = omega (arith, k, h) in
    (((refl, (aux_lt 0 1 (omega arith), tt), (not_zero s e, tt, tt)), (omega arith, (below, tt))), omega arith)

pub ruleset range_steps = (given-push, start_small, at_least_0_given, append_assoc, append-nil)
