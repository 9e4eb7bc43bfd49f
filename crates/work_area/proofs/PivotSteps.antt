-- Steps of looking for pivots and of their substitution.
use Rattle.std.proofs.Common.{◌≡◌, ℕ, ◌+◌, ◌≤◌, ◌<◌, Bool, true, false, List, length, take, drop, get_or, arith, sym, Some, None}
use Rattle.affine_systems.specs.declared.row.Var.{Var}
use Rattle.affine_systems.specs.declared.items.Item.{Item}
use Rattle.affine_systems.specs.Points.{occurs}
use Rattle.affine_systems.specs.Items.{cut_at, cut_of}
use Rattle.affine_systems.specs.Tidy.{times}
use Rattle.affine_systems.proofs.PivotSteps.{times-have, times-lack, times-end, cut-passed, cut-found, cut-end, after}
use Rattle.affine_systems.specs.Eliminate.{any_has}
use Rattle.elimination.proofs.ElimSteps.{has-lack, has-found, has-end}
use Rattle.std.proofs.lemmas.Bool.Decides.{nat_tests}
use Rattle.work_area.specs.declared.slot.Slot.{Slot}
use Rattle.work_area.specs.Slots.{row_in, item_in, items_in}
use Rattle.work_area.proofs.Swaps.{item_read, length-items_in}

pub times-found : (v : Var) (ss : List Slot) (k : ℕ) (s : Slot) → k < length ss → s ≡ get_or ss k s → occurs v (row_in s) ≡ true → times v (drop k (items_in ss)) ≡ 1 + times v (drop (k + 1) (items_in ss))
times-found v ss k s l h e = times-have v (items_in ss) k (item_in s) (omega (arith, l, length-items_in ss)) (sym (item_read ss k s (item_in s) l h)) e

pub times-passed : (v : Var) (ss : List Slot) (k : ℕ) (s : Slot) → k < length ss → s ≡ get_or ss k s → occurs v (row_in s) ≡ false → times v (drop k (items_in ss)) ≡ times v (drop (k + 1) (items_in ss))
times-passed v ss k s l h e = times-lack v (items_in ss) k (item_in s) (omega (arith, l, length-items_in ss)) (sym (item_read ss k s (item_in s) l h)) e

pub times-done : (v : Var) (ss : List Slot) (k : ℕ) → length ss ≤ k → times v (drop k (items_in ss)) ≡ 0
times-done v ss k l = times-end v (items_in ss) k (omega (arith, l, length-items_in ss))

pub ruleset times_loop = (times-found, times-passed, times-done, nat_tests)

pub cut-on : (f : Item → Bool) (ss : List Slot) (k : ℕ) (s : Slot) → k < length ss → s ≡ get_or ss k s → f (item_in s) ≡ false → after (take k (items_in ss)) (cut_at f (drop k (items_in ss))) ≡ after (take (k + 1) (items_in ss)) (cut_at f (drop (k + 1) (items_in ss)))
cut-on f ss k s l h e = cut-passed f (items_in ss) k (item_in s) (omega (arith, l, length-items_in ss)) (sym (item_read ss k s (item_in s) l h)) e

pub cut-here : (f : Item → Bool) (ss : List Slot) (k : ℕ) (s : Slot) → k < length ss → s ≡ get_or ss k s → f (item_in s) ≡ true → after (take k (items_in ss)) (cut_at f (drop k (items_in ss))) ≡ Some (cut_of (items_in ss) k)
cut-here f ss k s l h e = cut-found f (items_in ss) k (item_in s) (omega (arith, l, length-items_in ss)) (sym (item_read ss k s (item_in s) l h)) e

pub cut-done : (f : Item → Bool) (ss : List Slot) (k : ℕ) → length ss ≤ k → after (take k (items_in ss)) (cut_at f (drop k (items_in ss))) ≡ None
cut-done f ss k l = cut-end f (items_in ss) k (omega (arith, l, length-items_in ss))

pub ruleset cut_loop = (cut-on, cut-here, cut-done)

pub has-passed : (v : Var) (ss : List Slot) (k : ℕ) (s : Slot) → k < length ss → s ≡ get_or ss k s → occurs v (row_in s) ≡ false → any_has v (drop k (items_in ss)) ≡ any_has v (drop (k + 1) (items_in ss))
has-passed v ss k s l h e = has-lack v (items_in ss) k (item_in s) (omega (arith, l, length-items_in ss)) (sym (item_read ss k s (item_in s) l h)) e

pub has-here : (v : Var) (ss : List Slot) (k : ℕ) (s : Slot) → k < length ss → s ≡ get_or ss k s → occurs v (row_in s) ≡ true → any_has v (drop k (items_in ss)) ≡ true
has-here v ss k s l h e = has-found v (items_in ss) k (item_in s) (omega (arith, l, length-items_in ss)) (sym (item_read ss k s (item_in s) l h)) e

pub has-done : (v : Var) (ss : List Slot) (k : ℕ) → length ss ≤ k → any_has v (drop k (items_in ss)) ≡ false
has-done v ss k l = has-end v (items_in ss) k (omega (arith, l, length-items_in ss))

pub ruleset has_loop = (has-passed, has-here, has-done)
