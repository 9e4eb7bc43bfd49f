-- Steps of the rounds of tidying.
use Rattle.std.proofs.Common.{◌≡◌, ℕ, suc, ◌-◌, ◌<◌, Bool, true, false, ◌||◌, List, [], ◌∷◌, take, arith, ap, ap₂, refl, sym, subst, ◌∙◌, Option, Some, None}
use Rattle.affine_systems.specs.declared.items.Item.{Item}
use Rattle.affine_systems.specs.declared.items.Tidied.{Tidied}
use Rattle.affine_systems.specs.Items.{tidied, Cut, cut_of}
use Rattle.affine_systems.specs.Tidy.{row_limit, in_form, is_lossy, round, next_pivot, pivoted, turn_limit, and_lost, after_round, tidy_turns, tidy_items}
use Rattle.affine_systems.specs.Given.{IsGiven, ItemsGiven, ItemsSmall}
use Rattle.affine_systems.proofs.LastLaws.{Has, cut_form_has, round_has, next_has}
use Rattle.affine_systems.proofs.FitLaws.{IsTidy, tidy_small, tidy_lasts}
use Rattle.fx_lists.proofs.Booleans.{or_assoc}

pub tidy_all_small : (q : Bool) (is : List Item) → Has (IsTidy q) is → ItemsSmall is
tidy_all_small q [] h = tt
tidy_all_small q (i ∷ is) h = (tidy_small q i.row h.0, tidy_all_small q is h.1)

pub small_form : (q : Bool) (is : List Item) → ItemsGiven is → ItemsSmall (take row_limit (in_form q is))
small_form q is h = tidy_all_small q (take row_limit (in_form q is)) (cut_form_has IsGiven (IsTidy q) q (tidy_lasts q) is h)

pub small_round : (q : Bool) (is : List Item) → ItemsGiven is → ItemsSmall (round q is).items
small_round q is h = tidy_all_small q (round q is).items (round_has IsGiven (IsTidy q) q (tidy_lasts q) is h)

-- what the rounds that are left make, which is the goal
pub record TurnsLeft (q : Bool) (is : List Item) (lost : Bool) (left : ℕ) (goal : Tidied) : Type 0 where
  pub given : ItemsGiven is
  pub turns : (n : ℕ) → n ≡ left → and_lost lost (tidy_turns n q is) ≡ goal

limit_is : turn_limit ≡ 17592186044416
unfolding turn_limit
limit_is = refl

pub turns_start : (q : Bool) (is : List Item) (m : ℕ) → ItemsGiven is → TurnsLeft q is false m (tidy_turns m q is)
turns_start q is m h = record { given = h; turns = λ n s. ap (λ k. and_lost false (tidy_turns k q is)) s }

pub all_turns : (q : Bool) (is : List Item) → tidy_turns 17592186044416 q is ≡ tidy_items q is
all_turns q is = ap (λ k. tidy_turns k q is) (sym limit_is)

-- the first round
pub first_turn : (q : Bool) (is : List Item) (n : ℕ) → suc n ≡ turn_limit → tidy_items q is ≡ after_round (λ js. tidy_turns n q js) (round q is) (next_pivot (round q is).items)
first_turn q is n e = ap (λ k. tidy_turns k q is) (sym e)

pub last_turns : (n : ℕ) → suc n ≡ 17592186044416 → suc n ≡ turn_limit
last_turns n e = e ∙ sym limit_is

pub given_after : (q : Bool) (is : List Item) (c : Cut) → ItemsGiven is → next_pivot (round q is).items ≡ Some c → ItemsGiven (pivoted (round q is).items c)
given_after q is c h e = next_has IsGiven (IsTidy q) q (tidy_lasts q) is c h e

module _ (q : Bool) (is : List Item) (lost : Bool) (left : ℕ) (goal : Tidied) (h : TurnsLeft q is lost left goal) (some : List Item) (less : Bool) (r : some ≡ (round q is).items) (l : less ≡ is_lossy q is) where
  -- the rounds from this one on, by where the next pivot is
  now : (n : ℕ) → suc n ≡ left → (o : Option Cut) → next_pivot some ≡ o → and_lost lost (after_round (λ js. tidy_turns n q js) (round q is) o) ≡ goal
  now n s o e =
      ap (λ p. and_lost lost (after_round (λ js. tidy_turns n q js) (round q is) p)) (sym (ap next_pivot (sym r) ∙ e)) ∙ h.turns (suc n) s

  pub turns_more : 0 < left → (at : ℕ) (next : List Item) (after : Bool) (n : ℕ) → n ≡ left - 1 → next_pivot some ≡ Some (cut_of some at) → next ≡ pivoted some (cut_of some at) → after ≡ (lost || less) → TurnsLeft q next after n goal
  turns_more p at next after n m e x a =
      let c = cut_of some at in
      let f : next_pivot (round q is).items ≡ Some c = ap next_pivot (sym r) ∙ e in
      let g : pivoted (round q is).items c ≡ next = ap (λ js. pivoted js c) (sym r) ∙ sym x in record {
        given = subst ItemsGiven g (next_has IsGiven (IsTidy q) q (tidy_lasts q) is c h.given f);
        turns = λ k s. let t : suc k ≡ left = omega arith in
            ap₂ (λ b js. and_lost b (tidy_turns k q js)) (a ∙ ap (λ d. lost || d) l) (sym g)
            ∙ (ap (λ d. tidied (tidy_turns k q (pivoted (round q is).items c)).items d) (sym (or_assoc lost (is_lossy q is) (tidy_turns k q (pivoted (round q is).items c)).lost)) ∙ now k t (Some c) e);
      }

  pub turns_stop : 0 < left → next_pivot some ≡ None → (after : Bool) → after ≡ (lost || less) → tidied some after ≡ goal
  turns_stop p e after a =
      let t : suc (left - 1) ≡ left = omega arith in
      ap₂ (λ (js : List Item) b. tidied js b) r (a ∙ ap (λ d. lost || d) l) ∙ now (left - 1) t None e

  pub turns_end : left ≡ 0 → (after : Bool) → after ≡ (lost || less) → tidied some after ≡ goal
  turns_end e after a =
      ap₂ (λ (js : List Item) b. tidied js b) r (a ∙ ap (λ d. lost || d) l) ∙ h.turns 0 (sym e)
