-- The rounds of a tidy after the form of its rows.
use Rattle.std.proofs.Common.{◌≡◌, ℕ, suc, Bool, ◌||◌, List, Some, None, ap, ap₂, sym, subst, ◌∙◌}
use Rattle.affine_systems.specs.declared.items.Item.{Item}
use Rattle.affine_systems.specs.declared.items.Tidied.{Tidied}
use Rattle.affine_systems.specs.Items.{tidied, cut_of}
use Rattle.affine_systems.specs.Tidy.{merged, round, next_pivot, pivoted, turn_limit, after_round, tidy_turns, tidy_items}
use Rattle.affine_systems.specs.Given.{ItemsGiven, ItemsSmall}
use Rattle.affine_systems.specs.Forms.{IsForm, HasForm}
use Rattle.affine_systems.proofs.TurnSteps.{small_form, small_round, first_turn, given_after}

pub form_small : (q : Bool) (js : List Item) (lost : Bool) → HasForm q js lost → ItemsSmall js
form_small q js lost h = subst ItemsSmall (sym h.is_form.form) (small_form q h.rows h.given)

module _ (q : Bool) (js : List Item) (lost : Bool) (some : List Item) (m : some ≡ merged js) where
  rounded : (is : List Item) → IsForm q is js lost → some ≡ (round q is).items
  rounded is f = m ∙ ap merged f.form

  pub some_small : HasForm q js lost → ItemsSmall some
  some_small h = subst ItemsSmall (sym (rounded h.rows h.is_form)) (small_round q h.rows h.given)

  pub next_given : HasForm q js lost → (at : ℕ) (next : List Item) → next_pivot some ≡ Some (cut_of some at) → next ≡ pivoted some (cut_of some at) → ItemsGiven next
  next_given h at next p y =
      let e = rounded h.rows h.is_form in
      let r = (round q h.rows).items in
      let c : next_pivot r ≡ Some (cut_of r at) = ap next_pivot (sym e) ∙ (p ∙ ap (λ (ks : List Item). Some (cut_of ks at)) e) in
      subst ItemsGiven (sym (y ∙ ap (λ (ks : List Item). pivoted ks (cut_of ks at)) e)) (given_after q h.rows (cut_of r at) h.given c)

  module _ (n : ℕ) (before : suc n ≡ turn_limit) where
    pub form_stops : next_pivot some ≡ None → (is : List Item) → IsForm q is js lost → tidied some lost ≡ tidy_items q is
    form_stops p is f =
        let e = rounded is f in
        ap₂ (λ (ks : List Item) b. tidied ks b) e f.losing
        ∙ sym (first_turn q is n before ∙ ap (after_round (λ ks. tidy_turns n q ks) (round q is)) (ap next_pivot (sym e) ∙ p))

    pub form_goes_on : (at : ℕ) (next : List Item) (t : Tidied) → next_pivot some ≡ Some (cut_of some at) → next ≡ pivoted some (cut_of some at) → t ≡ tidy_turns n q next → (is : List Item) → IsForm q is js lost → tidied t.items (lost || t.lost) ≡ tidy_items q is
    form_goes_on at next t p y h is f =
        let e = rounded is f in
        let r = round q is in
        let c : next_pivot r.items ≡ Some (cut_of r.items at) = ap next_pivot (sym e) ∙ (p ∙ ap (λ (ks : List Item). Some (cut_of ks at)) e) in
        let x : t ≡ tidy_turns n q (pivoted r.items (cut_of r.items at)) = h ∙ ap (tidy_turns n q) (y ∙ ap (λ (ks : List Item). pivoted ks (cut_of ks at)) e) in
        ap₂ (λ (u : Tidied) b. tidied u.items (b || u.lost)) x f.losing
        ∙ sym (first_turn q is n before ∙ ap (after_round (λ ks. tidy_turns n q ks) r) c)
