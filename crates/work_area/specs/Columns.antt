-- The variables of rows, and rows that have room for what becomes of them.
use Rattle.std.specs.Prelude.{◌≡◌, ℕ, ◌<◌, ◌≤◌, Bool, true, false, if◌then◌else◌, pos, List, [], ◌∷◌, length}
use Rattle.affine_systems.specs.declared.row.Var.{Var}
use Rattle.affine_systems.specs.declared.row.Term.{Term}
use Rattle.affine_systems.specs.declared.row.Row.{Row}
use Rattle.affine_systems.specs.declared.items.Item.{Item}
use Rattle.affine_systems.specs.Terms.{add_term, Ascends}
use Rattle.affine_systems.specs.Items.{AllItems}
use Rattle.affine_systems.specs.Places.{has_var}
use Rattle.work_area.specs.declared.slot.Slot.{Slot}
use Rattle.work_area.specs.Slots.{HaveRoom}

-- the variables of the one sum are variables of the other
abbrev pub AreAmong : List Term → List Term → Type 0
AreAmong us [] = Unit {0}
AreAmong us (t ∷ ts) = (has_var t.var us ≡ true) × AreAmong us ts

-- the rows have at most n variables: those of a sum of at most n terms
pub record InColumns (n : ℕ) (is : List Item) : Type 0 where
  pub columns : List Term
  pub ascends : Ascends columns
  pub few : length columns ≤ n
  pub among : AllItems (λ i. AreAmong columns i.row.terms) is

-- each of the places has room for any row with the variables of the rows
pub record IsRoomy (ss : List Slot) (is : List Item) : Type 0 where
  pub width : ℕ
  pub wide : HaveRoom width ss
  pub held : InColumns width is

-- the sum with a variable more, unless it stands there
abbrev pub noted : Var → List Term → List Term
noted v us = if has_var v us then us else add_term v (pos 1) us

-- the variables of terms, one after another
abbrev pub noted_terms : List Term → List Term → List Term
noted_terms us [] = us
noted_terms us (t ∷ ts) = noted_terms (noted t.var us) ts

abbrev pub noted_rows : List Term → List Row → List Term
noted_rows us [] = us
noted_rows us (r ∷ rs) = noted_rows (noted_terms us r.terms) rs

-- whether a sum was found to have at most n terms, and then it is there
pub record Notes (n : ℕ) (goal new : List Term) (fits : Bool) : Type 0 where
  pub done : fits ≡ true → (new ≡ goal) × (length goal ≤ n)
  pub full : fits ≡ false → n < length goal
