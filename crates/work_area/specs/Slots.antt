-- Rows in reserved memory, as items.
use Rattle.std.specs.Prelude.{ℕ, ◌≤◌, List, length, map}
use Rattle.std.specs.List.{All}
use Rattle.std.specs.Vec.{vec_capacity}
use Rattle.affine_systems.specs.declared.row.Row.{Row}
use Rattle.affine_systems.specs.declared.items.Item.{Item}
use Rattle.work_area.specs.declared.slot.Slot.{Slot}
use Rattle.affine_systems.specs.Rows.{row}
use Rattle.affine_systems.specs.Items.{item}

abbrev pub row_in : Slot → Row
row_in s = row s.equal s.terms.items s.bound

abbrev pub item_in : Slot → Item
item_in s = item (row_in s) s.originals s.made

abbrev pub items_in : List Slot → List Item
items_in ss = map item_in ss

-- how many terms are reserved
abbrev pub room : Slot → ℕ
room s = vec_capacity s.terms

abbrev pub HaveRoom : ℕ → List Slot → Type 0
HaveRoom n ss = All (λ s. n ≤ room s) ss

-- whatever room all had, all have
pub record KeepsRoom (old new : List Slot) : Type 0 where
  pub kept : (n : ℕ) → HaveRoom n old → HaveRoom n new

-- none has more terms than n
abbrev pub AreShort : ℕ → List Slot → Type 0
AreShort n ss = All (λ s. length s.terms.items ≤ n) ss

-- each of the rows finds room in each of the others
pub record FitIn (rows out : List Slot) : Type 0 where
  pub width : ℕ
  pub short : AreShort width rows
  pub wide : HaveRoom width out
