-- Tables of rows in reserved memory.
use Rattle.std.specs.Prelude.{◌≡◌, ℕ, ◌<◌, ◌≤◌, List, length, take}
use Rattle.std.specs.List.{All}
use Rattle.affine_systems.specs.declared.row.Row.{Row}
use Rattle.affine_systems.specs.declared.items.Item.{Item}
use Rattle.affine_systems.specs.Items.{AllItems}
use Rattle.work_area.specs.declared.slot.Slot.{Slot}
use Rattle.work_area.specs.declared.tables.Tables.{Tables}
use Rattle.work_area.specs.Slots.{items_in, room, HaveRoom}
use Rattle.work_area.specs.Columns.{InColumns}

-- each row finds room in each place
pub record FitAll (rows : List Row) (out : List Slot) : Type 0 where
  pub width : ℕ
  pub short : All (λ (r : Row). length r.terms ≤ width) rows
  pub wide : HaveRoom width out

-- the rows that are held
abbrev pub items_of : Tables → List Item
items_of t = take t.len (items_in t.rows.items)

-- 512 places twice, two more, and room for n terms in each
pub record IsReady (n : ℕ) (t : Tables) : Type 0 where
  pub places : length t.rows.items ≡ 512
  pub more : length t.others.items ≡ 512
  pub within : t.len ≤ 512
  pub rows : HaveRoom n t.rows.items
  pub others : HaveRoom n t.others.items
  pub scratch : n ≤ room t.scratch
  pub pivot : n ≤ room t.pivot

-- the rows have at most as many variables as there is room for
pub record IsSound (t : Tables) : Type 0 where
  pub width : ℕ
  pub ready : IsReady width t
  pub held : InColumns width (items_of t)

pub record KeepsReady (old new : Tables) : Type 0 where
  pub kept : (n : ℕ) → IsReady n old → IsReady n new

-- the rows were made before that with a number
abbrev pub MadeBelow : ℕ → List Item → Type 0
MadeBelow n is = AllItems (λ i. i.made < n) is
