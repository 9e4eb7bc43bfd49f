-- What a form of rows holds, and the rows for which it stands.
use Rattle.std.specs.Prelude.{◌≡◌, Bool, false, nat_lt, List, length, take}
use Rattle.affine_systems.specs.declared.items.Item.{Item}
use Rattle.elimination.specs.declared.pairing.Form.{Form}
use Rattle.affine_systems.specs.Items.{AllItems, rows_of, is_false_row, any_false}
use Rattle.affine_systems.specs.Tidy.{normal_items, any_too_big, sorted, one_each, row_limit}
use Rattle.affine_systems.specs.Lone.{Rises}
use Rattle.affine_systems.specs.Forms.{Ordered}

-- a form holds the first of normal rows in order, one for each list of terms
pub record Holds (ns : List Item) (f : Form) : Type 0 where
  pub whole : List Item
  pub ordered : Ordered (sorted ns)
  pub once : whole ≡ one_each (sorted ns)
  pub rises : Rises (rows_of whole)
  pub clear : AllItems (λ i. is_false_row i.row ≡ false) whole
  pub held : f.items.items ≡ take row_limit whole
  pub over : f.is_over ≡ nat_lt row_limit (length whole)

-- a form stands for rows
pub record Stands (rational : Bool) (is : List Item) (f : Form) : Type 0 where
  pub big : f.too_big ≡ any_too_big rational is
  pub never : f.is_false ≡ any_false (normal_items rational is)
  pub rises : Rises (rows_of f.items.items)
  pub rest : f.is_false ≡ false → Holds (normal_items rational is) f
