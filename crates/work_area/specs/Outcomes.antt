-- What elimination does.
use Rattle.std.specs.Prelude.{◌≡◌, ◌++◌, ℕ, false, List}
use Rattle.affine_systems.specs.declared.row.Var.{Var}
use Rattle.affine_systems.specs.declared.items.Item.{Item}
use Rattle.affine_systems.specs.Eliminate.{eliminate_item, keep, is_without, is_lower, is_upper, pairs}
use Rattle.work_area.specs.declared.substitution.Outcome.{Outcome}

pub record Eliminates (v : Var) (old new : List Item) (o : Outcome) : Type 0 where
  pub items : new ≡ (eliminate_item false v old).items
  pub exact : o.exact ≡ (eliminate_item false v old).exact
  pub lost : o.lost ≡ (eliminate_item false v old).lost
  pub paired : o.paired ≡ (eliminate_item false v old).paired

-- the rows without a variable, and the pairs of the others, numbered from n
abbrev pub paired_items : ℕ → Var → List Item → List Item
paired_items n v is = keep (is_without v) is ++ pairs n v (keep (is_lower v) is) (keep (is_upper v) is)
