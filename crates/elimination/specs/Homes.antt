-- Where variables of rows are, by a table of the places of variables.
use Rattle.std.specs.Prelude.{◌≡◌, ◌⊎◌, ℕ, suc, ◌<◌, ◌≤◌, true, false, List, length, slice_index, slice_index_or}
use Rattle.affine_systems.specs.declared.row.Var.{Var}
use Rattle.affine_systems.specs.declared.row.Term.{Term}
use Rattle.affine_systems.specs.declared.row.Row.{Row}
use Rattle.affine_systems.specs.declared.items.Item.{Item}
use Rattle.elimination.specs.declared.lone.Home.{Home}
use Rattle.elimination.specs.declared.lone.Home.TheVariants.{Nowhere, Here, Elsewhere}
use Rattle.affine_systems.specs.Points.{occurs}
use Rattle.affine_systems.specs.Items.{false_item}
use Rattle.affine_systems.specs.Eliminate.{is_unit_on}
use Rattle.affine_systems.specs.Places.{place_of, has_var}
use Rattle.affine_systems.specs.Lone.{AllWithout}

-- what stands at a place of a table where the row at k has a variable there: one more than k, or 65535 where other rows have one too
abbrev pub IsHome : ℕ → ℕ → Type 0
IsHome k n = (n ≡ suc k) ⊎ (n ≡ 65535)

abbrev pub row_at : List Item → ℕ → Row
row_at is k = (slice_index_or is k false_item).row

-- homes stay, and the row at k has one at the place of each variable of the terms
pub record HasHomes (k : ℕ) (old new : List ℕ) (ts : List Term) : Type 0 where
  pub kept : (b j : ℕ) → IsHome j (slice_index old b) → IsHome j (slice_index new b)
  pub each : (v : Var) → has_var v ts ≡ true → IsHome k (slice_index new (place_of v))

pub record Homed (table : List ℕ) (is : List Item) : Type 0 where
  pub each : (k : ℕ) → k < length is → (v : Var) → occurs v (row_at is k) ≡ true → IsHome k (slice_index table (place_of v))

-- the row at k alone has v
abbrev pub OnlyAt : Var → List Item → ℕ → Type 0
OnlyAt v is k = (j : ℕ) → j < length is → occurs v (row_at is j) ≡ true → j ≡ k

-- where a variable is found: in no row; in one alone, an equal row with factor 1 or -1 on it; anywhere
abbrev pub FindsHome : Var → List Item → Home → Type 0
FindsHome v is Nowhere = AllWithout v is
FindsHome v is (Here k) = (k < length is) × (is_unit_on v (slice_index_or is k false_item) ≡ true) × OnlyAt v is k
FindsHome v is Elsewhere = Unit {0}
