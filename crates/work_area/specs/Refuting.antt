-- Refutation in the tables.
use Rattle.std.specs.Prelude.{◌≡◌, ℕ, false, List, map}
use Rattle.affine_systems.specs.declared.row.Var.{Var}
use Rattle.affine_systems.specs.declared.row.Term.{Term}
use Rattle.affine_systems.specs.declared.items.Item.{Item}
use Rattle.affine_systems.specs.Eliminate.{eliminate_item}
use Rattle.hull_projection.specs.Refute.{count_pairs, with_few}

abbrev pub vars_of : List Term → List Var
vars_of ts = map (λ t. t.var) ts

-- v is eliminated where k eliminations before were by pairs; then n were, and the rows of at most n + 1 originals are left
pub record LeavesFew (v : Var) (k : ℕ) (old new : List Item) (n : ℕ) : Type 0 where
  pub pairs : n ≡ count_pairs k (eliminate_item false v old)
  pub items : new ≡ with_few n (eliminate_item false v old).items
