-- Places of variables and of rows in a table of 4,096 bytes. Few variables of a system share a place.
use Rattle.std.specs.Prelude.{◌≡◌, ℕ, suc, min, ◌+◌, ◌*◌, ◌%◌, ◌≤◌, Bool, true, not, ◌&&◌, ◌||◌, if◌then◌else◌, nat_lt, List, [], ◌∷◌, slice_index, unsigned_abs}
use Rattle.std.specs.List.{list_any}
use Rattle.affine_systems.specs.declared.row.Var.{Var}
use Rattle.affine_systems.specs.declared.row.Term.{Term}
use Rattle.affine_systems.specs.declared.row.Row.{Row}
use Rattle.affine_systems.specs.declared.items.Item.{Item}
use Rattle.affine_systems.specs.Terms.{kind, number, var_eq, has_no_terms}
use Rattle.affine_systems.specs.Items.{AllItems}
use Rattle.affine_systems.specs.Normal.{last_is_negative}
use Rattle.affine_systems.specs.Tidy.{times}

unfoldable pub place_of : Var → ℕ
place_of v = (number v + 1024 * kind v) % 4096

abbrev pub has_var : Var → List Term → Bool
has_var v ts = list_any (λ (t : Term). var_eq v t.var) ts

-- no number of a table is less, and that at the place of each variable of the terms is one more, or 2 at least
pub record Noted (old new : List ℕ) (ts : List Term) : Type 0 where
  pub kept : (b : ℕ) → slice_index old b ≤ slice_index new b
  pub more : (v : Var) → has_var v ts ≡ true → min 2 (suc (slice_index old (place_of v))) ≤ slice_index new (place_of v)

-- 2 at least stands at the place of each variable that more than one row has
pub record Covers (table : List ℕ) (is : List Item) : Type 0 where
  pub twice : (v : Var) → nat_lt 1 (times v is) ≡ true → 2 ≤ slice_index table (place_of v)

-- a number of the variables of terms and of what their factors are but for the signs, below 2048
unfoldable pub key_after : ℕ → Term → ℕ
key_after n t = (31 * n + 7 * (unsigned_abs t.factor % 256) + place_of t.var) % 2048

abbrev pub key_of : ℕ → List Term → ℕ
key_of n [] = n
key_of n (t ∷ ts) = key_of (key_after n t) ts

-- the place of a row, by its terms but for the signs, and by the sign of its last factor
abbrev pub side_of : List Term → ℕ
side_of ts = if last_is_negative ts then 2048 + key_of 0 ts else key_of 0 ts

-- the place of its opposites
abbrev pub far_side_of : List Term → ℕ
far_side_of ts = if last_is_negative ts then key_of 0 ts else 2048 + key_of 0 ts

-- 1 at least stands at the place of each row
pub record Sided (table : List ℕ) (is : List Item) : Type 0 where
  pub each : AllItems (λ i. 1 ≤ slice_index table (side_of i.row.terms)) is

-- an at-most row without terms, or one whose opposites have a place that is not empty
abbrev pub may_face : List ℕ → Row → Bool
may_face table r = not r.equal && (has_no_terms r.terms || nat_lt 0 (slice_index table (far_side_of r.terms)))
