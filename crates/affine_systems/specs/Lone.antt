-- Closed rows, which tidying leaves as they are; and lone variables of them: such as one row alone has, an equal row with factor 1 or -1 there.
use Rattle.std.specs.Prelude.{◌≡◌, ◌⊎◌, ℕ, suc, ◌<◌, ◌≤◌, Bool, true, false, not, if◌then◌else◌, List, [], ◌∷◌, length, slice_index, slice_index_or, pos, ◌+ℤ◌, ◌<ℤ◌, Option}
use Rattle.std.specs.declared.option.Option.TheVariants.{Some, None}
use Rattle.affine_systems.specs.declared.row.Var.{Var}
use Rattle.affine_systems.specs.declared.row.Term.{Term}
use Rattle.affine_systems.specs.declared.row.Row.{Row}
use Rattle.affine_systems.specs.declared.items.Item.{Item}
use Rattle.affine_systems.specs.Terms.{has_no_terms}
use Rattle.affine_systems.specs.Points.{occurs}
use Rattle.affine_systems.specs.Rows.{AllRows, is_before}
use Rattle.affine_systems.specs.Items.{AllItems, false_item}
use Rattle.affine_systems.specs.Tidy.{are_opposite, unit_var}
use Rattle.affine_systems.specs.Eliminate.{is_unit_on, is_without, keep}
use Rattle.affine_systems.specs.Given.{IsNormalAs}
use Rattle.affine_systems.specs.Places.{place_of, has_var}

-- each row comes before those after it
abbrev pub Rises : List Row → Type 0
Rises [] = Unit {0}
Rises (r ∷ rs) = AllRows (λ s. is_before r s ≡ true) rs × Rises rs

-- where they are opposite, more than one number is left between them
abbrev pub AreApart : Row → Row → Type 0
AreApart r s = are_opposite r s ≡ true → pos 0 <ℤ (r.bound +ℤ s.bound)

abbrev pub AllApart : List Row → List Row → Type 0
AllApart rs ss = AllRows (λ r. AllRows (AreApart r) ss) rs

-- how many rows have the variable
abbrev pub row_times : Var → List Row → ℕ
row_times v [] = 0
row_times v (r ∷ rs) = if occurs v r then suc (row_times v rs) else row_times v rs

abbrev pub IsOwn : List Row → Option Var → Type 0
IsOwn rs None = Unit {0}
IsOwn rs (Some v) = row_times v rs ≤ 1

-- no other row has the pivot of an equal row
abbrev pub HasOwn : List Row → Row → Type 0
HasOwn rs r = r.equal ≡ true → IsOwn rs (unit_var r.terms)

-- normal rows in order, no two of which make an equal row, and the pivot of each equal row in no other
pub record IsClosed (rational : Bool) (rs : List Row) : Type 0 where
  pub normal : AllRows (IsNormalAs rational) rs
  pub rises : Rises rs
  pub apart : AllApart rs rs
  pub own : AllRows (HasOwn rs) rs

-- an item with terms
abbrev pub has_terms : Item → Bool
has_terms i = not (has_no_terms i.row.terms)

abbrev pub AllHaveTerms : List Item → Type 0
AllHaveTerms is = AllItems (λ i. has_terms i ≡ true) is

abbrev pub AllWithout : Var → List Item → Type 0
AllWithout v is = AllItems (λ i. occurs v i.row ≡ false) is

-- one item at most has v, an equal row with factor 1 or -1 on it
abbrev pub IsLone : Var → List Item → Type 0
IsLone v [] = Unit {0}
IsLone v (i ∷ is) = ((occurs v i.row ≡ false) × IsLone v is) ⊎ ((is_unit_on v i ≡ true) × AllWithout v is)

-- the items without v, then those of them without the next variable, and so on
abbrev pub left_by : List Var → List Item → List Item
left_by [] is = is
left_by (v ∷ vs) is = left_by vs (keep (is_without v) is)

-- each variable is lone in what those before it leave
abbrev pub AllLone : List Var → List Item → Type 0
AllLone [] is = Unit {0}
AllLone (v ∷ vs) is = IsLone v is × AllLone vs (keep (is_without v) is)
