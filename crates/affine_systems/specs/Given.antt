-- What the calls ask of rows, and what they give.
use Rattle.std.specs.Prelude.{◌≡◌, ℕ, ◌^◌, ◌<◌, ◌≤◌, ◌⊎◌, Bool, false, List, [], ◌∷◌, length, unsigned_abs}
use Rattle.affine_systems.specs.declared.row.Term.{Term}
use Rattle.affine_systems.specs.declared.row.Row.{Row}
use Rattle.affine_systems.specs.declared.row.System.{System}
use Rattle.affine_systems.specs.declared.items.Item.{Item}
use Rattle.affine_systems.specs.Terms.{Ascends}
use Rattle.affine_systems.specs.Rows.{false_row, AllRows}
use Rattle.affine_systems.specs.Normal.{normal, Kept}
use Rattle.affine_systems.specs.Items.{AllItems, rows_of}
use Rattle.affine_systems.specs.Tidy.{row_limit}

-- each factor is below n in magnitude
abbrev pub FactorsBelow : ℕ → List Term → Type 0
FactorsBelow n [] = Unit {0}
FactorsBelow n (t ∷ ts) = (unsigned_abs t.factor < n) × FactorsBelow n ts

-- ascending terms without zeros, and numbers below n in magnitude
abbrev pub IsRowBelow : ℕ → Row → Type 0
IsRowBelow n r = Ascends r.terms × (unsigned_abs r.bound < n) × FactorsBelow n r.terms

-- terms and rows of a system: numbers below 2^62
abbrev pub AreSmall : List Term → Type 0
AreSmall ts = Ascends ts × FactorsBelow (2 ^ 62) ts

abbrev pub IsSmallRow : Row → Type 0
IsSmallRow r = IsRowBelow (2 ^ 62) r

-- a row that a call takes
abbrev pub IsGiven : Row → Type 0
IsGiven r = IsRowBelow (2 ^ 126) r

-- a row that is its own normal form
abbrev pub IsNormalAs : Bool → Row → Type 0
IsNormalAs rational r = Ascends r.terms × (normal rational r ≡ Kept r)

abbrev pub IsNormal : Row → Type 0
IsNormal r = IsNormalAs false r

-- normal rows, or 0 <= -1 alone
abbrev pub AreNormal : Bool → List Row → Type 0
AreNormal rational rs = (rs ≡ false_row ∷ []) ⊎ AllRows (IsNormalAs rational) rs

-- a system that a call takes or gives: at most 512 normal rows, or 0 <= -1 alone
abbrev pub Fits : System → Type 0
Fits s = (length s.rows ≤ row_limit) × AreNormal false s.rows

-- the same of items
abbrev pub ItemsFit : Bool → List Item → Type 0
ItemsFit rational is = (length is ≤ row_limit) × AreNormal rational (rows_of is)

abbrev pub ItemsGiven : List Item → Type 0
ItemsGiven is = AllItems (λ i. IsGiven i.row) is

-- items with small rows
abbrev pub ItemsSmall : List Item → Type 0
ItemsSmall is = AllItems (λ i. IsSmallRow i.row) is
