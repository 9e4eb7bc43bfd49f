-- Refutation: all variables are eliminated, and where 0 <= -1 comes out there is no point.
use Rattle.std.specs.Prelude.{ℕ, suc, Bool, true, false, ◌||◌, ◌&&◌, if◌then◌else◌, nat_le, List, [], ◌∷◌, ◌++◌, pos, neg_ℤ, ◌-ℤ◌}
use Rattle.affine_systems.specs.declared.row.Var.{Var}
use Rattle.affine_systems.specs.declared.row.Row.{Row}
use Rattle.affine_systems.specs.declared.items.Item.{Item}
use Rattle.affine_systems.specs.declared.items.Eliminated.{Eliminated}
use Rattle.affine_systems.specs.Terms.{negated_terms}
use Rattle.affine_systems.specs.Rows.{row}
use Rattle.affine_systems.specs.Items.{no_originals, only_original, original_count, item, items_from, rows_of, any_false}
use Rattle.affine_systems.specs.Tidy.{tidy_items}
use Rattle.affine_systems.specs.Eliminate.{keep, eliminate_item}
use Rattle.hull_projection.specs.declared.eliminations.Left.{Left}
use Rattle.hull_projection.specs.Variables.{row_vars}

-- an at-most row is an original and carries its number; an equal row carries none
abbrev pub as_original : ℕ → Item → Item
as_original n i = item i.row (if i.row.equal then no_originals else only_original n) n

abbrev pub with_originals : ℕ → List Item → List Item
with_originals n [] = []
with_originals n (i ∷ is) = as_original n i ∷ with_originals (suc n) is

-- after k eliminations by pairs, more than k + 1 originals are too many
abbrev pub has_few : ℕ → Item → Bool
has_few k i = nat_le (original_count i.originals) (suc k)

abbrev pub with_few : ℕ → List Item → List Item
with_few k is = keep (has_few k) is

abbrev pub left : List Item → Bool → ℕ → Left
left is l k = record { items = is; lost = l; pairs = k }

abbrev pub count_pairs : ℕ → Eliminated → ℕ
count_pairs k e = if e.paired then suc k else k

-- one variable less, and without the rows that then have too many originals
abbrev pub left_after : Left → Eliminated → Left
left_after s e = left (with_few (count_pairs s.pairs e) e.items) (s.lost || e.lost) (count_pairs s.pairs e)

abbrev pub eliminate_all : Bool → Left → List Var → Left
eliminate_all q s [] = s
eliminate_all q s (v ∷ vs) = eliminate_all q (left_after s (eliminate_item q v s.items)) vs

-- before the first elimination
abbrev pub all_left : List Item → Left
all_left is = left (with_originals 0 is) false 0

abbrev pub refuted_items : List Item → Bool
refuted_items is = any_false (eliminate_all false (all_left is) (row_vars (rows_of is))).items

-- tidied rows without any of their variables are 0 <= -1
abbrev pub refuted : List Row → Bool
refuted rs = refuted_items (tidy_items false (items_from 0 rs)).items

-- the sum is above the bound
abbrev pub above : Row → Row
above r = row false (negated_terms r.terms) (neg_ℤ r.bound -ℤ pos 1)

-- the sum is below the bound
abbrev pub below : Row → Row
below r = row false r.terms (r.bound -ℤ pos 1)

-- rows of which one holds exactly where the row does not
abbrev pub negations : Row → List Row
negations r = if r.equal then above r ∷ below r ∷ [] else above r ∷ []

-- rows with each of the others are refuted
abbrev pub all_refuted : List Row → List Row → Bool
all_refuted rs [] = true
all_refuted rs (n ∷ ns) = refuted (rs ++ n ∷ []) && all_refuted rs ns

-- rows with each negation of the row are refuted
abbrev pub entails : List Row → Row → Bool
entails rs r = all_refuted rs (negations r)
