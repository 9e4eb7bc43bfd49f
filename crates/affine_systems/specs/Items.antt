-- Items: rows with their originals and the number of their making.
use Rattle.std.specs.Prelude.{◌≡◌, ◌<◌, take, drop, slice_index_or, MatchOption, ℕ, suc, max, Bool, not, ◌&&◌, if◌then◌else◌, nat_eq, List, [], ◌∷◌, ◌++◌, length, map, ◌/◌, ◌%◌, ◌^◌, pos, int_lt, bit_or, count_ones, ◌+◌, slice_index, Option}
use Rattle.std.specs.List.{list_any}
use Rattle.std.specs.declared.option.Option.TheVariants.{Some, None}
use Rattle.affine_systems.specs.declared.row.Row.{Row}
use Rattle.affine_systems.specs.declared.items.Originals.{Originals}
use Rattle.affine_systems.specs.declared.items.Item.{Item}
use Rattle.affine_systems.specs.declared.items.Tidied.{Tidied}
use Rattle.affine_systems.specs.Terms.{has_no_terms}
use Rattle.affine_systems.specs.Rows.{false_row}

-- numbers below 512, as four words of 128 bits
abbrev pub originals_of : (ℕ → ℕ) → Originals
originals_of word = record { words = word 0 ∷ word 1 ∷ word 2 ∷ word 3 ∷ [] }

abbrev pub no_originals : Originals
no_originals = originals_of (λ k. 0)

abbrev pub only_original : ℕ → Originals
only_original n = originals_of (λ k. if nat_eq (n / 128) k then 2 ^ (n % 128) else 0)

abbrev pub original_count : Originals → ℕ
original_count o =
    ((count_ones (slice_index o.words 0) + count_ones (slice_index o.words 1)) + count_ones (slice_index o.words 2)) + count_ones (slice_index o.words 3)

-- the numbers of both
abbrev pub joined : Originals → Originals → Originals
joined a b = originals_of (λ k. bit_or (slice_index a.words k) (slice_index b.words k))

abbrev pub item : Row → Originals → ℕ → Item
item r os n = record { row = r; originals = os; made = n }

abbrev pub tidied : List Item → Bool → Tidied
tidied is l = record { items = is; lost = l }

abbrev pub AllItems : (Item → Type 0) → List Item → Type 0
AllItems P [] = Unit {0}
AllItems P (i ∷ is) = P i × AllItems P is

-- the least number above those of the items
abbrev pub next_made : List Item → ℕ
next_made [] = 0
next_made (i ∷ is) = max (suc i.made) (next_made is)

abbrev pub items_from : ℕ → List Row → List Item
items_from n [] = []
items_from n (r ∷ rs) = item r no_originals n ∷ items_from (suc n) rs

abbrev pub rows_of : List Item → List Row
rows_of is = map (λ i. i.row) is

-- an item whose row is false

abbrev pub false_item : Item
false_item = item false_row no_originals 0

abbrev pub is_false_row : Row → Bool
is_false_row r = not r.equal && (has_no_terms r.terms && int_lt r.bound (pos 0))

abbrev pub any_false : List Item → Bool
any_false is = list_any (λ (i : Item). is_false_row i.row) is

-- the one row 0 <= -1 where a row is false
abbrev pub collapsed : List Item → List Item
collapsed is = if any_false is then false_item ∷ [] else is

-- a list cut at an item
pub record Cut : Type 0 where
  pub before : List Item
  pub at : Item
  pub after : List Item

abbrev pub cut : List Item → Item → List Item → Cut
cut b i a = record { before = b; at = i; after = a }

abbrev pub cut_later : Item → Option Cut → Option Cut
cut_later i None = None
cut_later i (Some c) = Some (cut (i ∷ c.before) c.at c.after)

-- cut at the first item that passes
abbrev pub cut_at : (Item → Bool) → List Item → Option Cut
cut_at f [] = None
cut_at f (i ∷ is) = if f i then Some (cut [] i is) else cut_later i (cut_at f is)

abbrev pub others : Cut → List Item
others c = c.before ++ c.after

-- a list cut at a place
abbrev pub cut_of : List Item → ℕ → Cut
cut_of is k = cut (take k is) (slice_index_or is k false_item) (drop (suc k) is)

-- the place at which a list is cut, where an item passes
abbrev pub FindsCut : (Item → Bool) → List Item → Option ℕ → Type 0
FindsCut f is o = MatchOption o (cut_at f is ≡ None) (λ k. (k < length is) × (cut_at f is ≡ Some (cut_of is k)))
