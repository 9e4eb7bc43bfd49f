-- Elimination of a variable.
use Rattle.std.specs.Prelude.{◌≡◌, ℕ, suc, ◌+◌, Bool, true, false, not, ◌&&◌, ◌||◌, if◌then◌else◌, List, [], ◌∷◌, ◌++◌, length, Option, ℤ, pos, neg_ℤ, int_lt, unsigned_abs}
use Rattle.std.specs.List.{filter, list_any, list_all}
use Rattle.std.specs.declared.option.Option.TheVariants.{Some, None}
use Rattle.affine_systems.specs.declared.row.Var.{Var}
use Rattle.affine_systems.specs.declared.row.Row.{Row}
use Rattle.affine_systems.specs.declared.row.System.{System}
use Rattle.affine_systems.specs.declared.row.Elim.{Elim}
use Rattle.affine_systems.specs.declared.items.Item.{Item}
use Rattle.affine_systems.specs.declared.items.Tidied.{Tidied}
use Rattle.affine_systems.specs.declared.items.Eliminated.{Eliminated}
use Rattle.affine_systems.specs.Points.{factor_of, occurs}
use Rattle.affine_systems.specs.Rows.{system, combine, combine_as}
use Rattle.affine_systems.specs.Items.{item, AllItems, joined, next_made, items_from, rows_of, Cut, cut_at, others}
use Rattle.affine_systems.specs.Tidy.{is_unit, all_substituted, tidy_items}

abbrev pub elimination_of : Bool → Bool → Tidied → Eliminated
elimination_of e p t = record { items = t.items; exact = e && not t.lost; lost = t.lost; paired = p }

abbrev pub unchanged : List Item → Eliminated
unchanged is = record { items = is; exact = true; lost = false; paired = false }

abbrev pub any_has : Var → List Item → Bool
any_has v is = list_any (λ (i : Item). occurs v i.row) is

abbrev pub has_unit : Var → Item → Bool
has_unit v i = is_unit (factor_of v i.row.terms)

-- an equal row with factor 1 or -1 on v
abbrev pub is_unit_on : Var → Item → Bool
is_unit_on v i = i.row.equal && has_unit v i

-- an equal row with v
abbrev pub is_equal_on : Var → Item → Bool
is_equal_on v i = i.row.equal && occurs v i.row

-- |a| times the row, and c or -c times the equal row with a on v, so that v cancels
abbrev pub cancelling : ℤ → Row → Row → ℤ → Row
cancelling a r e c = combine (pos (unsigned_abs a)) r (if int_lt a (pos 0) then c else neg_ℤ c) e

abbrev pub cancel_variable : ℕ → Item → Var → Item → Item
cancel_variable n e v i =
    if occurs v i.row
    then item (cancelling (factor_of v e.row.terms) i.row e.row (factor_of v i.row.terms)) (joined i.originals e.originals) n
    else i

abbrev pub all_cancelled : ℕ → Item → Var → List Item → List Item
all_cancelled n e v [] = []
all_cancelled n e v (i ∷ is) = cancel_variable n e v i ∷ all_cancelled (suc n) e v is

abbrev pub keep : (Item → Bool) → List Item → List Item
keep f is = filter f is

-- rows that bound v from below, from above, and rows without it
abbrev pub is_lower : Var → Item → Bool
is_lower v i = int_lt (factor_of v i.row.terms) (pos 0)

abbrev pub is_upper : Var → Item → Bool
is_upper v i = int_lt (pos 0) (factor_of v i.row.terms)

abbrev pub is_without : Var → Item → Bool
is_without v i = not (occurs v i.row)

abbrev pub AreLower : Var → List Item → Type 0
AreLower v is = AllItems (λ i. is_lower v i ≡ true) is

-- c times the lower row and a times the upper one, where they have -a and c on v
abbrev pub pair : ℕ → Var → Item → Item → Item
pair n v low up =
    item (combine_as false (factor_of v up.row.terms) low.row (neg_ℤ (factor_of v low.row.terms)) up.row) (joined low.originals up.originals) n

abbrev pub with_uppers : ℕ → Var → Item → List Item → List Item
with_uppers n v low [] = []
with_uppers n v low (up ∷ ups) = pair n v low up ∷ with_uppers (suc n) v low ups

abbrev pub pairs : ℕ → Var → List Item → List Item → List Item
pairs n v [] ups = []
pairs n v (low ∷ lows) ups = with_uppers n v low ups ++ pairs (n + length ups) v lows ups

abbrev pub all_have_unit : Var → List Item → Bool
all_have_unit v is = list_all (has_unit v) is

-- in every pair one factor is 1 or -1
abbrev pub every_pair_unit : Var → List Item → List Item → Bool
every_pair_unit v lows ups = list_all (λ (low : Item). has_unit v low || all_have_unit v ups) lows

abbrev pub paired_off : Bool → Var → List Item → Eliminated
paired_off q v is =
    let lows = keep (is_lower v) is in
    let ups = keep (is_upper v) is in
    elimination_of (every_pair_unit v lows ups) true (tidy_items q (keep (is_without v) is ++ pairs (next_made is) v lows ups))

abbrev pub by_equal : Bool → Var → List Item → Option Cut → Eliminated
by_equal q v is (Some c) = elimination_of false false (tidy_items q (all_cancelled (next_made is) c.at v (others c)))
by_equal q v is None = paired_off q v is

abbrev pub by_unit : Bool → Var → List Item → Option Cut → Eliminated
by_unit q v is (Some c) = elimination_of true false (tidy_items q (all_substituted (next_made is) c.at v (others c)))
by_unit q v is None = by_equal q v is (cut_at (is_equal_on v) is)

-- the first case that fits: v does not occur; an equal row with factor 1 or -1; an equal row with v; pairs
abbrev pub eliminate_item : Bool → Var → List Item → Eliminated
eliminate_item q v is = if any_has v is then by_unit q v is (cut_at (is_unit_on v) is) else unchanged is

abbrev pub elim_of : Bool → Eliminated → Elim
elim_of w e = record { system = system (rows_of e.items) (w || e.lost); exact = e.exact }

abbrev pub eliminate : System → Var → Elim
eliminate s v = elim_of s.weak (eliminate_item false v (items_from 0 s.rows))
