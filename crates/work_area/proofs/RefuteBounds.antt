-- The numbers of rows through eliminations, which stay below what there are numbers for.
use Rattle.std.proofs.Common.{◌≡◌, ℕ, zero, suc, ◌+◌, ◌*◌, ◌≤◌, ◌<◌, ◌^◌, Bool, false, List, [], ◌∷◌, length, arith, refl, Option, Some, None}
use Rattle.affine_systems.specs.declared.row.Var.{Var}
use Rattle.affine_systems.specs.declared.items.Item.{Item}
use Rattle.affine_systems.specs.declared.items.Eliminated.{Eliminated}
use Rattle.affine_systems.specs.Items.{next_made, Cut, cut, cut_later, cut_at, others}
use Rattle.affine_systems.specs.Tidy.{unit_var, all_substituted, round, is_to_take, next_pivot, pivoted, turn_limit, after_round, tidy_turns, tidy_items}
use Rattle.affine_systems.specs.Eliminate.{unchanged, any_has, is_unit_on, is_equal_on, all_cancelled, by_equal, by_unit, eliminate_item}
use Rattle.affine_systems.proofs.Basics.{if_cases}
use Rattle.affine_systems.proofs.LastLaws.{CutHas, cut_has, keep_has, round_at_most}
use Rattle.hull_projection.specs.Refute.{with_originals, has_few, with_few}
use Rattle.work_area.specs.Outcomes.{paired_items}
use Rattle.work_area.specs.Tables.{MadeBelow}
use Rattle.work_area.proofs.MadeLaws.{below_more, next_below, round_below, substituted_below, taken_below, cancelled_below, paired_below}

-- the rows but for that at which they are cut are at most n
abbrev CutShort : ℕ → Option Cut → Type 0
CutShort n None = Unit {0}
CutShort n (Some c) = length (others c) ≤ n

cut_short : (f : Item → Bool) (is : List Item) → CutShort (length is) (cut_at f is)
cut_short f [] = tt
cut_short f (i ∷ is) =
    if_cases (CutShort (length (i ∷ is))) (f i) (Some (cut [] i is)) (cut_later i (cut_at f is))
    (λ _. omega arith)
    (λ _. go (cut_at f is) (cut_short f is))
  where
    go : (o : Option Cut) → CutShort (length is) o → CutShort (length (i ∷ is)) (cut_later i o)
    go None h = tt
    go (Some c) h = omega (arith, h)

-- ---- tidying

turns_below : (q : Bool) (n m : ℕ) (is : List Item) → 0 < m → MadeBelow m is → MadeBelow (m + 512 + 1024 * n) (tidy_turns n q is).items
turns_below q zero m is l h = below_more (m + 512) (m + 512 + 1024 * 0) (round q is).items (omega arith) (round_below q m is l h)
turns_below q (suc n) m is l h =
    let some = (round q is).items in
    let r = round_below q m is l h in
    go (λ j js k. turns_below q n j js k) (next_pivot some) (cut_has (λ i. i.made < m + 512) (is_to_take some) some r) (cut_short (is_to_take some) some)
  where
    go : ((j : ℕ) (js : List Item) → 0 < j → MadeBelow j js → MadeBelow (j + 512 + 1024 * n) (tidy_turns n q js).items) → (o : Option Cut) → CutHas (λ i. i.made < m + 512) o → CutShort (length (round q is).items) o → MadeBelow (m + 512 + 1024 * suc n) (after_round (λ js. tidy_turns n q js) (round q is) o).items
    go ih None a b = below_more (m + 512) (m + 512 + 1024 * suc n) (round q is).items (omega arith) (round_below q m is l h)
    go ih (Some c) a b =
        let some = (round q is).items in
        let x = next_below (m + 512) some (round_below q m is l h) in
        let y = round_at_most q is in
        let z = a.0 in
        let p = taken_below (m + 1024) (next_made some) c.at (others c) (unit_var c.at.row.terms) (omega (arith, x, y, b)) (omega (arith, z)) (below_more (m + 512) (m + 1024) (others c) (omega arith) a.1) in
        below_more (m + 1024 + 512 + 1024 * n) (m + 512 + 1024 * suc n) (tidy_turns n q (pivoted some c)).items (omega arith) (ih (m + 1024) (pivoted some c) (omega (arith, l)) p)

limit_is : turn_limit ≡ 2 ^ 44
unfolding turn_limit
limit_is = refl

tidied_below : (m : ℕ) (is : List Item) → 0 < m → MadeBelow m is → MadeBelow (m + 2 ^ 55) (tidy_items false is).items
tidied_below m is l h =
    let e = limit_is in
    below_more (m + 512 + 1024 * turn_limit) (m + 2 ^ 55) (tidy_items false is).items (omega (arith, e)) (turns_below false turn_limit m is l h)

-- ---- elimination

-- an elimination numbers fewer than 2^56 rows
pub eliminated_below : (v : Var) (m : ℕ) (is : List Item) → 0 < m → length is ≤ 512 → MadeBelow m is → MadeBelow (m + 2 ^ 56) (eliminate_item false v is).items
eliminated_below v m is l k h =
    if_cases (λ (e : Eliminated). MadeBelow (m + 2 ^ 56) e.items) (any_has v is) (by_unit false v is (cut_at (is_unit_on v) is)) (unchanged is)
    (λ _. units (cut_at (is_unit_on v) is) (cut_has (λ i. i.made < m) (is_unit_on v) is h) (cut_short (is_unit_on v) is))
    (λ _. below_more m (m + 2 ^ 56) is (omega arith) h)
  where
    next : next_made is ≤ m
    next = next_below m is h

    tidy : (js : List Item) → MadeBelow (m + 2 ^ 20) js → MadeBelow (m + 2 ^ 56) (tidy_items false js).items
    tidy js a = below_more (m + 2 ^ 20 + 2 ^ 55) (m + 2 ^ 56) (tidy_items false js).items (omega arith) (tidied_below (m + 2 ^ 20) js (omega (arith, l)) a)

    more : (js : List Item) → MadeBelow m js → MadeBelow (m + 2 ^ 20) js
    more js a = below_more m (m + 2 ^ 20) js (omega arith) a

    paired : MadeBelow (m + 2 ^ 20) (paired_items (next_made is) v is)
    paired = below_more (m + 512 * 512) (m + 2 ^ 20) (paired_items (next_made is) v is) (omega arith) (paired_below m v is k h)

    equals : (o : Option Cut) → CutHas (λ i. i.made < m) o → CutShort (length is) o → MadeBelow (m + 2 ^ 56) (by_equal false v is o).items
    equals None a b = tidy (paired_items (next_made is) v is) paired
    equals (Some c) a b =
        let n = next in
        tidy (all_cancelled (next_made is) c.at v (others c)) (cancelled_below (m + 2 ^ 20) (next_made is) c.at v (others c) (omega (arith, n, b, k)) (more (others c) a.1))

    units : (o : Option Cut) → CutHas (λ i. i.made < m) o → CutShort (length is) o → MadeBelow (m + 2 ^ 56) (by_unit false v is o).items
    units None a b = equals (cut_at (is_equal_on v) is) (cut_has (λ i. i.made < m) (is_equal_on v) is h) (cut_short (is_equal_on v) is)
    units (Some c) a b =
        let n = next in
        tidy (all_substituted (next_made is) c.at v (others c)) (substituted_below (m + 2 ^ 20) (next_made is) c.at v (others c) (omega (arith, n, b, k)) (more (others c) a.1))

-- ---- originals

originals_from : (n m : ℕ) (is : List Item) → n + length is ≤ m → MadeBelow m (with_originals n is)
originals_from n m [] l = tt
originals_from n m (i ∷ is) l = (omega (arith, l), originals_from (suc n) m is (omega (arith, l)))

pub originals_below : (is : List Item) → length is ≤ 512 → MadeBelow 512 (with_originals 0 is)
originals_below is l = originals_from 0 512 is (omega (arith, l))

pub few_below : (k m : ℕ) (is : List Item) → MadeBelow m is → MadeBelow m (with_few k is)
few_below k m is h = keep_has (λ i. i.made < m) (has_few k) is h
