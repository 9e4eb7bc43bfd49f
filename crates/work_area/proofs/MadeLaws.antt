-- The numbers of rows, which stay below what there are numbers for.
use Rattle.std.proofs.Common.{◌≡◌, ◌∙◌, ℕ, suc, ◌+◌, ◌*◌, ◌≤◌, ◌<◌, Bool, false, List, [], ◌∷◌, ◌++◌, length, take, drop, get_or, arith, ap, subst, int_eq, int_lt, ◌+ℤ◌, pos, Option, Some, None}
use Rattle.std.specs.Prelude.{if◌then◌else◌, max}
use Rattle.std.proofs.lemmas.List.{drop_more, drop_all, length-take, length-drop, length-append}
use Rattle.affine_systems.specs.declared.row.Var.{Var}
use Rattle.affine_systems.specs.declared.items.Item.{Item}
use Rattle.affine_systems.specs.Points.{factor_of, occurs}
use Rattle.affine_systems.specs.Eliminate.{cancelling, all_cancelled, keep, is_without, is_lower, is_upper, with_uppers, pairs}
use Rattle.affine_systems.specs.Normal.{Normal, Kept, Always, Never, TooBig, normal}
use Rattle.affine_systems.specs.Items.{item, joined, false_item, collapsed, next_made, cut_of, others}
use Rattle.affine_systems.specs.Tidy.{with_normal, normal_items, sorted, one_each, in_form, row_limit, are_opposite, merged_row, against, face_opposite, faced_all, merged, round, by_row, all_substituted, taken, pivoted, unit_var}
use Rattle.affine_systems.proofs.Basics.{if_cases}
use Rattle.affine_systems.proofs.ItemSteps.{item_at as all_at}
use Rattle.work_area.specs.declared.slot.Slot.{Slot}
use Rattle.work_area.specs.Slots.{item_in, items_in}
use Rattle.std.proofs.Math.Nat.{mul-le-mul}
use Rattle.affine_systems.proofs.LastLaws.{keep_has, append_items}
use Rattle.work_area.specs.Outcomes.{paired_items}
use Rattle.work_area.specs.Tables.{MadeBelow}
use Rattle.work_area.proofs.AllLaws.{all_sorted, all_once, all_collapsed, all_dropped, all_removed}
use Rattle.work_area.proofs.Swaps.{item_read, length-items_in}
use Rattle.elimination.proofs.ClosedLaws.{length-keep}
use Rattle.elimination.proofs.FormLaws.{all_taken}

-- ---- numbers

pub below_more : (m n : ℕ) (is : List Item) → m ≤ n → MadeBelow m is → MadeBelow n is
below_more m n [] l h = tt
below_more m n (i ∷ is) l h = (let a = h.0 in omega (arith, a, l), below_more m n is l h.1)

pub next_below : (m : ℕ) (is : List Item) → MadeBelow m is → next_made is ≤ m
next_below m [] h = omega arith
next_below m (i ∷ is) h = let a = h.0 in let b = next_below m is h.1 in omega (arith, a, b)

normal_below : (q : Bool) (m : ℕ) (is : List Item) → 0 < m → MadeBelow m is → MadeBelow m (normal_items q is)
normal_below q m [] l h = tt
normal_below q m (i ∷ is) l h = go (normal q i.row) (normal_below q m is l h.1) where
  go : (n : Normal) → MadeBelow m (normal_items q is) → MadeBelow m (with_normal i n (normal_items q is))
  go (Kept r) k = (h.0, k)
  go Always k = k
  go Never k = (l, k)
  go TooBig k = k

pub form_below : (q : Bool) (m : ℕ) (is : List Item) → 0 < m → MadeBelow m is → MadeBelow m (in_form q is)
form_below q m is l h =
    let P = λ (i : Item). i.made < m in
    let a = all_collapsed P (normal_items q is) l (normal_below q m is l h) in
    all_collapsed P (one_each (sorted (collapsed (normal_items q is)))) l (all_once P (sorted (collapsed (normal_items q is))) l (all_sorted P (collapsed (normal_items q is)) a))

facing_below : (m n : ℕ) (i : Item) (js : List Item) → 0 < m → n < m → i.made < m → (face_opposite n i js).made < m
facing_below m n i [] l k h = h
facing_below m n i (j ∷ js) l k h =
    let P = λ (x : Item). x.made < m in
    if_cases P (are_opposite i.row j.row) (against n i j) (face_opposite n i js)
    (λ _. if_cases P (int_lt (i.row.bound +ℤ j.row.bound) (pos 0)) false_item (if int_eq (i.row.bound +ℤ j.row.bound) (pos 0) then item (merged_row i.row j.row) (joined i.originals j.originals) n else i) (λ _. l)
    (λ _. if_cases P (int_eq (i.row.bound +ℤ j.row.bound) (pos 0)) (item (merged_row i.row j.row) (joined i.originals j.originals) n) i (λ _. k) (λ _. h)))
    (λ _. facing_below m n i js l k h)

faced_below : (m n : ℕ) (is js : List Item) → 0 < m → n + length is ≤ m → MadeBelow m is → MadeBelow m (faced_all n is js)
faced_below m n [] js l k h = tt
faced_below m n (i ∷ is) js l k h = (facing_below m n i js l (omega (arith, k)) h.0, faced_below m (suc n) is js l (omega (arith, k)) h.1)

pub merged_below : (m : ℕ) (is : List Item) → 0 < m → length is ≤ 512 → MadeBelow m is → MadeBelow (m + 512) (merged is)
merged_below m is l k h =
    let n = m + 512 in
    let P = λ (i : Item). i.made < n in
    let z : 0 < n = omega (arith, l) in
    let a = faced_below n (next_made is) is is z (let b = next_below m is h in omega (arith, b, k)) (below_more m n is (omega arith) h) in
    let fs = faced_all (next_made is) is is in
    all_collapsed P (one_each (sorted fs)) z (all_once P (sorted fs) z (all_sorted P fs a))

pub round_below : (q : Bool) (m : ℕ) (is : List Item) → 0 < m → MadeBelow m is → MadeBelow (m + 512) (round q is).items
round_below q m is l h =
    merged_below m (take row_limit (in_form q is)) l (omega (arith, length-take row_limit (in_form q is))) (all_taken (λ i. i.made < m) row_limit (in_form q is) (form_below q m is l h))

pub substituted_below : (m n : ℕ) (e : Item) (v : Var) (is : List Item) → n + length is ≤ m → MadeBelow m is → MadeBelow m (all_substituted n e v is)
substituted_below m n e v [] l h = tt
substituted_below m n e v (i ∷ is) l h = (
  if_cases (λ (x : Item). x.made < m) (occurs v i.row) (item (by_row i.row v e.row) (joined i.originals e.originals) n) i (λ _. omega (arith, l)) (λ _. h.0),
  substituted_below m (suc n) e v is (omega (arith, l)) h.1,
)

pub taken_below : (m n : ℕ) (e : Item) (is : List Item) (o : Option Var) → n + length is ≤ m → e.made < m → MadeBelow m is → MadeBelow m (taken n e is o)
taken_below m n e is None l h k = (h, k)
taken_below m n e is (Some v) l h k = (h, substituted_below m n e v is l k)

pub pivoted_below : (m : ℕ) (is : List Item) (at : ℕ) → at < length is → length is ≤ 512 → MadeBelow m is → MadeBelow (m + 512) (pivoted is (cut_of is at))
pivoted_below m is at l k h =
    let P = λ (i : Item). i.made < m in
    let e = get_or is at false_item in
    let rest = take at is ++ drop (suc at) is in
    let a = next_below m is h in
    let b = all_at P is at false_item h l in
    taken_below (m + 512) (next_made is) e rest (unit_var e.row.terms)
    (omega (arith, a, k, l, length-append (take at is) (drop (suc at) is), length-take at is, length-drop (suc at) is)) (omega (arith, b))
    (below_more m (m + 512) rest (omega arith) (append_items P (take at is) (drop (suc at) is) (all_taken P at is h) (all_dropped P (suc at) is h)))

pub cancelled_below : (m n : ℕ) (e : Item) (v : Var) (is : List Item) → n + length is ≤ m → MadeBelow m is → MadeBelow m (all_cancelled n e v is)
cancelled_below m n e v [] l h = tt
cancelled_below m n e v (i ∷ is) l h = (
  if_cases (λ (x : Item). x.made < m) (occurs v i.row) (item (cancelling (factor_of v e.row.terms) i.row e.row (factor_of v i.row.terms)) (joined i.originals e.originals) n) i (λ _. omega (arith, l)) (λ _. h.0),
  cancelled_below m (suc n) e v is (omega (arith, l)) h.1,
)

pub cancelled_by_below : (m : ℕ) (is : List Item) (at : ℕ) (v : Var) → at < length is → length is ≤ 512 → MadeBelow m is → MadeBelow (m + 512) (all_cancelled (next_made is) (cut_of is at).at v (others (cut_of is at)))
cancelled_by_below m is at v l k h =
    let a = next_below m is h in
    cancelled_below (m + 512) (next_made is) (cut_of is at).at v (take at is ++ drop (suc at) is)
    (omega (arith, a, k, l, length-append (take at is) (drop (suc at) is), length-take at is, length-drop (suc at) is))
    (below_more m (m + 512) (take at is ++ drop (suc at) is) (omega arith) (all_removed (λ i. i.made < m) is at h))

uppers_below : (m n : ℕ) (v : Var) (low : Item) (ups : List Item) → n + length ups ≤ m → MadeBelow m (with_uppers n v low ups)
uppers_below m n v low [] l = tt
uppers_below m n v low (up ∷ ups) l = (omega (arith, l), uppers_below m (suc n) v low ups (omega (arith, l)))

pairs_below : (m n : ℕ) (v : Var) (lows ups : List Item) → n + length lows * length ups ≤ m → MadeBelow m (pairs n v lows ups)
pairs_below m n v [] ups l = tt
pairs_below m n v (low ∷ lows) ups l =
    let k : n + length ups + length lows * length ups ≤ m = omega (arith, l) in
    append_items (λ i. i.made < m) (with_uppers n v low ups) (pairs (n + length ups) v lows ups) (uppers_below m n v low ups (omega (arith, k))) (pairs_below m (n + length ups) v lows ups k)

pub paired_below : (m : ℕ) (v : Var) (is : List Item) → length is ≤ 512 → MadeBelow m is → MadeBelow (m + 512 * 512) (paired_items (next_made is) v is)
paired_below m v is l h =
    let n = m + 512 * 512 in
    let lows = keep (is_lower v) is in
    let ups = keep (is_upper v) is in
    let a = next_below m is h in
    let x : length lows ≤ 512 = omega (arith, length-keep (is_lower v) is, l) in
    let y : length ups ≤ 512 = omega (arith, length-keep (is_upper v) is, l) in
    let p : length lows * length ups ≤ 512 * 512 = mul-le-mul x y in
    append_items (λ i. i.made < n) (keep (is_without v) is) (pairs (next_made is) v lows ups)
    (keep_has (λ i. i.made < n) (is_without v) is (below_more m n is (omega arith) h)) (pairs_below n (next_made is) v lows ups (omega (arith, a, p)))

pub taken_form_below : (m : ℕ) (is : List Item) → 0 < m → MadeBelow m is → MadeBelow m (take row_limit (in_form false is))
taken_form_below m is l h = all_taken (λ i. i.made < m) row_limit (in_form false is) (form_below false m is l h)

-- ---- the loop that looks for the next number

pub next-more : (ss : List Slot) (k m : ℕ) (s : Slot) → k < length ss → s ≡ get_or ss k s → max (max m (s.made + 1)) (next_made (drop (k + 1) (items_in ss))) ≡ max m (next_made (drop k (items_in ss)))
next-more ss k m s l h =
    let e : drop k (items_in ss) ≡ item_in s ∷ drop (k + 1) (items_in ss) = drop_more (items_in ss) k (item_in s) (omega (arith, l, length-items_in ss)) ∙ ap (λ i. i ∷ drop (k + 1) (items_in ss)) (item_read ss k s (item_in s) l h) in
    let f = ap next_made e in
    omega (arith, f)

pub next-end : (ss : List Slot) (k : ℕ) → length ss ≤ k → next_made (drop k (items_in ss)) ≡ 0
next-end ss k l = ap next_made (drop_all k (items_in ss) (omega (arith, l, length-items_in ss)))

made_at : (m : ℕ) (is : List Item) (k : ℕ) (d : Item) → MadeBelow m is → k < length is → (get_or is k d).made < m
made_at m is k d h l = all_at (λ i. i.made < m) is k d h l

pub made-read : (m : ℕ) (ss : List Slot) (k : ℕ) (s : Slot) → MadeBelow m (items_in ss) → k < length ss → s ≡ get_or ss k s → s.made < m
made-read m ss k s h l e = subst (λ (i : Item). i.made < m) (item_read ss k s (item_in s) l e) (made_at m (items_in ss) k (item_in s) h (omega (arith, l, length-items_in ss)))

pub ruleset next_made_loop = (next-more, next-end)
