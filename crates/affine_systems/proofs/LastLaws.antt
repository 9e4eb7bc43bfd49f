-- What lasts through tidying and elimination: a property of the rows that go in, and one of those that come out.
use Rattle.std.proofs.Common.{◌≡◌, ℕ, zero, suc, ◌+◌, ◌≤◌, Bool, true, false, ◌||◌, List, [], ◌∷◌, ◌++◌, length, take, pos, neg_ℤ, ◌+ℤ◌, arith, ap, refl, subst, int_eq, int_lt, Option, Some, None}
use Rattle.std.specs.Prelude.{if◌then◌else◌, nat_lt}
use Rattle.std.proofs.lemmas.Bool.{and_parts}
use Rattle.affine_systems.specs.declared.row.Var.{Var}
use Rattle.affine_systems.specs.declared.row.Row.{Row}
use Rattle.affine_systems.specs.declared.items.Item.{Item}
use Rattle.affine_systems.specs.declared.items.Tidied.{Tidied}
use Rattle.affine_systems.specs.declared.items.Eliminated.{Eliminated}
use Rattle.affine_systems.specs.Rows.{false_row, combine_as, is_before, same_shape}
use Rattle.affine_systems.specs.Points.{factor_of, occurs}
use Rattle.affine_systems.specs.Items.{joined, item, tidied, AllItems, next_made, false_item, any_false, collapsed, Cut, cut, cut_later, cut_at, others}
use Rattle.affine_systems.specs.Normal.{Normal, Kept, Always, Never, TooBig, normal}
use Rattle.affine_systems.specs.Tidy.{with_normal, normal_items, put, sorted, stronger, one_each_after, one_each, row_limit, are_opposite, merged_row, against, face_opposite, faced_all, in_form, merged, round, is_unit, unit_var, is_to_take, next_pivot, by_row, all_substituted, taken, pivoted, turn_limit, after_round, tidy_turns, tidy_items}
use Rattle.affine_systems.specs.Eliminate.{unchanged, any_has, has_unit, is_unit_on, is_equal_on, cancelling, all_cancelled, keep, is_lower, is_upper, is_without, with_uppers, pairs, by_equal, by_unit, eliminate_item}
use Rattle.affine_systems.proofs.Basics.{if_cases}

-- A of the rows that go in, P of those that come out: normal rows, the false row, and the equal row of two opposite ones
pub record Lasts (A P : Row → Type 0) (q : Bool) : Type 0 where
  pub of_false : P false_row
  pub of_normal : (r s : Row) → A r → normal q r ≡ Kept s → P s
  pub of_merged : (r s : Row) → are_opposite r s ≡ true → int_eq (r.bound +ℤ s.bound) (pos 0) ≡ true → P r → P s → P (merged_row r s)
  pub again : (r : Row) → P r → A r
  pub of_pivot : (r e : Row) (v : Var) → unit_var e.terms ≡ Some v → P r → P e → A (by_row r v e)

abbrev pub Has : (Row → Type 0) → List Item → Type 0
Has P is = AllItems (λ i. P i.row) is

pub append_items : (P : Item → Type 0) (xs ys : List Item) → AllItems P xs → AllItems P ys → AllItems P (xs ++ ys)
append_items P [] ys h k = k
append_items P (x ∷ xs) ys h k = (h.0, append_items P xs ys h.1 k)

-- ---- one round

pub normal_items_has : (A P : Row → Type 0) (q : Bool) → Lasts A P q → (is : List Item) → Has A is → Has P (normal_items q is)
normal_items_has A P q l [] h = tt
normal_items_has A P q l (i ∷ is) h = go (normal q i.row) refl (normal_items_has A P q l is h.1) where
  go : (n : Normal) → normal q i.row ≡ n → Has P (normal_items q is) → Has P (with_normal i n (normal_items q is))
  go (Kept r) e k = (l.of_normal i.row r h.0 e, k)
  go Always e k = k
  go Never e k = (l.of_false, k)
  go TooBig e k = k

pub collapsed_has : (P : Row → Type 0) → P false_row → (is : List Item) → Has P is → Has P (collapsed is)
collapsed_has P f is h = if_cases (Has P) (any_false is) (false_item ∷ []) is (λ e. (f, tt)) (λ e. h)

stronger_has : (P : Row → Type 0) → P false_row → (i j : Item) → P i.row → P j.row → P (stronger i j).row
stronger_has P f i j h k =
    let Q = λ (m : Item). P m.row in
    if_cases Q (int_eq i.row.bound j.row.bound) (if nat_lt j.made i.made then j else i) (if i.row.equal then false_item else if int_lt j.row.bound i.row.bound then j else i)
    (λ e. if_cases Q (nat_lt j.made i.made) j i (λ e. k) (λ e. h))
    (λ e. if_cases Q i.row.equal false_item (if int_lt j.row.bound i.row.bound then j else i) (λ e. f)
    (λ e. if_cases Q (int_lt j.row.bound i.row.bound) j i (λ e. k) (λ e. h)))

put_has : (P : Row → Type 0) (i : Item) (is : List Item) → P i.row → Has P is → Has P (put i is)
put_has P i [] h k = (h, tt)
put_has P i (j ∷ is) h k =
    if_cases (Has P) (is_before j.row i.row) (j ∷ put i is) (i ∷ j ∷ is) (λ e. (k.0, put_has P i is h k.1)) (λ e. (h, k))

sorted_has : (P : Row → Type 0) (is : List Item) → Has P is → Has P (sorted is)
sorted_has P [] h = tt
sorted_has P (i ∷ is) h = put_has P i (sorted is) h.0 (sorted_has P is h.1)

one_each_after_has : (P : Row → Type 0) → P false_row → (i : Item) (is : List Item) → P i.row → Has P is → Has P (one_each_after i is)
one_each_after_has P f i [] h k = (h, tt)
one_each_after_has P f i (j ∷ is) h k =
    let merging = one_each_after_has P f (stronger i j) is (stronger_has P f i j h k.0) k.1 in
    let going = one_each_after_has P f j is k.0 k.1 in
    if_cases (Has P) (same_shape i.row j.row) (one_each_after (stronger i j) is) (i ∷ one_each_after j is) (λ e. merging) (λ e. (h, going))

one_each_has : (P : Row → Type 0) → P false_row → (is : List Item) → Has P is → Has P (one_each is)
one_each_has P f [] h = tt
one_each_has P f (i ∷ is) h = one_each_after_has P f i is h.0 h.1

pub ordered_has : (P : Row → Type 0) → P false_row → (is : List Item) → Has P is → Has P (one_each (sorted is))
ordered_has P f is h = one_each_has P f (sorted is) (sorted_has P is h)

arranged_has : (P : Row → Type 0) → P false_row → (is : List Item) → Has P is → Has P (collapsed (one_each (sorted is)))
arranged_has P f is h = collapsed_has P f (one_each (sorted is)) (ordered_has P f is h)

take_has : (P : Row → Type 0) (n : ℕ) (is : List Item) → Has P is → Has P (take n is)
take_has P zero [] h = tt
take_has P (suc n) [] h = tt
take_has P zero (i ∷ is) h = tt
take_has P (suc n) (i ∷ is) h = (h.0, take_has P n is h.1)

faced_has : (A P : Row → Type 0) (q : Bool) → Lasts A P q → (n : ℕ) (i : Item) (js : List Item) → P i.row → Has P js → P (face_opposite n i js).row
faced_has A P q l n i [] h k = h
faced_has A P q l n i (j ∷ js) h k =
    let Q = λ (m : Item). P m.row in
    if_cases Q (are_opposite i.row j.row) (against n i j) (face_opposite n i js)
    (λ e. if_cases Q (int_lt (i.row.bound +ℤ j.row.bound) (pos 0)) false_item (if int_eq (i.row.bound +ℤ j.row.bound) (pos 0) then item (merged_row i.row j.row) (joined i.originals j.originals) n else i)
    (λ t. l.of_false)
    (λ t. if_cases Q (int_eq (i.row.bound +ℤ j.row.bound) (pos 0)) (item (merged_row i.row j.row) (joined i.originals j.originals) n) i (λ z. l.of_merged i.row j.row e z h k.0) (λ z. h)))
    (λ e. faced_has A P q l n i js h k.1)

pub faced_all_has : (A P : Row → Type 0) (q : Bool) → Lasts A P q → (n : ℕ) (is js : List Item) → Has P is → Has P js → Has P (faced_all n is js)
faced_all_has A P q l n [] js h k = tt
faced_all_has A P q l n (i ∷ is) js h k = (faced_has A P q l n i js h.0 k, faced_all_has A P q l (suc n) is js h.1 k)

pub in_form_has : (A P : Row → Type 0) (q : Bool) → Lasts A P q → (is : List Item) → Has A is → Has P (in_form q is)
in_form_has A P q l is h =
    arranged_has P l.of_false (collapsed (normal_items q is)) (collapsed_has P l.of_false (normal_items q is) (normal_items_has A P q l is h))

pub merged_has : (A P : Row → Type 0) (q : Bool) → Lasts A P q → (is : List Item) → Has P is → Has P (merged is)
merged_has A P q l is h = arranged_has P l.of_false (faced_all (next_made is) is is) (faced_all_has A P q l (next_made is) is is h h)

pub cut_form_has : (A P : Row → Type 0) (q : Bool) → Lasts A P q → (is : List Item) → Has A is → Has P (take row_limit (in_form q is))
cut_form_has A P q l is h = take_has P row_limit (in_form q is) (in_form_has A P q l is h)

pub round_has : (A P : Row → Type 0) (q : Bool) → Lasts A P q → (is : List Item) → Has A is → Has P (round q is).items
round_has A P q l is h = merged_has A P q l (take row_limit (in_form q is)) (cut_form_has A P q l is h)

-- ---- pivots

-- a property of all items of a list, and of those of its cut
abbrev pub CutHas : (Item → Type 0) → Option Cut → Type 0
CutHas P None = Unit {0}
CutHas P (Some c) = P c.at × AllItems P (others c)

pub cut_has : (P : Item → Type 0) (f : Item → Bool) (is : List Item) → AllItems P is → CutHas P (cut_at f is)
cut_has P f [] h = tt
cut_has P f (i ∷ is) h =
    if_cases (CutHas P) (f i) (Some (cut [] i is)) (cut_later i (cut_at f is))
    (λ e. h)
    (λ e. go (cut_at f is) (cut_has P f is h.1))
  where
    go : (o : Option Cut) → CutHas P o → CutHas P (cut_later i o)
    go None k = tt
    go (Some c) k = (k.0, (h.0, k.1))

all_substituted_has : (A P : Row → Type 0) → ((r : Row) → P r → A r) → (n : ℕ) (e : Item) (v : Var) → ((r : Row) → P r → A (by_row r v e.row)) → (is : List Item) → Has P is → Has A (all_substituted n e v is)
all_substituted_has A P a n e v f [] h = tt
all_substituted_has A P a n e v f (i ∷ is) h = (
  if_cases (λ (j : Item). A j.row) (occurs v i.row) (item (by_row i.row v e.row) (joined i.originals e.originals) n) i (λ o. f i.row h.0) (λ o. a i.row h.0),
  all_substituted_has A P a (suc n) e v f is h.1,
)

pub again_all : (A P : Row → Type 0) → ((r : Row) → P r → A r) → (is : List Item) → Has P is → Has A is
again_all A P a [] h = tt
again_all A P a (i ∷ is) h = (a i.row h.0, again_all A P a is h.1)

pub pivoted_has : (A P : Row → Type 0) (q : Bool) → Lasts A P q → (is : List Item) (c : Cut) → P c.at.row → Has P (others c) → Has A (pivoted is c)
pivoted_has A P q l is c h k = go (unit_var c.at.row.terms) refl where
  go : (o : Option Var) → unit_var c.at.row.terms ≡ o → Has A (taken (next_made is) c.at (others c) o)
  go None e = (l.again c.at.row h, again_all A P l.again (others c) k)
  go (Some v) e = (l.again c.at.row h, all_substituted_has A P l.again (next_made is) c.at v (λ r p. l.of_pivot r c.at.row v e p h) (others c) k)

-- ---- all rounds

-- each round's result has what one round's result has
pub each_round : (A : Row → Type 0) (G : Tidied → Type 0) (q : Bool) → ((is : List Item) → Has A is → G (round q is)) → ((is : List Item) (c : Cut) → Has A is → next_pivot (round q is).items ≡ Some c → Has A (pivoted (round q is).items c)) → ((t : Tidied) (b : Bool) → G t → G (tidied t.items b)) → (n : ℕ) (is : List Item) → Has A is → G (tidy_turns n q is)
each_round A G q f s w zero is h = f is h
each_round A G q f s w (suc n) is h = go (λ js k. each_round A G q f s w n js k) (next_pivot (round q is).items) refl where
  go : ((js : List Item) → Has A js → G (tidy_turns n q js)) → (o : Option Cut) → next_pivot (round q is).items ≡ o → G (after_round (λ js. tidy_turns n q js) (round q is) o)
  go ih None e = f is h
  go ih (Some c) e = w (tidy_turns n q (pivoted (round q is).items c)) ((round q is).lost || (tidy_turns n q (pivoted (round q is).items c)).lost) (ih (pivoted (round q is).items c) (s is c h e))

pub next_has : (A P : Row → Type 0) (q : Bool) → Lasts A P q → (is : List Item) (c : Cut) → Has A is → next_pivot (round q is).items ≡ Some c → Has A (pivoted (round q is).items c)
next_has A P q l is c h e =
    let k : CutHas (λ i. P i.row) (Some c) = subst (CutHas (λ i. P i.row)) e (cut_has (λ i. P i.row) (is_to_take (round q is).items) (round q is).items (round_has A P q l is h)) in
    pivoted_has A P q l (round q is).items c k.0 k.1

pub tidied_has : (A P : Row → Type 0) (q : Bool) → Lasts A P q → (is : List Item) → Has A is → Has P (tidy_items q is).items
tidied_has A P q l is h = each_round A (λ t. Has P t.items) q (λ js k. round_has A P q l js k) (next_has A P q l) (λ t b k. k) turn_limit is h

-- ---- elimination

-- what elimination makes of rows that have P
pub record Survives (A P : Row → Type 0) (q : Bool) : Type 0 where
  pub lasts : Lasts A P q
  pub of_unit : (r e : Row) (v : Var) → is_unit (factor_of v e.terms) ≡ true → P r → P e → A (by_row r v e)
  pub of_cancelled : (r e : Row) (v : Var) → P r → P e → A (cancelling (factor_of v e.terms) r e (factor_of v r.terms))
  pub of_pair : (r s : Row) (v : Var) → P r → P s → A (combine_as false (factor_of v s.terms) r (neg_ℤ (factor_of v r.terms)) s)

all_cancelled_has : (A P : Row → Type 0) (q : Bool) → Survives A P q → (n : ℕ) (e : Item) (v : Var) (is : List Item) → P e.row → Has P is → Has A (all_cancelled n e v is)
all_cancelled_has A P q l n e v [] h k = tt
all_cancelled_has A P q l n e v (i ∷ is) h k = (
  if_cases (λ (j : Item). A j.row) (occurs v i.row) (item (cancelling (factor_of v e.row.terms) i.row e.row (factor_of v i.row.terms)) (joined i.originals e.originals) n) i
      (λ o. l.of_cancelled i.row e.row v k.0 h) (λ o. l.lasts.again i.row k.0),
  all_cancelled_has A P q l (suc n) e v is h k.1,
)

pub keep_has : (P : Item → Type 0) (f : Item → Bool) (is : List Item) → AllItems P is → AllItems P (keep f is)
keep_has P f [] h = tt
keep_has P f (i ∷ is) h =
    if_cases (AllItems P) (f i) (i ∷ keep f is) (keep f is) (λ e. (h.0, keep_has P f is h.1)) (λ e. keep_has P f is h.1)

with_uppers_has : (A P : Row → Type 0) (q : Bool) → Survives A P q → (n : ℕ) (v : Var) (low : Item) (ups : List Item) → P low.row → Has P ups → Has A (with_uppers n v low ups)
with_uppers_has A P q l n v low [] h k = tt
with_uppers_has A P q l n v low (i ∷ ups) h k = (l.of_pair low.row i.row v h k.0, with_uppers_has A P q l (suc n) v low ups h k.1)

pairs_has : (A P : Row → Type 0) (q : Bool) → Survives A P q → (n : ℕ) (v : Var) (lows ups : List Item) → Has P lows → Has P ups → Has A (pairs n v lows ups)
pairs_has A P q l n v [] ups h k = tt
pairs_has A P q l n v (low ∷ lows) ups h k =
    append_items (λ i. A i.row) (with_uppers n v low ups) (pairs (n + length ups) v lows ups) (with_uppers_has A P q l n v low ups h.0 k) (pairs_has A P q l (n + length ups) v lows ups h.1 k)

-- the rows that the elimination by pairs tidies
pub paired_items_has : (A P : Row → Type 0) (q : Bool) → Survives A P q → (v : Var) (is : List Item) → Has P is → Has A (keep (is_without v) is ++ pairs (next_made is) v (keep (is_lower v) is) (keep (is_upper v) is))
paired_items_has A P q l v is h =
    let R = λ (i : Item). P i.row in
    append_items (λ i. A i.row) (keep (is_without v) is) (pairs (next_made is) v (keep (is_lower v) is) (keep (is_upper v) is))
    (again_all A P l.lasts.again (keep (is_without v) is) (keep_has R (is_without v) is h))
    (pairs_has A P q l (next_made is) v (keep (is_lower v) is) (keep (is_upper v) is) (keep_has R (is_lower v) is h) (keep_has R (is_upper v) is h))

-- those that the eliminations by an equal row tidy
pub cancelled_items_has : (A P : Row → Type 0) (q : Bool) → Survives A P q → (v : Var) (is : List Item) (c : Cut) → P c.at.row → Has P (others c) → Has A (all_cancelled (next_made is) c.at v (others c))
cancelled_items_has A P q l v is c h k = all_cancelled_has A P q l (next_made is) c.at v (others c) h k

pub unit_items_has : (A P : Row → Type 0) (q : Bool) → Survives A P q → (v : Var) (is : List Item) (c : Cut) → is_unit_on v c.at ≡ true → P c.at.row → Has P (others c) → Has A (all_substituted (next_made is) c.at v (others c))
unit_items_has A P q l v is c e h k =
    let u = and_parts c.at.row.equal (has_unit v c.at) e in
    all_substituted_has A P l.lasts.again (next_made is) c.at v (λ r p. l.of_unit r c.at.row v u.1 p h) (others c) k

abbrev pub CutPasses : (Item → Bool) → Option Cut → Type 0
CutPasses f None = Unit {0}
CutPasses f (Some c) = f c.at ≡ true

pub cut_passes : (f : Item → Bool) (is : List Item) → CutPasses f (cut_at f is)
cut_passes f [] = tt
cut_passes f (i ∷ is) =
    if_cases (CutPasses f) (f i) (Some (cut [] i is)) (cut_later i (cut_at f is)) (λ e. e) (λ e. go (cut_at f is) (cut_passes f is))
  where
    go : (o : Option Cut) → CutPasses f o → CutPasses f (cut_later i o)
    go None k = tt
    go (Some c) k = k

-- an elimination changes nothing, or tidies rows that have A
pub each_elimination : (A P : Row → Type 0) (q : Bool) → Survives A P q → (G : List Item → Type 0) → ((js : List Item) → Has A js → G (tidy_items q js).items) → (v : Var) (is : List Item) → Has P is → G is → G (eliminate_item q v is).items
each_elimination A P q l G f v is h g =
    if_cases (λ (e : Eliminated). G e.items) (any_has v is) (by_unit q v is (cut_at (is_unit_on v) is)) (unchanged is)
    (λ e. units (cut_at (is_unit_on v) is) (cut_passes (is_unit_on v) is) (cut_has (λ i. P i.row) (is_unit_on v) is h))
    (λ e. g)
  where
    equals : (o : Option Cut) → CutHas (λ i. P i.row) o → G (by_equal q v is o).items
    equals None k = f (keep (is_without v) is ++ pairs (next_made is) v (keep (is_lower v) is) (keep (is_upper v) is)) (paired_items_has A P q l v is h)
    equals (Some c) k = f (all_cancelled (next_made is) c.at v (others c)) (cancelled_items_has A P q l v is c k.0 k.1)

    units : (o : Option Cut) → CutPasses (is_unit_on v) o → CutHas (λ i. P i.row) o → G (by_unit q v is o).items
    units None s k = equals (cut_at (is_equal_on v) is) (cut_has (λ i. P i.row) (is_equal_on v) is h)
    units (Some c) s k = f (all_substituted (next_made is) c.at v (others c)) (unit_items_has A P q l v is c s k.0 k.1)

pub eliminated_has : (A P : Row → Type 0) (q : Bool) → Survives A P q → (v : Var) (is : List Item) → Has P is → Has P (eliminate_item q v is).items
eliminated_has A P q l v is h = each_elimination A P q l (Has P) (tidied_has A P q l.lasts) v is h h

-- ---- at most 512 rows

length-put : (i : Item) (is : List Item) → length (put i is) ≡ suc (length is)
length-put i [] = refl
length-put i (j ∷ is) =
    if_cases (λ (ks : List Item). length ks ≡ suc (length (j ∷ is))) (is_before j.row i.row) (j ∷ put i is) (i ∷ j ∷ is) (λ e. ap suc (length-put i is)) (λ e. refl)

pub length-sorted : (is : List Item) → length (sorted is) ≡ length is
length-sorted [] = refl
length-sorted (i ∷ is) = omega (arith, length-put i (sorted is), length-sorted is)

length-one_each_after : (i : Item) (is : List Item) → length (one_each_after i is) ≤ suc (length is)
length-one_each_after i [] = omega arith
length-one_each_after i (j ∷ is) =
    let merging = length-one_each_after (stronger i j) is in
    let going = length-one_each_after j is in
    if_cases (λ (ks : List Item). length ks ≤ suc (length (j ∷ is))) (same_shape i.row j.row) (one_each_after (stronger i j) is) (i ∷ one_each_after j is)
    (λ e. omega (arith, merging)) (λ e. omega (arith, going))

length-one_each : (is : List Item) → length (one_each is) ≤ length is
length-one_each [] = omega arith
length-one_each (i ∷ is) = length-one_each_after i is

length-collapsed : (is : List Item) (n : ℕ) → 1 ≤ n → length is ≤ n → length (collapsed is) ≤ n
length-collapsed is n k h = if_cases (λ (js : List Item). length js ≤ n) (any_false is) (false_item ∷ []) is (λ e. k) (λ e. h)

length-faced_all : (n : ℕ) (is js : List Item) → length (faced_all n is js) ≡ length is
length-faced_all n [] js = refl
length-faced_all n (i ∷ is) js = ap suc (length-faced_all (suc n) is js)

length-taken : (n : ℕ) (is : List Item) → length (take n is) ≤ n
length-taken zero [] = omega arith
length-taken (suc n) [] = omega arith
length-taken zero (i ∷ is) = omega arith
length-taken (suc n) (i ∷ is) = omega (arith, length-taken n is)

pub round_at_most : (q : Bool) (is : List Item) → length (round q is).items ≤ 512
round_at_most q is =
    let some = take row_limit (in_form q is) in
    let n = next_made some in
    let a = length-taken row_limit (in_form q is) in
    let b = length-faced_all n some some in
    let c = length-sorted (faced_all n some some) in
    let d = length-one_each (sorted (faced_all n some some)) in
    length-collapsed (one_each (sorted (faced_all n some some))) 512 (omega arith) (omega (arith, a, b, c, d))
