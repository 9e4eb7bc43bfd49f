-- Steps of the loops of elimination.
use Rattle.std.proofs.Common.{◌≡◌, ℕ, zero, suc, ◌+◌, ◌*◌, ◌<◌, ◌≤◌, Bool, true, false, not, ◌&&◌, ◌||◌, List, [], ◌∷◌, ◌++◌, length, drop, get_or, reverse, drop-cons, drop_of_length-le, add-one, append-nil, append_assoc, arith, ap, ap₂, refl, sym, subst, ◌∙◌, ℤ, pos, ◌<ℤ◌, int_lt, int_eq, Option, Some, None}
use Rattle.std.specs.Prelude.{if◌then◌else◌}
use Rattle.std.proofs.lemmas.Int.{ints}
use Rattle.affine_systems.specs.declared.row.Var.{Var}
use Rattle.affine_systems.specs.declared.items.Item.{Item}
use Rattle.affine_systems.specs.declared.items.Eliminated.{Eliminated}
use Rattle.affine_systems.specs.Points.{factor_of, occurs}
use Rattle.affine_systems.specs.Items.{AllItems, next_made, Cut, cut_at, others, cut_of}
use Rattle.affine_systems.specs.Tidy.{tidy_items}
use Rattle.affine_systems.specs.Eliminate.{AreLower, elimination_of, unchanged, any_has, has_unit, is_unit_on, is_equal_on, all_cancelled, keep, is_lower, is_upper, is_without, pair, with_uppers, pairs, all_have_unit, every_pair_unit, paired_off, by_equal, by_unit, eliminate_item}
use Rattle.affine_systems.specs.Given.{IsGiven, ItemsFit, ItemsGiven, ItemsSmall, IsSmallRow}
use Rattle.affine_systems.proofs.Basics.{if_cases}
use Rattle.std.proofs.Math.Nat.{mul-le-mul}
use Rattle.std.proofs.lemmas.Bool.{false_from_ne_true, and_parts}
use Rattle.affine_systems.proofs.LastLaws.{Has, CutPasses, cut_passes, keep_has, cancelled_items_has, paired_items_has}
use Rattle.affine_systems.proofs.FitLaws.{IsTidy, tidy_small, fits_tidy, tidy_survives}
use Rattle.affine_systems.proofs.PivotSteps.{substituted-cancelled}
use Rattle.affine_systems.proofs.ItemSteps.{popped, item_at}
use Rattle.affine_systems.proofs.TurnSteps.{tidy_all_small as all_small}
use Rattle.elimination.proofs.ClosedLaws.{length-keep}
use Rattle.fx_lists.proofs.Numbers.{is_number}

pub has-lack : (v : Var) (is : List Item) (k : ℕ) (i : Item) → k < length is → i ≡ get_or is k i → occurs v i.row ≡ false → any_has v (drop k is) ≡ any_has v (drop (k + 1) is)
has-lack v is k i h e p =
    let x : drop k is ≡ i ∷ drop (suc k) is = drop-cons is k i h ∙ ap (λ (j : Item). j ∷ drop (suc k) is) (sym e) in
    rw (add-one k) (ap (any_has v) x ∙ ap (λ b. b || any_has v (drop (suc k) is)) p)

pub has-found : (v : Var) (is : List Item) (k : ℕ) (i : Item) → k < length is → i ≡ get_or is k i → occurs v i.row ≡ true → any_has v (drop k is) ≡ true
has-found v is k i h e p =
    let x : drop k is ≡ i ∷ drop (suc k) is = drop-cons is k i h ∙ ap (λ (j : Item). j ∷ drop (suc k) is) (sym e) in
    ap (any_has v) x ∙ ap (λ b. b || any_has v (drop (suc k) is)) p

pub has-end : (v : Var) (is : List Item) (k : ℕ) → length is ≤ k → any_has v (drop k is) ≡ false
has-end v is k h = ap (any_has v) (drop_of_length-le is h)

pub ruleset has_loop = (has-lack, has-found, has-end)

-- ---- rows split by the sign of the factor

-- what is left to split, before what is done
pub record IsSplit (v : Var) (left lows ups rest all : List Item) : Type 0 where
  pub lower : keep (is_lower v) left ++ reverse lows ≡ keep (is_lower v) all
  pub upper : keep (is_upper v) left ++ reverse ups ≡ keep (is_upper v) all
  pub without : keep (is_without v) left ++ reverse rest ≡ keep (is_without v) all
  pub small : ItemsSmall left

pub keep-push : (f : Item → Bool) (xs : List Item) (i : Item) → keep f (xs ++ i ∷ []) ≡ keep f xs ++ (if f i then i ∷ [] else [])
keep-push f [] i = refl
keep-push f (x ∷ xs) i = go (f x) (keep-push f xs i) where
  go : (b : Bool) → keep f (xs ++ i ∷ []) ≡ keep f xs ++ (if f i then i ∷ [] else []) → (if b then x ∷ keep f (xs ++ i ∷ []) else keep f (xs ++ i ∷ [])) ≡ (if b then x ∷ keep f xs else keep f xs) ++ (if f i then i ∷ [] else [])
  go true h = ap (λ (ys : List Item). x ∷ ys) h
  go false h = h

keep-in : (f : Item → Bool) (left more all out new : List Item) (i : Item) → left ≡ more ++ i ∷ [] → f i ≡ true → new ≡ out ++ i ∷ [] → keep f left ++ reverse out ≡ keep f all → keep f more ++ reverse new ≡ keep f all
keep-in f left more all out new i e p n h =
    ap (λ is. keep f more ++ is) (popped new out i n)
    ∙ (sym (append_assoc (keep f more) (i ∷ []) (reverse out))
    ∙ (ap (λ is. is ++ reverse out) (ap (λ b. keep f more ++ (if b then i ∷ [] else [])) (sym p) ∙ (sym (keep-push f more i) ∙ ap (keep f) (sym e))) ∙ h))

keep-out : (f : Item → Bool) (left more all out : List Item) (i : Item) → left ≡ more ++ i ∷ [] → f i ≡ false → keep f left ++ reverse out ≡ keep f all → keep f more ++ reverse out ≡ keep f all
keep-out f left more all out i e p h =
    ap (λ is. is ++ reverse out) (sym (append-nil (keep f more)) ∙ (ap (λ b. keep f more ++ (if b then i ∷ [] else [])) (sym p) ∙ (sym (keep-push f more i) ∙ ap (keep f) (sym e)))) ∙ h

small_front : (xs : List Item) (i : Item) → ItemsSmall (xs ++ i ∷ []) → ItemsSmall xs
small_front [] i h = tt
small_front (x ∷ xs) i h = (h.0, small_front xs i h.1)

small_last : (xs : List Item) (i : Item) → ItemsSmall (xs ++ i ∷ []) → IsSmallRow i.row
small_last [] i h = h.0
small_last (x ∷ xs) i h = small_last xs i h.1

pub split_item : (v : Var) (left more lows ups rest all : List Item) (i : Item) → left ≡ more ++ i ∷ [] → IsSplit v left lows ups rest all → IsSmallRow i.row
split_item v left more lows ups rest all i e h = small_last more i (subst ItemsSmall e h.small)

-- the three tests of a factor
less_tests : (z : ℤ) → z <ℤ pos 0 → (int_lt z (pos 0) ≡ true) × (int_lt (pos 0) z ≡ false) × (int_eq z (pos 0) ≡ false)
less_tests z h = (
  true_of (int_lt z (pos 0)) (λ e. omega (arith, ints, h, e)),
  false_from_ne_true (int_lt (pos 0) z) (λ e. omega (arith, ints, h, e)),
  false_from_ne_true (int_eq z (pos 0)) (λ e. let k = is_number z (pos 0) e in omega (arith, ints, h, k)),
) where
  true_of : (b : Bool) → (b ≡ false → ⊥) → b ≡ true
  true_of true n = refl
  true_of false n = absurd (n refl)

more_tests : (z : ℤ) → pos 0 <ℤ z → (int_lt z (pos 0) ≡ false) × (int_lt (pos 0) z ≡ true) × (int_eq z (pos 0) ≡ false)
more_tests z h = (
  false_from_ne_true (int_lt z (pos 0)) (λ e. omega (arith, ints, h, e)),
  true_of (int_lt (pos 0) z) (λ e. omega (arith, ints, h, e)),
  false_from_ne_true (int_eq z (pos 0)) (λ e. let k = is_number z (pos 0) e in omega (arith, ints, h, k)),
) where
  true_of : (b : Bool) → (b ≡ false → ⊥) → b ≡ true
  true_of true n = refl
  true_of false n = absurd (n refl)

module _ (v : Var) (left more lows ups rest all new : List Item) (i : Item) (e : left ≡ more ++ i ∷ []) (h : IsSplit v left lows ups rest all) where
  pub split_lower : factor_of v i.row.terms <ℤ pos 0 → new ≡ lows ++ i ∷ [] → IsSplit v more new ups rest all
  split_lower l n =
      let t = less_tests (factor_of v i.row.terms) l in record {
        lower = keep-in (is_lower v) left more all lows new i e t.0 n h.lower;
        upper = keep-out (is_upper v) left more all ups i e t.1 h.upper;
        without = keep-out (is_without v) left more all rest i e (ap (λ b. not (not b)) t.2) h.without;
        small = small_front more i (subst ItemsSmall e h.small);
      }

  pub split_upper : pos 0 <ℤ factor_of v i.row.terms → new ≡ ups ++ i ∷ [] → IsSplit v more lows new rest all
  split_upper l n =
      let t = more_tests (factor_of v i.row.terms) l in record {
        lower = keep-out (is_lower v) left more all lows i e t.0 h.lower;
        upper = keep-in (is_upper v) left more all ups new i e t.1 n h.upper;
        without = keep-out (is_without v) left more all rest i e (ap (λ b. not (not b)) t.2) h.without;
        small = small_front more i (subst ItemsSmall e h.small);
      }

  pub split_without : factor_of v i.row.terms ≡ pos 0 → new ≡ rest ++ i ∷ [] → IsSplit v more lows ups new all
  split_without z n = record {
    lower = keep-out (is_lower v) left more all lows i e (ap (λ x. int_lt x (pos 0)) z ∙ refl) h.lower;
    upper = keep-out (is_upper v) left more all ups i e (ap (λ x. int_lt (pos 0) x) z ∙ refl) h.upper;
    without = keep-in (is_without v) left more all rest new i e (ap (λ x. not (not (int_eq x (pos 0)))) z ∙ refl) n h.without;
    small = small_front more i (subst ItemsSmall e h.small);
  }

-- ---- pairs

pub with_uppers-more : (n : ℕ) (v : Var) (low : Item) (ups out new goal : List Item) (k : ℕ) (d : Item) → k < length ups → new ≡ out ++ pair (n + k) v low (get_or ups k d) ∷ [] → out ++ with_uppers (n + k) v low (drop k ups) ≡ goal → new ++ with_uppers (n + (k + 1)) v low (drop (k + 1) ups) ≡ goal
with_uppers-more n v low ups out new goal k d h e a =
    let s : n + (k + 1) ≡ suc (n + k) = omega arith in
    let x : drop k ups ≡ get_or ups k d ∷ drop (suc k) ups = drop-cons ups k d h in
    ap₂ (λ m hs. new ++ with_uppers m v low hs) s (ap (λ m. drop m ups) (add-one k))
    ∙ (ap (λ hs. hs ++ with_uppers (suc (n + k)) v low (drop (suc k) ups)) e
    ∙ (append_assoc out (pair (n + k) v low (get_or ups k d) ∷ []) (with_uppers (suc (n + k)) v low (drop (suc k) ups))
    ∙ (ap (λ hs. out ++ with_uppers (n + k) v low hs) (sym x) ∙ a)))

-- what is pushed and the next number, before what is left to pair
pub record IsPaired (v : Var) (lows ups : List Item) (k : ℕ) (next : ℕ) (out goal : List Item) (made : ℕ) : Type 0 where
  pub paired : out ++ pairs next v (drop k lows) ups ≡ goal
  pub number : next ≡ made + k * length ups
  pub within : k ≤ length lows

pub pairs-more : (v : Var) (lows ups out new goal : List Item) (k n : ℕ) (low : Item) → k < length lows → low ≡ get_or lows k low → new ≡ out ++ with_uppers n v low ups → out ++ pairs n v (drop k lows) ups ≡ goal → new ++ pairs (n + length ups) v (drop (k + 1) lows) ups ≡ goal
pairs-more v lows ups out new goal k n low h e p a =
    let x : drop k lows ≡ low ∷ drop (suc k) lows = drop-cons lows k low h ∙ ap (λ (j : Item). j ∷ drop (suc k) lows) (sym e) in
    ap (λ m. new ++ pairs (n + length ups) v (drop m lows) ups) (add-one k)
    ∙ (ap (λ is. is ++ pairs (n + length ups) v (drop (suc k) lows) ups) p
    ∙ (append_assoc out (with_uppers n v low ups) (pairs (n + length ups) v (drop (suc k) lows) ups)
    ∙ (ap (λ is. out ++ pairs n v is ups) (sym x) ∙ a)))

pub lower_at : (v : Var) (lows : List Item) (k : ℕ) (low : Item) → AreLower v lows → k < length lows → low ≡ get_or lows k low → is_lower v low ≡ true
lower_at v lows k low h l e = subst (λ (i : Item). is_lower v i ≡ true) (sym e) (item_at (λ i. is_lower v i ≡ true) lows k low h l)

pub units-have : (v : Var) (is : List Item) (k : ℕ) (i : Item) → k < length is → i ≡ get_or is k i → has_unit v i ≡ true → all_have_unit v (drop k is) ≡ all_have_unit v (drop (k + 1) is)
units-have v is k i h e p =
    let x : drop k is ≡ i ∷ drop (suc k) is = drop-cons is k i h ∙ ap (λ (j : Item). j ∷ drop (suc k) is) (sym e) in
    rw (add-one k) (ap (all_have_unit v) x ∙ ap (λ b. b && all_have_unit v (drop (suc k) is)) p)

pub units-lack : (v : Var) (is : List Item) (k : ℕ) (i : Item) → k < length is → i ≡ get_or is k i → has_unit v i ≡ false → all_have_unit v (drop k is) ≡ false
units-lack v is k i h e p =
    let x : drop k is ≡ i ∷ drop (suc k) is = drop-cons is k i h ∙ ap (λ (j : Item). j ∷ drop (suc k) is) (sym e) in
    ap (all_have_unit v) x ∙ ap (λ b. b && all_have_unit v (drop (suc k) is)) p

pub units-end : (v : Var) (is : List Item) (k : ℕ) → length is ≤ k → all_have_unit v (drop k is) ≡ true
units-end v is k h = ap (all_have_unit v) (drop_of_length-le is h)

pub ruleset units_loop = (units-have, units-lack, units-end)

pub pairs_unit-have : (v : Var) (lows ups : List Item) (k : ℕ) (i : Item) → k < length lows → i ≡ get_or lows k i → has_unit v i ≡ true → every_pair_unit v (drop k lows) ups ≡ every_pair_unit v (drop (k + 1) lows) ups
pairs_unit-have v lows ups k i h e p =
    let x : drop k lows ≡ i ∷ drop (suc k) lows = drop-cons lows k i h ∙ ap (λ (j : Item). j ∷ drop (suc k) lows) (sym e) in
    rw (add-one k) (ap (λ is. every_pair_unit v is ups) x ∙ ap (λ b. (b || all_have_unit v ups) && every_pair_unit v (drop (suc k) lows) ups) p)

pub pairs_unit-ups : (v : Var) (lows ups : List Item) (k : ℕ) (i : Item) → k < length lows → i ≡ get_or lows k i → all_have_unit v ups ≡ true → every_pair_unit v (drop k lows) ups ≡ every_pair_unit v (drop (k + 1) lows) ups
pairs_unit-ups v lows ups k i h e p =
    let x : drop k lows ≡ i ∷ drop (suc k) lows = drop-cons lows k i h ∙ ap (λ (j : Item). j ∷ drop (suc k) lows) (sym e) in
    rw (add-one k) (ap (λ is. every_pair_unit v is ups) x ∙ ap (λ b. b && every_pair_unit v (drop (suc k) lows) ups) (ap (λ b. has_unit v i || b) p ∙ or_true (has_unit v i)))
  where
    or_true : (b : Bool) → (b || true) ≡ true
    or_true true = refl
    or_true false = refl

pub pairs_unit-lack : (v : Var) (lows ups : List Item) (k : ℕ) (i : Item) → k < length lows → i ≡ get_or lows k i → has_unit v i ≡ false → all_have_unit v ups ≡ false → every_pair_unit v (drop k lows) ups ≡ false
pairs_unit-lack v lows ups k i h e p q =
    let x : drop k lows ≡ i ∷ drop (suc k) lows = drop-cons lows k i h ∙ ap (λ (j : Item). j ∷ drop (suc k) lows) (sym e) in
    ap (λ is. every_pair_unit v is ups) x ∙ ap₂ (λ a b. (a || b) && every_pair_unit v (drop (suc k) lows) ups) p q

pub pairs_unit-end : (v : Var) (lows ups : List Item) (k : ℕ) → length lows ≤ k → every_pair_unit v (drop k lows) ups ≡ true
pairs_unit-end v lows ups k h = ap (λ is. every_pair_unit v is ups) (drop_of_length-le lows h)

pub ruleset pairs_unit_loop = (pairs_unit-have, pairs_unit-ups, pairs_unit-lack, pairs_unit-end)

-- ---- the parts of a list

pub keep_small : (f : Item → Bool) (is : List Item) → ItemsSmall is → ItemsSmall (keep f is)
keep_small f is h = keep_has (λ i. IsSmallRow i.row) f is h

pub keep_lower : (v : Var) (is : List Item) → AreLower v (keep (is_lower v) is)
keep_lower v [] = tt
keep_lower v (i ∷ is) =
    if_cases (AreLower v) (is_lower v i) (i ∷ keep (is_lower v) is) (keep (is_lower v) is) (λ e. (e, keep_lower v is)) (λ e. keep_lower v is)

pub pairs_room : (made m n : ℕ) → made + 262144 < 18446744073709551616 → m ≤ 512 → n ≤ 512 → made + m * n < 18446744073709551616
pairs_room made m n h a b = let p : m * n ≤ 512 * 512 = mul-le-mul a b in omega (arith, p)

cut_parts : (P : Item → Type 0) (is : List Item) (k : ℕ) → AllItems P is → k < length is → P (cut_of is k).at × AllItems P (others (cut_of is k))
cut_parts P [] k h l = absurd (omega arith)
cut_parts P (i ∷ is) zero h l = (h.0, h.1)
cut_parts P (i ∷ is) (suc k) h l = let r = cut_parts P is k h.1 (omega arith) in (r.0, (h.0, r.1))

pub fit_small : (q : Bool) (is : List Item) → ItemsFit q is → ItemsSmall is
fit_small q is h = all_small q is (fits_tidy q is h)

pub by_given : (q : Bool) (v : Var) (is js : List Item) (k : ℕ) → ItemsFit q is → k < length is → js ≡ all_cancelled (next_made is) (cut_of is k).at v (others (cut_of is k)) → ItemsGiven js
by_given q v is js k h l e =
    let p = cut_parts (λ i. IsTidy q i.row) is k (fits_tidy q is h) l in
    subst ItemsGiven (sym e) (cancelled_items_has IsGiven (IsTidy q) q (tidy_survives q) v is (cut_of is k) p.0 p.1)

pub pairs_given : (q : Bool) (v : Var) (is js : List Item) → ItemsFit q is → js ≡ keep (is_without v) is ++ pairs (next_made is) v (keep (is_lower v) is) (keep (is_upper v) is) → ItemsGiven js
pairs_given q v is js h e = subst ItemsGiven (sym e) (paired_items_has IsGiven (IsTidy q) q (tidy_survives q) v is (fits_tidy q is h))

-- ---- the cases of elimination

-- what elimination by the equal row at a place makes
abbrev pub by_result : Bool → Var → List Item → ℕ → Bool → Eliminated
by_result q v is k exact = elimination_of exact false (tidy_items q (all_cancelled (next_made is) (cut_of is k).at v (others (cut_of is k))))

passes_at : (f : Item → Bool) (is : List Item) (c : Cut) → cut_at f is ≡ Some c → f c.at ≡ true
passes_at f is c e = subst (CutPasses f) e (cut_passes f is)

by_case : (q : Bool) (v : Var) (is : List Item) (o : Option Cut) → any_has v is ≡ true → cut_at (is_unit_on v) is ≡ o → by_unit q v is o ≡ eliminate_item q v is
by_case q v is o a u = ap (by_unit q v is) (sym u) ∙ ap (λ b. if b then by_unit q v is (cut_at (is_unit_on v) is) else unchanged is) (sym a)

pub elim_absent : (q : Bool) (v : Var) (is : List Item) → any_has v is ≡ false → unchanged is ≡ eliminate_item q v is
elim_absent q v is a = ap (λ b. if b then by_unit q v is (cut_at (is_unit_on v) is) else unchanged is) (sym a)

pub elim_unit : (q : Bool) (v : Var) (is : List Item) (k : ℕ) (e : Eliminated) → any_has v is ≡ true → cut_at (is_unit_on v) is ≡ Some (cut_of is k) → e ≡ elimination_of true false (tidy_items q (all_cancelled (next_made is) (cut_of is k).at v (others (cut_of is k)))) → e ≡ eliminate_item q v is
elim_unit q v is k e a u h =
    let c = cut_of is k in
    let f = and_parts c.at.row.equal (has_unit v c.at) (passes_at (is_unit_on v) is c u) in
    h ∙ (ap (λ js. elimination_of true false (tidy_items q js)) (sym (substituted-cancelled (next_made is) c.at v (others c) f.1)) ∙ by_case q v is (Some c) a u)

pub elim_equal : (q : Bool) (v : Var) (is : List Item) (k : ℕ) (e : Eliminated) → any_has v is ≡ true → cut_at (is_unit_on v) is ≡ None → cut_at (is_equal_on v) is ≡ Some (cut_of is k) → e ≡ elimination_of false false (tidy_items q (all_cancelled (next_made is) (cut_of is k).at v (others (cut_of is k)))) → e ≡ eliminate_item q v is
elim_equal q v is k e a u w h = h ∙ (ap (by_equal q v is) (sym w) ∙ by_case q v is None a u)

pub elim_pairs : (q : Bool) (v : Var) (is : List Item) (e : Eliminated) → any_has v is ≡ true → cut_at (is_unit_on v) is ≡ None → cut_at (is_equal_on v) is ≡ None → e ≡ paired_off q v is → e ≡ eliminate_item q v is
elim_pairs q v is e a u w h = h ∙ (ap (by_equal q v is) (sym w) ∙ by_case q v is None a u)
