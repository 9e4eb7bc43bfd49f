-- Elimination loses no point; where it is exact each point that is left has its origin.
use Rattle.std.proofs.Common.{◌≡◌, ℕ, suc, ◌+◌, Bool, true, false, List, [], ◌∷◌, ◌++◌, length, ℤ, pos, negsuc, neg_ℤ, ◌+ℤ◌, ◌*ℤ◌, ◌≤ℤ◌, arith, ap, refl, sym, subst, ◌∙◌, int_lt, unsigned_abs, Option, Some, None}
use Rattle.std.specs.Prelude.{if◌then◌else◌, nat_eq}
use Rattle.std.proofs.lemmas.Int.{ints}
use Rattle.std.proofs.lemmas.Bool.{and_parts}
use borrow.Author.Differences.{up}
use Rattle.affine_systems.specs.declared.row.Var.{Var}
use Rattle.affine_systems.specs.declared.row.Term.{Term}
use Rattle.affine_systems.specs.declared.row.Row.{Row}
use Rattle.affine_systems.specs.declared.row.System.{System}
use Rattle.affine_systems.specs.declared.items.Item.{Item}
use Rattle.affine_systems.specs.declared.items.Eliminated.{Eliminated}
use Rattle.affine_systems.specs.Terms.{add_terms}
use Rattle.affine_systems.specs.Rows.{combine_as, combine}
use Rattle.affine_systems.specs.Points.{Point, value, Meets, Holds, HoldsAll, factor_of, occurs}
use Rattle.affine_systems.specs.Items.{joined, item, next_made, items_from, Cut, cut_at, others}
use Rattle.affine_systems.specs.Tidy.{all_substituted, turn_limit, tidy_items}
use Rattle.affine_systems.specs.Eliminate.{unchanged, any_has, is_unit_on, is_equal_on, cancelling, all_cancelled, keep, is_lower, is_upper, is_without, pair, with_uppers, pairs, paired_off, by_equal, by_unit, eliminate_item, eliminate}
use Rattle.affine_systems.proofs.Basics.{if_cases, scale_le}
use Rattle.affine_systems.proofs.TermLaws.{value-add_terms}
use Rattle.affine_systems.proofs.TidyLaws.{HoldsItems, equally, append_holds, CutSays, cut_says, all_substituted_same, tidy_turns_hold, tidy_turns_back, items_from_same, rows_of_same}

pub tidied_holds : (p : Point) (q : Bool) (is : List Item) → HoldsItems p is → HoldsItems p (tidy_items q is).items
tidied_holds p q is h = tidy_turns_hold p turn_limit q is h

pub tidied_back : (p : Point) (q : Bool) (is : List Item) → (tidy_items q is).lost ≡ false → HoldsItems p (tidy_items q is).items → HoldsItems p is
tidied_back p q is l h = tidy_turns_back p turn_limit q is l h

-- ---- values of combinations

pub value-combined : (p : Point) (c : ℤ) (ts : List Term) (a : ℤ) (us : List Term) → value p (add_terms c ts (add_terms a us [])) ≡ (c *ℤ value p ts) +ℤ (a *ℤ value p us)
value-combined p c ts a us =
    let v = value-add_terms p c ts (add_terms a us []) in
    let w = value-add_terms p a us [] in
    v ∙ omega (arith, ints, w)

at_most_from : (p : Point) (r : Row) → Holds p r → value p r.terms ≤ℤ r.bound
at_most_from p r h = go r.equal (value p r.terms) r.bound h where
  go : (e : Bool) (x b : ℤ) → Meets e x b → x ≤ℤ b
  go true x b h = omega (arith, ints)
  go false x b h = h

-- a positive combination
pub combined_holds : (p : Point) (c : ℕ) (r : Row) (a : ℕ) (e : Row) → Holds p r → Holds p e → Holds p (combine_as false (pos c) r (pos a) e)
combined_holds p c r a e h k =
    let v = value-combined p (pos c) r.terms (pos a) e.terms in
    let x = scale_le c (value p r.terms) r.bound (at_most_from p r h) in
    let y = scale_le a (value p e.terms) e.bound (at_most_from p e k) in
    omega (arith, ints, v, x, y)

-- a positive multiple and a multiple of an equal row
cancelled_holds : (p : Point) (c : ℕ) (r : Row) (a : ℤ) (e : Row) → value p e.terms ≡ e.bound → Holds p r → Holds p (combine (pos c) r a e)
cancelled_holds p c r a e k h =
    let v = value-combined p (pos c) r.terms a e.terms in
    let m : a *ℤ value p e.terms ≡ a *ℤ e.bound = ap (λ x. a *ℤ x) k in
    go r.equal (value p r.terms) r.bound (value p (add_terms (pos c) r.terms (add_terms a e.terms []))) (a *ℤ e.bound) (v ∙ ap (λ x. (pos c *ℤ value p r.terms) +ℤ x) m) h
  where
    go : (g : Bool) (x b w d : ℤ) → w ≡ (pos c *ℤ x) +ℤ d → Meets g x b → Meets g w ((pos c *ℤ b) +ℤ d)
    go true x b w d e h = e ∙ ap (λ y. (pos c *ℤ y) +ℤ d) h
    go false x b w d e h = let s = scale_le c x b h in omega (arith, ints, s, e)

all_cancelled_hold : (p : Point) (n : ℕ) (e : Item) (v : Var) (is : List Item) → value p e.row.terms ≡ e.row.bound → HoldsItems p is → HoldsItems p (all_cancelled n e v is)
all_cancelled_hold p n e v [] k h = tt
all_cancelled_hold p n e v (i ∷ is) k h =
    let a = factor_of v e.row.terms in
    let c = factor_of v i.row.terms in (
      if_cases (λ (j : Item). Holds p j.row) (occurs v i.row) (item (cancelling a i.row e.row c) (joined i.originals e.originals) n) i
          (λ o. cancelled_holds p (unsigned_abs a) i.row (if int_lt a (pos 0) then c else neg_ℤ c) e.row k h.0)
          (λ o. h.0),
      all_cancelled_hold p (suc n) e v is k h.1,
    )

-- ---- pairs

pub keep_holds : (p : Point) (f : Item → Bool) (is : List Item) → HoldsItems p is → HoldsItems p (keep f is)
keep_holds p f [] h = tt
keep_holds p f (i ∷ is) h =
    if_cases (HoldsItems p) (f i) (i ∷ keep f is) (keep f is) (λ e. (h.0, keep_holds p f is h.1)) (λ e. keep_holds p f is h.1)

abbrev pub AllPass : (Item → Bool) → List Item → Type 0
AllPass f [] = Unit {0}
AllPass f (i ∷ is) = (f i ≡ true) × AllPass f is

pub keep_passes : (f : Item → Bool) (is : List Item) → AllPass f (keep f is)
keep_passes f [] = tt
keep_passes f (i ∷ is) =
    if_cases (AllPass f) (f i) (i ∷ keep f is) (keep f is) (λ e. (e, keep_passes f is)) (λ e. keep_passes f is)

-- a positive number, as a natural
positive_is : (z : ℤ) → int_lt (pos 0) z ≡ true → z ≡ pos (unsigned_abs z)
positive_is (pos n) e = refl
positive_is (negsuc n) e = cc

negative_is : (z : ℤ) → int_lt z (pos 0) ≡ true → neg_ℤ z ≡ pos (unsigned_abs z)
negative_is (pos n) e = absurd (omega (arith, ints, e))
negative_is (negsuc n) e = refl

pair_holds : (p : Point) (n : ℕ) (v : Var) (low up : Item) → is_lower v low ≡ true → is_upper v up ≡ true → Holds p low.row → Holds p up.row → Holds p (pair n v low up).row
pair_holds p n v low up l u h k =
    let x = negative_is (factor_of v low.row.terms) l in
    let y = positive_is (factor_of v up.row.terms) u in
    subst (λ (c : ℤ). Holds p (combine_as false c low.row (neg_ℤ (factor_of v low.row.terms)) up.row)) (sym y)
    (subst (λ (a : ℤ). Holds p (combine_as false (pos (unsigned_abs (factor_of v up.row.terms))) low.row a up.row)) (sym x)
    (combined_holds p (unsigned_abs (factor_of v up.row.terms)) low.row (unsigned_abs (factor_of v low.row.terms)) up.row h k))

with_uppers_hold : (p : Point) (n : ℕ) (v : Var) (low : Item) (ups : List Item) → is_lower v low ≡ true → AllPass (is_upper v) ups → Holds p low.row → HoldsItems p ups → HoldsItems p (with_uppers n v low ups)
with_uppers_hold p n v low [] l u h k = tt
with_uppers_hold p n v low (i ∷ ups) l u h k = (pair_holds p n v low i l u.0 h k.0, with_uppers_hold p (suc n) v low ups l u.1 h k.1)

pairs_hold : (p : Point) (n : ℕ) (v : Var) (lows ups : List Item) → AllPass (is_lower v) lows → AllPass (is_upper v) ups → HoldsItems p lows → HoldsItems p ups → HoldsItems p (pairs n v lows ups)
pairs_hold p n v [] ups l u h k = tt
pairs_hold p n v (low ∷ lows) ups l u h k =
    (append_holds p (with_uppers n v low ups) (pairs (n + length ups) v lows ups)).0
    (with_uppers_hold p n v low ups l.0 u h.0 k, pairs_hold p (n + length ups) v lows ups l.1 u h.1 k)

paired_off_holds : (p : Point) (q : Bool) (v : Var) (is : List Item) → HoldsItems p is → HoldsItems p (paired_off q v is).items
paired_off_holds p q v is h =
    let lows = keep (is_lower v) is in
    let ups = keep (is_upper v) is in
    tidied_holds p q (keep (is_without v) is ++ pairs (next_made is) v lows ups)
    ((append_holds p (keep (is_without v) is) (pairs (next_made is) v lows ups)).0
    (keep_holds p (is_without v) is h, pairs_hold p (next_made is) v lows ups (keep_passes (is_lower v) is) (keep_passes (is_upper v) is) (keep_holds p (is_lower v) is h) (keep_holds p (is_upper v) is h)))

-- ---- no point is lost

by_equal_holds : (p : Point) (q : Bool) (v : Var) (is : List Item) (o : Option Cut) → CutSays (is_equal_on v) is o → HoldsItems p is → HoldsItems p (by_equal q v is o).items
by_equal_holds p q v is None s h = paired_off_holds p q v is h
by_equal_holds p q v is (Some c) s h =
    let e = and_parts c.at.row.equal (occurs v c.at.row) s.0 in
    let k = (s.1 p).0 h in
    tidied_holds p q (all_cancelled (next_made is) c.at v (others c))
    (all_cancelled_hold p (next_made is) c.at v (others c) ((equally p c.at.row e.0).0 k.0) k.1)

by_unit_holds : (p : Point) (q : Bool) (v : Var) (is : List Item) (o : Option Cut) → CutSays (is_unit_on v) is o → HoldsItems p is → HoldsItems p (by_unit q v is o).items
by_unit_holds p q v is None s h = by_equal_holds p q v is (cut_at (is_equal_on v) is) (cut_says (is_equal_on v) is) h
by_unit_holds p q v is (Some c) s h =
    let e = and_parts c.at.row.equal (nat_eq (unsigned_abs (factor_of v c.at.row.terms)) 1) s.0 in
    let k = (s.1 p).0 h in
    tidied_holds p q (all_substituted (next_made is) c.at v (others c))
    ((all_substituted_same p (next_made is) c.at v (others c) ((equally p c.at.row e.0).0 k.0)).0 k.1)

pub eliminate_item_holds : (p : Point) (q : Bool) (v : Var) (is : List Item) → HoldsItems p is → HoldsItems p (eliminate_item q v is).items
eliminate_item_holds p q v is h =
    if_cases (λ (e : Eliminated). HoldsItems p e.items) (any_has v is) (by_unit q v is (cut_at (is_unit_on v) is)) (unchanged is)
    (λ e. by_unit_holds p q v is (cut_at (is_unit_on v) is) (cut_says (is_unit_on v) is) h)
    (λ e. h)

pub eliminate_holds : (p : Point) (s : System) (v : Var) → HoldsAll p s.rows → HoldsAll p (eliminate s v).system.rows
eliminate_holds p s v h =
    let is = items_from 0 s.rows in
    (rows_of_same p (eliminate_item false v is).items).0 (eliminate_item_holds p false v is ((items_from_same p 0 s.rows).0 h))
