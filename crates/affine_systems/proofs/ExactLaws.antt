-- Where an elimination is exact each point that is left has its origin.
use Rattle.std.proofs.Common.{◌≡◌, ℕ, suc, ◌+◌, ◌<◌, Bool, true, false, not, ◌&&◌, ◌||◌, List, [], ◌∷◌, ◌++◌, length, ℤ, pos, negsuc, neg_ℤ, ◌+ℤ◌, ◌-ℤ◌, ◌*ℤ◌, ◌≤ℤ◌, arith, ap, refl, sym, subst, ◌∙◌, int_eq, int_lt, unsigned_abs, Option, Some, None, ⊎_elim, ◌⊎◌, inl, inr}
use Rattle.std.specs.Prelude.{if◌then◌else◌, nat_eq}
use Rattle.std.specs.Int.{int_div_euclid}
use Rattle.std.proofs.lemmas.Int.{ints, by_lt_z}
use Rattle.std.proofs.lemmas.Bool.Decides.{Decides-eqb, Decides-int_eq}
use Rattle.std.proofs.lemmas.Bool.{cases_Bool, and_parts, or_parts, not-true}
use borrow.Author.Differences.{up}
use Rattle.affine_systems.specs.declared.row.Var.{Var}
use Rattle.affine_systems.specs.declared.row.Term.{Term}
use Rattle.affine_systems.specs.declared.row.Row.{Row}
use Rattle.affine_systems.specs.declared.row.System.{System}
use Rattle.affine_systems.specs.declared.items.Item.{Item}
use Rattle.affine_systems.specs.declared.items.Eliminated.{Eliminated}
use Rattle.affine_systems.specs.Terms.{var_eq}
use Rattle.affine_systems.specs.Points.{Point, value, Meets, Holds, HoldsAll, moved, only, factor_of, occurs}
use Rattle.affine_systems.specs.Items.{joined, item, AllItems, next_made, items_from, Cut, cut_at, others}
use Rattle.affine_systems.specs.Tidy.{by_row, substituted, all_substituted, tidy_items}
use Rattle.affine_systems.specs.Eliminate.{unchanged, any_has, has_unit, is_unit_on, is_equal_on, keep, is_lower, is_upper, is_without, pair, with_uppers, pairs, all_have_unit, every_pair_unit, paired_off, by_equal, by_unit, eliminate_item, eliminate}
use Rattle.affine_systems.proofs.Basics.{if_cases, distributes, distributes_right, mul_assoc, mul_comm, neg_mul}
use Rattle.affine_systems.proofs.TermLaws.{var_eq-true}
use Rattle.affine_systems.proofs.NormalLaws.{below_floor, from_floor}
use Rattle.affine_systems.proofs.TidyLaws.{HoldsItems, at_most, equally, append_holds, CutSays, cut_says, all_substituted_same, items_from_same, rows_of_same}
use Rattle.affine_systems.proofs.ElimLaws.{tidied_back, value-combined, AllPass, keep_passes}
use Rattle.fx_lists.proofs.Booleans.{right_of as rest, clash}
use Rattle.fx_lists.proofs.Numbers.{is_number}

back : (x y : ℤ) → (x -ℤ y) +ℤ y ≡ x
back x y = omega (arith, ints)

pub value-moved : (p : Point) (v : Var) (x : ℤ) (ts : List Term) → value (moved p v x) ts ≡ value p ts +ℤ (factor_of v ts *ℤ (x -ℤ p v))
unfolding factor_of
value-moved p v x [] = omega (arith, ints)
value-moved p v x (t ∷ ts) =
    let ih = value-moved p v x ts in
    let m = factor_of v ts in
    ⊎_elim
    (λ e. here e (var_eq-true v t.var e) m (value (moved p v x) ts) (value p ts) ih)
    (λ e. there e m (value (moved p v x) ts) (value p ts) ih)
    (cases_Bool (var_eq v t.var))
  where
    here : var_eq v t.var ≡ true → v ≡ t.var → (m a b : ℤ) → a ≡ b +ℤ (m *ℤ (x -ℤ p v)) → (t.factor *ℤ moved p v x t.var) +ℤ a ≡ ((t.factor *ℤ p t.var) +ℤ b) +ℤ (((t.factor *ℤ (if var_eq v t.var then pos 1 else pos 0)) +ℤ m) *ℤ (x -ℤ p v))
    here e s m a b h =
        let q : p v ≡ p t.var = ap p s in
        let r : t.factor *ℤ p v ≡ t.factor *ℤ p t.var = ap (λ z. t.factor *ℤ z) q in
        let d = distributes_right (t.factor *ℤ pos 1) m (x -ℤ p v) in
        let one : t.factor *ℤ pos 1 ≡ t.factor = omega (arith, ints) in
        let o : (t.factor *ℤ pos 1) *ℤ (x -ℤ p v) ≡ t.factor *ℤ (x -ℤ p v) = ap (λ z. z *ℤ (x -ℤ p v)) one in
        let f = distributes t.factor (x -ℤ p v) (p v) in
        let g : t.factor *ℤ ((x -ℤ p v) +ℤ p v) ≡ t.factor *ℤ x = ap (λ z. t.factor *ℤ z) (back x (p v)) in
        rw e (omega (arith, ints, h, r, d, o, f, g))

    there : var_eq v t.var ≡ false → (m a b : ℤ) → a ≡ b +ℤ (m *ℤ (x -ℤ p v)) → (t.factor *ℤ moved p v x t.var) +ℤ a ≡ ((t.factor *ℤ p t.var) +ℤ b) +ℤ (((t.factor *ℤ (if var_eq v t.var then pos 1 else pos 0)) +ℤ m) *ℤ (x -ℤ p v))
    there e m a b h =
        let z : (t.factor *ℤ pos 0) +ℤ m ≡ m = omega (arith, ints) in
        let k : ((t.factor *ℤ pos 0) +ℤ m) *ℤ (x -ℤ p v) ≡ m *ℤ (x -ℤ p v) = ap (λ y. y *ℤ (x -ℤ p v)) z in
        rw e (omega (arith, ints, h, k))

-- a row without v holds wherever v is moved
pub without_moves : (p : Point) (v : Var) (x : ℤ) (r : Row) → factor_of v r.terms ≡ pos 0 → Holds p r → Holds (moved p v x) r
without_moves p v x r z h =
    let m = value-moved p v x r.terms in
    let k : factor_of v r.terms *ℤ (x -ℤ p v) ≡ pos 0 *ℤ (x -ℤ p v) = ap (λ y. y *ℤ (x -ℤ p v)) z in
    let e : value p r.terms ≡ value (moved p v x) r.terms = omega (arith, ints, m, k) in
    subst (λ (y : ℤ). Meets r.equal y r.bound) e h

pub occurs-false : (v : Var) (r : Row) → occurs v r ≡ false → factor_of v r.terms ≡ pos 0
occurs-false v r e = is_number (factor_of v r.terms) (pos 0) (true_from (int_eq (factor_of v r.terms) (pos 0)) e) where
  true_from : (b : Bool) → not b ≡ false → b ≡ true
  true_from true e = refl
  true_from false e = cc

-- ---- an equal row with factor 1 or -1

unit_square : (z : ℤ) → nat_eq (unsigned_abs z) 1 ≡ true → z *ℤ z ≡ pos 1
unit_square (pos n) e = let h : n ≡ 1 = (Decides-eqb n 1).0 e in rw h refl
unit_square (negsuc n) e = let h : suc n ≡ 1 = (Decides-eqb (suc n) 1).0 e in let k : n ≡ 0 = omega arith in rw k refl

-- v so that the equal row holds
abbrev solved : Point → Var → Row → ℤ
solved p v e = p v +ℤ (factor_of v e.terms *ℤ (e.bound -ℤ value p e.terms))

solved_holds : (p : Point) (v : Var) (e : Row) → nat_eq (unsigned_abs (factor_of v e.terms)) 1 ≡ true → value (moved p v (solved p v e)) e.terms ≡ e.bound
solved_holds p v e u =
    let f = factor_of v e.terms in
    let d = e.bound -ℤ value p e.terms in
    let m = value-moved p v (solved p v e) e.terms in
    let s : (solved p v e -ℤ p v) ≡ f *ℤ d = cancels (p v) (f *ℤ d) in
    let a = mul_assoc f f d in
    let q : (f *ℤ f) *ℤ d ≡ pos 1 *ℤ d = ap (λ y. y *ℤ d) (unit_square f u) in
    let k : f *ℤ (solved p v e -ℤ p v) ≡ f *ℤ (f *ℤ d) = ap (λ y. f *ℤ y) s in
    m ∙ (ap (λ y. value p e.terms +ℤ y) (k ∙ sym a ∙ q) ∙ ends (value p e.terms) e.bound)
  where
    cancels : (x y : ℤ) → (x +ℤ y) -ℤ x ≡ y
    cancels x y = omega (arith, ints)

    ends : (x b : ℤ) → x +ℤ (pos 1 *ℤ (b -ℤ x)) ≡ b
    ends x b = omega (arith, ints)

-- a row with the equal row substituted has no v
pub substituted_lacks : (n : ℕ) (e : Item) (v : Var) (i : Item) → nat_eq (unsigned_abs (factor_of v e.row.terms)) 1 ≡ true → factor_of v (substituted n e v i).row.terms ≡ pos 0
unfolding factor_of
substituted_lacks n e v i u =
    let f = factor_of v e.row.terms in
    let c = factor_of v i.row.terms in
    if_cases (λ (j : Item). factor_of v j.row.terms ≡ pos 0) (occurs v i.row) (item (by_row i.row v e.row) (joined i.originals e.originals) n) i
    (λ o. value-combined (only v) (pos 1) i.row.terms (neg_ℤ (c *ℤ f)) e.row.terms ∙ zeroes c f (unit_square f u))
    (λ o. occurs-false v i.row o)
  where
    zeroes : (c f : ℤ) → f *ℤ f ≡ pos 1 → (pos 1 *ℤ c) +ℤ (neg_ℤ (c *ℤ f) *ℤ f) ≡ pos 0
    zeroes c f s =
        let n = neg_mul (c *ℤ f) f in
        let a = mul_assoc c f f in
        let k : c *ℤ (f *ℤ f) ≡ c *ℤ pos 1 = ap (λ y. c *ℤ y) s in
        omega (arith, ints, n, a, k)

all_substituted_move : (p : Point) (x : ℤ) (n : ℕ) (e : Item) (v : Var) (is : List Item) → nat_eq (unsigned_abs (factor_of v e.row.terms)) 1 ≡ true → HoldsItems p (all_substituted n e v is) → HoldsItems (moved p v x) (all_substituted n e v is)
all_substituted_move p x n e v [] u h = tt
all_substituted_move p x n e v (i ∷ is) u h =
    (without_moves p v x (substituted n e v i).row (substituted_lacks n e v i u) h.0, all_substituted_move p x (suc n) e v is u h.1)

-- a point with another number at v
abbrev pub Extends : Point → Var → List Item → Type 0
Extends p v is = (x : ℤ) × HoldsItems (moved p v x) is

unit_extends : (p : Point) (q : Bool) (v : Var) (is : List Item) (c : Cut) → CutSays (is_unit_on v) is (Some c) → (by_unit q v is (Some c)).exact ≡ true → HoldsItems p (by_unit q v is (Some c)).items → Extends p v is
unit_extends p q v is c s x h =
    let e = and_parts c.at.row.equal (nat_eq (unsigned_abs (factor_of v c.at.row.terms)) 1) s.0 in
    let n = next_made is in
    let l = not-true (tidy_items q (all_substituted n c.at v (others c))).lost x in
    let k = tidied_back p q (all_substituted n c.at v (others c)) l h in
    let z = solved p v c.at.row in
    let r = solved_holds p v c.at.row e.1 in
    let m = all_substituted_move p z n c.at v (others c) e.1 k in
    (z, (s.1 (moved p v z)).1 ((equally (moved p v z) c.at.row e.0).1 r, (all_substituted_same (moved p v z) n c.at v (others c) r).1 m))

-- ---- pairs of a lower and an upper row

pub div_one : (s : ℤ) → int_div_euclid s (pos 1) ≡ s
div_one (pos n) = ap pos (omega arith)
div_one (negsuc n) = ap negsuc (omega arith)

pub mul_neg : (x y : ℤ) → x *ℤ neg_ℤ y ≡ neg_ℤ (x *ℤ y)
mul_neg x y = let a = mul_comm x (neg_ℤ y) in let b = neg_mul y x in let c = mul_comm y x in omega (arith, ints, a, b, c)

ends_meet : (s t : ℤ) (a c : ℕ) → 0 < a → 0 < c → (a ≡ 1) ⊎ (c ≡ 1) → pos 0 ≤ℤ ((pos c *ℤ s) +ℤ (pos a *ℤ t)) → neg_ℤ (int_div_euclid s (pos a)) ≤ℤ int_div_euclid t (pos c)
ends_meet s t a c h k (inl e) l =
    let one : int_div_euclid s (pos a) ≡ s = ap (λ n. int_div_euclid s (pos n)) e ∙ div_one s in
    let u : pos a *ℤ t ≡ pos 1 *ℤ t = ap (λ n. pos n *ℤ t) e in
    let m = mul_neg (pos c) s in
    let f = below_floor c (neg_ℤ s) t k (omega (arith, ints, m, l, u)) in
    omega (arith, ints, f, one)
ends_meet s t a c h k (inr e) l =
    let one : int_div_euclid t (pos c) ≡ t = ap (λ n. int_div_euclid t (pos n)) e ∙ div_one t in
    let u : pos c *ℤ s ≡ pos 1 *ℤ s = ap (λ n. pos n *ℤ s) e in
    let m = mul_neg (pos a) t in
    let f = below_floor a (neg_ℤ t) s h (omega (arith, ints, m, l, u)) in
    omega (arith, ints, f, one)

-- how far v may move down or up for a row to hold still
abbrev slack : Point → Item → ℤ
slack p i = i.row.bound -ℤ value p i.row.terms

abbrev size : Var → Item → ℕ
size v i = unsigned_abs (factor_of v i.row.terms)

abbrev low_end : Point → Var → Item → ℤ
low_end p v i = neg_ℤ (int_div_euclid (slack p i) (pos (size v i)))

abbrev high_end : Point → Var → Item → ℤ
high_end p v i = int_div_euclid (slack p i) (pos (size v i))

positive_is : (z : ℤ) → int_lt (pos 0) z ≡ true → (z ≡ pos (unsigned_abs z)) × (0 < unsigned_abs z)
positive_is (pos n) e = (refl, omega (arith, ints, e))
positive_is (negsuc n) e = cc

negative_is : (z : ℤ) → int_lt z (pos 0) ≡ true → (z ≡ neg_ℤ (pos (unsigned_abs z))) × (neg_ℤ z ≡ pos (unsigned_abs z)) × (0 < unsigned_abs z)
negative_is (pos n) e = absurd (omega (arith, ints, e))
negative_is (negsuc n) e = (refl, refl, omega arith)

unit_of : (v : Var) (low up : Item) → (has_unit v low || has_unit v up) ≡ true → (size v low ≡ 1) ⊎ (size v up ≡ 1)
unit_of v low up e = go (has_unit v low) refl where
  go : (b : Bool) → has_unit v low ≡ b → (size v low ≡ 1) ⊎ (size v up ≡ 1)
  go true h = inl ((Decides-eqb (size v low) 1).0 h)
  go false h = inr ((Decides-eqb (size v up) 1).0 (rest (has_unit v low) (has_unit v up) h e))

pair_meets : (p : Point) (n : ℕ) (v : Var) (low up : Item) → is_lower v low ≡ true → is_upper v up ≡ true → (has_unit v low || has_unit v up) ≡ true → Holds p (pair n v low up).row → low_end p v low ≤ℤ high_end p v up
pair_meets p n v low up l u x h =
    let A = negative_is (factor_of v low.row.terms) l in
    let C = positive_is (factor_of v up.row.terms) u in
    let c = factor_of v up.row.terms in
    let a = neg_ℤ (factor_of v low.row.terms) in
    let w = value-combined p c low.row.terms a up.row.terms in
    let d = distributes c low.row.bound (neg_ℤ (value p low.row.terms)) in
    let e = distributes a up.row.bound (neg_ℤ (value p up.row.terms)) in
    let m = mul_neg c (value p low.row.terms) in
    let k = mul_neg a (value p up.row.terms) in
    let g : pos 0 ≤ℤ ((c *ℤ slack p low) +ℤ (a *ℤ slack p up)) = omega (arith, ints, w, d, e, m, k, h) in
    ends_meet (slack p low) (slack p up) (size v low) (size v up) A.2 C.1 (unit_of v low up x)
    (subst (λ (z : ℤ). pos 0 ≤ℤ ((z *ℤ slack p low) +ℤ (pos (size v low) *ℤ slack p up))) C.0
    (subst (λ (z : ℤ). pos 0 ≤ℤ ((c *ℤ slack p low) +ℤ (z *ℤ slack p up))) A.1 g))

abbrev AtMost : Point → Var → ℤ → List Item → Type 0
AtMost p v d is = AllItems (λ i. low_end p v i ≤ℤ d) is

abbrev AtLeast : Point → Var → ℤ → List Item → Type 0
AtLeast p v d is = AllItems (λ i. d ≤ℤ high_end p v i) is

abbrev EndsMeet : Point → Var → List Item → List Item → Type 0
EndsMeet p v [] ups = Unit {0}
EndsMeet p v (low ∷ lows) ups = AtLeast p v (low_end p v low) ups × EndsMeet p v lows ups

with_uppers_meet : (p : Point) (n : ℕ) (v : Var) (low : Item) (ups : List Item) → is_lower v low ≡ true → AllPass (is_upper v) ups → (has_unit v low || all_have_unit v ups) ≡ true → HoldsItems p (with_uppers n v low ups) → AtLeast p v (low_end p v low) ups
with_uppers_meet p n v low [] l u x h = tt
with_uppers_meet p n v low (up ∷ ups) l u x h =
    let y = splits (has_unit v low) (has_unit v up) (all_have_unit v ups) x in
    (pair_meets p n v low up l u.0 y.0 h.0, with_uppers_meet p (suc n) v low ups l u.1 y.1 h.1)
  where
    splits : (a b c : Bool) → (a || (b && c)) ≡ true → ((a || b) ≡ true) × ((a || c) ≡ true)
    splits true b c e = (refl, refl)
    splits false true c e = (refl, e)
    splits false false c e = cc

pairs_meet : (p : Point) (n : ℕ) (v : Var) (lows ups : List Item) → AllPass (is_lower v) lows → AllPass (is_upper v) ups → every_pair_unit v lows ups ≡ true → HoldsItems p (pairs n v lows ups) → EndsMeet p v lows ups
pairs_meet p n v [] ups l u x h = tt
pairs_meet p n v (low ∷ lows) ups l u x h =
    let y = and_parts (has_unit v low || all_have_unit v ups) (every_pair_unit v lows ups) x in
    let k = (append_holds p (with_uppers n v low ups) (pairs (n + length ups) v lows ups)).1 h in
    (with_uppers_meet p n v low ups l.0 u y.0 k.0, pairs_meet p (n + length ups) v lows ups l.1 u y.1 k.1)

-- a move between all ends
at_least_less : (p : Point) (v : Var) (d e : ℤ) (is : List Item) → d ≤ℤ e → AtLeast p v e is → AtLeast p v d is
at_least_less p v d e [] l h = tt
at_least_less p v d e (i ∷ is) l h = (omega (arith, ints, l, h.0), at_least_less p v d e is l h.1)

at_most_more : (p : Point) (v : Var) (d e : ℤ) (is : List Item) → d ≤ℤ e → AtMost p v d is → AtMost p v e is
at_most_more p v d e [] l h = tt
at_most_more p v d e (i ∷ is) l h = (omega (arith, ints, l, h.0), at_most_more p v d e is l h.1)

between : (p : Point) (v : Var) (lows ups : List Item) → EndsMeet p v lows ups → (d : ℤ) × AtMost p v d lows × AtLeast p v d ups
between p v [] [] h = (pos 0, tt, tt)
between p v [] (up ∷ ups) h =
    let b = between p v [] ups tt in
    by_lt_z b.0 (high_end p v up)
    (λ l. (b.0, tt, (omega (arith, ints, l), b.2)))
    (λ l. (high_end p v up, tt, (omega (arith, ints), at_least_less p v (high_end p v up) b.0 ups l b.2)))
between p v (low ∷ lows) ups h =
    let b = between p v lows ups h.1 in
    by_lt_z b.0 (low_end p v low)
    (λ l. (low_end p v low, (omega (arith, ints), at_most_more p v b.0 (low_end p v low) lows (omega (arith, ints, l)) b.1), h.0))
    (λ l. (b.0, (l, b.1), b.2))

kept_part : (P : Item → Type 0) (f : Item → Bool) (i : Item) (is : List Item) → AllItems P (keep f (i ∷ is)) → (f i ≡ true → P i) × AllItems P (keep f is)
kept_part P f i is h =
    if_cases (λ (js : List Item). AllItems P js → (f i ≡ true → P i) × AllItems P (keep f is)) (f i) (i ∷ keep f is) (keep f is)
    (λ e k. ((λ t. k.0), k.1))
    (λ e k. ((λ t. clash (f i) t e), k))
    h

-- a row after a move by d
value-by : (p : Point) (v : Var) (d : ℤ) (ts : List Term) → value (moved p v (p v +ℤ d)) ts ≡ value p ts +ℤ (factor_of v ts *ℤ d)
value-by p v d ts =
    let m = value-moved p v (p v +ℤ d) ts in
    m ∙ ap (λ y. value p ts +ℤ (factor_of v ts *ℤ y)) (plain (p v) d)
  where
    plain : (x y : ℤ) → (x +ℤ y) -ℤ x ≡ y
    plain x y = omega (arith, ints)

lower_holds : (p : Point) (v : Var) (d : ℤ) (i : Item) → i.row.equal ≡ false → is_lower v i ≡ true → low_end p v i ≤ℤ d → Holds (moved p v (p v +ℤ d)) i.row
lower_holds p v d i q l h =
    let A = negative_is (factor_of v i.row.terms) l in
    let a = pos (size v i) in
    let f = from_floor (size v i) (neg_ℤ d) (slack p i) A.2 (omega (arith, ints, h)) in
    let m = value-by p v d i.row.terms in
    let n : factor_of v i.row.terms *ℤ d ≡ neg_ℤ a *ℤ d = ap (λ z. z *ℤ d) A.0 in
    let k = neg_mul a d in
    let o = mul_neg a d in
    (at_most (moved p v (p v +ℤ d)) i.row q).1 (omega (arith, ints, f, m, n, k, o))

upper_holds : (p : Point) (v : Var) (d : ℤ) (i : Item) → i.row.equal ≡ false → is_upper v i ≡ true → d ≤ℤ high_end p v i → Holds (moved p v (p v +ℤ d)) i.row
upper_holds p v d i q u h =
    let C = positive_is (factor_of v i.row.terms) u in
    let c = pos (size v i) in
    let f = from_floor (size v i) d (slack p i) C.1 h in
    let m = value-by p v d i.row.terms in
    let n : factor_of v i.row.terms *ℤ d ≡ c *ℤ d = ap (λ z. z *ℤ d) C.0 in
    (at_most (moved p v (p v +ℤ d)) i.row q).1 (omega (arith, ints, f, m, n))

-- each item is without v, lower or upper
three_ways : (P : Type 0) (z : ℤ) → (int_eq z (pos 0) ≡ true → P) → (int_eq z (pos 0) ≡ false → int_lt z (pos 0) ≡ true → P) → (int_eq z (pos 0) ≡ false → int_lt (pos 0) z ≡ true → P) → P
three_ways P z f g h = go (int_eq z (pos 0)) (int_lt z (pos 0)) (int_lt (pos 0) z) refl refl refl where
  go : (a b c : Bool) → int_eq z (pos 0) ≡ a → int_lt z (pos 0) ≡ b → int_lt (pos 0) z ≡ c → P
  go true b c e k l = f e
  go false true c e k l = g e k
  go false false true e k l = h e l
  go false false false e k l =
      let x : z ≡ pos 0 = omega (arith, ints, k, l) in clash (int_eq z (pos 0)) ((Decides-int_eq z (pos 0)).1 x) e

not_equal_on : (v : Var) (i : Item) → is_equal_on v i ≡ false → int_eq (factor_of v i.row.terms) (pos 0) ≡ false → i.row.equal ≡ false
not_equal_on v i e z = go i.row.equal (int_eq (factor_of v i.row.terms) (pos 0)) z e where
  go : (a b : Bool) → b ≡ false → (a && not b) ≡ false → a ≡ false
  go true true f g = cc
  go true false f g = cc
  go false b f g = refl

all_hold : (p : Point) (v : Var) (d : ℤ) (is : List Item) → AllItems (λ i. is_equal_on v i ≡ false) is → HoldsItems p (keep (is_without v) is) → AtMost p v d (keep (is_lower v) is) → AtLeast p v d (keep (is_upper v) is) → HoldsItems (moved p v (p v +ℤ d)) is
all_hold p v d [] n w l u = tt
all_hold p v d (i ∷ is) n w l u =
    let ws = kept_part (λ j. Holds p j.row) (is_without v) i is w in
    let ls = kept_part (λ j. low_end p v j ≤ℤ d) (is_lower v) i is l in
    let us = kept_part (λ j. d ≤ℤ high_end p v j) (is_upper v) i is u in (
      three_ways (Holds (moved p v (p v +ℤ d)) i.row) (factor_of v i.row.terms)
          (λ e. without_moves p v (p v +ℤ d) i.row (is_number (factor_of v i.row.terms) (pos 0) e) (ws.0 (ap (λ b. not (not b)) e)))
          (λ e t. lower_holds p v d i (not_equal_on v i n.0 e) t (ls.0 t))
          (λ e t. upper_holds p v d i (not_equal_on v i n.0 e) t (us.0 t)),
      all_hold p v d is n.1 ws.1 ls.1 us.1,
    )

pairs_extend : (p : Point) (q : Bool) (v : Var) (is : List Item) → AllItems (λ i. is_equal_on v i ≡ false) is → (paired_off q v is).exact ≡ true → HoldsItems p (paired_off q v is).items → Extends p v is
pairs_extend p q v is n x h =
    let lows = keep (is_lower v) is in
    let ups = keep (is_upper v) is in
    let new = keep (is_without v) is ++ pairs (next_made is) v lows ups in
    let y = and_parts (every_pair_unit v lows ups) (not (tidy_items q new).lost) x in
    let k = (append_holds p (keep (is_without v) is) (pairs (next_made is) v lows ups)).1 (tidied_back p q new (not-true (tidy_items q new).lost y.1) h) in
    let b = between p v lows ups (pairs_meet p (next_made is) v lows ups (keep_passes (is_lower v) is) (keep_passes (is_upper v) is) y.0 k.1) in
    (p v +ℤ b.0, all_hold p v b.0 is n k.0 b.1 b.2)

equal_extends : (p : Point) (q : Bool) (v : Var) (is : List Item) (o : Option Cut) → CutSays (is_equal_on v) is o → (by_equal q v is o).exact ≡ true → HoldsItems p (by_equal q v is o).items → Extends p v is
equal_extends p q v is None s x h = pairs_extend p q v is s x h
equal_extends p q v is (Some c) s x h = cc

any_extends : (p : Point) (q : Bool) (v : Var) (is : List Item) (o : Option Cut) → CutSays (is_unit_on v) is o → (by_unit q v is o).exact ≡ true → HoldsItems p (by_unit q v is o).items → Extends p v is
any_extends p q v is None s x h = equal_extends p q v is (cut_at (is_equal_on v) is) (cut_says (is_equal_on v) is) x h
any_extends p q v is (Some c) s x h = unit_extends p q v is c s x h

none_has_moves : (p : Point) (v : Var) (x : ℤ) (is : List Item) → any_has v is ≡ false → HoldsItems p is → HoldsItems (moved p v x) is
none_has_moves p v x [] e h = tt
none_has_moves p v x (i ∷ is) e h =
    let k = or_parts (occurs v i.row) (any_has v is) e in
    (without_moves p v x i.row (occurs-false v i.row k.0) h.0, none_has_moves p v x is k.1 h.1)

pub eliminate_item_extends : (p : Point) (q : Bool) (v : Var) (is : List Item) → (eliminate_item q v is).exact ≡ true → HoldsItems p (eliminate_item q v is).items → Extends p v is
eliminate_item_extends p q v is =
    if_cases (λ (e : Eliminated). e.exact ≡ true → HoldsItems p e.items → Extends p v is) (any_has v is) (by_unit q v is (cut_at (is_unit_on v) is)) (unchanged is)
    (λ t. any_extends p q v is (cut_at (is_unit_on v) is) (cut_says (is_unit_on v) is))
    (λ t x h. (p v, none_has_moves p v (p v) is t h))

-- where the elimination is exact, each point of it extends to one of the system
pub eliminate_extends : (p : Point) (s : System) (v : Var) → (eliminate s v).exact ≡ true → HoldsAll p (eliminate s v).system.rows → (x : ℤ) × HoldsAll (moved p v x) s.rows
eliminate_extends p s v e h =
    let is = items_from 0 s.rows in
    let k = eliminate_item_extends p false v is e ((rows_of_same p (eliminate_item false v is).items).1 h) in
    (k.0, (items_from_same (moved p v k.0) 0 s.rows).1 k.1)
