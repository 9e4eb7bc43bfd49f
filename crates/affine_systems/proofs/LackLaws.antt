-- A variable that no row has stays away; an eliminated variable is gone.
use Rattle.std.proofs.Common.{◌≡◌, ℕ, suc, ◌+◌, ◌<◌, Bool, true, false, not, ◌&&◌, List, [], ◌∷◌, ◌++◌, length, ℤ, pos, negsuc, neg_ℤ, ◌+ℤ◌, ◌*ℤ◌, arith, ap, refl, sym, subst, ◌∙◌, int_eq, int_lt, unsigned_abs, Option, Some, None, ap₂, ◌%◌}
use Rattle.std.specs.Prelude.{if◌then◌else◌, nat_eq}
use Rattle.std.specs.Int.{int_div_euclid}
use Rattle.std.proofs.lemmas.Int.{ints}
use Rattle.std.proofs.lemmas.Bool.{and_parts, or_parts}
use Rattle.affine_systems.specs.declared.row.Var.{Var}
use Rattle.affine_systems.specs.declared.row.Term.{Term}
use Rattle.affine_systems.specs.declared.row.Row.{Row}
use Rattle.affine_systems.specs.declared.row.System.{System}
use Rattle.affine_systems.specs.declared.items.Item.{Item}
use Rattle.affine_systems.specs.declared.items.Eliminated.{Eliminated}
use Rattle.affine_systems.specs.Terms.{add_terms, negated_terms}
use Rattle.affine_systems.specs.Rows.{row}
use Rattle.affine_systems.specs.Points.{Point, value, HoldsAll, moved, only, factor_of, occurs}
use Rattle.affine_systems.specs.Items.{joined, item, AllItems, next_made, items_from, rows_of, Cut, cut_at, others}
use Rattle.affine_systems.specs.Normal.{divisor, divided, last_is_negative, is_small, are_small, Normal, Kept, Always, Never, TooBig, without_terms, if_small, turned, turned_if_small, divided_by, start_of, normal_terms, normal}
use Rattle.affine_systems.specs.Tidy.{is_unit, substituted, all_substituted, tidy_items, tidy}
use Rattle.affine_systems.specs.Eliminate.{unchanged, any_has, has_unit, is_unit_on, is_equal_on, cancelling, all_cancelled, keep, is_lower, is_upper, is_without, pair, with_uppers, pairs, by_equal, by_unit, eliminate_item, eliminate}
use Rattle.affine_systems.specs.Laws.{Lacks}
use Rattle.affine_systems.proofs.Basics.{if_cases, mul_comm, neg_mul}
use Rattle.affine_systems.proofs.NormalLaws.{DividesAll, divisor_divides, divisor_positive, value-divided, value-negated, cancel_scale}
use Rattle.affine_systems.proofs.ElimLaws.{value-combined, eliminate_holds}
use Rattle.affine_systems.proofs.ExactLaws.{without_moves, substituted_lacks, occurs-false}
use Rattle.affine_systems.proofs.LastLaws.{Lasts, Survives, append_items, tidied_has, eliminated_has, CutPasses, cut_passes}

-- the terms come to 0 at a point
abbrev pub Nil : Point → Row → Type 0
Nil u r = value u r.terms ≡ pos 0

abbrev pub AllNil : Point → List Item → Type 0
AllNil u is = AllItems (λ i. Nil u i.row) is

nil_combined : (u : Point) (c : ℤ) (ts : List Term) (a : ℤ) (us : List Term) → value u ts ≡ pos 0 → value u us ≡ pos 0 → value u (add_terms c ts (add_terms a us [])) ≡ pos 0
nil_combined u c ts a us h k =
    value-combined u c ts a us ∙ sums (value u ts) (value u us) h k
  where
    sums : (x y : ℤ) → x ≡ pos 0 → y ≡ pos 0 → (c *ℤ x) +ℤ (a *ℤ y) ≡ pos 0
    sums x y h k =
        let m : c *ℤ x ≡ c *ℤ pos 0 = ap (λ z. c *ℤ z) h in
        let n : a *ℤ y ≡ a *ℤ pos 0 = ap (λ z. a *ℤ z) k in
        omega (arith, ints, m, n)

pub nil_negated : (u : Point) (ts : List Term) → value u ts ≡ pos 0 → value u (negated_terms ts) ≡ pos 0
nil_negated u ts h = value-negated u ts ∙ ap neg_ℤ h

-- ---- normal rows

abbrev pub NormalNil : Point → Normal → Type 0
NormalNil u (Kept r) = Nil u r
NormalNil u Always = Unit {0}
NormalNil u Never = Unit {0}
NormalNil u TooBig = Unit {0}

pub if_small_nil : (u : Point) (r s : Row) → Nil u s → NormalNil u (if_small r s)
if_small_nil u r s h = if_cases (NormalNil u) (is_small r.bound && are_small r.terms) (Kept s) TooBig (λ e. h) (λ e. tt)

pub divided_nil : (u : Point) (g : ℕ) (ts : List Term) → 0 < g → DividesAll g ts → value u ts ≡ pos 0 → value u (divided g ts) ≡ pos 0
divided_nil u g ts h d k =
    cancel_scale g (value u (divided g ts)) (pos 0) h (value-divided u g ts h d ∙ k ∙ zero_times g)
  where
    zero_times : (g : ℕ) → pos 0 ≡ pos g *ℤ pos 0
    zero_times g = omega (arith, ints)

pub divided_by_nil : (u : Point) (g : ℕ) (e : Bool) (ts : List Term) (b : ℤ) → 0 < g → DividesAll g ts → value u ts ≡ pos 0 → NormalNil u (divided_by g e ts b)
divided_by_nil u g false ts b h d k = if_small_nil u (row false (divided g ts) (int_div_euclid b (pos g))) (row false (divided g ts) (int_div_euclid b (pos g))) (divided_nil u g ts h d k)
divided_by_nil u g true ts b h d k =
    let r = row true (divided g ts) (int_div_euclid b (pos g)) in
    let z = divided_nil u g ts h d k in
    if_cases (NormalNil u) (nat_eq (unsigned_abs b % g) 0) (turned_if_small r) Never
    (λ e. if_small_nil u r (turned r) (if_cases (Nil u) (last_is_negative (divided g ts)) (row true (negated_terms (divided g ts)) (neg_ℤ (int_div_euclid b (pos g)))) r (λ t. nil_negated u (divided g ts) z) (λ t. z)))
    (λ e. tt)

pub normal_nil : (u : Point) (q : Bool) (r : Row) → Nil u r → NormalNil u (normal q r)
normal_nil u q r h = go r.terms h where
  go : (ts : List Term) → value u ts ≡ pos 0 → NormalNil u (normal_terms q r.equal ts r.bound)
  go [] h = none r.equal
    where
      none : (e : Bool) → NormalNil u (without_terms e r.bound)
      none true = if_cases (NormalNil u) (int_eq r.bound (pos 0)) Always Never (λ e. tt) (λ e. tt)
      none false = if_cases (NormalNil u) (int_lt r.bound (pos 0)) Never Always (λ e. tt) (λ e. tt)
  go (t ∷ ts) h =
      let m = start_of q r.bound in
      divided_by_nil u (divisor (t ∷ ts) m) r.equal (t ∷ ts) r.bound (divisor_positive (t ∷ ts) m) (divisor_divides (t ∷ ts) m).0 h

-- ---- tidying and elimination

nil_lasts : (u : Point) (q : Bool) → Lasts (Nil u) (Nil u) q
nil_lasts u q = record {
  of_false = refl;
  of_normal = λ r s h e. subst (NormalNil u) e (normal_nil u q r h);
  of_merged = λ r s o z h k. if_cases (Nil u) (last_is_negative r.terms) (row true s.terms s.bound) (row true r.terms r.bound) (λ e. k) (λ e. h);
  again = λ r h. h;
  of_pivot = λ r e v t h k. nil_combined u (pos 1) r.terms (neg_ℤ (factor_of v r.terms *ℤ factor_of v e.terms)) e.terms h k;
}

nil_survives : (u : Point) (q : Bool) → Survives (Nil u) (Nil u) q
nil_survives u q = record {
  lasts = nil_lasts u q;
  of_unit = λ r e v t h k. nil_combined u (pos 1) r.terms (neg_ℤ (factor_of v r.terms *ℤ factor_of v e.terms)) e.terms h k;
  of_cancelled = λ r e v h k. let a = factor_of v e.terms in let c = factor_of v r.terms in nil_combined u (pos (unsigned_abs a)) r.terms (if int_lt a (pos 0) then c else neg_ℤ c) e.terms h k;
  of_pair = λ r s v h k. nil_combined u (factor_of v s.terms) r.terms (neg_ℤ (factor_of v r.terms)) s.terms h k;
}

pub tidied_nil : (u : Point) (q : Bool) (is : List Item) → AllNil u is → AllNil u (tidy_items q is).items
tidied_nil u q is h = tidied_has (Nil u) (Nil u) q (nil_lasts u q) is h

-- what came to 0 does so still
pub eliminate_item_nil : (u : Point) (q : Bool) (v : Var) (is : List Item) → AllNil u is → AllNil u (eliminate_item q v is).items
eliminate_item_nil u q v is h = eliminated_has (Nil u) (Nil u) q (nil_survives u q) v is h

-- ---- the eliminated variable

pub factor-only : (v : Var) (ts : List Term) → factor_of v ts ≡ value (only v) ts
unfolding factor_of
factor-only v ts = refl

lacks_all_substituted : (n : ℕ) (e : Item) (v : Var) (is : List Item) → is_unit (factor_of v e.row.terms) ≡ true → AllNil (only v) (all_substituted n e v is)
lacks_all_substituted n e v [] t = tt
lacks_all_substituted n e v (i ∷ is) t = (sym (factor-only v (substituted n e v i).row.terms) ∙ substituted_lacks n e v i t, lacks_all_substituted (suc n) e v is t)

cancels : (a c : ℤ) → (pos (unsigned_abs a) *ℤ c) +ℤ ((if int_lt a (pos 0) then c else neg_ℤ c) *ℤ a) ≡ pos 0
cancels (pos n) c =
    let k = neg_mul c (pos n) in
    let m = mul_comm c (pos n) in
    if_cases (λ (x : ℤ). (pos n *ℤ c) +ℤ (x *ℤ pos n) ≡ pos 0) (int_lt (pos n) (pos 0)) c (neg_ℤ c)
    (λ e. absurd (omega (arith, ints, e)))
    (λ e. omega (arith, ints, k, m))
cancels (negsuc n) c =
    let k = neg_mul (pos (suc n)) c in let m = mul_comm c (negsuc n) in omega (arith, ints, k, m)

lacks_all_cancelled : (n : ℕ) (e : Item) (v : Var) (is : List Item) → AllNil (only v) (all_cancelled n e v is)
lacks_all_cancelled n e v [] = tt
lacks_all_cancelled n e v (i ∷ is) =
    let a = factor_of v e.row.terms in
    let c = factor_of v i.row.terms in
    let x = if int_lt a (pos 0) then c else neg_ℤ c in
    let s : (pos (unsigned_abs a) *ℤ value (only v) i.row.terms) +ℤ (x *ℤ value (only v) e.row.terms) ≡ (pos (unsigned_abs a) *ℤ c) +ℤ (x *ℤ a)
    = ap₂ (λ y z. (pos (unsigned_abs a) *ℤ y) +ℤ (x *ℤ z)) (sym (factor-only v i.row.terms)) (sym (factor-only v e.row.terms)) in (
      if_cases (λ (j : Item). Nil (only v) j.row) (occurs v i.row) (item (cancelling a i.row e.row c) (joined i.originals e.originals) n) i
          (λ o. value-combined (only v) (pos (unsigned_abs a)) i.row.terms x e.row.terms ∙ s ∙ cancels a c)
          (λ o. sym (factor-only v i.row.terms) ∙ occurs-false v i.row o),
      lacks_all_cancelled (suc n) e v is,
    )

lacks_pair : (n : ℕ) (v : Var) (low other : Item) → Nil (only v) (pair n v low other).row
lacks_pair n v low other =
    let f = factor_of v low.row.terms in
    let g = factor_of v other.row.terms in
    let s : (g *ℤ value (only v) low.row.terms) +ℤ (neg_ℤ f *ℤ value (only v) other.row.terms) ≡ (g *ℤ f) +ℤ (neg_ℤ f *ℤ g)
    = ap₂ (λ y z. (g *ℤ y) +ℤ (neg_ℤ f *ℤ z)) (sym (factor-only v low.row.terms)) (sym (factor-only v other.row.terms)) in
    value-combined (only v) g low.row.terms (neg_ℤ f) other.row.terms ∙ s ∙ ends f g
  where
    ends : (f g : ℤ) → (g *ℤ f) +ℤ (neg_ℤ f *ℤ g) ≡ pos 0
    ends f g = let k = neg_mul f g in let m = mul_comm f g in omega (arith, ints, k, m)

lacks_with_uppers : (n : ℕ) (v : Var) (low : Item) (ups : List Item) → AllNil (only v) (with_uppers n v low ups)
lacks_with_uppers n v low [] = tt
lacks_with_uppers n v low (i ∷ ups) = (lacks_pair n v low i, lacks_with_uppers (suc n) v low ups)

lacks_pairs : (n : ℕ) (v : Var) (lows ups : List Item) → AllNil (only v) (pairs n v lows ups)
lacks_pairs n v [] ups = tt
lacks_pairs n v (low ∷ lows) ups =
    append_items (λ i. Nil (only v) i.row) (with_uppers n v low ups) (pairs (n + length ups) v lows ups) (lacks_with_uppers n v low ups) (lacks_pairs (n + length ups) v lows ups)

lacks_without : (v : Var) (is : List Item) → AllNil (only v) (keep (is_without v) is)
lacks_without v [] = tt
lacks_without v (i ∷ is) =
    if_cases (AllNil (only v)) (is_without v i) (i ∷ keep (is_without v) is) (keep (is_without v) is)
    (λ e. (sym (factor-only v i.row.terms) ∙ occurs-false v i.row (untrue (occurs v i.row) e), lacks_without v is))
    (λ e. lacks_without v is)
  where
    untrue : (b : Bool) → not b ≡ true → b ≡ false
    untrue true e = cc
    untrue false e = refl

none_has_lacks : (v : Var) (is : List Item) → any_has v is ≡ false → AllNil (only v) is
none_has_lacks v [] e = tt
none_has_lacks v (i ∷ is) e =
    let k = or_parts (occurs v i.row) (any_has v is) e in
    (sym (factor-only v i.row.terms) ∙ occurs-false v i.row k.0, none_has_lacks v is k.1)

lacks_by_equal : (q : Bool) (v : Var) (is : List Item) (o : Option Cut) → AllNil (only v) (by_equal q v is o).items
lacks_by_equal q v is None =
    let lows = keep (is_lower v) is in
    let ups = keep (is_upper v) is in
    tidied_nil (only v) q (keep (is_without v) is ++ pairs (next_made is) v lows ups)
    (append_items (λ i. Nil (only v) i.row) (keep (is_without v) is) (pairs (next_made is) v lows ups) (lacks_without v is) (lacks_pairs (next_made is) v lows ups))
lacks_by_equal q v is (Some c) = tidied_nil (only v) q (all_cancelled (next_made is) c.at v (others c)) (lacks_all_cancelled (next_made is) c.at v (others c))

lacks_by_unit : (q : Bool) (v : Var) (is : List Item) (o : Option Cut) → CutPasses (is_unit_on v) o → AllNil (only v) (by_unit q v is o).items
lacks_by_unit q v is None s = lacks_by_equal q v is (cut_at (is_equal_on v) is)
lacks_by_unit q v is (Some c) s =
    let e = and_parts c.at.row.equal (has_unit v c.at) s in
    tidied_nil (only v) q (all_substituted (next_made is) c.at v (others c)) (lacks_all_substituted (next_made is) c.at v (others c) e.1)

pub eliminate_item_lacks : (q : Bool) (v : Var) (is : List Item) → AllNil (only v) (eliminate_item q v is).items
eliminate_item_lacks q v is =
    if_cases (λ (e : Eliminated). AllNil (only v) e.items) (any_has v is) (by_unit q v is (cut_at (is_unit_on v) is)) (unchanged is)
    (λ e. lacks_by_unit q v is (cut_at (is_unit_on v) is) (cut_passes (is_unit_on v) is))
    (λ e. none_has_lacks v is e)

-- ---- systems

abbrev pub RowsNil : Point → List Row → Type 0
RowsNil u [] = Unit {0}
RowsNil u (r ∷ rs) = Nil u r × RowsNil u rs

pub rows_of_nil : (u : Point) (is : List Item) → AllNil u is → RowsNil u (rows_of is)
rows_of_nil u [] h = tt
rows_of_nil u (i ∷ is) h = (h.0, rows_of_nil u is h.1)

pub items_from_nil : (u : Point) (n : ℕ) (rs : List Row) → RowsNil u rs → AllNil u (items_from n rs)
items_from_nil u n [] h = tt
items_from_nil u n (r ∷ rs) h = (h.0, items_from_nil u (suc n) rs h.1)

pub tidy_nil : (u : Point) (s : System) → RowsNil u s.rows → RowsNil u (tidy s).rows
tidy_nil u s h = rows_of_nil u (tidy_items false (items_from 0 s.rows)).items (tidied_nil u false (items_from 0 s.rows) (items_from_nil u 0 s.rows h))

pub eliminate_nil : (u : Point) (s : System) (v : Var) → RowsNil u s.rows → RowsNil u (eliminate s v).system.rows
eliminate_nil u s v h = rows_of_nil u (eliminate_item false v (items_from 0 s.rows)).items (eliminate_item_nil u false v (items_from 0 s.rows) (items_from_nil u 0 s.rows h))

pub eliminate_lacks : (s : System) (v : Var) → RowsNil (only v) (eliminate s v).system.rows
eliminate_lacks s v = rows_of_nil (only v) (eliminate_item false v (items_from 0 s.rows)).items (eliminate_item_lacks false v (items_from 0 s.rows))

-- rows without v hold wherever v is moved
pub nil_moves : (p : Point) (v : Var) (x : ℤ) (rs : List Row) → RowsNil (only v) rs → HoldsAll p rs → HoldsAll (moved p v x) rs
nil_moves p v x [] n h = tt
nil_moves p v x (r ∷ rs) n h = (without_moves p v x r (factor-only v r.terms ∙ n.0) h.0, nil_moves p v x rs n.1 h.1)

-- a point of the system, whatever its number at the variable, is in the elimination
pub eliminate_moves : (p : Point) (s : System) (v : Var) (x : ℤ) → HoldsAll p s.rows → HoldsAll (moved p v x) (eliminate s v).system.rows
eliminate_moves p s v x h = nil_moves p v x (eliminate s v).system.rows (eliminate_lacks s v) (eliminate_holds p s v h)

pub lacks_from : (v : Var) (rs : List Row) → RowsNil (only v) rs → Lacks v rs
lacks_from v [] h = tt
lacks_from v (r ∷ rs) h = (factor-only v r.terms ∙ h.0, lacks_from v rs h.1)

pub eliminate_gone : (s : System) (v : Var) → Lacks v (eliminate s v).system.rows
eliminate_gone s v = lacks_from v (eliminate s v).system.rows (eliminate_lacks s v)
