-- Tidying loses no point, and keeps just the points where it loses no row.
use Rattle.std.proofs.Common.{◌≡◌, ◌↔◌, ℕ, zero, suc, ◌≤◌, Bool, true, false, not, ◌&&◌, ◌||◌, List, [], ◌∷◌, ◌++◌, length, take, ℤ, pos, neg_ℤ, ◌+ℤ◌, ◌*ℤ◌, ◌≤ℤ◌, ◌<ℤ◌, arith, ap, refl, sym, subst, ◌∙◌, int_eq, int_lt, Option, Some, None, take_all, ⊎_elim}
use Rattle.std.specs.Prelude.{if◌then◌else◌, nat_lt}
use Rattle.std.proofs.lemmas.Int.{ints}
use Rattle.std.proofs.lemmas.Bool.Decides.{Decides-int_eq, nat_tests}
use Rattle.std.proofs.lemmas.Bool.{cases_Bool, and_parts, or_parts, not-true}
use Rattle.affine_systems.specs.declared.row.Var.{Var}
use Rattle.affine_systems.specs.declared.row.Term.{Term}
use Rattle.affine_systems.specs.declared.row.Row.{Row}
use Rattle.affine_systems.specs.declared.row.System.{System}
use Rattle.affine_systems.specs.declared.items.Item.{Item}
use Rattle.affine_systems.specs.Terms.{var_eq, add_terms, are_opposite_terms, is_opposite, has_no_terms}
use Rattle.affine_systems.specs.Rows.{row, false_row, combine, is_before, same_shape}
use Rattle.affine_systems.specs.Points.{Point, value, Meets, Holds, HoldsAll, factor_of, occurs}
use Rattle.affine_systems.specs.Items.{joined, item, AllItems, next_made, items_from, rows_of, false_item, is_false_row, any_false, collapsed, Cut, cut, cut_later, cut_at, others}
use Rattle.affine_systems.specs.Normal.{last_is_negative, Normal, Kept, Always, Never, TooBig, normal}
use Rattle.affine_systems.specs.Tidy.{with_normal, normal_items, is_too_big, any_too_big, put, sorted, stronger, one_each_after, one_each, row_limit, are_opposite, merged_row, against, face_opposite, faced_all, in_form, merged, round, unit_var, is_elsewhere, is_to_take, next_pivot, by_row, substituted, all_substituted, taken, pivoted, turn_limit, after_round, tidy_turns, tidy_items, tidy}
use Rattle.affine_systems.proofs.Basics.{if_cases, neg_mul}
use Rattle.affine_systems.proofs.TermLaws.{value-add_terms, var_eq-true}
use Rattle.affine_systems.proofs.OrderLaws.{same_shape-true}
use Rattle.affine_systems.proofs.NormalLaws.{Agrees, normal_agrees}
use Rattle.fx_lists.proofs.Booleans.{clash}
use Rattle.fx_lists.proofs.Numbers.{is_number}

abbrev pub HoldsItems : Point → List Item → Type 0
HoldsItems p is = AllItems (λ i. Holds p i.row) is

pub not_false_row : (p : Point) → Holds p false_row → ⊥
not_false_row p h = omega (arith, ints)

-- ---- tests

pub meets_at : (e f : Bool) (x y b c : ℤ) → e ≡ f → x ≡ y → b ≡ c → Meets e x b → Meets f y c
meets_at e f x y b c u v w h = subst (λ (g : Bool). Meets g y c) u (subst (λ (z : ℤ). Meets e z c) v (subst (Meets e x) w h))

pub has_no_terms-true : (ts : List Term) → has_no_terms ts ≡ true → ts ≡ []
has_no_terms-true [] e = refl
has_no_terms-true (t ∷ ts) e = cc

pub is_false_row-true : (p : Point) (r : Row) → is_false_row r ≡ true → Holds p r → ⊥
is_false_row-true p r e h =
    let k = and_parts (not r.equal) (has_no_terms r.terms && int_lt r.bound (pos 0)) e in
    let l = and_parts (has_no_terms r.terms) (int_lt r.bound (pos 0)) k.1 in
    let v : value p r.terms ≡ pos 0 = ap (value p) (has_no_terms-true r.terms l.0) in
    let m : pos 0 ≤ℤ r.bound = meets_at r.equal false (value p r.terms) (pos 0) r.bound r.bound (not-true r.equal k.0) v refl h in
    let n : r.bound <ℤ pos 0 = omega (arith, ints, l.1) in
    omega (arith, ints, m, n)

pub any_false-true : (p : Point) (is : List Item) → any_false is ≡ true → HoldsItems p is → ⊥
any_false-true p [] e h = absurd (clash false e refl)
any_false-true p (i ∷ is) e h =
    ⊎_elim (λ t. is_false_row-true p i.row t h.0)
    (λ f. any_false-true p is (later (is_false_row i.row) (any_false is) f e) h.1) (cases_Bool (is_false_row i.row))
  where
    later : (a b : Bool) → a ≡ false → (a || b) ≡ true → b ≡ true
    later true b f e = cc
    later false b f e = e

-- ---- steps 1 to 3

pub collapsed_same : (p : Point) (is : List Item) → HoldsItems p is ↔ HoldsItems p (collapsed is)
collapsed_same p is =
    if_cases (λ (js : List Item). HoldsItems p is ↔ HoldsItems p js) (any_false is) (false_item ∷ []) is
    (λ e. ((λ h. absurd (any_false-true p is e h)), (λ h. absurd (not_false_row p h.0))))
    (λ e. ((λ h. h), (λ h. h)))

normal_items_hold : (p : Point) (q : Bool) (is : List Item) → HoldsItems p is → HoldsItems p (normal_items q is)
normal_items_hold p q [] h = tt
normal_items_hold p q (i ∷ is) h = go (normal q i.row) (normal_agrees p q i.row) (normal_items_hold p q is h.1) where
  go : (n : Normal) → Agrees p (Holds p i.row) n → HoldsItems p (normal_items q is) → HoldsItems p (with_normal i n (normal_items q is))
  go (Kept r) a k = (a.0 h.0, k)
  go Always a k = k
  go Never a k = absurd (a h.0)
  go TooBig a k = k

normal_items_back : (p : Point) (q : Bool) (is : List Item) → any_too_big q is ≡ false → HoldsItems p (normal_items q is) → HoldsItems p is
normal_items_back p q [] e h = tt
normal_items_back p q (i ∷ is) e h =
    let k = or_parts (is_too_big (normal q i.row)) (any_too_big q is) e in
    go (normal q i.row) (normal_agrees p q i.row) k.0 (λ l. normal_items_back p q is k.1 l) h where
      go : (n : Normal) → Agrees p (Holds p i.row) n → is_too_big n ≡ false → (HoldsItems p (normal_items q is) → HoldsItems p is) → HoldsItems p (with_normal i n (normal_items q is)) → HoldsItems p (i ∷ is)
      go (Kept r) a e ih k = (a.1 k.0, ih k.1)
      go Always a e ih k = (a, ih k)
      go Never a e ih k = absurd (not_false_row p k.0)
      go TooBig a e ih k = cc

-- two rows with the same terms, and the stronger
stronger_same : (p : Point) (i j : Item) → same_shape i.row j.row ≡ true → (Holds p i.row × Holds p j.row) ↔ Holds p (stronger i j).row
stronger_same p i j e =
    let s = same_shape-true i.row j.row e in
    let v : value p i.row.terms ≡ value p j.row.terms = ap (value p) s.1 in
    let P = λ (k : Item). (Holds p i.row × Holds p j.row) ↔ Holds p k.row in
    if_cases P (int_eq i.row.bound j.row.bound) (if nat_lt j.made i.made then j else i) (if i.row.equal then false_item else if int_lt j.row.bound i.row.bound then j else i)
    (λ b. let c = is_number i.row.bound j.row.bound b in
    let there = λ (h : Holds p i.row). meets_at i.row.equal j.row.equal (value p i.row.terms) (value p j.row.terms) i.row.bound j.row.bound s.0 v c h in
    let back = λ (h : Holds p j.row). meets_at j.row.equal i.row.equal (value p j.row.terms) (value p i.row.terms) j.row.bound i.row.bound (sym s.0) (sym v) (sym c) h in
    if_cases P (nat_lt j.made i.made) j i
    (λ m. ((λ h. h.1), (λ h. (back h, h))))
    (λ m. ((λ h. h.0), (λ h. (h, there h)))))
    (λ b. if_cases P i.row.equal false_item (if int_lt j.row.bound i.row.bound then j else i)
    (λ q. (
      (λ h. let x : value p i.row.terms ≡ i.row.bound = subst (λ (g : Bool). Meets g (value p i.row.terms) i.row.bound) q h.0 in
          let y : value p j.row.terms ≡ j.row.bound = subst (λ (g : Bool). Meets g (value p j.row.terms) j.row.bound) (sym s.0 ∙ q) h.1 in
          clash (int_eq i.row.bound j.row.bound) ((Decides-int_eq i.row.bound j.row.bound).1 (sym x ∙ v ∙ y)) b),
      (λ h. absurd (not_false_row p h)),
    ))
    (λ q. if_cases P (int_lt j.row.bound i.row.bound) j i
    (λ l. (
      (λ h. h.1),
      (λ h. let x : value p j.row.terms ≤ℤ j.row.bound = subst (λ (g : Bool). Meets g (value p j.row.terms) j.row.bound) (sym s.0 ∙ q) h in
          let y : value p i.row.terms ≤ℤ i.row.bound = omega (arith, ints, v, x, l) in
          (subst (λ (g : Bool). Meets g (value p i.row.terms) i.row.bound) (sym q) y, h)),
    ))
    (λ l. (
      (λ h. h.0),
      (λ h. let x : value p i.row.terms ≤ℤ i.row.bound = subst (λ (g : Bool). Meets g (value p i.row.terms) i.row.bound) q h in
          let y : value p j.row.terms ≤ℤ j.row.bound = omega (arith, ints, v, x, l) in
          (h, subst (λ (g : Bool). Meets g (value p j.row.terms) j.row.bound) (sym q ∙ s.0) y)),
    ))))

put_same : (p : Point) (i : Item) (is : List Item) → HoldsItems p (i ∷ is) ↔ HoldsItems p (put i is)
put_same p i [] = ((λ h. h), (λ h. h))
put_same p i (j ∷ is) =
    let ih = put_same p i is in
    if_cases (λ (ks : List Item). HoldsItems p (i ∷ j ∷ is) ↔ HoldsItems p ks) (is_before j.row i.row) (j ∷ put i is) (i ∷ j ∷ is)
    (λ b. ((λ h. (h.1.0, ih.0 (h.0, h.1.1))), (λ h. let k = ih.1 h.1 in (k.0, (h.0, k.1)))))
    (λ b. ((λ h. h), (λ h. h)))

one_each_after_same : (p : Point) (i : Item) (is : List Item) → HoldsItems p (i ∷ is) ↔ HoldsItems p (one_each_after i is)
one_each_after_same p i [] = ((λ h. h), (λ h. h))
one_each_after_same p i (j ∷ is) =
    let merging = one_each_after_same p (stronger i j) is in
    let going = one_each_after_same p j is in
    if_cases (λ (ks : List Item). HoldsItems p (i ∷ j ∷ is) ↔ HoldsItems p ks) (same_shape i.row j.row) (one_each_after (stronger i j) is) (i ∷ one_each_after j is)
    (λ e. let s = stronger_same p i j e in ((λ h. merging.0 (s.0 (h.0, h.1.0), h.1.1)), (λ h. let k = merging.1 h in let l = s.1 k.0 in (l.0, (l.1, k.1)))))
    (λ e. ((λ h. (h.0, going.0 h.1)), (λ h. (h.0, going.1 h.1))))

pub one_each_same : (p : Point) (is : List Item) → HoldsItems p is ↔ HoldsItems p (one_each is)
one_each_same p [] = ((λ h. h), (λ h. h))
one_each_same p (i ∷ is) = one_each_after_same p i is

pub sorted_same : (p : Point) (is : List Item) → HoldsItems p is ↔ HoldsItems p (sorted is)
sorted_same p [] = ((λ h. h), (λ h. h))
sorted_same p (i ∷ is) =
    let ih = sorted_same p is in
    let s = put_same p i (sorted is) in
    ((λ h. s.0 (h.0, ih.0 h.1)), (λ h. let k = s.1 h in (k.0, ih.1 k.1)))

take_holds : (p : Point) (n : ℕ) (is : List Item) → HoldsItems p is → HoldsItems p (take n is)
take_holds p zero [] h = tt
take_holds p (suc n) [] h = tt
take_holds p zero (i ∷ is) h = tt
take_holds p (suc n) (i ∷ is) h = (h.0, take_holds p n is h.1)

take_back : (p : Point) (n : ℕ) (is : List Item) → nat_lt n (length is) ≡ false → HoldsItems p (take n is) → HoldsItems p is
take_back p n is e h =
    let k : length is ≤ n = grind (arith, nat_tests) in
    subst (λ (js : List Item). HoldsItems p js) (take_all n is k) h

opposite_terms_value : (p : Point) (ts us : List Term) → are_opposite_terms ts us ≡ true → value p us ≡ neg_ℤ (value p ts)
opposite_terms_value p [] [] e = refl
opposite_terms_value p [] (u ∷ us) e = cc
opposite_terms_value p (t ∷ ts) [] e = cc
opposite_terms_value p (t ∷ ts) (u ∷ us) e =
    let h = and_parts (is_opposite t u) (are_opposite_terms ts us) e in
    let k = and_parts (var_eq t.var u.var) (int_eq t.factor (neg_ℤ u.factor)) h.0 in
    let ih = opposite_terms_value p ts us h.1 in
    let x : p t.var ≡ p u.var = ap p (var_eq-true t.var u.var k.0) in
    let f = is_number t.factor (neg_ℤ u.factor) k.1 in
    let m : t.factor *ℤ p t.var ≡ neg_ℤ u.factor *ℤ p t.var = ap (λ z. z *ℤ p t.var) f in
    let o : neg_ℤ u.factor *ℤ p t.var ≡ neg_ℤ u.factor *ℤ p u.var = ap (λ z. neg_ℤ u.factor *ℤ z) x in
    let n = neg_mul u.factor (p u.var) in
    omega (arith, ints, ih, m, o, n)

opposite_values : (p : Point) (r s : Row) → are_opposite r s ≡ true → (r.equal ≡ false) × (s.equal ≡ false) × (value p s.terms ≡ neg_ℤ (value p r.terms))
opposite_values p r s e =
    let h = and_parts (not (r.equal || s.equal)) (are_opposite_terms r.terms s.terms) e in
    let k = or_parts r.equal s.equal (not-true (r.equal || s.equal) h.0) in
    (k.0, k.1, opposite_terms_value p r.terms s.terms h.1)

pub at_most : (p : Point) (r : Row) → r.equal ≡ false → Holds p r ↔ (value p r.terms ≤ℤ r.bound)
at_most p r e = ((λ h. subst (λ (g : Bool). Meets g (value p r.terms) r.bound) e h), (λ h. subst (λ (g : Bool). Meets g (value p r.terms) r.bound) (sym e) h))

pub equally : (p : Point) (r : Row) → r.equal ≡ true → Holds p r ↔ (value p r.terms ≡ r.bound)
equally p r e = ((λ h. subst (λ (g : Bool). Meets g (value p r.terms) r.bound) e h), (λ h. subst (λ (g : Bool). Meets g (value p r.terms) r.bound) (sym e) h))

against_holds : (p : Point) (n : ℕ) (i j : Item) → are_opposite i.row j.row ≡ true → Holds p i.row → Holds p j.row → Holds p (against n i j).row
against_holds p n i j e h k =
    let o = opposite_values p i.row j.row e in
    let x = (at_most p i.row o.0).0 h in
    let y = (at_most p j.row o.1).0 k in
    let v = o.2 in
    let P = λ (m : Item). Holds p m.row in
    if_cases P (int_lt (i.row.bound +ℤ j.row.bound) (pos 0)) false_item (if int_eq (i.row.bound +ℤ j.row.bound) (pos 0) then item (merged_row i.row j.row) (joined i.originals j.originals) n else i)
    (λ l. absurd (omega (arith, ints, l, x, y, v)))
    (λ l. if_cases P (int_eq (i.row.bound +ℤ j.row.bound) (pos 0)) (item (merged_row i.row j.row) (joined i.originals j.originals) n) i
    (λ z. let t = is_number (i.row.bound +ℤ j.row.bound) (pos 0) z in
    if_cases (Holds p) (last_is_negative i.row.terms) (row true j.row.terms j.row.bound) (row true i.row.terms i.row.bound)
    (λ m. omega (arith, ints, t, x, y, v))
    (λ m. omega (arith, ints, t, x, y, v)))
    (λ z. h))

against_back : (p : Point) (n : ℕ) (i j : Item) → are_opposite i.row j.row ≡ true → Holds p (against n i j).row → Holds p i.row
against_back p n i j e =
    let o = opposite_values p i.row j.row e in
    let v = o.2 in
    let P = λ (m : Item). Holds p m.row → Holds p i.row in
    if_cases P (int_lt (i.row.bound +ℤ j.row.bound) (pos 0)) false_item (if int_eq (i.row.bound +ℤ j.row.bound) (pos 0) then item (merged_row i.row j.row) (joined i.originals j.originals) n else i)
    (λ l h. absurd (not_false_row p h))
    (λ l. if_cases P (int_eq (i.row.bound +ℤ j.row.bound) (pos 0)) (item (merged_row i.row j.row) (joined i.originals j.originals) n) i
    (λ z. let t = is_number (i.row.bound +ℤ j.row.bound) (pos 0) z in
    if_cases (λ (r : Row). Holds p r → Holds p i.row) (last_is_negative i.row.terms) (row true j.row.terms j.row.bound) (row true i.row.terms i.row.bound)
    (λ m h. (at_most p i.row o.0).1 (omega (arith, ints, t, v, h)))
    (λ m h. (at_most p i.row o.0).1 (omega (arith, ints, h))))
    (λ z h. h))

faced_holds : (p : Point) (n : ℕ) (i : Item) (js : List Item) → Holds p i.row → HoldsItems p js → Holds p (face_opposite n i js).row
faced_holds p n i [] h k = h
faced_holds p n i (j ∷ js) h k =
    if_cases (λ (m : Item). Holds p m.row) (are_opposite i.row j.row) (against n i j) (face_opposite n i js)
    (λ e. against_holds p n i j e h k.0)
    (λ e. faced_holds p n i js h k.1)

faced_back : (p : Point) (n : ℕ) (i : Item) (js : List Item) → Holds p (face_opposite n i js).row → Holds p i.row
faced_back p n i [] h = h
faced_back p n i (j ∷ js) h =
    if_cases (λ (m : Item). Holds p m.row → Holds p i.row) (are_opposite i.row j.row) (against n i j) (face_opposite n i js)
    (λ e k. against_back p n i j e k)
    (λ e k. faced_back p n i js k)
    h

faced_all_hold : (p : Point) (n : ℕ) (is js : List Item) → HoldsItems p is → HoldsItems p js → HoldsItems p (faced_all n is js)
faced_all_hold p n [] js h k = tt
faced_all_hold p n (i ∷ is) js h k = (faced_holds p n i js h.0 k, faced_all_hold p (suc n) is js h.1 k)

faced_all_back : (p : Point) (n : ℕ) (is js : List Item) → HoldsItems p (faced_all n is js) → HoldsItems p is
faced_all_back p n [] js h = tt
faced_all_back p n (i ∷ is) js h = (faced_back p n i js h.0, faced_all_back p (suc n) is js h.1)

-- in order, one for each list of terms, one false row alone
arranged_same : (p : Point) (is : List Item) → HoldsItems p is ↔ HoldsItems p (collapsed (one_each (sorted is)))
arranged_same p is =
    let a = sorted_same p is in
    let b = one_each_same p (sorted is) in
    let c = collapsed_same p (one_each (sorted is)) in
    ((λ h. c.0 (b.0 (a.0 h))), (λ h. a.1 (b.1 (c.1 h))))

in_form_holds : (p : Point) (q : Bool) (is : List Item) → HoldsItems p is → HoldsItems p (in_form q is)
in_form_holds p q is h =
    (arranged_same p (collapsed (normal_items q is))).0 ((collapsed_same p (normal_items q is)).0 (normal_items_hold p q is h))

in_form_back : (p : Point) (q : Bool) (is : List Item) → any_too_big q is ≡ false → HoldsItems p (in_form q is) → HoldsItems p is
in_form_back p q is e h =
    normal_items_back p q is e ((collapsed_same p (normal_items q is)).1 ((arranged_same p (collapsed (normal_items q is))).1 h))

merged_holds : (p : Point) (is : List Item) → HoldsItems p is → HoldsItems p (merged is)
merged_holds p is h = (arranged_same p (faced_all (next_made is) is is)).0 (faced_all_hold p (next_made is) is is h h)

merged_back : (p : Point) (is : List Item) → HoldsItems p (merged is) → HoldsItems p is
merged_back p is h = faced_all_back p (next_made is) is is ((arranged_same p (faced_all (next_made is) is is)).1 h)

round_holds : (p : Point) (q : Bool) (is : List Item) → HoldsItems p is → HoldsItems p (round q is).items
round_holds p q is h = merged_holds p (take row_limit (in_form q is)) (take_holds p row_limit (in_form q is) (in_form_holds p q is h))

round_back : (p : Point) (q : Bool) (is : List Item) → (round q is).lost ≡ false → HoldsItems p (round q is).items → HoldsItems p is
round_back p q is e h =
    let l = or_parts (any_too_big q is) (nat_lt row_limit (length (in_form q is))) e in
    in_form_back p q is l.0 (take_back p row_limit (in_form q is) l.1 (merged_back p (take row_limit (in_form q is)) h))

-- ---- step 4

pub append_holds : (p : Point) (xs ys : List Item) → (HoldsItems p xs × HoldsItems p ys) ↔ HoldsItems p (xs ++ ys)
append_holds p [] ys = ((λ h. h.1), (λ h. (tt, h)))
append_holds p (x ∷ xs) ys =
    let ih = append_holds p xs ys in
    ((λ h. (h.0.0, ih.0 (h.0.1, h.1))), (λ h. let k = ih.1 h.1 in ((h.0, k.0), k.1)))

-- what a cut says
abbrev pub CutSays : (Item → Bool) → List Item → Option Cut → Type 0
CutSays f is None = AllItems (λ i. f i ≡ false) is
CutSays f is (Some c) = (f c.at ≡ true) × ((p : Point) → HoldsItems p is ↔ (Holds p c.at.row × HoldsItems p (others c)))

pub cut_says : (f : Item → Bool) (is : List Item) → CutSays f is (cut_at f is)
cut_says f [] = tt
cut_says f (i ∷ is) =
    if_cases (CutSays f (i ∷ is)) (f i) (Some (cut [] i is)) (cut_later i (cut_at f is))
    (λ e. (e, (λ p. ((λ h. h), (λ h. h)))))
    (λ e. go e (cut_at f is) (cut_says f is))
  where
    go : f i ≡ false → (o : Option Cut) → CutSays f is o → CutSays f (i ∷ is) (cut_later i o)
    go e None h = (e, h)
    go e (Some c) h = (h.0, (λ p. ((λ k. let l = (h.1 p).0 k.1 in (l.0, (k.0, l.1))), (λ k. (k.1.0, (h.1 p).1 (k.0, k.1.1))))))

-- a row and a multiple of an equal row
pub shifted_same : (p : Point) (r e : Row) (c : ℤ) → (value p e.terms ≡ e.bound) → Holds p r ↔ Holds p (combine (pos 1) r c e)
shifted_same p r e c h =
    let v : value p (add_terms (pos 1) r.terms (add_terms c e.terms [])) ≡ (pos 1 *ℤ value p r.terms) +ℤ ((c *ℤ value p e.terms) +ℤ pos 0)
    = value-add_terms p (pos 1) r.terms (add_terms c e.terms []) ∙ ap (λ x. (pos 1 *ℤ value p r.terms) +ℤ x) (value-add_terms p c e.terms []) in
    let m : c *ℤ value p e.terms ≡ c *ℤ e.bound = ap (λ x. c *ℤ x) h in
    go r.equal (value p r.terms) r.bound (value p (add_terms (pos 1) r.terms (add_terms c e.terms []))) (c *ℤ e.bound) (v ∙ ap (λ x. (pos 1 *ℤ value p r.terms) +ℤ (x +ℤ pos 0)) m)
  where
    go : (g : Bool) (x b w d : ℤ) → w ≡ (pos 1 *ℤ x) +ℤ (d +ℤ pos 0) → Meets g x b ↔ Meets g w ((pos 1 *ℤ b) +ℤ d)
    go true x b w d e = ((λ h. omega (arith, ints)), (λ h. omega (arith, ints)))
    go false x b w d e = ((λ h. omega (arith, ints)), (λ h. omega (arith, ints)))

pub substituted_same : (p : Point) (n : ℕ) (e : Item) (v : Var) (i : Item) → value p e.row.terms ≡ e.row.bound → Holds p i.row ↔ Holds p (substituted n e v i).row
substituted_same p n e v i h =
    let c = neg_ℤ (factor_of v i.row.terms *ℤ factor_of v e.row.terms) in
    if_cases (λ (j : Item). Holds p i.row ↔ Holds p j.row) (occurs v i.row) (item (by_row i.row v e.row) (joined i.originals e.originals) n) i
    (λ o. shifted_same p i.row e.row c h)
    (λ o. ((λ k. k), (λ k. k)))

pub all_substituted_same : (p : Point) (n : ℕ) (e : Item) (v : Var) (is : List Item) → value p e.row.terms ≡ e.row.bound → HoldsItems p is ↔ HoldsItems p (all_substituted n e v is)
all_substituted_same p n e v [] h = ((λ k. k), (λ k. k))
all_substituted_same p n e v (i ∷ is) h =
    let s = substituted_same p n e v i h in
    let ih = all_substituted_same p (suc n) e v is h in
    ((λ k. (s.0 k.0, ih.0 k.1)), (λ k. (s.1 k.0, ih.1 k.1)))

taken_same : (p : Point) (n : ℕ) (e : Item) (is : List Item) (o : Option Var) → e.row.equal ≡ true → HoldsItems p (e ∷ is) ↔ HoldsItems p (taken n e is o)
taken_same p n e is None q = ((λ k. k), (λ k. k))
taken_same p n e is (Some v) q = (
  (λ k. (k.0, (all_substituted_same p n e v is ((equally p e.row q).0 k.0)).0 k.1)),
  (λ k. (k.0, (all_substituted_same p n e v is ((equally p e.row q).0 k.0)).1 k.1)),
)

pub tidy_turns_hold : (p : Point) (n : ℕ) (q : Bool) (is : List Item) → HoldsItems p is → HoldsItems p (tidy_turns n q is).items
tidy_turns_hold p zero q is h = round_holds p q is h
tidy_turns_hold p (suc n) q is h =
    let t = round q is in
    go (λ js k. tidy_turns_hold p n q js k) (next_pivot t.items) (cut_says (is_to_take t.items) t.items)
  where
    go : ((js : List Item) → HoldsItems p js → HoldsItems p (tidy_turns n q js).items) → (o : Option Cut) → CutSays (is_to_take (round q is).items) (round q is).items o → HoldsItems p (after_round (λ js. tidy_turns n q js) (round q is) o).items
    go ih None s = round_holds p q is h
    go ih (Some c) s =
        let e = and_parts c.at.row.equal (is_elsewhere (round q is).items (unit_var c.at.row.terms)) s.0 in
        ih (pivoted (round q is).items c)
        ((taken_same p (next_made (round q is).items) c.at (others c) (unit_var c.at.row.terms) e.0).0 ((s.1 p).0 (round_holds p q is h)))

pub tidy_turns_back : (p : Point) (n : ℕ) (q : Bool) (is : List Item) → (tidy_turns n q is).lost ≡ false → HoldsItems p (tidy_turns n q is).items → HoldsItems p is
tidy_turns_back p zero q is l h = round_back p q is l h
tidy_turns_back p (suc n) q is l h =
    let t = round q is in
    go (λ js m k. tidy_turns_back p n q js m k) (next_pivot t.items) (cut_says (is_to_take t.items) t.items) l h
  where
    go : ((js : List Item) → (tidy_turns n q js).lost ≡ false → HoldsItems p (tidy_turns n q js).items → HoldsItems p js) → (o : Option Cut) → CutSays (is_to_take (round q is).items) (round q is).items o → (after_round (λ js. tidy_turns n q js) (round q is) o).lost ≡ false → HoldsItems p (after_round (λ js. tidy_turns n q js) (round q is) o).items → HoldsItems p is
    go ih None s l h = round_back p q is l h
    go ih (Some c) s l h =
        let e = and_parts c.at.row.equal (is_elsewhere (round q is).items (unit_var c.at.row.terms)) s.0 in
        let js = pivoted (round q is).items c in
        let k = or_parts (round q is).lost (tidy_turns n q js).lost l in
        round_back p q is k.0 ((s.1 p).1
        ((taken_same p (next_made (round q is).items) c.at (others c) (unit_var c.at.row.terms) e.0).1 (ih js k.1 h)))

-- ---- systems

pub items_from_same : (p : Point) (n : ℕ) (rs : List Row) → HoldsAll p rs ↔ HoldsItems p (items_from n rs)
items_from_same p n [] = ((λ k. k), (λ k. k))
items_from_same p n (r ∷ rs) = let ih = items_from_same p (suc n) rs in ((λ k. (k.0, ih.0 k.1)), (λ k. (k.0, ih.1 k.1)))

pub rows_of_same : (p : Point) (is : List Item) → HoldsItems p is ↔ HoldsAll p (rows_of is)
rows_of_same p [] = ((λ k. k), (λ k. k))
rows_of_same p (i ∷ is) = let ih = rows_of_same p is in ((λ k. (k.0, ih.0 k.1)), (λ k. (k.0, ih.1 k.1)))

-- tidying loses no point
pub tidy_holds : (p : Point) (s : System) → HoldsAll p s.rows → HoldsAll p (tidy s).rows
tidy_holds p s h =
    let is = items_from 0 s.rows in
    (rows_of_same p (tidy_items false is).items).0 (tidy_turns_hold p turn_limit false is ((items_from_same p 0 s.rows).0 h))

-- where no row was lost, each point of the tidied system is one of the system
pub tidy_back : (p : Point) (s : System) → (tidy s).weak ≡ false → HoldsAll p (tidy s).rows → HoldsAll p s.rows
tidy_back p s w h =
    let is = items_from 0 s.rows in
    let l = or_parts s.weak (tidy_items false is).lost w in
    (items_from_same p 0 s.rows).1 (tidy_turns_back p turn_limit false is l.1 ((rows_of_same p (tidy_items false is).items).1 h))
