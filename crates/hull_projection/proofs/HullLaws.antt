-- The hull has the points of both operands.
use Rattle.std.proofs.Common.{◌≡◌, ℕ, zero, suc, ◌+◌, Bool, true, false, ◌||◌, List, [], ◌∷◌, ◌++◌, map, length, ℤ, pos, neg_ℤ, ◌-ℤ◌, ◌*ℤ◌, ◌+ℤ◌, arith, ap, refl, sym, subst, ◌∙◌, ⊎_elim, ◌⊎◌, inl, inr}
use Rattle.std.specs.Prelude.{if◌then◌else◌}
use Rattle.std.proofs.lemmas.Int.{ints}
use Rattle.affine_systems.specs.declared.row.Var.{Var}
use Rattle.affine_systems.specs.declared.row.Var.TheVariants.{Aux}
use Rattle.affine_systems.specs.declared.row.Term.{Term}
use Rattle.affine_systems.specs.declared.row.Row.{Row}
use Rattle.affine_systems.specs.declared.row.System.{System}
use Rattle.hull_projection.specs.declared.eliminations.Left.{Left}
use Rattle.affine_systems.specs.Terms.{term_before}
use Rattle.affine_systems.specs.Rows.{system}
use Rattle.affine_systems.specs.Points.{Point, value, Meets, Holds, HoldsAll, only}
use Rattle.affine_systems.specs.Items.{items_from, rows_of}
use Rattle.affine_systems.specs.Tidy.{tidy_items, tidy}
use Rattle.affine_systems.specs.Eliminate.{eliminate_item}
use Rattle.hull_projection.specs.Refute.{has_few, count_pairs, left_after, eliminate_all, all_left, refuted}
use Rattle.hull_projection.specs.Variables.{row_vars}
use Rattle.hull_projection.specs.Fresh.{fresh_after, aux_from}
use Rattle.hull_projection.specs.Hull.{place_of, copy_of, share_of, copies, negated_copies, scale, rest_scaled, at_least_0, at_most_1, lift_rows, hull_left, lifted_hull, both_vars, hull}
use Rattle.hull_projection.specs.Laws.{IsOneOf, HasBoth}
use Rattle.affine_systems.proofs.Basics.{if_cases, neg_mul}
use Rattle.affine_systems.proofs.TermLaws.{value-term_before}
use Rattle.affine_systems.proofs.TidyLaws.{HoldsItems, items_from_same, rows_of_same, tidy_holds}
use Rattle.affine_systems.proofs.ElimLaws.{tidied_holds}
use Rattle.affine_systems.proofs.LackLaws.{Nil, AllNil, RowsNil, eliminate_item_nil, eliminate_item_lacks, rows_of_nil, tidy_nil}
use Rattle.affine_systems.proofs.LastLaws.{keep_has}
use Rattle.affine_systems.proofs.CallLaws.{append_all}
use Rattle.hull_projection.proofs.RefuteLaws.{originals_hold, eliminate_all_hold, refuted_none}
use Rattle.hull_projection.proofs.CleanLaws.{clean_same}
use Rattle.hull_projection.proofs.ProjectLaws.{cleaned_nil}
use Rattle.hull_projection.proofs.VarLaws.{TermsIn, RowsIn, rows_covered, kept-rows, rows_more, IsOld, fresh_old}
use Rattle.hull_projection.proofs.LiftLaws.{with_aux, with_aux_old, lift, lift_at, lift_last, AllLack, with_aux_back, Agree, value-agrees, agree_from, value-zero, value-append}

-- ---- lifted rows

value-copies : (q : Point) (n : ℕ) (xs : List Var) (ts : List Term) → value q (copies n xs ts) ≡ value (λ v. q (copy_of n xs v)) ts
value-copies q n xs [] = refl
value-copies q n xs (t ∷ ts) = let ih = value-copies q n xs ts in omega (arith, ints, ih)

value-negated_copies : (q : Point) (n : ℕ) (xs : List Var) (ts : List Term) → value q (negated_copies n xs ts) ≡ neg_ℤ (value (λ v. q (copy_of n xs v)) ts)
value-negated_copies q n xs [] = refl
value-negated_copies q n xs (t ∷ ts) =
    let ih = value-negated_copies q n xs ts in
    let m = neg_mul t.factor (q (copy_of n xs t.var)) in
    omega (arith, ints, ih, m)

value-scaled : (q : Point) (n : ℕ) (xs : List Var) (r : Row) → value q (scale n xs r).terms ≡ value (λ v. q (copy_of n xs v)) r.terms +ℤ (neg_ℤ r.bound *ℤ q (share_of n xs))
value-scaled q n xs r =
    let a = value-append q (copies n xs r.terms) (term_before (share_of n xs) (neg_ℤ r.bound) []) in
    let b = value-copies q n xs r.terms in
    let c = value-term_before q (share_of n xs) (neg_ℤ r.bound) [] in
    omega (arith, ints, a, b, c)

value-rest_scaled : (q : Point) (n : ℕ) (xs : List Var) (r : Row) → value q (rest_scaled n xs r).terms ≡ (value q r.terms -ℤ value (λ v. q (copy_of n xs v)) r.terms) +ℤ (r.bound *ℤ q (share_of n xs))
value-rest_scaled q n xs r =
    let a = value-append q (r.terms ++ negated_copies n xs r.terms) (term_before (share_of n xs) r.bound []) in
    let d = value-append q r.terms (negated_copies n xs r.terms) in
    let b = value-negated_copies q n xs r.terms in
    let c = value-term_before q (share_of n xs) r.bound [] in
    omega (arith, ints, a, b, c, d)

-- l is 1 and y is x, or l and y are 0
scaled_one : (p q : Point) (n : ℕ) (xs : List Var) (r : Row) → q (share_of n xs) ≡ pos 1 → Agree (λ v. q (copy_of n xs v)) p r.terms → Holds p r → Holds q (scale n xs r)
scaled_one p q n xs r e a h =
    let v = value-scaled q n xs r in
    let w = value-agrees (λ v. q (copy_of n xs v)) p r.terms a in
    let k : neg_ℤ r.bound *ℤ q (share_of n xs) ≡ neg_ℤ r.bound *ℤ pos 1 = ap (λ x. neg_ℤ r.bound *ℤ x) e in
    go r.equal (value p r.terms) (value q (scale n xs r).terms) r.bound (omega (arith, ints, v, w, k)) h
  where
    go : (g : Bool) (x z b : ℤ) → z ≡ x -ℤ b → Meets g x b → Meets g z (pos 0)
    go true x z b e h = omega (arith, ints, e, h)
    go false x z b e h = omega (arith, ints, e, h)

scaled_zero : (q : Point) (n : ℕ) (xs : List Var) (r : Row) → q (share_of n xs) ≡ pos 0 → Agree (λ v. q (copy_of n xs v)) (λ v. pos 0) r.terms → Holds q (scale n xs r)
scaled_zero q n xs r e a =
    let v = value-scaled q n xs r in
    let w = value-agrees (λ v. q (copy_of n xs v)) (λ v. pos 0) r.terms a ∙ value-zero r.terms in
    let k : neg_ℤ r.bound *ℤ q (share_of n xs) ≡ neg_ℤ r.bound *ℤ pos 0 = ap (λ x. neg_ℤ r.bound *ℤ x) e in
    go r.equal (value q (scale n xs r).terms) (omega (arith, ints, v, w, k))
  where
    go : (g : Bool) (z : ℤ) → z ≡ pos 0 → Meets g z (pos 0)
    go true z e = e
    go false z e = omega (arith, ints, e)

rest_one : (p q : Point) (n : ℕ) (xs : List Var) (r : Row) → q (share_of n xs) ≡ pos 1 → Agree (λ v. q (copy_of n xs v)) p r.terms → Agree q p r.terms → Holds q (rest_scaled n xs r)
rest_one p q n xs r e a b =
    let v = value-rest_scaled q n xs r in
    let m = value-agrees (λ v. q (copy_of n xs v)) p r.terms a in
    let o = value-agrees q p r.terms b in
    let k : r.bound *ℤ q (share_of n xs) ≡ r.bound *ℤ pos 1 = ap (λ x. r.bound *ℤ x) e in
    go r.equal (value q (rest_scaled n xs r).terms) r.bound (omega (arith, ints, v, m, o, k))
  where
    go : (g : Bool) (z b : ℤ) → z ≡ b → Meets g z b
    go true z b e = e
    go false z b e = omega (arith, ints, e)

rest_zero : (p q : Point) (n : ℕ) (xs : List Var) (r : Row) → q (share_of n xs) ≡ pos 0 → Agree (λ v. q (copy_of n xs v)) (λ v. pos 0) r.terms → Agree q p r.terms → Holds p r → Holds q (rest_scaled n xs r)
rest_zero p q n xs r e a b h =
    let v = value-rest_scaled q n xs r in
    let m = value-agrees (λ v. q (copy_of n xs v)) (λ v. pos 0) r.terms a ∙ value-zero r.terms in
    let o = value-agrees q p r.terms b in
    let k : r.bound *ℤ q (share_of n xs) ≡ r.bound *ℤ pos 0 = ap (λ x. r.bound *ℤ x) e in
    let s : value p r.terms ≡ value q (rest_scaled n xs r).terms = omega (arith, ints, v, m, o, k) in
    subst (λ (z : ℤ). Meets r.equal z r.bound) s h

share_holds : (q : Point) (l : Var) → (q l ≡ pos 0) ⊎ (q l ≡ pos 1) → HoldsAll q (at_least_0 l ∷ at_most_1 l ∷ [])
share_holds q l (inl e) = (rw e (omega (arith, ints)), (rw e (omega (arith, ints)), tt))
share_holds q l (inr e) = (rw e (omega (arith, ints)), (rw e (omega (arith, ints)), tt))

mapped_hold : (p q : Point) (xs : List Var) (f : Row → Row) (rs : List Row) → ((r : Row) → TermsIn xs r.terms → Holds p r → Holds q (f r)) → RowsIn xs rs → HoldsAll p rs → HoldsAll q (map f rs)
mapped_hold p q xs f [] k i h = tt
mapped_hold p q xs f (r ∷ rs) k i h = (k r i.0 h.0, mapped_hold p q xs f rs k i.1 h.1)

mapped_free : (q : Point) (xs : List Var) (f : Row → Row) (rs : List Row) → ((r : Row) → TermsIn xs r.terms → Holds q (f r)) → RowsIn xs rs → HoldsAll q (map f rs)
mapped_free q xs f [] k i = tt
mapped_free q xs f (r ∷ rs) k i = (k r i.0, mapped_free q xs f rs k i.1)

-- ---- the eliminated variables are gone

eliminate_all_nil : (u : Point) (q : Bool) (s : Left) (vs : List Var) → AllNil u s.items → AllNil u (eliminate_all q s vs).items
eliminate_all_nil u q s [] h = h
eliminate_all_nil u q s (v ∷ vs) h =
    let e = eliminate_item q v s.items in
    eliminate_all_nil u q (left_after s e) vs (keep_has (λ i. Nil u i.row) (has_few (count_pairs s.pairs e)) e.items (eliminate_item_nil u q v s.items h))

hull_left_nil : (u : Point) (w : Bool) (s : Left) → AllNil u s.items → RowsNil u (hull_left w s).rows
hull_left_nil u w s h =
    let t = system (rows_of s.items) (w || s.lost) in
    cleaned_nil u [] (tidy t).rows (tidy_nil u t (rows_of_nil u s.items h))

lack_left : (w : Bool) (s : Left) (n m : ℕ) → AllLack n m (hull_left w (eliminate_all true s (aux_from n m))).rows
lack_left w s n zero = tt
lack_left w s n (suc m) =
    let e = eliminate_item true (Aux n) s.items in (
      hull_left_nil (only (Aux n)) w (eliminate_all true s (aux_from n (suc m)))
          (eliminate_all_nil (only (Aux n)) true (left_after s e) (aux_from (suc n) m)
          (keep_has (λ i. Nil (only (Aux n)) i.row) (has_few (count_pairs s.pairs e)) e.items (eliminate_item_lacks true (Aux n) s.items))),
      lack_left w (left_after s e) (suc n) m,
    )

hull_left_holds : (p : Point) (w : Bool) (s : Left) → HoldsItems p s.items → HoldsAll p (hull_left w s).rows
hull_left_holds p w s h =
    let t = system (rows_of s.items) (w || s.lost) in
    (clean_same p (tidy t)).0 (tidy_holds p t ((rows_of_same p s.items).0 h))

lifted_hull_holds : (p : Point) (a b : System) (xs : List Var) (n : ℕ) (zs : List ℤ) → length zs ≡ suc (length xs) → HoldsAll (with_aux p n zs) (lift_rows n xs a.rows b.rows) → HoldsAll p (lifted_hull n xs a b).rows
lifted_hull_holds p a b xs n zs e h =
    let q = with_aux p n zs in
    let rs = lift_rows n xs a.rows b.rows in
    let t = tidy_items true (items_from 0 rs) in
    let k = tidied_holds q true (items_from 0 rs) ((items_from_same q 0 rs).0 h) in
    let s = all_left t.items in
    let l = eliminate_all true s (aux_from n (suc (length xs))) in
    let w = (a.weak || b.weak) || t.lost in
    let m = hull_left_holds q w l (eliminate_all_hold q true s (aux_from n (suc (length xs))) (originals_hold q 0 t.items k)) in
    with_aux_back p n zs (lifted_hull n xs a b).rows
    (subst (λ (c : ℕ). AllLack n c (lifted_hull n xs a b).rows) (sym e) (lack_left w s n (suc (length xs))))
    m

length_lift : (f : Var → ℤ) (z : ℤ) (xs : List Var) → length (map f xs ++ z ∷ []) ≡ suc (length xs)
length_lift f z [] = refl
length_lift f z (x ∷ xs) = ap suc (length_lift f z xs)

lifted_holds : (q : Point) (n : ℕ) (xs : List Var) (rs ss : List Row) → HoldsAll q (map (scale n xs) rs) → HoldsAll q (map (rest_scaled n xs) ss) → HoldsAll q (at_least_0 (share_of n xs) ∷ at_most_1 (share_of n xs) ∷ []) → HoldsAll q (lift_rows n xs rs ss)
lifted_holds q n xs rs ss h k l =
    (append_all q (map (scale n xs) rs ++ map (rest_scaled n xs) ss) (at_least_0 (share_of n xs) ∷ at_most_1 (share_of n xs) ∷ [])).0
    ((append_all q (map (scale n xs) rs) (map (rest_scaled n xs) ss)).0 (h, k), l)

-- a point of the one operand: l is 1 and y is x
one_lifts : (p : Point) (a b : System) (xs : List Var) (n : ℕ) → ((v : Var) → IsOneOf v xs → IsOld n v) → RowsIn xs a.rows → RowsIn xs b.rows → HoldsAll p a.rows → HoldsAll p (lifted_hull n xs a b).rows
one_lifts p a b xs n o i j h =
    let q = lift p p (pos 1) n xs in
    let el : q (share_of n xs) ≡ pos 1 = lift_last p p (pos 1) n xs (n + length xs) refl in
    let at = λ (v : Var) (k : IsOneOf v xs). lift_at p p (pos 1) n xs v k (n + place_of v xs) refl in
    let old = λ (v : Var) (k : IsOneOf v xs). with_aux_old p n (map p xs ++ pos 1 ∷ []) v (o v k) in
    lifted_hull_holds p a b xs n (map p xs ++ pos 1 ∷ []) (length_lift p (pos 1) xs)
    (lifted_holds q n xs a.rows b.rows
    (mapped_hold p q xs (scale n xs) a.rows (λ r t k. scaled_one p q n xs r el (agree_from (λ v. q (copy_of n xs v)) p xs r.terms at t) k) i h)
    (mapped_free q xs (rest_scaled n xs) b.rows (λ r t. rest_one p q n xs r el (agree_from (λ v. q (copy_of n xs v)) p xs r.terms at t) (agree_from q p xs r.terms old t)) j)
    (share_holds q (share_of n xs) (inr el)))

-- a point of the other operand: l and y are 0
zero_lifts : (p : Point) (a b : System) (xs : List Var) (n : ℕ) → ((v : Var) → IsOneOf v xs → IsOld n v) → RowsIn xs a.rows → RowsIn xs b.rows → HoldsAll p b.rows → HoldsAll p (lifted_hull n xs a b).rows
zero_lifts p a b xs n o i j h =
    let z = λ (v : Var). pos 0 in
    let q = lift p z (pos 0) n xs in
    let el : q (share_of n xs) ≡ pos 0 = lift_last p z (pos 0) n xs (n + length xs) refl in
    let at = λ (v : Var) (k : IsOneOf v xs). lift_at p z (pos 0) n xs v k (n + place_of v xs) refl in
    let old = λ (v : Var) (k : IsOneOf v xs). with_aux_old p n (map z xs ++ pos 0 ∷ []) v (o v k) in
    lifted_hull_holds p a b xs n (map z xs ++ pos 0 ∷ []) (length_lift z (pos 0) xs)
    (lifted_holds q n xs a.rows b.rows
    (mapped_free q xs (scale n xs) a.rows (λ r t. scaled_zero q n xs r el (agree_from (λ v. q (copy_of n xs v)) z xs r.terms at t)) i)
    (mapped_hold p q xs (rest_scaled n xs) b.rows (λ r t k. rest_zero p q n xs r el (agree_from (λ v. q (copy_of n xs v)) z xs r.terms at t) (agree_from q p xs r.terms old t) k) j h)
    (share_holds q (share_of n xs) (inl el)))

-- the variables of both rows
pub both_covered : (a b : System) → RowsIn (both_vars a b) a.rows × RowsIn (both_vars a b) b.rows
both_covered a b =
    (rows_more (row_vars a.rows) (both_vars a b) a.rows (λ u h. kept-rows u (row_vars a.rows) b.rows h) (rows_covered [] a.rows), rows_covered (row_vars a.rows) b.rows)

-- the hull has the points of both
pub hull_holds : (a b : System) → HasBoth a b (hull a b)
hull_holds a b p h =
    let xs = both_vars a b in
    let n = fresh_after xs in
    let i = both_covered a b in
    let o = λ (v : Var) (k : IsOneOf v xs). fresh_old v xs k in
    let P = λ (s : System). HoldsAll p s.rows in
    if_cases P (refuted a.rows) b (if refuted b.rows then a else lifted_hull n xs a b)
    (λ e. ⊎_elim (λ k. absurd (refuted_none p a.rows e k)) (λ k. k) h)
    (λ e. if_cases P (refuted b.rows) a (lifted_hull n xs a b)
    (λ f. ⊎_elim (λ k. k) (λ k. absurd (refuted_none p b.rows f k)) h)
    (λ f. ⊎_elim (λ k. one_lifts p a b xs n o i.0 i.1 k) (λ k. zero_lifts p a b xs n o i.0 i.1 k) h))
