-- Refuted rows have no point, and entailed rows hold. Dropping rows only adds points, so a drop never refutes.
use Rattle.std.proofs.Common.{◌≡◌, ℕ, suc, Bool, true, false, List, [], ◌∷◌, ◌++◌, arith, ⊎_elim, ◌⊎◌, inl, inr}
use Rattle.std.proofs.lemmas.Int.{ints, by_lt_z}
use Rattle.std.proofs.lemmas.Bool.{and_parts}
use Rattle.affine_systems.specs.declared.row.Var.{Var}
use Rattle.affine_systems.specs.declared.row.Row.{Row}
use Rattle.affine_systems.specs.declared.items.Item.{Item}
use Rattle.hull_projection.specs.declared.eliminations.Left.{Left}
use Rattle.affine_systems.specs.Rows.{row}
use Rattle.affine_systems.specs.Points.{Point, value, Meets, Holds, HoldsAll}
use Rattle.affine_systems.specs.Items.{items_from, rows_of}
use Rattle.affine_systems.specs.Tidy.{tidy_items}
use Rattle.affine_systems.specs.Eliminate.{eliminate_item}
use Rattle.hull_projection.specs.Variables.{row_vars}
use Rattle.hull_projection.specs.Refute.{with_originals, has_few, with_few, count_pairs, left_after, eliminate_all, all_left, refuted, negations, all_refuted, entails}
use Rattle.affine_systems.proofs.NormalLaws.{value-negated}
use Rattle.affine_systems.proofs.TidyLaws.{HoldsItems, any_false-true, items_from_same}
use Rattle.affine_systems.proofs.ElimLaws.{tidied_holds, keep_holds, eliminate_item_holds}
use Rattle.affine_systems.proofs.CallLaws.{append_all}

pub originals_hold : (p : Point) (n : ℕ) (is : List Item) → HoldsItems p is → HoldsItems p (with_originals n is)
originals_hold p n [] h = tt
originals_hold p n (i ∷ is) h = (h.0, originals_hold p (suc n) is h.1)

-- rows that are dropped for their originals: each point of the rows is one of those that stay
pub few_hold : (p : Point) (k : ℕ) (is : List Item) → HoldsItems p is → HoldsItems p (with_few k is)
few_hold p k is h = keep_holds p (has_few k) is h

pub eliminate_all_hold : (p : Point) (q : Bool) (s : Left) (vs : List Var) → HoldsItems p s.items → HoldsItems p (eliminate_all q s vs).items
eliminate_all_hold p q s [] h = h
eliminate_all_hold p q s (v ∷ vs) h =
    let e = eliminate_item q v s.items in
    eliminate_all_hold p q (left_after s e) vs (few_hold p (count_pairs s.pairs e) e.items (eliminate_item_holds p q v s.items h))

-- refuted rows have no point
pub refuted_none : (p : Point) (rs : List Row) → refuted rs ≡ true → HoldsAll p rs → ⊥
refuted_none p rs e h =
    let is = (tidy_items false (items_from 0 rs)).items in
    any_false-true p (eliminate_all false (all_left is) (row_vars (rows_of is))).items e
    (eliminate_all_hold p false (all_left is) (row_vars (rows_of is)) (originals_hold p 0 is
    (tidied_holds p false (items_from 0 rs) ((items_from_same p 0 rs).0 h))))

-- ---- entailed rows

abbrev pub SomeHolds : Point → List Row → Type 0
SomeHolds p [] = ⊥
SomeHolds p (r ∷ rs) = Holds p r ⊎ SomeHolds p rs

-- a row holds, or one of its negations does
pub holds_or_not : (p : Point) (r : Row) → Holds p r ⊎ SomeHolds p (negations r)
holds_or_not p r = go r.equal where
  go : (e : Bool) → Meets e (value p r.terms) r.bound ⊎ SomeHolds p (negations (row e r.terms r.bound))
  go true =
      let n = value-negated p r.terms in
      by_lt_z r.bound (value p r.terms)
      (λ l. inr (inl (omega (arith, ints, n, l))))
      (λ l. by_lt_z (value p r.terms) r.bound
      (λ m. inr (inr (inl (omega (arith, ints, m)))))
      (λ m. inl (omega (arith, ints))))
  go false =
      let n = value-negated p r.terms in
      by_lt_z r.bound (value p r.terms)
      (λ l. inr (inl (omega (arith, ints, n, l))))
      (λ l. inl l)

none_holds : (p : Point) (rs ns : List Row) → all_refuted rs ns ≡ true → HoldsAll p rs → SomeHolds p ns → ⊥
none_holds p rs [] e h s = s
none_holds p rs (n ∷ ns) e h (inl k) =
    let t = and_parts (refuted (rs ++ n ∷ [])) (all_refuted rs ns) e in
    refuted_none p (rs ++ n ∷ []) t.0 ((append_all p rs (n ∷ [])).0 (h, (k, tt)))
none_holds p rs (n ∷ ns) e h (inr k) =
    let t = and_parts (refuted (rs ++ n ∷ [])) (all_refuted rs ns) e in
    none_holds p rs ns t.1 h k

-- an entailed row holds at each point
pub entailed_holds : (p : Point) (rs : List Row) (r : Row) → entails rs r ≡ true → HoldsAll p rs → Holds p r
entailed_holds p rs r e h =
    ⊎_elim (λ k. k) (λ k. absurd (none_holds p rs (negations r) e h k)) (holds_or_not p r)
