-- The difference has the points of the one system outside the other; where it is exact, just these.
use Rattle.std.proofs.Common.{◌≡◌, Bool, true, false, ◌||◌, List, [], ◌∷◌, ◌++◌, map, arith, Some, ⊎_elim, ◌⊎◌, inl, inr}
use Rattle.std.specs.Prelude.{MatchOption}
use Rattle.std.proofs.lemmas.Int.{ints}
use Rattle.std.proofs.lemmas.Bool.{or_parts}
use Rattle.affine_systems.specs.declared.row.Row.{Row}
use Rattle.affine_systems.specs.declared.row.System.{System}
use Rattle.hull_projection.specs.declared.parts.Minus.{Minus}
use Rattle.affine_systems.specs.Rows.{row}
use Rattle.affine_systems.specs.Points.{Point, value, Meets, Holds, HoldsAll}
use Rattle.affine_systems.specs.Calls.{push_row, meet}
use Rattle.hull_projection.specs.Refute.{refuted, negations}
use Rattle.hull_projection.specs.Clean.{clean}
use Rattle.hull_projection.specs.Hull.{hull}
use Rattle.hull_projection.specs.Minus.{difference, all_negations, parts, hull_all, minus_parts, minus, apart}
use Rattle.hull_projection.specs.Unions.{HoldsSome}
use Rattle.hull_projection.specs.Laws.{HasOutside, HasNothingElse, AreOutside, HasParts}
use Rattle.affine_systems.proofs.Basics.{if_cases}
use Rattle.affine_systems.proofs.NormalLaws.{value-negated}
use Rattle.affine_systems.proofs.CallLaws.{push_row_holds, push_row_back, meet_holds}
use Rattle.hull_projection.proofs.RefuteLaws.{refuted_none, SomeHolds, holds_or_not}
use Rattle.hull_projection.proofs.CleanLaws.{clean_same}
use Rattle.hull_projection.proofs.HullLaws.{hull_holds}

-- ---- negations

some_right : (p : Point) (rs ss : List Row) → SomeHolds p ss → SomeHolds p (rs ++ ss)
some_right p [] ss h = h
some_right p (r ∷ rs) ss h = inr (some_right p rs ss h)

some_left : (p : Point) (rs ss : List Row) → SomeHolds p rs → SomeHolds p (rs ++ ss)
some_left p [] ss h = absurd h
some_left p (r ∷ rs) ss (inl h) = inl h
some_left p (r ∷ rs) ss (inr h) = inr (some_left p rs ss h)

some_split : (p : Point) (rs ss : List Row) → SomeHolds p (rs ++ ss) → SomeHolds p rs ⊎ SomeHolds p ss
some_split p [] ss h = inr h
some_split p (r ∷ rs) ss (inl h) = inl (inl h)
some_split p (r ∷ rs) ss (inr h) = ⊎_elim (λ k. inl (inr k)) (λ k. inr k) (some_split p rs ss h)

pub all_or_not : (p : Point) (rs : List Row) → HoldsAll p rs ⊎ SomeHolds p (all_negations rs)
all_or_not p [] = inl tt
all_or_not p (r ∷ rs) =
    ⊎_elim
    (λ h. ⊎_elim (λ k. inl (h, k)) (λ k. inr (some_right p (negations r) (all_negations rs) k)) (all_or_not p rs))
    (λ h. inr (some_left p (negations r) (all_negations rs) h))
    (holds_or_not p r)

not_both : (p : Point) (r : Row) → Holds p r → SomeHolds p (negations r) → ⊥
not_both p r = go r.equal where
  go : (e : Bool) → Meets e (value p r.terms) r.bound → SomeHolds p (negations (row e r.terms r.bound)) → ⊥
  go true h (inl k) = let n = value-negated p r.terms in omega (arith, ints, n, h, k)
  go true h (inr (inl k)) = omega (arith, ints, h, k)
  go true h (inr (inr k)) = k
  go false h (inl k) = let n = value-negated p r.terms in omega (arith, ints, n, h, k)
  go false h (inr k) = k

pub outside : (p : Point) (rs : List Row) → SomeHolds p (all_negations rs) → HoldsAll p rs → ⊥
outside p [] s h = s
outside p (r ∷ rs) s h =
    ⊎_elim (λ k. not_both p r h.0 k) (λ k. outside p rs k h.1) (some_split p (negations r) (all_negations rs) s)

-- ---- parts

pub parts_hold : (p : Point) (a : System) (ns : List Row) → HoldsAll p a.rows → SomeHolds p ns → HoldsSome p (parts a ns)
parts_hold p a [] h s = s
parts_hold p a (n ∷ ns) h s =
    if_cases (HoldsSome p) (refuted (push_row a n).rows) (parts a ns) (push_row a n ∷ parts a ns)
    (λ e. ⊎_elim (λ k. absurd (refuted_none p (push_row a n).rows e (push_row_holds p a n (h, k)))) (λ k. parts_hold p a ns h k) s)
    (λ e. ⊎_elim (λ k. inl (push_row_holds p a n (h, k))) (λ k. inr (parts_hold p a ns h k)) s)

hull_all_some : (p : Point) (s : System) (ts : List System) → HoldsAll p s.rows ⊎ HoldsSome p ts → HoldsAll p (hull_all s ts).rows
hull_all_some p s [] (inl h) = h
hull_all_some p s [] (inr h) = absurd h
hull_all_some p s (t ∷ ts) (inl h) = hull_all_some p (hull s t) ts (inl (hull_holds s t p (inl h)))
hull_all_some p s (t ∷ ts) (inr (inl h)) = hull_all_some p (hull s t) ts (inl (hull_holds s t p (inr h)))
hull_all_some p s (t ∷ ts) (inr (inr h)) = hull_all_some p (hull s t) ts (inr h)

abbrev HoldsIn : Point → Minus → Type 0
HoldsIn p m = MatchOption m.system ⊥ (λ s. HoldsAll p s.rows)

minus_parts_hold : (p : Point) (ss : List System) (w : Bool) → HoldsSome p ss → HoldsIn p (minus_parts ss w)
minus_parts_hold p [] w h = h
minus_parts_hold p (s ∷ []) w (inl h) = (clean_same p s).0 h
minus_parts_hold p (s ∷ []) w (inr h) = absurd h
minus_parts_hold p (s ∷ (t ∷ ts)) w h = hull_all_some p s (t ∷ ts) h

pub minus_holds : (a b : System) → HasOutside a b (minus a b)
minus_holds a b p h o =
    if_cases (HoldsIn p) (refuted (meet a b).rows) (difference (Some a) true) (minus_parts (parts a (all_negations b.rows)) (a.weak || b.weak))
    (λ e. h)
    (λ e. minus_parts_hold p (parts a (all_negations b.rows)) (a.weak || b.weak)
    (parts_hold p a (all_negations b.rows) h (⊎_elim (λ k. absurd (o k)) (λ k. k) (all_or_not p b.rows))))

-- ---- exact

-- without lost rows, a part has points of a at which one of the rows holds
abbrev PartSays : System → List Row → System → Type 0
PartSays a ns s = (p : Point) → s.weak ≡ false → HoldsAll p s.rows → HoldsAll p a.rows × SomeHolds p ns

abbrev PartsSay : System → List Row → List System → Type 0
PartsSay a ns [] = Unit {0}
PartsSay a ns (s ∷ ss) = PartSays a ns s × PartsSay a ns ss

parts_say_more : (a : System) (n : Row) (ns : List Row) (ss : List System) → PartsSay a ns ss → PartsSay a (n ∷ ns) ss
parts_say_more a n ns [] h = tt
parts_say_more a n ns (s ∷ ss) h = ((λ p w k. let l = h.0 p w k in (l.0, inr l.1)), parts_say_more a n ns ss h.1)

parts_say : (a : System) (ns : List Row) → PartsSay a ns (parts a ns)
parts_say a [] = tt
parts_say a (n ∷ ns) =
    let ih = parts_say_more a n ns (parts a ns) (parts_say a ns) in
    if_cases (PartsSay a (n ∷ ns)) (refuted (push_row a n).rows) (parts a ns) (push_row a n ∷ parts a ns)
    (λ e. ih)
    (λ e. ((λ p w h. let k = push_row_back p a n w h in (k.0, inl k.1)), ih))

minus_parts_exact : (a b : System) (ss : List System) (w : Bool) → PartsSay a (all_negations b.rows) ss → HasNothingElse a b (minus_parts ss w)
minus_parts_exact a b [] w h e = tt
minus_parts_exact a b (s ∷ []) w h e =
    λ f p k. let l = h.0 p (or_parts s.weak w f).0 ((clean_same p s).1 k) in (l.0, outside p b.rows l.1)
minus_parts_exact a b (s ∷ (t ∷ ts)) w h e = cc

pub minus_exact : (a b : System) → HasNothingElse a b (minus a b)
minus_exact a b =
    if_cases (HasNothingElse a b) (refuted (meet a b).rows) (difference (Some a) true) (minus_parts (parts a (all_negations b.rows)) (a.weak || b.weak))
    (λ r e f p h. (h, (λ k. refuted_none p (meet a b).rows r (meet_holds p a b (h, k)))))
    (λ r. minus_parts_exact a b (parts a (all_negations b.rows)) (a.weak || b.weak) (parts_say a (all_negations b.rows)))

-- ---- the parts, each cleaned

cleaned_some : (p : Point) (ss : List System) → HoldsSome p ss → HoldsSome p (map clean ss)
cleaned_some p [] h = h
cleaned_some p (s ∷ ss) (inl h) = inl ((clean_same p s).0 h)
cleaned_some p (s ∷ ss) (inr h) = inr (cleaned_some p ss h)

cleaned_outside : (a b : System) (ss : List System) → PartsSay a (all_negations b.rows) ss → AreOutside a b (map clean ss)
cleaned_outside a b [] h = tt
cleaned_outside a b (s ∷ ss) h =
    ((λ w p k. let l = h.0 p w ((clean_same p s).1 k) in (l.0, outside p b.rows l.1)), cleaned_outside a b ss h.1)

pub apart_has : (a b : System) → HasParts a b (apart a b)
apart_has a b =
    let ns = all_negations b.rows in (
      (λ p h o. cleaned_some p (parts a ns) (parts_hold p a ns h (⊎_elim (λ k. absurd (o k)) (λ k. k) (all_or_not p b.rows)))),
      cleaned_outside a b (parts a ns) (parts_say a ns),
    )
