-- What is of the first region alone stays in the difference; an exact one has nothing else.
use Rattle.std.proofs.Common.{◌≡◌, ℕ, ℤ, ◌+ℤ◌, ◌*ℤ◌, List, [], ◌∷◌, ◌++◌, map, ◌&&◌, Bool, true, false, refl, sym, subst, ap, ap₂, ◌∙◌, Some, inl, inr, ⊎_elim, true≢false}
use Rattle.std.specs.Prelude.{if◌then◌else◌, not, MatchOption}
use Rattle.std.proofs.lemmas.Bool.{and_parts, not-true}
use Rattle.affine_systems.specs.declared.row.Var.{Var}
use Rattle.affine_systems.specs.declared.row.Var.TheVariants.{Cell, Exit, Phi, Aux}
use Rattle.affine_systems.specs.declared.row.Term.{Term}
use Rattle.affine_systems.specs.declared.row.Row.{Row}
use Rattle.affine_systems.specs.declared.row.System.{System}
use Rattle.affine_systems.specs.Terms.{negated_terms}
use Rattle.affine_systems.specs.Rows.{system}
use Rattle.affine_systems.specs.Points.{Point, value, Meets, Holds, HoldsAll}
use Rattle.affine_systems.specs.Calls.{push_row, meet}
use Rattle.affine_systems.proofs.CallLaws.{meet_holds, push_row_holds}
use Rattle.hull_projection.specs.Refute.{refuted, above, below, negations}
use Rattle.hull_projection.specs.Clean.{clean}
use Rattle.hull_projection.specs.Minus.{parts, all_negations, apart}
use Rattle.hull_projection.specs.Laws.{IsOutside, AreOutside}
use Rattle.hull_projection.specs.Unions.{HoldsSome}
use Rattle.hull_projection.proofs.RefuteLaws.{refuted_none, SomeHolds}
use Rattle.hull_projection.proofs.CleanLaws.{clean_same}
use Rattle.hull_projection.proofs.MinusLaws.{all_or_not, apart_has}
use Rattle.transformers.specs.transformer_algebra.Laws.{In, here, there}
use Rattle.transformers.specs.transformer_algebra.Claims.{AtStart}
use Rattle.transformers.proofs.TransformerAlgebra.Members.{in_left, in_right}
use Rattle.region_sets.specs.declared.region.Region.{Region}
use Rattle.region_sets.specs.Regions.{any_weak, remade}
use Rattle.region_sets.specs.Trim.{trim}
use Rattle.region_sets.specs.Subtract.{is_place, are_place_terms, are_place_rows, are_places, less_piece, less_one, less_all, unless_empty, all_left, are_apart, all_apart, subtract}
use Rattle.region_sets.specs.Claims.{HasSubscripts, AreNumbers, HasCells, Describes, DescribedBy, LiesIn}
use Rattle.region_sets.specs.Laws.{KeepsRest, HasRestAlone}
use Rattle.region_sets.proofs.DescribedLaws.{arrival, stored, at_start, none_by}
use Rattle.region_sets.proofs.BackLaws.{tidy_weak}
use Rattle.region_sets.proofs.TrimLaws.{in_either, of_more, in_map, holds_in, trim_by, Strong, strong_trim}
use Rattle.fx_lists.proofs.Options.{some_is}
use Rattle.fx_lists.proofs.Booleans.{clash as clashes}

-- ---- rows on subscripts and cells

module _ (n phi : ℕ → ℤ) (p : Point) (cells : HasCells n p) (subscripts : HasSubscripts phi p) where
  number_placed : (v : Var) → is_place v ≡ true → arrival n phi v ≡ p v
  number_placed (Cell c) e = sym (cells c)
  number_placed (Exit c) e = absurd (true≢false (sym e))
  number_placed (Phi k) e = sym (subscripts k)
  number_placed (Aux j) e = absurd (true≢false (sym e))

  value_placed : (ts : List Term) → are_place_terms ts ≡ true → value (arrival n phi) ts ≡ value p ts
  value_placed [] e = refl
  value_placed (t ∷ ts) e = let k = and_parts (is_place t.var) (are_place_terms ts) e in ap₂ (λ (a b : ℤ). (t.factor *ℤ a) +ℤ b) (number_placed t.var k.0) (value_placed ts k.1)

  -- what holds at the arrival holds at each point with its numbers and subscripts
  holds_placed : (r : Row) → are_place_terms r.terms ≡ true → Holds (arrival n phi) r → Holds p r
  holds_placed r e h = subst (λ (x : ℤ). Meets r.equal x r.bound) (value_placed r.terms e) h

negated_places : (ts : List Term) → are_place_terms ts ≡ true → are_place_terms (negated_terms ts) ≡ true
negated_places [] e = refl
negated_places (t ∷ ts) e = let k = and_parts (is_place t.var) (are_place_terms ts) e in rw (k.0, negated_places ts k.1) refl

-- a negation that holds at a point
record Fails (p : Point) (ns : List Row) : Type 0 where
  row : Row
  is_one : In row ns
  holds : Holds p row

found : (p : Point) (ns : List Row) → SomeHolds p ns → Fails p ns
found p [] h = absurd h
found p (m ∷ ns) (inl h) = record { row = m; is_one = here; holds = h }
found p (m ∷ ns) (inr h) = let k = found p ns h in record { row = k.row; is_one = there k.is_one; holds = k.holds }

abbrev IsPlaced : Row → Type 0
IsPlaced r = are_place_terms r.terms ≡ true

one_negation : (r m : Row) → are_place_terms r.terms ≡ true → In m (negations r) → are_place_terms m.terms ≡ true
one_negation r m e i = go r.equal i
  where
    go : (b : Bool) → In m (if b then above r ∷ below r ∷ [] else above r ∷ []) → are_place_terms m.terms ≡ true
    go true j = of_more IsPlaced m (above r) (below r ∷ []) j (negated_places r.terms e) (λ k. of_more IsPlaced m (below r) [] k e (λ l. elim l [ ]))
    go false j = of_more IsPlaced m (above r) [] j (negated_places r.terms e) (λ k. elim k [ ])

negation_placed : (rs : List Row) (m : Row) → are_place_rows rs ≡ true → In m (all_negations rs) → are_place_terms m.terms ≡ true
negation_placed [] m e i = elim i [ ]
negation_placed (r ∷ rs) m e i =
    let k = and_parts (are_place_terms r.terms) (are_place_rows rs) e in
    ⊎_elim (λ j. one_negation r m k.0 j) (λ j. negation_placed rs m k.1 j) (in_either m (negations r) (all_negations rs) i)

-- ---- what stays of pieces

part_in : (s : System) (m : Row) (ns : List Row) → In m ns → refuted (push_row s m).rows ≡ false → In (push_row s m) (parts s ns)
part_in s m [] i e = elim i [ ]
part_in s m (o ∷ ns) here e = go (refuted (push_row s m).rows) e
  where
    go : (b : Bool) → b ≡ false → In (push_row s m) (if b then parts s ns else push_row s m ∷ parts s ns)
    go true f = absurd (true≢false f)
    go false f = here
part_in s m (o ∷ ns) (there i) e = go (refuted (push_row s o).rows) (part_in s m ns i e)
  where
    go : (b : Bool) → In (push_row s m) (parts s ns) → In (push_row s m) (if b then parts s ns else push_row s o ∷ parts s ns)
    go true j = j
    go false j = there j

module _ (n phi : ℕ → ℤ) where
  abbrev Absent : System → Type 0
  Absent t = (p : Point) → HasCells n p → HasSubscripts phi p → HoldsAll p t.rows → ⊥

  part_stays : (t s : System) → are_place_rows t.rows ≡ true → Absent t → Describes s n phi → DescribedBy (apart s t) n phi
  part_stays t s e none d = record { piece = clean u; is_one = in_map clean u (parts s (all_negations t.rows)) (part_in s k.row (all_negations t.rows) k.is_one alive); holds = λ p h ph. (clean_same p u).0 (holds p h ph) }
    where
      p0 : Point
      p0 = arrival n phi

      k : Fails p0 (all_negations t.rows)
      k = found p0 (all_negations t.rows) (⊎_elim (λ h. absurd (none p0 (λ c. refl) (λ i. refl) h)) (λ h. h) (all_or_not p0 t.rows))

      u : System
      u = push_row s k.row

      holds : Describes u n phi
      holds p h ph = push_row_holds p s k.row (d p h ph, holds_placed n phi p h ph k.row (negation_placed t.rows k.row e k.is_one) k.holds)

      alive : refuted u.rows ≡ false
      alive = go (refuted u.rows) refl
        where
          go : (b : Bool) → refuted u.rows ≡ b → b ≡ false
          go true f = absurd (refuted_none p0 u.rows f (holds p0 (λ c. refl) (λ i. refl)))
          go false f = refl

  piece_stays : (t s : System) → are_place_rows t.rows ≡ true → Absent t → Describes s n phi → DescribedBy (less_piece t s) n phi
  piece_stays t s e none d = go (refuted (meet s t).rows)
    where
      go : (b : Bool) → DescribedBy (if b then s ∷ [] else apart s t) n phi
      go true = record { piece = s; is_one = here; holds = d }
      go false = part_stays t s e none d

  in_less : (t s q : System) (ss : List System) → In s ss → In q (less_piece t s) → In q (less_one t ss)
  in_less t s q [] i j = elim i [ ]
  in_less t s q (u ∷ ss) here j = in_left q (less_piece t s) (less_one t ss) j
  in_less t s q (u ∷ ss) (there i) j = in_right q (less_piece t u) (less_one t ss) (in_less t s q ss i j)

  one_stays : (t : System) (ss : List System) → are_place_rows t.rows ≡ true → Absent t → DescribedBy ss n phi → DescribedBy (less_one t ss) n phi
  one_stays t ss e none d =
      let k = piece_stays t d.piece e none d.holds in
      record { piece = k.piece; is_one = in_less t d.piece k.piece ss d.is_one k.is_one; holds = k.holds }

  pub all_stay : (ss ts : List System) → are_places ts ≡ true → ((p : Point) → HasCells n p → HasSubscripts phi p → HoldsSome p ts → ⊥) → DescribedBy ss n phi → DescribedBy (less_all ss ts) n phi
  all_stay ss [] e none d = d
  all_stay ss (t ∷ ts) e none d =
      let k = and_parts (are_place_rows t.rows) (are_places ts) e in
      all_stay (less_one t ss) ts k.1 (λ p h ph l. none p h ph (inr l)) (one_stays t ss k.0 (λ p h ph l. none p h ph (inl l)) d)

pub subtract_keeps : (a b : Region) → KeepsRest a b (subtract a b)
subtract_keeps a b m at x accessed sharp u off l = go (b.exact && are_places b.pieces) refl
  where
    -- what b describes is accessed, and so not u
    none : b.exact ≡ true → (p : Point) → AtStart m x p → HasSubscripts l.phi p → HoldsSome p b.pieces → ⊥
    none e p st ph h =
        let a = sharp e p st h in
        let same : at (λ k. p (Phi k)) ≡ at l.phi = ap at (λ i k. ph k i) in
        let k : a.unit ≡ u = some_is a.unit u (sym a.there ∙ (same ∙ l.there)) in
        clashes (accessed u) (ap accessed (sym k) ∙ a.is_so) off

    left : (b.exact && are_places b.pieces) ≡ true → (n : ℕ → ℤ) → AreNumbers m x n → DescribedBy (trim (less_all a.pieces b.pieces)).pieces n l.phi
    left e n i =
        let k = and_parts b.exact (are_places b.pieces) e in
        trim_by (less_all a.pieces b.pieces) n l.phi (all_stay n l.phi a.pieces b.pieces k.1 (λ p h ph. none k.0 p (at_start m x n p i h) ph) (l.described n i))

    some_left : (e : Bool) (ss : List System) → ((n : ℕ → ℤ) → AreNumbers m x n → DescribedBy ss n l.phi) → MatchOption (unless_empty a e ss) ⊥ (λ r. LiesIn m at r x u)
    some_left e [] k = none_by (stored m x) l.phi (k (stored m x) (λ c t. refl))
    some_left e (s ∷ ss) k = record { phi = l.phi; there = l.there; described = k }

    go : (e : Bool) → (b.exact && are_places b.pieces) ≡ e → MatchOption (if e then all_left a (less_all a.pieces b.pieces) else Some (remade a (a.exact && all_apart a.pieces b.pieces) a.pieces)) ⊥ (λ r. LiesIn m at r x u)
    go true e = some_left (a.exact && (trim (less_all a.pieces b.pieces)).exact) (trim (less_all a.pieces b.pieces)).pieces (left e)
    go false e = record { phi = l.phi; there = l.there; described = l.described }

-- ---- nothing else

part_weak : (s q : System) (ns : List Row) → In q (map clean (parts s ns)) → q.weak ≡ false → s.weak ≡ false
part_weak s q [] i w = elim i [ ]
part_weak s q (m ∷ ns) i w = go (refuted (push_row s m).rows) i (λ j. part_weak s q ns j w)
  where
    go : (b : Bool) → In q (map clean (if b then parts s ns else push_row s m ∷ parts s ns)) → (In q (map clean (parts s ns)) → s.weak ≡ false) → s.weak ≡ false
    go true j ih = ih j
    go false j ih = of_more (λ u. u.weak ≡ false → s.weak ≡ false) q (clean (push_row s m)) (map clean (parts s ns)) j (λ k. tidy_weak (system (s.rows ++ m ∷ []) s.weak) k) (λ k l. ih k) w

outside_of : (a b q : System) (ss : List System) → AreOutside a b ss → In q ss → IsOutside a b q
outside_of a b q [] h i = elim i [ ]
outside_of a b q (s ∷ ss) h here = h.0
outside_of a b q (s ∷ ss) h (there i) = outside_of a b q ss h.1 i

module _ (p : Point) where
  abbrev Left : System → System → Type 0
  Left s t = (s.weak ≡ false) × (HoldsAll p s.rows × (HoldsAll p t.rows → ⊥))

  piece_alone : (t s q : System) → In q (less_piece t s) → q.weak ≡ false → HoldsAll p q.rows → Left s t
  piece_alone t s q i w h = go (refuted (meet s t).rows) refl i
    where
      itself : refuted (meet s t).rows ≡ true → In q (s ∷ []) → Left s t
      itself e j = of_more (λ u. u.weak ≡ false → HoldsAll p u.rows → Left s t) q s [] j (λ v k. (v, (k, λ l. refuted_none p (meet s t).rows e (meet_holds p s t (k, l))))) (λ k. elim k [ ]) w h

      go : (b : Bool) → refuted (meet s t).rows ≡ b → In q (if b then s ∷ [] else apart s t) → Left s t
      go true e j = itself e j
      go false e j = (part_weak s q (all_negations t.rows) j w, outside_of s t q (apart s t) (apart_has s t).1 j w p h)

  one_alone : (t : System) (ss : List System) → Strong p (less_one t ss) → Strong p ss × (HoldsAll p t.rows → ⊥)
  one_alone t ss k = go ss k.is_one
    where
      go : (us : List System) → In k.piece (less_one t us) → Strong p us × (HoldsAll p t.rows → ⊥)
      go [] i = elim i [ ]
      go (s ∷ us) i =
          ⊎_elim
          (λ j. let l = piece_alone t s k.piece j k.strong k.holds in (record { piece = s; is_one = here; strong = l.0; holds = l.1.0 }, l.1.1))
          (λ j. let l = go us j in (record { piece = l.0.piece; is_one = there l.0.is_one; strong = l.0.strong; holds = l.0.holds }, l.1))
          (in_either k.piece (less_piece t s) (less_one t us) i)

  all_alone : (ss ts : List System) → Strong p (less_all ss ts) → Strong p ss × (HoldsSome p ts → ⊥)
  all_alone ss [] k = (k, λ l. l)
  all_alone ss (t ∷ ts) k =
      let l = all_alone (less_one t ss) ts k in
      let m = one_alone t ss l.0 in
      (m.0, λ h. ⊎_elim m.1 l.1 h)

apart_none : (p : Point) (q : System) (ss : List System) → are_apart q ss ≡ true → HoldsAll p q.rows → HoldsSome p ss → ⊥
apart_none p q [] e h k = k
apart_none p q (s ∷ ss) e h k =
    let e2 = and_parts (refuted (meet q s).rows) (are_apart q ss) e in
    ⊎_elim (λ l. refuted_none p (meet q s).rows e2.0 (meet_holds p q s (h, l))) (λ l. apart_none p q ss e2.1 h l) k

pub all_apart_none : (p : Point) (ps ss : List System) → all_apart ps ss ≡ true → HoldsSome p ps → HoldsSome p ss → ⊥
all_apart_none p [] ss e h k = h
all_apart_none p (q ∷ ps) ss e h k =
    let e2 = and_parts (are_apart q ss) (all_apart ps ss) e in
    ⊎_elim (λ l. apart_none p q ss e2.0 l k) (λ l. all_apart_none p ps ss e2.1 l k) h

pub subtract_exact : (a b : Region) → HasRestAlone a b (subtract a b)
subtract_exact a b = go (b.exact && are_places b.pieces)
  where
    of_left : (ss : List System) → ss ≡ (trim (less_all a.pieces b.pieces)).pieces → MatchOption (unless_empty a (a.exact && (trim (less_all a.pieces b.pieces)).exact) ss) (Unit {0}) (λ r. r.exact ≡ true → (a.exact ≡ true) × ((p : Point) → HoldsSome p r.pieces → HoldsSome p a.pieces × (HoldsSome p b.pieces → ⊥)))
    of_left [] e = tt
    of_left (s ∷ ss) e = λ x.
        let us = less_all a.pieces b.pieces in
        let x2 = and_parts (a.exact && (trim us).exact) (not (any_weak (s ∷ ss))) x in
        let x3 = and_parts a.exact (trim us).exact x2.0 in
        let w : any_weak (trim us).pieces ≡ false = subst (λ (z : List System). any_weak z ≡ false) e (not-true (any_weak (s ∷ ss)) x2.1) in (
          x3.0,
          λ p h.
              let k = all_alone p a.pieces b.pieces (strong_trim p us x3.1 w (subst (λ (z : List System). HoldsSome p z) e h)) in
              (holds_in p k.0.piece a.pieces k.0.is_one k.0.holds, k.1),
        )

    go : (m : Bool) → HasRestAlone a b (if m then all_left a (less_all a.pieces b.pieces) else Some (remade a (a.exact && all_apart a.pieces b.pieces) a.pieces))
    go true = of_left (trim (less_all a.pieces b.pieces)).pieces refl
    go false = λ x.
        let x2 = and_parts (a.exact && all_apart a.pieces b.pieces) (not (any_weak a.pieces)) x in
        let x3 = and_parts a.exact (all_apart a.pieces b.pieces) x2.0 in
        (x3.0, λ p h. (h, λ k. all_apart_none p a.pieces b.pieces x3.1 h k))
