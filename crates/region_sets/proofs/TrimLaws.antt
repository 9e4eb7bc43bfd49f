-- Trimmed pieces: each point of a piece is one of one that is left, and where no hull was taken each that is left is one of them.
use Rattle.std.proofs.Common.{◌≡◌, ℕ, ℤ, ◌≤◌, List, [], ◌∷◌, ◌++◌, map, length, take, reverse, append-nil, Bool, true, false, ◌||◌, refl, sym, subst, ◌⊎◌, inl, inr, ⊎_elim, true≢false, arith}
use Rattle.std.specs.Prelude.{if◌then◌else◌}
use Rattle.std.proofs.lemmas.Bool.{and_parts, or_parts}
use Rattle.std.proofs.lemmas.List.{reverse-append}
use Rattle.affine_systems.specs.declared.row.Row.{Row}
use Rattle.affine_systems.specs.declared.row.System.{System}
use Rattle.affine_systems.specs.Terms.{has_no_terms}
use Rattle.affine_systems.specs.Points.{Point, Holds, HoldsAll}
use Rattle.affine_systems.proofs.Basics.{if_cases}
use Rattle.affine_systems.proofs.TidyLaws.{not_false_row}
use Rattle.hull_projection.specs.Refute.{refuted, entails}
use Rattle.hull_projection.specs.Unions.{HoldsSome}
use Rattle.hull_projection.proofs.RefuteLaws.{refuted_none, entailed_holds}
use Rattle.hull_projection.proofs.HullLaws.{hull_holds}
use Rattle.affine_forms.specs.Conditions.{infeasible}
use Rattle.transformers.specs.transformer_algebra.Laws.{In, here, there}
use Rattle.transformers.proofs.TransformerAlgebra.Members.{in_left, in_right}
use Rattle.region_sets.specs.Regions.{any_weak}
use Rattle.region_sets.specs.Within.{gives_row, gives_rows, within_one, all_within}
use Rattle.region_sets.specs.Trim.{live_pieces, sifted, hulls, limited, trim, or_infeasible}
use Rattle.region_sets.specs.Claims.{Describes, DescribedBy}
use Rattle.region_sets.specs.Laws.{WithinOne}
use Rattle.region_sets.proofs.DescribedLaws.{arrival}

-- ---- a system within another

gives_holds : (p : Point) (rs : List Row) (r : Row) → gives_row rs r ≡ true → HoldsAll p rs → Holds p r
gives_holds p rs r e h = go (has_no_terms r.terms) e
  where
    go : (b : Bool) → (if b then refuted rs else entails rs r) ≡ true → Holds p r
    go true k = absurd (refuted_none p rs k h)
    go false k = entailed_holds p rs r k h

all_given : (p : Point) (rs qs : List Row) → gives_rows rs qs ≡ true → HoldsAll p rs → HoldsAll p qs
all_given p rs [] e h = tt
all_given p rs (q ∷ qs) e h = let k = and_parts (gives_row rs q) (gives_rows rs qs) e in (gives_holds p rs q k.0 h, all_given p rs qs k.1 h)

pub one_later : (s q : System) (ps : List System) → WithinOne s ps → WithinOne s (q ∷ ps)
one_later s q ps w = record { piece = w.piece; is_one = there w.is_one; has = w.has }

pub itself : (s : System) (ss : List System) → In s ss → WithinOne s ss
itself s ss i = record { piece = s; is_one = i; has = λ p h. h }

pub one_within : (ps : List System) (s : System) → within_one ps s ≡ true → WithinOne s ps
one_within [] s e = absurd (true≢false (sym e))
one_within (q ∷ ps) s e = go (gives_rows s.rows q.rows) refl e (λ k. one_within ps s k)
  where
    go : (b : Bool) → gives_rows s.rows q.rows ≡ b → (b || within_one ps s) ≡ true → (within_one ps s ≡ true → WithinOne s ps) → WithinOne s (q ∷ ps)
    go true k e ih = record { piece = q; is_one = here; has = λ p h. all_given p s.rows q.rows k h }
    go false k e ih = one_later s q ps (ih e)

pub each_within : (ps ss : List System) → all_within ps ss ≡ true → (s : System) → In s ss → WithinOne s ps
each_within ps [] e s i = elim i [ ]
each_within ps (u ∷ ss) e s here = one_within ps s (and_parts (within_one ps s) (all_within ps ss) e).0
each_within ps (u ∷ ss) e s (there i) = each_within ps ss (and_parts (within_one ps u) (all_within ps ss) e).1 s i

-- where each of those lies within one of others
pub one_through : (s : System) (ss ts : List System) → WithinOne s ss → ((q : System) → In q ss → WithinOne q ts) → WithinOne s ts
one_through s ss ts w f = let v = f w.piece w.is_one in record { piece = v.piece; is_one = v.is_one; has = λ p h. v.has p (w.has p h) }

-- what a system describes, one that it lies within does
pub described_within : (n phi : ℕ → ℤ) (ss ts : List System) → ((q : System) → In q ss → WithinOne q ts) → DescribedBy ss n phi → DescribedBy ts n phi
described_within n phi ss ts f d = let w = f d.piece d.is_one in record { piece = w.piece; is_one = w.is_one; holds = λ p h ph. w.has p (d.holds p h ph) }

-- ---- members

pub in_either : {A : Type 0} (a : A) (as' bs : List A) → In a (as' ++ bs) → In a as' ⊎ In a bs
in_either a [] bs i = inr i
in_either a (b ∷ as') bs here = inl here
in_either a (b ∷ as') bs (there i) = ⊎_elim (λ j. inl (there j)) (λ j. inr j) (in_either a as' bs i)

pub in_map : {A : Type 0} {B : Type 0} (f : A → B) (a : A) (as' : List A) → In a as' → In (f a) (map f as')
in_map f a [] i = elim i [ ]
in_map f a (b ∷ as') here = here
in_map f a (b ∷ as') (there i) = there (in_map f a as' i)

-- what is so of what is made of each element is so of each of those
pub of_map : {A : Type 0} {B : Type 0} (f : A → B) (P : B → Type 0) (as' : List A) → ((a : A) → In a as' → P (f a)) → (b : B) → In b (map f as') → P b
of_map f P [] h b i = elim i [ ]
of_map f P (a ∷ as') h b here = h a here
of_map f P (a ∷ as') h b (there i) = of_map f P as' (λ c j. h c (there j)) b i

-- what is so of the first, and of each other, is so of each
pub of_more : {A : Type 0} (P : A → Type 0) (a b : A) (as' : List A) → In a (b ∷ as') → P b → (In a as' → P a) → P a
of_more P a b as' here h f = h
of_more P a b as' (there i) h f = f i

in_reversed : (s : System) (ss : List System) → In s ss → In s (reverse ss)
in_reversed s [] i = i
in_reversed s (u ∷ ss) i = subst (In s) (sym (reverse-append (u ∷ []) ss)) (go i (λ j. in_reversed s ss j))
  where
    go : In s (u ∷ ss) → (In s ss → In s (reverse ss)) → In s (reverse ss ++ u ∷ [])
    go j ih = of_more (λ q. In q (reverse ss ++ u ∷ [])) s u ss j (in_right u (reverse ss) (u ∷ []) here) (λ k. in_left s (reverse ss) (u ∷ []) (ih k))

of_reversed : (s : System) (ss : List System) → In s (reverse ss) → In s ss
of_reversed s [] i = i
of_reversed s (u ∷ ss) i = ⊎_elim (λ j. there (of_reversed s ss j)) (λ j. one j) (in_either s (reverse ss) (u ∷ []) (subst (In s) (reverse-append (u ∷ []) ss) i))
  where
    one : In s (u ∷ []) → In s (u ∷ ss)
    one j = of_more (λ q. In q (u ∷ ss)) s u [] j here (λ k. elim k [ ])

-- ---- pieces that are not refuted

pub live_in : (s : System) (ss : List System) → In s ss → refuted s.rows ≡ false → In s (live_pieces ss)
live_in s [] i e = i
live_in s (u ∷ ss) here e = go (refuted u.rows) e
  where
    go : (b : Bool) → b ≡ false → In u (if b then live_pieces ss else u ∷ live_pieces ss)
    go true k = absurd (true≢false k)
    go false k = here
live_in s (u ∷ ss) (there i) e = go (refuted u.rows) (live_in s ss i e)
  where
    go : (b : Bool) → In s (live_pieces ss) → In s (if b then live_pieces ss else u ∷ live_pieces ss)
    go true k = k
    go false k = there k

pub live_of : (s : System) (ss : List System) → In s (live_pieces ss) → (refuted s.rows ≡ false) × In s ss
live_of s [] i = elim i [ ]
live_of s (u ∷ ss) i = go (refuted u.rows) refl i (λ j. live_of s ss j)
  where
    go : (b : Bool) → refuted u.rows ≡ b → In s (if b then live_pieces ss else u ∷ live_pieces ss) → (In s (live_pieces ss) → (refuted s.rows ≡ false) × In s ss) → (refuted s.rows ≡ false) × In s (u ∷ ss)
    go true q j ih = let k = ih j in (k.0, there k.1)
    go false q j ih = of_more (λ t. (refuted t.rows ≡ false) × In t (u ∷ ss)) s u (live_pieces ss) j (q, here) (λ l. let k = ih l in (k.0, there k.1))

-- ---- what lies within another is dropped

pub sifted_in : (q : System) (ss ts : List System) → In q (ss ++ ts) → WithinOne q (sifted ss ts)
sifted_in q [] ts i = itself q ts i
sifted_in q (s ∷ ss) ts i = if_cases (WithinOne q) (within_one (ss ++ ts) s) (sifted ss ts) (sifted ss (s ∷ ts)) (λ e. dropped e i (λ u j. sifted_in u ss ts j)) (λ e. sifted_in q ss (s ∷ ts) (moved i))
  where
    dropped : within_one (ss ++ ts) s ≡ true → In q (s ∷ (ss ++ ts)) → ((u : System) → In u (ss ++ ts) → WithinOne u (sifted ss ts)) → WithinOne q (sifted ss ts)
    dropped e j ih = of_more (λ u. WithinOne u (sifted ss ts)) q s (ss ++ ts) j (one_through s (ss ++ ts) (sifted ss ts) (one_within (ss ++ ts) s e) ih) (λ k. ih q k)

    moved : In q (s ∷ (ss ++ ts)) → In q (ss ++ s ∷ ts)
    moved j =
        of_more (λ u. In u (ss ++ s ∷ ts)) q s (ss ++ ts) j (in_right s ss (s ∷ ts) here)
        (λ l. ⊎_elim (λ k. in_left q ss (s ∷ ts) k) (λ k. in_right q ss (s ∷ ts) (there k)) (in_either q ss ts l))

pub sifted_of : (q : System) (ss ts : List System) → In q (sifted ss ts) → In q (ss ++ ts)
sifted_of q [] ts i = i
sifted_of q (s ∷ ss) ts i = go (within_one (ss ++ ts) s) i (λ us j. sifted_of q ss us j)
  where
    moved : In q (ss ++ s ∷ ts) → In q (s ∷ (ss ++ ts))
    moved j = ⊎_elim (λ k. there (in_left q ss ts k)) (λ k. first k) (in_either q ss (s ∷ ts) j)
      where
        first : In q (s ∷ ts) → In q (s ∷ (ss ++ ts))
        first k = of_more (λ u. In u (s ∷ (ss ++ ts))) q s ts k here (λ l. there (in_right q ss ts l))

    go : (b : Bool) → In q (if b then sifted ss ts else sifted ss (s ∷ ts)) → ((us : List System) → In q (sifted ss us) → In q (ss ++ us)) → In q (s ∷ (ss ++ ts))
    go true j ih = there (ih ts j)
    go false j ih = moved (ih (s ∷ ts) j)

-- ---- at most four

hulls_hold : (p : Point) (q s : System) (ss : List System) → In q (s ∷ ss) → HoldsAll p q.rows → HoldsAll p (hulls s ss).rows
hulls_hold p q s [] here h = h
hulls_hold p q s [] (there i) h = elim i [ ]
hulls_hold p q s (t ∷ ts) here h = hull_holds s (hulls t ts) p (inl h)
hulls_hold p q s (t ∷ ts) (there i) h = hull_holds s (hulls t ts) p (inr (hulls_hold p q t ts i h))

limited_in : (q : System) (ss : List System) → In q ss → WithinOne q (limited ss).pieces
limited_in q [] i = itself q [] i
limited_in q (a ∷ []) i = itself q (a ∷ []) i
limited_in q (a ∷ b ∷ []) i = itself q (a ∷ b ∷ []) i
limited_in q (a ∷ b ∷ c ∷ []) i = itself q (a ∷ b ∷ c ∷ []) i
limited_in q (a ∷ b ∷ c ∷ d ∷ []) i = itself q (a ∷ b ∷ c ∷ d ∷ []) i
limited_in q (a ∷ b ∷ c ∷ d ∷ e ∷ ss) here = itself q (a ∷ b ∷ c ∷ hulls d (e ∷ ss) ∷ []) here
limited_in q (a ∷ b ∷ c ∷ d ∷ e ∷ ss) (there here) = itself q (a ∷ b ∷ c ∷ hulls d (e ∷ ss) ∷ []) (there here)
limited_in q (a ∷ b ∷ c ∷ d ∷ e ∷ ss) (there (there here)) = itself q (a ∷ b ∷ c ∷ hulls d (e ∷ ss) ∷ []) (there (there here))
limited_in q (a ∷ b ∷ c ∷ d ∷ e ∷ ss) (there (there (there i))) = record {
  piece = hulls d (e ∷ ss);
  is_one = there (there (there here));
  has = λ p h. hulls_hold p q d (e ∷ ss) i h;
}

limited_of : (q : System) (ss : List System) → (limited ss).exact ≡ true → In q (limited ss).pieces → In q ss
limited_of q [] x i = i
limited_of q (a ∷ []) x i = i
limited_of q (a ∷ b ∷ []) x i = i
limited_of q (a ∷ b ∷ c ∷ []) x i = i
limited_of q (a ∷ b ∷ c ∷ d ∷ []) x i = i
limited_of q (a ∷ b ∷ c ∷ d ∷ e ∷ ss) x i = absurd (true≢false (sym x))

-- the first three are no hull
limited_front : (q : System) (ss : List System) → In q (take 3 (limited ss).pieces) → In q ss
limited_front q [] i = i
limited_front q (a ∷ []) i = i
limited_front q (a ∷ b ∷ []) i = i
limited_front q (a ∷ b ∷ c ∷ []) i = i
limited_front q (a ∷ b ∷ c ∷ d ∷ []) i = in_left q (a ∷ b ∷ c ∷ []) (d ∷ []) i
limited_front q (a ∷ b ∷ c ∷ d ∷ e ∷ ss) i = in_left q (a ∷ b ∷ c ∷ []) (d ∷ e ∷ ss) i

limited_few : (ss : List System) → length (limited ss).pieces ≤ 4
limited_few [] = omega arith
limited_few (a ∷ []) = omega arith
limited_few (a ∷ b ∷ []) = omega arith
limited_few (a ∷ b ∷ c ∷ []) = omega arith
limited_few (a ∷ b ∷ c ∷ d ∷ []) = omega arith
limited_few (a ∷ b ∷ c ∷ d ∷ e ∷ ss) = omega arith

-- ---- trim

pub trim_live : (q : System) (ss : List System) → In q ss → refuted q.rows ≡ false → WithinOne q (trim ss).pieces
trim_live q ss i e =
    let rs = reverse (live_pieces ss) in
    one_through q (sifted rs []) (limited (sifted rs [])).pieces (sifted_in q rs [] (in_left q rs [] (in_reversed q (live_pieces ss) (live_in q ss i e)))) (λ u j. limited_in u (sifted rs []) j)

pub sifted_back : (q : System) (ss : List System) → In q (sifted (reverse (live_pieces ss)) []) → (refuted q.rows ≡ false) × In q ss
sifted_back q ss i =
    let rs = reverse (live_pieces ss) in
    live_of q ss (of_reversed q (live_pieces ss) (subst (In q) (append-nil rs) (sifted_of q rs [] i)))

-- where no hull was taken
pub trim_kept : (q : System) (ss : List System) → (trim ss).exact ≡ true → In q (trim ss).pieces → (refuted q.rows ≡ false) × In q ss
trim_kept q ss x i = sifted_back q ss (limited_of q (sifted (reverse (live_pieces ss)) []) x i)

pub trim_front : (q : System) (ss : List System) → In q (take 3 (trim ss).pieces) → (refuted q.rows ≡ false) × In q ss
trim_front q ss i = sifted_back q ss (limited_front q (sifted (reverse (live_pieces ss)) []) i)

pub trim_few : (ss : List System) → length (trim ss).pieces ≤ 4
trim_few ss = limited_few (sifted (reverse (live_pieces ss)) [])

one_left : (q : System) (ss : List System) → WithinOne q ss → WithinOne q (or_infeasible ss)
one_left q [] w = elim w.is_one [ ]
one_left q (s ∷ ss) w = w

-- what is refuted lies within any system
any_left : (q : System) (ss : List System) → refuted q.rows ≡ true → WithinOne q (or_infeasible ss)
any_left q [] e = record { piece = infeasible; is_one = here; has = λ p h. absurd (refuted_none p q.rows e h) }
any_left q (s ∷ ss) e = record { piece = s; is_one = here; has = λ p h. absurd (refuted_none p q.rows e h) }

pub trim_has : (q : System) (ss : List System) → In q ss → WithinOne q (or_infeasible (trim ss).pieces)
trim_has q ss i = go (refuted q.rows) refl
  where
    go : (b : Bool) → refuted q.rows ≡ b → WithinOne q (or_infeasible (trim ss).pieces)
    go true e = any_left q (trim ss).pieces e
    go false e = one_left q (trim ss).pieces (trim_live q ss i e)

-- ---- what describes subscripts

-- it has a point
pub not_refuted : (s : System) (n phi : ℕ → ℤ) → Describes s n phi → refuted s.rows ≡ false
not_refuted s n phi d = go (refuted s.rows) refl
  where
    go : (b : Bool) → refuted s.rows ≡ b → b ≡ false
    go true e = absurd (refuted_none (arrival n phi) s.rows e (d (arrival n phi) (λ c. refl) (λ k. refl)))
    go false e = refl

pub trim_by : (ss : List System) (n phi : ℕ → ℤ) → DescribedBy ss n phi → DescribedBy (trim ss).pieces n phi
trim_by ss n phi d =
    let w = trim_live d.piece ss d.is_one (not_refuted d.piece n phi d.holds) in
    record { piece = w.piece; is_one = w.is_one; holds = λ p h ph. w.has p (d.holds p h ph) }

pub trimmed_by : (ss : List System) (n phi : ℕ → ℤ) → DescribedBy ss n phi → DescribedBy (or_infeasible (trim ss).pieces) n phi
trimmed_by ss n phi d = described_within n phi ss (or_infeasible (trim ss).pieces) (λ q i. trim_has q ss i) d

-- ---- points of exact ones

pub holds_in : (p : Point) (s : System) (ss : List System) → In s ss → HoldsAll p s.rows → HoldsSome p ss
holds_in p s [] i h = elim i [ ]
holds_in p s (u ∷ ss) here h = inl h
holds_in p s (u ∷ ss) (there i) h = inr (holds_in p s ss i h)

-- a piece with the point
pub record Held (p : Point) (ss : List System) : Type 0 where
  pub piece : System
  pub is_one : In piece ss
  pub holds : HoldsAll p piece.rows

pub held_of : (p : Point) (ss : List System) → HoldsSome p ss → Held p ss
held_of p [] h = absurd h
held_of p (s ∷ ss) (inl h) = record { piece = s; is_one = here; holds = h }
held_of p (s ∷ ss) (inr h) = let k = held_of p ss h in record { piece = k.piece; is_one = there k.is_one; holds = k.holds }

pub not_weak : (s : System) (ss : List System) → any_weak ss ≡ false → In s ss → s.weak ≡ false
not_weak s [] w i = elim i [ ]
not_weak s (u ∷ ss) w here = (or_parts u.weak (any_weak ss) w).0
not_weak s (u ∷ ss) w (there i) = not_weak s ss (or_parts u.weak (any_weak ss) w).1 i

pub trim_back : (p : Point) (ss : List System) → (trim ss).exact ≡ true → HoldsSome p (trim ss).pieces → HoldsSome p ss
trim_back p ss x h = let k = held_of p (trim ss).pieces h in holds_in p k.piece ss (trim_kept k.piece ss x k.is_one).1 k.holds

-- the system without points has none
pub feasible : (p : Point) (ss : List System) → HoldsSome p (or_infeasible ss) → HoldsSome p ss
feasible p [] (inl h) = absurd (not_false_row p h.0)
feasible p [] (inr h) = h
feasible p (s ∷ ss) h = h

pub trimmed_back : (p : Point) (ss : List System) → (trim ss).exact ≡ true → HoldsSome p (or_infeasible (trim ss).pieces) → HoldsSome p ss
trimmed_back p ss x h = trim_back p ss x (feasible p (trim ss).pieces h)

-- ---- pieces that lost no row

-- a piece with the point that lost none
pub record Strong (p : Point) (ss : List System) : Type 0 where
  pub piece : System
  pub is_one : In piece ss
  pub strong : piece.weak ≡ false
  pub holds : HoldsAll p piece.rows

pub strong_of : (p : Point) (ss : List System) → any_weak ss ≡ false → HoldsSome p ss → Strong p ss
strong_of p ss w h = let k = held_of p ss h in record { piece = k.piece; is_one = k.is_one; strong = not_weak k.piece ss w k.is_one; holds = k.holds }

pub strong_trim : (p : Point) (ss : List System) → (trim ss).exact ≡ true → any_weak (trim ss).pieces ≡ false → HoldsSome p (trim ss).pieces → Strong p ss
strong_trim p ss x w h =
    let k = strong_of p (trim ss).pieces w h in
    record { piece = k.piece; is_one = (trim_kept k.piece ss x k.is_one).1; strong = k.strong; holds = k.holds }

strong_left : (ss : List System) → any_weak (or_infeasible ss) ≡ false → any_weak ss ≡ false
strong_left [] w = refl
strong_left (s ∷ ss) w = w

pub strong_trimmed : (p : Point) (ss : List System) → (trim ss).exact ≡ true → any_weak (or_infeasible (trim ss).pieces) ≡ false → HoldsSome p (or_infeasible (trim ss).pieces) → Strong p ss
strong_trimmed p ss x w h = strong_trim p ss x (strong_left (trim ss).pieces w) (feasible p (trim ss).pieces h)
