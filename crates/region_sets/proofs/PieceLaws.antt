-- What a rule keeps of each piece it keeps of the region.
use Rattle.std.proofs.Common.{◌≡◌, ℕ, ℤ, List, [], ◌∷◌, map, ◌&&◌, true, false, subst, inl, inr, ⊎_elim}
use Rattle.std.specs.Prelude.{not}
use Rattle.std.proofs.lemmas.Bool.{or_parts, and_parts, not-true}
use Rattle.affine_systems.specs.declared.row.System.{System}
use Rattle.affine_systems.specs.Points.{Point, HoldsAll}
use Rattle.hull_projection.specs.declared.projection.Shadow.{Shadow}
use Rattle.transformers.specs.transformer_algebra.declared.transformer.Transformer.{Transformer}
use Rattle.transformers.specs.transformer_algebra.Laws.{In, here, there}
use Rattle.region_sets.specs.declared.range.Range.{Range}
use Rattle.region_sets.specs.declared.region.Region.{Region}
use Rattle.region_sets.specs.Regions.{any_weak, all_exact, systems}
use Rattle.region_sets.specs.Trim.{trim, or_infeasible, each_trimmed}
use Rattle.region_sets.specs.Compose.{compose_piece, compose}
use Rattle.region_sets.specs.Loops.{loop_piece, over_loop}
use Rattle.hull_projection.specs.Unions.{HoldsSome}
use Rattle.region_sets.specs.Claims.{AreNumbers, Describes, DescribedBy, Accessed}
use Rattle.region_sets.specs.Laws.{MovesUnits, MovesSharp, HasIterations, HasIterationsAlone}
use Rattle.region_sets.proofs.DescribedLaws.{moved, moved_are}
use Rattle.region_sets.proofs.TrimLaws.{of_more, trimmed_by, strong_trimmed}
use Rattle.region_sets.proofs.ComposeLaws.{piece_describes, piece_back}
use Rattle.region_sets.proofs.LoopLaws.{turn_numbers, turn_are, piece_of_turn, piece_turned}

pub in_systems : (f : System → Shadow) (s : System) (ss : List System) → In s ss → In (f s).system (systems (map f ss))
in_systems f s [] i = elim i [ ]
in_systems f s (u ∷ ss) here = here
in_systems f s (u ∷ ss) (there i) = there (in_systems f s ss i)

-- a piece of which a point is one of what is made of it
pub record Made (f : System → Shadow) (p : Point) (ss : List System) : Type 0 where
  pub piece : System
  pub exact : (f piece).exact ≡ true
  pub strong : (f piece).system.weak ≡ false
  pub holds : HoldsAll p (f piece).system.rows
  pub back : (q : Point) → HoldsAll q piece.rows → HoldsSome q ss

pub made : (f : System → Shadow) (p : Point) (ss : List System) → all_exact (map f ss) ≡ true → any_weak (systems (map f ss)) ≡ false → HoldsSome p (systems (map f ss)) → Made f p ss
made f p [] e w h = absurd h
made f p (s ∷ ss) e w h =
    let e2 = and_parts (f s).exact (all_exact (map f ss)) e in
    let w2 = or_parts (f s).system.weak (any_weak (systems (map f ss))) w in
    ⊎_elim
    (λ k. record { piece = s; exact = e2.0; strong = w2.0; holds = k; back = λ q l. inl l })
    (λ k. let r = made f p ss e2.1 w2.1 k in record { piece = r.piece; exact = r.exact; strong = r.strong; holds = r.holds; back = λ q l. inr (r.back q l) })
    h

-- of a piece that lost no row
made_strong : (f : System → Shadow) (p : Point) (ss : List System) (s : System) → all_exact (map f ss) ≡ true → In s (systems (map f ss)) → s.weak ≡ false → HoldsAll p s.rows → Made f p ss
made_strong f p [] s e i w h = elim i [ ]
made_strong f p (u ∷ ss) s e i w h =
    let e2 = and_parts (f u).exact (all_exact (map f ss)) e in
    of_more (λ (q : System). q.weak ≡ false → HoldsAll p q.rows → Made f p (u ∷ ss)) s (f u).system (systems (map f ss)) i
    (λ w2 h2. record { piece = u; exact = e2.0; strong = w2; holds = h2; back = λ q l. inl l })
    (λ j w2 h2. let r = made_strong f p ss s e2.1 j w2 h2 in record { piece = r.piece; exact = r.exact; strong = r.strong; holds = r.holds; back = λ q l. inr (r.back q l) })
    w h

-- an exact region, and a point of one of its pieces
record Exactly (f : System → Shadow) (r : Region) (p : Point) : Type 0 where
  region : r.exact ≡ true
  made : Made f p r.pieces

exactly : (f : System → Shadow) (r : Region) (p : Point) → (each_trimmed f r).exact ≡ true → HoldsSome p (each_trimmed f r).pieces → Exactly f r p
exactly f r p e h =
    let ss = systems (map f r.pieces) in
    let a = and_parts ((r.exact && all_exact (map f r.pieces)) && (trim ss).exact) (not (any_weak (or_infeasible (trim ss).pieces))) e in
    let b = and_parts (r.exact && all_exact (map f r.pieces)) (trim ss).exact a.0 in
    let c = and_parts r.exact (all_exact (map f r.pieces)) b.0 in
    let k = strong_trimmed p ss b.1 (not-true (any_weak (or_infeasible (trim ss).pieces)) a.1) h in
    record { region = c.0; made = made_strong f p r.pieces k.piece c.1 k.is_one k.strong k.holds }

-- what is made of a piece that describes subscripts describes some
each_by : (f : System → Shadow) (r : Region) (s : System) (n phi : ℕ → ℤ) → In s r.pieces → Describes (f s).system n phi → DescribedBy (each_trimmed f r).pieces n phi
each_by f r s n phi i d = trimmed_by (systems (map f r.pieces)) n phi (record { piece = (f s).system; is_one = in_systems f s r.pieces i; holds = d })

pub compose_moves : (r : Region) (t : Transformer) → MovesUnits t r (compose r t)
compose_moves r t m at x y d u l = record { phi = l.phi; there = l.there; described = λ n a. composed n a (l.described (moved m t.cells y n) (moved_are m t.cells t.foreign x y n d.kept a)) }
  where
    composed : (n : ℕ → ℤ) → AreNumbers m x n → DescribedBy r.pieces (moved m t.cells y n) l.phi → DescribedBy (compose r t).pieces n l.phi
    composed n a w = each_by (compose_piece t) r w.piece n l.phi w.is_one (piece_describes m t x y d w.piece n l.phi a w.holds)

pub compose_sharp : (r : Region) (t : Transformer) → MovesSharp t r (compose r t)
compose_sharp r t m at x y d accessed sharp e p st h =
    let k = exactly (compose_piece t) r p e h in
    let w = k.made in
    let q = piece_back m t x y d w.piece p st w.exact w.strong w.holds in
    subst (λ (phi : ℕ → ℤ). Accessed at accessed phi) (λ i j. q.same j i) (sharp k.region q.point q.starts (w.back q.point q.holds))

pub loop_has : (r : Region) (g : Range) → HasIterations g r (over_loop r g)
loop_has r g m at x a b bg n k y it u l = record { phi = l.phi; there = l.there; described = λ o e. looped o e (l.described (turn_numbers m g n y o) (turn_are m g x a b bg n k y o it e)) }
  where
    looped : (o : ℕ → ℤ) → AreNumbers m x o → DescribedBy r.pieces (turn_numbers m g n y o) l.phi → DescribedBy (over_loop r g).pieces o l.phi
    looped o e w = each_by (loop_piece g) r w.piece o l.phi w.is_one (piece_of_turn m g x a b bg w.piece n k y it o l.phi e w.holds)

pub loop_sharp : (r : Region) (g : Range) → HasIterationsAlone g r (over_loop r g)
loop_sharp r g m at x a b accessed bg every e p st h =
    let k = exactly (loop_piece g) r p e h in
    let w = k.made in
    let q = piece_turned m g x a b bg w.piece p (λ s i. (every s i).0) st w.exact w.strong w.holds in
    let t = (every q.step q.is_step).1 q.number q.count q.range in
    let z = q.begins t.begin t.iteration in
    subst (λ (phi : ℕ → ℤ). Accessed at accessed phi) (λ i j. z.same j i) (t.sharp k.region z.point z.starts (w.back z.point z.holds))
