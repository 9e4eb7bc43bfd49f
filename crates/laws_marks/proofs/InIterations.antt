-- From the IN regions of the body of a DO to those of the DO.
use Rattle.std.proofs.Common.{◌≡◌, ⊎_elim, ℕ, ◌<◌, List, [], ◌∷◌, ◌++◌, ◌&&◌, Bool, true, false, refl, sym, ap, ◌∙◌, subst, ℤ, pos, ◌+ℤ◌, ◌*ℤ◌, Option, Some, None}
use Rattle.std.specs.Prelude.{not, MatchOption, if◌then◌else◌, is_some}
use Rattle.std.specs.declared.cmp.Ordering.TheVariants.{Equal}
use Rattle.std.specs.Ordering.{is_eq}
use Rattle.std.proofs.lemmas.Bool.{and_parts, or_parts, not-true}
use Rattle.affine_systems.specs.declared.row.Var.TheVariants.{Phi}
use Rattle.affine_systems.specs.declared.row.System.{System}
use Rattle.affine_systems.specs.Points.{Point}
use Rattle.f77_ast.specs.declared.variable.Variable.{Variable}
use Rattle.f77_ast.specs.declared.variable.Variable.TheVariants.{Own}
use Rattle.f77_ast.specs.Symbols.{SymbolTree}
use Rattle.preconditions.specs.transformer_algebra.Claims.{Scene, AtStart}
use Rattle.preconditions.specs.transformer_algebra.Laws.{In, here, there}
use Rattle.in_out_regions.specs.region_sets.declared.range.Range.{Range}
use Rattle.in_out_regions.specs.region_sets.declared.region.Access.{Access}
use Rattle.in_out_regions.specs.region_sets.declared.region.Access.TheVariants.{Write}
use Rattle.in_out_regions.specs.region_sets.declared.region.Region.{Region}
use Rattle.in_out_regions.specs.region_sets.Regions.{remade, any_weak}
use Rattle.in_out_regions.specs.region_sets.Trim.{trim}
use Rattle.in_out_regions.specs.region_sets.Subtract.{are_places, less_all, unless_empty, all_left, all_apart, subtract}
use Rattle.in_out_regions.specs.region_sets.Loops.{over_loop}
use Rattle.hull_projection.specs.Unions.{HoldsSome}
use Rattle.in_out_regions.specs.region_sets.Claims.{Elements, Accessed, LiesIn, LiesInSet, IsSharp, Places, AreByOrder, InRange, Iteration, Begins}
use Rattle.in_out_regions.proofs.RegionSets.StepLaws.{in_either}
use Rattle.in_out_regions.proofs.RegionSets.PieceLaws.{loop_has, loop_sharp}
use Rattle.in_out_regions.proofs.RegionSets.SubtractLaws.{subtract_keeps, subtract_exact}
use Rattle.in_out_regions.specs.array_regions.References.{scalar}
use Rattle.in_out_regions.specs.Writes.{write_of, is_write_beside, is_overlapped, is_touched}
use Rattle.in_out_regions.specs.ListClaims.{AreWritten, IsWithinWrites}
use Rattle.in_out_regions.specs.Loops.{in_range, earlier, less_earlier, in_iteration, over_maybe, unless_index, all_iterations}
use Rattle.laws_marks.proofs.InGathering.{EachOne}
use Rattle.laws_marks.proofs.InRests.{SharpUnless}
use Rattle.laws_marks.proofs.InEarlier.{Known, known_of, begun_at, starts_at, Earlier, back_at, back_starts, earlier_has, earlier_sharp, ranged_lies, ranged_sharp}
use Rattle.f77_ast.specs.Variables.{variable_cmp, same_variable}
use Rattle.f77_ast.proofs.SameLaws.{cmp_if, cmp_to_same}
use Rattle.preconditions.proofs.TransformerAlgebra.Members.{in_left, in_right}
use Rattle.in_out_regions.proofs.WriteLaws.{write_found, write_same, Found as WriteOf}

-- ---- what is made of a region keeps its variable and its kind

abbrev pub IsAs : Region → Region → Type 0
IsAs r q = (q.kind ≡ r.kind) × (q.variable ≡ r.variable)

abbrev pub MaybeAs : Region → Option Region → Type 0
MaybeAs r o = MatchOption o (Unit {0}) (λ q. IsAs r q)

pub subtract_as : (a b : Region) → MaybeAs a (subtract a b)
subtract_as a b = go (b.exact && are_places b.pieces)
  where
    one : (e : Bool) (ps : List System) → MaybeAs a (unless_empty a e ps)
    one e [] = tt
    one e (p ∷ ps) = (refl, refl)

    go : (c : Bool) → MaybeAs a (if c then all_left a (less_all a.pieces b.pieces) else Some (remade a (a.exact && all_apart a.pieces b.pieces) a.pieces))
    go true = one (a.exact && (trim (less_all a.pieces b.pieces)).exact) (trim (less_all a.pieces b.pieces)).pieces
    go false = (refl, refl)

module _ (ss : List SymbolTree) (m : Scene) (at : Places) (by_order : AreByOrder at) (g : Range) (x : ℕ → ℤ) (a b : ℤ) (bg : Begins m g x a b) (tracked : Bool) (is_tracked : m.tracked g.index ≡ tracked) (ws : List Region) where
  iteration_as : (r : Region) → MaybeAs r (in_iteration tracked g ss ws r)
  iteration_as r = go (earlier tracked g (write_of r.variable ws))
    where
      go : (o : Option Region) → MaybeAs r (less_earlier o ss ws (in_range tracked g r))
      go None = (refl, refl)
      go (Some e) = subtract_as (in_range tracked g r) e

  -- the region of earlier iterations is that of a WRITE region
  record Found (v : Variable) (e : Region) : Type 0 where
    write : Region
    is_write : write_of v ws ≡ Some write
    found : WriteOf v ws write
    known : Known tracked g write e

  found_of : (v : Variable) (e : Region) → earlier tracked g (write_of v ws) ≡ Some e → Found v e
  found_of v e q = go (write_of v ws) refl q
    where
      go : (o : Option Region) → write_of v ws ≡ o → earlier tracked g o ≡ Some e → Found v e
      go None r h = absurd (cc)
      go (Some w) r h = record { write = w; is_write = r; found = write_found v ws w r; known = known_of tracked g w e h }

  -- ---- all that is read first

  -- an iteration before one, in which exact WRITE regions tell what is written
  pub record Past (s : ℤ) (i : ℕ) (written : ℕ → Bool) : Type 0 where
    pub number : ℤ
    pub is_it : number ≡ a +ℤ (s *ℤ pos i)
    pub store : ℕ → ℤ
    pub iteration : Iteration m g x a b number i store
    pub writes : AreWritten m at ws store written

  module _ (n : ℤ) (k : ℕ) (y : ℕ → ℤ) (it : Iteration m g x a b n k y) where
    module _ (written : ℕ → Bool) (past : (s : ℤ) → g.step ≡ Some s → (i : ℕ) → i < k → Past s i written) (u : ℕ) (spared : written u ≡ false) where
      iteration_lies : (r : Region) → LiesIn m (at r.variable) r y u → MatchOption (in_iteration tracked g ss ws r) ⊥ (λ q. LiesIn m (at r.variable) q y u)
      iteration_lies r l = go (earlier tracked g (write_of r.variable ws)) refl
        where
          ranged : LiesIn m (at r.variable) (in_range tracked g r) y u
          ranged = ranged_lies m g x a b bg tracked is_tracked (at r.variable) r n k y u it l

          go : (o : Option Region) → earlier tracked g (write_of r.variable ws) ≡ o → MatchOption (less_earlier o ss ws (in_range tracked g r)) ⊥ (λ q. LiesIn m (at r.variable) q y u)
          go None e = record { phi = ranged.phi; there = ranged.there; described = ranged.described }
          go (Some e) h = subtract_keeps (in_range tracked g r) e m (at r.variable) y written sharp u spared ranged
            where
              f : Found r.variable e
              f = found_of r.variable e h

              sharp : IsSharp m (at r.variable) e y written
              sharp =
                  earlier_sharp m g x a b bg tracked is_tracked f.write e f.known n k y it (at r.variable) written
                  (λ i l. (let p = past f.known.step f.known.is_step i l in (
                    record { number = p.number; is_it = p.is_it; store = p.store; iteration = p.iteration },
                    subst (λ (z : Elements). IsSharp m z f.write p.store written) (sym (by_order r.variable f.write.variable f.found.order)) (p.writes f.write f.found.is_one f.found.kind),
                  )))

      -- then it lies in the DO's
      pub turn_lies : (kind : Access) (is : List Region) → ((r : Region) → In r is → LiesIn m (at r.variable) r y u → same_variable (Own g.index) r.variable ≡ false) → LiesInSet m at kind is y u → LiesInSet m at kind (all_iterations tracked g ss ws is) x u
      turn_lies kind [] other l = elim (l.is_one) [ ]
      turn_lies kind (r ∷ is) other l = go l.region l.is_one l.kind l.lies (λ z. turn_lies kind is (λ w j. other w (there j)) z)
        where
          over : MaybeAs r (in_iteration tracked g ss ws r) → r.kind ≡ kind → MatchOption (in_iteration tracked g ss ws r) ⊥ (λ q. LiesIn m (at r.variable) q y u) → LiesInSet m at kind (over_maybe g (in_iteration tracked g ss ws r)) x u
          over = some (in_iteration tracked g ss ws r)
            where
              some : (o : Option Region) → MaybeAs r o → r.kind ≡ kind → MatchOption o ⊥ (λ q. LiesIn m (at r.variable) q y u) → LiesInSet m at kind (over_maybe g o) x u
              some None c e h = absurd h
              some (Some q) c e h = record {
                region = over_loop q g;
                is_one = here;
                kind = c.0 ∙ e;
                lies = loop_has q g m (at q.variable) x a b bg n k y it u (subst (λ (v : Variable). LiesIn m (at v) q y u) (sym c.1) h);
              }

          first : r.kind ≡ kind → LiesIn m (at r.variable) r y u → LiesInSet m at kind (unless_index g r.variable (over_maybe g (in_iteration tracked g ss ws r)) ++ all_iterations tracked g ss ws is) x u
          first e h = off (same_variable (Own g.index) r.variable) (other r here h) (over (iteration_as r) e (iteration_lies r h))
            where
              off : (c : Bool) → c ≡ false → LiesInSet m at kind (over_maybe g (in_iteration tracked g ss ws r)) x u → LiesInSet m at kind ((if c then [] else over_maybe g (in_iteration tracked g ss ws r)) ++ all_iterations tracked g ss ws is) x u
              off true q z = absurd (cc)
              off false q z = record { region = z.region; is_one = in_left z.region (over_maybe g (in_iteration tracked g ss ws r)) (all_iterations tracked g ss ws is) z.is_one; kind = z.kind; lies = z.lies }

          later : LiesInSet m at kind (all_iterations tracked g ss ws is) x u → LiesInSet m at kind (unless_index g r.variable (over_maybe g (in_iteration tracked g ss ws r)) ++ all_iterations tracked g ss ws is) x u
          later z = record { region = z.region; is_one = in_right z.region (unless_index g r.variable (over_maybe g (in_iteration tracked g ss ws r))) (all_iterations tracked g ss ws is) z.is_one; kind = z.kind; lies = z.lies }

          go : (q : Region) → In q (r ∷ is) → q.kind ≡ kind → LiesIn m (at q.variable) q y u → (LiesInSet m at kind is y u → LiesInSet m at kind (all_iterations tracked g ss ws is) x u) → LiesInSet m at kind (unless_index g r.variable (over_maybe g (in_iteration tracked g ss ws r)) ++ all_iterations tracked g ss ws is) x u
          go q here e h ih = first e h
          go q (there i) e h ih = later (ih (record { region = q; is_one = i; kind = e; lies = h }))

    -- ---- what is certain

    -- an iteration before one, whose writes lie in the WRITE regions
    pub record Behind (s : ℤ) (i : ℕ) : Type 0 where
      pub number : ℤ
      pub is_it : number ≡ a +ℤ (s *ℤ pos i)
      pub store : ℕ → ℤ
      pub iteration : Iteration m g x a b number i store
      pub written : ℕ → Bool
      pub within : IsWithinWrites ss m at ws store written

    abbrev all_writes : List Region
    all_writes = scalar Write g.index ∷ ws

    module _ (first all : ℕ → Bool) (s : ℤ) (is_step : g.step ≡ Some s) (behind : (i : ℕ) → i < k → Behind s i) (reach : (v : Variable) → is_overlapped ss all_writes v ≡ false → same_variable (Own g.index) v ≡ false → (phi : ℕ → ℤ) (u : ℕ) → at v phi ≡ Some u → ((i : ℕ) (l : i < k) → (behind i l).written u ≡ false) → first u ≡ true → all u ≡ true) where
      pub iteration_sharp : (r : Region) (v : Variable) → same_variable v r.variable ≡ true → is_overlapped ss all_writes v ≡ false → same_variable (Own g.index) r.variable ≡ false → IsSharp m (at r.variable) r y first → MatchOption (in_iteration tracked g ss ws r) (Unit {0}) (λ q. IsSharp m (at r.variable) q y all)
      iteration_sharp r v like o ni h = go (earlier tracked g (write_of r.variable ws)) refl
        where
          ranged : IsSharp m (at r.variable) (in_range tracked g r) y first
          ranged = ranged_sharp m g x a b bg tracked (at r.variable) r y first h

          beside : is_overlapped ss ws v ≡ false
          beside = (or_parts (is_write_beside ss v (scalar Write g.index)) (is_overlapped ss ws v) o).1

          -- the order does not tell the variable apart from that of the region
          tie : variable_cmp v r.variable ≡ Equal
          tie = cmp_if v r.variable like

          places : at v ≡ at r.variable
          places = by_order v r.variable tie

          off_index : same_variable (Own g.index) v ≡ false
          off_index = ap is_eq (cmp_to_same (Own g.index) v r.variable tie) ∙ ni

          -- what an earlier iteration writes of the variable lies in its WRITE region
          within_here : (i : ℕ) (l : i < k) (p : Point) → AtStart m (behind i l).store p → (u : ℕ) → at r.variable (λ j. p (Phi j)) ≡ Some u → (behind i l).written u ≡ true → MatchOption (write_of r.variable ws) ⊥ (λ w. HoldsSome p w.pieces)
          within_here i l p st u e wr =
              subst (λ z. MatchOption z ⊥ (λ w. HoldsSome p w.pieces)) (write_same v r.variable ws tie)
              ((behind i l).within v beside p st (record { unit = u; there = subst (λ (z : Elements). z (λ j. p (Phi j)) ≡ Some u) (sym places) e; is_so = wr }))

          -- a point of which no earlier write is known
          one : (p : Point) → Accessed (at r.variable) first (λ j. p (Phi j)) → ((i : ℕ) (l : i < k) (u : ℕ) → at r.variable (λ j. p (Phi j)) ≡ Some u → (behind i l).written u ≡ true → ⊥) → Accessed (at r.variable) all (λ j. p (Phi j))
          one p c n = record { unit = c.unit; there = c.there; is_so = reach v o off_index (λ j. p (Phi j)) c.unit (subst (λ (z : Elements). z (λ j. p (Phi j)) ≡ Some c.unit) (sym places) c.there) (λ i l. off ((behind i l).written c.unit) (n i l c.unit c.there)) c.is_so }
            where
              off : (z : Bool) → (z ≡ true → ⊥) → z ≡ false
              off true f = absurd (f refl)
              off false f = refl

          go : (w : Option Region) → earlier tracked g (write_of r.variable ws) ≡ w → MatchOption (less_earlier w ss ws (in_range tracked g r)) (Unit {0}) (λ q. IsSharp m (at r.variable) q y all)
          go None e = λ ex p st c.
              (let q = and_parts ((in_range tracked g r).exact && not (is_touched ss ws r.variable)) (not (any_weak (in_range tracked g r).pieces)) ex in
              let t = and_parts (in_range tracked g r).exact (not (is_touched ss ws r.variable)) q.0 in
              let none = (or_parts (is_some (write_of r.variable ws)) (is_overlapped ss ws r.variable) (not-true (is_touched ss ws r.variable) t.1)).0 in
              one p (ranged t.0 p st c) (λ i l u here_u wr. untouched none i l p st u here_u wr))
            where
              untouched : is_some (write_of r.variable ws) ≡ false → (i : ℕ) (l : i < k) (p : Point) → AtStart m y p → (u : ℕ) → at r.variable (λ j. p (Phi j)) ≡ Some u → (behind i l).written u ≡ true → ⊥
              untouched none i l p st u h wr = off (write_of r.variable ws) none (within_here i l (begun_at m g x a b bg (behind i l).number (behind i l).store p) (starts_at m g x a b bg n k y (behind i l).number i (behind i l).store p it (behind i l).iteration st) u h wr)
                where
                  off : (z : Option Region) → is_some z ≡ false → MatchOption z ⊥ (λ v. HoldsSome (begun_at m g x a b bg (behind i l).number (behind i l).store p) v.pieces) → ⊥
                  off None q d = d
                  off (Some v) q d = absurd (cc)
          go (Some e) h' = both (subtract (in_range tracked g r) e) (subtract_exact (in_range tracked g r) e)
            where
              f : Found r.variable e
              f = found_of r.variable e h'

              steps : f.known.step ≡ s
              steps = same (f.known.step) s (sym f.known.is_step ∙ is_step)
                where
                  same : (c d : ℤ) → Some c ≡ Some d → c ≡ d
                  same c d q = cc

              as_earlier : (i : ℕ) (l : i < k) → Earlier m g x a b bg tracked is_tracked f.write e f.known n k y it i
              as_earlier i l = record { number = (behind i l).number; is_it = (behind i l).is_it ∙ ap (λ c. a +ℤ (c *ℤ pos i)) (sym steps); store = (behind i l).store; iteration = (behind i l).iteration }

              both : (o : Option Region) → MatchOption o (Unit {0}) (λ q. q.exact ≡ true → ((in_range tracked g r).exact ≡ true) × ((p : Point) → HoldsSome p q.pieces → HoldsSome p (in_range tracked g r).pieces × (HoldsSome p e.pieces → ⊥))) → MatchOption o (Unit {0}) (λ q. IsSharp m (at r.variable) q y all)
              both None d = tt
              both (Some q) d = λ ex p st c.
                  (let t = d ex in
                  let w = t.1 p c in
                  one p (ranged t.0 p st w.0) (λ i l u here_u wr. w.1 (earlier_has m g x a b bg tracked is_tracked f.write e f.known n k y it i l (as_earlier i l) p st (described i l p st u here_u wr))))
                where
                  described : (i : ℕ) (l : i < k) (p : Point) → AtStart m y p → (u : ℕ) → at r.variable (λ j. p (Phi j)) ≡ Some u → (behind i l).written u ≡ true → HoldsSome (back_at m g x a b bg tracked is_tracked f.write e f.known n k y it i (as_earlier i l) p) f.write.pieces
                  described i l p st u h wr =
                      subst (λ z. MatchOption z ⊥ (λ w. HoldsSome (back_at m g x a b bg tracked is_tracked f.write e f.known n k y it i (as_earlier i l) p) w.pieces)) f.is_write
                      (within_here i l (back_at m g x a b bg tracked is_tracked f.write e f.known n k y it i (as_earlier i l) p) (back_starts m g x a b bg tracked is_tracked f.write e f.known n k y it i (as_earlier i l) p st) u h wr)

  -- ---- the DO's

  -- an iteration with a number of the range, at whose beginning what is made of each region is so
  pub record Turn (is : List Region) (all : ℕ → Bool) (n : ℤ) (k : ℕ) : Type 0 where
    pub begin : ℕ → ℤ
    pub iteration : Iteration m g x a b n k begin
    pub sharp : (r : Region) → In r is → (v : Variable) → same_variable v r.variable ≡ true → is_overlapped ss (scalar Write g.index ∷ ws) v ≡ false → same_variable (Own g.index) r.variable ≡ false → MatchOption (in_iteration tracked g ss ws r) (Unit {0}) (λ q. IsSharp m (at r.variable) q begin all)

  pub turns_sharp : (is : List Region) (all : ℕ → Bool) → ((s : ℤ) → g.step ≡ Some s → (s ≡ pos 0 → ⊥) × ((n : ℤ) (k : ℕ) → InRange a b s n k → Turn is all n k)) → EachOne (SharpUnless ss m at by_order (scalar Write g.index ∷ ws) x all) (all_iterations tracked g ss ws is)
  turns_sharp [] all h q i = elim i [ ]
  turns_sharp (r ∷ is) all h q i =
      ⊎_elim (λ j. first (same_variable (Own g.index) r.variable) refl (in_iteration tracked g ss ws r) refl (iteration_as r) j) (λ j. turns_sharp is all (λ s e. (let t = h s e in (t.0, λ n k w. less (t.1 n k w)))) q j)
      (in_either q (unless_index g r.variable (over_maybe g (in_iteration tracked g ss ws r))) (all_iterations tracked g ss ws is) i)
    where
      less : {n : ℤ} {k : ℕ} → Turn (r ∷ is) all n k → Turn is all n k
      less t = record { begin = t.begin; iteration = t.iteration; sharp = λ w j. t.sharp w (there j) }

      first : (c : Bool) → same_variable (Own g.index) r.variable ≡ c → (o : Option Region) → in_iteration tracked g ss ws r ≡ o → MaybeAs r o → In q (if c then [] else over_maybe g o) → SharpUnless ss m at by_order (scalar Write g.index ∷ ws) x all q
      first true e o d k j = elim j [ ]
      first false e None d k j = elim j [ ]
      first false e (Some v) d k j = one q j
        where
          made : (w : Variable) → same_variable w r.variable ≡ true → is_overlapped ss (scalar Write g.index ∷ ws) w ≡ false → IsSharp m (at r.variable) (over_loop v g) x all
          made w same off = loop_sharp v g m (at r.variable) x a b all bg (λ s z. (let t = h s z in (t.0, λ n i c. (let y = t.1 n i c in record { begin = y.begin; iteration = y.iteration; sharp = subst (λ (u : Option Region). MatchOption u (Unit {0}) (λ p. IsSharp m (at r.variable) p y.begin all)) d (y.sharp r here w same off e) }))))

          one : (o : Region) → In o (over_loop v g ∷ []) → SharpUnless ss m at by_order (scalar Write g.index ∷ ws) x all o
          one o here = λ w same off. subst (λ (z : Variable). IsSharp m (at z) (over_loop v g) x all) (sym k.1) (made w (subst (λ (z : Variable). same_variable w z ≡ true) k.1 same) off)
          one o (there z) = elim z [ ]
