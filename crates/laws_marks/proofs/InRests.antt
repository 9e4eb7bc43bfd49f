-- What the IN regions of a statement, and of what follows it, say of both.
use Rattle.std.proofs.Common.{◌≡◌, ⊎_elim, ℕ, ℤ, List, [], ◌∷◌, ◌++◌, ◌&&◌, Option, Some, None, Bool, true, false, refl, sym, ◌∙◌, subst, ap}
use Rattle.std.specs.Prelude.{not, MatchOption, if◌then◌else◌, option_to_list}
use Rattle.std.specs.declared.cmp.Ordering.TheVariants.{Equal}
use Rattle.std.proofs.lemmas.Bool.{and_parts, not-true}
use Rattle.affine_systems.specs.declared.row.Var.TheVariants.{Phi}
use Rattle.affine_systems.specs.declared.row.System.{System}
use Rattle.affine_systems.specs.Points.{Point}
use Rattle.f77_ast.specs.declared.variable.Variable.{Variable}
use Rattle.f77_ast.specs.Symbols.{SymbolTree}
use Rattle.preconditions.specs.transformer_algebra.declared.transformer.Transformer.{Transformer}
use Rattle.preconditions.specs.transformer_algebra.Claims.{Scene, AtStart, Does}
use Rattle.preconditions.specs.transformer_algebra.Laws.{In, here, there}
use Rattle.in_out_regions.specs.region_sets.declared.region.Access.{Access}
use Rattle.in_out_regions.specs.region_sets.declared.region.Region.{Region}
use Rattle.in_out_regions.specs.region_sets.Regions.{remade, any_weak}
use Rattle.in_out_regions.specs.region_sets.Trim.{trim}
use Rattle.in_out_regions.specs.region_sets.Subtract.{are_places, less_all, unless_empty, all_left, all_apart, subtract}
use Rattle.in_out_regions.specs.region_sets.Compose.{compose}
use Rattle.in_out_regions.specs.region_sets.Sets.{unite_all}
use Rattle.in_out_regions.specs.region_sets.Lists.{all_composed}
use Rattle.hull_projection.specs.Unions.{HoldsSome}
use Rattle.in_out_regions.specs.region_sets.Claims.{Elements, Accessed, LiesIn, LiesInSet, IsSharp, IsSharpSet, Places, AreByOrder}
use Rattle.in_out_regions.proofs.RegionSets.SetLaws.{gathered_units, gathered_sharp}
use Rattle.in_out_regions.proofs.RegionSets.StepLaws.{in_either, in_map, of_map}
use Rattle.in_out_regions.proofs.RegionSets.PieceLaws.{compose_moves, compose_sharp}
use Rattle.in_out_regions.proofs.RegionSets.SubtractLaws.{subtract_keeps, subtract_exact}
use Rattle.in_out_regions.specs.Writes.{write_of, is_overlapped}
use Rattle.in_out_regions.specs.Lists.{less_write, all_unwritten, unless_overlapped, all_unless_overlapped, before_rest}
use Rattle.in_out_regions.specs.ListClaims.{AreWritten, IsDescribed, IsWithinWrites, IsFirstOf}
use Rattle.laws_marks.proofs.InGathering.{EachOne, gathered_so}
use Rattle.preconditions.proofs.TransformerAlgebra.Members.{in_left, in_right}
use Rattle.in_out_regions.proofs.WriteLaws.{write_found, write_same}
use Rattle.f77_ast.specs.Variables.{variable_cmp, same_variable}
use Rattle.f77_ast.proofs.SameLaws.{cmp_if, same_itself}

-- ---- the WRITE region of a variable

module _ (ss : List SymbolTree) (m : Scene) (at : Places) (by_order : AreByOrder at) where
  -- ---- what is exact no more

  pub overlapped_lies : (ws rs : List Region) (k : Access) (x : ℕ → ℤ) (u : ℕ) → LiesInSet m at k rs x u → LiesInSet m at k (all_unless_overlapped ss ws rs) x u
  overlapped_lies ws rs k x u l = record {
    region = unless_overlapped ss ws l.region;
    is_one = in_map (unless_overlapped ss ws) l.region rs l.is_one;
    kind = l.kind;
    lies = record { phi = l.lies.phi; there = l.lies.there; described = l.lies.described };
  }

  -- sharp where nothing is written that shares units with the variable, or with one that the order does not tell apart from it
  abbrev pub SharpUnless : List Region → (ℕ → ℤ) → (ℕ → Bool) → Region → Type 0
  SharpUnless ws x c r = (v : Variable) → same_variable v r.variable ≡ true → is_overlapped ss ws v ≡ false → IsSharp m (at r.variable) r x c

  pub overlapped_sharp : (ws rs : List Region) (x : ℕ → ℤ) (c : ℕ → Bool) → EachOne (SharpUnless ws x c) rs → IsSharpSet m at (all_unless_overlapped ss ws rs) x (λ k. c)
  overlapped_sharp ws rs x c h = of_map (unless_overlapped ss ws) (λ (r : Region). IsSharp m (at r.variable) r x c) rs one
    where
      one : (r : Region) → In r rs → IsSharp m (at r.variable) (unless_overlapped ss ws r) x c
      one r i e p st g =
          let q = and_parts (r.exact && not (is_overlapped ss ws r.variable)) (not (any_weak r.pieces)) e in
          let z = and_parts r.exact (not (is_overlapped ss ws r.variable)) q.0 in
          h r i r.variable (same_itself r.variable) (not-true (is_overlapped ss ws r.variable) z.1) z.0 p st g

  gathered_unless : (ws rs : List Region) (x : ℕ → ℤ) (c : ℕ → Bool) → EachOne (SharpUnless ws x c) rs → EachOne (SharpUnless ws x c) (unite_all rs)
  gathered_unless ws rs x c h r i v s o = gathered_so m at by_order x c v rs (λ q j t. h q j v t o) r i s

  pub united_unless : (ws rs : List Region) (x : ℕ → ℤ) (c : ℕ → Bool) → EachOne (SharpUnless ws x c) rs → IsSharpSet m at (all_unless_overlapped ss ws (unite_all rs)) x (λ k. c)
  united_unless ws rs x c h = overlapped_sharp ws (unite_all rs) x c (gathered_unless ws rs x c h)

  -- ---- less what is certainly written

  from_option : {A : Type 0} (o : Option Region) (qs : List Region) (r : Region) → In r (option_to_list o ++ qs) → ((w : Region) → o ≡ Some w → w ≡ r → A) → (In r qs → A) → A
  from_option None qs r i f g = g i
  from_option (Some w) qs r here f g = f w refl refl
  from_option (Some w) qs r (there i) f g = g i

  in_option : (o : Option Region) (qs : List Region) (r : Region) → o ≡ Some r → In r (option_to_list o ++ qs)
  in_option None qs r e = absurd (cc)
  in_option (Some w) qs r e = let same : w ≡ r = cc in subst (λ z. In z (w ∷ qs)) same here

  abbrev InOption : Access → Variable → (ℕ → ℤ) → ℕ → Option Region → Type 0
  InOption k v x u o = MatchOption o ⊥ (λ r. (r.kind ≡ k) × (r.variable ≡ v) × LiesIn m (at r.variable) r x u)

  kept_as : (a b : Region) → MatchOption (subtract a b) (Unit {0}) (λ r. (r.kind ≡ a.kind) × (r.variable ≡ a.variable))
  kept_as a b = go (b.exact && are_places b.pieces)
    where
      one : (e : Bool) (ps : List System) → MatchOption (unless_empty a e ps) (Unit {0}) (λ r. (r.kind ≡ a.kind) × (r.variable ≡ a.variable))
      one e [] = tt
      one e (p ∷ ps) = (refl, refl)

      go : (c : Bool) → MatchOption (if c then all_left a (less_all a.pieces b.pieces) else Some (remade a (a.exact && all_apart a.pieces b.pieces) a.pieces)) (Unit {0}) (λ r. (r.kind ≡ a.kind) × (r.variable ≡ a.variable))
      go true = one (a.exact && (trim (less_all a.pieces b.pieces)).exact) (trim (less_all a.pieces b.pieces)).pieces
      go false = (refl, refl)

  less_lies : (ws : List Region) (written : ℕ → Bool) (x : ℕ → ℤ) (u : ℕ) → AreWritten m at ws x written → written u ≡ false → (r : Region) → LiesIn m (at r.variable) r x u → InOption r.kind r.variable x u (less_write (write_of r.variable ws) r)
  less_lies ws written x u h n r l = go (write_of r.variable ws) refl
    where
      go : (o : Option Region) → write_of r.variable ws ≡ o → InOption r.kind r.variable x u (less_write o r)
      go None e = (refl, refl, l)
      go (Some w) e =
          let f = write_found r.variable ws w e in
          let same : at r.variable ≡ at w.variable = by_order r.variable w.variable f.order in
          both (subtract r w) (kept_as r w) (subtract_keeps r w m (at r.variable) x written (subst (λ (a : Elements). IsSharp m a w x written) (sym same) (h w f.is_one f.kind)) u n l)
        where
          both : (o : Option Region) → MatchOption o (Unit {0}) (λ q. (q.kind ≡ r.kind) × (q.variable ≡ r.variable)) → MatchOption o ⊥ (λ q. LiesIn m (at r.variable) q x u) → InOption r.kind r.variable x u o
          both None a b = b
          both (Some q) a b = (a.0, a.1, subst (λ (e : Elements). LiesIn m e q x u) (ap at (sym a.1)) b)

  pub unwritten_lies : (ws : List Region) (written : ℕ → Bool) (x : ℕ → ℤ) (u : ℕ) → AreWritten m at ws x written → written u ≡ false → (k : Access) (rs : List Region) → LiesInSet m at k rs x u → LiesInSet m at k (all_unwritten ws rs) x u
  unwritten_lies ws written x u h n k [] l = elim l.is_one [ ]
  unwritten_lies ws written x u h n k (r ∷ rs) l = go l.region l.is_one l.kind l.lies (λ z. unwritten_lies ws written x u h n k rs z)
    where
      later : LiesInSet m at k (all_unwritten ws rs) x u → LiesInSet m at k (option_to_list (less_write (write_of r.variable ws) r) ++ all_unwritten ws rs) x u
      later q = record { region = q.region; is_one = in_right q.region (option_to_list (less_write (write_of r.variable ws) r)) (all_unwritten ws rs) q.is_one; kind = q.kind; lies = q.lies }

      first : r.kind ≡ k → (o : Option Region) → InOption r.kind r.variable x u o → LiesInSet m at k (option_to_list o ++ all_unwritten ws rs) x u
      first e None q = absurd q
      first e (Some w) q = record { region = w; is_one = here; kind = q.0 ∙ e; lies = q.2 }

      go : (q : Region) → In q (r ∷ rs) → q.kind ≡ k → LiesIn m (at q.variable) q x u → (LiesInSet m at k rs x u → LiesInSet m at k (all_unwritten ws rs) x u) → LiesInSet m at k (option_to_list (less_write (write_of r.variable ws) r) ++ all_unwritten ws rs) x u
      go q here e b ih = first e (less_write (write_of r.variable ws) r) (less_lies ws written x u h n r b)
      go q (there i) e b ih = later (ih (record { region = q; is_one = i; kind = e; lies = b }))

  -- what is left is read first and not written before
  less_sharp : (ws : List Region) (x : ℕ → ℤ) (written later all : ℕ → Bool) → IsWithinWrites ss m at ws x written → ((u : ℕ) → written u ≡ false → later u ≡ true → all u ≡ true) → (r : Region) → IsSharp m (at r.variable) r x later →
      MatchOption (less_write (write_of r.variable ws) r) (Unit {0}) (λ q. SharpUnless ws x all q)
  less_sharp ws x written later all w f r h = go (write_of r.variable ws) refl
    where
      -- a point of which no write is known
      one : (p : Point) → AtStart m x p → (v : Variable) → same_variable v r.variable ≡ true → is_overlapped ss ws v ≡ false → (IsDescribed r.variable ws p → ⊥) → Accessed (at r.variable) later (λ k. p (Phi k)) → Accessed (at r.variable) all (λ k. p (Phi k))
      one p st v s o n a = record { unit = a.unit; there = a.there; is_so = f a.unit (off (written a.unit) refl) a.is_so }
        where
          tie : variable_cmp v r.variable ≡ Equal
          tie = cmp_if v r.variable s

          -- it would be described
          known : written a.unit ≡ true → IsDescribed v ws p
          known e = w v o p st (subst (λ (z : Elements). Accessed z written (λ k. p (Phi k))) (sym (by_order v r.variable tie)) (record { unit = a.unit; there = a.there; is_so = e }))

          off : (b : Bool) → written a.unit ≡ b → b ≡ false
          off true e = absurd (n (subst (λ z. MatchOption z ⊥ (λ y. HoldsSome p y.pieces)) (write_same v r.variable ws tie) (known e)))
          off false e = refl

      go : (o : Option Region) → write_of r.variable ws ≡ o → MatchOption (less_write o r) (Unit {0}) (λ q. SharpUnless ws x all q)
      go None e = λ v s o i p st g. one p st v s o (λ d. subst (λ z. MatchOption z ⊥ (λ y. HoldsSome p y.pieces)) e d) (h i p st g)
      go (Some v) e = both (subtract r v) (kept_as r v) (subtract_exact r v)
        where
          both : (o : Option Region) → MatchOption o (Unit {0}) (λ q. (q.kind ≡ r.kind) × (q.variable ≡ r.variable)) → MatchOption o (Unit {0}) (λ q. q.exact ≡ true → (r.exact ≡ true) × ((p : Point) → HoldsSome p q.pieces → HoldsSome p r.pieces × (HoldsSome p v.pieces → ⊥))) → MatchOption o (Unit {0}) (λ q. SharpUnless ws x all q)
          both None a b = tt
          both (Some q) a b = λ u same o i p st g.
              (let t = b i in
              let s = t.1 p g in
              let same' : same_variable u r.variable ≡ true = subst (λ (z : Variable). same_variable u z ≡ true) a.1 same in
              subst (λ (z : Elements). Accessed z all (λ k. p (Phi k))) (ap at (sym a.1)) (one p st u same' o (λ d. s.1 (subst (λ z. MatchOption z ⊥ (λ y. HoldsSome p y.pieces)) e d)) (h t.0 p st s.0)))

  unwritten_sharp : (ws : List Region) (x : ℕ → ℤ) (written later all : ℕ → Bool) → IsWithinWrites ss m at ws x written → ((u : ℕ) → written u ≡ false → later u ≡ true → all u ≡ true) → (rs : List Region) → IsSharpSet m at rs x (λ k. later) → EachOne (SharpUnless ws x all) (all_unwritten ws rs)
  unwritten_sharp ws x written later all w f [] h r i = elim i [ ]
  unwritten_sharp ws x written later all w f (r ∷ rs) h q i =
      from_option (less_write (write_of r.variable ws) r) (all_unwritten ws rs) q i
      (λ v e same. subst (λ z. SharpUnless ws x all z) same (of_some (less_write (write_of r.variable ws) r) v e (less_sharp ws x written later all w f r (h r here))))
      (λ j. unwritten_sharp ws x written later all w f rs (λ z n. h z (there n)) q j)
    where
      of_some : (o : Option Region) (v : Region) → o ≡ Some v → MatchOption o (Unit {0}) (λ z. SharpUnless ws x all z) → SharpUnless ws x all v
      of_some o v e k = subst (λ z. MatchOption z (Unit {0}) (λ y. SharpUnless ws x all y)) e k

  -- ---- both

  module _ (is ws rest : List Region) (t : Transformer) where
    abbrev moved : List Region
    moved = unite_all (all_composed t rest)

    -- what is read first in the statement
    pub before_lies : (k : Access) (x : ℕ → ℤ) (u : ℕ) → LiesInSet m at k is x u → LiesInSet m at k (before_rest ss is ws t rest) x u
    before_lies k x u l =
        overlapped_lies ws (unite_all (is ++ all_unwritten ws moved)) k x u
        (gathered_units (is ++ all_unwritten ws moved) m at by_order k x u (record { region = l.region; is_one = in_left l.region is (all_unwritten ws moved) l.is_one; kind = l.kind; lies = l.lies }))

    -- what is not written in it, and read first after it
    pub after_lies : (k : Access) (x y : ℕ → ℤ) (written : ℕ → Bool) (u : ℕ) → Does m t x y → AreWritten m at ws x written → written u ≡ false → LiesInSet m at k rest y u → LiesInSet m at k (before_rest ss is ws t rest) x u
    after_lies k x y written u d h n l =
        let c : LiesInSet m at k (all_composed t rest) x u = record {
          region = compose l.region t;
          is_one = in_map (λ (q : Region). compose q t) l.region rest l.is_one;
          kind = l.kind;
          lies = compose_moves l.region t m (at l.region.variable) x y d u l.lies;
        } in
        let v = unwritten_lies ws written x u h n k moved (gathered_units (all_composed t rest) m at by_order k x u c) in
        overlapped_lies ws (unite_all (is ++ all_unwritten ws moved)) k x u
        (gathered_units (is ++ all_unwritten ws moved) m at by_order k x u (record { region = v.region; is_one = in_right v.region is (all_unwritten ws moved) v.is_one; kind = v.kind; lies = v.lies }))

    pub both_sharp : (x y : ℕ → ℤ) (first written later all : ℕ → Bool) → Does m t x y → IsSharpSet m at is x (λ k. first) → IsWithinWrites ss m at ws x written → IsSharpSet m at rest y (λ k. later) → IsFirstOf first written later all → IsSharpSet m at (before_rest ss is ws t rest) x (λ k. all)
    both_sharp x y first written later all d s w r f =
        united_unless ws (is ++ all_unwritten ws moved) x all
        (λ q i. ⊎_elim (λ j. now q j) (λ j. unwritten_sharp ws x written later all w f.after moved back q j) (in_either q is (all_unwritten ws moved) i))
      where
        now : (q : Region) → In q is → SharpUnless ws x all q
        now q j v t o e p st g = (let a = s q j e p st g in record { unit = a.unit; there = a.there; is_so = f.at_once a.unit a.is_so })

        back : IsSharpSet m at (unite_all (all_composed t rest)) x (λ k. later)
        back = gathered_sharp (all_composed t rest) m at by_order x (λ k. later) (of_map (λ (q : Region). compose q t) (λ (q : Region). IsSharp m (at q.variable) q x later) rest (λ q i. compose_sharp q t m (at q.variable) x y d later (r q i)))
