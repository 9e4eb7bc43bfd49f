-- What is used of WRITE regions: a unit that lies in one of them, and in a region of what may be read later, lies in it.
use Rattle.std.proofs.Common.{◌≡◌, ⊎_elim, ℕ, ℤ, List, [], ◌∷◌, ◌++◌, map, Option, Some, None, Bool, true, false, refl, sym, ap, ◌∙◌, subst, true≢false}
use Rattle.std.specs.Prelude.{if◌then◌else◌, MatchOption}
use Rattle.std.specs.Ordering.{is_eq}
use Rattle.std.proofs.lemmas.Bool.{or_left, or_right}
use Rattle.affine_systems.specs.declared.row.Var.{Var}
use Rattle.affine_systems.specs.declared.row.Var.TheVariants.{Cell, Exit, Phi, Aux}
use Rattle.affine_systems.specs.declared.row.System.{System}
use Rattle.affine_systems.specs.Calls.{meet}
use Rattle.affine_systems.specs.Points.{Point}
use Rattle.affine_systems.proofs.CallLaws.{meet_holds}
use Rattle.f77_ast.specs.Store.{Store}
use Rattle.f77_ast.specs.Writes.{Locks}
use Rattle.f77_ast.specs.declared.variable.Variable.{Variable}
use Rattle.f77_ast.specs.Symbols.{SymbolTree}
use Rattle.f77_ast.specs.Shared.{overlap}
use Rattle.affine_forms.specs.Claims.{numbers_of}
use Rattle.preconditions.specs.transformer_algebra.Laws.{In, here, there}
use Rattle.in_out_regions.specs.region_sets.declared.region.Access.TheVariants.{Write, Out}
use Rattle.in_out_regions.specs.region_sets.declared.region.Region.{Region}
use Rattle.in_out_regions.specs.region_sets.Regions.{region}
use Rattle.in_out_regions.specs.region_sets.Trim.{trim}
use Rattle.in_out_regions.specs.region_sets.Unite.{unite}
use Rattle.in_out_regions.specs.region_sets.Naming.{in_rows}
use Rattle.in_out_regions.specs.region_sets.Claims.{HasSubscripts, AreNumbers, DescribedBy, LiesIn, LiesInSet}
use Rattle.in_out_regions.proofs.RegionSets.DescribedLaws.{stored, none_by}
use Rattle.in_out_regions.proofs.RegionSets.TrimLaws.{described_within, trim_by}
use Rattle.in_out_regions.proofs.RegionSets.NameLaws.{rows_agree}
use Rattle.in_out_regions.proofs.RegionSets.StepLaws.{in_map}
use Rattle.in_out_regions.specs.Kinds.{is_write}
use Rattle.loop_marker.specs.out_regions.Used.{as_out, is_used_beside, joined, used_joined, used_in, each_met, unless_empty, met_with, used_of, if_write, used}
use Rattle.loop_marker.specs.out_regions.Lists.{writes}
use Rattle.laws_analyses.specs.Regions.Settings.{scene}
use Rattle.laws_marks.specs.InFrames.{Frame, elements_in, rank}
use Rattle.laws_marks.specs.InUnits.{UnitsFit, IsNarrow}
use Rattle.laws_marks.proofs.InUnique.{itself}
use Rattle.laws_marks.proofs.InWithin.{resubscripted}
use Rattle.laws_marks.specs.OutShown.{LiesAs}
use Rattle.in_out_regions.proofs.RegionSets.UniteLaws.{unite_has}
use Rattle.f77_ast.specs.Variables.{same_variable}
use Rattle.preconditions.proofs.TransformerAlgebra.Members.{in_left, in_right}
use Rattle.in_out_regions.proofs.WriteLaws.{write_if}

-- ---- lists of regions

beside_by : (ss : List SymbolTree) (us : List Region) (v : Variable) (o : Region) → In o us → overlap ss o.variable v ≡ true → is_used_beside ss us v ≡ true
beside_by ss [] v o i e = elim i [ ]
beside_by ss (u ∷ us) v o here e = or_left (overlap ss o.variable v) (is_used_beside ss us v) e
beside_by ss (u ∷ us) v o (there i) e = or_right (overlap ss u.variable v) (is_used_beside ss us v) (beside_by ss us v o i e)

same_is : (v w : Variable) → v ≡ w → same_variable v w ≡ true
same_is v w e = subst (λ (z : Variable). same_variable v z ≡ true) e (ap is_eq (itself v))

pub write_in : (rs : List Region) (w : Region) → In w rs → w.kind ≡ Write → In w (writes rs)
write_in [] w i e = elim i [ ]
write_in (r ∷ rs) w here e = subst (λ b. In w (if b then w ∷ writes rs else writes rs)) (sym (ap is_write e)) here
write_in (r ∷ rs) w (there i) e = go (is_write r.kind) (write_in rs w i e)
  where
    go : (b : Bool) → In w (writes rs) → In w (if b then r ∷ writes rs else writes rs)
    go true j = there j
    go false j = j

pub of_writes : (P : Region → Type 0) (rs : List Region) → ((r : Region) → In r rs → r.kind ≡ Write → P r) → (w : Region) → In w (writes rs) → P w
of_writes P [] h w i = elim i [ ]
of_writes P (r ∷ rs) h w i = go (is_write r.kind) refl i (λ j. of_writes P rs (λ q l. h q (there l)) w j)
  where
    front : (q : Region) → In q (r ∷ writes rs) → P r → (In q (writes rs) → P q) → P q
    front q here p f = p
    front q (there j) p f = f j

    go : (b : Bool) → is_write r.kind ≡ b → In w (if b then r ∷ writes rs else writes rs) → (In w (writes rs) → P w) → P w
    go true e j ih = front w j (h r here (write_if r.kind e)) ih
    go false e j ih = ih j

-- ---- what is used of a variable, united

-- a region has the subscripts
abbrev HasOne : (ℕ → ℤ) → (ℕ → ℤ) → Option Region → Type 0
HasOne n phi o = MatchOption o ⊥ (λ r. DescribedBy r.pieces n phi)

joined_first : (o : Option Region) (u : Region) (n phi : ℕ → ℤ) → HasOne n phi o → DescribedBy (joined o u).pieces n phi
joined_first None u n phi h = absurd h
joined_first (Some r) u n phi h = described_within n phi r.pieces (unite r (as_out u)).pieces (unite_has r (as_out u)).0 h

joined_last : (o : Option Region) (u : Region) (n phi : ℕ → ℤ) → DescribedBy u.pieces n phi → DescribedBy (joined o u).pieces n phi
joined_last None u n phi d = d
joined_last (Some r) u n phi d = described_within n phi u.pieces (unite r (as_out u)).pieces (unite_has r (as_out u)).1 d

used_first : (v : Variable) (o : Option Region) (us : List Region) (n phi : ℕ → ℤ) → HasOne n phi o → HasOne n phi (used_joined v o us)
used_first v o [] n phi h = h
used_first v o (u ∷ us) n phi h = go (same_variable v u.variable) (used_first v (Some (joined o u)) us n phi (joined_first o u n phi h)) (used_first v o us n phi h)
  where
    go : (b : Bool) → HasOne n phi (used_joined v (Some (joined o u)) us) → HasOne n phi (used_joined v o us) → HasOne n phi (if b then used_joined v (Some (joined o u)) us else used_joined v o us)
    go true h k = h
    go false h k = k

used_has : (v : Variable) (o : Option Region) (us : List Region) (q : Region) (n phi : ℕ → ℤ) → In q us → v ≡ q.variable → DescribedBy q.pieces n phi → HasOne n phi (used_joined v o us)
used_has v o [] q n phi i e d = elim i [ ]
used_has v o (u ∷ us) q n phi here e d =
    subst (λ b. HasOne n phi (if b then used_joined v (Some (joined o q)) us else used_joined v o us)) (sym (same_is v q.variable e)) (used_first v (Some (joined o q)) us n phi (joined_last o q n phi d))
used_has v o (u ∷ us) q n phi (there i) e d = go (same_variable v u.variable) (used_has v (Some (joined o u)) us q n phi i e d) (used_has v o us q n phi i e d)
  where
    go : (b : Bool) → HasOne n phi (used_joined v (Some (joined o u)) us) → HasOne n phi (used_joined v o us) → HasOne n phi (if b then used_joined v (Some (joined o u)) us else used_joined v o us)
    go true h k = h
    go false h k = k

in_met : (c d : System) (ss ts : List System) → In c ss → In d ts → In (meet c d) (each_met ss ts)
in_met c d [] ts i j = elim i [ ]
in_met c d (s ∷ ss) ts here j = in_left (meet c d) (map (λ t. meet c t) ts) (each_met ss ts) (in_map (λ t. meet c t) d ts j)
in_met c d (s ∷ ss) ts (there i) j = in_right (meet c d) (map (λ t. meet s t) ts) (each_met ss ts) (in_met c d ss ts i j)

-- ---- what is used

module _ (k : Frame) (locked : Locks) (units : UnitsFit k locked) (us : List Region) (s : Store) where
  -- each piece names the subscripts of the variable alone
  abbrev pub AreNarrow : Region → Type 0
  AreNarrow w = (p : System) → In p w.pieces → IsNarrow (rank k.ks k.g k.m.symbols w.variable) p

  module _ (w : Region) (narrow : AreNarrow w) (u : ℕ) (free : locked u ≡ None) (l : LiesIn (scene k.base) (elements_in k w.variable) w (numbers_of s) u) (o : LiesInSet (scene k.base) (elements_in k) Out us (numbers_of s) u) where
    module _ (q : w.variable ≡ o.region.variable) where
      there_too : elements_in k w.variable o.lies.phi ≡ Some u
      there_too = subst (λ (v : Variable). elements_in k v o.lies.phi ≡ Some u) (sym q) o.lies.there

      agree : (p : Point) → HasSubscripts o.lies.phi p → (d : System) → In d w.pieces → (z : Var) → in_rows z d.rows ≡ true → resubscripted p l.phi z ≡ p z
      agree p ph d j (Cell c) n = refl
      agree p ph d j (Exit c) n = refl
      agree p ph d j (Phi i) n = (let b = narrow d j i n in units.once w.variable l.phi o.lies.phi u l.there there_too i b.0 b.1 ∙ sym (ph i))
      agree p ph d j (Aux c) n = refl

      -- numbers of all cells
      abbrev AreAll : (ℕ → ℤ) → Type 0
      AreAll n = AreNumbers (scene k.base) (numbers_of s) n

      abbrev units_now : ℕ → ℤ
      units_now = stored (scene k.base) (numbers_of s)

      met_by : (n : ℕ → ℤ) → DescribedBy w.pieces n l.phi → (ts : List System) → DescribedBy ts n o.lies.phi → DescribedBy (each_met w.pieces ts) n o.lies.phi
      met_by n c ts d = record {
        piece = meet c.piece d.piece;
        is_one = in_met c.piece d.piece w.pieces ts c.is_one d.is_one;
        holds = λ p h ph. meet_holds p c.piece d.piece (
          rows_agree c.piece.rows (resubscripted p l.phi) p (agree p ph c.piece c.is_one) (c.holds (resubscripted p l.phi) (λ j. h j) (λ j. refl)),
          d.holds p h ph,
        );
      }

      kept : (ss : List System) → ((n : ℕ → ℤ) → AreAll n → DescribedBy ss n o.lies.phi) → LiesAs k w.variable (unless_empty w ss) s u
      kept [] h = none_by units_now o.lies.phi (h units_now (λ c t. refl))
      kept (c ∷ ss) h = record { region = region w.variable Out false (c ∷ ss); is_one = here; kind = refl; same = refl; lies = record { phi = o.lies.phi; there = there_too; described = h } }

      met_some : (v : Option Region) → ((n : ℕ → ℤ) → AreAll n → HasOne n o.lies.phi v) → LiesAs k w.variable (met_with w v) s u
      met_some None i = absurd (i units_now (λ c t. refl))
      met_some (Some v) i =
          kept (trim (each_met w.pieces v.pieces)).pieces
          (λ n a. trim_by (each_met w.pieces v.pieces) n o.lies.phi (met_by n (l.described n a) v.pieces (i n a)))

      met : LiesAs k w.variable (met_with w (used_in w.variable us)) s u
      met = met_some (used_in w.variable us) (λ n a. used_has w.variable None us o.region n o.lies.phi o.is_one q (o.lies.described n a))

    used_one : LiesAs k w.variable (used_of k.m.symbols us w) s u
    used_one = go (is_used_beside k.m.symbols us w.variable) refl
      where
        go : (b : Bool) → is_used_beside k.m.symbols us w.variable ≡ b → LiesAs k w.variable (if b then as_out w ∷ [] else met_with w (used_in w.variable us)) s u
        go true e = record { region = as_out w; is_one = here; kind = refl; same = refl; lies = record { phi = l.phi; there = l.there; described = l.described } }
        go false e = ⊎_elim met (λ c. absurd (true≢false (sym (beside_by k.m.symbols us w.variable o.region o.is_one c) ∙ e))) (units.apart w.variable o.region.variable l.phi o.lies.phi u l.there o.lies.there free)

  as_left : (v : Variable) (rs qs : List Region) (u : ℕ) → LiesAs k v rs s u → LiesAs k v (rs ++ qs) s u
  as_left v rs qs u l = record { region = l.region; is_one = in_left l.region rs qs l.is_one; kind = l.kind; same = l.same; lies = l.lies }

  as_right : (v : Variable) (rs qs : List Region) (u : ℕ) → LiesAs k v qs s u → LiesAs k v (rs ++ qs) s u
  as_right v rs qs u l = record { region = l.region; is_one = in_right l.region rs qs l.is_one; kind = l.kind; same = l.same; lies = l.lies }

  pub used_lies : (ws : List Region) (w : Region) → In w ws → w.kind ≡ Write → AreNarrow w → (u : ℕ) → locked u ≡ None → LiesIn (scene k.base) (elements_in k w.variable) w (numbers_of s) u → LiesInSet (scene k.base) (elements_in k) Out us (numbers_of s) u → LiesAs k w.variable (used k.m.symbols us ws) s u
  used_lies [] w i e n u free l o = elim i [ ]
  used_lies (q ∷ ws) w here e n u free l o = as_left w.variable (if_write k.m.symbols us w) (used k.m.symbols us ws) u (subst (λ b. LiesAs k w.variable (if b then used_of k.m.symbols us w else []) s u) (sym (ap is_write e)) (used_one w n u free l o))
  used_lies (q ∷ ws) w (there i) e n u free l o = as_right w.variable (if_write k.m.symbols us q) (used k.m.symbols us ws) u (used_lies ws w i e n u free l o)

  -- of whatever variable
  pub used_set : (ws : List Region) → ((w : Region) → In w ws → w.kind ≡ Write → AreNarrow w) → (u : ℕ) → locked u ≡ None → LiesInSet (scene k.base) (elements_in k) Write ws (numbers_of s) u → LiesInSet (scene k.base) (elements_in k) Out us (numbers_of s) u → LiesInSet (scene k.base) (elements_in k) Out (used k.m.symbols us ws) (numbers_of s) u
  used_set ws n u free l o = (let h = used_lies ws l.region l.is_one l.kind (n l.region l.is_one l.kind) u free l.lies o in record { region = h.region; is_one = h.is_one; kind = h.kind; lies = h.lies })
