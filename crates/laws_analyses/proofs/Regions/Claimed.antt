-- What sets show of a run is what is claimed of its execution.
use Rattle.std.proofs.Common.{◌≡◌, inl, inr, ℕ, ℤ, List, [], ◌∷◌, ◌||◌, ◌&&◌, nat_eq, length, Some, Bool, true, false, refl, sym, ap, ◌∙◌, subst, true≢false}
use Rattle.std.specs.Prelude.{not}
use Rattle.std.specs.List.{list_any}
use Rattle.std.proofs.lemmas.Bool.{and_parts, not-true, or_parts, or_from}
use Rattle.f77_ast.specs.Store.{Store}
use Rattle.f77_ast.specs.Steps.{Spot}
use Rattle.f77_ast.specs.Runs.{Event, Ran, Answer, Gave, Broke, store_of}
use Rattle.f77_ast.specs.Places.{element_in}
use Rattle.affine_systems.specs.declared.row.Var.TheVariants.{Phi}
use Rattle.f77_ast.specs.Plans.{Flow, Normal, Jump, Returned, Stopped}
use Rattle.f77_ast.specs.Executions.{AtEnd, AtEndOf}
use Rattle.f77_ast.specs.declared.variable.Variable.{Variable}
use Rattle.f77_ast.specs.declared.variable.Variable.TheVariants.{Own, Block, Saved}
use Rattle.call_graph.specs.declared.graph.Graph.{Graph}
use Rattle.f77_ast.specs.Shared.{symbol_at}
use Rattle.f77_meaning.specs.Areas.{is_own_unit}
use Rattle.f77_meaning.specs.Modules.{Known, all_lost}
use Rattle.f77_meaning.specs.Linked.{numbering}
use Rattle.f77_meaning.specs.Occurrences.{Occurrence, is_normal}
use Rattle.f77_meaning.specs.Claims.{place_of, block_place, saved_place, LiesInSome, AreExact, reads, writes}
use Rattle.f77_meaning.specs.Claims as claims
use Rattle.f77_meaning.specs.Accesses as meaning
use Rattle.affine_forms.specs.Scalars.{is_cell}
use Rattle.affine_forms.specs.Claims.{numbers_of}
use Rattle.preconditions.specs.transformer_algebra.Laws.{In, here, there}
use Rattle.in_out_regions.specs.region_sets.declared.region.Access.{Access}
use Rattle.in_out_regions.specs.region_sets.declared.region.Access.TheVariants.{Read, Write}
use Rattle.in_out_regions.specs.region_sets.declared.region.Access.TheVariants as access
use Rattle.in_out_regions.specs.region_sets.declared.region.Region.{Region}
use Rattle.in_out_regions.specs.region_sets.Claims.{LiesIn, LiesInSet, IsSharp}
use Rattle.laws_analyses.specs.Regions.Claims.{elements_of, as_region, before_if, is_read, is_write, regions_in, listed, PointsAre, SetHolds}
use Rattle.laws_analyses.specs.Regions.Settings.{Setting, scene, is_stored, elements_if, is_told, elements_at}
use Rattle.laws_analyses.specs.Regions.Shown.{accessed, is_lost, is_hidden, Holds, Sharp, Finally}
use Rattle.laws_analyses.proofs.Regions.Traces.{both_off}
use Rattle.laws_analyses.proofs.Regions.ClaimLaws.{element_has, lies_claimed, sharp_claimed}

-- ---- what is visible of an execution is not hidden in what it does

lost_none : (ks : List Known) (g : Graph) (x : Occurrence) (u : ℕ) (qs : List Known) → list_any (λ k. (meaning.is_entry_of k.read.name x.spot || meaning.is_entered k.read.name x.ran.trace) && list_any (λ v. nat_eq v u) (all_lost (numbering ks g) k.read.name k.symbols k.symbols)) qs ≡ false → list_any (λ k. meaning.is_entered k.read.name x.ran.trace && list_any (λ v. nat_eq v u) (all_lost (numbering ks g) k.read.name k.symbols k.symbols)) qs ≡ false
lost_none ks g x u [] h = refl
lost_none ks g x u (q ∷ qs) h =
    let l = list_any (λ v. nat_eq v u) (all_lost (numbering ks g) q.read.name q.symbols q.symbols) in
    let e = meaning.is_entered q.read.name x.ran.trace in
    let F : Known → Bool = λ k. (meaning.is_entry_of k.read.name x.spot || meaning.is_entered k.read.name x.ran.trace) && list_any (λ v. nat_eq v u) (all_lost (numbering ks g) k.read.name k.symbols k.symbols) in
    let G : Known → Bool = λ k. meaning.is_entered k.read.name x.ran.trace && list_any (λ v. nat_eq v u) (all_lost (numbering ks g) k.read.name k.symbols k.symbols) in
    let o = or_parts (F q) (list_any F qs) h in
    or_from (e && l) (list_any G qs) (both_off (meaning.is_entry_of q.read.name x.spot) e l o.0).1 (lost_none ks g x u qs o.1)

pub visible_seen : (ks : List Known) (g : Graph) (x : Occurrence) (u : ℕ) → meaning.is_visible ks g x u ≡ true → is_hidden ks g x.ran.trace u ≡ false
visible_seen ks g x u v =
    let q = and_parts (not (is_own_unit (numbering ks g) u)) (not (meaning.is_passing ks g x u)) v in
    or_from (is_own_unit (numbering ks g) u) (is_lost ks g x.ran.trace u) (not-true (is_own_unit (numbering ks g) u) q.0) (lost_none ks g x u ks (not-true (meaning.is_passing ks g x u) q.1))

module _ (k : Setting) (p : Spot) (s : Store) (q : Ran Flow) (later : List Event) where
  abbrev x : Occurrence
  x = record { spot = p; places = k.at; start = s; ran = q; later = later }

  abbrev tracked : ℕ → Bool
  tracked = is_cell k.m.tracked

  -- of a region that says something of units, the variable is one of the module
  there_claimed : (v : Variable) (phi : ℕ → ℤ) (u : ℕ) → elements_at k v phi ≡ Some u → elements_of (place_of k.ks k.g k.at v) phi ≡ Some u
  there_claimed (Own n) phi u e = go (is_stored (symbol_at k.m.symbols n)) e
    where
      go : (b : Bool) → elements_if b (k.at n) phi ≡ Some u → elements_of (k.at n) phi ≡ Some u
      go true h = h
      go false h = cc
  there_claimed (Block b) phi u e = go (is_told (Block b)) e
    where
      go : (c : Bool) → elements_if c (block_place k.ks k.g b) phi ≡ Some u → elements_of (block_place k.ks k.g b) phi ≡ Some u
      go true h = h
      go false h = cc
  there_claimed (Saved m y) phi u e = go (is_told (Saved m y)) e
    where
      go : (c : Bool) → elements_if c (saved_place k.ks k.g k.ks m y) phi ≡ Some u → elements_of (saved_place k.ks k.g k.ks m y) phi ≡ Some u
      go true h = h
      go false h = cc

  pub lies_one : (r : Region) (u : ℕ) → LiesIn (scene k) (elements_at k r.variable) r (numbers_of s) u → claims.LiesIn k.ks k.g (is_cell k.m.tracked) x u (as_region k.ks k.g k.at r)
  lies_one r u l = lies_claimed k.ks k.g (is_cell k.m.tracked) k.far k.place x r u (record { phi = l.phi; there = there_claimed r.variable l.phi u l.there; described = l.described })

  pub sharp_one : (r : Region) (test : ℕ → Bool) → IsSharp (scene k) (elements_at k r.variable) r (numbers_of s) test → claims.IsExact k.ks k.g (is_cell k.m.tracked) x test (as_region k.ks k.g k.at r)
  sharp_one r test h = sharp_claimed k.ks k.g (is_cell k.m.tracked) k.far k.place x test r (λ e w st hs. (let y = h e w st hs in record { unit = y.unit; there = there_claimed r.variable _ y.unit y.there; is_so = y.is_so }))

  -- whatever variables its systems name
  pub points_one : (r : Region) (test : ℕ → Bool) → IsSharp (scene k) (elements_at k r.variable) r (numbers_of s) test → PointsAre k.ks k.g (is_cell k.m.tracked) x test r
  points_one r test h e w st hs =
      let y = h e w st hs in
      let at = place_of k.ks k.g k.at r.variable in
      element_has at (element_in at (listed (length at.dims) (λ i. w (Phi i)))) y.unit test (there_claimed r.variable (λ i. w (Phi i)) y.unit y.there) y.is_so

  -- ---- of a kind

  module _ (such : Access → Bool) where
    pub some_of : (rs : List Region) (u : ℕ) (r : Region) → In r rs → such r.kind ≡ true → claims.LiesIn k.ks k.g (is_cell k.m.tracked) x u (as_region k.ks k.g k.at r) → LiesInSome k.ks k.g (is_cell k.m.tracked) x u (regions_in such k.ks k.g k.at rs)
    some_of [] u r i e l = elim i [ ]
    some_of (w ∷ rs) u r here e l = subst (λ b. LiesInSome k.ks k.g (is_cell k.m.tracked) x u (before_if b (as_region k.ks k.g k.at w) (regions_in such k.ks k.g k.at rs))) (sym e) (inl l)
    some_of (w ∷ rs) u r (there i) e l = go (such w.kind) (some_of rs u r i e l)
      where
        go : (b : Bool) → LiesInSome k.ks k.g (is_cell k.m.tracked) x u (regions_in such k.ks k.g k.at rs) → LiesInSome k.ks k.g (is_cell k.m.tracked) x u (before_if b (as_region k.ks k.g k.at w) (regions_in such k.ks k.g k.at rs))
        go true ih = inr ih
        go false ih = ih

    pub all_exact : (rs : List Region) (test : ℕ → Bool) → ((r : Region) → In r rs → such r.kind ≡ true → IsSharp (scene k) (elements_at k r.variable) r (numbers_of s) test) → AreExact k.ks k.g (is_cell k.m.tracked) x test (regions_in such k.ks k.g k.at rs)
    all_exact [] test h = tt
    all_exact (w ∷ rs) test h = go (such w.kind) refl (all_exact rs test (λ r i. h r (there i)))
      where
        go : (b : Bool) → such w.kind ≡ b → AreExact k.ks k.g (is_cell k.m.tracked) x test (regions_in such k.ks k.g k.at rs) → AreExact k.ks k.g (is_cell k.m.tracked) x test (before_if b (as_region k.ks k.g k.at w) (regions_in such k.ks k.g k.at rs))
        go true e ih = (sharp_one w test (h w here e), ih)
        go false e ih = ih

  read_kind : (a : Access) → is_read a ≡ true → a ≡ Read
  read_kind Read e = refl
  read_kind Write e = absurd (true≢false (sym e))
  read_kind access.In e = absurd (true≢false (sym e))
  read_kind access.Out e = absurd (true≢false (sym e))

  write_kind : (a : Access) → is_write a ≡ true → a ≡ Write
  write_kind Read e = absurd (true≢false (sym e))
  write_kind Write e = refl
  write_kind access.In e = absurd (true≢false (sym e))
  write_kind access.Out e = absurd (true≢false (sym e))

  -- ---- both kinds

  module _ (own : Bool) (normal : (f : Flow) → is_normal p.statement f ≡ true → Finally own (Gave f) ⊥ → ⊥) (rs : List Region) (lies : (a : Access) (u : ℕ) → accessed a q.trace u ≡ true → meaning.is_visible k.ks k.g x u ≡ true → LiesInSet (scene k) (elements_at k) a rs (numbers_of s) u) (sharp : Finally own q.answer (Sharp k rs s q.trace)) where
    at_normal : (P : Type 0) → (Sharp k rs s q.trace → P) → AtEndOf q (λ f z j. is_normal p.statement f ≡ true → P)
    at_normal P f = go q.answer sharp
      where
        flows : (a : Flow) → Finally own (Gave a) (Sharp k rs s q.trace) → is_normal p.statement a ≡ true → P
        flows Normal w n = f w
        flows (Jump l) w n = absurd (normal (Jump l) n tt)
        flows Returned w n = by own refl
          where
            by : (b : Bool) → own ≡ b → P
            by true e = f (w e)
            by false e = absurd (normal Returned n (λ o. absurd (true≢false (sym o ∙ e))))
        flows Stopped w n = absurd (normal Stopped n tt)

        go : (a : Answer Flow) → Finally own a (Sharp k rs s q.trace) → AtEnd a (store_of q.memory) q.input (λ f z j. is_normal p.statement f ≡ true → P)
        go (Gave a) w = λ n. flows a w n
        go (Broke b) w = tt

    pub set_holds : SetHolds k.ks k.g k.m rs x
    set_holds = record {
      reads = (
        (λ u r v. (let l = lies Read u r v in some_of is_read rs u l.region l.is_one (ap is_read l.kind) (lies_one l.region u l.lies))),
        at_normal (AreExact k.ks k.g (is_cell k.m.tracked) x (reads x) (regions_in is_read k.ks k.g k.at rs)) (λ w. all_exact is_read rs (reads x) (λ r i e. subst (λ a. IsSharp (scene k) (elements_at k r.variable) r (numbers_of s) (accessed a q.trace)) (read_kind r.kind e) (w r i))),
      );
      writes = (
        (λ u r v. (let l = lies Write u r v in some_of is_write rs u l.region l.is_one (ap is_write l.kind) (lies_one l.region u l.lies))),
        at_normal (AreExact k.ks k.g (is_cell k.m.tracked) x (writes x) (regions_in is_write k.ks k.g k.at rs)) (λ w. all_exact is_write rs (writes x) (λ r i e. subst (λ a. IsSharp (scene k) (elements_at k r.variable) r (numbers_of s) (accessed a q.trace)) (write_kind r.kind e) (w r i))),
      );
      points_read = at_normal ((r : Region) → In r rs → is_read r.kind ≡ true → PointsAre k.ks k.g (is_cell k.m.tracked) x (reads x) r) (λ w r i e. points_one r (reads x) (subst (λ a. IsSharp (scene k) (elements_at k r.variable) r (numbers_of s) (accessed a q.trace)) (read_kind r.kind e) (w r i)));
      points_written = at_normal ((r : Region) → In r rs → is_write r.kind ≡ true → PointsAre k.ks k.g (is_cell k.m.tracked) x (writes x) r) (λ w r i e. points_one r (writes x) (subst (λ a. IsSharp (scene k) (elements_at k r.variable) r (numbers_of s) (accessed a q.trace)) (write_kind r.kind e) (w r i)));
    }

  -- where all that is not hidden lies in the set
  pub visible_touches : (rs : List Region) → Holds k rs s q.trace → (a : Access) (u : ℕ) → accessed a q.trace u ≡ true → meaning.is_visible k.ks k.g x u ≡ true → LiesInSet (scene k) (elements_at k) a rs (numbers_of s) u
  visible_touches rs h a u e v = h a u (record { is_so = e; seen = visible_seen k.ks k.g x u v })
