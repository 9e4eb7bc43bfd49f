-- What callers see of the regions of a module.
use Rattle.std.proofs.Common.{◌≡◌, ⊎_elim, inl, inr, ℕ, ℤ, List, [], ◌∷◌, ◌++◌, map, Some, Bool, true, false, sym, subst, not}
use Rattle.std.specs.Prelude.{◌&&◌, if◌then◌else◌}
use Rattle.std.proofs.lemmas.Bool.{and_parts}
use Rattle.affine_systems.specs.declared.row.System.{System}
use Rattle.affine_systems.specs.Points.{Point}
use Rattle.f77_ast.specs.declared.variable.Variable.{Variable}
use Rattle.f77_ast.specs.Symbols.{SymbolTree}
use Rattle.preconditions.specs.transformer_algebra.Claims.{Scene}
use Rattle.preconditions.specs.transformer_algebra.Laws.{In, here, there}
use Rattle.preconditions.specs.transformer_algebra.Transformers.{without}
use Rattle.preconditions.specs.call_translation.Scopes.{ScopeTree}
use Rattle.in_out_regions.specs.region_sets.declared.region.Access.{Access}
use Rattle.in_out_regions.specs.region_sets.declared.region.Region.{Region}
use Rattle.in_out_regions.specs.region_sets.Regions.{any_weak}
use Rattle.in_out_regions.specs.region_sets.Naming.{named_cells, has_none}
use Rattle.in_out_regions.specs.region_sets.Sets.{unite_all}
use Rattle.hull_projection.specs.Unions.{HoldsSome}
use Rattle.in_out_regions.specs.region_sets.Claims.{DescribedBy, Places, AreByOrder, LiesIn, LiesInSet, IsSharp, IsSharpSet}
use Rattle.in_out_regions.proofs.RegionSets.SetLaws.{gathered_units, gathered_sharp}
use Rattle.in_out_regions.proofs.RegionSets.StepLaws.{in_map}
use Rattle.in_out_regions.specs.array_regions.Entry.{symbols_reads, locals, names_none, for_callers, seen, summary_of}
use Rattle.laws_analyses.proofs.Regions.Absent.{without_back, without_keeps}
use Rattle.call_graph.specs.Visible.{is_visible_to_callers}

some_back : (cs : List ℕ) (ss : List System) (p : Point) → names_none cs ss ≡ true → HoldsSome p (map (without cs) ss) → HoldsSome p ss
some_back cs [] p h k = k
some_back cs (s ∷ ss) p h k =
    let q = and_parts (has_none (named_cells cs s)) (names_none cs ss) h in
    ⊎_elim (λ a. inl (without_back cs s p q.0 a)) (λ b. inr (some_back cs ss p q.1 b)) k

pub in_seen : (ss : List SymbolTree) (cs : List ℕ) (rs : List Region) (r : Region) → In r rs → is_visible_to_callers ss r.variable ≡ true → In (for_callers cs r) (seen ss cs rs)
in_seen ss cs [] r i h = elim i [ ]
in_seen ss cs (q ∷ rs) r here h = subst (λ b. In (for_callers cs r) (if b then for_callers cs r ∷ seen ss cs rs else seen ss cs rs)) (sym h) here
in_seen ss cs (q ∷ rs) r (there i) h = go (is_visible_to_callers ss q.variable) (in_seen ss cs rs r i h)
  where
    go : (b : Bool) → In (for_callers cs r) (seen ss cs rs) → In (for_callers cs r) (if b then for_callers cs q ∷ seen ss cs rs else seen ss cs rs)
    go true ih = there ih
    go false ih = ih

pub of_seen : (P : Region → Type 0) (ss : List SymbolTree) (cs : List ℕ) (rs : List Region) → ((r : Region) → In r rs → P (for_callers cs r)) → (q : Region) → In q (seen ss cs rs) → P q
of_seen P ss cs [] h q i = elim i [ ]
of_seen P ss cs (r ∷ rs) h q i = go (is_visible_to_callers ss r.variable) q i (λ w. of_seen P ss cs rs (λ y j. h y (there j)) w)
  where
    go : (b : Bool) (q : Region) → In q (if b then for_callers cs r ∷ seen ss cs rs else seen ss cs rs) → ((w : Region) → In w (seen ss cs rs) → P w) → P q
    go true q here ih = h r here
    go true q (there j) ih = ih q j
    go false q j ih = ih q j

module _ (m : Scene) (at : Places) (by : AreByOrder at) (x : ℕ → ℤ) where
  pub callers_lie : (cs : List ℕ) (r : Region) (u : ℕ) → LiesIn m (at r.variable) r x u → LiesIn m (at r.variable) (for_callers cs r) x u
  callers_lie cs r u l = record { phi = l.phi; there = l.there; described = λ n a. for_them n (l.described n a) }
    where
      for_them : (n : ℕ → ℤ) → DescribedBy r.pieces n l.phi → DescribedBy (map (without cs) r.pieces) n l.phi
      for_them n d = record { piece = without cs d.piece; is_one = in_map (without cs) d.piece r.pieces d.is_one; holds = λ p c ph. without_keeps cs d.piece p (d.holds p c ph) }

  pub callers_sharp : (cs : List ℕ) (r : Region) (c : ℕ → Bool) → IsSharp m (at r.variable) r x c → IsSharp m (at r.variable) (for_callers cs r) x c
  callers_sharp cs r c h e p st g =
      let q = and_parts (r.exact && names_none cs r.pieces) (not (any_weak (map (without cs) r.pieces))) e in
      let w = and_parts r.exact (names_none cs r.pieces) q.0 in
      h w.0 p st (some_back cs r.pieces p w.1 g)

  -- a unit of a variable that callers see
  pub summary_lies : (s : ScopeTree) (rs : List Region) (a : Access) (u : ℕ) → ((v : Variable) (phi : ℕ → ℤ) → at v phi ≡ Some u → is_visible_to_callers s.symbols v ≡ true) → LiesInSet m at a (symbols_reads s.symbols s ++ rs) x u → LiesInSet m at a (summary_of s rs) x u
  summary_lies s rs a u out l =
      let all = unite_all (symbols_reads s.symbols s ++ rs) in
      let g = gathered_units (symbols_reads s.symbols s ++ rs) m at by a x u l in
      gathered_units (seen s.symbols (locals s.symbols) all) m at by a x u
      (record {
        region = for_callers (locals s.symbols) g.region;
        is_one = in_seen s.symbols (locals s.symbols) all g.region g.is_one (out g.region.variable g.lies.phi g.lies.there);
        kind = g.kind;
        lies = callers_lie (locals s.symbols) g.region u g.lies;
      })

  pub summary_sharp : (s : ScopeTree) (rs : List Region) (c : Access → ℕ → Bool) → IsSharpSet m at (symbols_reads s.symbols s ++ rs) x c → IsSharpSet m at (summary_of s rs) x c
  summary_sharp s rs c h =
      let all = unite_all (symbols_reads s.symbols s ++ rs) in
      let g = gathered_sharp (symbols_reads s.symbols s ++ rs) m at by x c h in
      gathered_sharp (seen s.symbols (locals s.symbols) all) m at by x c
      (of_seen (λ (r : Region). IsSharp m (at r.variable) r x (c r.kind)) s.symbols (locals s.symbols) all (λ r i. callers_sharp (locals s.symbols) r (c r.kind) (g r i)))
