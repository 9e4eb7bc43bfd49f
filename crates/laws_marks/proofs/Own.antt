-- A unit of a variable whose name allows copies that a DO writes, and that the rest of the run reads before it writes it, lies in an OUT region of that variable.
use Rattle.std.proofs.Common.{◌≡◌, ⊎_elim, ℕ, ℤ, suc, ◌+◌, ◌||◌, ◌&&◌, Bool, true, false, List, [], ◌∷◌, length, Option, Some, None, arith, refl, sym, ap, ◌∙◌, subst, nat_eq, ne_eqb, true≢false}
use Rattle.std.specs.Prelude.{MatchOption, not, nat_le, nat_lt, option_map, bytes_eq}
use Rattle.std.specs.List.{list_any, IsDistinct}
use Rattle.std.proofs.lemmas.Bool.{and_parts, and_from, not-true, le-leb, lt-ltb}
use Rattle.f77_ast.specs.Trees.{LoopTree}
use Rattle.f77_ast.specs.DeclTrees.{ModuleTree}
use Rattle.f77_ast.specs.Store.{Content, Store}
use Rattle.f77_ast.specs.Steps.{Spot}
use Rattle.f77_ast.specs.Runs.{Event}
use Rattle.f77_ast.specs.Places.{Place, Places, element_in}
use Rattle.f77_ast.specs.Plans.{Plan}
use Rattle.f77_ast.specs.Executions.{run_of}
use Rattle.f77_ast.specs.Calls.{in_place}
use Rattle.f77_ast.specs.Claims.{number_in}
use Rattle.f77_ast.specs.declared.variable.Variable.{Variable as Named}
use Rattle.f77_ast.specs.declared.variable.Variable.TheVariants.{Own, Block, Saved}
use Rattle.f77_ast.specs.Symbols.{SymbolTree}
use Rattle.f77_ast.specs.Shared.{symbol_at}
use Rattle.call_graph.specs.declared.graph.Graph.{Graph}
use Rattle.f77_meaning.specs.Areas.{is_own_unit}
use Rattle.f77_meaning.specs.Modules.{Known, names, symbol_names, all_lost, fixed, dummies_from}
use Rattle.f77_meaning.specs.Linked.{numbering}
use Rattle.f77_meaning.specs.Occurrences.{Occurrence}
use Rattle.f77_meaning.specs.Accesses.{is_entry_of, is_entered, is_passing, is_visible}
use Rattle.f77_meaning.specs.Claims.{LiesIn, LiesInSome, OfElement, ElementIs, place_of, gives_out}
use Rattle.affine_forms.specs.Scalars.{is_cell}
use Rattle.preconditions.specs.transformer_algebra.Laws.{In, here, there}
use Rattle.preconditions.specs.transformers.Lists.{value_at}
use Rattle.preconditions.specs.call_translation.Scopes.{ScopeTree}
use Rattle.in_out_regions.specs.region_sets.declared.region.Region.{Region}
use Rattle.in_out_regions.specs.region_sets.Lists.{or_none, set_at}
use Rattle.loop_marker.specs.module_phases.OutPhases.{ModuleOuts}
use Rattle.loop_marker.specs.module_phases.ScalarPhases.{scope_of}
use Rattle.loop_marker.specs.dependence_test.Finding.{loop_in}
use Rattle.loop_marker.specs.privatizer.Names.{is_equivalenced, is_own_symbol, may_copy}
use Rattle.laws_analyses.specs.Calls.Parts.{NoDummy}
use Rattle.laws_analyses.specs.Regions.Claims.{elements_of, as_region, before_if, regions_in, listed}
use Rattle.laws_analyses.specs.Regions.Settings.{is_stored, elements_if, is_told, elements_with}
use Rattle.laws_analyses.specs.Regions.Shown.{is_lost, is_hidden}
use Rattle.laws_analyses.proofs.Regions.Entering.{inside_of}
use Rattle.laws_marks.specs.ConflictExecutions.{Execution}
use Rattle.laws_marks.specs.ConflictClaims.{IsSole}
use Rattle.laws_marks.specs.OutClaims.{is_out, OutRegionsHold, OutSetHolds}
use Rattle.laws_marks.specs.Dead.{LiesInOwn, CopiesLieInOwn}
use Rattle.laws_marks.specs.Units.{IsPassing, UnitsStand, ModuleUnitsStand}
use Rattle.laws_marks.proofs.Elements.{HasElement}
use Rattle.laws_marks.proofs.Outs.{AreWritten}
use Rattle.call_graph.specs.Visible.{is_local}
use Rattle.fx_lists.proofs.Booleans.{or_neither}

-- ---- names that allow copies

passing_symbol : (t : ModuleTree) (ss : List SymbolTree) (n : ℕ) (o : Option SymbolTree) → symbol_at ss n ≡ o → is_own_symbol t o ≡ true → IsPassing ss n
passing_symbol t ss n None e q = absurd (true≢false (sym q))
passing_symbol t ss n (Some s) e q =
    let p = and_parts (is_local s.place) (not s.saved && not (is_equivalenced t s.name)) q in
    let r = and_parts (not s.saved) (not (is_equivalenced t s.name)) p.1 in
    record { symbol = s; is_symbol = e; local = p.0; unsaved = not-true s.saved r.0 }

-- it is a local that is not saved
pub passing : (t : ModuleTree) (ss : List SymbolTree) (n : ℕ) → may_copy t ss (Own n) ≡ true → IsPassing ss n
passing t ss n h = passing_symbol t ss n (symbol_at ss n) refl h

-- ---- elements

element_offset : (p : Place) (o : Option ℕ) (u : ℕ) → OfElement p o (λ v. v ≡ u) → option_map (λ k. p.first + k) o ≡ Some u
element_offset p None u h = absurd h
element_offset p (Some k) u h = ap Some h

pub in_its_place : (p : Place) (phi : ℕ → ℤ) (u : ℕ) → elements_of p phi ≡ Some u → in_place p u ≡ true
in_its_place p phi u e =
    let r = inside_of p phi u e in
    let is = r.is_there in
    let less = r.less in
    and_from (nat_le p.first u) (nat_lt u (p.first + p.extent)) (le-leb p.first u (omega (arith, is))) (lt-ltb u (p.first + p.extent) (omega (arith, is, less)))

stored_element : (b : Bool) (p : Place) (phi : ℕ → ℤ) (u : ℕ) → elements_if b p phi ≡ Some u → (b ≡ true) × (elements_of p phi ≡ Some u)
stored_element true p phi u e = (refl, e)
stored_element false p phi u e = cc

-- ---- regions that are claimed

record OneOf (ks : List Known) (g : Graph) (tracked : ℕ → Bool) (x : Occurrence) (u : ℕ) (rs : List Region) : Type 0 where
  region : Region
  is_one : In region rs
  lies : LiesIn ks g tracked x u (as_region ks g x.places region)

one_of : (ks : List Known) (g : Graph) (tracked : ℕ → Bool) (x : Occurrence) (u : ℕ) (rs : List Region) → LiesInSome ks g tracked x u (regions_in is_out ks g x.places rs) → OneOf ks g tracked x u rs
one_of ks g tracked x u [] h = absurd h
one_of ks g tracked x u (r ∷ rs) h = go (is_out r.kind) h (λ i. one_of ks g tracked x u rs i)
  where
    later : OneOf ks g tracked x u rs → OneOf ks g tracked x u (r ∷ rs)
    later o = record { region = o.region; is_one = there o.is_one; lies = o.lies }

    go : (b : Bool) → LiesInSome ks g tracked x u (before_if b (as_region ks g x.places r) (regions_in is_out ks g x.places rs)) → (LiesInSome ks g tracked x u (regions_in is_out ks g x.places rs) → OneOf ks g tracked x u rs) → OneOf ks g tracked x u (r ∷ rs)
    go true i f = ⊎_elim (λ l. record { region = r; is_one = here; lies = l }) (λ j. later (f j)) i
    go false i f = later (f i)

-- with subscripts for the element
record ElementAt (ks : List Known) (g : Graph) (x : Occurrence) (v : Named) (u : ℕ) : Type 0 where
  phi : ℕ → ℤ
  is_there : elements_of (place_of ks g x.places v) phi ≡ Some u

element_at : (ks : List Known) (g : Graph) (tracked : ℕ → Bool) (x : Occurrence) (u : ℕ) (r : Region) → LiesIn ks g tracked x u (as_region ks g x.places r) → ElementAt ks g x r.variable u
element_at ks g tracked x u r l =
    let n : ℕ → ℤ = λ c. number_in x.start x.places c in
    let p = place_of ks g x.places r.variable in
    let d = l.2 n (λ c t. refl) in
    record { phi = d.phi; is_there = element_offset p (element_in p (listed (length p.dims) d.phi)) u (subst (λ ns. ElementIs p ns (λ v. v ≡ u)) (sym d.is_list) l.1) }

-- ---- what is visible at a statement

none_passes : (ks : List Known) (g : Graph) (x : Occurrence) (j : ℕ) (u : ℕ) → x.spot.statement ≡ suc j → is_hidden ks g x.ran.trace u ≡ false → is_visible ks g x u ≡ true
none_passes ks g x j u at h =
    let q = or_neither (is_own_unit (numbering ks g) u) (is_lost ks g x.ran.trace u) h in
    and_from (not (is_own_unit (numbering ks g) u)) (not (is_passing ks g x u)) (ap not q.0) (ap not (none ks q.1))
  where
    no_entry : (m : List ℕ) → is_entry_of m x.spot ≡ false
    no_entry m = ap (λ n. bytes_eq x.spot.module_name m && nat_eq n 0) at ∙ (ap (λ b. bytes_eq x.spot.module_name m && b) not_zero ∙ off (bytes_eq x.spot.module_name m))
      where
        not_zero : nat_eq (suc j) 0 ≡ false
        not_zero = ne_eqb (suc j) 0 (λ q. absurd (omega (arith, q)))

        off : (b : Bool) → (b && false) ≡ false
        off true = refl
        off false = refl

    none : (qs : List Known) → list_any (λ k. is_entered k.read.name x.ran.trace && list_any (λ v. nat_eq v u) (all_lost (numbering ks g) k.read.name k.symbols k.symbols)) qs ≡ false → list_any (λ k. (is_entry_of k.read.name x.spot || is_entered k.read.name x.ran.trace) && list_any (λ v. nat_eq v u) (all_lost (numbering ks g) k.read.name k.symbols k.symbols)) qs ≡ false
    none [] e = refl
    none (k ∷ qs) e =
        let lost = list_any (λ v. nat_eq v u) (all_lost (numbering ks g) k.read.name k.symbols k.symbols) in
        let F : Known → Bool = λ z. is_entered z.read.name x.ran.trace && list_any (λ v. nat_eq v u) (all_lost (numbering ks g) z.read.name z.symbols z.symbols) in
        let G : Known → Bool = λ z. (is_entry_of z.read.name x.spot || is_entered z.read.name x.ran.trace) && list_any (λ v. nat_eq v u) (all_lost (numbering ks g) z.read.name z.symbols z.symbols) in
        let o = or_neither (F k) (list_any F qs) e in
        let first : G k ≡ false = ap (λ b. (b || is_entered k.read.name x.ran.trace) && lost) (no_entry k.read.name) ∙ o.0 in
        ap (λ b. b || list_any G qs) first ∙ none qs o.1

-- ---- one execution of a DO

-- what tables give of a module
pub record TablesTell (ks : List Known) (g : Graph) (k : Known) : Type 0 where
  pub sole : (v : Named) → may_copy k.read k.symbols v ≡ true → IsSole k.symbols v
  pub no_dummy : (n : ℕ) → is_stored (symbol_at k.symbols n) ≡ false → NoDummy (dummies_from 1 k.symbols) n
  pub local : (n : ℕ) → IsPassing k.symbols n → NoDummy (dummies_from 1 k.symbols) n
  -- what has no storage has no unit of a local
  pub missing : (n v : ℕ) → IsPassing k.symbols n → is_stored (symbol_at k.symbols v) ≡ false → (u : ℕ) → in_place (fixed (numbering ks g) k n) u ≡ true → in_place (fixed (numbering ks g) k v) u ≡ true → ⊥
  pub distinct : IsDistinct bytes_eq (symbol_names k.symbols)
  pub elements : (n : ℕ) → IsPassing k.symbols n → (u : ℕ) → in_place (fixed (numbering ks g) k n) u ≡ true → HasElement (fixed (numbering ks g) k n) u

module _ (ks : List Known) (g : Graph) (f : ModuleOuts) (j : ℕ) (name : List ℕ) (at : Places) (t : Plan) (s : Store) (i : List Content) (later : List Event) where
  abbrev k : Known
  k = f.known.known.analysis.found.known

  abbrev m : ScopeTree
  m = scope_of g.untracked f.known.known.analysis.found.known

  abbrev pub spot_here : Spot
  spot_here = record { module_name = name; statement = suc j }

  abbrev pub done : Execution
  done = record { spot = record { module_name = name; statement = suc j }; places = at; does = t; start = s; input = i }

  abbrev pub x : Occurrence
  x = record { spot = record { module_name = name; statement = suc j }; places = at; start = s; ran = run_of t s i; later = later }

  module _ (tell : TablesTell ks g f.known.known.analysis.found.known) (e : ModuleUnitsStand ks g f.known (record { spot = record { module_name = name; statement = suc j }; places = at; does = t; start = s; input = i })) (h : OutRegionsHold ks g (scope_of g.untracked f.known.known.analysis.found.known) f.outs (record { spot = record { module_name = name; statement = suc j }; places = at; start = s; ran = run_of t s i; later = later }))
      (written : (rs : List Region) → value_at f.outs.at (suc j) ≡ Some rs → AreWritten (set_at f.known.known.regions.at (suc j)) rs) (l : LoopTree) (is_do : loop_in (suc j) f.known.known.analysis.found.known.read.body ≡ Some l) where
    stand : UnitsStand ks g (names k.symbols) (fixed (numbering ks g) k) (dummies_from 1 k.symbols) m (set_at f.known.known.regions.at (suc j)) l done
    stand = e l is_do

    module _ (n : ℕ) (may : may_copy f.known.known.analysis.found.known.read f.known.known.analysis.found.known.symbols (Own n) ≡ true) (phi : ℕ → ℤ) (u : ℕ) (p : elements_with ks g f.known.known.analysis.found.known.symbols at (Own n) phi ≡ Some u) (gives : gives_out (record { spot = record { module_name = name; statement = suc j }; places = at; start = s; ran = run_of t s i; later = later }) u ≡ true) where
      pass : IsPassing k.symbols n
      pass = passing k.read k.symbols n may

      visible : is_visible ks g x u ≡ true
      visible = none_passes ks g x j u refl (stand.seen n pass phi u p)

      -- its place
      own_place : in_place (fixed (numbering ks g) k n) u ≡ true
      own_place =
          subst (λ (q : Place). in_place q u ≡ true) (stand.fixed n (tell.local n pass))
          (in_its_place (at n) phi u (stored_element (is_stored (symbol_at k.symbols n)) (at n) phi u p).1)

      -- a region that has the unit is of the variable
      element_of : (v : Named) → is_told v ≡ true → (psi : ℕ → ℤ) → elements_of (place_of ks g at v) psi ≡ Some u → elements_with ks g k.symbols at v psi ≡ Some u
      element_of (Own c) told psi q = go (is_stored (symbol_at k.symbols c)) refl
        where
          go : (b : Bool) → is_stored (symbol_at k.symbols c) ≡ b → elements_if b (at c) psi ≡ Some u
          go true w = q
          go false w =
              absurd (tell.missing n c pass w u own_place (subst (λ (z : Place). in_place z u ≡ true) (stand.fixed c (tell.no_dummy c w)) (in_its_place (at c) psi u q)))
      element_of (Block b) told psi q = ap (λ c. elements_if c (place_of ks g at (Block b)) psi) told ∙ q
      element_of (Saved w y) told psi q = ap (λ c. elements_if c (place_of ks g at (Saved w y)) psi) told ∙ q

      own_region : (rs : List Region) → AreWritten (set_at f.known.known.regions.at (suc j)) rs → OneOf ks g (is_cell m.tracked) x u rs → LiesInOwn ks g m (Own n) rs x u
      own_region rs w o =
          let r = o.region in
          let b = w r o.is_one in
          let a = element_at ks g (is_cell m.tracked) x u r o.lies in
          let told : is_told r.variable ≡ true = subst (λ v. is_told v ≡ true) b.same (stand.told b.region b.is_one) in
          let there' = element_of r.variable told a.phi a.is_there in
          let on_region : elements_with ks g k.symbols at b.region.variable a.phi ≡ Some u = subst (λ v. elements_with ks g k.symbols at v a.phi ≡ Some u) (sym b.same) there' in
          let same : b.region.variable ≡ Own n = ⊎_elim (λ q. q) (λ over. absurd (tell.sole (Own n) may b.region.variable over)) (stand.others n pass phi u p b.region b.is_one a.phi on_region) in
          record { region = r; is_one = o.is_one; kind = b.kind; same = sym b.same ∙ same; lies = o.lies }

      lies_in_own : LiesInOwn ks g m (Own n) (set_at f.outs.at (suc j)) x u
      lies_in_own = go (value_at f.outs.at (suc j)) refl h
        where
          go : (o : Option (List Region)) → value_at f.outs.at (suc j) ≡ o → MatchOption o ⊥ (λ rs. OutSetHolds ks g m rs x) → LiesInOwn ks g m (Own n) (or_none o) x u
          go None q w = absurd w
          go (Some rs) q w = own_region rs (written rs q) (one_of ks g (is_cell m.tracked) x u rs (w u gives visible))

  pub copies_lie : TablesTell ks g f.known.known.analysis.found.known → ModuleUnitsStand ks g f.known (record { spot = record { module_name = name; statement = suc j }; places = at; does = t; start = s; input = i }) → OutRegionsHold ks g (scope_of g.untracked f.known.known.analysis.found.known) f.outs (record { spot = record { module_name = name; statement = suc j }; places = at; start = s; ran = run_of t s i; later = later }) →
      ((rs : List Region) → value_at f.outs.at (suc j) ≡ Some rs → AreWritten (set_at f.known.known.regions.at (suc j)) rs) → CopiesLieInOwn ks g f (record { spot = record { module_name = name; statement = suc j }; places = at; start = s; ran = run_of t s i; later = later })
  copies_lie tell e h written l is_do (Own n) may phi u p gives = lies_in_own tell e h written l is_do n may phi u p gives
  copies_lie tell e h written l is_do (Block b) may phi u p gives = absurd (true≢false (sym may))
  copies_lie tell e h written l is_do (Saved w y) may phi u p gives = absurd (true≢false (sym may))
