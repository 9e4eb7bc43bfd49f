-- What the set of an entry shows: of the bounds of arrays, and of the body.
use Rattle.std.proofs.Common.{◌≡◌, ⊎_elim, ℕ, zero, suc, ◌+◌, ◌<◌, ℤ, List, [], ◌∷◌, ◌++◌, length, Option, Some, None, Bool, true, false, not, ◌&&◌, ◌||◌, refl, sym, ap, ◌∙◌, subst, arith, nat_eq, nat_lt, true≢false}
use Rattle.std.specs.Prelude.{if◌then◌else◌, option_map, bytes_eq}
use Rattle.std.specs.List.{list_any}
use Rattle.std.proofs.lemmas.Bool.{and_from, and_parts, or_left, or_right}
use Rattle.std.proofs.lemmas.Bool.Decides.{nat_tests}
use Rattle.std.proofs.lemmas.Slice.Eq.{bytes_eq-Decides}
use Rattle.f77_ast.specs.Trees.{StmtTrees}
use Rattle.f77_ast.specs.Trees as tree
use Rattle.f77_ast.specs.Store.{Content, Store}
use Rattle.f77_ast.specs.Steps.{Break}
use Rattle.f77_ast.specs.Runs.{Event, Ran, Answer, Gave, Broke}
use Rattle.f77_ast.specs.Places.{Variable, Place, Places, position, within}
use Rattle.f77_ast.specs.Writes.{Locks}
use Rattle.f77_ast.specs.Plans.{Flow, Normal, Jump, Returned, Stopped}
use Rattle.f77_ast.specs.Lists.{list_plan}
use Rattle.f77_ast.specs.Executions.{run_of}
use Rattle.f77_ast.specs.Calls.{Meaning}
use Rattle.f77_ast.specs.Statements.{Scope, spot, body_plan}
use Rattle.f77_ast.specs.declared.symbol.Place.{Place as SymbolPlace}
use Rattle.f77_ast.specs.declared.symbol.Place.TheVariants as place
use Rattle.f77_ast.specs.declared.variable.Variable.{Variable as Named}
use Rattle.f77_ast.specs.declared.variable.Variable.TheVariants.{Own, Block, Saved}
use Rattle.f77_ast.specs.Symbols.{SymbolTree}
use Rattle.f77_ast.specs.Shared.{symbol_at}
use Rattle.call_graph.specs.declared.graph.Graph.{Graph}
use Rattle.f77_meaning.specs.Modules.{Known, all_lost}
use Rattle.f77_meaning.specs.Linked.{numbering}
use Rattle.f77_meaning.specs.Areas.{is_own_unit}
use Rattle.f77_meaning.specs.Occurrences.{Occurrence, is_normal}
use Rattle.f77_meaning.specs.Accesses.{is_entry_of, is_entered, is_passing, is_visible}
use Rattle.affine_forms.specs.Claims.{numbers_of}
use Rattle.preconditions.specs.transformer_algebra.Laws.{In, here, there}
use Rattle.preconditions.specs.transformers.Given.{Callees}
use Rattle.in_out_regions.specs.region_sets.declared.region.Access.{Access}
use Rattle.in_out_regions.specs.region_sets.declared.region.Region.{Region}
use Rattle.in_out_regions.specs.region_sets.Claims.{LiesInSet, IsSharpSet}
use Rattle.in_out_regions.specs.array_regions.References.{is_constant}
use Rattle.in_out_regions.specs.array_regions.Calls.{Called}
use Rattle.in_out_regions.specs.array_regions.Statement.{list_set}
use Rattle.in_out_regions.specs.array_regions.Entry.{symbols_reads, summary_of}
use Rattle.laws_analyses.proofs.Calls.Bound.{Made, scalars_fixed}
use Rattle.laws_analyses.proofs.Calls.Enter.{find_dummy}
use Rattle.laws_analyses.specs.Calls.Parts.{Blocks, Part, DummyOf, NoDummy, places_in, Sane}
use Rattle.laws_analyses.specs.Regions.Claims.{elements_of, listed, SetHolds}
use Rattle.laws_analyses.specs.Regions.Settings.{Setting, scene, is_stored, elements_if, elements_with, elements_at}
use Rattle.laws_analyses.specs.Regions.Shown.{accessed, Touches, Sharp, Finally, Shown}
use Rattle.laws_analyses.specs.Regions.Entries.{dummies_reads, IsLost, Enters}
use Rattle.laws_analyses.specs.Regions.Programs.{Regular}
use Rattle.laws_analyses.proofs.Regions.Told.{by_order}
use Rattle.laws_analyses.proofs.Regions.Holding.{holds_none, holds_left, holds_both, sharp_none, sharp_both}
use Rattle.laws_analyses.proofs.Regions.Showing.{finally_more}
use Rattle.laws_analyses.proofs.Regions.Claimed.{visible_touches, set_holds}
use Rattle.laws_analyses.proofs.Regions.Callers.{summary_lies, summary_sharp}
use Rattle.laws_analyses.proofs.Regions.Bounds.{setting, KeepsScalars, Got}
use Rattle.laws_analyses.proofs.Regions.Starts.{Starts, body_starts}
use Rattle.laws_analyses.proofs.Regions.CalledShown.{any_in}
use Rattle.call_graph.specs.Visible.{is_local, place_is_visible_to_callers, symbol_goes_out, is_visible_to_callers}

-- at the same numbers
pub renumbered : (k : Setting) (own : Bool) (rs : List Region) (z s : Store) (a : Answer Flow) (es : List Event) → numbers_of z ≡ numbers_of s → Shown k own rs z a es → Shown k own rs s a es
renumbered k own rs z s a es e h = record {
  holds = subst (λ (x : ℕ → ℤ). (c : Access) (u : ℕ) → Touches k.ks k.g c es u → LiesInSet (scene k) (elements_at k) c rs x u) e h.holds;
  sharp = subst (λ (x : ℕ → ℤ). Finally own a (IsSharpSet (scene k) (elements_at k) rs x (λ c. accessed c es))) e h.sharp;
}

-- an element in bounds is one of the units
pub record Inside (p : Place) (u : ℕ) : Type 0 where
  pub offset : ℕ
  pub is_there : p.first + offset ≡ u
  pub less : offset < p.extent

pub inside_of : (p : Place) (phi : ℕ → ℤ) (u : ℕ) → elements_of p phi ≡ Some u → Inside p u
inside_of p phi u e = by (position p.dims (listed (length p.dims) phi)) e
  where
    by : (o : Option ℕ) → option_map (λ j. p.first + j) (within p o) ≡ Some u → Inside p u
    by None h = cc
    by (Some r) h = go (nat_lt r p.extent) refl h
      where
        go : (b : Bool) → nat_lt r p.extent ≡ b → option_map (λ j. p.first + j) (if b then Some r else None) ≡ Some u → Inside p u
        go true q f = (let same : p.first + r ≡ u = cc in record { offset = r; is_there = same; less = grind (arith, nat_tests) })
        go false q f = cc

-- a unit of an entered module that is lost at its end is not visible there
pub not_visible : (ks : List Known) (g : Graph) (m : List ℕ) (x : Occurrence) (u : ℕ) → x.spot ≡ spot m 0 → IsLost ks g m u → is_visible ks g x u ≡ true → ⊥
not_visible ks g m x u arrives l v =
    let test : Known → Bool = λ k. (is_entry_of k.read.name x.spot || is_entered k.read.name x.ran.trace) && list_any (λ v. nat_eq v u) (all_lost (numbering ks g) k.read.name k.symbols k.symbols) in
    let entry : is_entry_of l.known.read.name x.spot ≡ true = ap (is_entry_of l.known.read.name) arrives ∙ and_from (bytes_eq m l.known.read.name) true ((bytes_eq-Decides m l.known.read.name).1 (sym l.named)) refl in
    let one : test l.known ≡ true = and_from (is_entry_of l.known.read.name x.spot || is_entered l.known.read.name x.ran.trace) (list_any (λ v. nat_eq v u) (all_lost (numbering ks g) l.known.read.name l.known.symbols l.known.symbols)) (or_left (is_entry_of l.known.read.name x.spot) (is_entered l.known.read.name x.ran.trace) entry) l.lost in
    let passing : is_passing ks g x u ≡ true = any_in test ks l.known l.is_one one in
    true≢false (sym (and_parts (not (is_own_unit (numbering ks g) u)) (not (is_passing ks g x u)) v).1 ∙ ap not passing)

module _ (ks : List Known) (g : Graph) (called : Called) (b : Blocks) (cs : Callees) (k : Part) (sane : Sane b k) (regular : Regular k) (turns : ℕ) (callee : List ℕ → Meaning) (ps : List Place) where
  abbrev set_of : StmtTrees → List Region
  set_of body = list_set true body k.scope k.found.transformer called

  abbrev bounds : List Region
  bounds = dummies_reads k.routine.dummies k.scope

  abbrev at_places : Places → Setting
  at_places at = setting ks g called b cs k sane regular turns callee ps at

  -- of the bounds and of a body
  pub record Entering (body : StmtTrees) (s : Store) (at : Places) (a : Answer Flow) (es : List Event) : Type 0 where
    pub shown : Shown (setting ks g called b cs k sane regular turns callee ps at) true (dummies_reads k.routine.dummies k.scope ++ list_set true body k.scope k.found.transformer called) s a es
    pub fixed : (n : ℕ) → NoDummy k.routine.dummies n → at n ≡ k.routine.fixed n

  pub entering_same : (body : StmtTrees) (z s : Store) (at : Places) (a : Answer Flow) (es : List Event) → numbers_of z ≡ numbers_of s → Entering body z at a es → Entering body s at a es
  entering_same body z s at a es e h = record { shown = renumbered (at_places at) true (bounds ++ set_of body) z s a es e h.shown; fixed = h.fixed }

  -- ---- places

  pub keeps_made : (at : Places) → Made k.routine.dummies ps (places_in k ps) at → KeepsScalars ks g called b cs k sane regular turns callee ps at
  keeps_made at made x v e h = ⊎_elim dummy (λ n. made.other v n) (find_dummy k.routine.dummies v)
    where
      dummy : DummyOf k.routine.dummies v → at v ≡ places_in k ps v
      dummy o =
          ap at (sym o.symbol)
          ∙ (⊎_elim (λ a. a.1) (λ a. absurd (a.0 (sane.flat o.at o.dummy x o.is_dummy (e ∙ ap Variable (sym o.symbol)) h))) (made.dummy o.at o.dummy o.is_dummy)
          ∙ ap (λ n. places_in k ps n) o.symbol)

  pub keeps_first : KeepsScalars ks g called b cs k sane regular turns callee ps (places_in k ps)
  keeps_first x v e h = refl

  pub fixed_first : (n : ℕ) → NoDummy k.routine.dummies n → places_in k ps n ≡ k.routine.fixed n
  fixed_first n o = scalars_fixed k.routine.dummies ps k.routine.fixed n o

  -- ---- the bounds are refused

  pub entering_broke : (body : StmtTrees) (s : Store) (z : Break) (es : List Event) → Got ks g called b cs k sane regular turns callee ps {A = Places} (dummies_reads k.routine.dummies k.scope) s (Broke z) es → Entering body s (places_in k ps) (Broke z) es
  entering_broke body s z es g = record {
    shown = record { holds = holds_left (at_places (places_in k ps)) bounds (set_of body) s es (g.holds (places_in k ps) keeps_first); sharp = tt };
    fixed = fixed_first;
  }

  -- ---- and then the body

  module _ (at : Places) (made : Made k.routine.dummies ps (places_in k ps) at) (s : Store) (es : List Event) (got : Got ks g called b cs k sane regular turns callee ps (dummies_reads k.routine.dummies k.scope) s (Gave at) es) (sc : Scope) (locked : Locks) (i : List Content) where
    both_shown : (at1 : Places) → KeepsScalars ks g called b cs k sane regular turns callee ps at1 → (qs : List Region) (a : Answer Flow) (fs : List Event) → Shown (at_places at1) true qs s a fs → Shown (at_places at1) true (bounds ++ qs) s a (es ++ fs)
    both_shown at1 f qs a fs h = record {
      holds = holds_both (at_places at1) bounds qs s es fs (got.holds at1 f) h.holds;
      sharp = finally_more true a (Sharp (at_places at1) qs s fs) (Sharp (at_places at1) (bounds ++ qs) s (es ++ fs)) (λ w. sharp_both (at_places at1) bounds qs s es fs (got.sharp at1 f) w) h.sharp;
    }

    abbrev After : StmtTrees → Type 0
    After body = Starts (body_plan body sc at locked) s i (places_in k ps) (λ w a fs. Entering body s w a (es ++ fs))

    empty : After tree.no_stmts
    empty = go sc.turns
      where
        done : Entering tree.no_stmts s (places_in k ps) (Gave Normal) (es ++ [])
        done = record {
          shown = both_shown (places_in k ps) keeps_first [] (Gave Normal) [] (record { holds = holds_none (at_places (places_in k ps)) [] s; sharp = sharp_none (scene (at_places (places_in k ps))) (elements_at (at_places (places_in k ps))) (numbers_of s) (λ a. accessed a []) });
          fixed = fixed_first;
        }

        go : (n : ℕ) → Starts (list_plan n []) s i (places_in k ps) (λ w a fs. Entering tree.no_stmts s w a (es ++ fs))
        go zero = done
        go (suc n) = done

    pub entering_body : (body : StmtTrees) → Shown (setting ks g called b cs k sane regular turns callee ps at) true (list_set true body k.scope k.found.transformer called) s (run_of (body_plan body sc at locked) s i).answer (run_of (body_plan body sc at locked) s i).trace → Starts (body_plan body sc at locked) s i (places_in k ps) (λ w a fs. Entering body s w a (es ++ fs))
    entering_body body h =
        let q = run_of (body_plan body sc at locked) s i in
        ⊎_elim
        (λ e. subst After (sym e) empty)
        (λ e. subst (λ w. Entering body s w q.answer (es ++ q.trace)) (sym e)
        (record {
          shown = both_shown at (keeps_made at made) (set_of body) q.answer q.trace h;
          fixed = λ n o. made.other n o ∙ fixed_first n o;
        }))
        (body_starts body sc at locked s i (places_in k ps))

  -- ---- what callers see

  module _ (enters : Enters ks g k) (at : Places) (fixed : (n : ℕ) → NoDummy k.routine.dummies n → at n ≡ k.routine.fixed n) where
    -- a unit that is not lost at the end is one of a variable that goes out
    pub out : (u : ℕ) → (IsLost ks g k.routine.name u → ⊥) → (v : Named) (phi : ℕ → ℤ) → elements_with ks g k.scope.symbols at v phi ≡ Some u → is_visible_to_callers k.scope.symbols v ≡ true
    out u nl (Block c) phi e = refl
    out u nl (Saved c y) phi e = refl
    out u nl (Own n) phi e = by_symbol (symbol_at k.scope.symbols n) refl e
      where
        lost : (t : SymbolTree) → symbol_at k.scope.symbols n ≡ Some t → is_local t.place ≡ true → t.saved ≡ false → elements_of (at n) phi ≡ Some u → ⊥
        lost t f l d w =
            let p = fixed n (enters.local n t f l) in
            let r = inside_of (k.routine.fixed n) phi u (subst (λ z. elements_of z phi ≡ Some u) p w) in
            nl (subst (IsLost ks g k.routine.name) r.is_there (enters.lost n t r.offset f l d r.less))

        by_place : (t : SymbolTree) → symbol_at k.scope.symbols n ≡ Some t → (p : SymbolPlace) (d : Bool) → t.place ≡ p → t.saved ≡ d → elements_if (not (is_constant p)) (at n) phi ≡ Some u → place_is_visible_to_callers p d ≡ true
        by_place t f (place.Local c o) true e1 e2 w = refl
        by_place t f (place.Local c o) false e1 e2 w = absurd (lost t f (ap is_local e1) e2 w)
        by_place t f (place.Dummy c) d e1 e2 w = refl
        by_place t f (place.Block c o) d e1 e2 w = refl
        by_place t f (place.Constant c) d e1 e2 w = cc

        by_symbol : (o : Option SymbolTree) → symbol_at k.scope.symbols n ≡ o → elements_if (is_stored o) (at n) phi ≡ Some u → symbol_goes_out o ≡ true
        by_symbol None f w = cc
        by_symbol (Some t) f w = by_place t f t.place t.saved refl refl w

  module _ (enters : Enters ks g k) (body : StmtTrees) (at : Places) (s : Store) (q : Ran Flow) (later : List Event) (h : Entering body s at q.answer q.trace) where
    abbrev x : Occurrence
    x = record { spot = spot k.routine.name 0; places = at; start = s; ran = q; later = later }

    abbrev here_at : Setting
    here_at = setting ks g called b cs k sane regular turns callee ps at

    shown_all : Shown here_at true (symbols_reads k.scope.symbols k.scope ++ set_of body) s q.answer q.trace
    shown_all = subst (λ rs. Shown here_at true (rs ++ set_of body) s q.answer q.trace) (sym enters.reads) h.shown

    normal : (f : Flow) → is_normal 0 f ≡ true → Finally true (Gave f) ⊥ → ⊥
    normal Normal n w = w
    normal (Jump l) n w = true≢false (sym n)
    normal Returned n w = w refl
    normal Stopped n w = true≢false (sym n)

    abbrev rs : List Region
    rs = summary_of k.scope (set_of body)

    pub summary_holds : SetHolds ks g k.scope (summary_of k.scope (list_set true body k.scope k.found.transformer called)) (record { spot = spot k.routine.name 0; places = at; start = s; ran = q; later = later })
    summary_holds =
        set_holds here_at (spot k.routine.name 0) s q later true normal (summary_of k.scope (list_set true body k.scope k.found.transformer called))
        (λ a u e v. summary_lies (scene here_at) (elements_at here_at) (by_order here_at) (numbers_of s) k.scope (set_of body) a u (out enters at h.fixed u (λ l. not_visible ks g k.routine.name x u refl l v)) (visible_touches here_at (spot k.routine.name 0) s q later (symbols_reads k.scope.symbols k.scope ++ set_of body) shown_all.holds a u e v))
        (finally_more true q.answer (Sharp here_at (symbols_reads k.scope.symbols k.scope ++ set_of body) s q.trace) (Sharp here_at rs s q.trace)
        (λ w. summary_sharp (scene here_at) (elements_at here_at) (by_order here_at) (numbers_of s) k.scope (set_of body) (λ a. accessed a q.trace) w) shown_all.sharp)
