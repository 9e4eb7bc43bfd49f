-- At each execution of a marked DO of a program that is read its loop holds.
use Rattle.std.proofs.Common.{◌≡◌, ◌⊎◌, inl, inr, ⊎_elim, ℕ, zero, suc, true, false, ◌||◌, List, [], ◌∷◌, map, Option, Some, None, Bool, refl, sym, ap, ◌∙◌, subst, bytes_eq, nat_eq, true≢false}
use Rattle.std.specs.Prelude.{slice_get}
use Rattle.std.specs.List.{list_any, IsDistinct}
use Rattle.system_text.specs.SystemText.{name_at}
use Rattle.f77_ast.specs.Trees.{ExprTree, StmtTrees, LoopTree}
use Rattle.f77_ast.specs.Trees as tree
use Rattle.f77_ast.specs.DeclTrees.{ParsedTree}
use Rattle.f77_ast.specs.StatementNumbers.{loop_numbers, HasNumbers}
use Rattle.f77_ast.specs.Store.{Content, Store}
use Rattle.f77_ast.specs.Faults.{Locked}
use Rattle.f77_ast.specs.Runs.{Event}
use Rattle.f77_ast.specs.Places.{Variable, Names, Place, Places}
use Rattle.f77_ast.specs.Writes.{Locks, lock}
use Rattle.f77_ast.specs.Loops.{Range}
use Rattle.f77_ast.specs.Calls.{in_place}
use Rattle.f77_ast.specs.Statements.{spot, do_plan}
use Rattle.f77_ast.specs.Programs.{Routine, Program, meanings}
use Rattle.f77_ast.specs.declared.variable.Variable.TheVariants.{Own}
use Rattle.f77_ast.specs.Symbols.{SymbolTree}
use Rattle.f77_ast.specs.Shared.{symbol_at}
use Rattle.call_graph.specs.declared.graph.Graph.{Graph}
use Rattle.f77_meaning.specs.Modules.{Known, known_of, is_function, names, symbol_names, fixed}
use Rattle.f77_meaning.specs.Linked.{numbering, routine, program_of}
use Rattle.f77_meaning.specs.Areas.{Numbering}
use Rattle.f77_meaning.specs.Processes.{Marked}
use Rattle.preconditions.specs.transformer_algebra.Cells.{has}
use Rattle.preconditions.specs.transformer_algebra.Laws.{In, here, there}
use Rattle.loop_marker.specs.module_phases.ScalarPhases.{scope_of}
use Rattle.loop_marker.specs.Results.{ModuleResults}
use Rattle.loop_marker.specs.Phases.{phases_of, all_marks}
use Rattle.loop_marker.specs.dependence_test.Finding.{loop_in}
use Rattle.loop_marker.specs.privatizer.Functions.{is_function as takes_value, own_functions}
use Rattle.result_lines.specs.ShownMarks.{shown_numbers}
use Rattle.laws_lines.specs.Marks.Marked.{functions_in_loop, functions_of}
use Rattle.laws_programs.specs.Programs.{IsProgram}
use Rattle.call_graph.specs.CallsIn.{Each}
use Rattle.laws_analyses.proofs.Modules.{IsIn}
use Rattle.laws_marks.specs.ConflictClaims.{loop_with, IsSole}
use Rattle.laws_marks.specs.ConflictExecutions.{Execution}
use Rattle.laws_marks.proofs.ConflictModules.{numbered_above}
use Rattle.laws_marks.proofs.ConflictWhats.{no_list}
use Rattle.laws_interleavings.specs.Reductions.{Reduced, own as own_unit, is_accumulator}
use Rattle.laws_interleavings.specs.Accumulating.{Reduction, Directive, accumulators_of}
use Rattle.laws_interleavings.specs.Accumulated.{ListAdds}
use Rattle.laws_interleavings.specs.MarkedStatements.{MarkedScope, marked_loop, reduced_loop, own_in}
use Rattle.laws_interleavings.specs.Plans.Touched.{StoreInRange}
use Rattle.result_lines.specs.declared.reduction.Part.{Part}
use Rattle.laws_interleavings.specs.MarkedPrograms.{Directives, marked_scope, marked_meanings}
use Rattle.laws_analyses.specs.Regions.Settings.{is_stored}
use Rattle.laws_interleavings.specs.Typed.{TagsStand}
use Rattle.laws_marks.specs.MarkedBegins.{Begins}
use Rattle.laws_marks.specs.MarkedFit.{HasOwnUnits, HasPrivateUnits, LoopIsFit, IsDeadAfter, AccumulatesAlone}
use Rattle.laws_marks.specs.MarkedLaws.{DirectedHolds, LoopsBegin, LoopsHold, ReducedLoopsHold}
use Rattle.laws_marks.specs.Inactive.{InactiveHaveNone}
use Rattle.laws_marks.proofs.Order.{Distinct, names_once}
use Rattle.laws_marks.proofs.Apart.{linked}
use Rattle.laws_marks.specs.DeadLaws.{AllNamesStand, AllMarkedLoopsAreDead, outs_of}
use Rattle.laws_marks.specs.Dead.{index_name}
use Rattle.laws_marks.specs.Named.{AreNamesOf, NamesStand, ModuleNamesStand, PlacesStand, ModulePlacesStand, MarkedLoopIsDead, NamesAreCopied}
use Rattle.laws_marks.specs.Units.{IsPassing}
use Rattle.laws_marks.proofs.Written.{name_means}
use Rattle.laws_marks.specs.Known.{LoopIsKnown, MarkedLoopIsKnown, AllMarkedLoopsAreKnown}
use Rattle.laws_marks.proofs.Private.{stored_place, name_private}
use Rattle.laws_marks.specs.Rests.{occurrence_of}
use Rattle.laws_marks.specs.Loops.{AreOff, IsOutside, MarkedDoHolds, RoutineHolds}
use Rattle.laws_marks.specs.Directives.{IsFound, AreFound}
use Rattle.laws_marks.specs.Names.{directive_names, marked_names, reduction_named}
use Rattle.laws_marks.specs.Parts.{PartsStand}
use Rattle.laws_marks.specs.Standings.{OthersAreApart}
use Rattle.laws_marks.proofs.Functions.{shown_all, shown_there}
use Rattle.laws_marks.proofs.Outs.{in_both}
use Rattle.preconditions.proofs.TransformerAlgebra.Members.{in_left, in_right}
use Rattle.laws_marks.proofs.Unbroken.{IsUnbroken}
use Rattle.laws_marks.proofs.Dos.{all_dos}
use Rattle.laws_marks.proofs.MarkedFits.{wider}
use Rattle.laws_marks.proofs.Reducing.{alone, own_units}
use Rattle.laws_marks.proofs.Standings.Body.{parts_add}
use Rattle.laws_marks.proofs.Units.{units, nameless_outside, nameless_local}
use Rattle.fx_lists.proofs.Booleans.{or_here}
use Rattle.laws_marks.proofs.Fitted.{Stands, IsFixed, is_free, body_fine, own_cleared, own_valueless, hidden_private, nameless_unwritten, owned}
use Rattle.call_graph.proofs.EachLaws.{each_of_all}

in_map : (f : ℕ → List ℕ) (n : ℕ) (ns : List ℕ) → In n ns → In (f n) (map f ns)
in_map f n [] i = elim i [ ]
in_map f n (m ∷ ns) here = here
in_map f n (m ∷ ns) (there i) = there (in_map f n ns i)

map_more : (f : ℕ → List ℕ) (ms ns : List ℕ) → ((n : ℕ) → In n ms → In n ns) → (y : List ℕ) → In y (map f ms) → In y (map f ns)
map_more f [] ns h y i = elim i [ ]
map_more f (m ∷ ms) ns h y here = in_map f m ns (h m here)
map_more f (m ∷ ms) ns h y (there i) = map_more f ms ns (λ n j. h n (there j)) y i

each_in : {T : Type 0} (P : T → Type 0) (xs : List T) (x : T) → In x xs → Each P xs → P x
each_in {T = T} P [] x j h = elim j [ ]
each_in P (y ∷ xs) x here h = h.0
each_in P (y ∷ xs) x (there j) h = each_in P xs x j h.1

module _ (begin : LoopsBegin) (hold : LoopsHold) (reduce : ReducedLoopsHold) (copied : NamesAreCopied) (ps : List ParsedTree) (sss : List (List SymbolTree)) (g : Graph) (x : IsProgram ps sss g) (turns : ℕ) (d : Directives) where
  abbrev fs : List ModuleResults
  fs = all_marks g (outs_of ps sss g)

  abbrev of : Known → Routine
  of k = routine (known_of ps sss) g k

  abbrev P : Program
  P = program_of (known_of ps sss) g

  -- of a module, by its name
  abbrev pub PlacesOf : Execution → ModuleResults → Type 0
  PlacesOf e f = f.known.read.name ≡ e.spot.module_name → ModulePlacesStand (known_of ps sss) g f e

  abbrev pub ApartOf : Execution → ModuleResults → Type 0
  ApartOf e f = f.known.read.name ≡ e.spot.module_name → (n : ℕ) → IsPassing f.known.symbols n → IsSole f.known.symbols (Own n) → OthersAreApart f.known.symbols e.places n

  -- what is claimed of an execution, and of what the run does after it
  pub record Claimed (e : Execution) (later : List Event) : Type 0 where
    pub unbroken : IsUnbroken e later
    pub known : AllMarkedLoopsAreKnown (known_of ps sss) g (all_marks g (outs_of ps sss g)) e
    pub inactive : InactiveHaveNone (program_of (known_of ps sss) g) e
    pub names : AllNamesStand (known_of ps sss) g (all_marks g (outs_of ps sss g)) e
    pub placed : Each (PlacesOf e) (all_marks g (outs_of ps sss g))
    pub apart : Each (ApartOf e) (all_marks g (outs_of ps sss g))
    pub in_range : StoreInRange e.start
    pub dead : AllMarkedLoopsAreDead (known_of ps sss) g (all_marks g (outs_of ps sss g)) (occurrence_of e later)

  module _ (reductions : Bool) (are_found : AreFound g reductions (all_marks g (outs_of ps sss g)) d) (modules : Each (λ (f : ModuleResults). IsIn (known_of ps sss) f.known) (all_marks g (outs_of ps sss g))) (numbered : (k : Known) → IsIn (known_of ps sss) k → HasNumbers k.read.body) (k : Known) (is_in : IsIn (known_of ps sss) k) (xs : List Known) (behind : Each (IsIn (known_of ps sss)) xs)
      (distinct : Distinct (map of (k ∷ xs))) (st : Stands (program_of (known_of ps sss) g) turns (of k) (map of xs)) where
    abbrev sc : MarkedScope
    sc = marked_scope (of k) turns d (meanings (map of xs) turns) (marked_meanings (map of xs) turns d)

    abbrev N : Numbering
    N = numbering (known_of ps sss) g

    -- the module of a mark
    same_module : (f : ModuleResults) → In f fs → f.known.read.name ≡ k.read.name → f.known ≡ k
    same_module f i e =
        let h = each_in (λ (z : ModuleResults). IsIn (known_of ps sss) z.known) fs f i modules in
        let at : h.at ≡ is_in.at = names_once ps sss g (linked ps sss g x) h.at is_in.at f.known k h.is_module is_in.is_module e in
        let one : Some f.known ≡ Some k = sym h.is_module ∙ ap (slice_get (known_of ps sss)) at ∙ is_in.is_module in
        cc

    -- a DO
    module _ (j : ℕ) (index : List ℕ) (e1 e2 : ExprTree) (e3 : Option ExprTree) (body : StmtTrees) (is_do : loop_in (suc j) k.read.body ≡ Some (tree.loop index e1 e2 e3 body)) (numbers : has (loop_numbers (tree.loop index e1 e2 e3 body)) 0 ≡ false)
        (dir : Directive) (at : Places) (locked : Locks) (tags : TagsStand (of k).names at) (off : AreOff (units N (of k ∷ map of xs)) locked (of k).names at) (s : Store) (i : List Content) (later : List Event) where
      abbrev l : LoopTree
      l = tree.loop index e1 e2 e3 body

      abbrev e : Execution
      e = record { spot = spot k.read.name (suc j); places = at; does = do_plan (tree.loop index e1 e2 e3 body) sc.plain at locked; start = s; input = i }

      module _ (c : Claimed e later) (q : IsFound g reductions fs k.read.name (suc j) dir) (r : Range) (w : ℕ) (b : Begins sc.plain index (tree.loop index e1 e2 e3 body) at locked (marked_loop dir.private sc body at r w (lock locked w Locked)) s i) where
        abbrev ns : List (List ℕ)
        ns = dir.private

        abbrev reduced : Reduced
        reduced = reduced_loop dir sc body at r w (lock locked w Locked)

        abbrev m : Marked
        m = marked_loop dir.private sc body at r w (lock locked w Locked)

        abbrev K : Known
        K = q.found.known

        same : K ≡ k
        same = same_module q.found q.is_one q.named

        is_do' : loop_in (suc j) K.read.body ≡ Some l
        is_do' = ap (λ (z : Known). loop_in (suc j) z.read.body) same ∙ is_do

        same_names : names k.symbols ≡ names K.symbols
        same_names = ap (λ (z : Known). names z.symbols) (sym same)

        stand : NamesStand (known_of ps sss) g (scope_of g.untracked K) (names K.symbols) (loop_with g (phases_of q.found).known l) l q.said.private at
        stand =
            each_in (λ (f : ModuleResults). f.known.read.name ≡ k.read.name → ModuleNamesStand (known_of ps sss) g f e) fs q.found q.is_one
            (each_of_all (λ (f : ModuleResults). f.known.read.name ≡ k.read.name → ModuleNamesStand (known_of ps sss) g f e) fs c.names) q.named l is_do' reductions q.said q.is_said

        -- the functions of which each iteration has the result for itself
        own : functions_of K.read (suc j) ≡ own_functions K.read body
        own = ap (functions_in_loop K.read) is_do'

        places : PlacesStand (known_of ps sss) g K l q.said at
        places = each_in (PlacesOf e) fs q.found q.is_one c.placed q.named l is_do' reductions q.said q.is_said

        are : AreNamesOf ns (names K.symbols) l q.said.private
        are y i = in_both (λ (z : List ℕ). (v : ℕ) → names K.symbols z ≡ Variable v → In v q.said.private ⊎ (names K.symbols (index_name l) ≡ Variable v)) (directive_names K.symbols (shown_numbers K.read (symbol_names K.symbols) q.said.private)) (functions_of K.read (suc j)) of_shown of_own y (subst (In y) q.private i)
          where
            of_shown : (z : List ℕ) → In z (directive_names K.symbols (shown_numbers K.read (symbol_names K.symbols) q.said.private)) → (v : ℕ) → names K.symbols z ≡ Variable v → In v q.said.private ⊎ (names K.symbols (index_name l) ≡ Variable v)
            of_shown z h = stand.written z (map_more (name_at (symbol_names K.symbols)) (shown_numbers K.read (symbol_names K.symbols) q.said.private) q.said.private (shown_all K.read (symbol_names K.symbols) q.said.private) z h)

            of_own : (z : List ℕ) → In z (functions_of K.read (suc j)) → (v : ℕ) → names K.symbols z ≡ Variable v → In v q.said.private ⊎ (names K.symbols (index_name l) ≡ Variable v)
            of_own z h = places.taken z (subst (In z) own h)

        -- the name of one of the variables is among the names, or that of a function of which each iteration has the result for itself
        in_names : (n : ℕ) → In n q.said.private → In (name_at (symbol_names K.symbols) n) ns
        in_names n i = subst (In (name_at (symbol_names K.symbols) n)) (sym q.private) (go (takes_value K.read (name_at (symbol_names K.symbols) n)) refl)
          where
            go : (b : Bool) → takes_value K.read (name_at (symbol_names K.symbols) n) ≡ b → In (name_at (symbol_names K.symbols) n) (marked_names K (suc j) q.said.private)
            go true e = in_right (name_at (symbol_names K.symbols) n) (directive_names K.symbols (shown_numbers K.read (symbol_names K.symbols) q.said.private)) (functions_of K.read (suc j)) (subst (In (name_at (symbol_names K.symbols) n)) (sym own) (places.shown n i e))
            go false e = in_left (name_at (symbol_names K.symbols) n) (directive_names K.symbols (shown_numbers K.read (symbol_names K.symbols) q.said.private)) (functions_of K.read (suc j)) (in_map (name_at (symbol_names K.symbols)) n (shown_numbers K.read (symbol_names K.symbols) q.said.private) (shown_there K.read (symbol_names K.symbols) q.said.private n e i))

        at_place : (v : ℕ) → In v q.said.private ⊎ (names K.symbols (index_name l) ≡ Variable v) → IsFixed (of k) at v
        at_place v h = let z = places.placed v h in subst (λ (y : Known). IsFixed (of y) at v) same (record { no_dummy = z.0; fixed = z.1 })

        named : (y : List ℕ) → In y ns → (v : ℕ) → (of k).names y ≡ Variable v → IsFixed (of k) at v
        named y i v h = at_place v (are y i v (subst (λ (f : Names). f y ≡ Variable v) same_names h))

        -- what is written of the variables of the mark is private: a name of the directive stands for the variable, or no name does
        private_units : (n : ℕ) → In n q.said.private → HasPrivateUnits (known_of ps sss) g (scope_of g.untracked K) at m s (Own n)
        private_units n i u h t lt v = go (is_function (places.locals n i).symbol) refl
          where
            p : IsPassing K.symbols n
            p = places.locals n i

            has : in_place (fixed N K n) u ≡ true
            has = subst (λ (y : Place). in_place y u ≡ true) (places.placed n (inl i)).1 (stored_place (is_stored (symbol_at K.symbols n)) (at n) h.phi u h.there)

            k_in : IsIn (known_of ps sss) K
            k_in = subst (IsIn (known_of ps sss)) (sym same) is_in

            go : (b : Bool) → is_function (places.locals n i).symbol ≡ b → m.private u ≡ true
            go false f =
                let name = name_at (symbol_names K.symbols) n in
                name_private (known_of ps sss) g (scope_of g.untracked K) at (loop_with g (phases_of q.found).known l) ns sc body r w (lock locked w Locked) name n u (in_names n i)
                (ap (λ (f : Names). f name) same_names ∙ name_means K.symbols n p places.distinct f) h
            go true f =
                let local = subst (λ (y : Known). list_any (λ c. nat_eq c u) (of y).locals ≡ true) same (nameless_local ps sss g x K k_in n p f (places.sole n i) u has) in
                let outside = subst (λ (y : Known). IsOutside u (of y)) same (nameless_outside ps sss g x K k_in n p f (places.sole n i) u has) in
                absurd (true≢false (sym v ∙ nameless_unwritten ps sss g x turns d numbered k is_in xs behind distinct st body numbers at tags locked off ns r w u local outside t s))

        -- ---- reduction variables

        reduced_named : dir.reductions ≡ map (reduction_named k.symbols) q.said.parts
        reduced_named = q.clauses ∙ ap (λ (z : Known). map (reduction_named z.symbols) q.said.parts) same

        distinct_names : IsDistinct bytes_eq (symbol_names k.symbols)
        distinct_names = subst (λ (z : Known). IsDistinct bytes_eq (symbol_names z.symbols)) same places.distinct

        parts : PartsStand (known_of ps sss) g k l q.said at
        parts = subst (λ (z : Known). PartsStand (known_of ps sss) g z l q.said at) same places.parts

        are_here : AreNamesOf ns (names k.symbols) l q.said.private
        are_here = subst (λ (z : Known). AreNamesOf ns (names z.symbols) l q.said.private) same are

        placed_here : (v : ℕ) → In v q.said.private ⊎ (names k.symbols (index_name l) ≡ Variable v) → IsFixed (of k) at v
        placed_here v h = at_place v (⊎_elim inl (λ n. inr (subst (λ (f : Names). f (index_name l) ≡ Variable v) same_names n)) h)

        private_own : (u : ℕ) → m.private u ≡ true → own_unit reduced u ≡ true
        private_own u p = or_here (m.private u) (is_accumulator reduced.accumulators u) p

        -- what is written of them each iteration has for itself
        part_units : (p : Part) → In p q.said.parts → HasOwnUnits (known_of ps sss) g (scope_of g.untracked K) at (own_unit reduced) m s (Own p.cell)
        part_units p i =
            subst (λ rs. HasOwnUnits (known_of ps sss) g (scope_of g.untracked K) at (own_unit (reduced_loop (record { private = ns; reductions = rs }) sc body at r w (lock locked w Locked))) m s (Own p.cell)) (sym reduced_named)
            (own_units ps sss g x k is_in l q.said at distinct_names parts turns d numbered xs behind distinct st ns are_here placed_here b.symbol b.is_symbol body r w b.unit (lock locked w Locked) (scope_of g.untracked K) (ap (λ (z : Known). z.symbols) same)
            (λ u local outside t s. nameless_unwritten ps sss g x turns d numbered k is_in xs behind distinct st body numbers at tags locked off ns r w u local outside t s) s p i)

        adds : ListAdds (map (reduction_named k.symbols) q.said.parts) (names k.symbols) at body
        adds = parts_add (known_of ps sss) g k (tree.loop index e1 e2 e3 body) q.said at parts distinct_names apart_from
          where
            apart_from : (p : Part) → In p q.said.parts → OthersAreApart k.symbols at p.cell
            apart_from p i =
                let stands = places.parts.each p i in
                subst (λ (z : Known). OthersAreApart z.symbols at p.cell) same (each_in (ApartOf e) fs q.found q.is_one c.apart q.named p.cell stands.local stands.sole)

        -- the body accumulates in them alone
        accumulates : AccumulatesAlone reduced s
        accumulates =
            subst (λ rs. AccumulatesAlone (reduced_loop (record { private = ns; reductions = rs }) sc body at r w (lock locked w Locked)) s) (sym reduced_named)
            (alone ps sss g x k is_in l q.said at distinct_names parts turns d numbered xs behind distinct st ns are_here placed_here b.symbol b.is_symbol body r w b.unit (lock locked w Locked) adds s c.in_range)

        -- ---- the loop

        known : LoopIsKnown (known_of ps sss) g (scope_of g.untracked K) at (loop_with g (phases_of q.found).known l) (own_unit reduced) m s i
        known =
            each_in (λ (f : ModuleResults). f.known.read.name ≡ k.read.name → MarkedLoopIsKnown (known_of ps sss) g f e) fs q.found q.is_one
            (each_of_all (λ (f : ModuleResults). f.known.read.name ≡ k.read.name → MarkedLoopIsKnown (known_of ps sss) g f e) fs c.known) q.named c.unbroken l is_do' reductions q.said q.is_said ns sc body r w (lock locked w Locked) locked same_names refl
            (own_unit reduced) private_own private_units part_units b

        dead : IsDeadAfter m s later
        dead =
            each_in (λ (f : ModuleResults). f.known.read.name ≡ k.read.name → MarkedLoopIsDead (known_of ps sss) g f (occurrence_of e later)) fs q.found q.is_one
            (each_of_all (λ (f : ModuleResults). f.known.read.name ≡ k.read.name → MarkedLoopIsDead (known_of ps sss) g f (occurrence_of e later)) fs c.dead) q.named l is_do' reductions q.said q.is_said ns are sc body r w (lock locked w Locked) locked i same_names refl b known.ends

        fit : LoopIsFit (known_of ps sss) g (scope_of g.untracked K) at (loop_with g (phases_of q.found).known l) (own_unit reduced) m s i
        fit = record {
          ends = known.ends;
          known = known.known;
          verdicts = known.verdicts;
          names = λ u h n. copied (known_of ps sss) g (scope_of g.untracked K) (names K.symbols) (loop_with g (phases_of q.found).known l) l q.said.private at stand ns are sc body r w (lock locked w Locked) locked s i same_names b u h n;
          free = is_free (lock locked w Locked);
          own = own_in sc body;
          fine = body_fine ps sss g x turns d numbered k is_in xs behind distinct st body numbers at tags locked off ns r w;
          owned = owned ps sss g x turns d numbered k is_in xs behind distinct st body numbers at tags locked off ns r w named index b.symbol b.is_symbol
              (at_place b.symbol (inr (subst (λ (f : Names). f index ≡ Variable b.symbol) same_names b.is_symbol))) b.unit;
          hidden = λ t u lt h v f. hidden_private ps sss g x turns d numbered k is_in xs behind distinct st body numbers at tags locked off ns r w t s u h v;
          own_before = own_valueless ps sss g x turns d numbered k is_in xs behind distinct st body numbers at tags locked off ns r w e c.inactive refl;
          cleared = own_cleared ps sss g x turns d numbered k is_in xs behind distinct st body numbers at tags locked off ns r w;
        }

        -- of one without reduction variables these are the private units
        private_alone : dir.reductions ≡ [] → (u : ℕ) → own_unit reduced u ≡ true → m.private u ≡ true
        private_alone n u h = by (m.private u) (sym (ap (λ rs. m.private u || is_accumulator (accumulators_of rs sc.plain.names at) u) n) ∙ h)
          where
            by : (a : Bool) → (a || false) ≡ true → a ≡ true
            by true p = refl
            by false p = p

        holds : DirectedHolds dir.reductions reduced s later
        holds = by dir.reductions refl
          where
            by : (rs : List Reduction) → dir.reductions ≡ rs → DirectedHolds rs reduced s later
            by [] n =
                hold ns sc body at r w (lock locked w Locked) (known_of ps sss) g (scope_of g.untracked K) at (loop_with g (phases_of q.found).known l) s i later
                (wider (known_of ps sss) g (scope_of g.untracked K) at (loop_with g (phases_of q.found).known l) (own_unit reduced) m.private m s i (private_alone n) fit) dead
            by (z ∷ zs) n = reduce dir sc body at r w (lock locked w Locked) (known_of ps sss) g (scope_of g.untracked K) at (loop_with g (phases_of q.found).known l) s i later fit dead accumulates

    none_some : (l : LoopTree) → None ≡ Some l → ⊥
    none_some l e = cc

    do_holds : (n : ℕ) (l : LoopTree) → loop_in n k.read.body ≡ Some l → has (loop_numbers l) 0 ≡ false → MarkedDoHolds (units N (of k ∷ map of xs)) Claimed sc n l
    do_holds zero l e z dir mark at locked tags off s i later c = absurd (none_some l (sym (no_list 0 k.read.body (numbered_above k.read.body (numbered k is_in))) ∙ e))
    do_holds (suc j) (tree.loop index e1 e2 e3 body) e z dir mark at locked tags off s i later c =
        begin dir sc index e1 e2 e3 body at locked s i later (λ r w b. holds j index e1 e2 e3 body e z dir at locked tags off s i later c (are_found k.read.name (suc j) dir mark) r w b)

    pub routine_holds : RoutineHolds turns d (units N) Claimed (of k) (map of xs)
    routine_holds = all_dos (MarkedDoHolds (units N (of k ∷ map of xs)) Claimed sc) k.read.body (numbered k is_in) do_holds
