-- Modules that link have the same graph wherever their statements stand.
use Rattle.std.proofs.Common.{◌≡◌, ℕ, suc, Bool, true, false, List, [], ◌∷◌, map, Option, Some, None, Result, Ok, Err, refl, sym, ap, ◌∙◌, subst}
use Rattle.std.specs.Prelude.{if◌then◌else◌, ◌&&◌, ◌||◌, slice_get, option_map, is_some}
use Rattle.std.proofs.lemmas.Option.{slice_get-map}
use Rattle.f77_ast.specs.DeclTrees.{ModuleTree, ParsedTree}
use Rattle.f77_ast.specs.Symbols.{SymbolTree, number_from}
use Rattle.tracked_cells.specs.Equivalences.{equivalenced_names}
use Rattle.tracked_cells.specs.Scalars.{all_scalars}
use Rattle.tracked_cells.specs.Untracked.{equivalenced_names_of_all, untrackable}
use Rattle.call_graph.specs.declared.calls.Called.{Called}
use Rattle.call_graph.specs.declared.graph.Graph.{Graph}
use Rattle.fx_lists.specs.declared.code.Code.{Code}
use Rattle.fx_lists.specs.declared.code.Code.TheVariants.{TwoMains, ModuleTwice}
use Rattle.call_graph.specs.declared.refusal.Fault.{Fault}
use Rattle.call_graph.specs.declared.refusal.Fault.TheVariants as fault
use Rattle.call_graph.specs.Faults.{or_fault, unless}
use Rattle.call_graph.specs.Modules.{most_modules, names_of, module_line, too_many_at, too_many, is_place, twice_from, name_twice, second_main, main_twice, no_main}
use Rattle.call_graph.specs.Calls.{calls_of}
use Rattle.call_graph.specs.Callees.{against_found, against_at, call_cause, or_later, first_in, unfit_at, unfit_from, all_places, all_edges}
use Rattle.call_graph.specs.Recursion.{reaches, cyclic_in, cyclic_at, cyclic_from}
use Rattle.call_graph.specs.Blocks.{blocks_of}
use Rattle.call_graph.specs.Order.{order_of, names_at}
use Rattle.call_graph.specs.Links.{program_calls, callees_of, unfit, cyclic, graph_from, graph_of, module_fault, acyclic_of, joined_of, named_of, link_of}
use Rattle.roundtrip_programs.specs.Laws.{tree_of, GraphsIgnorePlaces}

-- a module without the places of its statements
abbrev pub placeless : ModuleTree → ParsedTree
placeless m = record { module_read = m; places = record { spots = []; closing = [] } }

abbrev bare : ParsedTree → ParsedTree
bare p = placeless p.module_read

abbrev bares : List ParsedTree → List ParsedTree
bares ps = map bare ps

-- something is wrong with both, or with none
record SameFault (f g : Option Fault) : Type 0 where
  pub same : is_some f ≡ is_some g

abbrev SameGraph : Result Graph Fault → Result Graph Fault → Type 0
SameGraph (Ok g) (Ok h) = g ≡ h
SameGraph (Ok g) (Err f) = ⊥
SameGraph (Err f) (Ok g) = ⊥
SameGraph (Err f) (Err g) = Unit {0}

-- ---- modules

names_bare : (ps : List ParsedTree) → names_of ps ≡ names_of (bares ps)
names_bare [] = refl
names_bare (p ∷ ps) = ap (λ (xs : List (List ℕ)). p.module_read.name ∷ xs) (names_bare ps)

too_many_by : (o : Option ParsedTree) → SameFault (too_many_at o) (too_many_at (option_map bare o))
too_many_by None = record { same = refl }
too_many_by (Some p) = record { same = refl }

too_many_same : (ps : List ParsedTree) → SameFault (too_many ps) (too_many (bares ps))
too_many_same ps = subst (λ o. SameFault (too_many ps) (too_many_at o)) (sym (slice_get-map bare ps most_modules)) (too_many_by (slice_get ps most_modules))

twice_by : (b : Bool) (k : ℕ) (p : ParsedTree) (f g : Option Fault) → SameFault f g
    → SameFault (if b then f else Some (fault.At k (module_line p) ModuleTwice)) (if b then g else Some (fault.At k 0 ModuleTwice))
twice_by true k p f g h = h
twice_by false k p f g h = record { same = refl }

twice_same : (k : ℕ) (names : List (List ℕ)) (ps : List ParsedTree) → SameFault (twice_from k names ps) (twice_from k names (bares ps))
twice_same k names [] = record { same = refl }
twice_same k names (p ∷ ps) = twice_by (is_place k (number_from 0 names p.module_read.name)) k p _ _ (twice_same (suc k) names ps)

name_twice_same : (ps : List ParsedTree) → SameFault (name_twice ps) (name_twice (bares ps))
name_twice_same ps = subst (λ names. SameFault (name_twice ps) (twice_from 0 names (bares ps))) (names_bare ps) (twice_same 0 (names_of ps) ps)

second_by : (b : Bool) (k : ℕ) (p : ParsedTree) (f g : Option Fault) → SameFault f g
    → SameFault (if b then Some (fault.At k (module_line p) TwoMains) else f) (if b then Some (fault.At k 0 TwoMains) else g)
second_by true k p f g h = record { same = refl }
second_by false k p f g h = h

second_same : (k : ℕ) (found : Bool) (ps : List ParsedTree) → SameFault (second_main k found ps) (second_main k found (bares ps))
second_same k found [] = record { same = refl }
second_same k found (p ∷ ps) = second_by (p.module_read.main && found) k p _ _ (second_same (suc k) (found || p.module_read.main) ps)

no_main_by : (b : Bool) (f g : Option Fault) → SameFault f g → SameFault (if b then None else f) (if b then None else g)
no_main_by true f g h = record { same = refl }
no_main_by false f g h = h

no_main_same : (ps : List ParsedTree) → SameFault (no_main ps) (no_main (bares ps))
no_main_same [] = record { same = refl }
no_main_same (p ∷ ps) = no_main_by p.module_read.main _ _ (no_main_same ps)

or_same : (a b f g : Option Fault) → SameFault a b → SameFault f g → SameFault (or_fault a f) (or_fault b g)
or_same None None f g k h = h
or_same None (Some y) f g k h = let e = k.same in cc
or_same (Some x) None f g k h = let e = k.same in cc
or_same (Some x) (Some y) f g k h = record { same = refl }

module_same : (ps : List ParsedTree) → SameFault (module_fault ps) (module_fault (bares ps))
module_same ps =
    or_same (name_twice ps) (name_twice (bares ps)) _ _ (name_twice_same ps)
    (or_same (main_twice ps) (main_twice (bares ps)) (no_main ps) (no_main (bares ps)) (second_same 0 false ps) (no_main_same ps))

-- ---- CALLs

calls_bare : (ps : List ParsedTree) (sss : List (List SymbolTree)) → program_calls ps sss ≡ program_calls (bares ps) sss
calls_bare [] sss = refl
calls_bare (p ∷ ps) [] = refl
calls_bare (p ∷ ps) (ss ∷ sss) = ap (λ (css : List (List Called)). calls_of p ss ∷ css) (calls_bare ps sss)

against_by : (c : Called) (o : Option ParsedTree) (ss : Option (List SymbolTree)) → against_found c o ss ≡ against_found c (option_map bare o) ss
against_by c None ss = refl
against_by c (Some p) None = refl
against_by c (Some p) (Some ss) = refl

against_bare : (c : Called) (k : Option ℕ) (all : List ParsedTree) (sss : List (List SymbolTree)) → against_at c k all sss ≡ against_at c k (bares all) sss
against_bare c None all sss = refl
against_bare c (Some k) all sss = against_by c (slice_get all k) (slice_get sss k) ∙ ap (λ o. against_found c o (slice_get sss k)) (sym (slice_get-map bare all k))

first_bare : (cs : List Called) (names : List (List ℕ)) (all : List ParsedTree) (sss : List (List SymbolTree)) → first_in cs names all sss ≡ first_in cs names (bares all) sss
first_bare [] names all sss = refl
first_bare (c ∷ cs) names all sss =
    ap (λ x. or_later c.at x (first_in cs names all sss)) (against_bare c (number_from 0 names c.callee) all sss)
    ∙ ap (or_later c.at (call_cause c names (bares all) sss)) (first_bare cs names all sss)

unfit_by : (k : ℕ) (p : ParsedTree) (x : Option (ℕ × Code)) (f g : Option Fault) → SameFault f g → SameFault (unfit_at k p x f) (unfit_at k (bare p) x g)
unfit_by k p None f g h = h
unfit_by k p (Some (n, cause)) f g h = record { same = refl }

unfit_same : (k : ℕ) (ps : List ParsedTree) (css : List (List Called)) (names : List (List ℕ)) (all : List ParsedTree) (sss : List (List SymbolTree))
    → SameFault (unfit_from k ps css names all sss) (unfit_from k (bares ps) css names (bares all) sss)
unfit_same k [] css names all sss = record { same = refl }
unfit_same k (p ∷ ps) [] names all sss = record { same = refl }
unfit_same k (p ∷ ps) (cs ∷ css) names all sss =
    subst (λ x. SameFault (unfit_from k (p ∷ ps) (cs ∷ css) names all sss) (unfit_at k (bare p) x (unfit_from (suc k) (bares ps) css names (bares all) sss))) (first_bare cs names all sss)
    (unfit_by k p (first_in cs names all sss) _ _ (unfit_same (suc k) ps css names all sss))

cyclic_by : (k : ℕ) (p : ParsedTree) (x : Option ℕ) (f g : Option Fault) → SameFault f g → SameFault (cyclic_at k p x f) (cyclic_at k (bare p) x g)
cyclic_by k p None f g h = h
cyclic_by k p (Some n) f g h = record { same = refl }

cyclic_same : (back : ℕ → ℕ → Bool) (k : ℕ) (ps : List ParsedTree) (css : List (List Called)) (names : List (List ℕ)) → SameFault (cyclic_from back k ps css names) (cyclic_from back k (bares ps) css names)
cyclic_same back k [] css names = record { same = refl }
cyclic_same back k (p ∷ ps) [] names = record { same = refl }
cyclic_same back k (p ∷ ps) (cs ∷ css) names = cyclic_by k p (cyclic_in (λ c. back c k) names cs) _ _ (cyclic_same back (suc k) ps css names)

-- ---- the graph

equivalenced_bare : (ps : List ParsedTree) → equivalenced_names_of_all ps ≡ equivalenced_names_of_all (bares ps)
equivalenced_bare [] = refl
equivalenced_bare (p ∷ ps) = ap (λ (xs : List (List (List ℕ))). equivalenced_names p.module_read ∷ xs) (equivalenced_bare ps)

callees_bare : (ps : List ParsedTree) (sss : List (List SymbolTree)) → callees_of ps sss ≡ callees_of (bares ps) sss
callees_bare ps sss = ap (λ xs. all_places xs (program_calls ps sss)) (names_bare ps) ∙ ap (all_places (names_of (bares ps))) (calls_bare ps sss)

graph_same : (ps : List ParsedTree) (sss : List (List SymbolTree)) → graph_of ps sss ≡ graph_of (bares ps) sss
graph_same ps sss =
    ap (λ xs. graph_from ps sss xs (program_calls ps sss) (callees_of ps sss)) (names_bare ps)
    ∙ ap (λ css. graph_from ps sss (names_of (bares ps)) css (callees_of ps sss)) (calls_bare ps sss)
    ∙ ap (λ kss. graph_from ps sss (names_of (bares ps)) (program_calls (bares ps) sss) kss) (callees_bare ps sss)
    ∙ ap (λ (xs : List (List (List ℕ))). record {
      order = names_at (order_of (callees_of (bares ps) sss)) (names_of (bares ps));
      edges = all_edges (names_of (bares ps)) (program_calls (bares ps) sss);
      blocks = blocks_of sss;
      untracked = untrackable xs sss (all_scalars sss []);
    }) (equivalenced_bare ps)

-- ---- the links

unless_same : (f g : Option Fault) (r s : Result Graph Fault) → SameFault f g → SameGraph r s → SameGraph (unless f r) (unless g s)
unless_same None None r s k h = h
unless_same None (Some y) r s k h = let e = k.same in cc
unless_same (Some x) None r s k h = let e = k.same in cc
unless_same (Some x) (Some y) r s k h = tt

unfit_all : (ps : List ParsedTree) (sss : List (List SymbolTree)) → SameFault (unfit ps sss) (unfit (bares ps) sss)
unfit_all ps sss =
    subst (λ names. SameFault (unfit ps sss) (unfit_from 0 (bares ps) (program_calls (bares ps) sss) names (bares ps) sss)) (names_bare ps)
    (subst (λ css. SameFault (unfit ps sss) (unfit_from 0 (bares ps) css (names_of ps) (bares ps) sss)) (calls_bare ps sss)
    (unfit_same 0 ps (program_calls ps sss) (names_of ps) ps sss))

cyclic_all : (ps : List ParsedTree) (sss : List (List SymbolTree)) → SameFault (cyclic ps sss) (cyclic (bares ps) sss)
cyclic_all ps sss =
    subst (λ names. SameFault (cyclic ps sss) (cyclic_from (reaches (callees_of (bares ps) sss)) 0 (bares ps) (program_calls (bares ps) sss) names)) (names_bare ps)
    (subst (λ css. SameFault (cyclic ps sss) (cyclic_from (reaches (callees_of (bares ps) sss)) 0 (bares ps) css (names_of ps))) (calls_bare ps sss)
    (subst (λ kss. SameFault (cyclic ps sss) (cyclic_from (reaches kss) 0 (bares ps) (program_calls ps sss) (names_of ps))) (callees_bare ps sss)
    (cyclic_same (reaches (callees_of ps sss)) 0 ps (program_calls ps sss) (names_of ps))))

link_same : (ps : List ParsedTree) (sss : List (List SymbolTree)) → SameGraph (link_of ps sss) (link_of (bares ps) sss)
link_same ps sss =
    let acyclic = unless_same (cyclic ps sss) (cyclic (bares ps) sss) (Ok (graph_of ps sss)) (Ok (graph_of (bares ps) sss)) (cyclic_all ps sss) (graph_same ps sss) in
    let joined = unless_same (unfit ps sss) (unfit (bares ps) sss) (acyclic_of ps sss) (acyclic_of (bares ps) sss) (unfit_all ps sss) acyclic in
    let named = unless_same (module_fault ps) (module_fault (bares ps)) (joined_of ps sss) (joined_of (bares ps) sss) (module_same ps) joined in
    unless_same (too_many ps) (too_many (bares ps)) (named_of ps sss) (named_of (bares ps) sss) (too_many_same ps) named

-- ---- the law

same_ok : (a b : Result Graph Fault) (g : Graph) → SameGraph a b → a ≡ Ok g → b ≡ Ok g
same_ok (Ok x) (Ok y) g h e = ap (λ (z : Graph). Ok z) (sym h) ∙ e
same_ok (Ok x) (Err f) g h e = absurd h
same_ok (Err f) b g h e = cc

ok_same : (a b : Result Graph Fault) (g : Graph) → SameGraph a b → b ≡ Ok g → a ≡ Ok g
ok_same (Ok x) (Ok y) g h e = ap (λ (z : Graph). Ok z) h ∙ e
ok_same (Err f) (Ok y) g h e = absurd h
ok_same a (Err f) g h e = cc

bares_trees : (ps : List ParsedTree) → bares ps ≡ map placeless (map tree_of ps)
bares_trees [] = refl
bares_trees (p ∷ ps) = ap (λ (qs : List ParsedTree). bare p ∷ qs) (bares_trees ps)

pub graphs_ignore_places : GraphsIgnorePlaces
graphs_ignore_places ps qs sss g same e =
    let bared = same_ok (link_of ps sss) (link_of (bares ps) sss) g (link_same ps sss) e in
    let trees : bares qs ≡ bares ps = bares_trees qs ∙ ap (map placeless) same ∙ sym (bares_trees ps) in
    ok_same (link_of qs sss) (link_of (bares qs) sss) g (link_same qs sss) (ap (λ (zs : List ParsedTree). link_of zs sss) trees ∙ bared)
