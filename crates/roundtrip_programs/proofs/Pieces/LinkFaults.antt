-- Modules that do not link are refused for the same module and the same cause wherever their statements stand.
use Rattle.std.proofs.Common.{◌≡◌, ℕ, suc, Bool, true, false, List, [], ◌∷◌, map, refl, sym, ap, ◌∙◌}
use Rattle.std.specs.Prelude.{if◌then◌else◌, ◌&&◌, ◌||◌, slice_get, option_map, Option, Some, None, Result, Ok, Err}
use Rattle.std.proofs.lemmas.Option.{slice_get-map}
use Rattle.f77_ast.specs.DeclTrees.{ParsedTree}
use Rattle.f77_ast.specs.Symbols.{SymbolTree, number_from}
use Rattle.call_graph.specs.declared.calls.Called.{Called}
use Rattle.call_graph.specs.declared.graph.Graph.{Graph}
use Rattle.fx_lists.specs.declared.code.Code.{Code}
use Rattle.fx_lists.specs.declared.code.Code.TheVariants.{TwoMains, ModuleTwice}
use Rattle.call_graph.specs.declared.refusal.Fault.{Fault}
use Rattle.call_graph.specs.declared.refusal.Fault.TheVariants as fault
use Rattle.call_graph.specs.Faults.{or_fault, unless}
use Rattle.call_graph.specs.Modules.{most_modules, names_of, module_line, too_many_at, too_many, is_place, twice_from, name_twice, second_main, main_twice, no_main}
use Rattle.call_graph.specs.Calls.{calls_of}
use Rattle.call_graph.specs.Callees.{against_found, against_at, call_cause, or_later, first_in, unfit_at, unfit_from, all_places}
use Rattle.call_graph.specs.Recursion.{reaches, cyclic_in, cyclic_at, cyclic_from}
use Rattle.call_graph.specs.Links.{program_calls, callees_of, unfit, cyclic, graph_of, module_fault, acyclic_of, joined_of, named_of, link_of}
use Rattle.roundtrip_programs.specs.Laws.{tree_of}
use Rattle.roundtrip_programs.specs.Pieces.Faults.{lineless, SameFault, FaultsIgnorePlaces}
use Rattle.roundtrip_programs.proofs.Graphs.{placeless}

abbrev bare : ParsedTree → ParsedTree
bare p = placeless p.module_read

abbrev bares : List ParsedTree → List ParsedTree
bares ps = map bare ps

abbrev shown : Option Fault → Option Fault
shown o = option_map lineless o

-- what is the same of modules at other places
record Same (f g : Option Fault) : Type 0 where
  pub same : shown f ≡ shown g

-- ---- modules

names-bare : (ps : List ParsedTree) → names_of ps ≡ names_of (bares ps)
names-bare [] = refl
names-bare (p ∷ ps) = ap (λ xs. p.module_read.name ∷ xs) (names-bare ps)

too-many-by : (o : Option ParsedTree) → shown (too_many_at o) ≡ shown (too_many_at (option_map bare o))
too-many-by None = refl
too-many-by (Some p) = refl

too-many-same : (ps : List ParsedTree) → Same (too_many ps) (too_many (bares ps))
too-many-same ps = record { same = too-many-by (slice_get ps most_modules) ∙ ap (λ o. shown (too_many_at o)) (sym (slice_get-map bare ps most_modules)) }

twice-by : (b : Bool) (k : ℕ) (p : ParsedTree) (f g : Option Fault) → shown f ≡ shown g
    → shown (if b then f else Some (fault.At k (module_line p) ModuleTwice)) ≡ shown (if b then g else Some (fault.At k 0 ModuleTwice))
twice-by true k p f g h = h
twice-by false k p f g h = refl

twice-same : (k : ℕ) (names : List (List ℕ)) (ps : List ParsedTree) → shown (twice_from k names ps) ≡ shown (twice_from k names (bares ps))
twice-same k names [] = refl
twice-same k names (p ∷ ps) = twice-by (is_place k (number_from 0 names p.module_read.name)) k p _ _ (twice-same (suc k) names ps)

name-twice-same : (ps : List ParsedTree) → shown (name_twice ps) ≡ shown (name_twice (bares ps))
name-twice-same ps = twice-same 0 (names_of ps) ps ∙ ap (λ names. shown (twice_from 0 names (bares ps))) (names-bare ps)

second-by : (b : Bool) (k : ℕ) (p : ParsedTree) (f g : Option Fault) → shown f ≡ shown g
    → shown (if b then Some (fault.At k (module_line p) TwoMains) else f) ≡ shown (if b then Some (fault.At k 0 TwoMains) else g)
second-by true k p f g h = refl
second-by false k p f g h = h

second-same : (k : ℕ) (found : Bool) (ps : List ParsedTree) → shown (second_main k found ps) ≡ shown (second_main k found (bares ps))
second-same k found [] = refl
second-same k found (p ∷ ps) = second-by (p.module_read.main && found) k p _ _ (second-same (suc k) (found || p.module_read.main) ps)

no-main-by : (b : Bool) (f g : Option Fault) → shown f ≡ shown g → shown (if b then None else f) ≡ shown (if b then None else g)
no-main-by true f g h = refl
no-main-by false f g h = h

no-main-same : (ps : List ParsedTree) → shown (no_main ps) ≡ shown (no_main (bares ps))
no-main-same [] = refl
no-main-same (p ∷ ps) = no-main-by p.module_read.main _ _ (no-main-same ps)

or-same : (a b f g : Option Fault) → shown a ≡ shown b → shown f ≡ shown g → shown (or_fault a f) ≡ shown (or_fault b g)
or-same None None f g k h = h
or-same None (Some y) f g k h = cc
or-same (Some x) None f g k h = cc
or-same (Some x) (Some y) f g k h = k

module-same : (ps : List ParsedTree) → Same (module_fault ps) (module_fault (bares ps))
module-same ps = record {
  same = or-same (name_twice ps) (name_twice (bares ps)) _ _ (name-twice-same ps)
      (or-same (main_twice ps) (main_twice (bares ps)) (no_main ps) (no_main (bares ps)) (second-same 0 false ps) (no-main-same ps));
}

-- ---- CALLs

calls-bare : (ps : List ParsedTree) (sss : List (List SymbolTree)) → program_calls ps sss ≡ program_calls (bares ps) sss
calls-bare [] sss = refl
calls-bare (p ∷ ps) [] = refl
calls-bare (p ∷ ps) (ss ∷ sss) = ap (λ (css : List (List Called)). calls_of p ss ∷ css) (calls-bare ps sss)

against-by : (c : Called) (o : Option ParsedTree) (ss : Option (List SymbolTree)) → against_found c o ss ≡ against_found c (option_map bare o) ss
against-by c None ss = refl
against-by c (Some p) None = refl
against-by c (Some p) (Some ss) = refl

against-bare : (c : Called) (k : Option ℕ) (all : List ParsedTree) (sss : List (List SymbolTree)) → against_at c k all sss ≡ against_at c k (bares all) sss
against-bare c None all sss = refl
against-bare c (Some k) all sss = against-by c (slice_get all k) (slice_get sss k) ∙ ap (λ o. against_found c o (slice_get sss k)) (sym (slice_get-map bare all k))

first-bare : (cs : List Called) (names : List (List ℕ)) (all : List ParsedTree) (sss : List (List SymbolTree)) → first_in cs names all sss ≡ first_in cs names (bares all) sss
first-bare [] names all sss = refl
first-bare (c ∷ cs) names all sss =
    ap (λ x. or_later c.at x (first_in cs names all sss)) (against-bare c (number_from 0 names c.callee) all sss)
    ∙ ap (or_later c.at (call_cause c names (bares all) sss)) (first-bare cs names all sss)

unfit-by : (k : ℕ) (p : ParsedTree) (x : Option (ℕ × Code)) (f g : Option Fault) → shown f ≡ shown g → shown (unfit_at k p x f) ≡ shown (unfit_at k (bare p) x g)
unfit-by k p None f g h = h
unfit-by k p (Some (n, cause)) f g h = refl

unfit-same : (k : ℕ) (ps : List ParsedTree) (css : List (List Called)) (names : List (List ℕ)) (all : List ParsedTree) (sss : List (List SymbolTree))
    → shown (unfit_from k ps css names all sss) ≡ shown (unfit_from k (bares ps) css names (bares all) sss)
unfit-same k [] css names all sss = refl
unfit-same k (p ∷ ps) [] names all sss = refl
unfit-same k (p ∷ ps) (cs ∷ css) names all sss =
    unfit-by k p (first_in cs names all sss) _ _ (unfit-same (suc k) ps css names all sss)
    ∙ ap (λ x. shown (unfit_at k (bare p) x (unfit_from (suc k) (bares ps) css names (bares all) sss))) (first-bare cs names all sss)

cyclic-by : (k : ℕ) (p : ParsedTree) (x : Option ℕ) (f g : Option Fault) → shown f ≡ shown g → shown (cyclic_at k p x f) ≡ shown (cyclic_at k (bare p) x g)
cyclic-by k p None f g h = h
cyclic-by k p (Some n) f g h = refl

cyclic-same : (back : ℕ → ℕ → Bool) (k : ℕ) (ps : List ParsedTree) (css : List (List Called)) (names : List (List ℕ)) → shown (cyclic_from back k ps css names) ≡ shown (cyclic_from back k (bares ps) css names)
cyclic-same back k [] css names = refl
cyclic-same back k (p ∷ ps) [] names = refl
cyclic-same back k (p ∷ ps) (cs ∷ css) names = cyclic-by k p (cyclic_in (λ c. back c k) names cs) _ _ (cyclic-same back (suc k) ps css names)

callees-bare : (ps : List ParsedTree) (sss : List (List SymbolTree)) → callees_of ps sss ≡ callees_of (bares ps) sss
callees-bare ps sss = ap (λ xs. all_places xs (program_calls ps sss)) (names-bare ps) ∙ ap (all_places (names_of (bares ps))) (calls-bare ps sss)

unfit-all : (ps : List ParsedTree) (sss : List (List SymbolTree)) → Same (unfit ps sss) (unfit (bares ps) sss)
unfit-all ps sss = record {
  same = unfit-same 0 ps (program_calls ps sss) (names_of ps) ps sss
      ∙ ap (λ css. shown (unfit_from 0 (bares ps) css (names_of ps) (bares ps) sss)) (calls-bare ps sss)
      ∙ ap (λ names. shown (unfit_from 0 (bares ps) (program_calls (bares ps) sss) names (bares ps) sss)) (names-bare ps);
}

cyclic-all : (ps : List ParsedTree) (sss : List (List SymbolTree)) → Same (cyclic ps sss) (cyclic (bares ps) sss)
cyclic-all ps sss = record {
  same = cyclic-same (reaches (callees_of ps sss)) 0 ps (program_calls ps sss) (names_of ps)
      ∙ ap (λ kss. shown (cyclic_from (reaches kss) 0 (bares ps) (program_calls ps sss) (names_of ps))) (callees-bare ps sss)
      ∙ ap (λ css. shown (cyclic_from (reaches (callees_of (bares ps) sss)) 0 (bares ps) css (names_of ps))) (calls-bare ps sss)
      ∙ ap (λ names. shown (cyclic_from (reaches (callees_of (bares ps) sss)) 0 (bares ps) (program_calls (bares ps) sss) names)) (names-bare ps);
}

-- ---- the links

-- what is wrong, where something is
abbrev wrong : Result Graph Fault → Option Fault
wrong (Ok g) = None
wrong (Err f) = Some (lineless f)

unless-same : (f g : Option Fault) (r s : Result Graph Fault) → Same f g → wrong r ≡ wrong s → wrong (unless f r) ≡ wrong (unless g s)
unless-same None None r s k h = h
unless-same None (Some y) r s k h = let e = k.same in cc
unless-same (Some x) None r s k h = let e = k.same in cc
unless-same (Some x) (Some y) r s k h = k.same

link-same : (ps : List ParsedTree) (sss : List (List SymbolTree)) → wrong (link_of ps sss) ≡ wrong (link_of (bares ps) sss)
link-same ps sss =
    let acyclic = unless-same (cyclic ps sss) (cyclic (bares ps) sss) (Ok (graph_of ps sss)) (Ok (graph_of (bares ps) sss)) (cyclic-all ps sss) refl in
    let joined = unless-same (unfit ps sss) (unfit (bares ps) sss) (acyclic_of ps sss) (acyclic_of (bares ps) sss) (unfit-all ps sss) acyclic in
    let named = unless-same (module_fault ps) (module_fault (bares ps)) (joined_of ps sss) (joined_of (bares ps) sss) (module-same ps) joined in
    unless-same (too_many ps) (too_many (bares ps)) (named_of ps sss) (named_of (bares ps) sss) (too-many-same ps) named

bares-trees : (ps : List ParsedTree) → bares ps ≡ map placeless (map tree_of ps)
bares-trees [] = refl
bares-trees (p ∷ ps) = ap (λ qs. bare p ∷ qs) (bares-trees ps)

fault-of : (r : Result Graph Fault) (qs : List ParsedTree) (sss : List (List SymbolTree)) (f : Fault) → link_of qs sss ≡ r → wrong r ≡ Some (lineless f) → SameFault qs sss f
fault-of (Ok g) qs sss f e h = cc
fault-of (Err x) qs sss f e h = record { found = x; refused = e; same = let s : lineless x ≡ lineless f = cc in s }

pub faults_ignore_places : FaultsIgnorePlaces
faults_ignore_places ps qs sss f same e =
    let trees : bares qs ≡ bares ps = bares-trees qs ∙ ap (map placeless) same ∙ sym (bares-trees ps) in
    fault-of (link_of qs sss) qs sss f refl
    (link-same qs sss ∙ ap (λ zs. wrong (link_of zs sss)) trees ∙ sym (link-same ps sss) ∙ ap wrong e)
