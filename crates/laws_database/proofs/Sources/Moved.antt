-- What is wrong with links of modules, and of the same modules at other lines.
use Rattle.std.proofs.Common.{◌≡◌, ℕ, suc, ◌+◌, Bool, true, false, ◌&&◌, ◌||◌, List, [], ◌∷◌, map, refl, sym, ap, ◌∙◌, subst, if◌then◌else◌}
use Rattle.std.specs.Prelude.{slice_get, option_map, Option, Some, None, Result, Ok, Err}
use Rattle.std.proofs.lemmas.Option.{slice_get-map}
use Rattle.f77_ast.specs.DeclTrees.{ParsedTree}
use Rattle.f77_ast.specs.Symbols.{SymbolTree, number_from}
use Rattle.f77_ast.specs.Hidden.{carrier_in}
use Rattle.fx_lists.specs.declared.code.Code.{Code}
use Rattle.fx_lists.specs.declared.code.Code.TheVariants.{Recursion}
use Rattle.call_graph.specs.declared.calls.Called.{Called}
use Rattle.call_graph.specs.declared.graph.Graph.{Graph}
use Rattle.call_graph.specs.declared.refusal.Fault.{Fault}
use Rattle.call_graph.specs.declared.refusal.Fault.TheVariants as fault
use Rattle.call_graph.specs.Faults.{or_fault, unless}
use Rattle.call_graph.specs.Modules.{most_modules, names_of, statement_line, carrier_or, call_line, too_many_at, too_many, is_place, twice_from, name_twice, second_main, main_twice, no_main}
use Rattle.call_graph.specs.Calls.{calls_of, all_calls}
use Rattle.call_graph.specs.Callees.{against_found, against_at, call_cause, or_later, first_in, unfit_at, unfit_from, all_places}
use Rattle.call_graph.specs.Recursion.{reaches, is_back, cyclic_in, cyclic_at, cyclic_from}
use Rattle.call_graph.specs.Links.{program_calls, callees_of, unfit, cyclic, graph_of, acyclic_of, joined_of, named_of, link_of}
use Rattle.laws_programs.specs.roundtrip_programs.Statements.Formed.{Each}
use Rattle.laws_programs.specs.roundtrip_programs.Pieces.Moved.{moved_spot, moved}
use Rattle.session_texts.specs.Sources.{refusal_for, source_refusal}
use Rattle.laws_database.proofs.Sources.Spots.{line_moved, has_moved}
use Rattle.laws_database.proofs.Sources.Calls.{spot_number, HasLine, CallsHaveLines}

-- each of the second modules is that of the first, its lines counted on by so many, which the place of the module says; the first has this place
abbrev pub AreMoved : (ℕ → ℕ) → ℕ → List ParsedTree → List ParsedTree → Type 0
AreMoved by k [] [] = Unit {0}
AreMoved by k [] (q ∷ qs) = ⊥
AreMoved by k (p ∷ ps) [] = ⊥
AreMoved by k (p ∷ ps) (q ∷ qs) = (q ≡ moved (by k) p) × AreMoved by (suc k) ps qs

pub moved_later : (by : ℕ → ℕ) (k : ℕ) (ps qs : List ParsedTree) → AreMoved (λ i. by (suc i)) k ps qs → AreMoved by (suc k) ps qs
moved_later by k [] [] h = tt
moved_later by k [] (q ∷ qs) h = absurd h
moved_later by k (p ∷ ps) [] h = absurd h
moved_later by k (p ∷ ps) (q ∷ qs) h = (h.0, moved_later by (suc k) ps qs h.1)

-- ---- what does not depend on lines

abbrev bare : ParsedTree → ParsedTree
bare p = record { module_read = p.module_read; places = record { spots = []; closing = [] } }

bares-same : (by : ℕ → ℕ) (k : ℕ) (ps qs : List ParsedTree) → AreMoved by k ps qs → map bare ps ≡ map bare qs
bares-same by k [] [] h = refl
bares-same by k [] (q ∷ qs) h = absurd h
bares-same by k (p ∷ ps) [] h = absurd h
bares-same by k (p ∷ ps) (q ∷ qs) h = ap (λ x. bare x ∷ map bare ps) (sym h.0) ∙ ap (λ xs. bare q ∷ xs) (bares-same by (suc k) ps qs h.1)

pub trees-same : (by : ℕ → ℕ) (k : ℕ) (ps qs : List ParsedTree) → AreMoved by k ps qs → map (λ p. p.module_read) ps ≡ map (λ p. p.module_read) qs
trees-same by k [] [] h = refl
trees-same by k [] (q ∷ qs) h = absurd h
trees-same by k (p ∷ ps) [] h = absurd h
trees-same by k (p ∷ ps) (q ∷ qs) h = ap (λ x. x.module_read ∷ map (λ p. p.module_read) ps) (sym h.0) ∙ ap (λ xs. q.module_read ∷ xs) (trees-same by (suc k) ps qs h.1)

names-same : (by : ℕ → ℕ) (k : ℕ) (ps qs : List ParsedTree) → AreMoved by k ps qs → names_of ps ≡ names_of qs
names-same by k [] [] h = refl
names-same by k [] (q ∷ qs) h = absurd h
names-same by k (p ∷ ps) [] h = absurd h
names-same by k (p ∷ ps) (q ∷ qs) h = ap (λ x. x.module_read.name ∷ names_of ps) (sym h.0) ∙ ap (λ xs. q.module_read.name ∷ xs) (names-same by (suc k) ps qs h.1)

calls-same : (by : ℕ → ℕ) (k : ℕ) (ps qs : List ParsedTree) (sss : List (List SymbolTree)) → AreMoved by k ps qs → program_calls ps sss ≡ program_calls qs sss
calls-same by k [] [] sss h = refl
calls-same by k [] (q ∷ qs) sss h = absurd h
calls-same by k (p ∷ ps) [] sss h = absurd h
calls-same by k (p ∷ ps) (q ∷ qs) [] h = refl
calls-same by k (p ∷ ps) (q ∷ qs) (ss ∷ sss) h =
    ap (λ x. calls_of x ss ∷ all_calls ps sss) (sym h.0) ∙ ap (λ (css : List (List Called)). calls_of q ss ∷ css) (calls-same by (suc k) ps qs sss h.1)

-- ---- modules that are not too many, with different names and one main program

no-more : (o r : Option ParsedTree) → option_map bare o ≡ option_map bare r → too_many_at r ≡ None → too_many_at o ≡ None
no-more None r e h = refl
no-more (Some p) None e h = cc
no-more (Some p) (Some q) e h = cc

not-too-many : (ps qs : List ParsedTree) → map bare ps ≡ map bare qs → too_many qs ≡ None → too_many ps ≡ None
not-too-many ps qs e h = no-more (slice_get ps most_modules) (slice_get qs most_modules) (sym (slice_get-map bare ps most_modules) ∙ ap (λ xs. slice_get xs most_modules) e ∙ slice_get-map bare qs most_modules) h

go-on : (b c : Bool) (f g : Option Fault) (x y : Fault) → b ≡ c → (if c then g else Some y) ≡ None → (g ≡ None → f ≡ None) → (if b then f else Some x) ≡ None
go-on true true f g x y e h i = i h
go-on true false f g x y e h i = cc
go-on false true f g x y e h i = cc
go-on false false f g x y e h i = cc

not-twice : (by : ℕ → ℕ) (k : ℕ) (names : List (List ℕ)) (ps qs : List ParsedTree) → AreMoved by k ps qs → twice_from k names qs ≡ None → twice_from k names ps ≡ None
not-twice by k names [] qs h e = refl
not-twice by k names (p ∷ ps) [] h e = absurd h
not-twice by k names (p ∷ ps) (q ∷ qs) h e =
    go-on (is_place k (number_from 0 names p.module_read.name)) (is_place k (number_from 0 names q.module_read.name)) _ _ _ _
    (ap (λ x. is_place k (number_from 0 names x.module_read.name)) (sym h.0)) e (not-twice by (suc k) names ps qs h.1)

stop-on : (b c : Bool) (f g : Option Fault) (x y : Fault) → b ≡ c → (if c then Some y else g) ≡ None → (g ≡ None → f ≡ None) → (if b then Some x else f) ≡ None
stop-on true true f g x y e h i = cc
stop-on true false f g x y e h i = cc
stop-on false true f g x y e h i = cc
stop-on false false f g x y e h i = i h

not-second : (by : ℕ → ℕ) (k : ℕ) (found : Bool) (ps qs : List ParsedTree) → AreMoved by k ps qs → second_main k found qs ≡ None → second_main k found ps ≡ None
not-second by k found [] qs h e = refl
not-second by k found (p ∷ ps) [] h e = absurd h
not-second by k found (p ∷ ps) (q ∷ qs) h e =
    let same : p.module_read.main ≡ q.module_read.main = ap (λ x. x.module_read.main) (sym h.0) in
    stop-on (p.module_read.main && found) (q.module_read.main && found) _ _ _ _ (ap (λ b. b && found) same) e
    (λ g. not-second by (suc k) (found || p.module_read.main) ps qs h.1 (ap (λ b. second_main (suc k) (found || b) qs) same ∙ g))

-- ---- the lines of faults

abbrev pub moved_fault : (ℕ → ℕ) → Fault → Fault
moved_fault by fault.NoMain = fault.NoMain
moved_fault by (fault.At place line cause) = fault.At place (line + by place) cause

abbrev later : (ℕ → ℕ) → Option Fault → Option Fault
later by o = option_map (moved_fault by) o

main-by : (by : ℕ → ℕ) (b c : Bool) (f g : Option Fault) → b ≡ c → later by f ≡ g → later by (if b then None else f) ≡ (if c then None else g)
main-by by true true f g e h = refl
main-by by true false f g e h = cc
main-by by false true f g e h = cc
main-by by false false f g e h = h

main-moved : (by : ℕ → ℕ) (k : ℕ) (ps qs : List ParsedTree) → AreMoved by k ps qs → later by (no_main ps) ≡ no_main qs
main-moved by k [] [] h = refl
main-moved by k [] (q ∷ qs) h = absurd h
main-moved by k (p ∷ ps) [] h = absurd h
main-moved by k (p ∷ ps) (q ∷ qs) h =
    main-by by p.module_read.main q.module_read.main (no_main ps) (no_main qs) (ap (λ x. x.module_read.main) (sym h.0)) (main-moved by (suc k) ps qs h.1)

line-at : (by n : ℕ) (p q : ParsedTree) → q ≡ moved by p → HasLine p n → call_line n p + by ≡ call_line n q
line-at by n p q e h =
    sym (line_moved by (spot_number n p) p.places.spots h)
    ∙ ap (λ b. statement_line (if b then n else carrier_or n (carrier_in n p.module_read.body)) (map (moved_spot by) p.places.spots)) (sym (has_moved by n p.places.spots))
    ∙ ap (call_line n) (sym e)

-- ---- CALLs that do not fit

against-by : (c : Called) (o : Option ParsedTree) (ss : Option (List SymbolTree)) → against_found c o ss ≡ against_found c (option_map bare o) ss
against-by c None ss = refl
against-by c (Some p) None = refl
against-by c (Some p) (Some ss) = refl

against-bare : (c : Called) (k : Option ℕ) (all : List ParsedTree) (sss : List (List SymbolTree)) → against_at c k all sss ≡ against_at c k (map bare all) sss
against-bare c None all sss = refl
against-bare c (Some k) all sss = against-by c (slice_get all k) (slice_get sss k) ∙ ap (λ o. against_found c o (slice_get sss k)) (sym (slice_get-map bare all k))

first-bare : (cs : List Called) (names : List (List ℕ)) (all : List ParsedTree) (sss : List (List SymbolTree)) → first_in cs names all sss ≡ first_in cs names (map bare all) sss
first-bare [] names all sss = refl
first-bare (c ∷ cs) names all sss =
    ap (λ x. or_later c.at x (first_in cs names all sss)) (against-bare c (number_from 0 names c.callee) all sss)
    ∙ ap (or_later c.at (call_cause c names (map bare all) sss)) (first-bare cs names all sss)

first-same : (cs : List Called) (names : List (List ℕ)) (all others : List ParsedTree) (sss : List (List SymbolTree)) → map bare all ≡ map bare others → first_in cs names all sss ≡ first_in cs names others sss
first-same cs names all others sss e = first-bare cs names all sss ∙ ap (λ xs. first_in cs names xs sss) e ∙ sym (first-bare cs names others sss)

-- the statement that is found is one of the CALLs
abbrev AtOne : (ℕ → Type 0) → Called → Type 0
AtOne P c = P c.at

first-is : (P : ℕ → Type 0) (cs : List Called) (names : List (List ℕ)) (all : List ParsedTree) (sss : List (List SymbolTree)) (n : ℕ) (cause : Code) → Each (AtOne P) cs → first_in cs names all sss ≡ Some (n, cause) → P n
first-is P [] names all sss n cause h e = cc
first-is P (c ∷ cs) names all sss n cause h e = go (call_cause c names all sss) e (first-is P cs names all sss n cause h.others)
  where
    go : (x : Option Code) → or_later c.at x (first_in cs names all sss) ≡ Some (n, cause) → (first_in cs names all sss ≡ Some (n, cause) → P n) → P n
    go None f ih = ih f
    go (Some d) f ih =
        let pair : ◌≡◌ {A = ℕ × Code} (c.at, d) (n, cause) = cc in subst P (ap (λ (x : ℕ × Code). x.0) pair) h.first

-- each CALL of each module has its line
abbrev Lined : List ParsedTree → List (List Called) → Type 0
Lined [] css = Unit {0}
Lined (p ∷ ps) [] = Unit {0}
Lined (p ∷ ps) (cs ∷ css) = Each (AtOne (HasLine p)) cs × Lined ps css

unfit-moved : (by : ℕ → ℕ) (k : ℕ) (ps qs : List ParsedTree) (css : List (List Called)) (names : List (List ℕ)) (all others : List ParsedTree) (sss : List (List SymbolTree))
    → map bare all ≡ map bare others → AreMoved by k ps qs → Lined ps css → later by (unfit_from k ps css names all sss) ≡ unfit_from k qs css names others sss
unfit-moved by k [] [] css names all others sss e h l = refl
unfit-moved by k [] (q ∷ qs) css names all others sss e h l = absurd h
unfit-moved by k (p ∷ ps) [] css names all others sss e h l = absurd h
unfit-moved by k (p ∷ ps) (q ∷ qs) [] names all others sss e h l = refl
unfit-moved by k (p ∷ ps) (q ∷ qs) (cs ∷ css) names all others sss e h l =
    go (first_in cs names all sss) refl (unfit-moved by (suc k) ps qs css names all others sss e h.1 l.1)
    ∙ ap (λ x. unfit_at k q x (unfit_from (suc k) qs css names others sss)) (first-same cs names all others sss e)
  where
    go : (x : Option (ℕ × Code)) → first_in cs names all sss ≡ x
        → later by (unfit_from (suc k) ps css names all sss) ≡ unfit_from (suc k) qs css names others sss
        → later by (unfit_at k p x (unfit_from (suc k) ps css names all sss)) ≡ unfit_at k q x (unfit_from (suc k) qs css names others sss)
    go None f ih = ih
    go (Some (n, cause)) f ih =
        ap (λ line. Some (fault.At k line cause)) (line-at (by k) n p q h.0 (first-is (HasLine p) cs names all sss n cause l.0 f))

-- ---- CALLs on a cycle of calls

cyclic-is : (P : ℕ → Type 0) (back : ℕ → Bool) (names : List (List ℕ)) (cs : List Called) (n : ℕ) → Each (AtOne P) cs → cyclic_in back names cs ≡ Some n → P n
cyclic-is P back names [] n h e = cc
cyclic-is P back names (c ∷ cs) n h e = go (is_back back (number_from 0 names c.callee)) e (cyclic-is P back names cs n h.others)
  where
    go : (b : Bool) → (if b then Some c.at else cyclic_in back names cs) ≡ Some n → (cyclic_in back names cs ≡ Some n → P n) → P n
    go true f ih = let same : c.at ≡ n = cc in subst P same h.first
    go false f ih = ih f

cyclic-moved : (by : ℕ → ℕ) (back : ℕ → ℕ → Bool) (k : ℕ) (ps qs : List ParsedTree) (css : List (List Called)) (names : List (List ℕ)) → AreMoved by k ps qs → Lined ps css
    → later by (cyclic_from back k ps css names) ≡ cyclic_from back k qs css names
cyclic-moved by back k [] [] css names h l = refl
cyclic-moved by back k [] (q ∷ qs) css names h l = absurd h
cyclic-moved by back k (p ∷ ps) [] css names h l = absurd h
cyclic-moved by back k (p ∷ ps) (q ∷ qs) [] names h l = refl
cyclic-moved by back k (p ∷ ps) (q ∷ qs) (cs ∷ css) names h l = go (cyclic_in (λ c. back c k) names cs) refl (cyclic-moved by back (suc k) ps qs css names h.1 l.1)
  where
    go : (x : Option ℕ) → cyclic_in (λ c. back c k) names cs ≡ x
        → later by (cyclic_from back (suc k) ps css names) ≡ cyclic_from back (suc k) qs css names
        → later by (cyclic_at k p x (cyclic_from back (suc k) ps css names)) ≡ cyclic_at k q x (cyclic_from back (suc k) qs css names)
    go None f ih = ih
    go (Some n) f ih =
        ap (λ line. Some (fault.At k line Recursion)) (line-at (by k) n p q h.0 (cyclic-is (HasLine p) (λ c. back c k) names cs n l.0 f))

-- ---- all of the links

abbrev pub wrong : Result Graph Fault → Option Fault
wrong (Ok g) = None
wrong (Err f) = Some f

wrong-unless : (f : Option Fault) (r : Result Graph Fault) → wrong (unless f r) ≡ or_fault f (wrong r)
wrong-unless None r = refl
wrong-unless (Some f) r = refl

-- what is wrong beside the number of the modules, their names, and a second main program
abbrev rest_wrong : List ParsedTree → List (List SymbolTree) → Option Fault
rest_wrong ps sss = or_fault (no_main ps) (or_fault (unfit ps sss) (or_fault (cyclic ps sss) None))

all-wrong : (ps : List ParsedTree) (sss : List (List SymbolTree)) → too_many ps ≡ None → name_twice ps ≡ None → main_twice ps ≡ None → wrong (link_of ps sss) ≡ rest_wrong ps sss
all-wrong ps sss a b c =
    ap (λ o. wrong (unless o (named_of ps sss))) a
    ∙ ap (λ o. wrong (unless (or_fault o (or_fault (main_twice ps) (no_main ps))) (joined_of ps sss))) b
    ∙ ap (λ o. wrong (unless (or_fault o (no_main ps)) (joined_of ps sss))) c
    ∙ wrong-unless (no_main ps) (joined_of ps sss)
    ∙ ap (or_fault (no_main ps)) (wrong-unless (unfit ps sss) (acyclic_of ps sss) ∙ ap (or_fault (unfit ps sss)) (wrong-unless (cyclic ps sss) (Ok (graph_of ps sss))))

or-moved : (by : ℕ → ℕ) (a b c d : Option Fault) → later by a ≡ b → later by c ≡ d → later by (or_fault a c) ≡ or_fault b d
or-moved by None None c d e f = f
or-moved by None (Some y) c d e f = cc
or-moved by (Some x) None c d e f = cc
or-moved by (Some x) (Some y) c d e f = e

all-lined : (ps : List ParsedTree) (sss : List (List SymbolTree)) → Each CallsHaveLines ps → Lined ps (program_calls ps sss)
all-lined [] sss h = tt
all-lined (p ∷ ps) [] h = tt
all-lined (p ∷ ps) (ss ∷ sss) h = (h.first ss, all-lined ps sss h.others)

rest-moved : (by : ℕ → ℕ) (ps qs : List ParsedTree) (sss : List (List SymbolTree)) → AreMoved by 0 ps qs → Each CallsHaveLines ps → later by (rest_wrong ps sss) ≡ rest_wrong qs sss
rest-moved by ps qs sss h l =
    let lined = all-lined ps sss l in
    let names = names-same by 0 ps qs h in
    let calls = calls-same by 0 ps qs sss h in
    let places : callees_of ps sss ≡ callees_of qs sss = ap (λ xs. all_places xs (program_calls ps sss)) names ∙ ap (all_places (names_of qs)) calls in
    let unfits : later by (unfit ps sss) ≡ unfit qs sss =
    unfit-moved by 0 ps qs (program_calls ps sss) (names_of ps) ps qs sss (bares-same by 0 ps qs h) h lined
    ∙ ap (λ css. unfit_from 0 qs css (names_of ps) qs sss) calls
    ∙ ap (λ ns. unfit_from 0 qs (program_calls qs sss) ns qs sss) names in
    let cycles : later by (cyclic ps sss) ≡ cyclic qs sss =
    cyclic-moved by (reaches (callees_of ps sss)) 0 ps qs (program_calls ps sss) (names_of ps) h lined
    ∙ ap (λ kss. cyclic_from (reaches kss) 0 qs (program_calls ps sss) (names_of ps)) places
    ∙ ap (λ css. cyclic_from (reaches (callees_of qs sss)) 0 qs css (names_of ps)) calls
    ∙ ap (λ ns. cyclic_from (reaches (callees_of qs sss)) 0 qs (program_calls qs sss) ns) names in
    or-moved by (no_main ps) (no_main qs) _ _ (main-moved by 0 ps qs h)
    (or-moved by (unfit ps sss) (unfit qs sss) _ _ unfits (or-moved by (cyclic ps sss) (cyclic qs sss) None None cycles refl))

record AllClean (ps : List ParsedTree) : Type 0 where
  few : too_many ps ≡ None
  names : name_twice ps ≡ None
  mains : main_twice ps ≡ None

clean-by : (a b c : Option Fault) → option_map refusal_for (or_fault a (or_fault b c)) ≡ None → (a ≡ None) × (b ≡ None) × (c ≡ None)
clean-by None None None e = (refl, refl, refl)
clean-by None None (Some f) e = cc
clean-by None (Some f) c e = cc
clean-by (Some f) b c e = cc

-- what is wrong with the moved modules, which have nothing that a source is refused for, is wrong with the others, at the lines from which they were moved
pub link_moved : (by : ℕ → ℕ) (ps qs : List ParsedTree) (sss : List (List SymbolTree)) → AreMoved by 0 ps qs → Each CallsHaveLines ps → source_refusal qs ≡ None
    → later by (wrong (link_of ps sss)) ≡ wrong (link_of qs sss)
link_moved by ps qs sss h l e =
    let c = clean-by (too_many qs) (name_twice qs) (main_twice qs) e in
    let few = not-too-many ps qs (bares-same by 0 ps qs h) c.0 in
    let names : name_twice ps ≡ None = ap (λ ns. twice_from 0 ns ps) (names-same by 0 ps qs h) ∙ not-twice by 0 (names_of qs) ps qs h c.1 in
    let mains : main_twice ps ≡ None = not-second by 0 false ps qs h c.2 in
    ap (later by) (all-wrong ps sss few names mains) ∙ rest-moved by ps qs sss h l ∙ sym (all-wrong qs sss c.0 c.1 c.2)

pub fault_moved : (by : ℕ → ℕ) (f : Fault) (r : Result Graph Fault) → later by (Some f) ≡ wrong r → r ≡ Err (moved_fault by f)
fault_moved by f (Ok g) e = cc
fault_moved by f (Err x) e = let same : moved_fault by f ≡ x = cc in ap Err (sym same)
