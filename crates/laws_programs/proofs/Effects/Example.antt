-- A program of two modules with a CALL, an array dummy, COMMON and a local: it is read, linked and summarised as the law asks, and these
-- are its effects.
use Rattle.std.proofs.Common.{◌≡◌, inl, ℕ, zero, suc, true, false, List, [], ◌∷◌, Some, None, Ok, refl, sym, ap, ◌∙◌, subst, pos, arith}
use Rattle.std.specs.Prelude.{codes, if◌then◌else◌, bytes_eq, slice_get}
use Rattle.f77_ast.specs.declared.decl.Scalar.TheVariants as scalar
use Rattle.f77_ast.specs.Plain.{exprs_of}
use Rattle.f77_ast.specs.Trees.{int, name, element, StmtTrees, stmt, assign, call, print, read}
use Rattle.f77_ast.specs.DeclTrees.{ParsedTree}
use Rattle.f77_ast.specs.declared.symbol.Place.TheVariants as place
use Rattle.f77_ast.specs.declared.variable.Variable.TheVariants.{Own}
use Rattle.f77_ast.specs.Symbols.{SymbolTree}
use Rattle.f77_ast.specs.declared.effect_set.EffectSet.{EffectSet}
use Rattle.f77_ast.specs.Summaries.{SummaryTree}
use Rattle.f77_ast.specs.Store.{Int, content}
use Rattle.f77_ast.specs.Runs.{Ran, Gave}
use Rattle.f77_ast.specs.Plans.{Flow, Normal}
use Rattle.f77_ast.specs.Programs.{program_run}
use Rattle.f77_meaning.specs.Areas.{block, group, unit_at}
use Rattle.f77_meaning.specs.Accesses.{is_read, is_written}
use Rattle.call_graph.specs.declared.graph.Graph.{Graph}
use Rattle.call_graph.specs.declared.calls.Called.{Called}
use Rattle.call_graph.specs.Actuals.{actuals_of}
use Rattle.call_graph.specs.Calls.{calls_of}
use Rattle.call_graph.specs.Links.{graph_of, link_of}
use Rattle.f77_meaning.specs.Modules.{Known, known_of, fixed}
use Rattle.f77_meaning.specs.Linked.{numbering, program_of}
use Rattle.f77_meaning.specs.Claimed.{InEveryRun}
use Rattle.f77_meaning.proofs.CaseWords.{stmts_of, bound, symbol}
use Rattle.effects.specs.List.{Callees, at}
use Rattle.effects.specs.Modules.{cumulated_of}
use Rattle.laws_programs.specs.Effects.Tables.{IsRead}
use Rattle.laws_programs.specs.Effects.Claims.{is_unit_of_some, IsOfModule}
use Rattle.laws_programs.specs.Effects.Laws.{summary_for, AreSummarised, AreRead}
use Rattle.laws_programs.proofs.Effects.Law.{effects_are_of_runs}

-- PROGRAM P, INTEGER T(3), COMMON /B/ K: K=3, CALL A(T), PRINT *,T(2)
abbrev body_p : StmtTrees
body_p = stmts_of (
    stmt 1 None (assign (name (codes "K")) (int (pos 3)))
    ∷ stmt 2 None (call (codes "A") (exprs_of (name (codes "T") ∷ [])))
    ∷ stmt 3 None (print (exprs_of (element (codes "T") (exprs_of (int (pos 2) ∷ [])) ∷ [])))
    ∷ [])

abbrev symbols_p : List SymbolTree
symbols_p = symbol (codes "T") scalar.Int (bound (int (pos 1)) (Some (int (pos 3))) ∷ []) (place.Local 1 0) false [] ∷ symbol (codes "K") scalar.Int [] (place.Block (codes "B") 0) false [] ∷ []

-- SUBROUTINE A(X), INTEGER X(J), COMMON /B/ J: READ *,L, X(L)=J
abbrev body_a : StmtTrees
body_a = stmts_of (stmt 1 None (read (exprs_of (name (codes "L") ∷ []))) ∷ stmt 2 None (assign (element (codes "X") (exprs_of (name (codes "L") ∷ []))) (name (codes "J"))) ∷ [])

abbrev symbols_a : List SymbolTree
symbols_a = symbol (codes "X") scalar.Int (bound (int (pos 1)) (Some (name (codes "J"))) ∷ []) (place.Dummy 1) false [] ∷ symbol (codes "J") scalar.Int [] (place.Block (codes "B") 0) false [] ∷ symbol (codes "L") scalar.Int [] (place.Local 1 0) false [] ∷ []

abbrev parsed : ParsedTree
parsed = record { module_read = record { name = codes "P"; main = true; titled = true; dummies = []; decls = []; body = body_p; function = None; references = []; whiles = [] }; places = record { spots = []; closing = [] } }

abbrev callee : ParsedTree
callee = record { module_read = record { name = codes "A"; main = false; titled = true; dummies = codes "X" ∷ []; decls = []; body = body_a; function = None; references = []; whiles = [] }; places = record { spots = []; closing = [] } }

abbrev programs : List ParsedTree
programs = parsed ∷ callee ∷ []

abbrev symbols : List (List SymbolTree)
symbols = symbols_p ∷ symbols_a ∷ []

abbrev links : Graph
links = graph_of programs symbols

linked : link_of programs symbols ≡ Ok links
linked = refl

-- A calls nothing
abbrev summary_a : SummaryTree EffectSet
summary_a = record { symbols = symbols_a; value = (cumulated_of body_a (λ x. None) symbols_a).summary }

abbrev tables : List ℕ → Callees
tables m = if bytes_eq m (codes "P") then (λ x. if bytes_eq x (codes "A") then Some summary_a else None) else (λ x. None)

-- it reads the bound and the right side, which is K to P, and writes the elements; L passes away
at_call : slice_get (cumulated_of body_p (tables (codes "P")) symbols_p).at 1 ≡ Some (at 2 (record { reads = Own 2 ∷ []; writes = Own 1 ∷ []; io = true; stops = false }))
at_call = refl

abbrev known_p : Known
known_p = record { read = parsed.module_read; symbols = symbols_p }

abbrev known_a : Known
known_a = record { read = callee.module_read; symbols = symbols_a }

-- ---- a run: L is 2, so X(2), which is T(2), is 3

abbrev modules : List Known
modules = known_of programs symbols

abbrev ran : Ran Flow
ran = program_run (program_of modules links) 0 (content Int (pos 2) ∷ [])

ends : ran.answer ≡ Gave Normal
ends = refl

-- the second unit of T and the unit of K
writes_it : is_written (unit_at (numbering modules links) (group (codes "P") 1) 1) ran.trace ≡ true
writes_it = refl

reads_it : is_read (unit_at (numbering modules links) (block (codes "B")) 0) ran.trace ≡ true
reads_it = refl

-- they are units of the variables that the effects name at the CALL, and of no others
among : is_unit_of_some modules links (fixed (numbering modules links) known_p) (Own 1 ∷ []) (unit_at (numbering modules links) (group (codes "P") 1) 1) ≡ true
among = refl

not_among : is_unit_of_some modules links (fixed (numbering modules links) known_p) (Own 2 ∷ []) (unit_at (numbering modules links) (group (codes "P") 1) 1) ≡ false
not_among = refl

-- ---- the law's premises

read_p : IsRead known_p
read_p = record {
  name = refl;
  dummies = (refl, (refl, tt));
  main = λ e. refl;
  bounds = ((tt, tt, tt), (tt, tt));
  body = ((omega arith, (refl, tt)), ((omega arith, ((tt, tt), tt)), ((omega arith, ((inl refl, (tt, tt)), tt)), tt)));
}

read_a : IsRead known_a
read_a = record {
  name = refl;
  dummies = (refl, (refl, (refl, tt)));
  main = λ e. cc;
  bounds = ((tt, refl, tt), (tt, (tt, tt)));
  body = ((omega arith, (refl, tt)), ((omega arith, ((inl refl, (refl, tt)), refl)), tt));
}

all_read : AreRead (known_of programs symbols)
all_read zero k e = let same : known_p ≡ k = cc in subst IsRead same read_p
all_read (suc zero) k e = let same : known_a ≡ k = cc in subst IsRead same read_a
all_read (suc (suc n)) k e = cc

other_name : codes "P" ≡ codes "A" → ⊥
other_name e = let t : bytes_eq (codes "P") (codes "P") ≡ true = refl in let f : bytes_eq (codes "P") (codes "P") ≡ false = ap (bytes_eq (codes "P")) e in cc

named_a : (n : ℕ) (k : Known) → slice_get (known_of programs symbols) n ≡ Some k → k.read.name ≡ codes "A" → known_a ≡ k
named_a zero k e named = let same : known_p ≡ k = cc in absurd (other_name (ap (λ x. x.read.name) same ∙ named))
named_a (suc zero) k e named = cc
named_a (suc (suc n)) k e named = cc

of_call : (c : Called) (i : ℕ) → slice_get (calls_of parsed symbols_p) i ≡ Some c → codes "A" ≡ c.callee
of_call c zero e = let same : record { at = 2; callee = codes "A"; actuals = actuals_of (exprs_of (name (codes "T") ∷ [])) symbols_p } ≡ c = cc in ap (λ x. x.callee) same
of_call c (suc i) e = cc

summarised : AreSummarised programs symbols tables
summarised zero p ss e h j c q n k m named =
    let p_is : parsed ≡ p = cc in
    let s_is : symbols_p ≡ ss = cc in
    let there = of_call c j (subst (λ x. slice_get (calls_of x symbols_p) j ≡ Some c) (sym p_is) (subst (λ y. slice_get (calls_of p y) j ≡ Some c) (sym s_is) q)) in
    let one = named_a n k m (named ∙ sym there) in
    subst (λ x. tables x.module_read.name c.callee ≡ Some (summary_for tables k)) p_is (subst (λ x. tables (codes "P") x ≡ Some (summary_for tables k)) there (ap (λ y. Some (summary_for tables y)) one))
summarised (suc zero) p ss e h j c q n k m named =
    let p_is : callee ≡ p = cc in
    let s_is : symbols_a ≡ ss = cc in
    let none : slice_get (calls_of callee symbols_a) j ≡ Some c = subst (λ x. slice_get (calls_of x symbols_a) j ≡ Some c) (sym p_is) (subst (λ y. slice_get (calls_of p y) j ≡ Some c) (sym s_is) q) in
    cc
summarised (suc (suc i)) p ss e h j c q n k m named = cc

-- ---- and what it says

holds : InEveryRun (known_of programs symbols) links (λ x. IsOfModule (known_of programs symbols) links tables x)
holds = effects_are_of_runs programs symbols links tables refl linked all_read summarised
