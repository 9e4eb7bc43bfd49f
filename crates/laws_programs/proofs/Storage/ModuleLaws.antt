-- Modules that link: their names, their graph, the areas of their variables.
use Rattle.std.proofs.Common.{◌≡◌, ℕ, zero, suc, ◌+◌, Bool, true, false, List, [], ◌∷◌, length, Option, Some, None, Result, Ok, refl, sym, ap, ◌∙◌, arith}
use Rattle.std.specs.Prelude.{if◌then◌else◌, slice_get, nat_eq}
use Rattle.std.proofs.lemmas.Bool.{eqb-true}
use Rattle.f77_ast.specs.DeclTrees.{ParsedTree}
use Rattle.f77_ast.specs.Symbols.{SymbolTree, number_from}
use Rattle.f77_ast.specs.Shared.{symbol_at}
use Rattle.tracked_cells.specs.Untracked.{untracked_of}
use Rattle.call_graph.specs.declared.graph.Graph.{Graph}
use Rattle.call_graph.specs.declared.refusal.Fault.{Fault}
use Rattle.call_graph.specs.declared.refusal.Fault.TheVariants as fault
use Rattle.fx_lists.specs.declared.code.Code.TheVariants.{ModuleTwice}
use Rattle.call_graph.specs.Faults.{unless, or_fault}
use Rattle.call_graph.specs.Modules.{too_many, names_of, module_line, is_place, twice_from, name_twice, main_twice, no_main}
use Rattle.call_graph.specs.Links.{unfit, cyclic, graph_of, module_fault, acyclic_of, joined_of, named_of, link_of}
use Rattle.f77_meaning.specs.Areas.{Area, own}
use Rattle.f77_meaning.specs.Modules.{Known, known_of}
use Rattle.f77_meaning.specs.Linked.{numbering}
use Rattle.f77_meaning.specs.Laws.{IsKnown, Declared, area_of}
use Rattle.f77_meaning.proofs.LinkLaws.{modules_are_known}
use Rattle.f77_meaning.proofs.BlockLaws.{areas_are_known}
use Rattle.f77_meaning.proofs.LinkedLaws.{linked_have_blocks, passed, is_graph as graph_is}
use Rattle.laws_programs.specs.Storage.Programs.{IsLinked, IsModule, known}
use Rattle.laws_programs.specs.Storage.CellLaws.{units, NamesTellModules}
use Rattle.laws_programs.proofs.Effects.Once.{once_of as none_twice, own_places as each_once}

-- ---- modules among those that are known

known_at : (ps : List ParsedTree) (sss : List (List SymbolTree)) (i : ℕ) (p : ParsedTree) (ss : List SymbolTree) → slice_get ps i ≡ Some p → slice_get sss i ≡ Some ss → slice_get (known_of ps sss) i ≡ Some (known p ss)
known_at [] sss i p ss e f = cc
known_at (q ∷ ps) [] i p ss e f = cc
known_at (q ∷ ps) (tt' ∷ sss) zero p ss e f =
    let one : q ≡ p = cc in
    let two : tt' ≡ ss = cc in
    ap (λ z. Some (known z tt')) one ∙ ap (λ z. Some (known p z)) two
known_at (q ∷ ps) (tt' ∷ sss) (suc i) p ss e f = known_at ps sss i p ss e f

pub known_module : (ps : List ParsedTree) (sss : List (List SymbolTree)) (i : ℕ) (p : ParsedTree) (ss : List SymbolTree) → IsModule ps sss i p ss → slice_get (known_of ps sss) i ≡ Some (known p ss)
known_module ps sss i p ss m = known_at ps sss i p ss m.parsed m.table

pub declared : (ps : List ParsedTree) (sss : List (List SymbolTree)) (i : ℕ) (p : ParsedTree) (ss : List SymbolTree) → IsModule ps sss i p ss → (n : ℕ) (s : SymbolTree) → symbol_at ss n ≡ Some s → Declared (known_of ps sss) (known p ss) n s
declared ps sss i p ss m n s e = record { at = i; is_module = known_module ps sss i p ss m; is_symbol = e }

-- ---- the graph

pub untracked_are : (ps : List ParsedTree) (sss : List (List SymbolTree)) (g : Graph) → link_of ps sss ≡ Ok g → g.untracked ≡ untracked_of ps sss
untracked_are ps sss g e = ap (λ x. x.untracked) (sym (graph_is ps sss g e))

-- ---- names

first_none : (o p : Option Fault) → or_fault o p ≡ None → o ≡ None
first_none None p e = refl
first_none (Some f) p e = cc

is_that : (k : ℕ) (o : Option ℕ) → is_place k o ≡ true → o ≡ Some k
is_that k None h = cc
is_that k (Some m) h = ap Some (eqb-true m k h)

pub place_of_name : (ps : List ParsedTree) (sss : List (List SymbolTree)) (g : Graph) → link_of ps sss ≡ Ok g → (i : ℕ) (p : ParsedTree) → slice_get ps i ≡ Some p → number_from 0 (names_of ps) p.module_read.name ≡ Some i
place_of_name ps sss g e i p h = let more : 0 + i ≡ i = omega arith in each_once 0 (names_of ps) ps i p (none_twice ps sss g e) h ∙ ap Some more

pub names_tell_modules : NamesTellModules
names_tell_modules ps sss g l i j p q ss tt' m n e =
    let one = place_of_name ps sss g l.links i p m.parsed in
    let two = place_of_name ps sss g l.links j q n.parsed in
    let both : Some i ≡ Some j = sym one ∙ ap (number_from 0 (names_of ps)) e ∙ two in
    cc

-- ---- areas

pub area_known : (ps : List ParsedTree) (sss : List (List SymbolTree)) (g : Graph) → IsLinked ps sss g → (i : ℕ) (p : ParsedTree) (ss : List SymbolTree) → IsModule ps sss i p ss → (n : ℕ) (s : SymbolTree) (a : Area) → symbol_at ss n ≡ Some s → area_of p.module_read.name s.place ≡ Some a → IsKnown (units ps sss g) a
area_known ps sss g l i p ss m n s a e f = areas_are_known (known_of ps sss) g (known p ss) n s a (linked_have_blocks ps sss g l.many l.links) (declared ps sss i p ss m n s e) f

pub own_known : (ps : List ParsedTree) (sss : List (List SymbolTree)) (g : Graph) (i : ℕ) (p : ParsedTree) (ss : List SymbolTree) → IsModule ps sss i p ss → (call place : ℕ) → IsKnown (units ps sss g) (own p.module_read.name call place)
own_known ps sss g i p ss m call place = modules_are_known (known_of ps sss) g i 0 (known p ss) (known_module ps sss i p ss m)
