-- Modules of one name are one module, and saved locals are found by names.
use Rattle.std.proofs.Common.{◌≡◌, ℕ, zero, suc, ◌+◌, Bool, true, false, List, [], ◌∷◌, length, Option, Some, None, Result, Ok, refl, sym, ap, ◌∙◌, arith}
use Rattle.std.specs.Prelude.{if◌then◌else◌, ◌||◌, bytes_eq, nat_eq, slice_get}
use Rattle.std.specs.List.{list_any}
use Rattle.std.proofs.lemmas.Bool.{eqb-true}
use Rattle.std.proofs.lemmas.Slice.Eq.{bytes_eq-Decides}
use Rattle.f77_ast.specs.DeclTrees.{ParsedTree}
use Rattle.f77_ast.specs.Symbols.{SymbolTree, number_from}
use Rattle.call_graph.specs.declared.graph.Graph.{Graph}
use Rattle.call_graph.specs.declared.refusal.Fault.{Fault}
use Rattle.call_graph.specs.declared.refusal.Fault.TheVariants as fault
use Rattle.fx_lists.specs.declared.code.Code.TheVariants.{ModuleTwice}
use Rattle.call_graph.specs.Faults.{or_fault, unless}
use Rattle.call_graph.specs.Modules.{too_many, module_line, is_place, twice_from, name_twice, main_twice, no_main, names_of}
use Rattle.call_graph.specs.Links.{module_fault, joined_of, named_of, link_of}
use Rattle.f77_meaning.specs.Modules.{Known, known_of, symbol_names}
use Rattle.f77_meaning.specs.Claims.{fixed_by, saved_place}
use Rattle.laws_programs.proofs.Effects.Callers.{SavedFound}
use Rattle.f77_meaning.proofs.LinkedLaws.{passed}

-- ---- what linking finds of modules

pub no_fault : (o p : Option Fault) → or_fault o p ≡ None → (o ≡ None) × (p ≡ None)
no_fault None p e = (refl, e)
no_fault (Some f) p e = cc

module_none : (ps : List ParsedTree) (sss : List (List SymbolTree)) (g : Graph) → link_of ps sss ≡ Ok g → module_fault ps ≡ None
module_none ps sss g e = (passed (module_fault ps) (joined_of ps sss) g (passed (too_many ps) (named_of ps sss) g e).1).0

pub once_of : (ps : List ParsedTree) (sss : List (List SymbolTree)) (g : Graph) → link_of ps sss ≡ Ok g → name_twice ps ≡ None
once_of ps sss g e = (no_fault (name_twice ps) (or_fault (main_twice ps) (no_main ps)) (module_none ps sss g e)).0

pub main_of_linked : (ps : List ParsedTree) (sss : List (List SymbolTree)) (g : Graph) → link_of ps sss ≡ Ok g → no_main ps ≡ None
main_of_linked ps sss g e = (no_fault (main_twice ps) (no_main ps) (no_fault (name_twice ps) (or_fault (main_twice ps) (no_main ps)) (module_none ps sss g e)).1).1

at_own : (k : ℕ) (names : List (List ℕ)) (p : ParsedTree) (rest : Option Fault) → (if is_place k (number_from 0 names p.module_read.name) then rest else Some (fault.At k (module_line p) ModuleTwice)) ≡ None → (number_from 0 names p.module_read.name ≡ Some k) × (rest ≡ None)
at_own k names p rest e = by_number (number_from 0 names p.module_read.name) refl e
  where
    by_test : (m : ℕ) (b : Bool) → nat_eq m k ≡ b → (if b then rest else Some (fault.At k (module_line p) ModuleTwice)) ≡ None → (Some m ≡ Some k) × (rest ≡ None)
    by_test m true q h = (ap Some (eqb-true m k q), h)
    by_test m false q h = cc

    by_number : (o : Option ℕ) → number_from 0 names p.module_read.name ≡ o → (if is_place k o then rest else Some (fault.At k (module_line p) ModuleTwice)) ≡ None → (number_from 0 names p.module_read.name ≡ Some k) × (rest ≡ None)
    by_number None q h = cc
    by_number (Some m) q h = let r = by_test m (nat_eq m k) refl h in (q ∙ r.0, r.1)

pub own_places : (k : ℕ) (names : List (List ℕ)) (qs : List ParsedTree) (i : ℕ) (p : ParsedTree) → twice_from k names qs ≡ None → slice_get qs i ≡ Some p → number_from 0 names p.module_read.name ≡ Some (k + i)
own_places k names [] i p e h = cc
own_places k names (q ∷ qs) zero p e h =
    let same : q ≡ p = cc in
    let z : k ≡ k + 0 = omega arith in
    ap (λ x. number_from 0 names x.module_read.name) (sym same) ∙ (at_own k names q (twice_from (suc k) names qs) e).0 ∙ ap Some z
own_places k names (q ∷ qs) (suc i) p e h =
    let z : suc k + i ≡ k + suc i = omega arith in
    own_places (suc k) names qs i p (at_own k names q (twice_from (suc k) names qs) e).1 h ∙ ap Some z

-- ---- modules with their tables

-- a module with its table, where they stand
pub known_at : (ps : List ParsedTree) (sss : List (List SymbolTree)) (i : ℕ) (k : Known) → slice_get (known_of ps sss) i ≡ Some k → (p : ParsedTree) × (slice_get ps i ≡ Some p) × (slice_get sss i ≡ Some k.symbols) × (p.module_read ≡ k.read)
known_at [] sss i k e = cc
known_at (p ∷ ps) [] i k e = cc
known_at (p ∷ ps) (ss ∷ sss) zero k e =
    let same : record { read = p.module_read; symbols = ss } ≡ k = cc in
    (p, refl, ap (λ x. Some x.symbols) same, ap (λ x. x.read) same)
known_at (p ∷ ps) (ss ∷ sss) (suc i) k e = known_at ps sss i k e

-- names stand once
abbrev pub NamesOnce : List Known → Type 0
NamesOnce ks = (i j : ℕ) (k l : Known) → slice_get ks i ≡ Some k → slice_get ks j ≡ Some l → k.read.name ≡ l.read.name → i ≡ j

pub names_once : (ps : List ParsedTree) (sss : List (List SymbolTree)) (g : Graph) → link_of ps sss ≡ Ok g → NamesOnce (known_of ps sss)
names_once ps sss g e i j k l h m n =
    let p = known_at ps sss i k h in
    let q = known_at ps sss j l m in
    let once = once_of ps sss g e in
    let a = own_places 0 (names_of ps) ps i p.0 once p.1 in
    let b = own_places 0 (names_of ps) ps j q.0 once q.1 in
    let same : p.0.module_read.name ≡ q.0.module_read.name = ap (λ x. x.name) p.3 ∙ n ∙ ap (λ x. x.name) (sym q.3) in
    let z : Some (0 + i) ≡ Some (0 + j) = sym a ∙ ap (number_from 0 (names_of ps)) same ∙ b in
    let y : 0 + i ≡ 0 + j = cc in
    omega (arith, y)

pub has_main : (ps : List ParsedTree) (sss : List (List SymbolTree)) → length ps ≡ length sss → no_main ps ≡ None → list_any (λ k. k.read.main) (known_of ps sss) ≡ true
has_main [] sss n e = cc
has_main (p ∷ ps) [] n e = absurd (omega (arith, n))
has_main (p ∷ ps) (ss ∷ sss) n e = go p.module_read.main e (has_main ps sss (omega (arith, n)))
  where
    go : (b : Bool) → (if b then None else no_main ps) ≡ None → (no_main ps ≡ None → list_any (λ k. k.read.main) (known_of ps sss) ≡ true) → (b || list_any (λ k. k.read.main) (known_of ps sss)) ≡ true
    go true h ih = refl
    go false h ih = ih h

pub linked_main : (ps : List ParsedTree) (sss : List (List SymbolTree)) (g : Graph) → length ps ≡ length sss → link_of ps sss ≡ Ok g → list_any (λ k. k.read.main) (known_of ps sss) ≡ true
linked_main ps sss g n e = has_main ps sss n (main_of_linked ps sss g e)

-- ---- saved locals

pub fewer : (k : Known) (ks : List Known) → NamesOnce (k ∷ ks) → NamesOnce ks
fewer k ks once i j a b h m n = let z = once (suc i) (suc j) a b h m n in omega (arith, z)

found_in : (all : List Known) (g : Graph) (ks : List Known) (x : List ℕ) (i : ℕ) (l : Known) → NamesOnce ks → slice_get ks i ≡ Some l → saved_place all g ks l.read.name x ≡ fixed_by all g l (number_from 1 (symbol_names l.symbols) x)
found_in all g [] x i l once e = cc
found_in all g (k ∷ ks) x zero l once e =
    let same : k ≡ l = cc in
    let t : bytes_eq k.read.name l.read.name ≡ true = (bytes_eq-Decides k.read.name l.read.name).1 (ap (λ z. z.read.name) same) in
    ap (λ b. if b then fixed_by all g k (number_from 1 (symbol_names k.symbols) x) else saved_place all g ks l.read.name x) t ∙ ap (λ z. fixed_by all g z (number_from 1 (symbol_names z.symbols) x)) same
found_in all g (k ∷ ks) x (suc i) l once e = go (bytes_eq k.read.name l.read.name) refl (found_in all g ks x i l (fewer k ks once) e)
  where
    go : (b : Bool) → bytes_eq k.read.name l.read.name ≡ b → saved_place all g ks l.read.name x ≡ fixed_by all g l (number_from 1 (symbol_names l.symbols) x) →
        (if b then fixed_by all g k (number_from 1 (symbol_names k.symbols) x) else saved_place all g ks l.read.name x) ≡ fixed_by all g l (number_from 1 (symbol_names l.symbols) x)
    go true q ih = let z = once 0 (suc i) k l refl e ((bytes_eq-Decides k.read.name l.read.name).0 q) in absurd (omega (arith, z))
    go false q ih = ih

pub saved_found : (ks : List Known) (g : Graph) → NamesOnce ks → SavedFound ks g
saved_found ks g once i l x n e h = found_in ks g ks x i l once e ∙ ap (fixed_by ks g l) h
