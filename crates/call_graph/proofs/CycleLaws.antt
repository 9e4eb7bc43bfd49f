-- What linking leaves out: calls of no module, and calls that lead back.
use Rattle.std.proofs.Common.{◌≡◌, ℕ, zero, suc, ◌+◌, ◌<◌, ◌≤◌, Bool, true, false, not, ◌||◌, ◌⊎◌, inl, inr, List, [], ◌∷◌, ◌++◌, length, map, get_or, Option, Some, None, refl, sym, ap, ◌∙◌, subst, arith}
use Rattle.std.specs.Prelude.{Result, Ok, Err, nat_eq, nat_lt, bytes_eq, if◌then◌else◌}
use Rattle.std.specs.List.{list_any}
use Rattle.std.proofs.lemmas.Bool.{eqb-true}
use Rattle.std.proofs.lemmas.Bool.Decides.{nat_tests}
use Rattle.f77_ast.specs.DeclTrees.{ParsedTree}
use Rattle.f77_ast.specs.Symbols.{SymbolTree, number_from}
use Rattle.call_graph.specs.declared.calls.Called.{Called}
use Rattle.call_graph.specs.declared.graph.Graph.{Graph}
use Rattle.call_graph.specs.declared.refusal.Fault.{Fault}
use Rattle.call_graph.specs.Faults.{unless}
use Rattle.call_graph.specs.Modules.{names_of, too_many}
use Rattle.call_graph.specs.Calls.{all_calls}
use Rattle.call_graph.specs.Callees.{place_put, found_put, places_of, all_places}
use Rattle.call_graph.specs.Recursion.{callees_at, reaches, is_back, cyclic_in, cyclic_at, cyclic_from}
use Rattle.call_graph.specs.Order.{holds, order_of, names_at}
use Rattle.call_graph.specs.Links.{program_calls, callees_of, unfit, cyclic, graph_of, module_fault, acyclic_of, joined_of, named_of, link_of}
use Rattle.call_graph.specs.Laws.{IsBottomUp, HasEach, AreModules, NeverBack}
use Rattle.call_graph.proofs.OrderLaws.{bottom_up, whole}
use Rattle.call_graph.proofs.LinkLaws.{length-all_places}
use Rattle.fx_lists.proofs.Lists.{map_length as length-map}

-- ---- nothing was wrong

pub unless-ok : (o : Option Fault) (r : Result Graph Fault) (g : Graph) → unless o r ≡ Ok g → (o ≡ None) × (r ≡ Ok g)
unless-ok None r g e = (refl, e)
unless-ok (Some f) r g e = cc

pub linked-fault : (ps : List ParsedTree) (sss : List (List SymbolTree)) (g : Graph) → link_of ps sss ≡ Ok g → (cyclic ps sss ≡ None) × (graph_of ps sss ≡ g)
linked-fault ps sss g e =
    let a = unless-ok (too_many ps) (named_of ps sss) g e in
    let b = unless-ok (module_fault ps) (joined_of ps sss) g a.1 in
    let d = unless-ok (unfit ps sss) (acyclic_of ps sss) g b.1 in
    let f = unless-ok (cyclic ps sss) (Ok (graph_of ps sss)) g d.1 in
    let q : Ok (graph_of ps sss) ≡ Ok g = f.1 in
    (f.0, cc)

-- ---- tests

-- a place that was put is the new one or was there
holds-put : (m : ℕ) (ks : List ℕ) (c : ℕ) → holds (place_put m ks) c ≡ true → (holds ks c ≡ true) ⊎ (m ≡ c)
holds-put m ks c e = go (list_any (λ k. nat_eq k m) ks) e
  where
    last : (xs : List ℕ) → holds (xs ++ m ∷ []) c ≡ true → (holds xs c ≡ true) ⊎ (m ≡ c)
    last [] q = only (nat_eq m c) refl q
      where
        only : (b : Bool) → nat_eq m c ≡ b → (b || false) ≡ true → (false ≡ true) ⊎ (m ≡ c)
        only true r q = inr (eqb-true m c r)
        only false r q = cc
    last (x ∷ xs) q = first (nat_eq x c) q (last xs)
      where
        first : (b : Bool) → (b || holds (xs ++ m ∷ []) c) ≡ true → (holds (xs ++ m ∷ []) c ≡ true → (holds xs c ≡ true) ⊎ (m ≡ c)) → ((b || holds xs c) ≡ true) ⊎ (m ≡ c)
        first true q ih = inl refl
        first false q ih = ih q

    go : (b : Bool) → holds (if b then ks else ks ++ m ∷ []) c ≡ true → (holds ks c ≡ true) ⊎ (m ≡ c)
    go true q = inl q
    go false q = last ks q

-- ---- the places of what is called

first_calm : (f : ℕ → Bool) (names : List (List ℕ)) (d : Called) (cs : List Called) → cyclic_in f names (d ∷ cs) ≡ None → (is_back f (number_from 0 names d.callee) ≡ false) × (cyclic_in f names cs ≡ None)
first_calm f names d cs e = go (is_back f (number_from 0 names d.callee)) e
  where
    go : (b : Bool) → (if b then Some d.at else cyclic_in f names cs) ≡ None → (b ≡ false) × (cyclic_in f names cs ≡ None)
    go true q = cc
    go false q = (refl, q)

found_calm : (f : ℕ → Bool) (o : Option ℕ) (ks : List ℕ) → is_back f o ≡ false → ((c : ℕ) → holds ks c ≡ true → f c ≡ false) → (c : ℕ) → holds (found_put o ks) c ≡ true → f c ≡ false
found_calm f None ks e h c q = h c q
found_calm f (Some m) ks e h c q =
    elim (holds-put m ks c q) [
      | inl w ↦ h c w
      | inr w ↦ subst (λ j. f j ≡ false) w e
    ]

-- a test that no CALL passes, no place passes
places_calm : (f : ℕ → Bool) (names : List (List ℕ)) (cs : List Called) (ks : List ℕ) → cyclic_in f names cs ≡ None → ((c : ℕ) → holds ks c ≡ true → f c ≡ false) → (c : ℕ) → holds (places_of cs names ks) c ≡ true → f c ≡ false
places_calm f names [] ks e h c q = h c q
places_calm f names (d ∷ cs) ks e h c q =
    let parts = first_calm f names d cs e in
    places_calm f names cs (found_put (number_from 0 names d.callee) ks) parts.1 (found_calm f (number_from 0 names d.callee) ks parts.0 h) c q

nothing : (f : ℕ → Bool) (c : ℕ) → holds [] c ≡ true → f c ≡ false
nothing f c e = cc

callees-all_places : (names : List (List ℕ)) (calls : List (List Called)) (k : ℕ) → callees_at (all_places names calls) k ≡ places_of (get_or calls k []) names []
callees-all_places names [] k = refl
callees-all_places names (cs ∷ calls) zero = refl
callees-all_places names (cs ∷ calls) (suc k) = callees-all_places names calls k

-- ---- callees are modules

number_from-below : (n : ℕ) (ys : List (List ℕ)) (x : List ℕ) (k : ℕ) → number_from n ys x ≡ Some k → k < n + length ys
number_from-below n [] x k e = cc
number_from-below n (y ∷ ys) x k e = go (bytes_eq x y) e (number_from-below (suc n) ys x k)
  where
    go : (b : Bool) → (if b then Some n else number_from (suc n) ys x) ≡ Some k → (number_from (suc n) ys x ≡ Some k → k < suc n + length ys) → k < n + suc (length ys)
    go true q ih = let same : n ≡ k = cc in omega arith
    go false q ih = omega (arith, ih q)

below_is : (m n : ℕ) → m < n → not (nat_lt m n) ≡ false
below_is m n h = grind (arith, nat_tests)

is_below : (m n : ℕ) → not (nat_lt m n) ≡ false → m < n
is_below m n e = grind (arith, nat_tests)

back_below : (n : ℕ) (names : List (List ℕ)) (x : List ℕ) → length names ≤ n → (o : Option ℕ) → number_from 0 names x ≡ o → is_back (λ c. not (nat_lt c n)) o ≡ false
back_below n names x h None e = refl
back_below n names x h (Some m) e = below_is m n (omega (arith, h, number_from-below 0 names x m e))

in_below : (n : ℕ) (names : List (List ℕ)) (cs : List Called) → length names ≤ n → cyclic_in (λ c. not (nat_lt c n)) names cs ≡ None
in_below n names [] h = refl
in_below n names (d ∷ cs) h =
    ap (λ b. if b then Some d.at else cyclic_in (λ c. not (nat_lt c n)) names cs) (back_below n names d.callee h (number_from 0 names d.callee) refl) ∙ in_below n names cs h

modules_called : (names : List (List ℕ)) (calls : List (List Called)) → length names ≤ length calls → AreModules (all_places names calls)
modules_called names calls h k c q =
    let here : holds (places_of (get_or calls k []) names []) c ≡ true = subst (λ ks. holds ks c ≡ true) (callees-all_places names calls k) q in
    let n = length calls in
    let lt : c < n = is_below c n (places_calm (λ j. not (nat_lt j n)) names (get_or calls k []) [] (in_below n names (get_or calls k []) h) (nothing (λ j. not (nat_lt j n))) c here) in
    omega (arith, lt, length-all_places names calls)

-- ---- no callee leads back

at_none : (k : ℕ) (p : ParsedTree) (o : Option ℕ) (later : Option Fault) → cyclic_at k p o later ≡ None → (o ≡ None) × (later ≡ None)
at_none k p None later e = (refl, e)
at_none k p (Some n) later e = cc

from_none : (back : ℕ → ℕ → Bool) (j : ℕ) (ps : List ParsedTree) (calls : List (List Called)) (names : List (List ℕ)) → cyclic_from back j ps calls names ≡ None → length calls ≤ length ps → (i : ℕ) → i < length calls → cyclic_in (λ c. back c (j + i)) names (get_or calls i []) ≡ None
from_none back j [] calls names e h i lt = absurd (omega (arith, h, lt))
from_none back j (p ∷ ps) [] names e h i lt = absurd (omega (arith, lt))
from_none back j (p ∷ ps) (cs ∷ calls) names e h zero lt =
    let parts = at_none j p (cyclic_in (λ c. back c j) names cs) (cyclic_from back (suc j) ps calls names) e in
    let z : j ≡ j + zero = omega arith in
    subst (λ m. cyclic_in (λ c. back c m) names cs ≡ None) z parts.0
from_none back j (p ∷ ps) (cs ∷ calls) names e h (suc i) lt =
    let parts = at_none j p (cyclic_in (λ c. back c j) names cs) (cyclic_from back (suc j) ps calls names) e in
    let z : suc j + i ≡ j + suc i = omega arith in
    subst (λ m. cyclic_in (λ c. back c m) names (get_or calls i []) ≡ None) z
    (from_none back (suc j) ps calls names parts.1 (omega (arith, h)) i (omega (arith, lt)))

never_back : (ps : List ParsedTree) (names : List (List ℕ)) (calls : List (List Called)) → length calls ≤ length ps → cyclic_from (reaches (all_places names calls)) 0 ps calls names ≡ None → NeverBack (all_places names calls)
never_back ps names calls h e k c lt q =
    let css = all_places names calls in
    let here : holds (places_of (get_or calls k []) names []) c ≡ true = subst (λ ks. holds ks c ≡ true) (callees-all_places names calls k) q in
    let in_calls : k < length calls = omega (arith, lt, length-all_places names calls) in
    let z : 0 + k ≡ k = omega arith in
    let calm : cyclic_in (λ d. reaches css d k) names (get_or calls k []) ≡ None = subst (λ m. cyclic_in (λ d. reaches css d m) names (get_or calls k []) ≡ None) z (from_none (reaches css) 0 ps calls names e h k in_calls) in
    places_calm (λ d. reaches css d k) names (get_or calls k []) [] calm (nothing (λ d. reaches css d k)) c here

-- ---- modules that link

pub length-all_calls_same : (ps : List ParsedTree) (sss : List (List SymbolTree)) → length ps ≡ length sss → length (all_calls ps sss) ≡ length ps
length-all_calls_same [] sss e = refl
length-all_calls_same (p ∷ ps) [] e = cc
length-all_calls_same (p ∷ ps) (ss ∷ sss) e = ap suc (length-all_calls_same ps sss (omega (arith, e)))

pub in_order : (ps : List ParsedTree) (sss : List (List SymbolTree)) (g : Graph) → length ps ≡ length sss → link_of ps sss ≡ Ok g → (g.order ≡ names_at (order_of (callees_of ps sss)) (names_of ps)) × IsBottomUp (callees_of ps sss) (order_of (callees_of ps sss)) × HasEach (callees_of ps sss) (order_of (callees_of ps sss))
in_order ps sss g same e =
    let linked = linked-fault ps sss g e in
    let calm : cyclic ps sss ≡ None = linked.0 in
    let names = names_of ps in
    let calls = program_calls ps sss in
    let long = length-all_calls_same ps sss same in
    let count : length names ≡ length ps = length-map (λ (p : ParsedTree). p.module_read.name) ps in (
      ap (λ (x : Graph). x.order) (sym linked.1),
      bottom_up (callees_of ps sss),
      whole (callees_of ps sss) (modules_called names calls (omega (arith, long, count))) (never_back ps names calls (omega (arith, long)) calm),
    )
