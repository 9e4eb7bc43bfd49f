-- A rank of results: first the kind, then the place in the order of the graph, from its end for the kinds that need callers. Needs have lower ranks.
use Rattle.std.proofs.Common.{◌≡◌, ℕ, zero, suc, ◌+◌, ◌-◌, ◌*◌, ◌<◌, ◌≤◌, Bool, true, false, ◌&&◌, List, [], ◌∷◌, ◌++◌, length, map, refl, sym, ap, ◌∙◌, arith}
use Rattle.std.specs.Prelude.{nat_lt, if◌then◌else◌}
use Rattle.std.specs.List.{list_all}
use Rattle.std.proofs.Math.Nat.{mul-le-mul_left}
use Rattle.std.proofs.lemmas.Bool.{ltb-true, lt-ltb, and_parts, and_from}
use Rattle.std.proofs.lemmas.List.Folds.{list_all-append}
use Rattle.call_graph.specs.declared.graph.Graph.{Graph}
use Rattle.pipsmake_rules.specs.declared.kind.Kind.{Kind}
use Rattle.pipsmake_rules.specs.declared.kind.Kind.TheVariants.{Parsed, Lines, Symbols, CallGraph, Effects, Transformers, Preconditions, Regions, InRegions, OutRegions, Marks, Printed}
use Rattle.pipsmake_rules.specs.declared.key.Key.{Key}
use Rattle.pipsmake_rules.specs.Kinds.{number_of}
use Rattle.pipsmake_rules.specs.Table.{own_needs, program_needs, callee_needs, caller_needs}
use Rattle.pipsmake_rules.specs.Keys.{key_of}
use Rattle.pipsmake_rules.specs.Neighbours.{callees_of, callers_of}
use Rattle.pipsmake_rules.specs.Needs.{keys_of, by_module, by_kind, needs_of}
use Rattle.pipsmake_rules.specs.Walk.{depth_of}
use Rattle.pipsmake_rules.specs.Laws.{is_earlier, place_in, is_bottom_up}
use Rattle.pipsmake_rules.proofs.NeighbourLaws.{comes_first, callees_first, callers_after, place_in-length}

-- the kinds that need themselves of callers
abbrev from_end : Kind → Bool
from_end Parsed = false
from_end Lines = false
from_end Symbols = false
from_end CallGraph = false
from_end Effects = false
from_end Transformers = false
from_end Preconditions = true
from_end Regions = false
from_end InRegions = false
from_end OutRegions = true
from_end Marks = false
from_end Printed = false

abbrev height : ℕ → Bool → ℕ → ℕ
height n true p = n - p
height n false p = p

abbrev rank_with : ℕ → ℕ → ℕ → ℕ
rank_with n kind height = (n + 1) * kind + height

abbrev pub rank : Graph → Key → ℕ
rank g k = rank_with (length g.order) (number_of k.kind) (height (length g.order) (from_end k.kind) (place_in g.order k.name))

abbrev pub is_lower : Graph → Key → Key → Bool
is_lower g k m = nat_lt (rank g m) (rank g k)

earlier_lower : (n a b h i : ℕ) → a < b → h ≤ n → rank_with n a h < rank_with n b i
earlier_lower n a b h i lt le =
    let next : suc a ≤ b = omega arith in
    let more : (n + 1) * suc a ≤ (n + 1) * b = mul-le-mul_left (n + 1) next in
    omega arith

height-le : (n : ℕ) (b : Bool) (p : ℕ) → p ≤ n → height n b p ≤ n
height-le n true p le = omega arith
height-le n false p le = le

rank-height : (g : Graph) (k : Key) → height (length g.order) (from_end k.kind) (place_in g.order k.name) ≤ length g.order
rank-height g k = height-le (length g.order) (from_end k.kind) (place_in g.order k.name) (place_in-length g.order k.name)

pub rank-depth : (g : Graph) (k : Key) → rank g k < depth_of g
rank-depth g k =
    let n : ℕ = length g.order in
    let kind : number_of k.kind < 12 = number_below k.kind in
    let less : rank g k < rank_with n 12 0 = earlier_lower n (number_of k.kind) 12 (height n (from_end k.kind) (place_in g.order k.name)) 0 kind (rank-height g k) in
    omega (arith, less)
  where
    number_below : (j : Kind) → number_of j < 12
    number_below Parsed = omega arith
    number_below Lines = omega arith
    number_below Symbols = omega arith
    number_below CallGraph = omega arith
    number_below Effects = omega arith
    number_below Transformers = omega arith
    number_below Preconditions = omega arith
    number_below Regions = omega arith
    number_below InRegions = omega arith
    number_below OutRegions = omega arith
    number_below Marks = omega arith
    number_below Printed = omega arith

-- ---- needs, one list after the other

module _ (g : Graph) (k : Key) where
  -- a result of an earlier kind, whatever its module
  early : (j : Kind) (y : List ℕ) → is_earlier j k.kind ≡ true → is_lower g k (key_of j y) ≡ true
  early j y e =
      lt-ltb (rank g (key_of j y)) (rank g k)
      (earlier_lower (length g.order) (number_of j) (number_of k.kind) _ _ (ltb-true (number_of j) (number_of k.kind) e) (rank-height g (key_of j y)))

  all_early : (js : List Kind) (y : List ℕ) → list_all (λ j. is_earlier j k.kind) js ≡ true → list_all (is_lower g k) (keys_of js y) ≡ true
  all_early [] y e = refl
  all_early (j ∷ js) y e =
      let parts = and_parts (is_earlier j k.kind) (list_all (λ i. is_earlier i k.kind) js) e in
      and_from (is_lower g k (key_of j y)) (list_all (is_lower g k) (keys_of js y)) (early j y parts.0) (all_early js y parts.1)

  each_early : (j : Kind) (ys : List (List ℕ)) → is_earlier j k.kind ≡ true → list_all (is_lower g k) (map (λ y. key_of j y) ys) ≡ true
  each_early j [] e = refl
  each_early j (y ∷ ys) e = and_from (is_lower g k (key_of j y)) (list_all (is_lower g k) (map (λ z. key_of j z) ys)) (early j y e) (each_early j ys e)

  by_kind_early : (js : List Kind) (ys : List (List ℕ)) → list_all (λ j. is_earlier j k.kind) js ≡ true → list_all (is_lower g k) (by_kind js ys) ≡ true
  by_kind_early [] ys e = refl
  by_kind_early (j ∷ js) ys e =
      let parts = and_parts (is_earlier j k.kind) (list_all (λ i. is_earlier i k.kind) js) e in
      list_all-append (is_lower g k) (map (λ y. key_of j y) ys) (by_kind js ys)
      ∙ and_from (list_all (is_lower g k) (map (λ y. key_of j y) ys)) (list_all (is_lower g k) (by_kind js ys)) (each_early j ys parts.0) (by_kind_early js ys parts.1)

  by_module_lower : (js : List Kind) (p : List ℕ → Bool) (ys : List (List ℕ)) → ((y : List ℕ) → p y ≡ true → list_all (is_lower g k) (keys_of js y) ≡ true) → list_all p ys ≡ true → list_all (is_lower g k) (by_module js ys) ≡ true
  by_module_lower js p [] h e = refl
  by_module_lower js p (y ∷ ys) h e =
      let parts = and_parts (p y) (list_all p ys) e in
      list_all-append (is_lower g k) (keys_of js y) (by_module js ys)
      ∙ and_from (list_all (is_lower g k) (keys_of js y)) (list_all (is_lower g k) (by_module js ys)) (h y parts.0) (by_module_lower js p ys h parts.1)

-- ---- the needs of each kind

own_early : (k : Kind) → list_all (λ j. is_earlier j k) (own_needs k) ≡ true
own_early Parsed = refl
own_early Lines = refl
own_early Symbols = refl
own_early CallGraph = refl
own_early Effects = refl
own_early Transformers = refl
own_early Preconditions = refl
own_early Regions = refl
own_early InRegions = refl
own_early OutRegions = refl
own_early Marks = refl
own_early Printed = refl

program_early : (k : Kind) → list_all (λ j. is_earlier j k) (program_needs k) ≡ true
program_early Parsed = refl
program_early Lines = refl
program_early Symbols = refl
program_early CallGraph = refl
program_early Effects = refl
program_early Transformers = refl
program_early Preconditions = refl
program_early Regions = refl
program_early InRegions = refl
program_early OutRegions = refl
program_early Marks = refl
program_early Printed = refl

-- of one kind, the callee and the caller
callee_lower : (n kind p q : ℕ) → nat_lt p q ≡ true → nat_lt (rank_with n kind (height n false p)) (rank_with n kind (height n false q)) ≡ true
callee_lower n kind p q e = let lt : p < q = ltb-true p q e in lt-ltb _ _ (omega arith)

caller_lower : (n kind p q : ℕ) → q ≤ n → nat_lt p q ≡ true → nat_lt (rank_with n kind (height n true q)) (rank_with n kind (height n true p)) ≡ true
caller_lower n kind p q le e = let lt : p < q = ltb-true p q e in lt-ltb _ _ (omega arith)

module _ (g : Graph) (x : List ℕ) where
  of_callee : (k : Kind) (y : List ℕ) → comes_first g y x ≡ true → list_all (is_lower g (record { kind = k; name = x })) (keys_of (callee_needs k) y) ≡ true
  of_callee Parsed y e = refl
  of_callee Lines y e = refl
  of_callee Symbols y e = refl
  of_callee CallGraph y e = refl
  of_callee Effects y e = and_from _ _ (early g (record { kind = Effects; name = x }) Symbols y refl) (and_from _ _ (callee_lower (length g.order) 4 (place_in g.order y) (place_in g.order x) e) refl)
  of_callee Transformers y e = and_from _ _ (early g (record { kind = Transformers; name = x }) Symbols y refl) (and_from _ _ (callee_lower (length g.order) 5 (place_in g.order y) (place_in g.order x) e) refl)
  of_callee Preconditions y e = refl
  of_callee Regions y e = and_from _ _ (early g (record { kind = Regions; name = x }) Symbols y refl) (and_from _ _ (callee_lower (length g.order) 7 (place_in g.order y) (place_in g.order x) e) refl)
  of_callee InRegions y e = and_from _ _ (early g (record { kind = InRegions; name = x }) Symbols y refl) (and_from _ _ (callee_lower (length g.order) 8 (place_in g.order y) (place_in g.order x) e) refl)
  of_callee OutRegions y e = refl
  of_callee Marks y e = refl
  of_callee Printed y e = refl

  of_caller : (k : Kind) (y : List ℕ) → comes_first g x y ≡ true → list_all (is_lower g (record { kind = k; name = x })) (keys_of (caller_needs k) y) ≡ true
  of_caller Parsed y e = refl
  of_caller Lines y e = refl
  of_caller Symbols y e = refl
  of_caller CallGraph y e = refl
  of_caller Effects y e = refl
  of_caller Transformers y e = refl
  of_caller Preconditions y e = and_from _ _ (early g (record { kind = Preconditions; name = x }) Parsed y refl) (and_from _ _ (early g (record { kind = Preconditions; name = x }) Symbols y refl) (and_from _ _ (caller_lower (length g.order) 6 (place_in g.order x) (place_in g.order y) (place_in-length g.order y) e) refl))
  of_caller Regions y e = refl
  of_caller InRegions y e = refl
  of_caller OutRegions y e = and_from _ _ (early g (record { kind = OutRegions; name = x }) Parsed y refl) (and_from _ _ (early g (record { kind = OutRegions; name = x }) Symbols y refl) (and_from _ _ (early g (record { kind = OutRegions; name = x }) Transformers y refl) (and_from _ _ (caller_lower (length g.order) 9 (place_in g.order x) (place_in g.order y) (place_in-length g.order y) e) refl)))
  of_caller Marks y e = refl
  of_caller Printed y e = refl

pub needs_lower : (names : List (List ℕ)) (g : Graph) → is_bottom_up g ≡ true → (k : Key) → list_all (is_lower g k) (needs_of names g k) ≡ true
needs_lower names g up k =
    let own = keys_of (own_needs k.kind) k.name in
    let program = by_kind (program_needs k.kind) names in
    let callees = by_module (callee_needs k.kind) (callees_of g k.name) in
    let callers = by_module (caller_needs k.kind) (callers_of g k.name) in
    join g k (own ++ program ++ callees) callers
    (join g k (own ++ program) callees
    (join g k own program (all_early g k (own_needs k.kind) k.name (own_early k.kind)) (by_kind_early g k (program_needs k.kind) names (program_early k.kind)))
    (by_module_lower g k (callee_needs k.kind) (λ y. comes_first g y k.name) (callees_of g k.name) (λ y e. of_callee g k.name k.kind y e) (callees_first g k.name up)))
    (by_module_lower g k (caller_needs k.kind) (λ y. comes_first g k.name y) (callers_of g k.name) (λ y e. of_caller g k.name k.kind y e) (callers_after g k.name up))
  where
    join : (h : Graph) (j : Key) (ms ns : List Key) → list_all (is_lower h j) ms ≡ true → list_all (is_lower h j) ns ≡ true → list_all (is_lower h j) (ms ++ ns) ≡ true
    join h j ms ns d e = list_all-append (is_lower h j) ms ns ∙ and_from (list_all (is_lower h j) ms) (list_all (is_lower h j) ns) d e
