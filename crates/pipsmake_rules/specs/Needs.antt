-- What a result needs.
use Rattle.std.specs.Prelude.{ℕ, List, [], ◌∷◌, ◌++◌, map}
use Rattle.call_graph.specs.declared.graph.Graph.{Graph}
use Rattle.pipsmake_rules.specs.declared.kind.Kind.{Kind}
use Rattle.pipsmake_rules.specs.declared.key.Key.{Key}
use Rattle.pipsmake_rules.specs.Table.{own_needs, program_needs, callee_needs, caller_needs}
use Rattle.pipsmake_rules.specs.Keys.{key_of}
use Rattle.pipsmake_rules.specs.Neighbours.{callees_of, callers_of}

-- results of these kinds of one module
abbrev pub keys_of : List Kind → List ℕ → List Key
keys_of ks x = map (λ k. key_of k x) ks

-- for each module its results of these kinds
abbrev pub by_module : List Kind → List (List ℕ) → List Key
by_module ks [] = []
by_module ks (x ∷ xs) = keys_of ks x ++ by_module ks xs

-- for each kind the results of these modules
abbrev pub by_kind : List Kind → List (List ℕ) → List Key
by_kind [] xs = []
by_kind (k ∷ ks) xs = map (λ x. key_of k x) xs ++ by_kind ks xs

-- the needs of a result, in the order in which they are made, where the program has modules of these names
abbrev pub needs_of : List (List ℕ) → Graph → Key → List Key
needs_of names g k =
    keys_of (own_needs k.kind) k.name ++ by_kind (program_needs k.kind) names
    ++ by_module (callee_needs k.kind) (callees_of g k.name) ++ by_module (caller_needs k.kind) (callers_of g k.name)
