-- The results that one is made from, each after its needs.
use Rattle.std.specs.Prelude.{ℕ, zero, suc, ◌+◌, ◌*◌, List, [], ◌∷◌, ◌++◌, length, fold, if◌then◌else◌}
use Rattle.call_graph.specs.declared.graph.Graph.{Graph}
use Rattle.pipsmake_rules.specs.declared.key.Key.{Key}
use Rattle.pipsmake_rules.specs.Keys.{holds}
use Rattle.pipsmake_rules.specs.Needs.{needs_of}

-- these results, and then a result behind its needs, unless it is among them; by fewer than so many needs of needs
abbrev pub walk_from : ℕ → List (List ℕ) → Graph → List Key → Key → List Key
walk_from zero names g done k = done
walk_from (suc t) names g done k =
    if holds done k then done else (fold (λ d n. walk_from t names g d n) done (needs_of names g k)) ++ k ∷ []

-- one more than the needs of needs that can follow one another: a need is of an earlier kind, or of the next module in the order of the graph
abbrev pub depth_of : Graph → ℕ
depth_of g = 12 * (length g.order + 1)

abbrev pub walk_of : List (List ℕ) → Graph → Key → List Key
walk_of names g k = walk_from (depth_of g) names g [] k
