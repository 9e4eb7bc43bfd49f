-- One step of the walk.
use Rattle.std.proofs.Common.{◌≡◌, ℕ, zero, suc, ◌-◌, ◌≢◌, ◌<◌, length, Bool, true, false, List, [], ◌∷◌, ◌++◌, refl, sym, ap, ◌∙◌, arith}
use Rattle.std.specs.Prelude.{fold, if◌then◌else◌}
use Rattle.call_graph.specs.declared.graph.Graph.{Graph}
use Rattle.pipsmake_rules.specs.declared.key.Key.{Key}
use Rattle.pipsmake_rules.specs.Keys.{holds}
use Rattle.pipsmake_rules.specs.Needs.{needs_of}
use Rattle.pipsmake_rules.specs.Walk.{walk_from}

pub walk_there : (t : ℕ) (names : List (List ℕ)) (g : Graph) (done : List Key) (k : Key) → holds done k ≡ true → walk_from t names g done k ≡ done
walk_there zero names g done k e = refl
walk_there (suc t) names g done k e = ap (λ b. if b then done else fold (λ d n. walk_from t names g d n) done (needs_of names g k) ++ k ∷ []) e

pub walk_zero : (t : ℕ) (names : List (List ℕ)) (g : Graph) (done : List Key) (k : Key) → t ≡ 0 → walk_from t names g done k ≡ done
walk_zero t names g done k e = ap (λ s. walk_from s names g done k) e

pub walk_step : (t : ℕ) (names : List (List ℕ)) (g : Graph) (done : List Key) (k : Key) → t ≢ 0 → holds done k ≡ false → walk_from t names g done k ≡ fold (λ d n. walk_from (t - 1) names g d n) done (needs_of names g k) ++ k ∷ []
walk_step zero names g done k some e = absurd (some refl)
walk_step (suc t) names g done k some e =
    let z : suc t - 1 ≡ t = omega arith in
    ap (λ b. if b then done else fold (λ d n. walk_from t names g d n) done (needs_of names g k) ++ k ∷ []) e
    ∙ ap (λ s. fold (λ d n. walk_from s names g d n) done (needs_of names g k) ++ k ∷ []) (sym z)

-- where the needs have been walked along
pub walk_end : (t : ℕ) (names : List (List ℕ)) (g : Graph) (done last rest : List Key) (k : Key) → t ≢ 0 → holds done k ≡ false → length rest < 1 → fold (λ d n. walk_from (t - 1) names g d n) last rest ≡ fold (λ d n. walk_from (t - 1) names g d n) done (needs_of names g k) → last ++ k ∷ [] ≡ walk_from t names g done k
walk_end t names g done last [] k some new none e = ap (λ d. d ++ k ∷ []) e ∙ sym (walk_step t names g done k some new)
walk_end t names g done last (n ∷ ns) k some new none e = absurd (omega (arith, none))

pub ruleset walk_steps = (walk_there, walk_zero, walk_step)
