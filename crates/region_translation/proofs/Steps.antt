-- Steps of the loops over subscripts, and what is handed on may be handed on.
use Rattle.std.proofs.Common.{◌≡◌, ℕ, suc, ◌+◌, ◌-◌, ◌<◌, ◌≤◌, List, ◌∷◌, [], ◌++◌, append_assoc, append-nil, arith, ap, ap₂, sym, ◌∙◌}
use Rattle.affine_systems.specs.declared.row.Var.{Var}
use Rattle.affine_systems.specs.declared.row.Var.TheVariants.{Aux}
use Rattle.region_translation.specs.Pieces.{subscripts_from}
use Rattle.region_sets.proofs.Steps.{fits_ready, ready_given}

-- ---- the names of subscripts

pub subscripts-more : (k r : ℕ) (vs : List Var) → k < r → (vs ++ Aux (k + 1) ∷ []) ++ subscripts_from (1 + (k + 1)) (r - (k + 1)) ≡ vs ++ subscripts_from (1 + k) (r - k)
subscripts-more k r vs l =
    let a : r - k ≡ suc (r - (k + 1)) = omega (arith, l) in
    let b : 1 + k ≡ k + 1 = omega arith in
    let d : 1 + (k + 1) ≡ suc (k + 1) = omega arith in
    append_assoc vs (Aux (k + 1) ∷ []) (subscripts_from (1 + (k + 1)) (r - (k + 1)))
    ∙ (ap (λ n. vs ++ (Aux (k + 1) ∷ subscripts_from n (r - (k + 1)))) d
    ∙ sym (ap₂ (λ n i. vs ++ subscripts_from n i) b a))

pub subscripts-end : (k r : ℕ) (vs : List Var) → r ≤ k → vs ++ subscripts_from (1 + k) (r - k) ≡ vs
subscripts-end k r vs l = let z : r - k ≡ 0 = omega (arith, l) in ap (λ n. vs ++ subscripts_from (1 + k) n) z ∙ append-nil vs

pub ruleset subscript_loop = (subscripts-more, subscripts-end)

pub ruleset lists = (append_assoc, append-nil)

pub ruleset ready_lists = (fits_ready, ready_given)
