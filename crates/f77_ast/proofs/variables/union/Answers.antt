use Rattle.std.proofs.Common.{◌<◌, ◌++◌, ◌⊎◌, inl, inr, length, ap, ◌∙◌, arith}
use Rattle.f77_ast.proofs.UnionLaws.{ended}
use Rattle.f77_ast.proofs.variables.union.Goals.{in_default, in-len1-up+in_default-right}
use Rattle.f77_ast.proofs.variables.union.Goals as goal

pub returns : goal.returns
returns c =
    let left = c.loop-left.left.now in
    let right = c.loop-left.right.now in
    let done : (length left < 1) ⊎ (length right < 1) = elim c.if-left-lt1.branch [ in_default w ↦ inl (omega arith) | in-len1-up+in_default-right w ↦ inr (omega arith) ] in
    c.in_ok-add_copies-2.ensures ∙ ap (λ xs. xs ++ right) c.in_ok-add_copies.ensures ∙ ended c.loop-left.made left right done ∙ c.loop-left.invariant
