-- Standings that agree on an operator: of statements together, and of each.
use Rattle.std.proofs.Common.{◌≡◌, ◌⊎◌, inl, inr, ℕ, zero, suc, Bool, true, false, eqb-true, Option, Some, None, refl, sym, ap, ◌∙◌, subst}
use Rattle.std.specs.Prelude.{if◌then◌else◌}
use Rattle.result_lines.specs.declared.reduction.ReduceOp.{ReduceOp}
use Rattle.result_lines.specs.declared.reduction.ReduceOp.TheVariants.{Sum, Max, Min, And, Or}
use Rattle.reductions.specs.Accumulations.{op_number, same_op}
use Rattle.reductions.specs.Standings.{both, if_named, if_accumulated}
use Rattle.reductions.specs.declared.standing.Standing.{Standing}
use Rattle.reductions.specs.declared.standing.Standing.TheVariants.{Absent, Accumulated, Otherwise}

-- the variable does not stand there, or it is accumulated in by this operator
abbrev pub Agrees : ReduceOp → Standing → Type 0
Agrees q s = (s ≡ Absent) ⊎ (s ≡ Accumulated q)

numbered : ℕ → ReduceOp
numbered zero = Sum
numbered (suc zero) = Max
numbered (suc (suc zero)) = Min
numbered (suc (suc (suc zero))) = And
numbered (suc (suc (suc (suc n)))) = Or

back : (p : ReduceOp) → numbered (op_number p) ≡ p
unfolding numbered
back Sum = refl
back Max = refl
back Min = refl
back And = refl
back Or = refl

pub same_ops : (p q : ReduceOp) → same_op p q ≡ true → p ≡ q
same_ops p q e = sym (back p) ∙ (ap numbered (eqb-true (op_number p) (op_number q) e) ∙ back q)

no_other : (q : ReduceOp) → Agrees q Otherwise → ⊥
no_other q (inl e) = cc
no_other q (inr e) = cc

same_accumulated : (p q : ReduceOp) → Agrees q (Accumulated p) → p ≡ q
same_accumulated p q (inl e) = cc
same_accumulated p q (inr e) = cc

-- both agree where they agree together
pub both_agree : (q : ReduceOp) (a b : Standing) → Agrees q (both a b) → Agrees q a × Agrees q b
both_agree q Absent b h = (inl refl, h)
both_agree q (Accumulated p) Absent h = (h, inl refl)
both_agree q (Accumulated p) (Accumulated r) h = go (same_op p r) refl h
  where
    go : (c : Bool) → same_op p r ≡ c → Agrees q (if c then Accumulated p else Otherwise) → Agrees q (Accumulated p) × Agrees q (Accumulated r)
    go true e k = (k, subst (λ p. Agrees q (Accumulated p)) (same_ops p r e) k)
    go false e k = absurd (no_other q k)
both_agree q (Accumulated p) Otherwise h = absurd (no_other q h)
both_agree q Otherwise b h = absurd (no_other q h)

-- it is not named there
pub not_named : (q : ReduceOp) (b : Bool) → Agrees q (if_named b) → b ≡ false
not_named q true h = absurd (no_other q h)
not_named q false h = refl

pub is_accumulated : (q : ReduceOp) (o : Option ReduceOp) → Agrees q (if_accumulated o) → o ≡ Some q
is_accumulated q None h = absurd (no_other q h)
is_accumulated q (Some p) h = ap Some (same_accumulated p q h)
