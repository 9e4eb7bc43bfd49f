-- Steps of the walk over statements, and of lists that are made one after another.
use Rattle.std.proofs.Common.{◌≡◌, append_assoc, append-nil, refl, sym, arith}
use Rattle.std.proofs.lemmas.Bool.Decides.{nat_tests}
use Rattle.f77_ast.proofs.PlainlyStmt.{loop_calls}
use Rattle.f77_ast.proofs.WalkLaws.{shape_calls}
use Rattle.result_lines.specs.declared.reduction.ReduceOp.{ReduceOp}
use Rattle.reductions.specs.Standings.{both, with_op}
use Rattle.reductions.specs.declared.standing.Standing.{Standing}
use Rattle.reductions.specs.declared.standing.Standing.TheVariants.{Absent, Accumulated, Otherwise}

pub ruleset loops = (loop_calls)

pub ruleset lists = (append_assoc, append-nil)

-- three operators
op_more : (p q r : ReduceOp) → with_op p (with_op q (Accumulated r)) ≡ both (with_op p (Accumulated q)) (Accumulated r)
op_more p q r = grind (arith, nat_tests)

op_none : (p q : ReduceOp) → with_op p (with_op q Absent) ≡ both (with_op p (Accumulated q)) Absent
op_none p q = grind (arith, nat_tests)

op_other : (p q : ReduceOp) → with_op p (with_op q Otherwise) ≡ both (with_op p (Accumulated q)) Otherwise
op_other p q = grind (arith, nat_tests)

-- statements one after another, however they are taken together
pub both_assoc : (a b c : Standing) → both (both a b) c ≡ both a (both b c)
both_assoc Absent b c = refl
both_assoc Otherwise b c = refl
both_assoc (Accumulated p) Absent c = refl
both_assoc (Accumulated p) Otherwise c = refl
both_assoc (Accumulated p) (Accumulated q) Absent = sym (op_none p q)
both_assoc (Accumulated p) (Accumulated q) (Accumulated r) = sym (op_more p q r)
both_assoc (Accumulated p) (Accumulated q) Otherwise = sym (op_other p q)

pub both_absent : (a : Standing) → both a Absent ≡ a
both_absent Absent = refl
both_absent (Accumulated p) = refl
both_absent Otherwise = refl

pub ruleset walks = (shape_calls, both_assoc, both_absent)
