-- OUT of the body of a DO.
use Rattle.std.proofs.Common.{◌≡◌, false, List, ap, sym, ◌∙◌}
use Rattle.f77_ast.specs.declared.stmt.Loop.{Loop, out-Loop}
use Rattle.f77_ast.specs.Trees.{LoopTree}
use Rattle.f77_ast.specs.PlainStmt.{stmt_trees, loop_tree}
use Rattle.f77_ast.proofs.PlainlyStmt.{loop_tree-out}
use Rattle.in_out_regions.specs.region_sets.declared.range.Range.{Range}
use Rattle.in_out_regions.specs.region_sets.declared.region.Region.{Region}
use Rattle.in_out_regions.specs.array_regions.Loops.{range_of}
use Rattle.out_regions.specs.Known.{KnownTree}
use Rattle.out_regions.specs.Statement.{body_out, used_after, loop_out}

pub loop-made : (l : Loop) (k : KnownTree) (g : Range) (out us rs : List Region) → g ≡ range_of (loop_tree l) k.scope k.does → us ≡ used_after k g (stmt_trees (out-Loop l).body) out →
    rs ≡ body_out k false (stmt_trees (out-Loop l).body) us → rs ≡ loop_out k (loop_tree l) out
loop-made l k g out us rs e f h =
    let body = stmt_trees (out-Loop l).body in
    h ∙ (ap (body_out k false body) (f ∙ ap (λ (r : Range). used_after k r body out) e)
    ∙ (ap (λ (y : LoopTree). body_out k false body (used_after k (range_of y k.scope k.does) body out)) (loop_tree-out l)
    ∙ sym (ap (λ (y : LoopTree). loop_out k y out) (loop_tree-out l))))

pub ruleset loop_parts = (loop-made)
