use Rattle.std.proofs.Common.{pos, arith}
use Rattle.affine_systems.specs.declared.row.Var.TheVariants.{Cell}
use Rattle.affine_systems.specs.Terms.{term}
use Rattle.affine_systems.proofs.Merges.{small_at}
use Rattle.work_area.proofs.order.are_opposite_terms.Goals as goal

pub is_opposite-requires : goal.is_opposite-requires
is_opposite-requires c = small_at c.args.us.now c.loop-i.i (term (Cell 0) (pos 0)) c.requires.small (omega arith)
