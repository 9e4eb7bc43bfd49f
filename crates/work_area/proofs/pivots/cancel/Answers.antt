use Rattle.std.proofs.Common.{arith, pos, neg_ℤ, int_lt, unsigned_abs}
use Rattle.std.specs.Prelude.{if◌then◌else◌}
use Rattle.affine_systems.specs.Points.{factor_of}
use Rattle.work_area.proofs.ColumnLaws.{combined_short}
use Rattle.work_area.proofs.Swaps.{keeps_traded}
use Rattle.work_area.proofs.pivots.cancel.Goals as goal

pub put_cancelled-requires-clause-room : goal.put_cancelled-requires-clause-room
put_cancelled-requires-clause-room c =
    let r = c.requires.roomy in
    let a = factor_of c.args.v c.args.by.now.terms.items in
    let f = factor_of c.args.v c.args.slot.now.terms.items in
    let w = r.wide 0 c.args.scratch.now (omega arith) in
    let l = combined_short r.width r.held.columns (pos (unsigned_abs a)) c.args.slot.now.terms.items (if int_lt a (pos 0) then f else neg_ℤ f) c.args.by.now.terms.items r.held.ascends r.held.few r.held.among.0 r.held.among.1.0 in
    omega (arith, w, l)

pub returns-then-occurs-clause-room : goal.returns-then-occurs-clause-room
returns-then-occurs-clause-room c = keeps_traded c.args.scratch.now c.args.slot.now c.put_cancelled.new.out c.swap.new.y c.swap.new.x c.put_cancelled.ensures.room c.swap.ensures.y_after c.swap.ensures.x_after
