use Rattle.laws_marks.proofs.MarkedFits.{reduced_holds}
use Rattle.laws_marks.proofs.marked_loops.reduced_loops_hold.Goals as goal

pub returns : goal.returns
returns c = λ e sc ss places r u locked ks g k at l s i later h dead alone. reduced_holds e sc ss places r u locked ks g k at l s i h alone later dead
