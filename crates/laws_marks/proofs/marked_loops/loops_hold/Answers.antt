use Rattle.laws_marks.proofs.MarkedFits.{marked_holds}
use Rattle.laws_marks.proofs.marked_loops.loops_hold.Goals as goal

pub returns : goal.returns
returns c = λ xs sc ss places r u locked ks g k at d s i later h dead. marked_holds xs sc ss places r u locked ks g k at d s i h later dead
