use Rattle.laws_marks.proofs.MarkedBegun.{body_no_sets, are_begun}
use Rattle.laws_interleavings.specs.MarkedStatements.{marked_loop}
use Rattle.laws_marks.proofs.marked_loops.iterations_are_begun.Goals as goal

pub returns : goal.returns
returns c = λ xs sc ss at r u locked s i normal takes. are_begun (marked_loop xs sc ss at r u locked) s normal (body_no_sets ss sc.plain at locked) i takes
