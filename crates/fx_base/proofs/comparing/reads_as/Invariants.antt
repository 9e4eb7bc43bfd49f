use Rattle.fx_base.proofs.ReadLemmas.{ReadSoFar}
use Rattle.fx_base.proofs.comparing.reads_as.Given as goal

abbrev pub invariant-loop : goal.invariant-loop
invariant-loop g l = ReadSoFar (g.I.Read.remaining l.initial.input) (g.I.Read.remaining l.input) l.bytes l.rest
