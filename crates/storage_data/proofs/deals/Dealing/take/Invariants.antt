use Rattle.std.proofs.Common.{◌≡◌, ◌++◌, length, reverse}
use Rattle.storage_data.specs.Initials.{taken}
use Rattle.storage_data.proofs.deals.Dealing.take.Given as goal

abbrev pub invariant-loop-run : goal.invariant-loop-run
invariant-loop-run l = record {
  pieces : l.self.pieces ++ (taken l.place l.offset l.count (reverse l.self.left)).pieces ≡ l.initial.self.pieces ++ (taken l.place l.fn.offset l.fn.count (reverse l.initial.self.left)).pieces;
  rest : (taken l.place l.offset l.count (reverse l.self.left)).rest ≡ (taken l.place l.fn.offset l.fn.count (reverse l.initial.self.left)).rest;
}

abbrev pub decreases-loop-run : goal.decreases-loop-run
decreases-loop-run l = length l.self.left
