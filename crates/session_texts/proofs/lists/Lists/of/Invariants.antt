use Rattle.std.proofs.Common.{◌≡◌, ◌++◌, length}
use Rattle.session_texts.specs.Lists.{own_texts, own_trees, own_tables}
use Rattle.session_texts.proofs.lists.Lists.of.Given as goal

abbrev pub invariant-loop-source : goal.invariant-loop-source
invariant-loop-source l = record {
  texts : l.lists.texts ++ own_texts l.rest ≡ own_texts l.fn.sources;
  trees : l.lists.trees ++ own_trees l.rest ≡ own_trees l.fn.sources;
  tables : l.lists.tables ++ own_tables l.rest ≡ own_tables l.fn.sources;
}

abbrev pub decreases-loop-source : goal.decreases-loop-source
decreases-loop-source l = length l.rest
