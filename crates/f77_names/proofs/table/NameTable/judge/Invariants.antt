use Rattle.std.proofs.Common.{◌≡◌, drop, map}
use Rattle.f77_names.specs.Entries.{entry_tree}
use Rattle.f77_names.specs.Tables.{check_entries}
use Rattle.f77_names.proofs.table.NameTable.judge.Given as goal

abbrev pub invariant-loop-entry : goal.invariant-loop-entry
invariant-loop-entry l = check_entries l.self.kinds (map entry_tree (drop l.entry-index l.entry-items)) l.found ≡ check_entries l.self.kinds (map entry_tree l.entry-items) l.fn.before
