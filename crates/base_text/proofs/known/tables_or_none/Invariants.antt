use Rattle.std.proofs.Common.{◌≡◌, ◌++◌, drop, map}
use Rattle.base_text.specs.Modules.{table_names}
use Rattle.base_text.specs.Written.{names_or_none}
use Rattle.base_text.proofs.known.tables_or_none.Given as goal

abbrev pub invariant-loop-module : goal.invariant-loop-module
invariant-loop-module l = map table_names l.tables ++ map names_or_none (drop l.module-index l.modules) ≡ map names_or_none l.fn.modules
