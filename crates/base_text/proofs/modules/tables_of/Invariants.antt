use Rattle.std.proofs.Common.{◌≡◌, map, drop}
use Rattle.base_json.proofs.Lists.{after}
use Rattle.base_text.specs.Modules.{names_each, table_names}
use Rattle.base_text.proofs.modules.tables_of.Given as goal

abbrev pub invariant-loop-module : goal.invariant-loop-module
invariant-loop-module l = after (map table_names l.tables) (names_each (drop l.module-index l.modules)) ≡ names_each l.fn.modules
