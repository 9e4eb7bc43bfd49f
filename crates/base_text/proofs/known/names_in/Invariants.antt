use Rattle.std.proofs.Common.{◌≡◌, ◌++◌, drop}
use Rattle.base_text.specs.Modules.{module_names_in}
use Rattle.base_text.proofs.known.names_in.Given as goal

abbrev pub invariant-loop-module : goal.invariant-loop-module
invariant-loop-module l = l.names ++ module_names_in (drop l.module-index l.modules) ≡ module_names_in l.fn.modules
