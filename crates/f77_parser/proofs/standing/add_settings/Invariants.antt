use Rattle.std.proofs.Common.{◌≡◌, ◌++◌, drop, map}
use Rattle.f77_ast.specs.PlainDecl.{setting_tree}
use Rattle.f77_parser.specs.Standing.{setting_names}
use Rattle.f77_parser.proofs.standing.add_settings.Given as goal

abbrev pub invariant-loop-setting : goal.invariant-loop-setting
invariant-loop-setting l = l.names ++ setting_names (map setting_tree (drop l.setting-index l.setting-items)) ≡ l.fn.names ++ setting_names (map setting_tree l.setting-items)
