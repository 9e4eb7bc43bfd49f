use Rattle.std.proofs.Common.{◌≡◌, drop, map}
use Rattle.f77_ast.specs.PlainDecl.{setting_tree}
use Rattle.f77_checks.specs.Parameters.{settings_valued}
use Rattle.f77_checks.specs.Views.{valued_tree}
use Rattle.f77_checks.proofs.parameters.value_settings.Given as goal

abbrev pub invariant-loop-setting : goal.invariant-loop-setting
invariant-loop-setting l =
    settings_valued (map setting_tree (drop l.setting-index l.settings)) l.line (valued_tree l.table l.found) ≡ settings_valued (map setting_tree l.settings) l.line (valued_tree l.initial.table l.initial.found)
