use Rattle.std.proofs.Common.{◌≡◌, drop, map}
use Rattle.f77_ast.specs.PlainDecl.{setting_tree}
use Rattle.f77_names.specs.Declaring.{settings_told}
use Rattle.f77_names.specs.Views.{told_tree}
use Rattle.f77_names.proofs.declare.Told.tell_settings.Given as goal

abbrev pub invariant-loop-setting : goal.invariant-loop-setting
invariant-loop-setting l = settings_told l.sight.arrays.now (map setting_tree (drop l.setting-index l.setting-items)) l.line (told_tree l.self) ≡ settings_told l.sight.arrays.now (map setting_tree l.setting-items) l.line (told_tree l.fn.self)
