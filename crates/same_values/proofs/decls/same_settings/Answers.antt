use Rattle.std.proofs.Common.{◌∙◌}
use Rattle.f77_ast.specs.PlainDecl.{setting_tree}
use Rattle.same_values.specs.DeclTests.{setting_test}
use Rattle.same_values.proofs.DeclLaws.{pointwise-map}
use Rattle.same_values.proofs.decls.same_settings.Goals as goal

pub returns : goal.returns
returns c = c.same_parts.ensures ∙ pointwise-map setting_tree setting_test c.args.a.now c.args.b.now
