use Rattle.std.proofs.Common.{◌∙◌}
use Rattle.f77_ast.specs.PlainDecl.{data_value_tree}
use Rattle.same_values.specs.DeclTests.{value_test}
use Rattle.same_values.proofs.DeclLaws.{pointwise-map}
use Rattle.same_values.proofs.decls.same_values.Goals as goal

pub returns : goal.returns
returns c = c.same_parts.ensures ∙ pointwise-map data_value_tree value_test c.args.a.now c.args.b.now
