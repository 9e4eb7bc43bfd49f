use Rattle.std.proofs.Common.{◌∙◌}
use Rattle.f77_ast.specs.PlainDecl.{data_tree}
use Rattle.same_values.specs.DeclTests.{data_test}
use Rattle.same_values.proofs.DeclLaws.{pointwise-map}
use Rattle.same_values.proofs.decls.same_groups.Goals as goal

pub returns : goal.returns
returns c = c.same_parts.ensures ∙ pointwise-map data_tree data_test c.args.a.now c.args.b.now
