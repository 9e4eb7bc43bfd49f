use Rattle.std.proofs.Common.{◌∙◌}
use Rattle.f77_ast.specs.PlainDecl.{common_tree}
use Rattle.same_values.specs.DeclTests.{common_test}
use Rattle.same_values.proofs.DeclLaws.{pointwise-map}
use Rattle.same_values.proofs.decls.same_blocks.Goals as goal

pub returns : goal.returns
returns c = c.same_parts.ensures ∙ pointwise-map common_tree common_test c.args.a.now c.args.b.now
