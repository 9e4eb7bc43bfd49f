use Rattle.std.proofs.Common.{◌∙◌}
use Rattle.f77_ast.specs.PlainDecl.{extent_tree}
use Rattle.same_values.specs.DeclTests.{extent_test}
use Rattle.same_values.proofs.DeclLaws.{pointwise-map}
use Rattle.same_values.proofs.decls.same_extents.Goals as goal

pub returns : goal.returns
returns c = c.same_parts.ensures ∙ pointwise-map extent_tree extent_test c.args.a.now c.args.b.now
