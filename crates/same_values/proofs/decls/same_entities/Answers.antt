use Rattle.std.proofs.Common.{◌∙◌}
use Rattle.f77_ast.specs.PlainDecl.{entity_tree}
use Rattle.same_values.specs.DeclTests.{entity_test}
use Rattle.same_values.proofs.DeclLaws.{pointwise-map}
use Rattle.same_values.proofs.decls.same_entities.Goals as goal

pub returns : goal.returns
returns c = c.same_parts.ensures ∙ pointwise-map entity_tree entity_test c.args.a.now c.args.b.now
