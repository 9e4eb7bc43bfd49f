use Rattle.std.proofs.Common.{◌∙◌}
use Rattle.f77_ast.specs.Plain.{expr_tree}
use Rattle.same_values.specs.Tests.{expr_test}
use Rattle.same_values.proofs.DeclLaws.{pointwise-maps}
use Rattle.same_values.proofs.decls.same_equivalences.Goals as goal

pub returns : goal.returns
returns c = c.same_parts.ensures ∙ pointwise-maps expr_tree expr_test c.args.a.now c.args.b.now
