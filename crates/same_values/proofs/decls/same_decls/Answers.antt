use Rattle.std.proofs.Common.{◌∙◌}
use Rattle.f77_ast.specs.PlainDecl.{decl_tree}
use Rattle.same_values.specs.DeclTests.{decl_test}
use Rattle.same_values.proofs.DeclLaws.{pointwise-map}
use Rattle.same_values.proofs.decls.same_decls.Goals as goal

pub returns : goal.returns
returns c = c.same_parts.ensures ∙ pointwise-map decl_tree decl_test c.args.a.now c.args.b.now
