use Rattle.std.proofs.Common.{subst, arith}
use Rattle.f77_ast.specs.PlainDecl.{parsed_tree}
use Rattle.base_text.specs.Gives.{GivesAs}
use Rattle.base_text.specs.Modules.{table_names}
use Rattle.base_text.proofs.ModuleLaws.{names_of_tree}
use Rattle.base_text.proofs.modules.table_of.Goals as goal

pub returns : goal.returns
returns c =
    subst (GivesAs table_names c.table_in.result) (names_of_tree c.args.held.now (parsed_tree c.in_ok-parsed.parsed) (omega arith) c.in_ok-parsed.ensures) c.table_in.ensures
