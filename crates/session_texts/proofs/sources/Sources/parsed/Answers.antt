use Rattle.std.proofs.Common.{sym, ap, ◌∙◌}
use Rattle.std.specs.Prelude.{option_map, slice_get}
use Rattle.f77_ast.specs.PlainDecl.{parsed_tree}
use Rattle.pipsmake_meaning.specs.Texts.{trees_in}
use Rattle.session_texts.proofs.Named.{tree_at}
use Rattle.session_texts.proofs.sources.Sources.parsed.Goals as goal

pub returns : goal.returns
returns c =
    let i = c.self.inside in
    ap (option_map parsed_tree) c.get.ensures
    ∙ sym (tree_at i.lists.texts i.names i.lists.trees i.lists.tables c.self.invariant c.args.at)
    ∙ ap (λ ts. slice_get (trees_in ts) c.args.at) c.self.view_is
