use Rattle.std.proofs.Common.{map, sym, ap, ◌∙◌}
use Rattle.std.specs.Prelude.{option_map, slice_get}
use Rattle.f77_ast.specs.Symbols.{symbol_tree}
use Rattle.pipsmake_meaning.specs.Texts.{tables_in}
use Rattle.session_texts.proofs.Named.{table_at}
use Rattle.session_texts.proofs.sources.Sources.symbols.Goals as goal

pub returns : goal.returns
returns c =
    let i = c.self.inside in
    ap (option_map (map symbol_tree)) c.get.ensures
    ∙ sym (table_at i.lists.texts i.names i.lists.trees i.lists.tables c.self.invariant c.args.at)
    ∙ ap (λ ts. slice_get (tables_in ts) c.args.at) c.self.view_is
