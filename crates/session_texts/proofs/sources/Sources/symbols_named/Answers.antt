use Rattle.std.proofs.Common.{map, sym, ap, ◌∙◌}
use Rattle.std.specs.Prelude.{option_map}
use Rattle.f77_ast.specs.Symbols.{symbol_tree}
use Rattle.pipsmake_meaning.specs.Texts.{ReadModule}
use Rattle.pipsmake_meaning.specs.Definitions.{module_named}
use Rattle.session_texts.proofs.Named.{table_missing, table_found}
use Rattle.session_texts.proofs.sources.Sources.symbols_named.Goals as goal

pub returns-in-None : goal.returns-in-None
returns-in-None c =
    let i = c.self.inside in
    sym (table_missing i.lists.texts i.names i.lists.trees i.lists.tables c.self.invariant c.args.name.now (sym c.in-None.ensures))
    ∙ ap (λ ts. option_map (λ (m : ReadModule). m.table) (module_named ts c.args.name.now)) c.self.view_is

pub returns-in-Some : goal.returns-in-Some
returns-in-Some c =
    let i = c.self.inside in
    ap (option_map (map symbol_tree)) c.get.ensures
    ∙ sym (table_found i.lists.texts i.names i.lists.trees i.lists.tables c.self.invariant c.args.name.now c.in-Some.place (sym c.in-Some.ensures))
    ∙ ap (λ ts. option_map (λ (m : ReadModule). m.table) (module_named ts c.args.name.now)) c.self.view_is
