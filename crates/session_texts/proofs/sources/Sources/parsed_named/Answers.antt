use Rattle.std.proofs.Common.{sym, ap, ◌∙◌}
use Rattle.std.specs.Prelude.{option_map}
use Rattle.f77_ast.specs.PlainDecl.{parsed_tree}
use Rattle.pipsmake_meaning.specs.Texts.{ReadModule}
use Rattle.pipsmake_meaning.specs.Definitions.{module_named}
use Rattle.session_texts.proofs.Named.{tree_missing, tree_found}
use Rattle.session_texts.proofs.sources.Sources.parsed_named.Goals as goal

pub returns-in-None : goal.returns-in-None
returns-in-None c =
    let i = c.self.inside in
    sym (tree_missing i.lists.texts i.names i.lists.trees i.lists.tables c.self.invariant c.args.name.now (sym c.in-None.ensures))
    ∙ ap (λ ts. option_map (λ (m : ReadModule). m.module_is) (module_named ts c.args.name.now)) c.self.view_is

pub returns-in-Some : goal.returns-in-Some
returns-in-Some c =
    let i = c.self.inside in
    ap (option_map parsed_tree) c.get.ensures
    ∙ sym (tree_found i.lists.texts i.names i.lists.trees i.lists.tables c.self.invariant c.args.name.now c.in-Some.place (sym c.in-Some.ensures))
    ∙ ap (λ ts. option_map (λ (m : ReadModule). m.module_is) (module_named ts c.args.name.now)) c.self.view_is
