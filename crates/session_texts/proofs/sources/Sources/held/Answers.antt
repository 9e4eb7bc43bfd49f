use Rattle.std.proofs.Common.{sym, ap, ◌∙◌}
use Rattle.std.specs.Prelude.{option_map}
use Rattle.pipsmake_meaning.specs.Texts.{text_of}
use Rattle.session_texts.specs.declared.source.ModuleText.{ModuleText as Kept}
use Rattle.session_texts.proofs.Named.{text_missing, text_found}
use Rattle.session_texts.proofs.sources.Sources.held.Goals as goal

pub returns-in-None : goal.returns-in-None
returns-in-None c =
    let i = c.self.inside in
    sym (text_missing i.lists.texts i.names i.lists.trees i.lists.tables c.self.invariant c.args.name.now (sym c.in-None.ensures))
    ∙ ap (λ ts. text_of ts c.args.name.now) c.self.view_is

pub returns-in-Some : goal.returns-in-Some
returns-in-Some c =
    let i = c.self.inside in
    ap (option_map (λ (t : Kept). t.text)) c.get.ensures
    ∙ sym (text_found i.lists.texts i.names i.lists.trees i.lists.tables c.self.invariant c.args.name.now c.in-Some.place (sym c.in-Some.ensures))
    ∙ ap (λ ts. text_of ts c.args.name.now) c.self.view_is
