use Rattle.std.proofs.Common.{sym, ap, ◌∙◌}
use Rattle.std.specs.Prelude.{option_map, slice_get}
use Rattle.session_texts.specs.Modules.{text_record}
use Rattle.session_texts.proofs.Named.{text_at}
use Rattle.session_texts.proofs.sources.Sources.text.Goals as goal

pub returns : goal.returns
returns c =
    let i = c.self.inside in
    ap (option_map text_record) c.get.ensures
    ∙ sym (text_at i.lists.texts i.names i.lists.trees i.lists.tables c.self.invariant c.args.at)
    ∙ ap (λ ts. slice_get ts c.args.at) c.self.view_is
