use Rattle.std.proofs.Common.{map, get_or, Some, sym, ap, ◌∙◌}
use Rattle.f77_names.specs.Entries.{entry_tree}
use Rattle.f77_names.proofs.NamesLaws.{find-none, find-at}
use Rattle.f77_names.proofs.names.Names.find.Goals as goal

pub returns-in-None : goal.returns-in-None
returns-in-None c = sym (find-none c.args.name.now (map entry_tree c.args.self.now) (sym c.in-None.ensures.place))

pub returns-in-Some : goal.returns-in-Some
returns-in-Some c =
    let r = c.index.result.now in
    ap (λ z. Some (entry_tree z)) (c.index.ensures ∙ ap (λ es. get_or es c.in-Some.at r) c.self.view_is)
    ∙ sym (find-at c.args.name.now c.in-Some.at c.args.self.now r (sym c.in-Some.ensures.place))
