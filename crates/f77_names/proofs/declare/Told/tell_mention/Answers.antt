use Rattle.std.proofs.Common.{List, map, sym, ap, ◌∙◌}
use Rattle.f77_names.specs.Declaring.{Told, mention_told}
use Rattle.f77_names.specs.Entries.{EntryTree, entry_tree, seen}
use Rattle.f77_names.specs.Words.{mentioned}
use Rattle.f77_names.specs.Views.{told_tree}
use Rattle.f77_names.proofs.ToldLaws.{changed-same}
use Rattle.f77_names.proofs.declare.Told.tell_mention.Goals as goal

pub returns-in-Equivalent : goal.returns-in-Equivalent
returns-in-Equivalent c =
    let t = c.args.self.now in
    let with_entries : List EntryTree → Told = λ es. record { entries = es; found = t.found } in
    ap with_entries (c.in_ok-see.ensures.ok ∙ sym (changed-same c.args.name.now (seen c.args.name.now c.args.line (map entry_tree t.names))))
    ∙ ap (λ m. mention_told (mentioned m) c.args.name.now c.args.line (told_tree t)) (sym c.in-Equivalent.is)
