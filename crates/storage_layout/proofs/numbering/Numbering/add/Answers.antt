use Rattle.std.proofs.Common.{◌∙◌, ap}
use Rattle.storage_layout.specs.Groups.{with_group}
use Rattle.storage_layout.proofs.NumberingLaws.{insert_key-groups}
use Rattle.storage_layout.proofs.numbering.Numbering.add.Goals as goal

pub returns-clause-ok : goal.returns-clause-ok
returns-clause-ok c =
    c.in_ok-insert.ensures.keys ∙ insert_key-groups c.self.inside.began.keys c.args.began ∙ ap (with_group c.args.began) c.self.view_is
