use Rattle.std.proofs.Common.{ap, ◌∙◌}
use Rattle.storage_layout.specs.Groups.{index_from}
use Rattle.storage_layout.proofs.NumberingLaws.{number-none, number-some}
use Rattle.storage_layout.proofs.numbering.Numbering.number.Goals as goal

pub returns-in-None : goal.returns-in-None
returns-in-None c =
    number-none c.self.inside.began.keys c.args.began c.in-None.ensures.index ∙ ap (λ gs. index_from 1 gs c.args.began) c.self.view_is

pub returns-in-Some : goal.returns-in-Some
returns-in-Some c =
    number-some c.self.inside.began.keys c.args.began c.in-Some.index c.in-Some.ensures.index ∙ ap (λ gs. index_from 1 gs c.args.began) c.self.view_is
