use Rattle.std.proofs.Common.{ap, ◌∙◌}
use Rattle.pipsmake_meaning.specs.Texts.{tables_in}
use Rattle.session_texts.proofs.sources.Sources.tables.Goals as goal

pub returns : goal.returns
returns c = c.self.invariant.tables_are ∙ ap tables_in c.self.view_is
