use Rattle.std.proofs.Common.{ap, ◌∙◌}
use Rattle.pipsmake_meaning.specs.Texts.{trees_in}
use Rattle.session_texts.proofs.sources.Sources.trees.Goals as goal

pub returns : goal.returns
returns c = c.self.invariant.trees_are ∙ ap trees_in c.self.view_is
