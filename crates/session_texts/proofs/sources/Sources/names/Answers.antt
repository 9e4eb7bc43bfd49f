use Rattle.std.proofs.Common.{List, ap, ◌∙◌, subst}
use Rattle.pipsmake_meaning.specs.Texts.{ModuleText, names_in}
use Rattle.session_texts.specs.Modules.{NamesDiffer}
use Rattle.session_texts.proofs.sources.Sources.names.Goals as goal

pub returns : goal.returns
returns c = record {
  names = c.names.ensures ∙ c.self.invariant.names_are ∙ ap names_in c.self.view_is;
  differ = subst (λ (ts : List ModuleText). NamesDiffer ts) c.self.view_is c.self.invariant.distinct;
}
