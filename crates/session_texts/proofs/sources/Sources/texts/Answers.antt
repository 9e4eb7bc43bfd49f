use Rattle.std.proofs.Common.{List, map, ap, ◌∙◌, subst}
use Rattle.pipsmake_meaning.specs.Texts.{ModuleText, AreModules}
use Rattle.session_texts.specs.Modules.{text_record}
use Rattle.session_texts.proofs.sources.Sources.texts.Goals as goal

pub returns : goal.returns
returns c = record {
  texts = ap (map text_record) c.as_slice.ensures ∙ c.self.view_is;
  modules = subst (λ (ts : List ModuleText). AreModules ts) c.self.view_is c.self.invariant.modules;
}
