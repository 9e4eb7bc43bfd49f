-- The present modules with their links, and what is made of them and of what is kept.
use Rattle.std.specs.Prelude.{◌≡◌, ℕ, List, Option, option_and_then, is_ok, IfSome}
use Rattle.result_lines.specs.declared.show.Show.{Show}
use Rattle.session_texts.specs.pipsmake_meaning.Texts.{ModuleText, links_in, graph_of}
use Rattle.session_texts.specs.pipsmake_meaning.Definitions.{module_named}
use Rattle.session_texts.specs.pipsmake_meaning.MemoCells.{MemoCells}
use Rattle.session_texts.specs.pipsmake_meaning.Rules.{text_with}
use Rattle.result_store.specs.declared.value.Value.{Value}
use Rattle.result_store.specs.Values.{value_tree}
use Rattle.result_store.specs.Fits.{ValueFits}
use Rattle.result_making.specs.declared.modules.Modules.{Modules}

-- the graph is that of the texts, which is without modules where they do not link
pub record AreGraphed (m : Modules) : Type 0 where
  pub graph : m.graph.now ≡ graph_of m.sources.now
  pub linked : m.linked ≡ is_ok (links_in m.sources.now)

-- a value that is made may be kept
abbrev pub MayBeKept : Option Value → Type 0
MayBeKept v = IfSome v (λ w. ValueFits (value_tree w))

-- the written text of the module of a name, from what is kept of it; none where the module lacks, or a result that is shown
abbrev pub text_made : MemoCells → List ModuleText → List ℕ → Show → Option (List ℕ)
text_made sh ts x show = option_and_then (λ m. text_with sh m x show) (module_named ts x)
