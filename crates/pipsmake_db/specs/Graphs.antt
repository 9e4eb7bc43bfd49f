-- A graph that is kept beside texts: cited by private functions alone.
use Rattle.std.specs.Prelude.{◌≡◌, List, Option, Some, None, Ok}
use Rattle.call_graph.specs.declared.graph.Graph.{Graph}
use Rattle.session_texts.specs.pipsmake_meaning.Texts.{ModuleText, links_in}

-- it is that of the texts
abbrev pub IsGraph : List ModuleText → Option Graph → Type 0
IsGraph ts None = Unit {0}
IsGraph ts (Some g) = links_in ts ≡ Ok g
