-- Summaries that are made bottom-up.
use Rattle.std.specs.Prelude.{◌≡◌, ℕ, List, [], ◌∷◌, length, Option, Some, None, Ok, if◌then◌else◌, bytes_eq}
use Rattle.f77_ast.specs.DeclTrees.{ParsedTree}
use Rattle.f77_ast.specs.Symbols.{SymbolTree}
use Rattle.f77_ast.specs.declared.effect_set.EffectSet.{EffectSet}
use Rattle.f77_ast.specs.Summaries.{SummaryTree}
use Rattle.call_graph.specs.declared.graph.Graph.{Graph}
use Rattle.call_graph.specs.Links.{link_of}
use Rattle.f77_meaning.specs.Modules.{Known, known_of}
use Rattle.effects.specs.List.{Callees}
use Rattle.effects.specs.Modules.{cumulated_of}
use Rattle.laws_programs.specs.Effects.Laws.{AreSummarised}

-- the first module of a name
abbrev pub with_name : List Known → List ℕ → Option Known
with_name [] x = None
with_name (k ∷ ks) x = if bytes_eq k.read.name x then Some k else with_name ks x

-- what callers know of it, made with these summaries
abbrev pub made : Option Known → Callees → Option (SummaryTree EffectSet)
made None cs = None
made (Some k) cs = Some (record { symbols = k.symbols; value = (cumulated_of k.read.body cs k.symbols).summary })

-- these summaries, and that of one module more
abbrev pub with_summary : List Known → List ℕ → Callees → Callees
with_summary ks x cs y = if bytes_eq y x then made (with_name ks x) cs else cs y

-- these, and those of the modules that stand before a name in an order, each made with those before it
abbrev pub before : List Known → List (List ℕ) → Callees → List ℕ → Callees
before ks [] cs m = cs
before ks (x ∷ xs) cs m = if bytes_eq m x then cs else before ks xs (with_summary ks x cs) m

abbrev pub no_summary : Callees
no_summary x = None

-- for each module the summaries of those before it in the order of the graph
abbrev pub bottom_up : List Known → Graph → List ℕ → Callees
bottom_up ks g m = before ks g.order no_summary m

-- of modules that link, each has the summaries of those that it calls
abbrev pub SummariesAreMade : Type 0
SummariesAreMade = (ps : List ParsedTree) (sss : List (List SymbolTree)) (g : Graph) → length ps ≡ length sss → link_of ps sss ≡ Ok g → AreSummarised ps sss (bottom_up (known_of ps sss) g)
