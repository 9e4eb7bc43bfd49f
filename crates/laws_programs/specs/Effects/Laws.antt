-- The effects of modules hold in every run.
use Rattle.std.specs.Prelude.{◌≡◌, ℕ, List, length, Ok, Some, slice_get}
use Rattle.f77_ast.specs.DeclTrees.{ParsedTree}
use Rattle.f77_ast.specs.Symbols.{SymbolTree}
use Rattle.f77_ast.specs.Summaries.{SummaryTree}
use Rattle.f77_ast.specs.declared.effect_set.EffectSet.{EffectSet}
use Rattle.call_graph.specs.declared.graph.Graph.{Graph}
use Rattle.call_graph.specs.declared.calls.Called.{Called}
use Rattle.call_graph.specs.Calls.{calls_of}
use Rattle.call_graph.specs.Links.{link_of}
use Rattle.f77_meaning.specs.Modules.{Known, known_of}
use Rattle.f77_meaning.specs.Claimed.{InEveryRun}
use Rattle.effects.specs.List.{Callees}
use Rattle.effects.specs.Modules.{cumulated_of}
use Rattle.laws_programs.specs.Effects.Tables.{IsRead}
use Rattle.f77_meaning.specs.Occurrences.{Occurrence}
use Rattle.f77_ast.specs.StatementNumbers.{list_numbers, StandOnce}
use Rattle.laws_programs.specs.Effects.Claims.{EffectsHold, GivesEffect, IsOfModule}

-- what callers know of a module
abbrev pub summary_for : (List ℕ → Callees) → Known → SummaryTree EffectSet
summary_for tables k = record { symbols = k.symbols; value = (cumulated_of k.read.body (tables k.read.name) k.symbols).summary }

-- the effects of each module are made with the summaries of the modules that it calls
abbrev pub AreSummarised : List ParsedTree → List (List SymbolTree) → (List ℕ → Callees) → Type 0
AreSummarised ps sss tables =
    (i : ℕ) (p : ParsedTree) (ss : List SymbolTree) → slice_get ps i ≡ Some p → slice_get sss i ≡ Some ss →
    (j : ℕ) (c : Called) → slice_get (calls_of p ss) j ≡ Some c →
    (n : ℕ) (k : Known) → slice_get (known_of ps sss) n ≡ Some k → k.read.name ≡ c.callee →
    tables p.module_read.name c.callee ≡ Some (summary_for tables k)

abbrev pub AreRead : List Known → Type 0
AreRead ks = (n : ℕ) (k : Known) → slice_get ks n ≡ Some k → IsRead k

-- of modules that link, in every run, also in one that a fault ends
abbrev pub EffectsAreOfRuns : Type 0
EffectsAreOfRuns = (ps : List ParsedTree) (sss : List (List SymbolTree)) (g : Graph) (tables : List ℕ → Callees) →
    length ps ≡ length sss → link_of ps sss ≡ Ok g → AreRead (known_of ps sss) → AreSummarised ps sss tables →
    InEveryRun (known_of ps sss) g (λ x. IsOfModule (known_of ps sss) g tables x)

-- whatever effects a module's results give an execution in it hold
abbrev pub AllHold : List Known → Graph → (List ℕ → Callees) → Occurrence → Type 0
AllHold ks g tables x =
    (i : ℕ) (k : Known) (e : EffectSet) → slice_get ks i ≡ Some k → k.read.name ≡ x.spot.module_name → GivesEffect (cumulated_of k.read.body (tables k.read.name) k.symbols) x.spot.statement e → EffectsHold ks g e x

abbrev pub AreNumberedOnce : List Known → Type 0
AreNumberedOnce ks = (n : ℕ) (k : Known) → slice_get ks n ≡ Some k → StandOnce (list_numbers k.read.body)

-- where numbers stand once in a module, they are all that its results give
abbrev pub AllEffectsHold : Type 0
AllEffectsHold = (ps : List ParsedTree) (sss : List (List SymbolTree)) (g : Graph) (tables : List ℕ → Callees) →
    length ps ≡ length sss → link_of ps sss ≡ Ok g → AreRead (known_of ps sss) → AreSummarised ps sss tables → AreNumberedOnce (known_of ps sss) →
    InEveryRun (known_of ps sss) g (λ x. AllHold (known_of ps sss) g tables x)
