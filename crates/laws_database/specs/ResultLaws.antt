-- The laws.
use Rattle.std.specs.Prelude.{◌≡◌, ℕ, List, map, reverse, slice_get, Some}
use Rattle.f77_ast.specs.Trees.{StmtTrees}
use Rattle.f77_ast.specs.DeclTrees.{ParsedTree}
use Rattle.f77_ast.specs.declared.variable.Unit.{Unit as BlockUnit}
use Rattle.f77_ast.specs.Symbols.{SymbolTree}
use Rattle.f77_ast.specs.declared.effect_set.EffectSet.{EffectSet}
use Rattle.f77_ast.specs.declared.results.At.{At}
use Rattle.f77_meaning.specs.Modules.{Known, known_of}
use Rattle.f77_meaning.specs.Linked.{callees}
use Rattle.call_graph.specs.declared.graph.Graph.{Graph}
use Rattle.in_out_regions.specs.effects.Modules.{cumulated_of}
use Rattle.preconditions.specs.transformer_algebra.declared.transformer.Transformer.{Transformer}
use Rattle.preconditions.specs.call_translation.Scopes.{ScopeTree}
use Rattle.preconditions.specs.transformers.Modules.{transformers_of}
use Rattle.in_out_regions.specs.region_sets.declared.region.Region.{Region}
use Rattle.in_out_regions.specs.array_regions.Modules.{regions_with}
use Rattle.in_out_regions.specs.Modules.{ins_with}
use Rattle.loop_marker.specs.module_phases.ScalarPhases.{analyses}
use Rattle.loop_marker.specs.module_phases.RegionPhases.{all_regions}
use Rattle.loop_marker.specs.module_phases.InPhases.{all_ins}
use Rattle.loop_marker.specs.module_phases.OutPhases.{all_outs}
use Rattle.loop_marker.specs.Results.{ModuleResults}
use Rattle.loop_marker.specs.Phases.{phases_of, analysis_in}
use Rattle.laws_programs.specs.Storage.Programs.{IsLinked}
use Rattle.call_graph.specs.CallsIn.{CallAt, Each, list_calls}
use Rattle.session_texts.specs.pipsmake_meaning.ResultEntries.{results_of_modules, name_in, results_for}
use Rattle.laws_database.specs.ResultCallees.{Summaries, SameCallees}
use Rattle.laws_database.specs.ResultCallers.{callers, caller_names, holding_sites, later_sites}
use Rattle.laws_database.specs.ResultEquations.{FollowsFrom}
use Rattle.laws_database.specs.ResultNeeds.{SameEffectNeeds, SameTransformerNeeds, SamePreconditionNeeds, SameRegionNeeds, SameInNeeds, SameOutNeeds, SameMarkNeeds}

-- ---- of other modules a body needs those that its CALLs name

abbrev pub EffectsNeedCallees : Type 0
EffectsNeedCallees = (body : StmtTrees) (ss : List SymbolTree) (cs ds : Summaries EffectSet) → SameCallees body cs ds → cumulated_of body cs ss ≡ cumulated_of body ds ss

abbrev pub TransformersNeedCallees : Type 0
TransformersNeedCallees = (body : StmtTrees) (m : ScopeTree) (cs ds : Summaries Transformer) → SameCallees body cs ds → transformers_of body m cs ≡ transformers_of body m ds

abbrev pub RegionsNeedCallees : Type 0
RegionsNeedCallees = (body : StmtTrees) (m : ScopeTree) (untracked : List BlockUnit) (own : List (At Transformer)) (cs ds : Summaries (List Region)) → SameCallees body cs ds →
    regions_with body m untracked own cs ≡ regions_with body m untracked own ds

abbrev pub InsNeedCallees : Type 0
InsNeedCallees = (body : StmtTrees) (m : ScopeTree) (untracked : List BlockUnit) (own : List (At Transformer)) (accesses : List (At (List Region))) (cs ds : Summaries (List Region)) → SameCallees body cs ds →
    ins_with body m untracked own accesses cs ≡ ins_with body m untracked own accesses ds

-- modules without a CALL of a name add nothing to its CALLs
pub record HaveAllSites (untracked : List BlockUnit) (fs : List ModuleResults) (x : List ℕ) : Type 0 where
  pub holding : holding_sites untracked (reverse fs) x ≡ holding_sites untracked (callers fs x) x
  pub later : later_sites untracked (reverse fs) x ≡ later_sites untracked (callers fs x) x

abbrev pub CallersHaveAllSites : Type 0
CallersHaveAllSites = (untracked : List BlockUnit) (fs : List ModuleResults) (x : List ℕ) → HaveAllSites untracked fs x

-- ---- one entry for each module

-- entries have the results of all passes, those that go down from callers in the opposite order
pub record HavePasses (ks : List Known) (g : Graph) (fs : List ModuleResults) : Type 0 where
  pub analyses_are : analyses ks g ≡ map (λ f. analysis_in (phases_of f)) (reverse fs)
  pub regions_are : all_regions g (analyses ks g) ≡ map (λ f. (phases_of f).known.known) fs
  pub ins_are : all_ins g (all_regions g (analyses ks g)) ≡ map (λ f. (phases_of f).known) fs
  pub outs_are : all_outs g (all_ins g (all_regions g (analyses ks g))) ≡ map phases_of (reverse fs)

abbrev pub EntriesHavePasses : Type 0
EntriesHavePasses = (ks : List Known) (g : Graph) → HavePasses ks g (results_of_modules ks g)

-- an entry is found by its name, and is of a module
pub record IsFound (ks : List Known) (fs : List ModuleResults) (f : ModuleResults) : Type 0 where
  pub found : results_for fs (name_in f) ≡ Some f
  pub at : ℕ
  pub is_module : slice_get ks at ≡ Some f.known

-- a module has an entry
pub record HasEntry (fs : List ModuleResults) (k : Known) : Type 0 where
  pub entry : ModuleResults
  pub found : results_for fs k.read.name ≡ Some entry
  pub is : entry.known ≡ k

pub record AreEntries (ks : List Known) (fs : List ModuleResults) : Type 0 where
  pub found : Each (IsFound ks fs) fs
  pub modules : (i : ℕ) (k : Known) → slice_get ks i ≡ Some k → HasEntry fs k

abbrev pub ModulesHaveEntries : Type 0
ModulesHaveEntries = (ps : List ParsedTree) (sss : List (List SymbolTree)) (g : Graph) → IsLinked ps sss g → AreEntries (known_of ps sss) (results_of_modules (known_of ps sss) g)

-- ---- the graph

-- the names in the CALLs of an entry's module, in the order of the text, are those that the graph has for it
abbrev pub IsInGraph : Graph → ModuleResults → Type 0
IsInGraph g f = map (λ (c : CallAt). c.callee) (list_calls f.known.read.body) ≡ callees g.edges (name_in f)

pub record AreInGraph (g : Graph) (fs : List ModuleResults) : Type 0 where
  pub order : map name_in fs ≡ g.order
  pub callees_are : Each (IsInGraph g) fs
  pub callers_are : (x : List ℕ) → map name_in (callers fs x) ≡ caller_names g x

abbrev pub EntriesAreInGraph : Type 0
EntriesAreInGraph = (ps : List ParsedTree) (sss : List (List SymbolTree)) (g : Graph) → IsLinked ps sss g → AreInGraph g (results_of_modules (known_of ps sss) g)

-- ---- each result follows from what its kind needs

abbrev pub ResultsFollow : Type 0
ResultsFollow = (ps : List ParsedTree) (sss : List (List SymbolTree)) (g : Graph) → IsLinked ps sss g → Each (FollowsFrom g (results_of_modules (known_of ps sss) g)) (results_of_modules (known_of ps sss) g)

-- what is so of the results that a module of a name has in two programs
abbrev pub InTwoPrograms : (Graph → Graph → List ModuleResults → List ModuleResults → ModuleResults → ModuleResults → Type 0) → Type 0
InTwoPrograms P =
    (ps qs : List ParsedTree) (sss ttt : List (List SymbolTree)) (g d : Graph) → IsLinked ps sss g → IsLinked qs ttt d →
    (let fs = results_of_modules (known_of ps sss) g in
    let hs = results_of_modules (known_of qs ttt) d in
    (x : List ℕ) (f h : ModuleResults) → results_for fs x ≡ Some f → results_for hs x ≡ Some h → P g d fs hs f h)

-- the same needs give the same result
abbrev pub EffectsAreDetermined : Type 0
EffectsAreDetermined = InTwoPrograms (λ g d fs hs f h. SameEffectNeeds g d fs hs f h → f.effects ≡ h.effects)

abbrev pub TransformersAreDetermined : Type 0
TransformersAreDetermined = InTwoPrograms (λ g d fs hs f h. SameTransformerNeeds g d fs hs f h → f.transformers ≡ h.transformers)

abbrev pub PreconditionsAreDetermined : Type 0
PreconditionsAreDetermined = InTwoPrograms (λ g d fs hs f h. SamePreconditionNeeds g d fs hs f h → f.preconditions ≡ h.preconditions)

abbrev pub RegionsAreDetermined : Type 0
RegionsAreDetermined = InTwoPrograms (λ g d fs hs f h. SameRegionNeeds g d fs hs f h → f.regions ≡ h.regions)

abbrev pub InsAreDetermined : Type 0
InsAreDetermined = InTwoPrograms (λ g d fs hs f h. SameInNeeds g d fs hs f h → f.ins ≡ h.ins)

abbrev pub OutsAreDetermined : Type 0
OutsAreDetermined = InTwoPrograms (λ g d fs hs f h. SameOutNeeds g d fs hs f h → f.outs ≡ h.outs)

abbrev pub MarksAreDetermined : Type 0
MarksAreDetermined = InTwoPrograms (λ g d fs hs f h. SameMarkNeeds g d f h → f.marks ≡ h.marks)
