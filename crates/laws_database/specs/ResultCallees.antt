-- What results need of the modules that a module calls: of each name in a CALL the symbols and a summary.
use Rattle.std.specs.Prelude.{◌≡◌, ℕ, List, Option, Some, None}
use Rattle.f77_ast.specs.Trees.{StmtTrees}
use Rattle.f77_ast.specs.declared.effect_set.EffectSet.{EffectSet}
use Rattle.f77_ast.specs.Summaries.{SummaryTree}
use Rattle.preconditions.specs.transformer_algebra.declared.transformer.Transformer.{Transformer}
use Rattle.in_out_regions.specs.region_sets.declared.region.Region.{Region}
use Rattle.loop_marker.specs.Results.{ModuleResults}
use Rattle.call_graph.specs.CallsIn.{CallAt, Each, list_calls}
use Rattle.session_texts.specs.pipsmake_meaning.ResultEntries.{results_for}

-- the symbols and a summary of the module of each name
abbrev pub Summaries : Type 0 → Type 0
Summaries T = List ℕ → Option (SummaryTree T)

-- the same is known of each module that the CALLs of a body name, at whatever depth
abbrev pub SameCallees : {T : Type 0} → StmtTrees → Summaries T → Summaries T → Type 0
SameCallees body cs ds = Each (λ (c : CallAt). cs c.callee ≡ ds c.callee) (list_calls body)

-- of results of modules
abbrev pub seen_of : {T : Type 0} → (ModuleResults → T) → Option ModuleResults → Option (SummaryTree T)
seen_of value None = None
seen_of value (Some f) = Some (record { symbols = f.known.symbols; value = value f })

abbrev pub summaries : {T : Type 0} → (ModuleResults → T) → List ModuleResults → Summaries T
summaries value fs x = seen_of value (results_for fs x)

abbrev pub effect_summaries : List ModuleResults → Summaries EffectSet
effect_summaries fs = summaries (λ f. f.effects.summary) fs

abbrev pub transformer_summaries : List ModuleResults → Summaries Transformer
transformer_summaries fs = summaries (λ f. f.transformers.summary) fs

abbrev pub region_summaries : List ModuleResults → Summaries (List Region)
region_summaries fs = summaries (λ f. f.regions.summary) fs

abbrev pub in_summaries : List ModuleResults → Summaries (List Region)
in_summaries fs = summaries (λ f. f.ins.summary) fs
