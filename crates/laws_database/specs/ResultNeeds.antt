-- What each kind of result needs, the same in two programs: of the module itself, of its program's graph, and of the modules that it calls or that call it, by the names that
-- the graph has for them. Of programs with one graph the parts of the graph are the same.
use Rattle.std.specs.Prelude.{◌≡◌, ℕ, List}
use Rattle.call_graph.specs.declared.graph.Graph.{Graph}
use Rattle.f77_meaning.specs.Linked.{callees}
use Rattle.loop_marker.specs.Results.{ModuleResults}
use Rattle.call_graph.specs.CallsIn.{Each}
use Rattle.session_texts.specs.pipsmake_meaning.ResultEntries.{name_in}
use Rattle.laws_database.specs.ResultCallees.{effect_summaries, transformer_summaries, region_summaries, in_summaries}
use Rattle.laws_database.specs.ResultCallers.{caller_names, holding_at, later_at}

-- the same is known of each of these names
abbrev pub SameAt : {T : Type 0} → List (List ℕ) → (List ℕ → T) → (List ℕ → T) → Type 0
SameAt ys cs ds = Each (λ y. cs y ≡ ds y) ys

-- of programs with these graphs and results, and of an entry of each
module _ (g d : Graph) (fs hs : List ModuleResults) (f h : ModuleResults) where
  -- the tree and the symbols of the module; of each module that it calls the symbols and the summary of effects
  pub record SameEffectNeeds : Type 0 where
    pub module_is : f.known ≡ h.known
    pub called : SameAt (callees g.edges (name_in f)) (effect_summaries fs) (effect_summaries hs)

  -- of each module that it calls the symbols and the summary of transformers
  pub record SameTransformerNeeds : Type 0 where
    pub untracked : g.untracked ≡ d.untracked
    pub module_is : f.known ≡ h.known
    pub called : SameAt (callees g.edges (name_in f)) (transformer_summaries fs) (transformer_summaries hs)

  -- its transformers; of each module that calls it the tree, the symbols and the preconditions
  pub record SamePreconditionNeeds : Type 0 where
    pub untracked : g.untracked ≡ d.untracked
    pub module_is : f.known ≡ h.known
    pub transformers : f.transformers ≡ h.transformers
    pub callers_are : caller_names g (name_in f) ≡ caller_names d (name_in f)
    pub calling : SameAt (caller_names g (name_in f)) (holding_at fs) (holding_at hs)

  -- its transformers; of each module that it calls the symbols and the summary of READ and WRITE
  pub record SameRegionNeeds : Type 0 where
    pub untracked : g.untracked ≡ d.untracked
    pub module_is : f.known ≡ h.known
    pub transformers : f.transformers ≡ h.transformers
    pub called : SameAt (callees g.edges (name_in f)) (region_summaries fs) (region_summaries hs)

  -- its transformers, READ and WRITE; of each module that it calls the symbols and the summary of IN
  pub record SameInNeeds : Type 0 where
    pub untracked : g.untracked ≡ d.untracked
    pub module_is : f.known ≡ h.known
    pub transformers : f.transformers ≡ h.transformers
    pub regions : f.regions ≡ h.regions
    pub called : SameAt (callees g.edges (name_in f)) (in_summaries fs) (in_summaries hs)

  -- its transformers, READ, WRITE and IN; of each module that calls it the tree, the symbols, the transformers and OUT
  pub record SameOutNeeds : Type 0 where
    pub untracked : g.untracked ≡ d.untracked
    pub blocks : g.blocks ≡ d.blocks
    pub module_is : f.known ≡ h.known
    pub transformers : f.transformers ≡ h.transformers
    pub regions : f.regions ≡ h.regions
    pub ins : f.ins ≡ h.ins
    pub callers_are : caller_names g (name_in f) ≡ caller_names d (name_in f)
    pub calling : SameAt (caller_names g (name_in f)) (later_at fs) (later_at hs)

-- all other results of the module, and no other module
pub record SameMarkNeeds (g d : Graph) (f h : ModuleResults) : Type 0 where
  pub untracked : g.untracked ≡ d.untracked
  pub module_is : f.known ≡ h.known
  pub effects : f.effects ≡ h.effects
  pub transformers : f.transformers ≡ h.transformers
  pub preconditions : f.preconditions ≡ h.preconditions
  pub regions : f.regions ≡ h.regions
  pub ins : f.ins ≡ h.ins
  pub outs : f.outs ≡ h.outs
