-- In two programs the same needs of a module give it the same result.
use Rattle.std.proofs.Common.{◌≡◌, ℕ, Bool, true, false, List, [], ◌∷◌, ◌++◌, Option, Some, refl, sym, ap, ◌∙◌, subst}
use Rattle.std.specs.Prelude.{map, reverse, bytes_eq, cond, option_map, option_to_list, if◌then◌else◌}
use Rattle.std.specs.List.{filter}
use Rattle.affine_systems.specs.declared.row.System.{System}
use Rattle.f77_ast.specs.DeclTrees.{ParsedTree}
use Rattle.f77_ast.specs.declared.variable.Unit.{Unit as BlockUnit}
use Rattle.f77_ast.specs.Symbols.{SymbolTree}
use Rattle.f77_ast.specs.declared.results.Results.{Results}
use Rattle.call_graph.specs.declared.graph.Block.{Block}
use Rattle.call_graph.specs.declared.graph.Graph.{Graph}
use Rattle.f77_meaning.specs.Linked.{callees}
use Rattle.f77_meaning.specs.Modules.{Known, known_of, symbol_names}
use Rattle.preconditions.specs.transformer_algebra.declared.transformer.Transformer.{Transformer}
use Rattle.preconditions.specs.call_translation.Sites.{SiteTree, HoldingSite}
use Rattle.preconditions.specs.transformers.Lists.{value_at, transformer_at}
use Rattle.preconditions.specs.transformers.Modules.{transformers_of}
use Rattle.preconditions.specs.Entry.{entry_of}
use Rattle.preconditions.specs.Modules.{preconditions_of}
use Rattle.in_out_regions.specs.call_equations.Sides.{changed_cells}
use Rattle.in_out_regions.specs.array_regions.Modules.{regions_with}
use Rattle.in_out_regions.specs.Modules.{ins_with}
use Rattle.loop_marker.specs.out_regions.Modules.{outs_with}
use Rattle.loop_marker.specs.Known.{knowledge_of}
use Rattle.loop_marker.specs.Marks.{marks_of}
use Rattle.loop_marker.specs.module_phases.ScalarPhases.{scope_of, list_sites}
use Rattle.loop_marker.specs.module_phases.declared.out_site.OutSite.{OutSite}
use Rattle.loop_marker.specs.module_phases.OutPhases.{list_sites as out_list_sites, used_after}
use Rattle.loop_marker.specs.Results.{ModuleResults}
use Rattle.loop_marker.specs.Phases.{effects_found}
use Rattle.laws_programs.specs.Storage.Programs.{IsLinked}
use Rattle.call_graph.specs.CallsIn.{Each, list_calls}
use Rattle.laws_analyses.proofs.Passes.{each_reversed}
use Rattle.laws_analyses.proofs.CalleeLaws.{same_transformers}
use Rattle.session_texts.specs.pipsmake_meaning.ResultEntries.{results_of_modules, name_in, results_for}
use Rattle.laws_database.specs.ResultCallees.{Summaries, SameCallees, effect_summaries, transformer_summaries, region_summaries, in_summaries}
use Rattle.laws_database.specs.ResultCallers.{calls, callers, caller_names, HoldingCaller, LaterCaller, holding_caller, later_caller, holding_sites, later_sites}
use Rattle.laws_database.specs.ResultEquations.{FollowsFrom}
use Rattle.laws_database.specs.ResultNeeds.{SameAt, SameEffectNeeds, SameTransformerNeeds, SamePreconditionNeeds, SameRegionNeeds, SameInNeeds, SameOutNeeds, SameMarkNeeds}
use Rattle.laws_database.specs.ResultLaws.{IsFound, IsInGraph, InTwoPrograms}
use Rattle.laws_database.proofs.ResultEffectLaws.{same_effects}
use Rattle.laws_database.proofs.ResultRegionLaws.{same_regions}
use Rattle.laws_database.proofs.ResultInLaws.{same_ins}
use Rattle.laws_database.proofs.ResultLists.{each_mapped}
use Rattle.laws_database.proofs.ResultEntries.{modules_have_entries, IsNamed}
use Rattle.laws_database.proofs.ResultGraphs.{name_in_call, are_in_graph}
use Rattle.laws_database.proofs.ResultFollows.{results_follow}
use Rattle.in_out_regions.specs.region_sets.Lists.{set_at}
use Rattle.call_graph.proofs.EachLaws.{each_more}

-- ---- CALLs by what is needed of the modules that have them

abbrev holding_by : List BlockUnit → List HoldingCaller → List ℕ → List HoldingSite
holding_by u [] x = []
holding_by u (c ∷ cs) x = list_sites c.known.read.body (record { scope = scope_of u c.known; holds = value_at c.holds.at }) x ++ holding_by u cs x

holding_are : (u : List BlockUnit) (fs : List ModuleResults) (x : List ℕ) → holding_sites u fs x ≡ holding_by u (map holding_caller fs) x
holding_are u [] x = refl
holding_are u (f ∷ fs) x = ap (λ z. list_sites f.known.read.body (record { scope = scope_of u f.known; holds = value_at f.preconditions.at }) x ++ z) (holding_are u fs x)

abbrev later_by : List BlockUnit → List LaterCaller → List ℕ → List (SiteTree OutSite)
later_by u [] x = []
later_by u (c ∷ cs) x = out_list_sites c.known.read.body (record { scope = scope_of u c.known; changed = changed_cells c.own.at; outs = set_at c.outs.at }) x ++ later_by u cs x

later_are : (u : List BlockUnit) (fs : List ModuleResults) (x : List ℕ) → later_sites u fs x ≡ later_by u (map later_caller fs) x
later_are u [] x = refl
later_are u (f ∷ fs) x = ap (λ z. out_list_sites f.known.read.body (record { scope = scope_of u f.known; changed = changed_cells f.transformers.at; outs = set_at f.outs.at }) x ++ z) (later_are u fs x)

-- ---- an entry and the modules that the graph names

pub record IsReady (g : Graph) (fs : List ModuleResults) (f : ModuleResults) : Type 0 where
  pub follows : FollowsFrom g fs f
  pub in_graph : IsInGraph g f
  pub calling : (x : List ℕ) → map name_in (callers fs x) ≡ caller_names g x
  pub named : Each (IsNamed fs) fs

-- what is known of the names that a graph has for what a module calls is known of its CALLs
same_callees : {T : Type 0} (g : Graph) (f : ModuleResults) (cs ds : Summaries T) → IsInGraph g f → SameAt (callees g.edges (name_in f)) cs ds → SameCallees f.known.read.body cs ds
same_callees g f cs ds e s = each_mapped (λ y. cs y ≡ ds y) name_in_call (list_calls f.known.read.body) (subst (Each (λ y. cs y ≡ ds y)) (sym e) s)

abbrev values : {T : Type 0} → List (Option T) → List T
values [] = []
values (o ∷ os) = option_to_list o ++ values os

each_kept : (P : ModuleResults → Type 0) (t : ModuleResults → Bool) (fs : List ModuleResults) → Each P fs → Each P (filter t fs)
each_kept P t [] h = tt
each_kept P t (f ∷ fs) h = go (t f) (each_kept P t fs h.1)
  where
    go : (b : Bool) → Each P (filter t fs) → Each P (cond b (f ∷ filter t fs) (filter t fs))
    go true ih = (h.0, ih)
    go false ih = ih

same_map : {T : Type 0} (cs ds : List ℕ → T) (ys : List (List ℕ)) → SameAt ys cs ds → map cs ys ≡ map ds ys
same_map cs ds [] s = refl
same_map cs ds (y ∷ ys) s = λ i. s.0 i ∷ same_map cs ds ys s.1 i

module _ {T : Type 0} (v : ModuleResults → T) (g : Graph) where
  abbrev at_name : List ModuleResults → List ℕ → Option T
  at_name fs y = option_map v (results_for fs y)

  valued : (fs cs : List ModuleResults) → Each (IsNamed fs) cs → values (map (at_name fs) (map name_in cs)) ≡ map v cs
  valued fs [] h = refl
  valued fs (c ∷ cs) h = λ i. option_to_list (option_map v (h.0 i)) ++ valued fs cs h.1 i

  by_name : (fs : List ModuleResults) (f : ModuleResults) → IsReady g fs f → (x : List ℕ) → map v (callers fs x) ≡ values (map (at_name fs) (caller_names g x))
  by_name fs f r x =
      sym (valued fs (callers fs x) (each_kept (IsNamed fs) (λ d. calls x d.known) (reverse fs) (each_reversed (IsNamed fs) fs r.named)))
      ∙ ap (λ ys. values (map (at_name fs) ys)) (r.calling x)

-- what is known of the modules that call one, in two programs
pub same_callers : {T : Type 0} (v : ModuleResults → T) (g d : Graph) (fs hs : List ModuleResults) (f h : ModuleResults) → IsReady g fs f → IsReady d hs h → (x : List ℕ) → caller_names g x ≡ caller_names d x →
    SameAt (caller_names g x) (λ y. option_map v (results_for fs y)) (λ y. option_map v (results_for hs y)) → map v (callers fs x) ≡ map v (callers hs x)
same_callers v g d fs hs f h r q x e s =
    by_name v g fs f r x ∙ (ap values (same_map (at_name v g fs) (at_name v g hs) (caller_names g x) s ∙ ap (map (at_name v g hs)) e) ∙ sym (by_name v d hs h q x))

-- ---- results that follow from the same needs

module _ (g d : Graph) (fs hs : List ModuleResults) (f h : ModuleResults) (r : IsReady g fs f) (t : IsReady d hs h) where
  abbrev p : FollowsFrom g fs f
  p = r.follows

  abbrev q : FollowsFrom d hs h
  q = t.follows

  effects : SameEffectNeeds g d fs hs f h → f.effects ≡ h.effects
  effects n =
      p.effects ∙ (same_effects f.known.symbols (effect_summaries fs) (effect_summaries hs) f.known.read.body (same_callees g f (effect_summaries fs) (effect_summaries hs) r.in_graph n.called)
      ∙ (ap (effects_found (effect_summaries hs)) n.module_is ∙ sym q.effects))

  transformers : SameTransformerNeeds g d fs hs f h → f.transformers ≡ h.transformers
  transformers n =
      p.transformers ∙ (same_transformers (scope_of g.untracked f.known) (transformer_summaries fs) (transformer_summaries hs) f.known.read.body (same_callees g f (transformer_summaries fs) (transformer_summaries hs) r.in_graph n.called)
      ∙ ((λ i. transformers_of (n.module_is i).read.body (scope_of (n.untracked i) (n.module_is i)) (transformer_summaries hs)) ∙ sym q.transformers))

  preconditions : SamePreconditionNeeds g d fs hs f h → f.preconditions ≡ h.preconditions
  preconditions n = p.preconditions ∙ ((λ i. made (n.untracked i) (n.module_is i) (n.transformers i) (sites i)) ∙ sym q.preconditions)
    where
      made : List BlockUnit → Known → Results Transformer → List HoldingSite → Results System
      made u k ts ss = preconditions_of k.read.body (scope_of u k) (transformer_at ts.at) (entry_of k.read.main (scope_of u k) ss)

      callers_same : map holding_caller (callers fs (name_in f)) ≡ map holding_caller (callers hs (name_in h))
      callers_same = same_callers holding_caller g d fs hs f h r t (name_in f) n.callers_are n.calling ∙ ap (λ (k : Known). map holding_caller (callers hs k.read.name)) n.module_is

      sites : holding_sites g.untracked (callers fs (name_in f)) (name_in f) ≡ holding_sites d.untracked (callers hs (name_in h)) (name_in h)
      sites =
          holding_are g.untracked (callers fs (name_in f)) (name_in f)
          ∙ ((λ i. holding_by (n.untracked i) (callers_same i) (n.module_is i).read.name) ∙ sym (holding_are d.untracked (callers hs (name_in h)) (name_in h)))

  regions : SameRegionNeeds g d fs hs f h → f.regions ≡ h.regions
  regions n =
      p.regions
      ∙ (same_regions f.known.read.body (scope_of g.untracked f.known) g.untracked f.transformers.at (region_summaries fs) (region_summaries hs) (same_callees g f (region_summaries fs) (region_summaries hs) r.in_graph n.called)
      ∙ ((λ i. regions_with (n.module_is i).read.body (scope_of (n.untracked i) (n.module_is i)) (n.untracked i) (n.transformers i).at (region_summaries hs)) ∙ sym q.regions))

  ins : SameInNeeds g d fs hs f h → f.ins ≡ h.ins
  ins n =
      p.ins
      ∙ (same_ins f.known.read.body (scope_of g.untracked f.known) g.untracked f.transformers.at f.regions.at (in_summaries fs) (in_summaries hs) (same_callees g f (in_summaries fs) (in_summaries hs) r.in_graph n.called)
      ∙ ((λ i. ins_with (n.module_is i).read.body (scope_of (n.untracked i) (n.module_is i)) (n.untracked i) (n.transformers i).at (n.regions i).at (in_summaries hs)) ∙ sym q.ins))

  outs : SameOutNeeds g d fs hs f h → f.outs ≡ h.outs
  outs n =
      p.outs
      ∙ ((λ i. outs_with (n.module_is i).read.body (scope_of (n.untracked i) (n.module_is i)) (n.transformers i).at (n.regions i).at (n.ins i).at (used_after (graph (n.blocks i) (n.untracked i)) (n.module_is i) (sites i))) ∙ sym q.outs)
    where
      graph : List Block → List BlockUnit → Graph
      graph bs u = record { order = []; edges = []; blocks = bs; untracked = u }

      callers_same : map later_caller (callers fs (name_in f)) ≡ map later_caller (callers hs (name_in h))
      callers_same = same_callers later_caller g d fs hs f h r t (name_in f) n.callers_are n.calling ∙ ap (λ (k : Known). map later_caller (callers hs k.read.name)) n.module_is

      sites : later_sites g.untracked (callers fs (name_in f)) (name_in f) ≡ later_sites d.untracked (callers hs (name_in h)) (name_in h)
      sites =
          later_are g.untracked (callers fs (name_in f)) (name_in f)
          ∙ ((λ i. later_by (n.untracked i) (callers_same i) (n.module_is i).read.name) ∙ sym (later_are d.untracked (callers hs (name_in h)) (name_in h)))

  marks : SameMarkNeeds g d f h → f.marks ≡ h.marks
  marks n =
      p.marks
      ∙ ((λ i. marks_of (knowledge_of (n.module_is i).read (n.module_is i).symbols (symbol_names (n.module_is i).symbols) (scope_of (n.untracked i) (n.module_is i)) (n.effects i).at (n.transformers i).at (n.preconditions i).at (n.regions i).at (n.ins i).at (n.outs i).at))
      ∙ sym q.marks)

-- ---- of programs

said_is : (P : ModuleResults → Type 0) (fs : List ModuleResults) (x : List ℕ) (f : ModuleResults) → Each P fs → results_for fs x ≡ Some f → P f
said_is P [] x f e h = cc
said_is P (d ∷ fs) x f e h = go (bytes_eq (name_in d) x) h (said_is P fs x f e.1)
  where
    go : (b : Bool) → (if b then Some d else results_for fs x) ≡ Some f → (results_for fs x ≡ Some f → P f) → P f
    go true q ih = (let same : d ≡ f = cc in subst P same e.0)
    go false q ih = ih q

ready : (ps : List ParsedTree) (sss : List (List SymbolTree)) (g : Graph) → IsLinked ps sss g → (x : List ℕ) (f : ModuleResults) → results_for (results_of_modules (known_of ps sss) g) x ≡ Some f → IsReady g (results_of_modules (known_of ps sss) g) f
ready ps sss g l x f e =
    let fs = results_of_modules (known_of ps sss) g in
    let a = are_in_graph ps sss g l in
    record {
      follows = said_is (FollowsFrom g fs) fs x f (results_follow ps sss g l) e;
      in_graph = said_is (IsInGraph g) fs x f a.callees_are e;
      calling = a.callers_are;
      named = each_more (IsFound (known_of ps sss) fs) (IsNamed fs) fs (λ d i. i.found) (modules_have_entries ps sss g l).found;
    }

-- what follows in two programs from the results of a module of a name
pub of_programs : (P : Graph → Graph → List ModuleResults → List ModuleResults → ModuleResults → ModuleResults → Type 0) →
    ((g d : Graph) (fs hs : List ModuleResults) (f h : ModuleResults) → IsReady g fs f → IsReady d hs h → P g d fs hs f h) → InTwoPrograms P
of_programs P each ps qs sss ttt g d l m x f h a b = each g d (results_of_modules (known_of ps sss) g) (results_of_modules (known_of qs ttt) d) f h (ready ps sss g l x f a) (ready qs ttt d m x h b)

pub effects_are_determined : InTwoPrograms (λ g d fs hs f h. SameEffectNeeds g d fs hs f h → f.effects ≡ h.effects)
effects_are_determined = of_programs (λ g d fs hs f h. SameEffectNeeds g d fs hs f h → f.effects ≡ h.effects) effects

pub transformers_are_determined : InTwoPrograms (λ g d fs hs f h. SameTransformerNeeds g d fs hs f h → f.transformers ≡ h.transformers)
transformers_are_determined = of_programs (λ g d fs hs f h. SameTransformerNeeds g d fs hs f h → f.transformers ≡ h.transformers) transformers

pub preconditions_are_determined : InTwoPrograms (λ g d fs hs f h. SamePreconditionNeeds g d fs hs f h → f.preconditions ≡ h.preconditions)
preconditions_are_determined = of_programs (λ g d fs hs f h. SamePreconditionNeeds g d fs hs f h → f.preconditions ≡ h.preconditions) preconditions

pub regions_are_determined : InTwoPrograms (λ g d fs hs f h. SameRegionNeeds g d fs hs f h → f.regions ≡ h.regions)
regions_are_determined = of_programs (λ g d fs hs f h. SameRegionNeeds g d fs hs f h → f.regions ≡ h.regions) regions

pub ins_are_determined : InTwoPrograms (λ g d fs hs f h. SameInNeeds g d fs hs f h → f.ins ≡ h.ins)
ins_are_determined = of_programs (λ g d fs hs f h. SameInNeeds g d fs hs f h → f.ins ≡ h.ins) ins

pub outs_are_determined : InTwoPrograms (λ g d fs hs f h. SameOutNeeds g d fs hs f h → f.outs ≡ h.outs)
outs_are_determined = of_programs (λ g d fs hs f h. SameOutNeeds g d fs hs f h → f.outs ≡ h.outs) outs

pub marks_are_determined : InTwoPrograms (λ g d fs hs f h. SameMarkNeeds g d f h → f.marks ≡ h.marks)
marks_are_determined = of_programs (λ g d fs hs f h. SameMarkNeeds g d f h → f.marks ≡ h.marks) marks
