-- What is proved of results of one module holds of all modules of a program: pass by pass.
use Rattle.std.proofs.Common.{◌≡◌, ℕ, zero, suc, Bool, true, false, List, [], ◌∷◌, ◌++◌, Option, Some, None, arith, refl, ap, subst}
use Rattle.std.specs.Prelude.{All, if◌then◌else◌, reverse, bytes_eq, option_to_list}
use Rattle.std.proofs.lemmas.Slice.Eq.{bytes_eq-Decides}
use Rattle.affine_systems.specs.declared.row.System.{System}
use Rattle.affine_systems.specs.Given.{Fits}
use Rattle.f77_ast.specs.Trees.{StmtTree, WhatTree, ArmTree, ArmTrees, ElseTree, LoopTree, StmtTrees}
use Rattle.f77_ast.specs.Trees as tree
use Rattle.f77_ast.specs.StatementNumbers.{stmt_numbers, part_numbers, list_numbers, arms_numbers, arm_numbers, else_numbers, loop_numbers}
use Rattle.f77_ast.specs.declared.variable.Unit.{Unit as BlockUnit}
use Rattle.f77_ast.specs.Symbols.{SymbolTree}
use Rattle.f77_ast.specs.declared.effect_set.EffectSet.{EffectSet}
use Rattle.f77_ast.specs.declared.results.At.{At}
use Rattle.f77_ast.specs.declared.results.Results.{Results}
use Rattle.call_graph.specs.declared.graph.Graph.{Graph}
use Rattle.f77_meaning.specs.Modules.{Known, symbol_names}
use Rattle.in_out_regions.specs.effects.List as effect_lists
use Rattle.preconditions.specs.transformer_algebra.declared.transformer.Transformer.{Transformer}
use Rattle.preconditions.specs.call_translation.Sites.{HoldingSite, SiteTree}
use Rattle.preconditions.specs.transformers.Given as given
use Rattle.preconditions.specs.transformers.Lists.{transformer_at}
use Rattle.preconditions.specs.Entry.{entry_of}
use Rattle.loop_marker.specs.module_phases.ScalarPhases.{scope_of, place_of, module_at, module_of, Found, found_of, maybe_found, Analysis, sites_of, analysis_of, analyses_from, analyses}
use Rattle.loop_marker.specs.module_phases.ScalarPhases as scalars
use Rattle.in_out_regions.specs.region_sets.declared.region.Region.{Region}
use Rattle.loop_marker.specs.module_phases.RegionPhases.{ModuleRegions, with_regions, all_regions}
use Rattle.loop_marker.specs.module_phases.RegionPhases as regions
use Rattle.in_out_regions.specs.array_regions.Calls.{Callees}
use Rattle.in_out_regions.specs.array_regions.Modules.{calls_of}
use Rattle.loop_marker.specs.module_phases.InPhases.{ModuleIns, with_ins, all_ins}
use Rattle.loop_marker.specs.module_phases.InPhases as ins
use Rattle.in_out_regions.specs.Modules.{known_of as in_known}
use Rattle.loop_marker.specs.module_phases.declared.out_site.OutSite.{OutSite}
use Rattle.loop_marker.specs.module_phases.OutPhases.{ModuleOuts, used_after, with_outs, name_of, outs_from, all_outs}
use Rattle.loop_marker.specs.module_phases.OutPhases as outs
use Rattle.loop_marker.specs.out_regions.Known.{KnownTree}
use Rattle.loop_marker.specs.out_regions.Statement.{body_out}
use Rattle.loop_marker.specs.Results.{ModuleResults}
use Rattle.loop_marker.specs.Phases.{phases_of, known_in, with_marks, all_marks}
use Rattle.loop_marker.specs.Phases as marks
use Rattle.laws_analyses.proofs.Statements.NumberLaws.{ids, t_list, p_list}
use Rattle.laws_analyses.proofs.Regions.Numbering.{r_list, ids_parts}
use Rattle.laws_marks.proofs.InStanding.{i_list}
use Rattle.laws_marks.proofs.OutNumbers.{o_list}
use Rattle.base_json.specs.Scopes.{is_short_name}
use Rattle.base_values.specs.Naming.{Each, VariableFits}
use Rattle.laws_stored.proofs.Symbols.{ModuleNamed}
use Rattle.laws_stored.proofs.TransformersFit.{at_list_fits, summary_fits}
use Rattle.laws_stored.proofs.PreconditionsFit.{entry_fits}
use Rattle.laws_stored.proofs.PreconditionsFit as preconditions
use Rattle.laws_stored.proofs.Foreign.{IsForeign, CalleesForeign, MaybeForeign, at_list_named, summary_named}
use Rattle.laws_stored.proofs.EffectNames.{EffectNamed, CalleesNamed, MaybeNamed, effects_named}
use Rattle.laws_stored.proofs.RegionRules.{AreSuch}
use Rattle.laws_stored.proofs.Access.{IsAccess, A, CalleesSuch, MaybeSuch, regions_such, OwnFits as AllFit}
use Rattle.laws_stored.proofs.Ins.{IsIn, I, ins_such}
use Rattle.laws_stored.proofs.Outs.{IsOut, outs_such}
use Rattle.laws_stored.proofs.CalleeLinks.{used_after_such}
use Rattle.fx_lists.proofs.Texts.{same_name_2 as same_name}
use Rattle.fx_lists.proofs.Every.{Every, every_joined as of-append, every_turned, every_at}

-- ---- lists

pub of_all : {X : Type 0} (P : X → Type 0) (xs : List X) → All P xs → Every P xs
of_all P [] h = tt
of_all P (x ∷ xs) h = (h zero x (omega arith), of_all P xs (λ k d l. h (suc k) d (omega (arith, l))))

pub of_both : {X : Type 0} (P Q : X → Type 0) (xs : List X) → Every P xs → Every Q xs → Every (λ x. P x × Q x) xs
of_both P Q [] h k = tt
of_both P Q (x ∷ xs) h k = ((h.0, k.0), of_both P Q xs h.1 k.1)

pub of_more : {X : Type 0} (P Q : X → Type 0) → ((x : X) → P x → Q x) → (xs : List X) → Every P xs → Every Q xs
of_more P Q f [] h = tt
of_more P Q f (x ∷ xs) h = (f x h.0, of_more P Q f xs h.1)

pub each_of : {X : Type 0} (P : X → Type 0) (xs : List X) → Each P xs → Every P xs
each_of P [] h = tt
each_of P (x ∷ xs) h = (h.0, each_of P xs h.1)

-- ---- what statements do

pub record FoundGood (f : Found) : Type 0 where
  pub named : ModuleNamed f.known
  pub fits : AllFit f.own.at
  pub summary_fits : Fits f.own.summary.system
  pub foreign : Each (λ (a : At Transformer). IsForeign a.value) f.own.at
  pub summary_foreign : IsForeign f.own.summary
  pub numbers : ids f.own.at ≡ list_numbers f.known.read.body

found_good : (untracked : List BlockUnit) (cs : given.Callees) (k : Known) → ModuleNamed k → CalleesForeign cs → FoundGood (found_of untracked cs k)
found_good untracked cs k h c =
    let m = scope_of untracked k in
    record {
      named = h;
      fits = at_list_fits m cs k.read.body true;
      summary_fits = summary_fits m cs k.read.body;
      foreign = at_list_named m cs c k.read.body true;
      summary_foreign = summary_named m cs c k.read.body true;
      numbers = t_list m cs k.read.body true;
    }

more_foreign : (f : Found) (cs : given.Callees) → FoundGood f → CalleesForeign cs → CalleesForeign (scalars.with_callee (Some f) cs)
more_foreign f cs h c x = go (bytes_eq f.known.read.name x)
  where
    go : (b : Bool) → MaybeForeign (if b then Some (record { symbols = f.known.symbols; value = f.own.summary }) else cs x)
    go true = record { symbols = h.named.1; value = h.summary_foreign }
    go false = c x

founds_good : (untracked : List BlockUnit) (ks : List Known) → ((x : List ℕ) (k : Known) → module_of ks x ≡ Some k → ModuleNamed k) → (cs : given.Callees) (xs : List (List ℕ)) → CalleesForeign cs → Every FoundGood (scalars.found_in untracked ks cs xs)
founds_good untracked ks known cs [] c = tt
founds_good untracked ks known cs (x ∷ xs) c = go (module_of ks x) refl (λ ds d. founds_good untracked ks known ds xs d)
  where
    go : (o : Option Known) → module_of ks x ≡ o → ((ds : given.Callees) → CalleesForeign ds → Every FoundGood (scalars.found_in untracked ks ds xs)) → Every FoundGood (option_to_list (maybe_found untracked cs o) ++ scalars.found_in untracked ks (scalars.with_callee (maybe_found untracked cs o) cs) xs)
    go None e ih = ih (scalars.with_callee None cs) (λ y. c y)
    go (Some k) e ih =
        let f = found_good untracked cs k (known x k e) c in
        (f, ih (scalars.with_callee (Some (found_of untracked cs k)) cs) (more_foreign (found_of untracked cs k) cs f c))

module_is : (ks : List Known) → Every ModuleNamed ks → (x : List ℕ) (k : Known) → module_of ks x ≡ Some k → ModuleNamed k
module_is ks h x k e = go (place_of ks x) e
  where
    go : (o : Option ℕ) → module_at ks o ≡ Some k → ModuleNamed k
    go None q = cc
    go (Some i) q = every_at ModuleNamed ks i k h q

-- ---- what holds

pub record AnalysisGood (a : Analysis) : Type 0 where
  pub found : FoundGood a.found
  pub fits : Each (λ (x : At System). Fits x.value) a.holds.at
  pub entry_fits : Fits a.holds.summary
  pub numbers : ids a.holds.at ≡ list_numbers a.found.known.read.body

analysis_good : (untracked : List BlockUnit) (cs : List HoldingSite) (f : Found) → FoundGood f → AnalysisGood (analysis_of untracked cs f)
analysis_good untracked cs f h =
    let m = scope_of untracked f.known in
    let t = transformer_at f.own.at in
    let entry = entry_of f.known.read.main m cs in
    let e = entry_fits f.known.read.main m cs in
    record { found = h; fits = preconditions.at_list_fits m t true f.known.read.body entry e; entry_fits = e; numbers = p_list m t true f.known.read.body entry }

from_good : (untracked : List BlockUnit) (done : List Analysis) (fs : List Found) → Every AnalysisGood done → Every FoundGood fs → Every AnalysisGood (analyses_from untracked done fs)
from_good untracked done [] d h = d
from_good untracked done (f ∷ fs) d h =
    let cs = sites_of untracked done f.known.read.name in
    from_good untracked (done ++ analysis_of untracked cs f ∷ []) fs (of-append AnalysisGood done (analysis_of untracked cs f ∷ []) d (analysis_good untracked cs f h.0, tt)) h.1

pub analyses_good : (ks : List Known) (g : Graph) → Every ModuleNamed ks → Every AnalysisGood (analyses ks g)
analyses_good ks g h =
    let fs = scalars.found_in g.untracked ks scalars.no_callees g.order in
    from_good g.untracked [] (reverse fs) tt (every_turned FoundGood fs (founds_good g.untracked ks (module_is ks h) scalars.no_callees g.order (λ x. tt)))

-- ---- READ and WRITE

abbrev pub SetsSuch : (List Region → Type 0) → Results (List Region) → Type 0
SetsSuch P r = Each (λ (a : At (List Region)). P a.value) r.at × P r.summary

pub record RegionsGood (f : ModuleRegions) : Type 0 where
  pub analysis : AnalysisGood f.analysis
  pub sets : SetsSuch A f.regions
  pub numbers : ids f.regions.at ≡ list_numbers f.analysis.found.known.read.body

regions_good : (untracked : List BlockUnit) (cs : Callees) (a : Analysis) → AnalysisGood a → CalleesSuch IsAccess cs → RegionsGood (with_regions untracked cs a)
regions_good untracked cs a h c =
    let k = a.found.known in
    let m = scope_of untracked k in
    record { analysis = h; sets = regions_such k.read.body m untracked a.found.own.at h.found.fits cs c; numbers = r_list m (transformer_at a.found.own.at) (calls_of m untracked a.found.own.at cs) k.read.body }

more_regions : (f : ModuleRegions) (cs : Callees) → RegionsGood f → CalleesSuch IsAccess cs → CalleesSuch IsAccess (regions.with_callee f cs)
more_regions f cs h c x = go (bytes_eq name x) refl
  where
    name : List ℕ
    name = f.analysis.found.known.read.name

    go : (b : Bool) → bytes_eq name x ≡ b → MaybeSuch IsAccess x (if b then Some (record { symbols = f.analysis.found.known.symbols; value = f.regions.summary }) else cs x)
    go true e = record { name = subst (λ (y : List ℕ). is_short_name y ≡ true) (same_name name x e) h.analysis.found.named.0; symbols = h.analysis.found.named.1; value = h.sets.1 }
    go false e = c x

found_regions : (untracked : List BlockUnit) (cs : Callees) (as' : List Analysis) → CalleesSuch IsAccess cs → Every AnalysisGood as' → Every RegionsGood (regions.found_in untracked cs as')
found_regions untracked cs [] c h = tt
found_regions untracked cs (a ∷ as') c h =
    let f = with_regions untracked cs a in
    let first = regions_good untracked cs a h.0 c in
    (first, found_regions untracked (regions.with_callee f cs) as' (more_regions f cs first c) h.1)

pub all_regions_good : (g : Graph) (as' : List Analysis) → Every AnalysisGood as' → Every RegionsGood (all_regions g as')
all_regions_good g as' h = found_regions g.untracked regions.no_callees (reverse as') (λ x. tt) (every_turned AnalysisGood as' h)

-- ---- IN

pub record InsGood (f : ModuleIns) : Type 0 where
  pub known : RegionsGood f.known
  pub sets : SetsSuch I f.ins
  pub numbers : ids f.ins.at ≡ list_numbers f.known.analysis.found.known.read.body

ins_good : (untracked : List BlockUnit) (cs : Callees) (f : ModuleRegions) → RegionsGood f → CalleesSuch IsIn cs → InsGood (with_ins untracked cs f)
ins_good untracked cs f h c =
    let k = f.analysis.found.known in
    let m = scope_of untracked k in
    record {
      known = h;
      sets = ins_such k.read.body m untracked f.analysis.found.own.at h.analysis.found.fits f.regions.at h.sets.0 cs c;
      numbers = i_list (in_known m untracked f.analysis.found.own.at f.regions.at cs) k.read.body;
    }

more_ins : (f : ModuleIns) (cs : Callees) → InsGood f → CalleesSuch IsIn cs → CalleesSuch IsIn (ins.with_callee f cs)
more_ins f cs h c x = go (bytes_eq name x) refl
  where
    name : List ℕ
    name = f.known.analysis.found.known.read.name

    go : (b : Bool) → bytes_eq name x ≡ b → MaybeSuch IsIn x (if b then Some (record { symbols = f.known.analysis.found.known.symbols; value = f.ins.summary }) else cs x)
    go true e = record { name = subst (λ (y : List ℕ). is_short_name y ≡ true) (same_name name x e) h.known.analysis.found.named.0; symbols = h.known.analysis.found.named.1; value = h.sets.1 }
    go false e = c x

found_ins : (untracked : List BlockUnit) (cs : Callees) (fs : List ModuleRegions) → CalleesSuch IsIn cs → Every RegionsGood fs → Every InsGood (ins.found_in untracked cs fs)
found_ins untracked cs [] c h = tt
found_ins untracked cs (f ∷ fs) c h =
    let n = with_ins untracked cs f in
    let first = ins_good untracked cs f h.0 c in
    (first, found_ins untracked (ins.with_callee n cs) fs (more_ins n cs first c) h.1)

pub all_ins_good : (g : Graph) (fs : List ModuleRegions) → Every RegionsGood fs → Every InsGood (all_ins g fs)
all_ins_good g fs h = found_ins g.untracked regions.no_callees fs (λ x. tt) h

-- ---- OUT

-- READ and WRITE of variables that fit
abbrev pub FittingSets : ModuleRegions → Type 0
FittingSets f = SetsSuch (AreSuch (VariableFits (symbol_names f.analysis.found.known.symbols)) IsAccess) f.regions

pub record OutsGood (f : ModuleOuts) : Type 0 where
  pub sets : SetsSuch (AreSuch (VariableFits (symbol_names f.known.known.analysis.found.known.symbols)) IsOut) f.outs
  pub numbers : ids f.outs.at ≡ list_numbers f.known.known.analysis.found.known.read.body

outs_good : (g : Graph) (cs : List (SiteTree OutSite)) (f : ModuleIns) → InsGood f → FittingSets f.known → OutsGood (with_outs g cs f)
outs_good g cs f h r =
    let a = f.known.analysis in
    let k = a.found.known in
    let m = scope_of g.untracked k in
    let us = used_after g k cs in
    let t : KnownTree = record { scope = m; does = transformer_at a.found.own.at; accesses = f.known.regions.at; ins = f.ins.at } in
    record {
      sets = outs_such (VariableFits (symbol_names k.symbols)) k.read.body m a.found.own.at h.known.analysis.found.fits f.known.regions.at f.ins.at r.0 h.sets.0 us (used_after_such g k cs);
      numbers = o_list t true k.read.body (body_out t true k.read.body us);
    }

from_outs : (g : Graph) (done : List ModuleOuts) (fs : List ModuleIns) → Every OutsGood done → Every (λ (f : ModuleIns). InsGood f × FittingSets f.known) fs → Every OutsGood (outs_from g done fs)
from_outs g done [] d h = d
from_outs g done (f ∷ fs) d h =
    let cs = outs.sites_of g.untracked done (name_of f) in
    let new = with_outs g cs f in
    from_outs g (done ++ new ∷ []) fs (of-append OutsGood done (new ∷ []) d (outs_good g cs f h.0.0 h.0.1, tt)) h.1

pub all_outs_good : (g : Graph) (fs : List ModuleIns) → Every (λ (f : ModuleIns). InsGood f × FittingSets f.known) fs → Every OutsGood (all_outs g fs)
all_outs_good g fs h = from_outs g [] (reverse fs) tt (every_turned (λ (f : ModuleIns). InsGood f × FittingSets f.known) fs h)

-- ---- effects

module _ (cs : effect_lists.Callees) (ss : List SymbolTree) where
  mutual
    e_stmt : (s : StmtTree) → ids (effect_lists.at_stmt s cs ss) ≡ stmt_numbers s
    e_stmt (tree.stmt n label w) = ap (λ l. n ∷ l) (e_parts w)

    e_parts : (w : WhatTree) → ids (effect_lists.at_parts w cs ss) ≡ part_numbers w
    e_parts (tree.assign a b) = refl
    e_parts (tree.block_if arms other) = ids_parts (effect_lists.at_arms arms cs ss) (effect_lists.at_else other cs ss) (arms_numbers arms) (else_numbers other) (e_arms arms) (e_else other)
    e_parts (tree.logical_if e s) = e_stmt s
    e_parts (tree.do_loop l) = e_loop l
    e_parts (tree.call x es) = refl
    e_parts (tree.goto l) = refl
    e_parts tree.continue = refl
    e_parts tree.return = refl
    e_parts (tree.stop text) = refl
    e_parts (tree.print es) = refl
    e_parts (tree.read es) = refl

    e_list : (body : StmtTrees) → ids (effect_lists.at_list body cs ss) ≡ list_numbers body
    e_list tree.no_stmts = refl
    e_list (tree.more_stmts s rest) = ids_parts (effect_lists.at_stmt s cs ss) (effect_lists.at_list rest cs ss) (stmt_numbers s) (list_numbers rest) (e_stmt s) (e_list rest)

    e_arms : (arms : ArmTrees) → ids (effect_lists.at_arms arms cs ss) ≡ arms_numbers arms
    e_arms tree.no_arms = refl
    e_arms (tree.more_arms a rest) = ids_parts (effect_lists.at_arm a cs ss) (effect_lists.at_arms rest cs ss) (arm_numbers a) (arms_numbers rest) (e_arm a) (e_arms rest)

    e_arm : (a : ArmTree) → ids (effect_lists.at_arm a cs ss) ≡ arm_numbers a
    e_arm (tree.arm e body) = e_list body

    e_else : (other : ElseTree) → ids (effect_lists.at_else other cs ss) ≡ else_numbers other
    e_else tree.no_else = refl
    e_else (tree.otherwise body) = e_list body

    e_loop : (l : LoopTree) → ids (effect_lists.at_loop l cs ss) ≡ loop_numbers l
    e_loop (tree.loop index first last step body) = e_list body

pub record EffectsGood (f : ModuleResults) : Type 0 where
  pub at : Each (λ (a : At EffectSet). EffectNamed (symbol_names f.known.symbols) a.value) f.effects.at
  pub summary : EffectNamed (symbol_names f.known.symbols) f.effects.summary
  pub numbers : ids f.effects.at ≡ list_numbers f.known.read.body

effects_good : (untracked : List BlockUnit) (cs : effect_lists.Callees) (f : ModuleOuts) → CalleesNamed cs → EffectsGood (with_marks untracked cs f)
effects_good untracked cs f c =
    let k = known_in f in
    let e = effects_named k.symbols cs c k.read.body in
    record { at = e.0; summary = e.1; numbers = e_list cs k.symbols k.read.body }

more_effects : (f : ModuleResults) (cs : effect_lists.Callees) → ModuleNamed f.known → EffectsGood f → CalleesNamed cs → CalleesNamed (marks.with_callee f cs)
more_effects f cs n h c x = go (bytes_eq name x) refl
  where
    name : List ℕ
    name = f.known.read.name

    go : (b : Bool) → bytes_eq name x ≡ b → MaybeNamed x (if b then Some (record { symbols = f.known.symbols; value = f.effects.summary }) else cs x)
    go true e = record { name = subst (λ (y : List ℕ). is_short_name y ≡ true) (same_name name x e) n.0; symbols = n.1; value = h.summary }
    go false e = c x

found_effects : (untracked : List BlockUnit) (cs : effect_lists.Callees) (fs : List ModuleOuts) → CalleesNamed cs → Every (λ (f : ModuleOuts). ModuleNamed (known_in f)) fs → Every EffectsGood (marks.found_in untracked cs fs)
found_effects untracked cs [] c h = tt
found_effects untracked cs (f ∷ fs) c h =
    let n = with_marks untracked cs f in
    let first = effects_good untracked cs f c in
    (first, found_effects untracked (marks.with_callee n cs) fs (more_effects n cs h.0 first c) h.1)

pub all_effects_good : (g : Graph) (fs : List ModuleOuts) → Every (λ (f : ModuleOuts). ModuleNamed (known_in f)) fs → Every EffectsGood (all_marks g fs)
all_effects_good g fs h = found_effects g.untracked marks.no_callees (reverse fs) (λ x. tt) (every_turned (λ (f : ModuleOuts). ModuleNamed (known_in f)) fs h)

-- ---- up to the marks

module _ (W : ModuleOuts → Type 0) where
  found_with : (untracked : List BlockUnit) (cs : effect_lists.Callees) (fs : List ModuleOuts) → Every W fs → Every (λ (f : ModuleResults). W (phases_of f)) (marks.found_in untracked cs fs)
  found_with untracked cs [] h = tt
  found_with untracked cs (f ∷ fs) h = (h.0, found_with untracked (marks.with_callee (with_marks untracked cs f) cs) fs h.1)

  pub marks_with : (g : Graph) (fs : List ModuleOuts) → Every W fs → Every (λ (f : ModuleResults). W (phases_of f)) (all_marks g fs)
  marks_with g fs h = found_with g.untracked marks.no_callees (reverse fs) (every_turned W fs h)

-- the marks of each follow from its other results
pub record MarksAre (untracked : List BlockUnit) (f : ModuleResults) : Type 0 where
  pub are : f.marks ≡ marks.marks_found untracked (phases_of f) f.effects

marks_are : (untracked : List BlockUnit) (cs : effect_lists.Callees) (fs : List ModuleOuts) → Every (MarksAre untracked) (marks.found_in untracked cs fs)
marks_are untracked cs [] = tt
marks_are untracked cs (f ∷ fs) = (record { are = refl }, marks_are untracked (marks.with_callee (with_marks untracked cs f) cs) fs)

pub all_marks_are : (g : Graph) (fs : List ModuleOuts) → Every (MarksAre g.untracked) (all_marks g fs)
all_marks_are g fs = marks_are g.untracked marks.no_callees (reverse fs)
