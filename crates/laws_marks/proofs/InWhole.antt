-- Programs with what tables and layouts give: IN regions hold in every run.
use Rattle.std.proofs.Common.{◌≡◌, ℕ, List, [], ◌∷◌, Option, Some, None, Bool, true, false, refl, subst}
use Rattle.std.specs.Prelude.{if◌then◌else◌, bytes_eq}
use Rattle.f77_ast.specs.Trees.{ExprTrees}
use Rattle.f77_ast.specs.Store.{Store}
use Rattle.f77_ast.specs.declared.variable.Variable.{Variable as Named}
use Rattle.call_graph.specs.declared.graph.Graph.{Graph}
use Rattle.f77_meaning.specs.Modules.{Known}
use Rattle.f77_meaning.specs.Linked.{program_of}
use Rattle.f77_meaning.specs.Claimed.{InEveryRun}
use Rattle.preconditions.specs.call_translation.Sites.{HoldingSite}
use Rattle.preconditions.specs.transformers.Given.{Callees}
use Rattle.preconditions.specs.transformers.Modules.{transformers_of}
use Rattle.in_out_regions.specs.region_sets.declared.region.Region.{Region}
use Rattle.in_out_regions.specs.call_equations.Sides.{changed_cells}
use Rattle.in_out_regions.specs.array_regions.Calls.{Callees as Summaries}
use Rattle.in_out_regions.specs.array_regions.Statement.{list_set}
use Rattle.call_graph.specs.CallsIn.{CallAt, Each, list_calls}
use Rattle.laws_analyses.specs.Calls.Parts.{Blocks, Part, Sane}
use Rattle.laws_analyses.specs.Calls.ProgramLaws.{routines, Analysed, AnalysedParts, AnalysedProgram}
use Rattle.laws_analyses.specs.Calls.Sites.{lookup}
use Rattle.laws_lines.proofs.RuleVars.{IsDone}
use Rattle.laws_analyses.specs.Regions.Entries.{Enters}
use Rattle.laws_analyses.specs.Regions.Programs.{called_in, regions_in_part, Joins, SendsFrom, RegularPart, RegularParts}
use Rattle.laws_analyses.proofs.Regions.Carrying.{LinkLaws}
use Rattle.laws_analyses.proofs.Regions.Programs as base
use Rattle.laws_analyses.proofs.Regions.Whole.{part_goes}
use Rattle.laws_marks.specs.InLaid.{Laid, NamesGo}
use Rattle.laws_marks.specs.InPrograms.{ins_for, EachInHolds}
use Rattle.laws_marks.proofs.InCarried.{may_in, summary_narrowed, link_named, call_fit}
use Rattle.laws_marks.proofs.InNarrowed.{AreNarrowed}
use Rattle.laws_marks.proofs.InPrograms.{IsReady, SendsFirstFrom, PartFirst, PartsFirst, carried_ins_hold}
use Rattle.laws_marks.proofs.InSets.{IsFit, lists, at_fits}
use Rattle.fx_lists.proofs.Every.{Anything}

-- ---- what tables and layouts give

module _ (ks : List Known) (g : Graph) (b : Blocks) (cs : Callees) (rs is : List ℕ → Summaries) (may_name : Part → Named → Bool) where
  -- of a CALL in the module h of the module k by a name
  pub record GoesIn (h k : Part) (x : List ℕ) : Type 0 where
    pub ins_known : is h.routine.name x ≡ Some (ins_for g cs rs is k)
    pub names : NamesGo k (may_name h) (may_name k) x

  -- each CALL is of a module of the program
  abbrev pub GoesFrom : Part → List ℕ → Option Part → Type 0
  GoesFrom h x None = ⊥
  GoesFrom h x (Some k) = GoesIn h k x

  -- of a module with the modules below
  pub record LaidPart (below : List Part) (k : Part) : Type 0 where
    pub regular : RegularPart b cs rs ks g below k
    pub laid : Laid ks g k (may_name k)
    -- transformers are over cells
    pub done : (n : ℕ) → IsDone Anything (k.found.transformer n)
    pub calls : Each (λ (c : CallAt). GoesFrom k c.callee (lookup below c.callee)) (list_calls k.routine.body)

  -- modules, each before those that it calls
  abbrev pub LaidParts : List Part → Type 0
  LaidParts [] = Unit {0}
  LaidParts (k ∷ parts) = LaidPart parts k × LaidParts parts

  pub regular_parts : (parts : List Part) → LaidParts parts → RegularParts b cs rs ks g parts
  regular_parts [] re = tt
  regular_parts (k ∷ parts) re = (re.0.regular, regular_parts parts re.1)

  -- ---- the sets of CALLs

  abbrev summary : Part → List Region
  summary k = (regions_in_part g cs (rs k.routine.name) k).summary

  -- what is known of a module that is called
  pub record CalleeIs (k : Part) : Type 0 where
    pub enters : Enters ks g k
    pub joins : Joins ks g k
    pub laid : Laid ks g k (may_name k)
    pub narrowed : AreNarrowed (may_in ks g may_name k laid) k.scope.symbols (summary k)

  abbrev changed : Part → List ℕ
  changed h = changed_cells (transformers_of h.routine.body h.scope cs).at

  module _ (below : List Part) (callee_is : (x : List ℕ) (k : Part) → lookup below x ≡ Some k → CalleeIs k) (h : Part) (p : LaidPart below h) where
    one_fit : (x : List ℕ) (es : ExprTrees) (o : Option Part) → lookup below x ≡ o → SendsFrom b ks g cs rs h x o → GoesFrom h x o → IsFit (may_in ks g may_name h p.laid) h.scope.symbols (called_in g cs (rs h.routine.name) h x es)
    one_fit x es None e snd n = absurd n
    one_fit x es (Some k) e snd n =
        let c = callee_is x k e in
        call_fit ks g may_name h k p.laid c.laid (changed h) g.untracked x es b cs rs snd c.enters c.joins n.names (rs h.routine.name) (summary k) snd.summary_known c.narrowed

    calls_fit : (cl : List CallAt) → Each (λ (c : CallAt). SendsFrom b ks g cs rs h c.callee (lookup below c.callee)) cl → Each (λ (c : CallAt). GoesFrom h c.callee (lookup below c.callee)) cl →
        Each (λ (a : CallAt). IsFit (may_in ks g may_name h p.laid) h.scope.symbols (called_in g cs (rs h.routine.name) h a.callee a.actuals)) cl
    calls_fit [] snd n = tt
    calls_fit (c ∷ cl) snd n = (one_fit c.callee c.actuals (lookup below c.callee) refl snd.0 n.0, calls_fit cl snd.1 n.1)

    part_fits : Each (λ (a : CallAt). IsFit (may_in ks g may_name h p.laid) h.scope.symbols (called_in g cs (rs h.routine.name) h a.callee a.actuals)) (list_calls h.routine.body)
    part_fits = calls_fit (list_calls h.routine.body) p.regular.calls p.calls

    part_is : CalleeIs h
    part_is =
        let may = may_in ks g may_name h p.laid in
        let c = called_in g cs (rs h.routine.name) h in
        record {
          enters = p.regular.enters;
          joins = p.regular.joins;
          laid = p.laid;
          narrowed = summary_narrowed may h.scope (list_set true h.routine.body h.scope h.found.transformer c) (lists may h.scope h.found.transformer c p.done h.routine.body true (at_fits may h.scope h.found.transformer c p.done h.routine.body part_fits));
        }

  pub callee_is : (parts : List Part) → LaidParts parts → (x : List ℕ) (k : Part) → lookup parts x ≡ Some k → CalleeIs k
  callee_is [] re x k e = cc
  callee_is (h ∷ parts) re x k e = go (bytes_eq x h.routine.name) e (λ y q i. callee_is parts re.1 y q i)
    where
      go : (c : Bool) → (if c then Some h else lookup parts x) ≡ Some k → ((y : List ℕ) (q : Part) → lookup parts y ≡ Some q → CalleeIs q) → CalleeIs k
      go true i ih = (let same : h ≡ k = cc in subst CalleeIs same (part_is parts ih h re.0))
      go false i ih = ih x k i

  -- ---- all modules

  module _ (laws : LinkLaws) (sites : List ℕ → List HoldingSite) (of : List ℕ → Part) (turns : ℕ) where
    module _ (below : List Part) (re : LaidParts below) (pl : AnalysedParts b cs sites of below) (h : Part) (sane : Sane b h) (analysed : Analysed b cs sites below h) (p : LaidPart below h) where
      abbrev ready : IsReady ks g b cs sites rs is of may_name turns h
      ready = record { laid = p.laid; done = p.done }

      module _ (goes : base.PartGoes ks g b cs sites rs of turns below h sane) where
        one_sends : (x : List ℕ) (es : ExprTrees) (o : Option Part) → lookup below x ≡ o → base.SendsFrom ks g b cs sites rs of turns h sane goes.regular goes.joins.own_below x es o → SendsFrom b ks g cs rs h x o → GoesFrom h x o →
            SendsFirstFrom ks g b cs sites rs is of may_name turns h sane goes.regular goes.joins.own_below ready x es o
        one_sends x es None e w snd n = absurd n
        one_sends x es (Some k) e w snd n =
            let c = callee_is below re x k e in
            record { sends = w; ins_known = n.ins_known; named = link_named ks g may_name h k p.laid c.laid (changed h) g.untracked x es b cs rs snd c.enters c.joins n.names }

        all_send : (cl : List CallAt) → Each (λ (c : CallAt). base.SendsFrom ks g b cs sites rs of turns h sane goes.regular goes.joins.own_below c.callee c.actuals (lookup below c.callee)) cl → Each (λ (c : CallAt). SendsFrom b ks g cs rs h c.callee (lookup below c.callee)) cl → Each (λ (c : CallAt). GoesFrom h c.callee (lookup below c.callee)) cl →
            Each (λ (c : CallAt). SendsFirstFrom ks g b cs sites rs is of may_name turns h sane goes.regular goes.joins.own_below ready c.callee c.actuals (lookup below c.callee)) cl
        all_send [] w snd n = tt
        all_send (c ∷ cl) w snd n = (one_sends c.callee c.actuals (lookup below c.callee) refl w.0 snd.0 n.0, all_send cl w.1 snd.1 n.1)

        first_of : PartFirst ks g b cs sites rs is of may_name turns below h sane
        first_of = record { goes = goes; ready = ready; sends = all_send (list_calls h.routine.body) goes.sends p.regular.calls p.calls; fits = part_fits below (λ x k e. callee_is below re x k e) h p }

      pub part_first : PartFirst ks g b cs sites rs is of may_name turns below h sane
      part_first = first_of (part_goes laws ks g b cs sites rs of turns below (regular_parts below re) pl h sane analysed p.regular)

    pub parts_first : (parts : List Part) (re : LaidParts parts) (pl : AnalysedParts b cs sites of parts) → PartsFirst ks g b cs sites rs is of may_name turns parts pl
    parts_first [] re pl = tt
    parts_first (k ∷ parts) re pl = (part_first parts re.1 pl.3 k pl.0 pl.1 re.0, parts_first parts re.1 pl.3)

-- then in every run, up to its first fault, all that a statement reads before it writes it lies in its IN regions, and at a normal end each element that an exact
-- one describes is read first; the same of each entry
pub program_ins_hold : LinkLaws → (b : Blocks) (cs : Callees) (sites : List ℕ → List HoldingSite) (of : List ℕ → Part) (may_name : Part → Named → Bool) (main : Part) (parts : List Part) (z : Store) → AnalysedProgram b cs sites of main parts z →
    (ks : List Known) (g : Graph) (rs is : List ℕ → Summaries) → LaidPart ks g b cs rs is may_name parts main → LaidParts ks g b cs rs is may_name parts →
    program_of ks g ≡ record { main = main.routine; others = routines parts; initial = z } → InEveryRun ks g (EachInHolds ks g cs rs is of)
program_ins_hold laws b cs sites of may_name main parts z pl ks g rs is rm re e =
    carried_ins_hold b cs sites of may_name main parts z pl ks g rs is
    (λ n. (part_first ks g b cs rs is may_name laws sites of n parts re pl.parts_analysed main pl.sane pl.analysed rm, parts_first ks g b cs rs is may_name laws sites of n parts re pl.parts_analysed)) e
