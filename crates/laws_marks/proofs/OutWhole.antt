-- Programs with what tables, layouts and the phase of OUT regions give: OUT regions hold in every run that no fault ends.
use Rattle.std.proofs.Common.{◌≡◌, ℕ, List, [], ◌∷◌, Option, Some, None, Bool, true, false, refl, subst}
use Rattle.std.specs.Prelude.{if◌then◌else◌, bytes_eq}
use Rattle.affine_systems.specs.declared.row.System.{System}
use Rattle.f77_ast.specs.Store.{Store}
use Rattle.f77_ast.specs.declared.variable.Variable.{Variable as Named}
use Rattle.call_graph.specs.declared.graph.Graph.{Graph}
use Rattle.f77_meaning.specs.Modules.{Known}
use Rattle.f77_meaning.specs.Linked.{program_of}
use Rattle.f77_meaning.specs.Claimed.{InConformingRuns}
use Rattle.preconditions.specs.transformer_algebra.Laws.{In}
use Rattle.preconditions.specs.call_translation.Sites.{HoldingSite}
use Rattle.preconditions.specs.transformers.Given.{Callees}
use Rattle.preconditions.specs.transformers.Modules.{transformers_of}
use Rattle.in_out_regions.specs.region_sets.declared.region.Region.{Region}
use Rattle.in_out_regions.specs.call_equations.Sides.{changed_cells}
use Rattle.in_out_regions.specs.array_regions.Calls.{Callees as Summaries, sides}
use Rattle.in_out_regions.specs.array_regions.Statement.{at_list}
use Rattle.loop_marker.specs.out_regions.Used.{all_out}
use Rattle.in_out_regions.specs.region_translation.Units.{size_in}
use Rattle.in_out_regions.specs.region_translation.Callee.{to_callee}
use Rattle.call_graph.specs.CallsIn.{CallAt, Each, list_calls}
use Rattle.laws_analyses.specs.Statements.Results.{pre_in}
use Rattle.laws_analyses.proofs.Statements.NumberLaws.{own_numbers}
use Rattle.laws_analyses.specs.Calls.Parts.{Blocks, Part, Sane}
use Rattle.laws_analyses.specs.Calls.ProgramLaws.{routines, Analysed, AnalysedParts, AnalysedProgram}
use Rattle.laws_analyses.specs.Calls.Sites.{CoversFrom, Covers, lookup}
use Rattle.laws_analyses.specs.Regions.Programs.{regions_in_part, called_in, SendsFrom}
use Rattle.laws_analyses.proofs.Regions.Carrying.{LinkLaws}
use Rattle.laws_analyses.proofs.Regions.Numbering.{r_list}
use Rattle.laws_analyses.proofs.Regions.Programs as base
use Rattle.laws_marks.proofs.InCarried.{narrow}
use Rattle.laws_marks.proofs.InPrograms.{PartFirst, PartsFirst}
use Rattle.laws_marks.proofs.InWhole.{GoesFrom, LaidPart, LaidParts, callee_is, part_first, parts_first}
use Rattle.laws_marks.specs.OutPrograms.{outs_in_part, EachOutHolds, OutPart, DownPart}
use Rattle.laws_marks.proofs.OutCallSets.{call_sets}
use Rattle.laws_marks.proofs.OutDown.{hands_down}
use Rattle.laws_marks.proofs.OutPrograms.{HandsDownFrom, PartOut, PartsOut, handed_outs_hold}
use Rattle.in_out_regions.specs.region_sets.Lists.{set_at}

-- ---- what tables and the phase give

module _ (ks : List Known) (g : Graph) (b : Blocks) (cs : Callees) (rs is : List ℕ → Summaries) (us : List ℕ → List Region) (may_name : Part → Named → Bool) where
  -- what a CALL in the module h of the module k hands down may be read after k
  abbrev pub Tells : Part → CallAt → Part → Type 0
  Tells h c k =
      (o : Region) → In o (set_at (outs_in_part g cs (rs h.routine.name) (is h.routine.name) (us h.routine.name) h).at c.number) → (q : Region) →
      In q (all_out (to_callee (size_in g.blocks) (sides h.scope (changed_cells (transformers_of h.routine.body h.scope cs).at) g.untracked c.callee c.actuals k.scope.symbols) o)) → In q (us k.routine.name)

  abbrev pub TellsFrom : Part → CallAt → Option Part → Type 0
  TellsFrom h c None = Unit {0}
  TellsFrom h c (Some k) = Tells h c k

  -- of a module with the modules below
  pub record OutOf (below : List Part) (k : Part) : Type 0 where
    pub part : OutPart ks g k
    pub down : DownPart (may_name k) k
    pub tells : Each (λ (c : CallAt). TellsFrom k c (lookup below c.callee)) (list_calls k.routine.body)

  abbrev pub OutsOf : List Part → Type 0
  OutsOf [] = Unit {0}
  OutsOf (k ∷ parts) = OutOf parts k × OutsOf parts

  down_of : (parts : List Part) → OutsOf parts → (x : List ℕ) (k : Part) → lookup parts x ≡ Some k → DownPart (may_name k) k
  down_of [] ro x k e = cc
  down_of (h ∷ parts) ro x k e = go (bytes_eq x h.routine.name) e (λ i. down_of parts ro.1 x k i)
    where
      go : (c : Bool) → (if c then Some h else lookup parts x) ≡ Some k → (lookup parts x ≡ Some k → DownPart (may_name k) k) → DownPart (may_name k) k
      go true i ih = (let same : h ≡ k = cc in subst (λ z. DownPart (may_name z) z) same ro.0.down)
      go false i ih = ih i

  module _ (laws : LinkLaws) (sites : List ℕ → List HoldingSite) (of : List ℕ → Part) (turns : ℕ) where
    sane_of : (parts : List Part) → AnalysedParts b cs sites of parts → (x : List ℕ) (k : Part) → lookup parts x ≡ Some k → Sane b k
    sane_of [] pl x k e = cc
    sane_of (h ∷ parts) pl x k e = go (bytes_eq x h.routine.name) e (λ i. sane_of parts pl.3 x k i)
      where
        go : (c : Bool) → (if c then Some h else lookup parts x) ≡ Some k → (lookup parts x ≡ Some k → Sane b k) → Sane b k
        go true i ih = (let same : h ≡ k = cc in subst (Sane b) same pl.0)
        go false i ih = ih i

    module _ (below : List Part) (re : LaidParts ks g b cs rs is may_name below) (ro : OutsOf below) (pl : AnalysedParts b cs sites of below) (h : Part) (sane : Sane b h) (analysed : Analysed b cs sites below h) (p : LaidPart ks g b cs rs is may_name below h) (po : OutOf below h) (first : PartFirst ks g b cs sites rs is of may_name turns below h sane) where
      one_down : (c : CallAt) (P : System) (o : Option Part) → lookup below c.callee ≡ o → CoversFrom b cs sites h c.callee c.actuals P o → SendsFrom b ks g cs rs h c.callee o → GoesFrom ks g b cs rs is may_name h c.callee o → set_at (regions_in_part g cs (rs h.routine.name) h).at c.number ≡ called_in g cs (rs h.routine.name) h c.callee c.actuals → TellsFrom h c o →
          HandsDownFrom ks g b cs sites rs is us of may_name turns h sane first.goes.regular first.goes.joins.own_below first.ready c.callee c.actuals c.number o
      one_down c P None e cov snd n set t = tt
      one_down c P (Some k) e cov snd n set t =
          let i = callee_is ks g b cs rs is may_name below re c.callee k e in
          hands_down laws ks g b cs sites rs is us of may_name turns h sane first.goes.regular first.goes.joins.own_below first.ready first.goes.joins k (sane_of below pl c.callee k e) i.enters i.joins i.laid (down_of below ro c.callee k e) c.callee c.actuals c.number P cov snd
          (base.lookup_named ks g b cs sites rs of turns below c.callee k e)
          (narrow ks g may_name h k first.ready.laid i.laid (changed_cells (transformers_of h.routine.body h.scope cs).at) g.untracked c.callee c.actuals b cs rs snd i.enters i.joins n.names) set t

      all_down : (cl : List CallAt) → Each (λ (c : CallAt). Covers b cs sites below h c.callee c.actuals (pre_in h.routine.body h.scope cs h.entry c.number)) cl → Each (λ (c : CallAt). SendsFrom b ks g cs rs h c.callee (lookup below c.callee)) cl → Each (λ (c : CallAt). GoesFrom ks g b cs rs is may_name h c.callee (lookup below c.callee)) cl →
          Each (λ (c : CallAt). set_at (regions_in_part g cs (rs h.routine.name) h).at c.number ≡ called_in g cs (rs h.routine.name) h c.callee c.actuals) cl → Each (λ (c : CallAt). TellsFrom h c (lookup below c.callee)) cl →
          Each (λ (c : CallAt). HandsDownFrom ks g b cs sites rs is us of may_name turns h sane first.goes.regular first.goes.joins.own_below first.ready c.callee c.actuals c.number (lookup below c.callee)) cl
      all_down [] cov snd n set t = tt
      all_down (c ∷ cl) cov snd n set t = (one_down c (pre_in h.routine.body h.scope cs h.entry c.number) (lookup below c.callee) refl cov.0 snd.0 n.0 set.0 t.0, all_down cl cov.1 snd.1 n.1 set.1 t.1)

      -- the sets of its CALLs
      sets : Each (λ (c : CallAt). set_at (regions_in_part g cs (rs h.routine.name) h).at c.number ≡ called_in g cs (rs h.routine.name) h c.callee c.actuals) (list_calls h.routine.body)
      sets =
          let c = called_in g cs (rs h.routine.name) h in
          call_sets h.scope h.found.transformer c h.routine.body (own_numbers (at_list h.routine.body h.scope h.found.transformer c) h.routine.body (r_list h.scope h.found.transformer c h.routine.body) analysed.numbered)

      pub part_out : PartOut ks g b cs sites rs is us of may_name turns below h sane first
      part_out = record { part = po.part; downs = all_down (list_calls h.routine.body) analysed.calls p.regular.calls p.calls sets po.tells }

    pub parts_out : (parts : List Part) (re : LaidParts ks g b cs rs is may_name parts) → OutsOf parts → (pl : AnalysedParts b cs sites of parts) (first : PartsFirst ks g b cs sites rs is of may_name turns parts pl) → PartsOut ks g b cs sites rs is us of may_name turns parts pl first
    parts_out [] re ro pl first = tt
    parts_out (k ∷ parts) re ro pl first = (part_out parts re.1 ro.1 pl.3 k pl.0 pl.1 re.0 ro.0 first.0, parts_out parts re.1 ro.1 pl.3 first.1)

-- then in every run that no fault ends, each visible unit that an execution writes, and that the rest of the run reads before it writes it, lies in its OUT
-- regions; the same of each entry
pub program_outs_hold : LinkLaws → (b : Blocks) (cs : Callees) (sites : List ℕ → List HoldingSite) (of : List ℕ → Part) (may_name : Part → Named → Bool) (main : Part) (parts : List Part) (z : Store) → AnalysedProgram b cs sites of main parts z →
    (ks : List Known) (g : Graph) (rs is : List ℕ → Summaries) (us : List ℕ → List Region) → LaidPart ks g b cs rs is may_name parts main → LaidParts ks g b cs rs is may_name parts → OutOf ks g b cs rs is us may_name parts main → OutsOf ks g b cs rs is us may_name parts →
    program_of ks g ≡ record { main = main.routine; others = routines parts; initial = z } → InConformingRuns ks g (EachOutHolds ks g cs rs is us of)
program_outs_hold laws b cs sites of may_name main parts z pl ks g rs is us rm re om oe e =
    handed_outs_hold b cs sites of may_name main parts z pl ks g rs is us
    (λ n. record {
      main_first = part_first ks g b cs rs is may_name laws sites of n parts re pl.parts_analysed main pl.sane pl.analysed rm;
      first = parts_first ks g b cs rs is may_name laws sites of n parts re pl.parts_analysed;
      main_out = part_out ks g b cs rs is us may_name laws sites of n parts re oe pl.parts_analysed main pl.sane pl.analysed rm om (part_first ks g b cs rs is may_name laws sites of n parts re pl.parts_analysed main pl.sane pl.analysed rm);
      out = parts_out ks g b cs rs is us may_name laws sites of n parts re oe pl.parts_analysed (parts_first ks g b cs rs is may_name laws sites of n parts re pl.parts_analysed);
    }) e
