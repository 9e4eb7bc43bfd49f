-- Programs with what tables give for their regions: regions are carried to callers, and hold in every run.
use Rattle.std.proofs.Common.{◌≡◌, ℕ, List, [], ◌∷◌, Option, Some, None, Bool, true, false, refl, subst}
use Rattle.std.specs.Prelude.{if◌then◌else◌, bytes_eq}
use Rattle.f77_ast.specs.Trees.{ExprTrees}
use Rattle.call_graph.specs.declared.graph.Graph.{Graph}
use Rattle.f77_meaning.specs.Modules.{Known}
use Rattle.preconditions.specs.call_translation.Sites.{HoldingSite}
use Rattle.preconditions.specs.transformers.Given.{Callees}
use Rattle.in_out_regions.specs.array_regions.Calls.{Callees as Summaries}
use Rattle.call_graph.specs.CallsIn.{CallAt, Each, list_calls}
use Rattle.laws_analyses.specs.Statements.Good.{said}
use Rattle.laws_analyses.specs.Statements.Results.{pre_in}
use Rattle.affine_systems.specs.declared.row.System.{System}
use Rattle.laws_analyses.specs.Calls.Parts.{Blocks, Part, Sane}
use Rattle.laws_analyses.specs.Calls.ProgramLaws.{Analysed, AnalysedParts}
use Rattle.laws_analyses.specs.Calls.Sites.{CoversFrom, Covers, lookup}
use Rattle.laws_analyses.specs.Regions.Entries.{Enters}
use Rattle.laws_analyses.specs.Regions.Programs.{called_in, regions_in_part, EachRegionHolds, Joins, SendsFrom, RegularPart, RegularParts, ProgramRegionsHold}
use Rattle.laws_analyses.proofs.Regions.Calling.{solid, apart, begins_there, binds_there}
use Rattle.laws_analyses.proofs.Regions.Carrying.{LinkLaws, carries}
use Rattle.laws_analyses.proofs.Regions.Programs.{lookup_named, PartGoes, PartsGo, carried_regions_hold}
use Rattle.laws_analyses.proofs.Regions.Programs as programs

module _ (laws : LinkLaws) (ks : List Known) (g : Graph) (b : Blocks) (cs : Callees) (sites : List ℕ → List HoldingSite) (rs : List ℕ → Summaries) (of : List ℕ → Part) (turns : ℕ) where
  -- what is known of a module that is called
  record CalleeIs (k : Part) : Type 0 where
    sane : Sane b k
    enters : Enters ks g k
    joins : Joins ks g k

  callee_is : (parts : List Part) → RegularParts b cs rs ks g parts → AnalysedParts b cs sites of parts → (x : List ℕ) (k : Part) → lookup parts x ≡ Some k → CalleeIs k
  callee_is [] re pl x k e = cc
  callee_is (h ∷ parts) re pl x k e = go (bytes_eq x h.routine.name) e (callee_is parts re.1 pl.3 x k)
    where
      go : (c : Bool) → (if c then Some h else lookup parts x) ≡ Some k → (lookup parts x ≡ Some k → CalleeIs k) → CalleeIs k
      go true q ih = (let same : h ≡ k = cc in subst CalleeIs same (record { sane = pl.0; enters = re.0.enters; joins = re.0.joins }))
      go false q ih = ih q

  module _ (below : List Part) (re : RegularParts b cs rs ks g below) (pl : AnalysedParts b cs sites of below) (h : Part) (sane : Sane b h) (analysed : Analysed b cs sites below h) (rh : RegularPart b cs rs ks g below h) where
    one_sends : (x : List ℕ) (es : ExprTrees) (P : System) (o : Option Part) → lookup below x ≡ o → CoversFrom b cs sites h x es P o → SendsFrom b ks g cs rs h x o → programs.SendsFrom ks g b cs sites rs of turns h sane rh.regular rh.joins.own_below x es o
    one_sends x es P None e cov snd = tt
    one_sends x es P (Some k) e cov snd =
        let c = callee_is below re pl x k e in
        let named = lookup_named ks g b cs sites rs of turns below x k e in
        record {
          summary_known = snd.summary_known;
          carries = λ callee psm began at bound sound n locked still fits z steady xs s atk o entry.
              carries ks g b cs sites rs turns laws h sane rh.regular rh.joins k c.sane c.enters c.joins x es P cov snd callee psm began at bound sound n z steady xs s atk
              (binds_there (said (EachRegionHolds ks g cs rs of)) ks g b cs sites (λ p. (regions_in_part g cs (rs p.routine.name) p).summary) (called_in g cs (rs h.routine.name) h) h sane rh.regular turns callee psm at bound.made sound rh.joins.own_below x es n locked still fits z k c.sane P cov named xs s o.known)
              (begins_there (said (EachRegionHolds ks g cs rs of)) ks g b cs sites (λ p. (regions_in_part g cs (rs p.routine.name) p).summary) (called_in g cs (rs h.routine.name) h) h sane rh.regular turns callee psm at bound.made sound rh.joins.own_below x es n locked still fits z k c.sane P cov named xs s o.known)
              (solid (said (EachRegionHolds ks g cs rs of)) ks g b cs sites (λ p. (regions_in_part g cs (rs p.routine.name) p).summary) (called_in g cs (rs h.routine.name) h) h sane rh.regular turns callee psm at bound.made sound rh.joins.own_below x es n locked still fits z)
              (apart (said (EachRegionHolds ks g cs rs of)) ks g b cs sites (λ p. (regions_in_part g cs (rs p.routine.name) p).summary) (called_in g cs (rs h.routine.name) h) h sane rh.regular turns callee psm at bound.made sound rh.joins.own_below x es n locked still fits z)
              o.each entry;
        }

    all_send : (cl : List CallAt) → Each (λ (c : CallAt). Covers b cs sites below h c.callee c.actuals (pre_in h.routine.body h.scope cs h.entry c.number)) cl → Each (λ (c : CallAt). SendsFrom b ks g cs rs h c.callee (lookup below c.callee)) cl →
        Each (λ (c : CallAt). programs.SendsFrom ks g b cs sites rs of turns h sane rh.regular rh.joins.own_below c.callee c.actuals (lookup below c.callee)) cl
    all_send [] cov snd = tt
    all_send (c ∷ cl) cov snd = (one_sends c.callee c.actuals (pre_in h.routine.body h.scope cs h.entry c.number) (lookup below c.callee) refl cov.0 snd.0, all_send cl cov.1 snd.1)

    pub part_goes : PartGoes ks g b cs sites rs of turns below h sane
    part_goes = record { regular = rh.regular; enters = rh.enters; joins = rh.joins; sends = all_send (list_calls h.routine.body) analysed.calls rh.calls }

  pub parts_go : (parts : List Part) → RegularParts b cs rs ks g parts → (pl : AnalysedParts b cs sites of parts) → PartsGo ks g b cs sites rs of turns parts pl
  parts_go [] re pl = tt
  parts_go (k ∷ parts) re pl = (part_goes parts re.1 pl.3 k pl.0 pl.1 re.0, parts_go parts re.1 pl.3)

pub program_regions_hold : LinkLaws → ProgramRegionsHold
program_regions_hold laws b cs sites of main parts z pl ks g rs rm re e =
    carried_regions_hold b cs sites of main parts z pl ks g rs
    (λ n. (part_goes laws ks g b cs sites rs of n parts re pl.parts_analysed main pl.sane pl.analysed rm, parts_go laws ks g b cs sites rs of n parts re pl.parts_analysed)) e
