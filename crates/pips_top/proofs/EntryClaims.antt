-- What is claimed of every run by all passes is claimed of it by what is said of the modules.
use Rattle.std.proofs.Common.{◌≡◌, ℕ, List, [], Some}
use Rattle.std.specs.Prelude.{All as EachOf, slice_get}
use Rattle.f77_ast.specs.Store.{Content, Store, put, undefined}
use Rattle.f77_ast.specs.Runs.{first_of, rest_of}
use Rattle.f77_ast.specs.Plans.{Plan, Ends, Breaks, Look, Set, Hold, Forget, Show, Take, Within}
use Rattle.f77_ast.specs.Programs.{program_plan}
use Rattle.f77_ast.specs.Executions.{run_of}
use Rattle.call_graph.specs.declared.graph.Graph.{Graph}
use Rattle.f77_meaning.specs.Modules.{Known, known_of}
use Rattle.f77_meaning.specs.Linked.{program_of}
use Rattle.f77_meaning.specs.Occurrences.{Occurrence, Onward, Throughout, events_from}
use Rattle.f77_meaning.specs.Claimed.{InEveryRun}
use Rattle.laws_bounds.proofs.LawsAnalyses.Statements.Ends.{both}
use Rattle.laws_bounds.proofs.LawsAnalyses.ThroughoutLaws.{throughout_more}
use Rattle.pipsmake_base.specs.module_phases.ScalarPhases.{scope_of, Analysis, analyses}
use Rattle.pipsmake_base.specs.module_phases.RegionPhases.{ModuleRegions, all_regions}
use Rattle.pipsmake_base.specs.module_phases.InPhases.{ModuleIns, all_ins}
use Rattle.pipsmake_base.specs.module_phases.OutPhases.{ModuleOuts, all_outs}
use Rattle.pipsmake_base.specs.loop_marker.Results.{ModuleResults}
use Rattle.pipsmake_base.specs.loop_marker.Phases.{phases_of, analysis_in}
use Rattle.laws_bounds.specs.laws_analyses.Claims.{AnalysisHolds, AnalysesHold}
use Rattle.laws_bounds.specs.laws_analyses.Laws.{ReadAnalysesHold}
use Rattle.laws_bounds.specs.laws_analyses.Regions.Accepted.{AllRegionsHold, ReadRegionsHold}
use Rattle.laws_bounds.specs.laws_analyses.Regions.Claims.{RegionsHold}
use Rattle.laws_bounds.specs.laws_marks.InAccepted.{AllInsHold, ReadInsHold}
use Rattle.laws_bounds.specs.laws_marks.InClaims.{InRegionsHold}
use Rattle.laws_bounds.specs.laws_marks.OutAccepted.{AllOutsHold as AllFoundOutsHold, ReadOutsHold}
use Rattle.laws_bounds.specs.laws_marks.OutClaims.{OutRegionsHold}
use Rattle.laws_lines.specs.Regions.Laws.{RegionsAreOver, RegionsAreOverPlaces}
use Rattle.laws_lines.specs.Ins.Laws.{InsAreOver, InsAreOverPlaces}
use Rattle.laws_lines.specs.Outs.Laws.{OutsAreOver, OutsAreOverPlaces}
use Rattle.pips_top.specs.Claimed.{SaidHolds, AllSaidHolds, AllOutsHold, PlacesAreOver}
use Rattle.laws_bounds.specs.SafeLines.{SafeLinesHold, ReadSafeLinesHold}
use Rattle.pips_top.specs.Laws.{ReadClaimsHold, ReadBoundsHold}
use Rattle.pips_top.specs.Program.{ProgramTree}
use Rattle.pips_top.specs.Shown.{results_of_program}
use Rattle.pips_top.proofs.Entries.{each_result}
use Rattle.pips_top.proofs.Programs.{is_program, each_at}
use Rattle.pips_top.proofs.Said.{regions_at, said_at, ins_at, outs_at}

-- two claims that hold throughout a run hold together
abbrev Together : (Occurrence → Type 0) → (Occurrence → Type 0) → Occurrence → Type 0
Together C D x = C x × D x

together : (C D : Occurrence → Type 0) (t : Plan) (s : Store) (i : List Content) (onward : Onward) → Throughout C t s i onward → Throughout D t s i onward → Throughout (Together C D) t s i onward
together C D (Ends f) s i onward h k = tt
together C D (Breaks b) s i onward h k = tt
together C D (Look u t) s i onward h k = together C D (t (s u)) s i onward h k
together C D (Set u c t) s i onward h k = together C D t (put s u c) i onward h k
together C D (Hold u c t) s i onward h k = together C D t (put s u c) i onward h k
together C D (Forget u t) s i onward h k = together C D t (put s u (undefined (s u))) i onward h k
together C D (Show xs t) s i onward h k = together C D t s i onward h k
together C D (Take t) s i onward h k = together C D (t (first_of i)) s (rest_of i) onward h k
together C D (Within p at t next) s i onward h k = (
  (h.0, k.0),
  together C D t s i (λ f z j. events_from (next f) onward z j) h.1 k.1,
  both (run_of t s i) (λ f z j. Throughout C (next f) z j onward) (λ f z j. Throughout D (next f) z j onward) (λ f z j. Throughout (Together C D) (next f) z j onward)
      (λ f z j a b. together C D (next f) z j onward a b) h.2 k.2,
)

module _ (p : ProgramTree) where
  abbrev ks : List Known
  ks = known_of p.modules p.tables

  abbrev g : Graph
  g = p.graph

  abbrev scalars : List Analysis
  scalars = analyses ks g

  abbrev regions : List ModuleRegions
  regions = all_regions g scalars

  abbrev ins : List ModuleIns
  ins = all_ins g regions

  abbrev outs : List ModuleOuts
  outs = all_outs g ins

  -- what holds of each analysis at its place holds of that of a module
  pub of_scalars_at : (P : Analysis → Type 0) → ((j : ℕ) (a : Analysis) → slice_get scalars j ≡ Some a → P a) → (j : ℕ) (f : ModuleResults) → slice_get (results_of_program p) j ≡ Some f → P (analysis_in (phases_of f))
  of_scalars_at P h j f e =
      let out = outs_at g outs j f e in
      let here = ins_at g ins out.0 (phases_of f) out.1 in
      let at = said_at g scalars here.0 (phases_of f).known here.1 in
      h at.0 (analysis_in (phases_of f)) at.1

  -- what holds of each entry of a pass holds of that of a module
  of_scalars : (P : Analysis → Type 0) → EachOf P scalars → (j : ℕ) (f : ModuleResults) → slice_get (results_of_program p) j ≡ Some f → P (analysis_in (phases_of f))
  of_scalars P h j f e = of_scalars_at P (each_at P scalars h) j f e

  of_regions : (P : ModuleRegions → Type 0) → EachOf P regions → (j : ℕ) (f : ModuleResults) → slice_get (results_of_program p) j ≡ Some f → P (phases_of f).known.known
  of_regions P h j f e =
      let out = outs_at g outs j f e in
      let here = ins_at g ins out.0 (phases_of f) out.1 in
      each_at P regions h here.0 (phases_of f).known.known (regions_at g regions here.0 (phases_of f).known here.1)

  of_ins : (P : ModuleIns → Type 0) → EachOf P ins → (j : ℕ) (f : ModuleResults) → slice_get (results_of_program p) j ≡ Some f → P (phases_of f).known
  of_ins P h j f e =
      let out = outs_at g outs j f e in
      let here = ins_at g ins out.0 (phases_of f) out.1 in
      each_at P ins h here.0 (phases_of f).known here.1

  of_outs : (P : ModuleOuts → Type 0) → EachOf P outs → (j : ℕ) (f : ModuleResults) → slice_get (results_of_program p) j ≡ Some f → P (phases_of f)
  of_outs P h j f e =
      let out = outs_at g outs j f e in
      each_at P outs h out.0 (phases_of f) out.1

  -- so do the claims on an execution
  abbrev AllFound : Occurrence → Type 0
  AllFound = Together (AnalysesHold g scalars) (Together (AllRegionsHold ks g regions) (AllInsHold ks g ins))

  follows : (x : Occurrence) → AllFound x → AllSaidHolds ks g (results_of_program p) x
  follows x h =
      each_result (λ f. f.known.read.name ≡ x.spot.module_name → SaidHolds ks g f x) (results_of_program p)
      (λ j f e n. record {
        scalars = of_scalars (λ a. a.found.known.read.name ≡ x.spot.module_name → AnalysisHolds g a x) h.0 j f e n;
        regions = of_regions (λ f. f.analysis.found.known.read.name ≡ x.spot.module_name → RegionsHold ks g (scope_of g.untracked f.analysis.found.known) f.regions x) h.1.0 j f e n;
        ins = of_ins (λ f. f.known.analysis.found.known.read.name ≡ x.spot.module_name → InRegionsHold ks g (scope_of g.untracked f.known.analysis.found.known) f.ins x) h.1.1 j f e n;
      })

  outs_follow : (x : Occurrence) → AllFoundOutsHold ks g outs x → AllOutsHold ks g (results_of_program p) x
  outs_follow x h =
      each_result (λ f. f.known.read.name ≡ x.spot.module_name → OutRegionsHold ks g (scope_of g.untracked f.known) f.outs x) (results_of_program p)
      (λ j f e n. of_outs (λ f. f.known.known.analysis.found.known.read.name ≡ x.spot.module_name → OutRegionsHold ks g (scope_of g.untracked f.known.known.analysis.found.known) f.outs x) h j f e n)

  places_follow : EachOf (RegionsAreOver g.untracked) regions → EachOf (InsAreOver g.untracked) ins → EachOf (OutsAreOver g.untracked) outs → EachOf (PlacesAreOver g) (results_of_program p)
  places_follow a b c =
      each_result (PlacesAreOver g) (results_of_program p)
      (λ j f e. record {
        regions = of_regions (RegionsAreOver g.untracked) a j f e;
        ins = of_ins (InsAreOver g.untracked) b j f e;
        outs = of_outs (OutsAreOver g.untracked) c j f e;
      })

  said_runs : InEveryRun ks g (AnalysesHold g scalars) → InEveryRun ks g (AllRegionsHold ks g regions) → InEveryRun ks g (AllInsHold ks g ins) → InEveryRun ks g (AllSaidHolds ks g (results_of_program p))
  said_runs a b c turns input =
      let q = program_of ks g in
      let t = program_plan q turns in
      throughout_more AllFound (AllSaidHolds ks g (results_of_program p)) follows t q.initial input (λ f s i. [])
      (together (AnalysesHold g scalars) (Together (AllRegionsHold ks g regions) (AllInsHold ks g ins)) t q.initial input (λ f s i. []) (a turns input)
      (together (AllRegionsHold ks g regions) (AllInsHold ks g ins) t q.initial input (λ f s i. []) (b turns input) (c turns input)))

pub claims_from : ReadAnalysesHold → ReadRegionsHold → ReadInsHold → ReadOutsHold → RegionsAreOverPlaces → InsAreOverPlaces → OutsAreOverPlaces → ReadClaimsHold
claims_from law on_regions on_ins on_outs over ins_over outs_over bytes p e =
    let i = is_program bytes p e in
    let k = known_of p.modules p.tables in
    record {
      runs = said_runs p (law p.modules p.tables p.graph i) (on_regions p.modules p.tables p.graph i) (on_ins p.modules p.tables p.graph i);
      outs = λ turns input conforms. throughout_more (AllFoundOutsHold k p.graph (outs p)) (AllOutsHold k p.graph (results_of_program p)) (outs_follow p) (program_plan (program_of k p.graph) turns) (program_of k p.graph).initial input (λ f s i. []) (on_outs p.modules p.tables p.graph i turns input conforms);
      places = places_follow p (over p.modules p.tables p.graph i.tables) (ins_over p.modules p.tables p.graph i.tables) (outs_over p.modules p.tables p.graph i.tables);
    }

-- what the lines SAFE say of references, of each module
pub bounds_from : ReadSafeLinesHold → ReadBoundsHold
bounds_from law bytes p e =
    let i = is_program bytes p e in
    λ j f h. of_scalars_at p (SafeLinesHold (known_of p.modules p.tables) p.graph) (λ k a q. law p.modules p.tables p.graph i k a q) j f h
