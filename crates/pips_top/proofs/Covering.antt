-- What is said of a program leaves no module, no statement and no loop out.
use Rattle.std.proofs.Common.{◌≡◌, ℕ, zero, suc, List, [], ◌∷◌, Some, true, refl, sym, ap, ◌∙◌, subst}
use Rattle.std.specs.Prelude.{slice_get, is_some, IsSome}
use Rattle.f77_ast.specs.Trees.{StmtTrees}
use Rattle.f77_ast.specs.DeclTrees.{ModuleTree}
use Rattle.f77_ast.specs.declared.variable.Unit.{Unit as BlockUnit}
use Rattle.f77_ast.specs.StatementNumbers.{list_numbers, HasNumbers}
use Rattle.f77_ast.specs.declared.results.At.{At}
use Rattle.f77_ast.specs.declared.results.Results.{Results}
use Rattle.f77_meaning.specs.Modules.{known_of}
use Rattle.in_out_regions.specs.region_sets.declared.region.Region.{Region}
use Rattle.f77_ast.specs.declared.marks.Mark.{Mark}
use Rattle.call_graph.specs.declared.graph.Graph.{Graph}
use Rattle.in_out_regions.specs.call_translation.Sites.{SiteTree}
use Rattle.in_out_regions.specs.transformers.Lists.{value_at, transformer_at}
use Rattle.pipsmake_base.specs.module_phases.ScalarPhases.{scope_of, Analysis, analyses}
use Rattle.in_out_regions.specs.array_regions.Calls.{Callees}
use Rattle.in_out_regions.specs.array_regions.Modules.{calls_of}
use Rattle.in_out_regions.specs.Modules.{known_of as known_of_ins}
use Rattle.pipsmake_base.specs.out_regions.Known.{KnownTree}
use Rattle.pipsmake_base.specs.out_regions.Statement.{body_out}
use Rattle.pipsmake_base.specs.module_phases.declared.out_site.OutSite.{OutSite}
use Rattle.pipsmake_base.specs.module_phases.RegionPhases.{ModuleRegions, regions_found}
use Rattle.pipsmake_base.specs.module_phases.InPhases.{ModuleIns, ins_found}
use Rattle.pipsmake_base.specs.module_phases.OutPhases.{used_after, outs_found}
use Rattle.pipsmake_base.specs.loop_marker.Results.{ModuleResults}
use Rattle.pipsmake_base.specs.loop_marker.Phases.{phases_of, analysis_in}
use Rattle.laws_programs.specs.roundtrip_programs.ModuleTexts.Folded.{folded}
use Rattle.laws_programs.specs.roundtrip_programs.ModuleTexts.Numbered.{last_in}
use Rattle.laws_programs.specs.roundtrip_programs.Statements.Formed.{Each}
use Rattle.laws_programs.specs.Programs.{IsProgram}
use Rattle.laws_programs.proofs.Sources.{IsBuilt, all_built}
use Rattle.laws_programs.proofs.Tables.{programs_are_linked}
use Rattle.laws_programs.proofs.Whole.{bodies_numbered}
use Rattle.call_graph.specs.CallsIn.{Each as EachOne}
use Rattle.laws_bounds.proofs.LawsAnalyses.Statements.MainResults.{found_at}
use Rattle.laws_bounds.proofs.LawsAnalyses.Statements.NumberLaws.{ids, own_numbers}
use Rattle.laws_bounds.specs.laws_analyses.Coverage.{IsWhole, AreWhole}
use Rattle.laws_bounds.specs.laws_analyses.Laws.{AnalysesAreWhole}
use Rattle.laws_bounds.specs.laws_analyses.Regions.Claims.{set_in}
use Rattle.laws_bounds.proofs.LawsAnalyses.Regions.Numbering.{r_list}
use Rattle.laws_bounds.proofs.LawsMarks.InStanding.{i_list}
use Rattle.laws_bounds.proofs.LawsMarks.OutNumbers.{o_list}
use Rattle.pipsmake_base.specs.pipsmake_meaning.ResultEntries.{name_in}
use Rattle.pipsmake_base.specs.laws_database.ResultCallees.{region_summaries, in_summaries}
use Rattle.pipsmake_base.specs.laws_database.ResultCallers.{callers, later_sites}
use Rattle.pipsmake_base.specs.laws_database.ResultEquations.{FollowsFrom}
use Rattle.pipsmake_base.specs.laws_database.ResultLaws.{ResultsFollow}
use Rattle.pips_top.specs.Covered.{HasEach, IsCovered, AreCovered}
use Rattle.pips_top.specs.Laws.{ReadAllSaid}
use Rattle.pips_top.specs.Program.{ProgramTree}
use Rattle.pips_top.specs.Shown.{results_of_program}
use Rattle.pips_top.proofs.DirectivesFound.{module_there}
use Rattle.pips_top.proofs.DirectiveMarks.{marks_rise, marks_count, value_there}
use Rattle.pips_top.proofs.EntryClaims.{of_scalars_at}
use Rattle.pips_top.proofs.ModulesSaid.{each_own, known_back}
use Rattle.pips_top.proofs.Programs.{is_program}
use Rattle.pips_top.proofs.Said.{said_once}
use Rattle.call_graph.proofs.EachLaws.{each_place}
use Rattle.laws_lines.proofs.Marks.Cases.{numbers}

-- ---- results at statements

at_number : {T : Type 0} (as' : List (At T)) (j n : ℕ) → slice_get (ids as') j ≡ Some n → (b : At T) × (slice_get as' j ≡ Some b) × (b.id ≡ n)
at_number [] j n e = cc
at_number (b ∷ as') zero n e = let one : b.id ≡ n = cc in (b, refl, one)
at_number (b ∷ as') (suc j) n e = at_number as' j n e

-- where there is one at each statement
has_value : {T : Type 0} (as' : List (At T)) (body : StmtTrees) → ids as' ≡ list_numbers body → HasNumbers body → (j n : ℕ) → slice_get (list_numbers body) j ≡ Some n → IsSome (value_at as' n)
has_value as' body e h j n q =
    let b = at_number as' j n (ap (λ ns. slice_get ns j) e ∙ q) in
    let f = found_at as' j b.0 (own_numbers as' body e h) b.1 in
    ap is_some (ap (value_at as') (sym b.2) ∙ f.1)

set_there : (r : Results (List Region)) (n : ℕ) → IsSome (value_at r.at n) → IsSome (set_in r n)
set_there r zero h = refl
set_there r (suc n) h = h

has_set : (r : Results (List Region)) (body : StmtTrees) → ids r.at ≡ list_numbers body → HasNumbers body → HasEach (list_numbers body) (set_in r)
has_set r body e h j n q = set_there r n (has_value r.at body e h j n q)

-- ---- sets of regions at statements

regions_ids : (untracked : List BlockUnit) (cs : Callees) (a : Analysis) → ids (regions_found untracked cs a).at ≡ list_numbers a.found.known.read.body
regions_ids untracked cs a =
    let m = scope_of untracked a.found.known in
    r_list m (transformer_at a.found.own.at) (calls_of m untracked a.found.own.at cs) a.found.known.read.body

ins_ids : (untracked : List BlockUnit) (cs : Callees) (f : ModuleRegions) → ids (ins_found untracked cs f).at ≡ list_numbers f.analysis.found.known.read.body
ins_ids untracked cs f =
    let a = f.analysis.found in
    i_list (known_of_ins (scope_of untracked a.known) untracked a.own.at f.regions.at cs) a.known.read.body

outs_ids : (g : Graph) (cs : List (SiteTree OutSite)) (f : ModuleIns) → ids (outs_found g cs f).at ≡ list_numbers f.known.analysis.found.known.read.body
outs_ids g cs f =
    let a = f.known.analysis.found in
    let k : KnownTree = record { scope = scope_of g.untracked a.known; does = transformer_at a.own.at; accesses = f.known.regions.at; ins = f.ins.at } in
    o_list k true a.known.read.body (body_out k true a.known.read.body (used_after g a.known cs))

-- ---- marks of loops

mark_number : (ms : List (At Mark)) (j n : ℕ) → slice_get (numbers ms) j ≡ Some n → (b : At Mark) × (slice_get ms j ≡ Some b) × (b.id ≡ n)
mark_number [] j n e = cc
mark_number (b ∷ ms) zero n e = let one : b.id ≡ n = cc in (b, refl, one)
mark_number (b ∷ ms) (suc j) n e = mark_number ms j n e

-- ---- modules

module _ (p : ProgramTree) (i : IsProgram p.modules p.tables p.graph) (whole : AreWhole (known_of p.modules p.tables) (analyses (known_of p.modules p.tables) p.graph)) (follow : EachOne (FollowsFrom p.graph (results_of_program p)) (results_of_program p)) where
  abbrev built : Each IsBuilt p.modules
  built = all_built i.lines p.modules i.parsed

  -- its statements are numbered
  numbered : (j : ℕ) (f : ModuleResults) → slice_get (results_of_program p) j ≡ Some f → HasNumbers f.known.read.body
  numbered j f e =
      let k = known_back p whole j f e in
      let m = module_there p.modules p.tables k.0 f.known k.1 in
      subst (λ (t : ModuleTree). HasNumbers t.body) m.2 (bodies_numbered i.lines p.modules i.parsed k.0 m.0 m.1)

  covered_at : (j : ℕ) (f : ModuleResults) → slice_get (results_of_program p) j ≡ Some f → IsCovered f
  covered_at j f e =
      let g = p.graph in
      let fs = results_of_program p in
      let body = f.known.read.body in
      let n = numbered j f e in
      let from = each_place (FollowsFrom p.graph (results_of_program p)) (results_of_program p) j f follow e in
      let rise = marks_rise p whole built j f e in
      let count = marks_count p whole built j f e in
      record {
        scalars = of_scalars_at p IsWhole whole.whole j f e;
        regions = has_set f.regions body (ap (λ (r : Results (List Region)). ids r.at) from.regions ∙ regions_ids g.untracked (region_summaries fs) (analysis_in (phases_of f))) n;
        ins = has_set f.ins body (ap (λ (r : Results (List Region)). ids r.at) from.ins ∙ ins_ids g.untracked (in_summaries fs) (phases_of f).known.known) n;
        outs = has_set f.outs body (ap (λ (r : Results (List Region)). ids r.at) from.outs ∙ outs_ids g (later_sites g.untracked (callers fs (name_in f)) (name_in f)) (phases_of f).known) n;
        marks = λ l m q. (let b = mark_number f.marks l m (ap (λ ns. slice_get ns l) count ∙ q) in ap is_some (ap (value_at f.marks) (sym b.2) ∙ value_there f.marks l 0 (last_in 0 (folded f.known.read).body) b.0 rise b.1));
      }

  covered : AreCovered (known_of p.modules p.tables) (results_of_program p)
  covered = record {
    each = λ n k e. (let own = each_own p whole n k e in (own.place, own.found, own.there, own.known));
    once = λ l m a b e f h. said_once p.graph (analyses (known_of p.modules p.tables) p.graph) whole.once l m a b e f h;
    modules = λ j f e. known_back p whole j f e;
    covered = covered_at;
  }

pub all_said_from : AnalysesAreWhole → ResultsFollow → ReadAllSaid
all_said_from whole follow bytes p e =
    let i = is_program bytes p e in
    covered p i (whole p.modules p.tables p.graph i) (follow p.modules p.tables p.graph (programs_are_linked p.modules p.tables p.graph i).0)
