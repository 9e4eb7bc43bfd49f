-- The analyses of a program that is read hold in every run.
use Rattle.std.proofs.Common.{ℕ, List, []}
use Rattle.f77_ast.specs.DeclTrees.{ParsedTree}
use Rattle.f77_ast.specs.Programs.{program_plan}
use Rattle.f77_ast.specs.Symbols.{SymbolTree}
use Rattle.call_graph.specs.declared.graph.Graph.{Graph}
use Rattle.laws_programs.proofs.SymbolTables.ShapeLaws.{bodies_are_shaped}
use Rattle.f77_meaning.specs.Modules.{known_of}
use Rattle.f77_meaning.specs.Linked.{program_of}
use Rattle.laws_programs.specs.Storage.Programs.{IsModule}
use Rattle.laws_programs.specs.Programs.{IsProgram}
use Rattle.laws_programs.proofs.Sources.{all_built}
use Rattle.laws_programs.proofs.Tables.{programs_are_linked}
use Rattle.laws_programs.proofs.Whole.{bodies_numbered}
use Rattle.laws_analyses.specs.ScalarLaws.{NamesAgree, AcceptedDataStaysInLocals}
use Rattle.laws_analyses.proofs.MainLaws.{built_at}
use Rattle.laws_analyses.proofs.Programs.{Ready}
use Rattle.laws_analyses.proofs.Subscripts.{built_have}
use Rattle.laws_analyses.proofs.TargetLaws.{body_lacks_none}
use Rattle.laws_analyses.proofs.ThroughoutLaws.{throughout_more}
use Rattle.laws_analyses.specs.JumpLaws.{JumpsStayInside}
use Rattle.laws_analyses.specs.Calls.ProgramLaws.{EachHolds}
use Rattle.module_phases.specs.ScalarPhases.{analyses}
use Rattle.laws_analyses.specs.CallLaws.{Settled, AnalysedProgramsHold}
use Rattle.laws_analyses.specs.Analysed.{part_named}
use Rattle.laws_analyses.specs.Results.{callees_of_all, analysed_entry, analysed_sites}
use Rattle.laws_analyses.specs.Claims.{AnalysesHold}
use Rattle.laws_analyses.specs.Laws.{AnalysesFollow, WholeAnalysesHold, ReadAnalysesHold}
use Rattle.laws_analyses.proofs.Analyses.{are_analysed}
use Rattle.laws_analyses.proofs.Claimed.{follows}

pub analyses_follow : AnalysesFollow
analyses_follow ps sss g l numbered = are_analysed ps sss g l numbered

pub whole_analyses_hold : AnalysedProgramsHold → WholeAnalysesHold
whole_analyses_hold holds ps sss g x lies settled =
    holds ps sss g x lies settled (callees_of_all (known_of ps sss) g) (analysed_sites (known_of ps sss) g) (analysed_entry (known_of ps sss) g)
    (analyses_follow ps sss g (programs_are_linked ps sss g x).0 (λ i p ss m. (settled i p ss m).numbered))

module _ (names : NamesAgree) (stays : JumpsStayInside) (ps : List ParsedTree) (sss : List (List SymbolTree)) (g : Graph) (x : IsProgram ps sss g) where
  pub settled : (i : ℕ) (p : ParsedTree) (ss : List SymbolTree) → IsModule ps sss i p ss → Settled g p ss
  settled i p ss m =
      let table = (programs_are_linked ps sss g x).1 i p ss m in
      let built = built_at ps (all_built x.lines ps x.parsed) i p m.parsed in
      record {
        agrees = names p ss g.untracked table;
        stays = stays x.lines x.labelled ps x.parsed i p m.parsed;
        numbered = bodies_numbered x.lines ps x.parsed i p m.parsed;
        targets = body_lacks_none ss p.module_read built.well built.formed (bodies_are_shaped p ss table);
      }

  pub ready : (i : ℕ) (p : ParsedTree) (ss : List SymbolTree) → IsModule ps sss i p ss → Ready g p ss
  ready i p ss m = record { settled = settled i p ss m; subscripts = built_have p (built_at ps (all_built x.lines ps x.parsed) i p m.parsed) }

pub read_analyses_hold : NamesAgree → AcceptedDataStaysInLocals → JumpsStayInside → WholeAnalysesHold → ReadAnalysesHold
read_analyses_hold names lies stays holds ps sss g x turns input =
    let of = part_named (known_of ps sss) g (callees_of_all (known_of ps sss) g) (analysed_entry (known_of ps sss) g) in
    let s = settled names stays ps sss g x in
    throughout_more (EachHolds (callees_of_all (known_of ps sss) g) of) (AnalysesHold g (analyses (known_of ps sss) g))
    (follows ps sss g (programs_are_linked ps sss g x).0 (λ i p ss m. (s i p ss m).numbered)) (program_plan (program_of (known_of ps sss) g) turns) (program_of (known_of ps sss) g).initial input (λ f z j. [])
    (holds ps sss g x (lies x.lines ps sss x.parsed x.tables) s turns input)
