-- Modules that are read have what their OUT regions ask.
use Rattle.std.proofs.Common.{◌≡◌, ℕ, zero, suc, List, [], ◌∷◌, ◌++◌, true, Some, None, subst, arith}
use Rattle.std.specs.Prelude.{slice_get}
use Rattle.f77_ast.specs.DeclTrees.{ParsedTree}
use Rattle.f77_statements.specs.Phrases.{end_module}
use Rattle.f77_structure.specs.Checks.{fault_of}
use Rattle.f77_parser.specs.Statements.{StatementTree, marks_of}
use Rattle.f77_parser.specs.Building.{written_module, build_module}
use Rattle.f77_parser.specs.Elaborated.{meant_in, elaborated}
use Rattle.f77_ast.specs.Symbols.{SymbolTree}
use Rattle.call_graph.specs.declared.graph.Graph.{Graph}
use Rattle.f77_meaning.specs.Modules.{known_of}
use Rattle.affine_systems.specs.declared.row.System.{System}
use Rattle.preconditions.specs.transformers.Given.{Callees}
use Rattle.laws_programs.specs.roundtrip_programs.Statements.Formed.{Each}
use Rattle.laws_programs.specs.roundtrip_programs.ModuleTexts.ModuleLaws.{IsStatement, IsRead}
use Rattle.laws_programs.proofs.RoundtripPrograms.ModuleTexts.Each.{each-map}
use Rattle.laws_programs.proofs.RoundtripPrograms.ModuleTexts.Built.{written_well}
use Rattle.laws_programs.proofs.RoundtripPrograms.ModuleTexts.JumpsAgain.{all_reach_there}
use Rattle.laws_programs.proofs.RoundtripPrograms.ModuleTexts.Writing.{few_stand}
use Rattle.laws_programs.specs.Programs.{IsProgram}
use Rattle.laws_programs.specs.Storage.Programs.{IsLinked, IsModule, known}
use Rattle.laws_programs.proofs.Sources.{all_read_of}
use Rattle.laws_analyses.specs.Parts.{part_of}
use Rattle.laws_analyses.proofs.Sizes.{goings_few}
use Rattle.laws_analyses.proofs.WholeJumps.{written_ordered, labels_bounded}
use Rattle.laws_marks.specs.OutLabels.{IsOutward, StmtsOutward}
use Rattle.laws_marks.specs.OutPrograms.{OutPart}
use Rattle.laws_marks.proofs.Outward.{body_outward}
use Rattle.laws_marks.proofs.OutRoutines.{routine_tagged, own_kept, forgets}

record LeadsSo (p : ParsedTree) : Type 0 where
  outward : IsOutward true p.module_read.body
  parts : StmtsOutward p.module_read.body

one_leads : (closing : List (List ℕ)) (begun : List StatementTree) (s : StatementTree) → s.phrase ≡ end_module → Each IsRead (begun ++ s ∷ []) → fault_of (marks_of (begun ++ s ∷ [])) ≡ None → LeadsSo (build_module closing (begun ++ s ∷ []))
unfolding build_module elaborated
one_leads closing begun s e r f =
    let ss = begun ++ s ∷ [] in
    let w = (written_module closing ss).module_read in
    let i = each-map IsRead IsStatement ss (λ x h. h.phrase) r in
    let a = written_well closing begun s e i f in
    let some = goings_few (meant_in w).is_while w.body a.body in
    let most = few_stand closing begun s e i f in
    let o = body_outward (meant_in w) w.body a.body (written_ordered closing begun s e r f) a.whiles (omega (arith, some, most)) (all_reach_there closing begun s e i f) (labels_bounded closing begun s e r f) in
    record { outward = o.0; parts = o.1 }

at_place : (ps : List ParsedTree) → Each LeadsSo ps → (i : ℕ) (p : ParsedTree) → slice_get ps i ≡ Some p → LeadsSo p
at_place [] h i p e = cc
at_place (q ∷ ps) h zero p e = let same : q ≡ p = cc in subst LeadsSo same h.first
at_place (q ∷ ps) h (suc i) p e = at_place ps h.others i p e

module _ (ps : List ParsedTree) (sss : List (List SymbolTree)) (g : Graph) (x : IsProgram ps sss g) (l : IsLinked ps sss g) where
  pub read_part : (i : ℕ) (p : ParsedTree) (ss : List SymbolTree) → IsModule ps sss i p ss → (cs : Callees) (entry : System) → OutPart (known_of ps sss) g (part_of (known_of ps sss) g cs entry (known p ss))
  read_part i p ss m cs entry =
      let o = at_place ps (all_read_of LeadsSo one_leads x.lines x.labelled ps x.parsed) i p m.parsed in
      record {
        tagged = routine_tagged (known_of ps sss) g (known p ss);
        kept = λ n j. own_kept ps sss g l p.module_read.name n j;
        forgets = λ u h. forgets ps sss g l i p ss m u h;
        outward = o.outward;
        parts_outward = o.parts;
      }
