-- What is written of a program that was read does as the program does, its marked loops interleaved.
use Rattle.std.proofs.Common.{◌≡◌, ℕ, Bool, List, Option, Some, None, refl, sym, ap, ap₂, ◌∙◌, subst}
use Rattle.std.specs.Prelude.{option_map}
use Rattle.f77_ast.specs.Programs.{Program}
use Rattle.f77_ast.specs.Symbols.{SymbolTree}
use Rattle.call_graph.specs.declared.graph.Graph.{Graph}
use Rattle.f77_meaning.specs.Modules.{Known, known_of}
use Rattle.f77_meaning.specs.Linked.{program_of}
use Rattle.pipsmake_base.specs.loop_marker.Results.{ModuleResults}
use Rattle.laws_interleavings.specs.Accumulating.{Directive}
use Rattle.laws_programs.proofs.Sources.{all_built}
use Rattle.laws_bounds.specs.laws_analyses.Laws.{AnalysesAreWhole}
use Rattle.laws_bounds.specs.laws_marks.Schedules.{DoesAs}
use Rattle.laws_bounds.specs.laws_marks.Accepted.{ReadRunsAsPlain}
use Rattle.laws_bounds.specs.laws_marks.Directives.{IsFound, AreFound}
use Rattle.laws_bounds.specs.laws_marks.Said.{reductions_of}
use Rattle.laws_lines.specs.Marks.Directives.{Clauses}
use Rattle.laws_lines.specs.Marks.MarkedLoops.{directives_of, directives_found}
use Rattle.pips_top.specs.Laws.{ReadRunsInterleaved}
use Rattle.pips_top.specs.MarkedText.{loops_found, directive_meant, directives_meant, executed}
use Rattle.pips_top.specs.Program.{ProgramTree}
use Rattle.pips_top.specs.ReadBack.{SameProgram}
use Rattle.pips_top.specs.Shown.{results_of_program}
use Rattle.pips_top.proofs.Programs.{is_program}
use Rattle.pips_top.proofs.ReadBack.{known_same}
use Rattle.pips_top.proofs.DirectiveMarks.{directive_marks}

-- the same program is executed
same_executed : (p q : ProgramTree) → SameProgram p q → executed q ≡ executed p
same_executed p q s =
    ap₂ (λ (sss : List (List SymbolTree)) (g : Graph). program_of (known_of q.modules sss) g) s.tables s.graph ∙ ap (λ (ks : List Known). program_of ks p.graph) (known_same q.modules p.modules p.tables s.modules)

-- of the clauses of a directive
of_clauses : (g : Graph) (reductions : Bool) (fs : List ModuleResults) (x : List ℕ) (n : ℕ) (e : Directive) (o : Option Clauses) → ((c : Clauses) → o ≡ Some c → IsFound g reductions fs x n (directive_meant c))
    → option_map directive_meant o ≡ Some e → IsFound g reductions fs x n e
of_clauses g reductions fs x n e None found h = absurd (let q : None ≡ Some e = h in cc)
of_clauses g reductions fs x n e (Some c) found h = let same : directive_meant c ≡ e = cc in subst (IsFound g reductions fs x n) same (found c refl)

pub interleaved_from : ReadRunsAsPlain → AnalysesAreWhole → ReadRunsInterleaved
interleaved_from runs whole show bytes p e m =
    let i = is_program bytes p e in
    let fs = results_of_program p in
    let read = directives_found (reductions_of show.reductions p.graph) fs in
    let found : AreFound p.graph show.reductions fs (directives_meant read) = λ x n d h.
    of_clauses p.graph show.reductions fs x n d (read x n) (λ c k. directive_marks show p (whole p.modules p.tables p.graph i) (all_built i.lines p.modules i.parsed) x n c k) h in
    subst (λ (r : Program). DoesAs (executed p) r (directives_meant (directives_of m.again.modules (loops_found show p)))) (sym (same_executed p m.again m.same))
    (subst (λ (d : List ℕ → ℕ → Option Clauses). DoesAs (executed p) (executed p) (directives_meant d)) (sym m.directives) (runs p.modules p.tables p.graph i show.reductions (directives_meant read) found))
