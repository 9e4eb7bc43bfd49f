-- What the code knows of a module, and its lines from that.
use Rattle.std.proofs.Common.{◌≡◌, List, map, Bool, true, false, refl, sym, ap, ◌∙◌}
use Rattle.f77_ast.specs.PlainDecl.{module_tree}
use Rattle.f77_ast.specs.Symbols.{symbol_tree}
use Rattle.f77_ast.specs.Index.{names_of}
use Rattle.f77_ast.specs.declared.marks.Mark.{Mark}
use Rattle.f77_ast.specs.declared.results.At.{At}
use Rattle.f77_meaning.specs.Modules.{Known, symbol_names}
use Rattle.f77_meaning.proofs.SymbolNames.{names-same as names_same}
use Rattle.pipsmake_base.specs.module_phases.ScalarPhases.{scope_of}
use Rattle.pipsmake_base.specs.module_phases.ScalarViews.{known_in}
use Rattle.pipsmake_base.specs.loop_marker.Known.{knowledge_of, known_module}
use Rattle.pipsmake_base.specs.loop_marker.Marks.{Knowledge}
use Rattle.pipsmake_base.specs.loop_marker.dependence_test.declared.analysis.Analysis.{Analysis}
use Rattle.pipsmake_base.specs.result_lines.ReductionLines.{reduced_lines_of}
use Rattle.reductions.specs.Reduced.{reduced_of}
use Rattle.in_out_regions.specs.call_equations.Sides.{changed_cells}
use Rattle.in_out_regions.specs.call_translation.Scopes.{ScopeTree}
use Rattle.laws_bounds.specs.bound_check.CheckLines.{check_lines_of}
use Rattle.laws_bounds.specs.bound_check.Checked.{Knowledge as Judging, checked_of}
use Rattle.laws_bounds.specs.bound_check.Views.{known_in as judged_by}
use Rattle.call_graph.specs.declared.graph.Graph.{Graph}
use Rattle.pipsmake_base.specs.loop_marker.Results.{ModuleResults}
use Rattle.laws_bounds.specs.laws_marks.Said.{reduced_in, reductions_of}
use Rattle.laws_bounds.specs.Said.{knowledge_by, checks_said}
use Rattle.pips_top.specs.Kept.{no_effects, reductions_known, lines_known}
use Rattle.pips_top.specs.Reduced.{said_of, reductions_asked, checks_asked, lines_reduced}
use Rattle.pips_top.specs.declared.wanted.Wanted.{Wanted}
use Rattle.pips_top.proofs.KeptTexts.{reduced_apart}
use Rattle.pipsmake_base.proofs.ModulePhases.ScopeLaws.{scope-same}

-- ---- an analysis

-- by the names of its symbols and its scope, as definitions have them
abbrev pub knowledge_in : Analysis → Knowledge
knowledge_in a =
    let k : Known = known_in a.view.now in
    knowledge_of k.read k.symbols (symbol_names k.symbols) (scope_of a.view.now.graph.now.untracked k) a.effects.now.at a.transformers.now.at a.preconditions.now.at a.regions.now.at a.ins.now.at a.outs.now.at

same_knowledge : (a : Analysis) → known_module a ≡ knowledge_in a
same_knowledge a =
    let v = a.view.now in
    let ss = v.symbols.now in
    ap
    (λ s. knowledge_of (module_tree v.«module».now) (map symbol_tree ss) (names_of ss) s a.effects.now.at a.transformers.now.at a.preconditions.now.at a.regions.now.at a.ins.now.at a.outs.now.at)
    (scope-same v.«module».now ss v.graph.now.untracked)
    ∙ ap
    (λ ns. knowledge_of (module_tree v.«module».now) (map symbol_tree ss) ns (scope_of v.graph.now.untracked (known_in v)) a.effects.now.at a.transformers.now.at a.preconditions.now.at a.regions.now.at a.ins.now.at a.outs.now.at)
    (names_same ss)

-- so are its references judged
same_judged : (a : Analysis) → judged_by a ≡ knowledge_by a.view.now.graph.now (known_in a.view.now) a.transformers.now a.preconditions.now
same_judged a =
    let v = a.view.now in
    ap (λ (s : ScopeTree). record { scope = s; changed = changed_cells a.transformers.now.at; preconditions = a.preconditions.now.at }) (scope-same v.«module».now v.symbols.now v.graph.now.untracked)

checks_apart : (b : Bool) (a : Analysis) → checks_asked b a ≡ checks_said b a.view.now.graph.now (known_in a.view.now) a.transformers.now a.preconditions.now
checks_apart false a = refl
checks_apart true a = ap (λ (k : Judging). check_lines_of (checked_of k (known_in a.view.now).read.body)) (same_judged a)

-- effects play no part
reductions_apart : (b : Bool) (a : Analysis) (ms : List (At Mark)) → reductions_asked b a ms ≡ reductions_known b a.view.now.graph.now (known_in a.view.now) (said_of a ms)
reductions_apart false a ms = refl
reductions_apart true a ms = ap (λ (k : Knowledge). reduced_of k a.view.now.graph.now.order ms) (same_knowledge a) ∙ sym (reduced_apart (knowledge_in a) no_effects a.view.now.graph.now.order ms)

pub lines_apart : (w : Wanted) (a : Analysis) (ms : List (At Mark)) → lines_reduced w a ms ≡ lines_known w a.view.now.graph.now (known_in a.view.now) (said_of a ms)
lines_apart w a ms = λ i. reduced_lines_of w.show (known_in a.view.now) (said_of a ms) (reductions_apart w.reductions a ms i) (checks_apart w.bounds a i)

-- of results that are known
reductions_are : (b : Bool) (a : Analysis) (ms : List (At Mark)) (g : Graph) (f : ModuleResults) → reduced_of (knowledge_in a) a.view.now.graph.now.order ms ≡ reduced_in g f → reductions_asked b a ms ≡ reductions_of b g f
reductions_are false a ms g f e = refl
reductions_are true a ms g f e = ap (λ (k : Knowledge). reduced_of k a.view.now.graph.now.order ms) (same_knowledge a) ∙ e

pub lines_are : (w : Wanted) (a : Analysis) (ms : List (At Mark)) (g : Graph) (f : ModuleResults) → reduced_of (knowledge_in a) a.view.now.graph.now.order ms ≡ reduced_in g f
    → lines_reduced w a ms ≡ reduced_lines_of w.show (known_in a.view.now) (said_of a ms) (reductions_of w.reductions g f) (checks_said w.bounds a.view.now.graph.now (known_in a.view.now) a.transformers.now a.preconditions.now)
lines_are w a ms g f e = λ i. reduced_lines_of w.show (known_in a.view.now) (said_of a ms) (reductions_are w.reductions a ms g f e i) (checks_apart w.bounds a i)
