use Rattle.std.proofs.Common.{◌≡◌, ℕ, List, subst, map}
use Rattle.std.specs.Prelude.{IfOk}
use Rattle.f77_ast.specs.PlainDecl.{module_tree}
use Rattle.f77_ast.specs.Symbols.{symbol_tree}
use Rattle.f77_ast.specs.Index.{names_of}
use Rattle.preconditions.specs.call_translation.Scopes.{ScopeTree}
use Rattle.loop_marker.specs.module_phases.ScalarPhases.{scope_of}
use Rattle.loop_marker.specs.module_phases.ScalarViews.{known}
use Rattle.loop_marker.proofs.ModulePhases.ScopeLaws.{scope-same}
use Rattle.loop_marker.specs.Known.{knowledge_of}
use Rattle.loop_marker.specs.Marks.{marks_of}
use Rattle.result_making.specs.Parts.{needed_tree}
use Rattle.result_making.proofs.marked.marks_from.Goals as goal
use Rattle.f77_meaning.proofs.SymbolNames.{names-same as names_same}

pub returns : goal.returns
returns c =
    let v = c.args.analysis.now.view.now in
    let n = needed_tree c.args.analysis.now in
    let u = v.graph.now.untracked in
    let ss = v.symbols.now in
    let Same : List (List ℕ) → ScopeTree → Type 0 = λ ns s. IfOk c.marks.result (λ ms. ms ≡ marks_of (knowledge_of (module_tree v.«module».now) (map symbol_tree ss) ns s n.effects.at n.transformers.at n.preconditions.at n.regions.at n.ins.at n.outs.at)) in
    subst (λ (ns : List (List ℕ)). Same ns (scope_of u (known v.«module».now ss))) (names_same ss)
    (subst (λ (s : ScopeTree). Same (names_of ss) s) (scope-same v.«module».now ss u) c.marks.ensures)
