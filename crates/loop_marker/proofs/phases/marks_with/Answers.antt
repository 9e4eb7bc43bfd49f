use Rattle.std.proofs.Common.{◌≡◌, ℕ, List, subst, map}
use Rattle.std.specs.Prelude.{IfOk}
use Rattle.f77_ast.specs.PlainDecl.{module_tree}
use Rattle.f77_ast.specs.Symbols.{symbol_tree}
use Rattle.f77_ast.specs.Index.{names_of}
use Rattle.transformers.specs.call_translation.Scopes.{ScopeTree}
use Rattle.module_phases.specs.ScalarPhases.{scope_of}
use Rattle.module_phases.specs.ScalarViews.{known}
use Rattle.module_phases.proofs.ScopeLaws.{scope-same}
use Rattle.loop_marker.specs.Known.{knowledge_of}
use Rattle.loop_marker.specs.Marks.{marks_of}
use Rattle.loop_marker.proofs.phases.marks_with.Goals as goal
use Rattle.f77_meaning.proofs.SymbolNames.{names-same as names_same}

pub returns : goal.returns
returns c =
    let r = c.args.outs.now.known.known in
    let f = r.analysis.found in
    let u = c.args.graph.now.untracked in
    let ss = f.symbols.now in
    let Same : List (List ℕ) → ScopeTree → Type 0 = λ ns s. IfOk c.marks.result (λ ms. ms ≡ marks_of (knowledge_of (module_tree f.«module».now) (map symbol_tree ss) ns s c.args.effects.now.at f.own.at r.analysis.holds.at r.regions.at c.args.outs.now.known.ins.at c.args.outs.now.outs.at)) in
    subst (λ (ns : List (List ℕ)). Same ns (scope_of u (known f.«module».now ss))) (names_same ss)
    (subst (λ (s : ScopeTree). Same (names_of ss) s) (scope-same f.«module».now ss u) c.marks.ensures)
