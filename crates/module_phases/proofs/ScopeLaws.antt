-- A scope from the code's symbols is that of the module.
use Rattle.std.proofs.Common.{◌≡◌, ℕ, List, map, ap}
use Rattle.f77_ast.specs.declared.module.Module.{Module}
use Rattle.f77_ast.specs.PlainDecl.{module_tree}
use Rattle.f77_ast.specs.declared.symbol.Symbol.{Symbol}
use Rattle.f77_ast.specs.declared.variable.Unit.{Unit as BlockUnit}
use Rattle.f77_ast.specs.Symbols.{symbol_tree, value_in}
use Rattle.tracked_cells.specs.Tracked.{tracked_of}
use Rattle.affine_forms.specs.Scalars.{cell_in}
use Rattle.preconditions.specs.call_translation.Scopes as code
use Rattle.preconditions.specs.call_translation.Scopes.{ScopeTree}
use Rattle.module_phases.specs.ScalarPhases.{scope_of}
use Rattle.module_phases.specs.ScalarViews.{known}
use Rattle.f77_meaning.proofs.SymbolNames.{names-same}

pub scope-same : (m : Module) (ss : List Symbol) (us : List BlockUnit) → code.scope_of m ss us ≡ scope_of us (known m ss)
scope-same m ss us =
    let flags = tracked_of (module_tree m) (map symbol_tree ss) us in
    let f : List (List ℕ) → ScopeTree = λ ns. record { symbols = map symbol_tree ss; tracked = flags; names = ns; scalars = record { value = value_in (map symbol_tree ss); cell = cell_in ns flags } } in
    ap f (names-same ss)
