use Rattle.std.proofs.Common.{◌≡◌, ℕ, Bool, List, map, subst}
use Rattle.std.specs.Prelude.{IfOk}
use Rattle.f77_ast.specs.Symbols.{symbol_tree}
use Rattle.tracked_cells.specs.Tracked.{is_tracked}
use Rattle.tracked_cells.proofs.cells.tracked_flags.Goals as goal

pub returns : goal.returns
returns c =
    let ss = map symbol_tree c.args.symbols.now in
    subst (λ (names : List (List ℕ)). IfOk c.all_tracked.result (λ (cells : List Bool). cells ≡ map (is_tracked names ss c.args.untracked.now) ss)) c.in_ok-names.ensures c.all_tracked.ensures
