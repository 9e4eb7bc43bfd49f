use Rattle.std.proofs.Common.{◌≡◌, [], ◌∷◌, ◌++◌, map, ap, ◌∙◌}
use Rattle.f77_ast.specs.PlainStmt.{what_tree}
use Rattle.f77_ast.specs.Symbols.{symbol_tree}
use Rattle.f77_ast.specs.Summaries.{summary_in}
use Rattle.effects.specs.List.{at, at_parts, with_parts}
use Rattle.effects.proofs.list.+effects.Goals as goal
use Rattle.fx_lists.proofs.Lists.{filled}

pub stmt_effect-returns-clause-added : goal.stmt_effect-returns-clause-added
stmt_effect-returns-clause-added t c =
    let xs = c.args.at.now in
    let w = what_tree c.args.s.now.what in
    let cs = summary_in c.args.callees.now in
    let ss = map symbol_tree c.args.symbols.now in
    let ys = at_parts w cs ss in
    let n = c.args.s.now.id in
    let behind : c.with_parts.new.at ≡ (xs ++ at n c.none.result ∷ []) ++ ys = c.in_ok-all.ensures.added ∙ ap (λ zs. zs ++ ys) c.in_ok-push.ensures.ok in
    c.set.ensures ∙ filled xs ys c.with_parts.new.at (at n c.none.result) (at n c.in_ok-value.value) c.len-place.result behind c.len-place.ensures
    ∙ ap (λ v. xs ++ at n v ∷ ys) (c.in_ok-value.ensures ∙ c.in_ok-all.ensures.defined ∙ ap (λ e. with_parts w cs ss e) c.in_ok-own.ensures)
