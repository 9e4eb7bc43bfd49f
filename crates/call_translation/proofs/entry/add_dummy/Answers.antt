use Rattle.std.proofs.Common.{sym, ◌∙◌}
use Rattle.f77_ast.specs.Symbols.{symbol_tree}
use Rattle.call_translation.specs.Sites.{site_tree}
use Rattle.call_translation.proofs.FormLaws.{dummy_pushed}
use Rattle.call_translation.proofs.entry.add_dummy.Goals as goal

pub returns-in_ok-push-in-Some-clause-small : goal.returns-in_ok-push-in-Some-clause-small
returns-in_ok-push-in-Some-clause-small c =
    let found = sym c.in-Some.is ∙ c.in_ok-dummy_form.ensures.defined in
    let small = rw c.in-Some.is at c.in_ok-dummy_form.ensures.small in
    dummy_pushed (site_tree c.args.site.now) (symbol_tree c.args.symbol.now) c.args.number _ _ _ _ _ found small c.in_ok-exit-in-Some.ensures.defined c.in_ok-same_row-in-Some.ensures.defined c.requires c.in_ok-push-in-Some.ensures.items
