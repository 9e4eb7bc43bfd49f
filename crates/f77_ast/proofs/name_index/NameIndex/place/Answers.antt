use Rattle.std.proofs.Common.{Some, ap, ◌∙◌}
use Rattle.f77_ast.proofs.NumbersLaws.{one_less, number_from-suc}
use Rattle.f77_ast.proofs.name_index.NameIndex.place.Goals as goal

pub returns-in-None : goal.returns-in-None
returns-in-None c names are = ap one_less (c.in-None.ensures names are) ∙ number_from-suc 0 names c.args.name.now

pub returns-in-Some : goal.returns-in-Some
returns-in-Some c names are =
    ap Some c.saturating_sub.ensures ∙ ap one_less (c.in-Some.ensures names are) ∙ number_from-suc 0 names c.args.name.now
