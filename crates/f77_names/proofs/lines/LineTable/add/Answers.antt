use Rattle.std.proofs.Common.{ap, sym, ◌∙◌}
use Rattle.std.proofs.lemmas.Result.{on_ok_weaker}
use Rattle.f77_names.specs.Lines.{with_spot}
use Rattle.f77_names.specs.Views.{line_in}
use Rattle.f77_names.proofs.LinesLaws.{else_if_kept}
use Rattle.f77_names.proofs.lines.LineTable.add.Goals as goal

pub returns-in-ElseIf : goal.returns-in-ElseIf
returns-in-ElseIf c =
    let t = c.args.self.now in
    on_ok_weaker c.keep_line-in-ElseIf.result
    (λ h s. else_if_kept t c.keep_line-in-ElseIf.new.lines c.in-ElseIf.n c.in-ElseIf.k c.args.line h s ∙ ap (λ p. with_spot p c.args.line (line_in t) s) (sym c.in-ElseIf.is))
    c.keep_line-in-ElseIf.ensures
