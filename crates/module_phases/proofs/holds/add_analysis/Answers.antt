use Rattle.std.proofs.Common.{sym, subst}
use Rattle.std.specs.Prelude.{All}
use Rattle.std.proofs.lemmas.List.Elements.{All-push}
use Rattle.module_phases.specs.ScalarViews.{AnalysisFits}
use Rattle.module_phases.proofs.holds.add_analysis.Goals as goal

pub returns-clause-fits : goal.returns-clause-fits
returns-clause-fits c = subst (All AnalysisFits) (sym c.in_ok-push.ensures.items) (All-push AnalysisFits c.args.all.now.items c.in_ok-analysis.analysis c.requires.all c.in_ok-analysis.ensures.fits)
