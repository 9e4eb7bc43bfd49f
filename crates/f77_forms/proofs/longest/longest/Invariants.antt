use Rattle.std.proofs.Common.{◌≡◌, drop}
use Rattle.f77_forms.specs.Longest.{longer, longest}
use Rattle.f77_forms.proofs.longest.longest.Given as goal

abbrev pub invariant-loop-keyword : goal.invariant-loop-keyword
invariant-loop-keyword g l =
    longer g.K.Keyword.word l.best (longest g.K.Keyword.word (g.K.Keyword.stands l.body) (drop l.keyword-index l.keywords))
    ≡ longest g.K.Keyword.word (g.K.Keyword.stands l.body) l.keywords
