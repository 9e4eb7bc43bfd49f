-- The lines of a directive are read as the names of its private variables, and as its reduction variables.
use Rattle.std.proofs.Common.{[], sym, ap, ◌∙◌, append-nil, Option}
use Rattle.result_lines.specs.MarkText.{directive_text, directive_lines}
use Rattle.result_lines.specs.ReductionText.{reduction_text}
use Rattle.system_text.specs.Reading.{Bytes, ◌>>=◌}
use Rattle.laws_lines.specs.Marks.Directives.{read_directive, read_lines}
use Rattle.laws_lines.specs.Marks.Laws.{DirectivesReadBack, ReductionsReadBack}
use Rattle.laws_lines.proofs.Marks.Clauses.{text_back}
use Rattle.laws_lines.proofs.Marks.Cuts.{lines_have}

pub reductions_read_back : ReductionsReadBack
reductions_read_back names ns ps are h k =
    let l = lines_have (reduction_text names ns ps) in
    ap (λ (o : Option Bytes). o >>= read_directive) l.1 ∙ text_back names are ns ps l.0 h k

pub directives_read_back : DirectivesReadBack
directives_read_back names ns are h =
    ap (λ (t : Bytes). read_lines (directive_lines t)) (sym (append-nil (directive_text names ns))) ∙ reductions_read_back names ns [] are h tt
