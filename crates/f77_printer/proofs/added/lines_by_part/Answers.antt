use Rattle.std.proofs.Common.{◌++◌, ap, sym, ◌∙◌, append-nil, rules}
use Rattle.std.proofs.Math.Path.{fun_ext}
use Rattle.std.proofs.lemmas.List.{drop_all}
use Rattle.f77_printer.specs.AddedText.{part_of, added_text}
use Rattle.f77_printer.specs.Lines.{lines_of, more_at}
use Rattle.f77_printer.proofs.AddedLemmas.{lines_of-none, HasMore-left}
use Rattle.f77_printer.proofs.added.lines_by_part.Goals as goal

pub loop-a-init : goal.loop-a-init
loop-a-init c = record {
  first = search rules;
  same = λ part. ap (λ t. t ++ added_text c.args.first c.as_slice-a-items.result.now part) (lines_of-none c.args.first c.new.result c.new-2.result part c.new.ensures c.new-2.ensures.empty);
}

pub loop-a-preserved : goal.loop-a-preserved
loop-a-preserved c =
    let first = c.loop-a.invariant.first in
    let more = c.in_ok-add.ensures.more in
    record {
      first = c.in_ok-add.ensures.first ∙ first;
      same = λ part.
          HasMore-left c.args.first part (lines_of c.loop-a.lines) (lines_of c.add.new.lines) c.as_slice-a-items.result.now c.loop-a.a-index c.a-item.result c.loop-a-test.true c.a-item.is
          (λ q. more q ∙ ap (λ f. more_at (part_of f c.a-item.result) c.a-item.result.line (lines_of c.loop-a.lines) q) first)
          ∙ c.loop-a.invariant.same part;
    }

pub returns : goal.returns
returns c = fun_ext (λ part.
    sym (append-nil (lines_of c.loop-a.lines part))
    ∙ ap (λ xs. lines_of c.loop-a.lines part ++ added_text c.args.first xs part) (sym (drop_all c.loop-a.a-index c.as_slice-a-items.result.now c.loop-a-test.false))
    ∙ c.loop-a.invariant.same part
    ∙ ap (λ xs. added_text c.args.first xs part) c.as_slice-a-items.ensures)
