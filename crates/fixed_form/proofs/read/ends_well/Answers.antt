use Rattle.std.proofs.Common.{arith, ap, sym, ◌∙◌}
use Rattle.std.specs.Prelude.{bytes_eq, codes}
use Rattle.fixed_form.specs.Reading.{is_end}
use Rattle.fixed_form.proofs.Ends.{ends_well-last}
use Rattle.fixed_form.proofs.read.ends_well.Goals as goal

pub returns-in-len1-up : goal.returns-in-len1-up
returns-in-len1-up c =
    c.eq.ensures
    ∙ ap (λ t. bytes_eq c.as_slice.result.now t) c.as_slice-in-len1-up.ensures
    ∙ ap (λ t. bytes_eq t (codes "END")) c.as_slice.ensures
    ∙ ap is_end c.last-item.is
    ∙ sym (ends_well-last c.args.lines.now c.last-item.result (omega arith))
