use Rattle.std.proofs.Common.{◌≡◌, ◌∙◌, ◌∷◌, ◌++◌, false, pos, take, drop, sym, ap, arith}
use Rattle.affine_systems.specs.Terms.{term, add_term}
use Rattle.affine_systems.specs.Places.{has_var}
use Rattle.work_area.proofs.NoteSteps.{noted_new, full_sum, fits_sum}
use Rattle.work_area.proofs.columns.note.Goals as goal

pub returns-then-len-limit-clause-notes : goal.returns-then-len-limit-clause-notes
returns-then-len-limit-clause-notes c =
    let us = c.args.sum.now.items in
    let e : has_var c.args.v us ≡ false = ap (has_var c.args.v) (sym c.as_slice.ensures.value) ∙ (sym c.has_var.ensures ∙ c.if-has_var.false) in
    record { done = λ f. cc; full = λ f. full_sum c.args.v us c.args.limit e (omega (arith, c.len.ensures, c.if-len-limit.true)) }

pub returns-clause-notes : goal.returns-clause-notes
returns-clause-notes c =
    let us = c.args.sum.now.items in
    let v = c.args.v in
    let e : has_var v us ≡ false = ap (has_var v) (sym c.as_slice.ensures.value) ∙ (sym c.has_var.ensures ∙ c.if-has_var.false) in
    let a : add_term v (pos 1) us ≡ take c.place_for-at.result us ++ term v (pos 1) ∷ drop c.place_for-at.result us
    = ap (add_term v (pos 1)) (sym c.as_slice-2.ensures.value) ∙ (c.place_for-at.ensures.place ∙ ap (λ ts. take c.place_for-at.result ts ++ term v (pos 1) ∷ drop c.place_for-at.result ts) c.as_slice-2.ensures.value) in
    record {
      done = λ f. (c.put_at.ensures.items ∙ (sym a ∙ sym (noted_new v us e)), fits_sum v us c.args.limit c.len.result e (omega (arith, c.requires.few)) (omega (arith, c.len.ensures)) c.if-len-limit.false);
      full = λ f. cc;
    }
