use Rattle.std.proofs.Common.{◌≡◌, ◌+◌, ◌<◌, length, arith, rules, subst, sym, ap, ◌∙◌, refl}
use Rattle.fixed_form.specs.TextLines.{without_returns}
use Rattle.fixed_form.specs.Steps.{first_line, line_step}
use Rattle.fixed_form.specs.Reading.{Gives}
use Rattle.fixed_form.proofs.Pass.{Left, left-start, left-line, left-end, left-error, continuations-step}
use Rattle.fixed_form.proofs.read.pass.Goals as goal

pub loop-rest-init : goal.loop-rest-init
loop-rest-init c = record {
  left = left-start c.args.text.now _ c.new.ensures refl c.new-2.ensures;
  room = omega arith;
  count = omega arith;
  small = omega arith;
}

pub loop-rest-preserved : goal.loop-rest-preserved
loop-rest-preserved c =
    let more : 0 < length c.loop-rest.rest.now = search rules in
    let line : c.without_returns.result.now ≡ without_returns (first_line c.loop-rest.rest.now) =
    c.without_returns.ensures ∙ ap without_returns c.first_line.ensures.line in
    record {
      left = subst (Left c.args.text.now c.in-Ok.taken (c.loop-rest.count + 1 + 1)) (sym c.first_line.ensures.rest)
          (left-line c.args.text.now c.loop-rest.progress c.in-Ok.taken (c.loop-rest.count + 1) c.loop-rest.rest.now _ more c.loop-rest.invariant.left line
          c.in-Ok.ensures.0 c.in-Ok.ensures.1);
      room = omega (arith, continuations-step (c.loop-rest.count + 1) c.without_returns.result.now c.loop-rest.progress c.in-Ok.taken c.in-Ok.ensures.0 c.in-Ok.ensures.1);
      count = omega (arith, c.first_line.ensures.shorter);
      small = omega arith;
    }

pub returns-in-Err : goal.returns-in-Err
returns-in-Err c =
    let more : 0 < length c.loop-rest.rest.now = search rules in
    let line : c.without_returns.result.now ≡ without_returns (first_line c.loop-rest.rest.now) =
    c.without_returns.ensures ∙ ap without_returns c.first_line.ensures.line in
    left-error c.args.text.now c.loop-rest.progress (line_step (c.loop-rest.count + 1) c.without_returns.result.now c.loop-rest.progress)
    (c.loop-rest.count + 1) c.loop-rest.rest.now _ c.in-Err.e more c.loop-rest.invariant.left line c.in-Err.ensures

pub returns : goal.returns
returns c =
    let none : length c.loop-rest.rest.now < 1 = search rules in
    subst (Gives c.finish.result) (sym (left-end c.args.text.now c.loop-rest.progress c.loop-rest.count c.loop-rest.rest.now none c.loop-rest.invariant.left))
    c.finish.ensures
