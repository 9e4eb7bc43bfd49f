use Rattle.std.proofs.Common.{◌+◌, drop, ap, sym, ◌∙◌}
use Rattle.std.proofs.Math.Path.{fun_ext}
use Rattle.f77_names.specs.Lines.{lines_of, or_own}
use Rattle.f77_names.specs.Views.{line_in}
use Rattle.f77_names.proofs.LinesLaws.{one_spot, next_spot, last_spot}
use Rattle.f77_names.proofs.lines.LineTable.of.Goals as goal

pub loop-spot-init : goal.loop-spot-init
loop-spot-init c = λ s. ap (λ o. or_own o (lines_of c.args.spots.now s)) (c.new-lines.ensures s)

pub loop-spot-preserved : goal.loop-spot-preserved
loop-spot-preserved c =
    let spots = c.args.spots.now in
    let i = c.loop-spot.spot-index in
    let q = c.spot-item.result in
    λ s. ap (λ o. or_own o (lines_of (drop (i + 1) spots) s)) (c.in_ok-add.ensures s)
    ∙ one_spot (line_in c.loop-spot.lines) q (drop (i + 1) spots) s
    ∙ ap (λ rs. or_own (line_in c.loop-spot.lines s) (lines_of rs s)) (sym (next_spot spots i q c.loop-spot-test.true c.spot-item.is))
    ∙ c.loop-spot.invariant s

pub returns : goal.returns
returns c = fun_ext (λ s. sym (last_spot (line_in c.loop-spot.lines s) c.args.spots.now c.loop-spot.spot-index s c.loop-spot-test.false) ∙ c.loop-spot.invariant s)
