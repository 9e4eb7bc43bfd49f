use Rattle.std.proofs.Common.{ℕ, List, ◌++◌, ap, ◌∙◌}
use Rattle.pipsmake_base.specs.pipsmake_db.State.{texts_of}
use Rattle.pipsmake_base.specs.pipsmake_meaning.Texts.{names_in}
use Rattle.pips_top.specs.Kept.{modules_kept}
use Rattle.pips_top.proofs.Lent.{more_kept, none_kept}
use Rattle.pips_top.proofs.kept.reduced_text.Goals as goal
use Rattle.pipsmake_base.proofs.PipsmakeDb.CallEquations.PositionSteps.{first-rest}
use Rattle.fx_lists.proofs.Lists.{none_left}

pub loop-rest-preserved : goal.loop-rest-preserved
loop-rest-preserved c =
    let parts = first-rest c.loop-rest.rest.now c.name-item.result _ c.in-len1-up.len_at_least c.name-item.is in
    more_kept c.args.wanted c.args.db.now c.name-item.result c.in-Some.kept _ c.loop-rest.rest.now c.loop-rest.out c.in_ok-text.text c.append.new.self (modules_kept c.args.wanted c.args.db.now (names_in (texts_of c.args.db.now))) parts c.in-Some.ensures.kept
    c.in_ok-text.ensures (c.in_ok-append.ensures.ok ∙ ap (λ (t : List ℕ). c.loop-rest.out ++ t) c.as_slice.ensures) c.loop-rest.invariant

pub returns : goal.returns
returns c =
    none_kept c.args.wanted c.args.db.now c.loop-rest.rest.now c.loop-rest.out (modules_kept c.args.wanted c.args.db.now (names_in (texts_of c.args.db.now))) (none_left c.loop-rest.rest.now c.in_default.len_below) c.loop-rest.invariant
