use Rattle.std.proofs.Common.{◌∷◌, sym, subst}
use Rattle.pipsmake_db.specs.result_store.Fits.{ValueFits}
use Rattle.pipsmake_db.specs.result_store.Rows.{memo_cells_of}
use Rattle.pipsmake_base.specs.Saved.{value_in}
use Rattle.pipsmake_base.specs.Taken.{SeesFirst}
use Rattle.pipsmake_base.proofs.Taking.{SeesRest, sees_none, sees_more, sees_all}
use Rattle.pipsmake_base.proofs.see.see_results.Goals as goal

pub loop-stored-init : goal.loop-stored-init
loop-stored-init c =
    let sh = memo_cells_of c.args.store.now in
    subst (λ ks. SeesRest sh c.args.results sh ks c.stack_of-rest.result) (sym c.new-seen.ensures)
    (subst (λ rs. SeesRest sh c.args.results sh _ rs) (sym c.stack_of-rest.ensures) (sees_none sh c.args.results c.requires))

pub see_value-requires : goal.see_value-requires
see_value-requires c =
    let left : SeesRest (memo_cells_of c.args.store.now) c.args.results (memo_cells_of c.loop-stored.store) c.loop-stored.seen (c.in-Some.stored ∷ c.pop.new.self) = subst (SeesRest (memo_cells_of c.args.store.now) c.args.results (memo_cells_of c.loop-stored.store) c.loop-stored.seen) c.in-Some.ensures c.loop-stored.invariant in
    subst ValueFits (sym c.value_of-value.ensures) left.fits.0

pub loop-stored-preserved : goal.loop-stored-preserved
loop-stored-preserved c =
    let old = memo_cells_of c.args.store.now in
    let sh = memo_cells_of c.loop-stored.store in
    let new = memo_cells_of c.see_value.new.store in
    let stored = c.in-Some.stored in
    let named : SeesFirst sh c.loop-stored.seen (record { kind = c.kind_of.result; name = stored.name }) (value_in stored.value) new c.see_value.new.seen =
    subst (λ v. SeesFirst sh c.loop-stored.seen (record { kind = c.kind_of.result; name = stored.name }) v new c.see_value.new.seen) c.value_of-value.ensures c.in_ok-see_value.ensures in
    sees_more old c.args.results sh new c.loop-stored.seen c.see_value.new.seen c.in-Some.stored c.pop.new.self
    (subst (SeesRest old c.args.results sh c.loop-stored.seen) c.in-Some.ensures c.loop-stored.invariant)
    (subst (λ k. SeesFirst sh c.loop-stored.seen (record { kind = k; name = stored.name }) (value_in stored.value) new c.see_value.new.seen) c.kind_of.ensures named)

pub returns : goal.returns
returns c =
    let old = memo_cells_of c.args.store.now in
    let sh = memo_cells_of c.loop-stored.store in
    sees_all old c.args.results sh c.loop-stored.seen (subst (SeesRest old c.args.results sh c.loop-stored.seen) c.in_default.ensures.0 c.loop-stored.invariant)
