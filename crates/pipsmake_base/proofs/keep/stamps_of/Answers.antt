use Rattle.std.proofs.Common.{◌≡◌, map, sym, ◌∙◌, subst}
use Rattle.pipsmake_db.specs.pipsmake_rules.Needs.{needs_of}
use Rattle.pipsmake_db.specs.pipsmake_meaning.Session.{needs_in}
use Rattle.pipsmake_db.specs.result_store.Rows.{memo_cells_of}
use Rattle.pipsmake_db.specs.result_store.Values.{stamped_tree}
use Rattle.pipsmake_base.specs.Taken.{SeesNeeds}
use Rattle.pipsmake_base.proofs.Taking.{stamps_from, stamps_unlinked, not_linked}
use Rattle.pipsmake_base.proofs.keep.stamps_of.Goals as goal
use Rattle.fx_lists.proofs.Options.{if_ok as if_ok_to}

pub returns-then-not-modules-clause-ok : goal.returns-then-not-modules-clause-ok
returns-then-not-modules-clause-ok c =
    let ts = c.args.modules.now.sources.now in
    stamps_unlinked ts (memo_cells_of c.args.store.now) c.args.seen.now c.args.key.now (map stamped_tree c.new.result) (not_linked ts (sym c.requires.graphed.linked ∙ c.if-not-modules.true))

pub returns-clause-ok : goal.returns-clause-ok
returns-clause-ok c =
    let m = c.args.modules.now in
    let ts = m.sources.now in
    let key = c.args.key.now in
    let are : c.as_slice.result.now ≡ needs_in ts key =
    c.as_slice.ensures ∙ c.in_ok-needs.ensures ∙ (λ i. needs_of (c.names-names.ensures.names i) (c.requires.graphed.graph i) key) in
    if_ok_to c.see_needs.result
    (λ ss s. stamps_from ts (memo_cells_of c.args.store.now) c.args.seen.now key (memo_cells_of c.see_needs.new.store) c.see_needs.new.seen (map stamped_tree ss)
    (subst (λ ns. SeesNeeds ts (memo_cells_of c.args.store.now) c.args.seen.now ns (memo_cells_of c.see_needs.new.store) c.see_needs.new.seen (map stamped_tree ss)) are s)) c.see_needs.ensures.ok
