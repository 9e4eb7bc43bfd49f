use Rattle.std.proofs.Common.{◌≡◌, subst}
use Rattle.pipsmake_db.specs.base_values.Sizes.{kind_of}
use Rattle.pipsmake_db.specs.pipsmake_meaning.Definitions.{definition}
use Rattle.pipsmake_db.specs.pipsmake_meaning.MemoCells.{kept_of}
use Rattle.pipsmake_db.specs.State.{texts_of, memo_cells_in}
use Rattle.pipsmake_base.specs.Made.{IsMade}
use Rattle.pipsmake_base.proofs.MadeLaws.{ok_any}
use Rattle.pipsmake_base.proofs.StaleLaws.{stale_from, made_or_stale}
use Rattle.pipsmake_base.proofs.staleness.is_stale.Goals as goal

pub returns-then-is_made-clause-is : goal.returns-then-is_made-clause-is
returns-then-is_made-clause-is c =
    let now = c.args.plain.now in
    let new = c.made.new.db in
    let r = c.args.stored.now in
    let made : kept_of (memo_cells_in new) c.kind_of-kind.result r.name ≡ definition (texts_of now) c.kind_of-kind.result r.name = subst (IsMade now new c.kind_of-kind.result r.name) c.if-is_made.true c.in_ok-is_made.ensures.is in
    let same : kept_of (memo_cells_in new) (kind_of r.value) r.name ≡ definition (texts_of now) (kind_of r.value) r.name = subst (λ k. kept_of (memo_cells_in new) k r.name ≡ definition (texts_of now) k r.name) c.kind_of-kind.ensures made in
    stale_from (memo_cells_in new) (texts_of now) r c.is_other.result same c.is_other.ensures

pub returns-then-is_made-clause-texts : goal.returns-then-is_made-clause-texts
returns-then-is_made-clause-texts c = ok_any c.is_other.result c.in_ok-is_made.ensures.texts

pub returns-then-is_made-clause-in_some : goal.returns-then-is_made-clause-in_some
returns-then-is_made-clause-in_some c = ok_any c.is_other.result c.in_ok-is_made.ensures.in_some

pub returns-else-is_made-clause-is : goal.returns-else-is_made-clause-is
returns-else-is_made-clause-is c =
    let now = c.args.plain.now in
    let new = c.made.new.db in
    let r = c.args.stored.now in
    made_or_stale now new c.requires r c.in_ok-is_made.is_made c.if-is_made.false (subst (λ k. IsMade now new k r.name c.in_ok-is_made.is_made) c.kind_of-kind.ensures c.in_ok-is_made.ensures.is)
