use Rattle.std.proofs.Common.{◌≡◌, subst}
use Rattle.pipsmake_db.specs.pipsmake_meaning.Definitions.{definition}
use Rattle.pipsmake_db.specs.pipsmake_meaning.MemoCells.{kept_of}
use Rattle.pipsmake_db.specs.result_store.Values.{value_tree}
use Rattle.pipsmake_db.specs.State.{texts_of, memo_cells_in}
use Rattle.pipsmake_base.specs.Made.{IsMade}
use Rattle.pipsmake_base.proofs.MadeLaws.{ok_any, some_as}
use Rattle.pipsmake_base.proofs.need.value_over.Goals as goal

pub returns-then-is_made-clause-value : goal.returns-then-is_made-clause-value
returns-then-is_made-clause-value c =
    let now = c.args.plain.now in
    let is : kept_of (memo_cells_in c.made.new.db) c.args.key.now.kind c.args.key.now.name ≡ definition (texts_of now) c.args.key.now.kind c.args.key.now.name = subst (IsMade now c.made.new.db c.args.key.now.kind c.args.key.now.name) c.if-is_made.true c.in_ok-is_made.ensures.is in
    some_as value_tree (kept_of (memo_cells_in c.made.new.db) c.args.key.now.kind c.args.key.now.name) (definition (texts_of now) c.args.key.now.kind c.args.key.now.name) c.copied_kept.result is c.copied_kept.ensures.value

pub returns-then-is_made-clause-texts : goal.returns-then-is_made-clause-texts
returns-then-is_made-clause-texts c = ok_any c.copied_kept.result c.in_ok-is_made.ensures.texts

pub returns-then-is_made-clause-in_some : goal.returns-then-is_made-clause-in_some
returns-then-is_made-clause-in_some c = ok_any c.copied_kept.result c.in_ok-is_made.ensures.in_some
