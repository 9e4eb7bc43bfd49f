use Rattle.laws_database.specs.Laws.{walk_in}
use Rattle.pipsmake_db.specs.Calls.{key}
use Rattle.pipsmake_db.specs.State.{texts_of, memo_cells_in}
use Rattle.pipsmake_db.proofs.BringLaws.{brings_whole}
use Rattle.pipsmake_db.proofs.ListLaws.{on_any}
use Rattle.pipsmake_db.proofs.db.Db.ready.Goals as goal

pub returns-in_err-text-clause-err : goal.returns-in_err-text-clause-err
returns-in_err-text-clause-err c =
    let now = c.args.self.now in
    on_any _ (brings_whole (memo_cells_in now) (memo_cells_in c.brought.new.self) (texts_of now) (walk_in (texts_of now) (key c.args.kind c.args.name.now)) c.in_ok-brought.brought.made c.in_ok-brought.ensures.ok.brings)

pub returns-in-None-clause-err : goal.returns-in-None-clause-err
returns-in-None-clause-err c =
    let now = c.args.self.now in
    brings_whole (memo_cells_in now) (memo_cells_in c.brought.new.self) (texts_of now) (walk_in (texts_of now) (key c.args.kind c.args.name.now)) c.in_ok-brought.brought.made c.in_ok-brought.ensures.ok.brings
