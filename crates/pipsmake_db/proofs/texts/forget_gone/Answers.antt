use Rattle.result_store.specs.Rows.{memo_cells_of}
use Rattle.pipsmake_db.proofs.TextLaws.{name_gone, name_stays}
use Rattle.pipsmake_db.proofs.texts.forget_gone.Goals as goal

pub returns-in-None : goal.returns-in-None
returns-in-None c = name_gone (memo_cells_of c.args.store.now) (memo_cells_of c.forget.new.self) c.args.sources.now c.args.name.now c.in-None.ensures c.forget.ensures

pub returns-in-Some : goal.returns-in-Some
returns-in-Some c = name_stays (memo_cells_of c.args.store.now) c.args.sources.now c.args.name.now c.in-Some.field-0 c.in-Some.ensures
