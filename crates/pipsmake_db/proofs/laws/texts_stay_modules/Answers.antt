use Rattle.pipsmake_db.proofs.Staying.{all_keep}
use Rattle.pipsmake_db.proofs.laws.texts_stay_modules.Goals as goal

pub returns : goal.returns
returns c = all_keep c.pieces_are_modules.ensures c.tables_ignore_places.ensures c.changes_keep_modules.ensures.replaced c.changes_keep_modules.ensures.without
