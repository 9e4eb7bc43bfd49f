use Rattle.pipsmake_db.proofs.Printing.{each_print}
use Rattle.pipsmake_db.proofs.laws.each_print_is_the_program.Goals as goal

pub returns : goal.returns
returns c = each_print c.texts_stay_modules.ensures c.texts_make_the_program.ensures c.texts_are_written_alike.ensures c.names_show_the_text.ensures
