use Rattle.pips_top.proofs.Sessions.{answered_from}
use Rattle.pips_top.proofs.laws.answered_is_sound.Goals as goal

pub returns : goal.returns
returns c = answered_from c.each_print_is_the_program.ensures c.written_is_sound.ensures
