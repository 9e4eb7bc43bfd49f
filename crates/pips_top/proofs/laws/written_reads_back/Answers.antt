use Rattle.pips_top.proofs.ReadBack.{back_from}
use Rattle.pips_top.proofs.laws.written_reads_back.Goals as goal

pub returns : goal.returns
returns c = back_from c.programs_read_back.ensures c.texts_are_written_again.ensures c.lines_are_passed_over.ensures c.all_region_lines_pass.ensures c.all_in_lines_pass.ensures c.all_out_lines_pass.ensures c.loop_lines_are_passed_over.ensures c.check_lines_pass.ensures c.names_are_shown.ensures c.blocks_have_a_chain.ensures
