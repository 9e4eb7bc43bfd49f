use Rattle.pips_top.proofs.MarkedBack.{marked_from}
use Rattle.pips_top.proofs.laws.written_reads_marked.Goals as goal

pub returns : goal.returns
returns c = marked_from c.marks_read_back.ensures c.analyses_are_whole.ensures c.names_are_words.ensures c.lines_are_passed_over.ensures c.all_region_lines_pass.ensures c.all_in_lines_pass.ensures c.all_out_lines_pass.ensures c.loop_lines_are_passed_over.ensures c.check_lines_pass.ensures c.names_are_shown.ensures c.blocks_have_a_chain.ensures c.written_reads_back.ensures
