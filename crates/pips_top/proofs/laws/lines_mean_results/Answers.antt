use Rattle.pips_top.proofs.LinesMeant.{lines_from}
use Rattle.pips_top.proofs.laws.lines_mean_results.Goals as goal

pub returns : goal.returns
returns c = lines_from c.analyses_are_whole.ensures c.analyses_are_read_back.ensures c.names_are_words.ensures c.blocks_have_a_chain.ensures c.region_lines_mean_regions.ensures c.in_lines_mean_regions.ensures c.out_lines_mean_regions.ensures c.directives_read_back.ensures c.reductions_read_back.ensures c.obstacles_are_no_directives.ensures
