use Rattle.std.proofs.Common.{sym, ◌∙◌, arith}
use Rattle.base_takes.proofs.ShortNames.{block_name}
use Rattle.base_takes.proofs.check_names.is_short_name.Goals as goal

pub returns : goal.returns
returns c = λ e. block_name c.args.text.now (omega arith) (sym c.is_block.ensures ∙ e)
