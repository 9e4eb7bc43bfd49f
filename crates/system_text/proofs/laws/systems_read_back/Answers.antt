use Rattle.system_text.proofs.SystemBack.{systems_read_back}
use Rattle.system_text.proofs.laws.systems_read_back.Goals as goal

pub returns : goal.returns
returns c = systems_read_back
