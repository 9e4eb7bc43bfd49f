use Rattle.laws_database.proofs.ResultInLaws.{same_ins}
use Rattle.laws_database.proofs.result_needs.ins_need_callees.Goals as goal

pub returns : goal.returns
returns c = same_ins
