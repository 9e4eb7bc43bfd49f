use Rattle.storage_data.proofs.SpanLaws.{joins_keep_compact}
use Rattle.storage_data.proofs.group_laws.joins_keep_compact.Goals as goal

pub returns : goal.returns
returns c = joins_keep_compact
