use Rattle.laws_lines.proofs.Marks.ClaimsBack.{claims_read_back}
use Rattle.laws_lines.proofs.mark_laws.claims_read_back.Goals as goal

pub returns : goal.returns
returns c = claims_read_back
