use Rattle.transformer_algebra.proofs.KeepLaws.{rename_all_holds}
use Rattle.transformer_algebra.proofs.renaming_laws.renaming_keeps_points.Goals as goal

pub returns : goal.returns
returns c = rename_all_holds
