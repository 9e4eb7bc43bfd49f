use Rattle.std.proofs.Common.{ℕ, ◌<◌, get_or, subst, rules}
use Rattle.pipsmake_db.specs.base_values.Naming.{AreBytes}
use Rattle.pipsmake_base.proofs.ModuleLaws.{all_bytes}
use Rattle.pipsmake_base.proofs.modules.copied.Goals as goal

pub returns-clause-bytes : goal.returns-clause-bytes
returns-clause-bytes c =
    let are : (k : ℕ) → get_or c.as_slice-bytes.result.now k 0 < 256 = λ k. search rules in
    subst AreBytes c.as_slice-bytes.ensures (all_bytes c.as_slice-bytes.result.now are)
