use Rattle.std.proofs.Common.{◌≡◌, true}
use Rattle.base_json.specs.Read.{terms_ascend}
use Rattle.base_takes.proofs.check_rows.RowCheckScope.check.Goals as goal

pub returns : goal.returns
returns c =
    let named : c.in_ok-named.named ≡ true = cc in
    λ e. let ascend : terms_ascend c.args.self.now.terms ≡ true = cc in (c.in_ok-named.ensures named, ascend)
