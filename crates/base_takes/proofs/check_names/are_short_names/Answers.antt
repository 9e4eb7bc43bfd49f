use Rattle.std.proofs.Common.{◌≡◌, true}
use Rattle.base_json.specs.Scopes.{is_short_name}
use Rattle.base_takes.proofs.check_names.are_short_names.Goals as goal
use Rattle.fx_lists.proofs.Booleans.{and_from}

pub returns : goal.returns
returns c =
    let first : c.is_short_name-first.result ≡ true = cc in
    λ e. and_from (is_short_name c.args.«module».now) (is_short_name c.args.local.now) (c.is_short_name-first.ensures first) (c.is_short_name.ensures e)
