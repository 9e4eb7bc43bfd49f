use Rattle.std.proofs.Common.{◌≡◌, true}
use Rattle.std.proofs.lemmas.Result.{IfOk-weaker}
use Rattle.base_json.specs.Scopes.{scope_tree}
use Rattle.base_json.specs.Read.{rows_fit, is_small_system}
use Rattle.base_values.specs.Naming.{Each, SystemFits}
use Rattle.base_takes.proofs.RowsFit.{RowChecked, system_fits}
use Rattle.base_takes.proofs.check_rows.system_fits.Goals as goal

pub returns : goal.returns
returns c =
    let s = scope_tree c.args.scope.now in
    let y = c.args.system.now in
    let fit : rows_fit y.rows ≡ true = cc in
    let small : is_small_system y ≡ true = cc in
    IfOk-weaker c.check_list.result (λ b. b ≡ true → Each (RowChecked s) y.rows) (λ b. b ≡ true → SystemFits s y) (λ b f e. system_fits s y fit small (f e)) c.check_list.ensures
