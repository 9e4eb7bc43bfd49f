use Rattle.std.proofs.Common.{◌≡◌, true, sym}
use Rattle.std.proofs.lemmas.Result.{IfOk-weaker}
use Rattle.base_values.specs.Fits.{StoredFits}
use Rattle.base_text.specs.Modules.{table_names, known_names}
use Rattle.base_text.specs.Grammar.{ResultFits}
use Rattle.base_text.proofs.taken.StoredResultCheckKnown.check.Goals as goal

pub returns-in-Some : goal.returns-in-Some
returns-in-Some c =
    let k = known_names c.args.scope.now in
    let r = c.args.self.now in
    let m = table_names c.in-Some.table.now in
    IfOk-weaker c.value_fits.result (λ b. b ≡ true → StoredFits m r.value) (λ b. b ≡ true → ResultFits k r)
    (λ b f e. record { names = m; of_module = sym c.in-Some.ensures; fits = f e }) c.value_fits.ensures
