use Rattle.std.proofs.Common.{◌≡◌, true}
use Rattle.std.proofs.lemmas.Result.{IfOk-weaker}
use Rattle.base_values.specs.Naming.{Each}
use Rattle.base_text.specs.Modules.{known_names}
use Rattle.base_text.specs.Order.{are_in_order}
use Rattle.base_text.specs.Read.{base}
use Rattle.base_text.specs.Grammar.{ResultFits, IsBase}
use Rattle.base_text.proofs.TakenBase.{in_grammar}
use Rattle.base_text.proofs.taken.is_in_grammar.Goals as goal

pub returns : goal.returns
returns c =
    let k = known_names c.args.known.now in
    let ms = c.args.modules.now in
    let rs = c.args.results.now in
    let ordered : are_in_order k.names rs ≡ true = cc in
    IfOk-weaker c.check_list.result (λ b. b ≡ true → Each (ResultFits k) rs) (λ b. b ≡ true → IsBase (base ms rs)) (λ b f e. in_grammar ms rs k c.requires c.have_bytes.ensures ordered (f e)) c.check_list.ensures
