use Rattle.std.proofs.Common.{◌≡◌, ◌<◌, true, length, arith}
use Rattle.std.specs.Prelude.{bytes_eq}
use Rattle.std.proofs.lemmas.Grind.{common_steps}
use Rattle.base_text.proofs.ModuleLaws.{table_back}
use Rattle.base_text.proofs.modules.table_in.Goals as goal

pub returns : goal.returns
returns c =
    let same : bytes_eq c.args.parsed.now.module.name c.args.name.now ≡ true = grind (arith, common_steps) in
    let few : length c.in-Ok.symbols < 4294967296 = omega arith in
    table_back c.args.name.now c.args.parsed.now c.in-Ok.symbols c.in_ok-numbers.numbers c.in-Ok.ensures same few c.in_ok-numbers.ensures.statements c.in_ok-numbers.ensures.loops
