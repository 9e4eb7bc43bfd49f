use Rattle.std.proofs.Common.{◌≡◌, true, refl}
use Rattle.std.specs.Prelude.{bytes_eq}
use Rattle.std.specs.Cmp.Lexicographic.{bytes_decides}
use Rattle.std.proofs.Common.{arith}
use Rattle.std.proofs.lemmas.Grind.{common_steps}
use Rattle.pipsmake_base.proofs.Sources.{is_source}
use Rattle.pipsmake_base.proofs.source.source_of.Goals as goal

pub returns : goal.returns
returns c =
    let same : bytes_eq c.in_ok-parsed.parsed.module.name c.args.held.now.name ≡ true = grind (arith, common_steps) in
    is_source c.args.held.now c.in_ok-parsed.parsed c.in-Ok.symbols
    (record { text = record { name = c.in_ok-name.name; text = c.in_ok-text.text; first = 1 }; parsed = c.in_ok-parsed.parsed; symbols = c.in-Ok.symbols }) refl refl c.in_ok-text.ensures.cases c.in_ok-name.ensures.cases refl
    c.in_ok-parsed.ensures c.in-Ok.ensures ((bytes_decides c.in_ok-parsed.parsed.module.name c.args.held.now.name).0 same)
