use Rattle.std.proofs.Common.{◌≡◌, ℤ, pos, ◌+ℤ◌, ◌-ℤ◌, ◌≤ℤ◌, arith, w64, to_z}
use mir.Val.{of_z}
use Rattle.std.proofs.lemmas.Int.{ints}
use Rattle.f77_ast.proofs.UnitsLaws.{as_count-is}
use Rattle.f77_ast.proofs.units.count_between.Goals as goal

abbrev held : ℤ → ℤ
held n = to_z w64 (of_z w64 n)

pub returns-else-units-lt0 : goal.returns-else-units-lt0
returns-else-units-lt0 c =
    let z : ℤ = (c.args.high -ℤ c.args.low) +ℤ pos 1 in
    let y : ℤ = held (held (held c.from.result -ℤ held c.from-2.result) +ℤ pos 1) in
    let same : y ≡ z = omega (arith, ints) in
    let least : pos 0 ≤ℤ z = omega (arith, ints) in
    as_count-is c.unsigned_abs.result y z c.unsigned_abs.ensures.value same least
