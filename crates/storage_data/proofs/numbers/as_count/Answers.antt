use Rattle.std.proofs.Common.{◌≡◌, sym, pos, ◌≤ℤ◌, arith, w64, to_z, of_z}
use Rattle.std.proofs.lemmas.Int.{ints}
use Rattle.f77_ast.proofs.UnitsLaws.{as_count-none, as_count-is}
use Rattle.storage_data.proofs.numbers.as_count.Goals as goal

pub returns-then-n-lt0 : goal.returns-then-n-lt0
returns-then-n-lt0 c = sym (as_count-none c.args.n (omega (arith, ints)))

pub returns-else-n-lt0 : goal.returns-else-n-lt0
returns-else-n-lt0 c =
    let same : to_z w64 (of_z w64 c.args.n) ≡ c.args.n = omega (arith, ints) in
    let least : pos 0 ≤ℤ c.args.n = omega (arith, ints) in
    as_count-is c.unsigned_abs.result (to_z w64 (of_z w64 c.args.n)) c.args.n c.unsigned_abs.ensures.value same least
