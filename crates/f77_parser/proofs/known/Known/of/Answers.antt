use Rattle.std.proofs.Common.{refl}
use Rattle.f77_parser.proofs.known.Known.of.Goals as goal

pub returns : goal.returns
returns c e = rw (e, c.in_ok-integers.ensures, c.in_ok-logicals.ensures, c.in_ok-kinds.ensures, c.in_ok-whiles.ensures) refl
