use Rattle.std.proofs.Common.{◌≡◌, drop}
use Rattle.f77_ast.specs.Symbols.{number_from}
use Rattle.storage_layout.proofs.blocks.block_number.Given as goal

abbrev pub invariant-loop-place : goal.invariant-loop-place
invariant-loop-place l = number_from l.place (drop l.place l.names) l.name ≡ number_from 0 l.names l.name
