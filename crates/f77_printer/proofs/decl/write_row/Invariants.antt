use Rattle.std.proofs.Common.{◌≡◌, ◌++◌, drop, if◌then◌else◌}
use Rattle.f77_printer.specs.DeclText.{joined_by, others_by}
use Rattle.f77_printer.proofs.decl.write_row.Given as goal

abbrev pub invariant-loop-part : goal.invariant-loop-part
invariant-loop-part g l =
    let rest = drop l.part-index l.parts in
    l.out ++ (if l.is_first then joined_by g.T.Written.text rest else others_by g.T.Written.text rest) ≡ l.initial.out ++ joined_by g.T.Written.text l.parts
