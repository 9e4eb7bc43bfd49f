use Rattle.std.proofs.Common.{◌≡◌, ◌++◌, drop, map, if◌then◌else◌}
use Rattle.f77_ast.specs.PlainDecl.{common_tree}
use Rattle.f77_printer.specs.DeclText.{commons_text, other_commons_text}
use Rattle.f77_printer.proofs.decl.write_commons.Given as goal

abbrev pub invariant-loop-part : goal.invariant-loop-part
invariant-loop-part l =
    let rest = map common_tree (drop l.part-index l.part-items) in
    l.out ++ (if l.is_first then commons_text rest else other_commons_text rest) ≡ l.initial.out ++ commons_text (map common_tree l.part-items)
