use Rattle.std.proofs.Common.{◌≡◌, ◌++◌, drop, map, if◌then◌else◌}
use Rattle.f77_ast.specs.PlainDecl.{data_tree}
use Rattle.f77_printer.specs.DeclText.{data_text, other_groups_text}
use Rattle.f77_printer.proofs.decl.write_data.Given as goal

abbrev pub invariant-loop-group : goal.invariant-loop-group
invariant-loop-group l =
    let rest = map data_tree (drop l.group-index l.group-items) in
    l.out ++ (if l.is_first then data_text rest else other_groups_text rest) ≡ l.initial.out ++ data_text (map data_tree l.group-items)
