use Rattle.std.proofs.Common.{◌≡◌, ◌++◌, drop, map}
use Rattle.f77_ast.specs.PlainDecl.{parsed_tree}
use Rattle.pipsmake_base.specs.loop_marker.Views.{results_tree}
use Rattle.laws_programs.specs.roundtrip_programs.Texts.Texts.{modules_text}
use Rattle.laws_programs.specs.roundtrip_programs.Written.Laws.{by_tree}
use Rattle.pips_top.specs.Shown.{lines_found}
use Rattle.pips_top.proofs.written.modules_text.Given as goal

abbrev pub invariant-loop-parsed : goal.invariant-loop-parsed
invariant-loop-parsed l =
    l.out ++ modules_text (by_tree (lines_found l.wanted l.graph (map results_tree l.all))) (map parsed_tree (drop l.parsed-index l.modules))
    ≡ modules_text (by_tree (lines_found l.wanted l.graph (map results_tree l.all))) (map parsed_tree l.modules)
