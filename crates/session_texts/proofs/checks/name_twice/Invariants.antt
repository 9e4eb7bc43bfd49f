use Rattle.std.proofs.Common.{◌≡◌, ◌+◌, ◌≤◌, length, map}
use Rattle.std.specs.Prelude.{option_map}
use Rattle.f77_ast.specs.PlainDecl.{parsed_tree}
use Rattle.call_graph.specs.Modules.{most_modules, twice_from}
use Rattle.session_texts.specs.Sources.{refusal_for}
use Rattle.session_texts.proofs.checks.name_twice.Given as goal

abbrev pub invariant-loop-rest : goal.invariant-loop-rest
invariant-loop-rest l = record {
  same : option_map refusal_for (twice_from l.place l.names (map parsed_tree l.rest)) ≡ option_map refusal_for (twice_from 0 l.names (map parsed_tree l.fn.modules));
  room : l.place + length l.rest ≤ most_modules;
}

abbrev pub decreases-loop-rest : goal.decreases-loop-rest
decreases-loop-rest l = length l.rest
