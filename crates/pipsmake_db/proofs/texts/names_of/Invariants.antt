use Rattle.std.proofs.Common.{◌≡◌, ◌++◌, length, map}
use Rattle.session_texts.specs.pipsmake_meaning.Texts.{names_in}
use Rattle.session_texts.specs.Modules.{source_text}
use Rattle.pipsmake_db.proofs.texts.names_of.Given as goal

abbrev pub invariant-loop-rest : goal.invariant-loop-rest
invariant-loop-rest l = l.names ++ names_in (map source_text l.rest) ≡ names_in (map source_text l.fn.found)

abbrev pub decreases-loop-rest : goal.decreases-loop-rest
decreases-loop-rest l = length l.rest
