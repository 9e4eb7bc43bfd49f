use Rattle.std.proofs.Common.{◌≡◌, ◌++◌, length, map}
use Rattle.pipsmake_meaning.specs.Texts.{names_in}
use Rattle.session_texts.specs.Modules.{source_text}
use Rattle.session_texts.specs.Places.{places_from, names_after}
use Rattle.session_texts.proofs.sources.places_from.Given as goal

abbrev pub invariant-loop-rest : goal.invariant-loop-rest
invariant-loop-rest l = record {
  places : l.places ++ places_from l.names (names_in (map source_text l.rest)) ≡ places_from l.fn.names (names_in (map source_text l.sources));
  names : names_after l.names (names_in (map source_text l.rest)) ≡ names_after l.fn.names (names_in (map source_text l.sources));
}

abbrev pub decreases-loop-rest : goal.decreases-loop-rest
decreases-loop-rest l = length l.rest
