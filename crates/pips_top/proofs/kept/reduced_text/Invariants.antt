use Rattle.std.proofs.Common.{◌≡◌, ◌++◌, length, Some}
use Rattle.std.specs.Option.{option_map}
use Rattle.pipsmake_base.specs.pipsmake_db.State.{texts_of}
use Rattle.pipsmake_base.specs.pipsmake_meaning.Texts.{names_in}
use Rattle.pips_top.specs.Kept.{modules_kept}
use Rattle.pips_top.proofs.kept.reduced_text.Given as goal

abbrev pub invariant-loop-rest : goal.invariant-loop-rest
invariant-loop-rest l = option_map (λ text. l.out ++ text) (modules_kept l.wanted l.db l.rest) ≡ modules_kept l.wanted l.db (names_in (texts_of l.db))

abbrev pub decreases-loop-rest : goal.decreases-loop-rest
decreases-loop-rest l = length l.rest
