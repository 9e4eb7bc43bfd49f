use Rattle.std.proofs.Common.{◌≡◌, ℕ, true, List, Result, Ok, Err, refl, subst}
use Rattle.std.specs.Prelude.{IfOk, map}
use Rattle.clap.specs.Words.{App, app_of, HasMatchesOf, is_simple, found_of, rows_of, matches_of}
use Rattle.clap.specs.declared.parser.matches.ArgMatches.{ArgMatches}
use Rattle.command_words.specs.Command.{pips_app}
use Rattle.command_words.proofs.command.matches_of_words.Goals as goal

simple : is_simple pips_app ≡ true
simple = refl

matches_by : {E : Type 0} (a : App) (words : List (List ℕ)) (r : Result ArgMatches E) → a ≡ pips_app → IfOk r (HasMatchesOf a words) → IfOk r (λ m. rows_of (found_of m) ≡ matches_of pips_app words)
matches_by a words (Ok m) e h = (subst (λ (b : App). HasMatchesOf b words m) e h simple).0
matches_by a words (Err x) e h = tt

pub returns-clause-matches : goal.returns-clause-matches
returns-clause-matches c =
    matches_by (app_of c.in_ok-command.field-0) (map (λ word. word.now) c.args.words.now) c.try_get_matches_from.result c.in_ok-command.ensures c.try_get_matches_from.ensures.matches
