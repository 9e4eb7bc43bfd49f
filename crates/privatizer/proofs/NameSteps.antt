-- Names one after another.
use Rattle.std.proofs.lemmas.List.Folds.{list_any-append}

pub ruleset name_loops = (list_any-append)
