-- Names of symbols, as code and as definitions have them.
use Rattle.f77_meaning.proofs.SymbolNames.{names-same as names_same}

pub ruleset name_steps = (names_same)
