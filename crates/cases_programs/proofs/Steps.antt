-- What the analyses give is what calls take.
use Rattle.std.proofs.Common.{◌≡◌, ℕ, ◌<◌, List, All, length, get_or, sym, subst}
use Rattle.std.proofs.lemmas.List.Elements.{All-get_or}
use Rattle.module_phases.specs.declared.in_phases.ModuleIns.{ModuleIns}
use Rattle.module_phases.specs.InViews.{ModuleFits}

pub module-fits : (as' : List ModuleIns) (i : ℕ) (a : ModuleIns) → i < length as' → a ≡ get_or as' i a → All ModuleFits as' → ModuleFits a
module-fits as' i a l g h = subst ModuleFits (sym g) (All-get_or ModuleFits as' i a l h)

pub ruleset modules = (module-fits)
