-- Lists of results, and what holds of each.
use Rattle.std.proofs.Common.{◌≡◌, Bool, true, false, ◌||◌, List, [], ◌∷◌, refl, ap, subst}
use Rattle.std.proofs.lemmas.Bool.{or_left, or_right}
use Rattle.call_graph.specs.CallsIn.{Each}
use Rattle.pipsmake_db.specs.pipsmake_rules.declared.key.Key.{Key}
use Rattle.pipsmake_db.specs.pipsmake_rules.Keys.{same_key, holds}
use Rattle.pipsmake_db.proofs.PipsmakeRules.KeyLaws.{same_key-true, same_key_self}
use Rattle.pipsmake_db.proofs.LawsDatabase.Keeping.{holds_other, held}
use Rattle.fx_lists.proofs.Booleans.{no_both as clash}
use Rattle.call_graph.proofs.EachLaws.{each_more}

-- ---- results

pub holds_first : (k : Key) (ks : List Key) → holds (k ∷ ks) k ≡ true
holds_first k ks = or_left (same_key k k) (holds ks k) (same_key_self k)

pub holds_later : (j k : Key) (ks : List Key) → holds ks k ≡ true → holds (j ∷ ks) k ≡ true
holds_later j k ks e = or_right (same_key j k) (holds ks k) e

-- each result of a list is in it
pub all_held : (ks : List Key) → Each (λ k. holds ks k ≡ true) ks
all_held [] = tt
all_held (k ∷ ks) = (holds_first k ks, each_more (λ j. holds ks j ≡ true) (λ j. holds (k ∷ ks) j ≡ true) ks (λ j e. holds_later k j ks e) (all_held ks))
