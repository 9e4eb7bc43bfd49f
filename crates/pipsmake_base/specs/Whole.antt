-- When a base is whole, so that a session which goes on from it shows its results, whatever they are.
use Rattle.std.specs.Prelude.{◌≡◌, ℕ, true, List, [], ◌∷◌, Some, None, if◌then◌else◌}
use Rattle.pipsmake_db.specs.pipsmake_rules.declared.kind.Kind.{Kind}
use Rattle.pipsmake_db.specs.pipsmake_rules.Keys.{same_key, holds}
use Rattle.pipsmake_db.specs.pipsmake_rules.Neighbours.{has_name}
use Rattle.base_text.specs.declared.base.StoredResult.{StoredResult}
use Rattle.base_text.specs.declared.base.Base.{Base}
use Rattle.pipsmake_db.specs.pipsmake_meaning.Texts.{names_in}
use Rattle.pipsmake_db.specs.laws_database.Stands.{Valuation}
use Rattle.pipsmake_db.specs.laws_database.Laws.{AreLinked}
use Rattle.pipsmake_db.specs.laws_database.Unverified.{IsStored}
use Rattle.pipsmake_db.specs.Calls.{key}
use Rattle.pipsmake_base.specs.Saved.{texts_in, key_at, keys_in, value_in}

-- what is stored of a kind and a module
abbrev pub value_among : List StoredResult → Valuation
value_among [] kind x = None
value_among (r ∷ rs) kind x = if same_key (key_at r) (key kind x) then Some (value_in r.value) else value_among rs kind x

-- what a base holds of a kind and a module
abbrev pub values_in : Base → Valuation
values_in b = value_among b.results

-- a base is whole: its texts link, and it holds a result of each stored kind and module, whether or not that is what is defined for its texts
pub record IsCompleteBase (b : Base) : Type 0 where
  pub linked : AreLinked (texts_in b)
  pub all : (kind : Kind) (x : List ℕ) → IsStored kind → has_name (names_in (texts_in b)) x ≡ true → holds (keys_in b) (key kind x) ≡ true
