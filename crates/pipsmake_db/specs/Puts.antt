-- Modules that are put: cited by private functions alone.
use Rattle.std.specs.Prelude.{◌≡◌, ℕ, List, []}
use Rattle.session_texts.specs.pipsmake_meaning.Texts.{ModuleText, names_in}
use Rattle.session_texts.specs.Changes.{replaced}
use Rattle.pipsmake_db.specs.declared.db.Db.{Db}
use Rattle.pipsmake_db.specs.Calls.{RestsAtSame}
use Rattle.pipsmake_db.specs.State.{State, after_source, after_all, texts_of, IsIn}

-- in the place of those of their names, or at the end
pub record Puts (old new : Db) (found : List ModuleText) (names : List (List ℕ)) : Type 0 where
  pub named : names ≡ names_in found
  pub texts : texts_of new ≡ replaced (texts_of old) found
  pub fresh : new.fresh ≡ []
  pub leads : (s : State) → IsIn old s → IsIn new (after_source s found)
  pub rests : RestsAtSame old new

-- and no others stay
pub record PutsOnly (old new : Db) (found : List ModuleText) (names : List (List ℕ)) : Type 0 where
  pub named : names ≡ names_in found
  pub texts : texts_of new ≡ found
  pub fresh : new.fresh ≡ []
  pub leads : (s : State) → IsIn old s → IsIn new (after_all s found)
  pub rests : RestsAtSame old new
