-- Results that are brought up to date: cited by private functions alone.
use Rattle.std.specs.Prelude.{◌≡◌, List, ◌++◌}
use Rattle.session_texts.specs.pipsmake_rules.declared.key.Key.{Key}
use Rattle.session_texts.specs.pipsmake_meaning.Texts.{ModuleText}
use Rattle.session_texts.specs.pipsmake_meaning.MemoCells.{MemoCells}
use Rattle.session_texts.specs.pipsmake_meaning.Making.{Brings, BringsAll}
use Rattle.laws_database.specs.Laws.{walk_in}
use Rattle.pipsmake_db.specs.declared.db.Db.{Db}
use Rattle.pipsmake_db.specs.declared.make.Walk.{Walk}
use Rattle.pipsmake_db.specs.declared.make.Brought as code
use Rattle.pipsmake_db.specs.Fresh.{keys_put}
use Rattle.pipsmake_db.specs.State.{texts_of, memo_cells_in}

-- one result, which is added to those that were made where it was made
abbrev pub BringsOne : MemoCells → List ModuleText → Key → List Key → List Key → MemoCells → Type 0
BringsOne sh ts k made more new = (now : List Key) × Brings sh ts k now new × (more ≡ made ++ now)

-- the first of these results
pub record BringsSome (sh : MemoCells) (ts : List ModuleText) (walk : List Key) (new : MemoCells) : Type 0 where
  pub before : List Key
  pub after : List Key
  pub now : List Key
  pub are : walk ≡ before ++ after
  pub brings : BringsAll sh ts before now new

-- ---- databases

-- the walk of a result, and what is fresh when it is up to date
pub record IsWalk (ts : List ModuleText) (before : List Key) (k : Key) (w : Walk) : Type 0 where
  pub keys : w.keys ≡ walk_in ts k
  pub fresh : w.fresh ≡ keys_put before (walk_in ts k)

-- a result was brought up to date, with all that it needs
pub record Brought (old : Db) (k : Key) (new : Db) (b : code.Brought) : Type 0 where
  pub brings : BringsAll (memo_cells_in old) (texts_of old) (walk_in (texts_of old) k) b.made (memo_cells_in new)
  pub fresh : b.fresh ≡ keys_put old.fresh (walk_in (texts_of old) k)
