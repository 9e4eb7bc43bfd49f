-- Results that are made for what they are defined to be: cited by private functions alone.
use Rattle.std.specs.Prelude.{◌≡◌, ℕ, Bool, true, false, List, Some}
use Rattle.pipsmake_db.specs.pipsmake_rules.declared.kind.Kind.{Kind}
use Rattle.pipsmake_db.specs.pipsmake_rules.Kinds.{name_of}
use Rattle.pipsmake_db.specs.pipsmake_meaning.Definitions.{definition}
use Rattle.pipsmake_db.specs.pipsmake_meaning.MemoCells.{kept_of}
use Rattle.pipsmake_db.specs.declared.db.Db.{Db}
use Rattle.pipsmake_db.specs.declared.refusal.DbRefusal.{DbRefusal}
use Rattle.pipsmake_db.specs.declared.refusal.DbRefusal.TheVariants.{NoSuchKind, NoSuchName, NotShown, Source, Link, Memory}
use Rattle.pipsmake_db.specs.Refusals.{make_refusal}
use Rattle.pipsmake_db.specs.State.{texts_of, memo_cells_in}

-- it is no want of memory
abbrev pub IsCause : DbRefusal → Type 0
IsCause NoSuchKind = Unit {0}
IsCause NoSuchName = Unit {0}
IsCause NotShown = Unit {0}
IsCause (Source line code keyword) = Unit {0}
IsCause (Link x line first code) = Unit {0}
IsCause Memory = ⊥

-- a refusal that is no want of memory tells that nothing was made
abbrev pub IsTold : DbRefusal → Bool → Type 0
IsTold r b = (b ≡ false) × IsCause r

-- a result cannot be made of these texts
pub record IsRefusedAt (d : Db) (k : Kind) (x : List ℕ) : Type 0 where
  pub why : DbRefusal
  pub is : make_refusal (texts_of d) (name_of k) x ≡ Some why

-- it is kept as it is defined, or cannot be made
abbrev pub IsMade : Db → Db → Kind → List ℕ → Bool → Type 0
IsMade old new k x true = kept_of (memo_cells_in new) k x ≡ definition (texts_of old) k x
IsMade old new k x false = IsRefusedAt old k x
