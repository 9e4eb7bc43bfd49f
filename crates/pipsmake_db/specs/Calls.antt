-- What each call of a database does.
use Rattle.std.specs.Prelude.{◌≡◌, ℕ, true, List, [], Some, None, Ok}
use Rattle.session_texts.specs.pipsmake_rules.declared.kind.Kind.{Kind}
use Rattle.session_texts.specs.pipsmake_rules.declared.key.Key.{Key}
use Rattle.session_texts.specs.pipsmake_rules.Kinds.{kind_with}
use Rattle.session_texts.specs.pipsmake_rules.Neighbours.{has_name}
use Rattle.result_lines.specs.declared.show.Show.{Show}
use Rattle.call_graph.specs.CallsIn.{Each}
use Rattle.session_texts.specs.pipsmake_meaning.Texts.{ModuleText, names_in, SameTexts}
use Rattle.session_texts.specs.pipsmake_meaning.Session.{MadeOf, made_now}
use Rattle.session_texts.specs.pipsmake_meaning.MemoCells.{kept_of}
use Rattle.laws_database.specs.Stands.{Valuation}
use Rattle.session_texts.specs.pipsmake_meaning.Making.{AllStay}
use Rattle.laws_database.specs.Laws.{walk_in}
use Rattle.laws_database.specs.Unverified.{IsStored, RestsOn, IsWhole, value_with}
use Rattle.session_texts.specs.Changes.{replaced, without}
use Rattle.session_texts.specs.Sources.{source_modules}
use Rattle.pipsmake_db.specs.declared.db.Db.{Db}
use Rattle.pipsmake_db.specs.declared.db.Shown.{Shown}
use Rattle.pipsmake_db.specs.declared.refusal.DbRefusal.{DbRefusal}
use Rattle.pipsmake_db.specs.declared.refusal.DbRefusal.TheVariants.{NoSuchKind, NoSuchName, NotShown, Source, Link, Memory}
use Rattle.pipsmake_db.specs.Fresh.{keys_put}
use Rattle.pipsmake_db.specs.Refusals.{links_refusal, make_refusal, value_refusal}
use Rattle.pipsmake_db.specs.Shown.{text_for, text_from}
use Rattle.pipsmake_db.specs.State.{State, after_source, after_all, after_drop, after_make, texts_of, memo_cells_in, IsIn}

-- ---- what a refusal leaves

-- texts and fresh results stay, and so does all that is kept
pub record Stays (old new : Db) : Type 0 where
  pub texts : texts_of new ≡ texts_of old
  pub kept : AllStay (memo_cells_in old) (memo_cells_in new)
  pub fresh : new.fresh ≡ old.fresh

-- texts and fresh results stay; what is kept is of the session before, or was made at the present texts
pub record Loses (old new : Db) : Type 0 where
  pub texts : texts_of new ≡ texts_of old
  pub fresh : new.fresh ≡ old.fresh
  pub stands : (s : State) → IsIn old s → (now : List Key) × IsIn new (record s { made = made_now s.made s.texts now })

-- after want of memory a database may have made some of what it had to make; after another refusal all is as it was
abbrev pub IsLeft : Db → Db → DbRefusal → Type 0
IsLeft old new NoSuchKind = Stays old new
IsLeft old new NoSuchName = Stays old new
IsLeft old new NotShown = Stays old new
IsLeft old new (Source line code keyword) = Stays old new
IsLeft old new (Link x line first code) = Stays old new
IsLeft old new Memory = Loses old new

-- ---- stored results, whatever they are

-- a database rests on stored results: one is kept of each stored kind and module, with this value, and all else that is kept was made from these
pub record Rests (d : Db) (stored : Valuation) : Type 0 where
  pub whole : IsWhole (texts_of d) stored
  pub kept : RestsOn (memo_cells_in d) (texts_of d) (value_with (texts_of d) stored)

-- where the texts are the same as before, at whatever lines, a database rests on what it rested on
abbrev pub RestsAtSame : Db → Db → Type 0
RestsAtSame old new = SameTexts (texts_of old) (texts_of new) → (stored : Valuation) → Rests old stored → Rests new stored

-- after making: a database rests on these results still, none of them was made, and what was walked has the values that follow from them
pub record RestsMaking (new : Db) (stored : Valuation) (walked now : List Key) : Type 0 where
  pub rests : Rests new stored
  pub none_stored : Each (λ (n : Key). IsStored n.kind → ⊥) now
  pub shown : Each (λ (n : Key). kept_of (memo_cells_in new) n.kind n.name ≡ value_with (texts_of new) stored n.kind n.name) walked

-- ---- texts

-- the modules of a source text take the place of those of their names, or are added
pub record Replaces (old new : Db) (text : List ℕ) (names : List (List ℕ)) : Type 0 where
  pub found : List ModuleText
  pub read : source_modules text ≡ Ok found
  pub named : names ≡ names_in found
  pub texts : texts_of new ≡ replaced (texts_of old) found
  pub fresh : new.fresh ≡ []
  pub leads : (s : State) → IsIn old s → IsIn new (after_source s found)
  pub rests : RestsAtSame old new

-- the modules are just those of a source text
pub record ReplacesAll (old new : Db) (text : List ℕ) (names : List (List ℕ)) : Type 0 where
  pub found : List ModuleText
  pub read : source_modules text ≡ Ok found
  pub named : names ≡ names_in found
  pub texts : texts_of new ≡ found
  pub fresh : new.fresh ≡ []
  pub leads : (s : State) → IsIn old s → IsIn new (after_all s found)
  pub rests : RestsAtSame old new

-- the module of a name is gone
pub record Drops (old new : Db) (x : List ℕ) : Type 0 where
  pub was_there : has_name (names_in (texts_of old)) x ≡ true
  pub texts : texts_of new ≡ without x (texts_of old)
  pub fresh : new.fresh ≡ []
  pub leads : (s : State) → IsIn old s → IsIn new (after_drop s x)

-- ---- results

-- from a state just those results of the walk are made that are not up to date
pub record LeadsOn (new : Db) (s : State) (k : Key) (now : List Key) : Type 0 where
  pub made : MadeOf s.made s.texts (walk_in s.texts k) now
  pub next : IsIn new (after_make s k now)

-- where a database rests on stored results, whatever they are, the walk has the values that follow from them, and no stored one is made
abbrev pub StillRests : Db → Db → Key → List Key → Type 0
StillRests old new k now = (stored : Valuation) → Rests old stored → RestsMaking new stored (walk_in (texts_of old) k) now

-- a result is brought up to date, with all that it needs: these were made, in this order
pub record Makes (old new : Db) (k : Key) (now : List Key) : Type 0 where
  pub texts : texts_of new ≡ texts_of old
  pub fresh : new.fresh ≡ keys_put old.fresh (walk_in (texts_of old) k)
  pub leads : (s : State) → IsIn old s → LeadsOn new s k now
  pub rests : StillRests old new k now

abbrev pub key : Kind → List ℕ → Key
key k x = record { kind = k; name = x }

-- the result of a kind by the name of that kind
abbrev pub MakesNamed : Db → Db → List ℕ → List ℕ → List Key → Type 0
MakesNamed old new kind x now = (make_refusal (texts_of old) kind x ≡ None) × ((k : Kind) → kind_with kind ≡ Some k → Makes old new (key k x) now)

-- the texts link where its kind needs that
pub record MakesLinked (old new : Db) (k : Key) (now : List Key) : Type 0 where
  pub links : links_refusal (texts_of old) k.kind ≡ None
  pub makes : Makes old new k now

-- it is made and shown
pub record Shows (old new : Db) (k : Kind) (x : List ℕ) (show : Show) (shown : Shown) : Type 0 where
  pub makes : Makes old new (key k x) shown.made
  pub text : (s : State) → IsIn old s → text_for (texts_of old) show k x ≡ Some shown.text
  pub rests : (stored : Valuation) → Rests old stored → text_from (texts_of old) stored show k x ≡ Some shown.text

pub record ShowsLinked (old new : Db) (k : Kind) (x : List ℕ) (show : Show) (shown : Shown) : Type 0 where
  pub links : links_refusal (texts_of old) k ≡ None
  pub shows : Shows old new k x show shown

abbrev pub ShowsNamed : Db → Db → List ℕ → List ℕ → Show → Shown → Type 0
ShowsNamed old new kind x show shown =
    (value_refusal (texts_of old) kind x ≡ None) × ((k : Kind) → kind_with kind ≡ Some k → Shows old new k x show shown)
