-- The values that were seen of each item and name, and what is kept of them.
use Rattle.std.specs.Prelude.{◌≡◌, ◌⊎◌, ℕ, List, [], ◌∷◌, ◌++◌, slice_get, Option, Some, None, option_map}
use Rattle.pipsmake_rules.specs.declared.kind.Kind.{Kind}
use Rattle.pipsmake_meaning.specs.Values.{Value, Item, text as text_item, result}

-- a value from which a result was made: its place among those that were seen there
pub record Stamped : Type 0 where
  pub item : Item
  pub name : List ℕ
  pub stamp : ℕ

-- a kept result: its stamp, and what it was made from, in the order of its needs
pub record Kept : Type 0 where
  pub stamp : ℕ
  pub needs : List Stamped

-- the values of one item and name, in the order in which they were first seen
pub record MemoCell : Type 0 where
  pub values : List Value
  pub kept : Option Kept

-- all of them
abbrev pub MemoCells : Type 0
MemoCells = Item → List ℕ → MemoCell

abbrev pub value_under : List Value → Option Kept → Option Value
value_under vs None = None
value_under vs (Some k) = slice_get vs k.stamp

-- the value that is kept
abbrev pub kept_value : MemoCell → Option Value
kept_value s = value_under s.values s.kept

abbrev pub kept_of : MemoCells → Kind → List ℕ → Option Value
kept_of sh k x = kept_value (sh (result k) x)

abbrev pub kept_stamp : MemoCell → Option ℕ
kept_stamp s = option_map (λ k. k.stamp) s.kept

-- it is none of these
abbrev pub IsNew : Value → List Value → Type 0
IsNew v [] = Unit {0}
IsNew v (w ∷ ws) = (w ≡ v → ⊥) × IsNew v ws

-- no value is there twice: stamps are the same exactly where values are
abbrev pub AreDistinct : List Value → Type 0
AreDistinct [] = Unit {0}
AreDistinct (v ∷ vs) = IsNew v vs × AreDistinct vs

-- the values with one that is now seen
abbrev pub Adds : List Value → Value → List Value → Type 0
Adds old v new = (new ≡ old) ⊎ ((new ≡ old ++ v ∷ []) × IsNew v old)

-- a value is kept that was made from these
pub record Keeps (old : MemoCell) (v : Value) (needs : List Stamped) (new : MemoCell) : Type 0 where
  pub stamp : ℕ
  pub values : Adds old.values v new.values
  pub at : slice_get new.values stamp ≡ Some v
  pub kept : new.kept ≡ Some (record { stamp = stamp; needs = needs })

-- and every other memo cell is as it was
pub record KeepsIn (old new : MemoCells) (item : Item) (x : List ℕ) (v : Value) (needs : List Stamped) : Type 0 where
  pub keeps : Keeps (old item x) v needs (new item x)
  pub others : (other : Item) (y : List ℕ) → (((other ≡ item) × (y ≡ x)) → ⊥) → new other y ≡ old other y

-- ---- other changes

abbrev pub no_memo_cell : MemoCell
no_memo_cell = record { values = []; kept = None }

-- what was seen stays, and nothing is kept of it
abbrev pub forgotten : MemoCell → MemoCell
forgotten s = record { values = s.values; kept = None }

-- a value is among those that were seen, at this place; what is kept stays
pub record Sees (old : MemoCell) (v : Value) (stamp : ℕ) (new : MemoCell) : Type 0 where
  pub values : Adds old.values v new.values
  pub at : slice_get new.values stamp ≡ Some v
  pub kept : new.kept ≡ old.kept

-- and every other memo cell is as it was
pub record SeenIn (old new : MemoCells) (item : Item) (x : List ℕ) (v : Value) (stamp : ℕ) : Type 0 where
  pub sees : Sees (old item x) v stamp (new item x)
  pub others : (other : Item) (y : List ℕ) → (((other ≡ item) × (y ≡ x)) → ⊥) → new other y ≡ old other y

-- no result of a name is kept; its text is, and all of other names
pub record Forgets (old new : MemoCells) (x : List ℕ) : Type 0 where
  pub text : new text_item x ≡ old text_item x
  pub results : (kind : Kind) → new (result kind) x ≡ forgotten (old (result kind) x)
  pub others : (item : Item) (y : List ℕ) → (y ≡ x → ⊥) → new item y ≡ old item y

-- nothing was seen
abbrev pub AreEmpty : MemoCells → Type 0
AreEmpty sh = (item : Item) (x : List ℕ) → sh item x ≡ no_memo_cell
