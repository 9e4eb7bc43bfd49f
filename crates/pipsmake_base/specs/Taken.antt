-- Stored results that are taken over one by one: cited by private functions alone.
use Rattle.std.specs.Prelude.{◌≡◌, ◌⊎◌, ℕ, false, List, [], ◌∷◌, ◌++◌, map, Some, is_some, slice_get}
use Rattle.pipsmake_db.specs.pipsmake_rules.declared.kind.Kind.{Kind}
use Rattle.pipsmake_db.specs.pipsmake_rules.declared.kind.Kind.TheVariants.{Parsed, Lines, Symbols, CallGraph, Effects, Transformers, Preconditions, Regions, InRegions, OutRegions, Marks, Printed}
use Rattle.pipsmake_db.specs.pipsmake_rules.declared.key.Key.{Key}
use Rattle.pipsmake_db.specs.pipsmake_rules.Keys.{holds}
use Rattle.base_text.specs.declared.base.StoredResult.{StoredResult}
use Rattle.pipsmake_db.specs.base_values.Naming.{Each as EachStored}
use Rattle.pipsmake_db.specs.base_values.Sizes.{kind_of}
use Rattle.call_graph.specs.CallsIn.{Each}
use Rattle.pipsmake_db.specs.pipsmake_meaning.Texts.{ModuleText}
use Rattle.pipsmake_db.specs.pipsmake_meaning.Definitions.{definition}
use Rattle.pipsmake_db.specs.pipsmake_meaning.MemoCells.{MemoCells, Stamped, SeenIn}
use Rattle.pipsmake_db.specs.pipsmake_meaning.Session.{none_made}
use Rattle.pipsmake_db.specs.laws_database.Stands.{Needed, AreStamps, StandsFor, Valuation, needed_with, KeepsValues}
use Rattle.pipsmake_db.specs.laws_database.Laws.{AreLinked}
use Rattle.pipsmake_db.specs.laws_database.Unverified.{IsStored}
use Rattle.pipsmake_db.specs.pipsmake_meaning.Values.{Value, Item, result}
use Rattle.pipsmake_db.specs.declared.db.Db.{Db}
use Rattle.pipsmake_db.specs.State.{State, IsIn}
use Rattle.pipsmake_base.specs.Saved.{key_at, value_in}

-- a database is in some state
pub record IsInSome (d : Db) : Type 0 where
  pub state : State
  pub is_in : IsIn d state

-- a stored result has this value
abbrev pub IsGivenAt : Valuation → StoredResult → Type 0
IsGivenAt d r = d (kind_of r.value) r.name ≡ Some (value_in r.value)

-- the value of a result is the first that was seen of it
pub record HasFirst (sh : MemoCells) (d : Valuation) (k : Key) : Type 0 where
  pub value : Value
  pub is : d k.kind k.name ≡ Some value
  pub at : slice_get (sh (result k.kind) k.name).values 0 ≡ Some value

-- results that are not among these are what is defined
abbrev pub OthersDefined : List ModuleText → Valuation → List Key → Type 0
OthersDefined ts d ks = (k : Key) → holds ks k ≡ false → d k.kind k.name ≡ definition ts k.kind k.name

-- of the results that were seen, just these are kept, with their values; all others are what is defined
pub record Taken (sh : MemoCells) (ts : List ModuleText) (d : Valuation) (seen kept : List Key) : Type 0 where
  pub keeps : KeepsValues sh ts d
  pub first : Each (HasFirst sh d) seen
  pub kept_are : (kind : Kind) (x : List ℕ) → is_some ((sh (result kind) x).kept) ≡ holds kept (record { kind = kind; name = x })
  pub others : OthersDefined ts d seen

-- values that were seen stay where they are
abbrev pub SlotsStay : MemoCells → MemoCells → Type 0
SlotsStay old new = (item : Item) (x : List ℕ) (i : ℕ) (w : Value) → slice_get (old item x).values i ≡ Some w → slice_get (new item x).values i ≡ Some w

-- a value is seen that is the first of its result
pub record SeesFirst (old : MemoCells) (before : List Key) (k : Key) (v : Value) (new : MemoCells) (seen : List Key) : Type 0 where
  pub sees : SeenIn old new (result k.kind) k.name v 0
  pub adds : seen ≡ before ++ k ∷ []

-- so are stored values
pub record SeesResults (old : MemoCells) (rs : List StoredResult) (new : MemoCells) (seen : List Key) : Type 0 where
  pub adds : seen ≡ map key_at rs
  pub takes : (ts : List ModuleText) (d : Valuation) → EachStored (IsGivenAt d) rs → OthersDefined ts d (map key_at rs) → StandsFor old ts none_made → Taken new ts d seen []

-- a result that is needed is among those that were seen
pub record SeesNeed (ts : List ModuleText) (old : MemoCells) (before : List Key) (k : Key) (new : MemoCells) (seen : List Key) : Type 0 where
  pub takes : (d : Valuation) (kept : List Key) → Taken old ts d before kept → Taken new ts d seen kept × HasFirst new d k
  pub stay : SlotsStay old new

-- a need, with its value
abbrev pub need_at : Valuation → Key → Needed
need_at d n = record { item = result n.kind; name = n.name; value = d n.kind n.name }

-- results that are needed, with the stamps of their values
pub record SeesNeeds (ts : List ModuleText) (old : MemoCells) (before : List Key) (needs : List Key) (new : MemoCells) (seen : List Key) (stamps : List Stamped) : Type 0 where
  pub takes : (d : Valuation) (kept : List Key) → Taken old ts d before kept → Taken new ts d seen kept × AreStamps new stamps (map (need_at d) needs)
  pub stay : SlotsStay old new

-- a result of a stored kind
abbrev pub IsStoredKey : Key → Type 0
IsStoredKey k = IsStored k.kind

-- what a result needs is among those that were seen, with the stamps of its values
pub record SeesStamps (ts : List ModuleText) (old : MemoCells) (before : List Key) (k : Key) (new : MemoCells) (seen : List Key) (stamps : List Stamped) : Type 0 where
  pub takes : AreLinked ts → IsStoredKey k → (d : Valuation) (kept : List Key) → Taken old ts d before kept → Taken new ts d seen kept × AreStamps new stamps (needed_with ts d k)
  pub stay : SlotsStay old new

-- texts link where there are results of them
abbrev pub LinksFor : List ModuleText → List Key → Type 0
LinksFor ts ks = (ks ≡ []) ⊎ AreLinked ts

-- results that were seen are kept, with the stamps of their needs
pub record KeepsResults (ts : List ModuleText) (old : MemoCells) (before : List Key) (ks : List Key) (new : MemoCells) (seen : List Key) : Type 0 where
  pub takes : LinksFor ts ks → (d : Valuation) (kept : List Key) → Taken old ts d before kept → Each IsStoredKey ks → Each (HasFirst old d) ks → Taken new ts d seen (kept ++ ks)
  pub stay : (d : Valuation) → Each (HasFirst old d) ks → SlotsStay old new

-- all results that were seen are kept
abbrev pub KeepsAll : List ModuleText → MemoCells → List Key → MemoCells → Type 0
KeepsAll ts old ks new = LinksFor ts ks → (d : Valuation) → Taken old ts d ks [] → Each IsStoredKey ks → (seen : List Key) × Taken new ts d seen ks

-- kinds whose results are of a module by itself, or of all modules
abbrev pub IsPlainKind : Kind → Type 0
IsPlainKind Parsed = Unit {0}
IsPlainKind Lines = Unit {0}
IsPlainKind Symbols = Unit {0}
IsPlainKind CallGraph = Unit {0}
IsPlainKind Effects = ⊥
IsPlainKind Transformers = ⊥
IsPlainKind Preconditions = ⊥
IsPlainKind Regions = ⊥
IsPlainKind InRegions = ⊥
IsPlainKind OutRegions = ⊥
IsPlainKind Marks = ⊥
IsPlainKind Printed = ⊥
