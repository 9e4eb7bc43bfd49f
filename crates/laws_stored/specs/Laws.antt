-- Each result of a program fits the module that it belongs to, and so its written value is read again.
use Rattle.std.specs.Prelude.{◌≡◌, ℕ, ◌<◌, ◌≤◌, ◌^◌, true, List, length, Some}
use Rattle.session_texts.specs.pipsmake_rules.declared.kind.Kind.{Kind}
use Rattle.base_values.specs.declared.stored.StoredValue.{StoredValue}
use Rattle.base_values.specs.Naming.{AreNames}
use Rattle.base_values.specs.Read.{stored_of}
use Rattle.base_values.specs.Written.{stored_data}
use Rattle.base_values.specs.Sizes.{kind_of, is_small_value}
use Rattle.base_values.specs.Fits.{StoredFits}
use Rattle.session_texts.specs.pipsmake_meaning.Texts.{ModuleText, ReadModule, module_read, AreModules}
use Rattle.session_texts.specs.pipsmake_meaning.Values.{Value}
use Rattle.session_texts.specs.pipsmake_meaning.Definitions.{module_named, definition}
use Rattle.laws_stored.specs.Stored.{is_stored, as_stored, names_in}

-- its symbols have numbers below 2^32
abbrev pub IsCounted : ReadModule → Type 0
IsCounted m = length m.table < 2 ^ 32

-- so have those of a text of at most 16,777,216 bytes
abbrev pub ShortTextsAreCounted : Type 0
ShortTextsAreCounted = (text : List ℕ) (m : ReadModule) → module_read text ≡ Some m → length text ≤ 16777216 → IsCounted m

-- the symbols of a module that was read have names, none twice
abbrev pub TablesHaveNames : Type 0
TablesHaveNames = (text : List ℕ) (m : ReadModule) → module_read text ≡ Some m → IsCounted m → AreNames (names_in m).names

-- it is a stored value of this kind, which fits the module
pub record FitsItsModule (m : ReadModule) (k : Kind) (v : Value) : Type 0 where
  pub stored : StoredValue
  pub is : as_stored v ≡ Some stored
  pub kind : kind_of stored ≡ k
  pub fits : StoredFits (names_in m) stored

-- each result of a kind that is stored does
abbrev pub DefinedResultsFit : Type 0
DefinedResultsFit =
    (ts : List ModuleText) (k : Kind) (x : List ℕ) (m : ReadModule) (v : Value) → AreModules ts → module_named ts x ≡ Some m → IsCounted m → is_stored k ≡ true → definition ts k x ≡ Some v →
    FitsItsModule m k v

-- its written value is read again as itself for the module, and its numbers are small
pub record IsReadAgain (m : ReadModule) (k : Kind) (v : Value) : Type 0 where
  pub stored : StoredValue
  pub is : as_stored v ≡ Some stored
  pub read : stored_of (names_in m) k (stored_data (names_in m).names stored) ≡ Some stored
  pub small : is_small_value stored ≡ true

-- each result of a kind that is stored is
abbrev pub DefinedResultsAreReadAgain : Type 0
DefinedResultsAreReadAgain =
    (ts : List ModuleText) (k : Kind) (x : List ℕ) (m : ReadModule) (v : Value) → AreModules ts → module_named ts x ≡ Some m → IsCounted m → is_stored k ≡ true → definition ts k x ≡ Some v →
    IsReadAgain m k v
