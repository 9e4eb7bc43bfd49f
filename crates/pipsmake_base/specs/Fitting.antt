-- Results that are saved fit their modules: cited by private functions alone.
use Rattle.std.specs.Prelude.{◌≡◌, ℕ, List, [], ◌∷◌, map, Some, if◌then◌else◌}
use Rattle.pipsmake_db.specs.pipsmake_rules.declared.kind.Kind.{Kind}
use Rattle.pipsmake_db.specs.pipsmake_rules.Keys.{holds}
use Rattle.pipsmake_db.specs.pipsmake_rules.Kinds.{number_of}
use Rattle.pipsmake_db.specs.pipsmake_meaning.Definitions.{module_named}
use Rattle.pipsmake_db.specs.pipsmake_meaning.Texts.{ReadModule}
use Rattle.pipsmake_db.specs.base_values.declared.stored.StoredValue.{StoredValue}
use Rattle.pipsmake_db.specs.base_values.Fits.{StoredFits}
use Rattle.pipsmake_db.specs.base_values.Modules.{ModuleNames}
use Rattle.pipsmake_db.specs.base_values.Naming.{Each}
use Rattle.pipsmake_db.specs.base_values.Sizes.{kind_of}
use Rattle.base_text.specs.declared.base.StoredResult.{StoredResult}
use Rattle.base_text.specs.Modules.{names_read}
use Rattle.pipsmake_db.specs.declared.db.Db.{Db}
use Rattle.pipsmake_db.specs.Calls.{key}
use Rattle.pipsmake_db.specs.State.{texts_of}
use Rattle.pipsmake_base.specs.Saving.{result_saved, stored_kinds}

-- a value of a kind, which fits the module with these names
pub record IsFitting (names : ModuleNames) (k : Kind) (v : StoredValue) : Type 0 where
  pub kind : number_of (kind_of v) ≡ number_of k
  pub fits : StoredFits names v

-- so is what is saved of a kind and a module: one result where it is fresh
abbrev pub SavedFits : ModuleNames → Db → List ℕ → Kind → Type 0
SavedFits names d x k =
    (map (λ (r : StoredResult). r.name) (result_saved d x k) ≡ (if holds d.fresh (key k x) then x ∷ [] else [])) × Each (λ (r : StoredResult). IsFitting names k r.value) (result_saved d x k)

-- and of all stored kinds
abbrev pub KindsFit : ModuleNames → Db → List ℕ → List Kind → Type 0
KindsFit names d x ks = Each (SavedFits names d x) ks

-- of the module of a name, as its text is read
pub record ModuleFits (d : Db) (x : List ℕ) : Type 0 where
  pub read : ReadModule
  pub is_read : module_named (texts_of d) x ≡ Some read
  pub fits : KindsFit (names_read read) d x stored_kinds
