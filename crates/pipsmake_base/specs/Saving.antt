-- The base that is saved of a database.
use Rattle.std.specs.Prelude.{◌≤◌, ℕ, List, [], ◌∷◌, ◌++◌, map, length, option_map, option_and_then, option_to_list, if◌then◌else◌}
use Rattle.pipsmake_db.specs.pipsmake_rules.declared.kind.Kind.{Kind}
use Rattle.pipsmake_db.specs.pipsmake_rules.declared.kind.Kind.TheVariants.{Effects, Transformers, Preconditions, Regions, InRegions, OutRegions, Marks}
use Rattle.pipsmake_db.specs.pipsmake_rules.declared.key.Key.{Key}
use Rattle.pipsmake_db.specs.pipsmake_rules.Keys.{holds}
use Rattle.pipsmake_db.specs.base_values.declared.stored.StoredValue.{StoredValue}
use Rattle.pipsmake_db.specs.base_values.Naming.{Each}
use Rattle.base_text.specs.declared.base.BaseModule.{BaseModule}
use Rattle.base_text.specs.declared.base.StoredResult.{StoredResult}
use Rattle.base_text.specs.declared.base.Base.{Base}
use Rattle.base_text.specs.Grammar.{HasBytes}
use Rattle.pipsmake_db.specs.pipsmake_meaning.Texts.{ModuleText, names_in}
use Rattle.pipsmake_db.specs.pipsmake_meaning.MemoCells.{kept_of}
use Rattle.pipsmake_db.specs.declared.db.Db.{Db}
use Rattle.pipsmake_db.specs.Calls.{key}
use Rattle.pipsmake_db.specs.Shown.{stored_in}
use Rattle.pipsmake_db.specs.State.{texts_of, memo_cells_in}

-- ---- modules

-- a text as a module of a base
abbrev pub module_of : ModuleText → BaseModule
module_of t = record { name = t.name; text = t.text }

-- ---- results

-- a value as the result of a module
abbrev pub stored_result : List ℕ → StoredValue → StoredResult
stored_result x v = record { name = x; value = v }

-- what is kept of a result of a stored kind
abbrev pub kept_results : Db → Kind → List ℕ → List StoredResult
kept_results d k x = option_to_list (option_map (stored_result x) (option_and_then stored_in (kept_of (memo_cells_in d) k x)))

-- the same where it is fresh
abbrev pub result_saved : Db → List ℕ → Kind → List StoredResult
result_saved d x k = if holds d.fresh (key k x) then kept_results d k x else []

-- of these kinds
abbrev pub results_of_kinds : Db → List ℕ → List Kind → List StoredResult
results_of_kinds d x [] = []
results_of_kinds d x (k ∷ ks) = result_saved d x k ++ results_of_kinds d x ks

-- the kinds that are stored, in their order
abbrev pub stored_kinds : List Kind
stored_kinds = Effects ∷ Transformers ∷ Preconditions ∷ Regions ∷ InRegions ∷ OutRegions ∷ Marks ∷ []

-- of modules, one after another
abbrev pub results_saved : Db → List (List ℕ) → List StoredResult
results_saved d [] = []
results_saved d (x ∷ xs) = results_of_kinds d x stored_kinds ++ results_saved d xs

-- ---- which results

-- of the results of these kinds of a module those that are fresh
abbrev pub fresh_keys : List Key → List ℕ → List Kind → List Key
fresh_keys fresh x [] = []
fresh_keys fresh x (k ∷ ks) = (if holds fresh (key k x) then key k x ∷ [] else []) ++ fresh_keys fresh x ks

-- of all modules the stored ones, by module and then by kind
abbrev pub stored_keys : List Key → List (List ℕ) → List Key
stored_keys fresh [] = []
stored_keys fresh (x ∷ xs) = fresh_keys fresh x stored_kinds ++ stored_keys fresh xs

-- ---- all

-- the texts in first-seen order, and the fresh results of stored kinds, by module and then by kind
abbrev pub saved_base : Db → Base
saved_base d = record { modules = map module_of (texts_of d); results = results_saved d (names_in (texts_of d)) }

-- ---- private

-- the texts are short, and of bytes
abbrev pub AreShort : List BaseModule → Type 0
AreShort ms = Each (λ (m : BaseModule). length m.text ≤ 16777216) ms

abbrev pub HaveBytes : List BaseModule → Type 0
HaveBytes ms = Each HasBytes ms
