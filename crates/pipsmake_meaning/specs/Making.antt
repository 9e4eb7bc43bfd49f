-- Making a result and what it needs, from values that are kept.
use Rattle.std.specs.Prelude.{◌≡◌, ◌⊎◌, ℕ, List, [], ◌∷◌, ◌++◌, map, Some, None, option_map, unwrap_or}
use Rattle.pipsmake_rules.specs.declared.kind.Kind.{Kind}
use Rattle.pipsmake_rules.specs.declared.kind.Kind.TheVariants as kind
use Rattle.pipsmake_rules.specs.declared.key.Key.{Key}
use Rattle.pipsmake_meaning.specs.Texts.{ModuleText}
use Rattle.pipsmake_meaning.specs.Session.{needs_in}
use Rattle.pipsmake_meaning.specs.MemoCells.{MemoCells, Stamped, Kept, kept_stamp, KeepsIn}
use Rattle.pipsmake_meaning.specs.Values.{Value, Item, text, result}
use Rattle.pipsmake_meaning.specs.Rules.{rule_value}

-- ---- stamps of needs

abbrev pub stamp_of : MemoCells → Item → List ℕ → Stamped
stamp_of sh item x = record { item = item; name = x; stamp = unwrap_or (kept_stamp (sh item x)) 0 }

-- of its text, where a result needs that
abbrev pub text_stamps : MemoCells → Kind → List ℕ → List Stamped
text_stamps sh kind.Parsed x = stamp_of sh text x ∷ []
text_stamps sh kind.Lines x = stamp_of sh text x ∷ []
text_stamps sh kind.Symbols x = []
text_stamps sh kind.CallGraph x = []
text_stamps sh kind.Effects x = []
text_stamps sh kind.Transformers x = []
text_stamps sh kind.Preconditions x = []
text_stamps sh kind.Regions x = []
text_stamps sh kind.InRegions x = []
text_stamps sh kind.OutRegions x = []
text_stamps sh kind.Marks x = []
text_stamps sh kind.Printed x = []

-- what a result is made from now
abbrev pub stamps_now : MemoCells → List ModuleText → Key → List Stamped
stamps_now sh ts k = text_stamps sh k.kind k.name ++ map (λ n. stamp_of sh (result n.kind) n.name) (needs_in ts k)

-- ---- making

-- what is kept was made from just that
abbrev pub IsCurrent : MemoCells → List ModuleText → Key → Type 0
IsCurrent sh ts k = option_map (λ (kept : Kept). kept.needs) ((sh (result k.kind) k.name).kept) ≡ Some (stamps_now sh ts k)

abbrev pub AllStay : MemoCells → MemoCells → Type 0
AllStay old new = (item : Item) (x : List ℕ) → new item x ≡ old item x

-- a result that is not current is made and kept
pub record Makes (sh new : MemoCells) (ts : List ModuleText) (k : Key) : Type 0 where
  pub outdated : IsCurrent sh ts k → ⊥
  pub value : Value
  pub rule : rule_value sh ts k ≡ Some value
  pub keeps : KeepsIn sh new (result k.kind) k.name value (stamps_now sh ts k)

-- one that is current stays, and so does one whose rule lacks what it names
abbrev pub Brings : MemoCells → List ModuleText → Key → List Key → MemoCells → Type 0
Brings sh ts k now new =
    ((IsCurrent sh ts k ⊎ (rule_value sh ts k ≡ None)) × (now ≡ []) × AllStay sh new)
    ⊎ ((now ≡ k ∷ []) × Makes sh new ts k)

-- results one after another
abbrev pub BringsAll : MemoCells → List ModuleText → List Key → List Key → MemoCells → Type 0
BringsAll sh ts [] now new = (now ≡ []) × AllStay sh new
BringsAll sh ts (k ∷ ks) now new =
    (mid : MemoCells) × (first : List Key) × (rest : List Key) × Brings sh ts k first mid × BringsAll mid ts ks rest new × (now ≡ first ++ rest)
