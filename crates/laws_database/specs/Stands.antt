-- What it is that kept values stand for a session.
use Rattle.std.specs.Prelude.{◌≡◌, ℕ, List, [], ◌∷◌, ◌++◌, map, slice_get, Option, Some, None, IfSome, option_map}
use Rattle.session_texts.specs.pipsmake_rules.declared.kind.Kind.{Kind}
use Rattle.session_texts.specs.pipsmake_rules.declared.kind.Kind.TheVariants as kind
use Rattle.session_texts.specs.pipsmake_rules.declared.key.Key.{Key}
use Rattle.session_texts.specs.pipsmake_meaning.Texts.{ModuleText, AreModules, text_of}
use Rattle.session_texts.specs.pipsmake_meaning.Definitions.{definition}
use Rattle.session_texts.specs.pipsmake_meaning.Session.{Makings, needs_in}
use Rattle.session_texts.specs.pipsmake_meaning.MemoCells.{MemoCells, Stamped, Kept, kept_value, AreDistinct}
use Rattle.session_texts.specs.pipsmake_meaning.Values.{Value, source, Item, text, result}

-- a need, and its value where it has one
pub record Needed : Type 0 where
  pub item : Item
  pub name : List ℕ
  pub value : Option Value

abbrev pub text_needed : List ModuleText → Kind → List ℕ → List Needed
text_needed ts kind.Parsed x = record { item = text; name = x; value = option_map source (text_of ts x) } ∷ []
text_needed ts kind.Lines x = record { item = text; name = x; value = option_map source (text_of ts x) } ∷ []
text_needed ts kind.Symbols x = []
text_needed ts kind.CallGraph x = []
text_needed ts kind.Effects x = []
text_needed ts kind.Transformers x = []
text_needed ts kind.Preconditions x = []
text_needed ts kind.Regions x = []
text_needed ts kind.InRegions x = []
text_needed ts kind.OutRegions x = []
text_needed ts kind.Marks x = []
text_needed ts kind.Printed x = []

-- what a result is made from for these texts
abbrev pub needed : List ModuleText → Key → List Needed
needed ts k = text_needed ts k.kind k.name ++ map (λ (n : Key). record { item = result n.kind; name = n.name; value = definition ts n.kind n.name }) (needs_in ts k)

-- stamps are those of these values
abbrev pub AreStamps : MemoCells → List Stamped → List Needed → Type 0
AreStamps sh [] [] = Unit {0}
AreStamps sh [] (n ∷ ns) = ⊥
AreStamps sh (s ∷ ss) [] = ⊥
AreStamps sh (s ∷ ss) (n ∷ ns) =
    (s.item ≡ n.item) × (s.name ≡ n.name) × ((v : Value) × (n.value ≡ Some v) × (slice_get (sh s.item s.name).values s.stamp ≡ Some v)) × AreStamps sh ss ns

-- a kept result is what it was for the texts at which it was made, and its stamps are those of its needs then
pub record WasMade (sh : MemoCells) (k : Key) (kept : Kept) (old : List ModuleText) : Type 0 where
  pub modules : AreModules old
  pub value : Value
  pub is : definition old k.kind k.name ≡ Some value
  pub at : slice_get (sh (result k.kind) k.name).values kept.stamp ≡ Some value
  pub needs : AreStamps sh kept.needs (needed old k)

abbrev pub KeptStands : MemoCells → Key → Option Kept → Option (List ModuleText) → Type 0
KeptStands sh k None None = Unit {0}
KeptStands sh k None (Some old) = ⊥
KeptStands sh k (Some kept) None = ⊥
KeptStands sh k (Some kept) (Some old) = WasMade sh k kept old

pub record StandsFor (sh : MemoCells) (ts : List ModuleText) (made : Makings) : Type 0 where
  pub modules : AreModules ts
  pub texts : (x : List ℕ) → IfSome (text_of ts x) (λ t. kept_value (sh text x) ≡ Some (source t))
  pub distinct : (item : Item) (x : List ℕ) → AreDistinct (sh item x).values
  pub kept : (kind : Kind) (x : List ℕ) → KeptStands sh (record { kind = kind; name = x }) ((sh (result kind) x).kept) (made kind x)

-- ---- results that are kept with given values

-- what each result is
abbrev pub Valuation : Type 0
Valuation = Kind → List ℕ → Option Value

-- what a result is made from where results have these values
abbrev pub needed_with : List ModuleText → Valuation → Key → List Needed
needed_with ts d k = text_needed ts k.kind k.name ++ map (λ (n : Key). record { item = result n.kind; name = n.name; value = d n.kind n.name }) (needs_in ts k)

-- a kept result has its value, and its stamps are those of the values of its needs
pub record HasValue (sh : MemoCells) (ts : List ModuleText) (d : Valuation) (k : Key) (kept : Kept) : Type 0 where
  pub value : Value
  pub is : d k.kind k.name ≡ Some value
  pub at : slice_get (sh (result k.kind) k.name).values kept.stamp ≡ Some value
  pub needs : AreStamps sh kept.needs (needed_with ts d k)

-- so has each; and the present texts are kept
pub record KeepsValues (sh : MemoCells) (ts : List ModuleText) (d : Valuation) : Type 0 where
  pub modules : AreModules ts
  pub texts : (x : List ℕ) → IfSome (text_of ts x) (λ t. kept_value (sh text x) ≡ Some (source t))
  pub distinct : (item : Item) (x : List ℕ) → AreDistinct (sh item x).values
  pub kept : (kind : Kind) (x : List ℕ) → IfSome ((sh (result kind) x).kept) (λ kept. HasValue sh ts d (record { kind = kind; name = x }) kept)

-- each kept result is what it is for these texts
abbrev pub IsLoaded : MemoCells → List ModuleText → Type 0
IsLoaded sh ts = KeepsValues sh ts (definition ts)

-- what is kept was made at these texts, and nothing else
abbrev pub made_at : MemoCells → List ModuleText → Makings
made_at sh ts kind x = option_map (λ (kept : Kept). ts) ((sh (result kind) x).kept)
