-- What is made is what a session has to make, and what is kept then is what is defined.
use Rattle.std.specs.Prelude.{◌≡◌, ℕ, true, List, [], ◌∷◌, ◌++◌, Some, Ok, codes}
use Rattle.call_graph.specs.declared.graph.Graph.{Graph}
use Rattle.session_texts.specs.pipsmake_rules.declared.kind.Kind.{Kind}
use Rattle.session_texts.specs.pipsmake_rules.declared.kind.Kind.TheVariants.{Parsed, Lines, Symbols, CallGraph, Effects, Transformers, Preconditions, Regions, InRegions, OutRegions, Marks, Printed}
use Rattle.session_texts.specs.pipsmake_rules.declared.key.Key.{Key}
use Rattle.session_texts.specs.pipsmake_rules.Neighbours.{has_name}
use Rattle.session_texts.specs.pipsmake_rules.Walk.{walk_of}
use Rattle.call_graph.specs.CallsIn.{Each}
use Rattle.loop_marker.specs.Results.{ModuleResults}
use Rattle.result_lines.specs.declared.show.Show.{Show}
use Rattle.session_texts.specs.pipsmake_meaning.Texts.{ModuleText, ReadModule, AreModules, names_in, links_in, graph_of, text_of}
use Rattle.session_texts.specs.pipsmake_meaning.Definitions.{module_named, results_in, text_shown, definition}
use Rattle.session_texts.specs.pipsmake_meaning.Session.{Makings, MadeOf, made_now, none_made, made_without}
use Rattle.session_texts.specs.pipsmake_meaning.MemoCells.{MemoCells, Stamped, kept_of, KeepsIn, SeenIn, Forgets, AreEmpty}
use Rattle.session_texts.specs.pipsmake_meaning.Values.{Value, source, Item, text, result}
use Rattle.session_texts.specs.pipsmake_meaning.Rules.{rule_value, text_with}
use Rattle.session_texts.specs.pipsmake_meaning.Making.{BringsAll}
use Rattle.laws_database.specs.Stands.{needed, AreStamps, StandsFor, made_at, Valuation, needed_with, KeepsValues, IsLoaded}

abbrev pub AreLinked : List ModuleText → Type 0
AreLinked ts = (g : Graph) × (links_in ts ≡ Ok g)

-- a result can be made: its module is there, and the texts link where its kind needs that
abbrev pub CanMake : List ModuleText → Kind → List ℕ → Type 0
CanMake ts Parsed x = has_name (names_in ts) x ≡ true
CanMake ts Lines x = has_name (names_in ts) x ≡ true
CanMake ts Symbols x = has_name (names_in ts) x ≡ true
CanMake ts CallGraph x = AreLinked ts × (x ≡ codes "*")
CanMake ts Effects x = AreLinked ts × (has_name (names_in ts) x ≡ true)
CanMake ts Transformers x = AreLinked ts × (has_name (names_in ts) x ≡ true)
CanMake ts Preconditions x = AreLinked ts × (has_name (names_in ts) x ≡ true)
CanMake ts Regions x = AreLinked ts × (has_name (names_in ts) x ≡ true)
CanMake ts InRegions x = AreLinked ts × (has_name (names_in ts) x ≡ true)
CanMake ts OutRegions x = AreLinked ts × (has_name (names_in ts) x ≡ true)
CanMake ts Marks x = AreLinked ts × (has_name (names_in ts) x ≡ true)
CanMake ts Printed x = AreLinked ts × (has_name (names_in ts) x ≡ true)

abbrev pub walk_in : List ModuleText → Key → List Key
walk_in ts k = walk_of (names_in ts) (graph_of ts) k

abbrev pub IsDefined : MemoCells → List ModuleText → Key → Type 0
IsDefined sh ts k = kept_of sh k.kind k.name ≡ definition ts k.kind k.name

-- just what was missing or out of date is made, the kept values then stand for the session in which it was made, and each of them that was walked is what it is defined to be
pub record MakesAsDefined (ts : List ModuleText) (made : Makings) (walked now : List Key) (new : MemoCells) : Type 0 where
  pub are_made : MadeOf made ts walked now
  pub stands : StandsFor new ts (made_now made ts now)
  pub defined : Each (IsDefined new ts) walked

abbrev pub MakingIsDefined : Type 0
MakingIsDefined =
    (sh new : MemoCells) (ts : List ModuleText) (made : Makings) (k : Key) (now : List Key) → CanMake ts k.kind k.name → StandsFor sh ts made →
    BringsAll sh ts (walk_in ts k) now new → MakesAsDefined ts made (walk_in ts k) now new

-- the same where making stops within the walk, as for want of memory
abbrev pub MakingMayStop : Type 0
MakingMayStop =
    (sh new : MemoCells) (ts : List ModuleText) (made : Makings) (k : Key) (before after now : List Key) → CanMake ts k.kind k.name → StandsFor sh ts made → walk_in ts k ≡ before ++ after →
    BringsAll sh ts before now new → MakesAsDefined ts made before now new

-- what can be made has a value
abbrev pub ResultsHaveValues : Type 0
ResultsHaveValues = (ts : List ModuleText) (k : Key) → AreModules ts → CanMake ts k.kind k.name → (v : Value) × (definition ts k.kind k.name ≡ Some v)

-- where what comes before a result of a walk is kept as it is defined, the rule of that result makes what is defined
abbrev pub RulesHaveValues : Type 0
RulesHaveValues =
    (sh : MemoCells) (ts : List ModuleText) (k : Key) (before : List Key) (j : Key) (after : List Key) → AreModules ts → CanMake ts k.kind k.name → walk_in ts k ≡ before ++ j ∷ after → Each (IsDefined sh ts) before →
    (v : Value) × (definition ts j.kind j.name ≡ Some v) × (rule_value sh ts j ≡ Some v)

abbrev pub printed_key : List ℕ → Key
printed_key x = record { kind = Printed; name = x }

-- where the printed text of a module and what it needs are kept as they are defined, the written text with what `show` adds to it is the defined one
abbrev pub TextsAreShown : Type 0
TextsAreShown =
    (sh : MemoCells) (ts : List ModuleText) (x : List ℕ) (show : Show) → AreModules ts → CanMake ts Printed x → Each (IsDefined sh ts) (walk_in ts (printed_key x)) →
    (m : ReadModule) × (f : ModuleResults) × (module_named ts x ≡ Some m) × (results_in ts x ≡ Some f) × (text_with sh m x show ≡ Some (text_shown show m f))

-- ---- texts that change

-- a text is changed or added where it is kept as the present one: what was made stands for the new session
abbrev pub TextsMayChange : Type 0
TextsMayChange =
    (sh new : MemoCells) (ts us : List ModuleText) (made : Makings) (x t : List ℕ) → StandsFor sh ts made → AreModules us → text_of us x ≡ Some t → ((y : List ℕ) → (y ≡ x → ⊥) → text_of us y ≡ text_of ts y) →
    KeepsIn sh new text x (source t) [] → StandsFor new us made

-- texts are taken away
abbrev pub TextsMayGo : Type 0
TextsMayGo = (sh : MemoCells) (ts us : List ModuleText) (made : Makings) → StandsFor sh ts made → AreModules us → ((y t : List ℕ) → text_of us y ≡ Some t → text_of ts y ≡ Some t) → StandsFor sh us made

-- ---- results that come and go

-- the results of a name are forgotten: what is kept stands for the session in which they were not made
abbrev pub ResultsMayGo : Type 0
ResultsMayGo = (sh new : MemoCells) (ts : List ModuleText) (made : Makings) (x : List ℕ) → StandsFor sh ts made → Forgets sh new x → StandsFor new ts (made_without made x)

-- a value is seen, and what is kept stays
abbrev pub ValuesMayBeSeen : Type 0
ValuesMayBeSeen = (sh new : MemoCells) (ts : List ModuleText) (made : Makings) (item : Item) (x : List ℕ) (v : Value) (stamp : ℕ) → StandsFor sh ts made → SeenIn sh new item x v stamp → StandsFor new ts made

-- a result is kept as it is defined, with the stamps of its needs for the present texts: it was made at them
abbrev pub ResultsMayBeKept : Type 0
ResultsMayBeKept =
    (sh new : MemoCells) (ts : List ModuleText) (made : Makings) (k : Key) (v : Value) (stamps : List Stamped) → StandsFor sh ts made → definition ts k.kind k.name ≡ Some v → AreStamps sh stamps (needed ts k) →
    KeepsIn sh new (result k.kind) k.name v stamps → StandsFor new ts (made_now made ts (k ∷ []))

-- ---- where a session begins

abbrev pub NothingStands : Type 0
NothingStands = (sh : MemoCells) → AreEmpty sh → StandsFor sh [] none_made

-- stored results that are what is defined stand for the session in which they were made at the present texts
abbrev pub LoadedStands : Type 0
LoadedStands = (sh : MemoCells) (ts : List ModuleText) → IsLoaded sh ts → StandsFor sh ts (made_at sh ts)

-- ---- results that are kept with given values, as while stored ones are taken over

-- texts alone are kept
abbrev pub NothingIsGiven : Type 0
NothingIsGiven = (sh : MemoCells) (ts : List ModuleText) (d : Valuation) → StandsFor sh ts none_made → KeepsValues sh ts d

-- one result more is kept, with the stamps of the values of its needs
abbrev pub GivenMayBeKept : Type 0
GivenMayBeKept =
    (sh new : MemoCells) (ts : List ModuleText) (d : Valuation) (k : Key) (v : Value) (stamps : List Stamped) → KeepsValues sh ts d → d k.kind k.name ≡ Some v → AreStamps sh stamps (needed_with ts d k) →
    KeepsIn sh new (result k.kind) k.name v stamps → KeepsValues new ts d

-- a value is seen, and what is kept stays
abbrev pub GivenMayBeSeen : Type 0
GivenMayBeSeen = (sh new : MemoCells) (ts : List ModuleText) (d : Valuation) (item : Item) (x : List ℕ) (v : Value) (stamp : ℕ) → KeepsValues sh ts d → SeenIn sh new item x v stamp → KeepsValues new ts d

-- the text of a module is kept again
abbrev pub GivenTextsMayStay : Type 0
GivenTextsMayStay = (sh new : MemoCells) (ts : List ModuleText) (d : Valuation) (x t : List ℕ) → KeepsValues sh ts d → text_of ts x ≡ Some t → KeepsIn sh new text x (source t) [] → KeepsValues new ts d
