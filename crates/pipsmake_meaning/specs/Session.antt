-- A session: the present texts, and for each kept result the texts at which it was made.
use Rattle.std.specs.Prelude.{◌≡◌, ℕ, List, [], ◌∷◌, Option, Some, None, ◌⊎◌, bytes_eq, if◌then◌else◌}
use Rattle.pipsmake_rules.specs.declared.kind.Kind.{Kind}
use Rattle.pipsmake_rules.specs.declared.kind.Kind.TheVariants.{Parsed, Lines, Symbols, CallGraph, Effects, Transformers, Preconditions, Regions, InRegions, OutRegions, Marks, Printed}
use Rattle.pipsmake_rules.specs.declared.key.Key.{Key}
use Rattle.pipsmake_rules.specs.Keys.{holds}
use Rattle.pipsmake_rules.specs.Needs.{needs_of}
use Rattle.call_graph.specs.CallsIn.{Each}
use Rattle.pipsmake_meaning.specs.Texts.{ModuleText, names_in, text_of, graph_of}
use Rattle.pipsmake_meaning.specs.Definitions.{definition}

-- the texts at which the result of a kind and name was made, where one is kept
abbrev pub Makings : Type 0
Makings = Kind → List ℕ → Option (List ModuleText)

-- what a result needs for these texts, in the order in which it is made
abbrev pub needs_in : List ModuleText → Key → List Key
needs_in ts k = needs_of (names_in ts) (graph_of ts) k

-- statements and lines of a module need its text
abbrev pub SameText : Kind → List ℕ → List ModuleText → List ModuleText → Type 0
SameText Parsed x old new = text_of old x ≡ text_of new x
SameText Lines x old new = text_of old x ≡ text_of new x
SameText Symbols x old new = Unit {0}
SameText CallGraph x old new = Unit {0}
SameText Effects x old new = Unit {0}
SameText Transformers x old new = Unit {0}
SameText Preconditions x old new = Unit {0}
SameText Regions x old new = Unit {0}
SameText InRegions x old new = Unit {0}
SameText OutRegions x old new = Unit {0}
SameText Marks x old new = Unit {0}
SameText Printed x old new = Unit {0}

abbrev pub SameValue : List ModuleText → List ModuleText → Key → Type 0
SameValue old new n = definition old n.kind n.name ≡ definition new n.kind n.name

-- a result is kept whose needs are the same as when it was made, each with the same value
pub record UpToDate (made : Makings) (ts : List ModuleText) (k : Key) : Type 0 where
  pub old : List ModuleText
  pub was_made : made k.kind k.name ≡ Some old
  pub text : SameText k.kind k.name old ts
  pub needs : needs_in old k ≡ needs_in ts k
  pub values : Each (SameValue old ts) (needs_in ts k)

-- of these results just those are made that are not up to date
abbrev pub MadeOf : Makings → List ModuleText → List Key → List Key → Type 0
MadeOf made ts [] now = now ≡ []
MadeOf made ts (k ∷ ks) now = (UpToDate made ts k × MadeOf made ts ks now) ⊎ ((UpToDate made ts k → ⊥) × ((rest : List Key) × (now ≡ k ∷ rest) × MadeOf made ts ks rest))

-- these results were made at these texts
abbrev pub made_now : Makings → List ModuleText → List Key → Makings
made_now made ts now kind x = if holds now (record { kind = kind; name = x }) then Some ts else made kind x

-- nothing was made
abbrev pub none_made : Makings
none_made kind x = None

-- what was made, but of this name
abbrev pub made_without : Makings → List ℕ → Makings
made_without made x kind y = if bytes_eq y x then None else made kind y
