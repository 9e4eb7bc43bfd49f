-- What effects claim of an execution.
use Rattle.std.specs.Prelude.{◌≡◌, ℕ, zero, suc, Bool, true, false, List, [], ◌∷◌, slice_get, Some}
use Rattle.std.specs.List.{list_any}
use Rattle.f77_ast.specs.Runs.{Event, Arrived, Read, Wrote, Printed, Took, Answer, Gave, Broke}
use Rattle.f77_ast.specs.Places.{Places}
use Rattle.f77_ast.specs.Plans.{Flow, Normal, Jump, Returned, Stopped}
use Rattle.f77_ast.specs.Calls.{in_place}
use Rattle.f77_ast.specs.declared.variable.Variable.{Variable}
use Rattle.call_graph.specs.declared.graph.Graph.{Graph}
use Rattle.f77_meaning.specs.Modules.{Known}
use Rattle.f77_meaning.specs.Occurrences.{Occurrence}
use Rattle.f77_meaning.specs.Accesses.{is_visible}
use Rattle.f77_meaning.specs.Claims.{place_of, reads, writes}
use Rattle.f77_ast.specs.declared.effect_set.EffectSet.{EffectSet}
use Rattle.f77_ast.specs.declared.results.Results.{Results}
use Rattle.effects.specs.List.{Callees, at}
use Rattle.effects.specs.Modules.{cumulated_of}

-- ---- what an execution does beside its accesses

-- it prints, or takes input
abbrev pub has_io : List Event → Bool
has_io [] = false
has_io (Arrived p ∷ es) = has_io es
has_io (Read u c ∷ es) = has_io es
has_io (Wrote u c ∷ es) = has_io es
has_io (Printed xs ∷ es) = true
has_io (Took o ∷ es) = true

abbrev pub is_stop : Flow → Bool
is_stop Normal = false
is_stop (Jump l) = false
is_stop Returned = false
is_stop Stopped = true

-- it ends by STOP
abbrev pub is_stopped : Answer Flow → Bool
is_stopped (Gave f) = is_stop f
is_stopped (Broke b) = false

-- ---- effects that hold

-- a unit is one of some of these variables
abbrev pub is_unit_of_some : List Known → Graph → Places → List Variable → ℕ → Bool
is_unit_of_some ks g at vs u = list_any (λ v. in_place (place_of ks g at v) u) vs

-- each visible unit of which the test holds is a unit of one of these variables
abbrev pub AreUnitsOf : List Known → Graph → Occurrence → (ℕ → Bool) → List Variable → Type 0
AreUnitsOf ks g x test vs = (u : ℕ) → test u ≡ true → is_visible ks g x u ≡ true → is_unit_of_some ks g x.places vs u ≡ true

-- all that the execution reads and writes is named, and input, output and STOP are announced
pub record EffectsHold (ks : List Known) (g : Graph) (e : EffectSet) (x : Occurrence) : Type 0 where
  pub all_read : AreUnitsOf ks g x (reads x) e.reads
  pub all_written : AreUnitsOf ks g x (writes x) e.writes
  pub io : has_io x.ran.trace ≡ true → e.io ≡ true
  pub stops : is_stopped x.ran.answer ≡ true → e.stops ≡ true

-- ---- the effects of an execution

-- results give these effects to a statement, by its number; to an entry, number 0, those that callers see
abbrev pub GivesEffect : Results EffectSet → ℕ → EffectSet → Type 0
GivesEffect r zero e = r.summary ≡ e
GivesEffect r (suc n) e = (i : ℕ) × (slice_get r.at i ≡ Some (at (suc n) e))

-- the effects that a module's results give an execution in it hold
pub record IsOfModule (ks : List Known) (g : Graph) (tables : List ℕ → Callees) (x : Occurrence) : Type 0 where
  pub index : ℕ
  pub by : Known
  pub is_module : slice_get ks index ≡ Some by
  pub is_named : by.read.name ≡ x.spot.module_name
  pub effect : EffectSet
  pub is_given : GivesEffect (cumulated_of by.read.body (tables by.read.name) by.symbols) x.spot.statement effect
  pub holds : EffectsHold ks g effect x
