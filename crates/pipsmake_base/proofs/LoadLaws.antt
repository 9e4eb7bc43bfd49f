-- A database that goes on from a base.
use Rattle.std.proofs.Common.{◌≡◌, inl, inr, ℕ, Bool, true, false, List, [], ◌∷◌, map, Option, Some, None, Result, Ok, Err, refl, sym, ap, ◌∙◌, subst}
use Rattle.std.specs.Prelude.{is_some, option_map, if◌then◌else◌}
use Rattle.call_graph.specs.declared.graph.Graph.{Graph}
use Rattle.call_graph.specs.declared.refusal.Fault.{Fault}
use Rattle.pipsmake_db.specs.pipsmake_rules.declared.key.Key.{Key}
use Rattle.pipsmake_db.specs.pipsmake_rules.Keys.{holds}
use Rattle.pipsmake_db.specs.base_values.declared.stored.StoredValue.{StoredValue}
use Rattle.pipsmake_db.specs.base_values.declared.stored.StoredValue.TheVariants as stored
use Rattle.pipsmake_db.specs.base_values.Laws.{FitsIsTaken}
use Rattle.pipsmake_db.specs.base_values.Modules.{ModuleNames}
use Rattle.pipsmake_db.specs.base_values.Fits.{StoredFits}
use Rattle.pipsmake_db.specs.base_values.Naming.{Each as EachStored}
use Rattle.pipsmake_db.specs.base_values.Sizes.{kind_of}
use Rattle.base_text.specs.declared.base.Base.{Base}
use Rattle.base_text.specs.declared.base.StoredResult.{StoredResult}
use Rattle.base_text.specs.Grammar.{ResultFits}
use Rattle.base_text.specs.Modules.{KnownNames}
use Rattle.call_graph.specs.CallsIn.{Each}
use Rattle.loop_marker.specs.Results.{ModuleResults}
use Rattle.pipsmake_db.specs.pipsmake_meaning.Definitions.{definition, results_with, results_in}
use Rattle.pipsmake_db.specs.laws_database.Unverified.{IsStored}
use Rattle.pipsmake_db.specs.pipsmake_meaning.Session.{none_made, made_now}
use Rattle.pipsmake_db.specs.pipsmake_meaning.MemoCells.{MemoCells, Kept}
use Rattle.pipsmake_db.specs.laws_database.Stands.{StandsFor}
use Rattle.pipsmake_db.specs.pipsmake_meaning.Texts.{ModuleText, links_in}
use Rattle.pipsmake_db.specs.pipsmake_meaning.Values.{Value, effects, transformers, preconditions, regions, ins, outs, marks, result}
use Rattle.pipsmake_db.proofs.LawsDatabase.Going.{loaded_stands}
use Rattle.pipsmake_db.specs.result_store.Fits.{ValueFits}
use Rattle.pipsmake_db.specs.declared.db.Db.{Db}
use Rattle.pipsmake_db.specs.State.{texts_of, memo_cells_in, IsIn}
use Rattle.pipsmake_base.specs.Saved.{texts_in, key_at, value_in, IsDefinedAt, IsSaved, loaded_state}
use Rattle.pipsmake_base.specs.Taken.{Taken, SeesResults, LinksFor, IsStoredKey, KeepsResults, KeepsAll, IsInSome}
use Rattle.pipsmake_base.specs.Texts.{plain_state}

-- ---- values that may be kept

value_fits : (law : FitsIsTaken) (v : StoredValue) (names : ModuleNames) → StoredFits names v → ValueFits (value_in v)
value_fits law (stored.Effects r) names f = tt
value_fits law (stored.Transformers r) names f = law names (stored.Transformers r) f
value_fits law (stored.Preconditions r) names f = (law names (stored.Preconditions r) f).0
value_fits law (stored.Regions r) names f = law names (stored.Regions r) f
value_fits law (stored.InRegions r) names f = law names (stored.InRegions r) f
value_fits law (stored.OutRegions r) names f = law names (stored.OutRegions r) f
value_fits law (stored.Marks ms) names f = tt

pub values_fit : (law : FitsIsTaken) (k : KnownNames) (rs : List StoredResult) → EachStored (ResultFits k) rs → EachStored (λ (r : StoredResult). ValueFits (value_in r.value)) rs
values_fit law k [] f = tt
values_fit law k (r ∷ rs) f = (value_fits law r.value f.0.names f.0.fits, values_fit law k rs f.1)

-- ---- results of stored kinds

pub kind_is_stored : (v : StoredValue) → IsStored (kind_of v)
kind_is_stored (stored.Effects r) = tt
kind_is_stored (stored.Transformers r) = tt
kind_is_stored (stored.Preconditions r) = tt
kind_is_stored (stored.Regions r) = tt
kind_is_stored (stored.InRegions r) = tt
kind_is_stored (stored.OutRegions r) = tt
kind_is_stored (stored.Marks ms) = tt

pub keys_are_stored : (rs : List StoredResult) → Each IsStoredKey (map key_at rs)
keys_are_stored [] = tt
keys_are_stored (r ∷ rs) = (kind_is_stored r.value, keys_are_stored rs)

none_mapped : {A : Type 0} (f : A → Value) (o : Option A) (w : Value) → o ≡ None → option_map f o ≡ Some w → ⊥
none_mapped f None w e d = cc
none_mapped f (Some a) w e d = cc

-- texts that do not link have no result of these kinds
none_here : (ts : List ModuleText) (f : Fault) (x : List ℕ) (v : StoredValue) (w : Value) → links_in ts ≡ Err f → definition ts (kind_of v) x ≡ Some w → ⊥
none_here ts f x (stored.Effects r) w e d = none_mapped (λ (m : ModuleResults). effects m.effects) (results_in ts x) w (ap (λ l. results_with ts l x) e) d
none_here ts f x (stored.Transformers r) w e d = none_mapped (λ (m : ModuleResults). transformers m.transformers) (results_in ts x) w (ap (λ l. results_with ts l x) e) d
none_here ts f x (stored.Preconditions r) w e d = none_mapped (λ (m : ModuleResults). preconditions m.preconditions) (results_in ts x) w (ap (λ l. results_with ts l x) e) d
none_here ts f x (stored.Regions r) w e d = none_mapped (λ (m : ModuleResults). regions m.regions) (results_in ts x) w (ap (λ l. results_with ts l x) e) d
none_here ts f x (stored.InRegions r) w e d = none_mapped (λ (m : ModuleResults). ins m.ins) (results_in ts x) w (ap (λ l. results_with ts l x) e) d
none_here ts f x (stored.OutRegions r) w e d = none_mapped (λ (m : ModuleResults). outs m.outs) (results_in ts x) w (ap (λ l. results_with ts l x) e) d
none_here ts f x (stored.Marks ms) w e d = none_mapped (λ (m : ModuleResults). marks m.marks) (results_in ts x) w (ap (λ l. results_with ts l x) e) d

-- texts with results of their own link
pub links_for : (ts : List ModuleText) (rs : List StoredResult) → EachStored (IsDefinedAt ts) rs → LinksFor ts (map key_at rs)
links_for ts [] d = inl refl
links_for ts (r ∷ rs) d = go (links_in ts) refl
  where
    go : (l : Result Graph Fault) → links_in ts ≡ l → LinksFor ts (map key_at (r ∷ rs))
    go (Ok g) e = inr (g, e)
    go (Err f) e = absurd (none_here ts f r.name r.value (value_in r.value) e d.0)

-- ---- the state of a database that was loaded

made_as : (ts : List ModuleText) (o : Option Kept) (b : Bool) → is_some o ≡ b → option_map (λ (kept : Kept). ts) o ≡ (if b then Some ts else None)
made_as ts None true e = cc
made_as ts None false e = refl
made_as ts (Some kept) true e = refl
made_as ts (Some kept) false e = cc

pub taken_stands : (sh : MemoCells) (ts : List ModuleText) (seen ks : List Key) → Taken sh ts (definition ts) seen ks → StandsFor sh ts (made_now none_made ts ks)
taken_stands sh ts seen ks t =
    subst (StandsFor sh ts) (λ i k x. made_as ts ((sh (result k) x).kept) (holds ks (record { kind = k; name = x })) (t.kept_are k x) i) (loaded_stands sh ts t.keeps)

-- all were kept
pub keeps_whole : (ts us : List ModuleText) (old new : MemoCells) (ks keys before seen : List Key) → us ≡ ts → keys ≡ ks → before ≡ ks → KeepsResults us old before keys new seen → KeepsAll ts old ks new
keeps_whole ts us old new ks keys before seen t e b k links d taken stored =
    let same : KeepsResults ts old ks ks new seen = subst (λ js. KeepsResults ts old ks js new seen) e (subst (λ js. KeepsResults ts old js keys new seen) b (subst (λ vs. KeepsResults vs old before keys new seen) t k)) in
    (seen, same.takes links d [] taken stored taken.first)

-- a database over texts is in some state
pub in_plain : (d : Db) (ts : List ModuleText) → IsIn d (plain_state ts) → IsInSome d
in_plain d ts i = record { state = plain_state ts; is_in = i }

pub is_loaded : (b : Base) (old mid : MemoCells) (d : Db) (ks : List Key) → StandsFor old (texts_in b) none_made → SeesResults old b.results mid ks → KeepsAll (texts_in b) mid ks (memo_cells_in d) → texts_of d ≡ texts_in b → d.fresh ≡ ks → IsSaved b → IsIn d (loaded_state b)
is_loaded b old mid d ks s sees keeps texts fresh saved =
    let ts = texts_in b in
    let first : Taken mid ts (definition ts) ks [] = sees.takes ts (definition ts) saved (λ k e. refl) s in
    let links : LinksFor ts ks = subst (LinksFor ts) (sym sees.adds) (links_for ts b.results saved) in
    let all = keeps links (definition ts) first (subst (Each IsStoredKey) (sym sees.adds) (keys_are_stored b.results)) in
    record {
      texts = texts;
      stands = subst (λ js. StandsFor (memo_cells_in d) ts (made_now none_made ts js)) sees.adds (taken_stands (memo_cells_in d) ts all.0 ks all.1);
      fresh = fresh ∙ sees.adds;
    }
