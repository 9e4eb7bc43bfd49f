-- Results of a module as JSON data, with the names of its symbols, from 1.
use Rattle.std.specs.Prelude.{ℕ, List, [], ◌∷◌, map, codes}
use Rattle.serde_json.specs.Data.{Data, boolean, string, object, no_members, member}
use Rattle.affine_systems.specs.declared.row.System.{System}
use Rattle.system_text.specs.SystemText.{name_at}
use Rattle.f77_ast.specs.declared.variable.Unit.{Unit as BlockUnit}
use Rattle.f77_ast.specs.declared.variable.Variable.{Variable}
use Rattle.f77_ast.specs.declared.effect_set.EffectSet.{EffectSet}
use Rattle.f77_ast.specs.declared.results.At.{At}
use Rattle.f77_ast.specs.declared.results.Results.{Results}
use Rattle.preconditions.specs.transformer_algebra.declared.transformer.Transformer.{Transformer}
use Rattle.region_sets.specs.declared.region.Region.{Region}
use Rattle.region_sets.specs.Written.{name_text}
use Rattle.f77_ast.specs.declared.marks.Kinds.{Kinds}
use Rattle.f77_ast.specs.declared.marks.Private.{Private}
use Rattle.f77_ast.specs.declared.marks.Reason.{Reason}
use Rattle.f77_ast.specs.declared.marks.Reason.TheVariants.{Jump, InputOutput, Step, Index, Carries}
use Rattle.f77_ast.specs.declared.marks.Mark.{Mark}
use Rattle.f77_ast.specs.declared.marks.Mark.TheVariants.{Parallel, Serial}
use Rattle.base_json.specs.Written.{list_data, number_data, text_data}
use Rattle.base_json.specs.RowsWritten.{system_data}
use Rattle.base_values.specs.declared.stored.StoredValue.{StoredValue}
use Rattle.base_values.specs.declared.stored.StoredValue.TheVariants as stored
use Rattle.base_values.specs.Words.{access_word, conflict_word, answer_word}

-- a symbol by its name, a block as `/B/`, a saved local of another module as `S:X`
abbrev pub variable_data : List (List ℕ) → Variable → Data
variable_data names v = text_data (name_text names v)

abbrev pub variables_data : List (List ℕ) → List Variable → Data
variables_data names vs = list_data (map (variable_data names) vs)

abbrev pub effects_data : List (List ℕ) → EffectSet → Data
effects_data names e =
    object (member (codes "io") (boolean e.io) (member (codes "reads") (variables_data names e.reads)
    (member (codes "stops") (boolean e.stops) (member (codes "writes") (variables_data names e.writes) no_members))))

abbrev pub unit_data : BlockUnit → Data
unit_data u = list_data (text_data u.block ∷ number_data u.offset ∷ [])

abbrev pub transformer_data : Transformer → Data
transformer_data t =
    object (member (codes "cells") (list_data (map number_data t.cells)) (member (codes "foreign") (list_data (map unit_data t.foreign))
    (member (codes "system") (system_data t.system) no_members)))

-- the systems of a region
abbrev pub pieces_data : List System → Data
pieces_data ss = list_data (map system_data ss)

abbrev pub region_data : List (List ℕ) → Region → Data
region_data names r =
    object (member (codes "exact") (boolean r.exact) (member (codes "kind") (string (access_word r.kind))
    (member (codes "of") (variable_data names r.variable) (member (codes "pieces") (pieces_data r.pieces) no_members))))

abbrev pub regions_data : List (List ℕ) → List Region → Data
regions_data names rs = list_data (map (region_data names) rs)

abbrev pub conflict_data : Kinds → Data
conflict_data k = string (conflict_word k)

-- `["SERIAL","Jump"]`
abbrev pub serial_data : List ℕ → Data
serial_data w = list_data (string (codes "SERIAL") ∷ string w ∷ [])

-- `["SERIAL","A",["W-R"],"Carried"]`
abbrev pub carried_data : List (List ℕ) → Variable → List Kinds → Private → Data
carried_data names v ks p = list_data (string (codes "SERIAL") ∷ variable_data names v ∷ list_data (map conflict_data ks) ∷ string (answer_word p) ∷ [])

abbrev pub reason_data : List (List ℕ) → Reason → Data
reason_data names Jump = serial_data (codes "Jump")
reason_data names InputOutput = serial_data (codes "InputOutput")
reason_data names Step = serial_data (codes "Step")
reason_data names Index = serial_data (codes "Index")
reason_data names (Carries v ks p) = carried_data names v ks p

abbrev pub private_data : List (List ℕ) → ℕ → Data
private_data names n = text_data (name_at names n)

abbrev pub mark_data : List (List ℕ) → Mark → Data
mark_data names (Parallel ns) = list_data (string (codes "PARALLEL") ∷ map (private_data names) ns)
mark_data names (Serial r) = reason_data names r

-- a pair of the number of a statement and what is said of it
abbrev pub at_data : {T : Type 0} → (T → Data) → At T → Data
at_data g a = list_data (number_data a.id ∷ g a.value ∷ [])

abbrev pub all_data : {T : Type 0} → (T → Data) → List (At T) → Data
all_data g as' = list_data (map (at_data g) as')

abbrev pub results_data : {T : Type 0} → (T → Data) → Results T → Data
results_data g r = object (member (codes "at") (all_data g r.at) (member (codes "summary") (g r.summary) no_members))

-- the summary of preconditions is what holds at the entry
abbrev pub entry_data : Results System → Data
entry_data r = object (member (codes "at") (all_data system_data r.at) (member (codes "entry") (system_data r.summary) no_members))

abbrev pub stored_data : List (List ℕ) → StoredValue → Data
stored_data names (stored.Effects r) = results_data (effects_data names) r
stored_data names (stored.Transformers r) = results_data transformer_data r
stored_data names (stored.Preconditions r) = entry_data r
stored_data names (stored.Regions r) = results_data (regions_data names) r
stored_data names (stored.InRegions r) = results_data (regions_data names) r
stored_data names (stored.OutRegions r) = results_data (regions_data names) r
stored_data names (stored.Marks ms) = all_data (mark_data names) ms
