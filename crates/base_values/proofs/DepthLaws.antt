-- How deep what is written of results nests.
use Rattle.std.proofs.Common.{◌≡◌, ℕ, suc, ◌≤◌, max, Bool, true, false, List, [], ◌∷◌, map, arith, ℤ, pos, negsuc, int_lt, if◌then◌else◌}
use Rattle.std.specs.Prelude.{int_le}
use Rattle.serde_json.specs.Data.{Data, null, number, depth, items_depth}
use Rattle.serde_json.specs.Find.{of_integer}
use Rattle.serde_json.specs.View.{items_of}
use Rattle.affine_systems.specs.declared.row.Term.{Term}
use Rattle.affine_systems.specs.declared.row.Row.{Row}
use Rattle.affine_systems.specs.declared.row.System.{System}
use Rattle.affine_systems.proofs.Basics.{if_cases}
use Rattle.f77_ast.specs.declared.variable.Unit.{Unit as BlockUnit}
use Rattle.f77_ast.specs.declared.variable.Variable.{Variable}
use Rattle.f77_ast.specs.declared.effect_set.EffectSet.{EffectSet}
use Rattle.f77_ast.specs.declared.results.At.{At}
use Rattle.f77_ast.specs.declared.results.Results.{Results}
use Rattle.preconditions.specs.transformer_algebra.declared.transformer.Transformer.{Transformer}
use Rattle.region_sets.specs.declared.region.Region.{Region}
use Rattle.f77_ast.specs.declared.marks.Kinds.{Kinds}
use Rattle.f77_ast.specs.declared.marks.Reason.{Reason}
use Rattle.f77_ast.specs.declared.marks.Reason.TheVariants.{Jump, InputOutput, Step, Index, Carries}
use Rattle.f77_ast.specs.declared.marks.Mark.{Mark}
use Rattle.f77_ast.specs.declared.marks.Mark.TheVariants.{Parallel, Serial}
use Rattle.base_json.specs.Written.{list_data, number_data, whole_data}
use Rattle.base_json.specs.RowsWritten.{term_data, flag_data, row_data, system_data}
use Rattle.base_values.specs.declared.stored.StoredValue.{StoredValue}
use Rattle.base_values.specs.declared.stored.StoredValue.TheVariants as stored
use Rattle.base_values.specs.Written.{variable_data, variables_data, effects_data, unit_data, transformer_data, pieces_data, region_data, regions_data, conflict_data, private_data, reason_data, mark_data, at_data, all_data, results_data, entry_data, stored_data}
use Rattle.base_values.specs.Laws.{WrittenIsFlat}

abbrev pub IsWithin : ℕ → Data → Type 0
IsWithin n d = depth d ≤ n

items_within : {A : Type 0} (g : A → Data) (n : ℕ) → ((x : A) → IsWithin n (g x)) → (xs : List A) → items_depth (items_of (map g xs)) ≤ n
items_within g n h [] = omega arith
items_within g n h (x ∷ xs) = omega (arith, h x, items_within g n h xs)

-- an array of such values is one deeper
pub list_within : {A : Type 0} (g : A → Data) (n : ℕ) → ((x : A) → IsWithin n (g x)) → (xs : List A) → IsWithin (suc n) (list_data (map g xs))
list_within g n h xs = omega (arith, items_within g n h xs)

number_within : (z : ℤ) → IsWithin 0 (number (of_integer z))
number_within z = omega arith

whole_within : (z : ℤ) → IsWithin 0 (whole_data z)
whole_within z =
    if_cases (IsWithin 0) (int_lt z (pos 0)) (if int_le (negsuc 9223372036854775807) z then number (of_integer z) else null) (if int_lt z (pos 18446744073709551616) then number (of_integer z) else null)
    (λ e. if_cases (IsWithin 0) (int_le (negsuc 9223372036854775807) z) (number (of_integer z)) null (λ f. number_within z) (λ f. omega arith))
    (λ e. if_cases (IsWithin 0) (int_lt z (pos 18446744073709551616)) (number (of_integer z)) null (λ f. number_within z) (λ f. omega arith))

term_within : (t : Term) → IsWithin 1 (term_data t)
term_within t = omega (arith, whole_within t.factor)

flag_within : (b : Bool) → IsWithin 0 (flag_data b)
flag_within true = omega arith
flag_within false = omega arith

row_within : (r : Row) → IsWithin 3 (row_data r)
row_within r = omega (arith, flag_within r.equal, whole_within r.bound, list_within term_data 1 term_within r.terms)

system_within : (s : System) → IsWithin 5 (system_data s)
system_within s = omega (arith, list_within row_data 3 row_within s.rows)

variables_within : (names : List (List ℕ)) (vs : List Variable) → IsWithin 1 (variables_data names vs)
variables_within names vs = list_within (variable_data names) 0 (λ v. omega arith) vs

effects_within : (names : List (List ℕ)) (e : EffectSet) → IsWithin 8 (effects_data names e)
effects_within names e = omega (arith, variables_within names e.reads, variables_within names e.writes)

unit_within : (u : BlockUnit) → IsWithin 1 (unit_data u)
unit_within u = omega arith

transformer_within : (t : Transformer) → IsWithin 8 (transformer_data t)
transformer_within t = omega (arith, list_within number_data 0 (λ n. omega arith) t.cells, list_within unit_data 1 unit_within t.foreign, system_within t.system)

pieces_within : (ss : List System) → IsWithin 6 (pieces_data ss)
pieces_within ss = list_within system_data 5 system_within ss

region_within : (names : List (List ℕ)) (r : Region) → IsWithin 7 (region_data names r)
region_within names r = omega (arith, pieces_within r.pieces)

regions_within : (names : List (List ℕ)) (rs : List Region) → IsWithin 8 (regions_data names rs)
regions_within names rs = list_within (region_data names) 7 (region_within names) rs

reason_within : (names : List (List ℕ)) (r : Reason) → IsWithin 8 (reason_data names r)
reason_within names Jump = omega arith
reason_within names InputOutput = omega arith
reason_within names Step = omega arith
reason_within names Index = omega arith
reason_within names (Carries v ks p) = omega (arith, list_within conflict_data 0 (λ k. omega arith) ks)

mark_within : (names : List (List ℕ)) (m : Mark) → IsWithin 8 (mark_data names m)
mark_within names (Parallel ns) = omega (arith, items_within (private_data names) 0 (λ n. omega arith) ns)
mark_within names (Serial r) = reason_within names r

at_within : {T : Type 0} (g : T → Data) → ((x : T) → IsWithin 8 (g x)) → (a : At T) → IsWithin 9 (at_data g a)
at_within g h a = omega (arith, h a.value)

all_within : {T : Type 0} (g : T → Data) → ((x : T) → IsWithin 8 (g x)) → (as' : List (At T)) → IsWithin 10 (all_data g as')
all_within g h as' = list_within (at_data g) 9 (at_within g h) as'

results_within : {T : Type 0} (g : T → Data) → ((x : T) → IsWithin 8 (g x)) → (r : Results T) → IsWithin 12 (results_data g r)
results_within g h r = omega (arith, all_within g h r.at, h r.summary)

flat_system : (s : System) → IsWithin 8 (system_data s)
flat_system s = omega (arith, system_within s)

pub written_is_flat : WrittenIsFlat
written_is_flat names (stored.Effects r) = results_within (effects_data names) (effects_within names) r
written_is_flat names (stored.Transformers r) = results_within transformer_data transformer_within r
written_is_flat names (stored.Preconditions r) = omega (arith, all_within system_data flat_system r.at, flat_system r.summary)
written_is_flat names (stored.Regions r) = results_within (regions_data names) (regions_within names) r
written_is_flat names (stored.InRegions r) = results_within (regions_data names) (regions_within names) r
written_is_flat names (stored.OutRegions r) = results_within (regions_data names) (regions_within names) r
written_is_flat names (stored.Marks ms) = omega (arith, all_within (mark_data names) (mark_within names) ms)
