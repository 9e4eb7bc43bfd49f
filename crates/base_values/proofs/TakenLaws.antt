-- Results that fit their module: their numbers are small, and analyses take them.
use Rattle.std.proofs.Common.{◌≡◌, ℕ, zero, suc, ◌<◌, Bool, true, false, ◌&&◌, ◌||◌, List, [], ◌∷◌, length, map, Option, refl, ap, ◌∙◌, arith, ℤ, pos, negsuc, int_lt, if◌then◌else◌, get_or}
use Rattle.std.specs.Prelude.{codes, All, int_le, slice_index_or}
use Rattle.std.specs.List.{list_all}
use Rattle.serde_json.specs.Data.{Data, null, number, string, Items, no_items, item}
use Rattle.serde_json.specs.Find.{of_integer}
use Rattle.serde_json.specs.View.{items_of}
use Rattle.serde_json.specs.Written.{has_float, items_have_float}
use Rattle.affine_systems.specs.declared.row.Term.{Term}
use Rattle.affine_systems.specs.declared.row.Row.{Row}
use Rattle.affine_systems.specs.declared.row.System.{System}
use Rattle.affine_systems.specs.Given.{Fits}
use Rattle.affine_systems.proofs.Basics.{if_cases}
use Rattle.hull_projection.specs.Minus.{AllFit}
use Rattle.f77_ast.specs.declared.variable.Unit.{Unit as BlockUnit}
use Rattle.f77_ast.specs.declared.variable.Variable.{Variable}
use Rattle.f77_ast.specs.declared.effect_set.EffectSet.{EffectSet}
use Rattle.f77_ast.specs.declared.results.At.{At}
use Rattle.f77_ast.specs.declared.results.Results.{Results}
use Rattle.pipsmake_rules.specs.declared.kind.Kind.{Kind}
use Rattle.pipsmake_rules.specs.declared.kind.Kind.TheVariants.{Regions, InRegions, OutRegions}
use Rattle.preconditions.specs.transformer_algebra.declared.transformer.Transformer.{Transformer}
use Rattle.preconditions.specs.transformers.Given.{ResultsFit as TransformersFit}
use Rattle.preconditions.specs.Statement.{EachFits}
use Rattle.region_sets.specs.declared.region.Region.{Region}
use Rattle.region_sets.specs.Regions.{RegionFits as PiecesOf}
use Rattle.region_sets.specs.Sets.{SetFits}
use Rattle.region_sets.specs.Lists.{SetsFit}
use Rattle.f77_ast.specs.declared.marks.Kinds.{Kinds}
use Rattle.f77_ast.specs.declared.marks.Reason.{Reason}
use Rattle.f77_ast.specs.declared.marks.Reason.TheVariants.{Jump, InputOutput, Step, Index, Carries}
use Rattle.f77_ast.specs.declared.marks.Mark.{Mark}
use Rattle.f77_ast.specs.declared.marks.Mark.TheVariants.{Parallel, Serial}
use Rattle.base_json.specs.Written.{list_data, number_data, whole_data}
use Rattle.base_json.specs.Scopes.{ScopeTree, cells_alone, with_exits, with_phi}
use Rattle.base_json.specs.Read.{is_small_system}
use Rattle.base_json.specs.RowsWritten.{term_data, flag_data, row_data, system_data}
use Rattle.base_values.specs.declared.stored.StoredValue.{StoredValue}
use Rattle.base_values.specs.declared.stored.StoredValue.TheVariants as stored
use Rattle.base_values.specs.Modules.{ModuleNames}
use Rattle.base_values.specs.Naming.{Each, SystemFits}
use Rattle.base_values.specs.Written.{variable_data, effects_data, unit_data, transformer_data, pieces_data, region_data, regions_data, conflict_data, private_data, carried_data, reason_data, mark_data, at_data, all_data, results_data, entry_data, stored_data}
use Rattle.base_values.specs.Sizes.{is_small_transformer, is_small_region, are_small_regions, all_small, is_small_value}
use Rattle.base_values.specs.Fits.{TransformerFits, PiecesFit, RegionFits, RegionsFit, ResultsFit, StoredFits}
use Rattle.base_values.specs.Laws.{FitsIsSmall, FitsIsTaken, WrittenIsWhole}
use Rattle.base_values.proofs.Options.{each_map, all_each}
use Rattle.base_values.proofs.RowsBack.{system_small}
use Rattle.fx_lists.proofs.Booleans.{neither as or_false, and_from}

-- ---- sizes

results_small : {T : Type 0} (p : T → Bool) (P : T → Type 0) → ((x : T) → P x → p x ≡ true) → (ns : List ℕ) (r : Results T) → ResultsFit P ns r → all_small p r ≡ true
results_small {T} p P h ns r k =
    and_from (p r.summary) (list_all (λ (a : At T). p a.value) r.at) (h r.summary k.1)
    (all_each (λ (a : At T). p a.value) r.at (each_map (λ (a : At T). P a.value) (λ (a : At T). p a.value ≡ true) (λ a q. h a.value q) r.at k.0.1))

transformer_small : (names : List (List ℕ)) (t : Transformer) → TransformerFits names t → is_small_transformer t ≡ true
transformer_small names t h = system_small (with_exits t.cells (cells_alone names)) t.system h.2

pieces_small : (names : List (List ℕ)) (ps : List System) → PiecesFit names ps → list_all is_small_system ps ≡ true
pieces_small names ps h = let s = with_phi (cells_alone names) in all_each is_small_system ps (each_map (SystemFits s) (λ y. is_small_system y ≡ true) (system_small s) ps h.0)

regions_small : (names : List (List ℕ)) (k : Kind) (rs : List Region) → RegionsFit names k rs → are_small_regions rs ≡ true
regions_small names k rs h = all_each is_small_region rs (each_map (RegionFits names k) (λ r. is_small_region r ≡ true) (λ r f. pieces_small names r.pieces f.2) rs h.0)

pub fits_is_small : FitsIsSmall
fits_is_small m (stored.Effects r) h = refl
fits_is_small m (stored.Transformers r) h = results_small is_small_transformer (TransformerFits m.names) (transformer_small m.names) m.statements r h
fits_is_small m (stored.Preconditions r) h = results_small is_small_system (SystemFits (cells_alone m.names)) (system_small (cells_alone m.names)) m.statements r h
fits_is_small m (stored.Regions r) h = results_small are_small_regions (RegionsFit m.names Regions) (regions_small m.names Regions) m.statements r h
fits_is_small m (stored.InRegions r) h = results_small are_small_regions (RegionsFit m.names InRegions) (regions_small m.names InRegions) m.statements r h
fits_is_small m (stored.OutRegions r) h = results_small are_small_regions (RegionsFit m.names OutRegions) (regions_small m.names OutRegions) m.statements r h
fits_is_small m (stored.Marks ms) h = refl

-- ---- what analyses take

transformers_fit : (names : List (List ℕ)) (as' : List (At Transformer)) → Each (λ (a : At Transformer). TransformerFits names a.value) as' → TransformersFit as'
transformers_fit names [] h = tt
transformers_fit names (a ∷ as') h = (h.0.2.0, transformers_fit names as' h.1)

systems_fit : (names : List (List ℕ)) (as' : List (At System)) → Each (λ (a : At System). SystemFits (cells_alone names) a.value) as' → EachFits as'
systems_fit names [] h i d l = absurd (omega arith)
systems_fit names (a ∷ as') h i d l = place i l (λ j k. systems_fit names as' h.1 j d k) where
  place : (i : ℕ) → i < length (a ∷ as') → ((j : ℕ) → j < length as' → Fits (slice_index_or as' j d).value) → Fits (slice_index_or (a ∷ as') i d).value
  place zero k rest = h.0.0
  place (suc j) k rest = rest j (omega arith)

pieces_fit : (names : List (List ℕ)) (ps : List System) → Each (SystemFits (with_phi (cells_alone names))) ps → AllFit ps
pieces_fit names [] h = tt
pieces_fit names (s ∷ ss) h = (h.0.0, pieces_fit names ss h.1)

set_fits : (names : List (List ℕ)) (k : Kind) (rs : List Region) → Each (RegionFits names k) rs → SetFits rs
set_fits names k [] h = tt
set_fits names k (r ∷ rs) h = (pieces_fit names r.pieces h.0.2.0, set_fits names k rs h.1)

sets_fit : (names : List (List ℕ)) (k : Kind) (as' : List (At (List Region))) → Each (λ (a : At (List Region)). RegionsFit names k a.value) as' → SetsFit as'
sets_fit names k [] h = tt
sets_fit names k (a ∷ as') h = (set_fits names k a.value h.0.0, sets_fit names k as' h.1)

regions_taken : (m : ModuleNames) (k : Kind) (r : Results (List Region)) → ResultsFit (RegionsFit m.names k) m.statements r → SetsFit r.at × SetFits r.summary
regions_taken m k r h = (sets_fit m.names k r.at h.0.1, set_fits m.names k r.summary h.1.0)

pub fits_is_taken : FitsIsTaken
fits_is_taken m (stored.Effects r) h = tt
fits_is_taken m (stored.Transformers r) h = (transformers_fit m.names r.at h.0.1, h.1.2.0)
fits_is_taken m (stored.Preconditions r) h = (systems_fit m.names r.at h.0.1, h.1.0)
fits_is_taken m (stored.Regions r) h = regions_taken m Regions r h
fits_is_taken m (stored.InRegions r) h = regions_taken m InRegions r h
fits_is_taken m (stored.OutRegions r) h = regions_taken m OutRegions r h
fits_is_taken m (stored.Marks ms) h = tt

-- ---- whole numbers alone

-- data without numbers that are not whole
abbrev pub IsWhole : Data → Type 0
IsWhole d = has_float d ≡ false

pub items_whole : {A : Type 0} (g : A → Data) → ((x : A) → IsWhole (g x)) → (xs : List A) → items_have_float (items_of (map g xs)) ≡ false
items_whole g h [] = refl
items_whole g h (x ∷ xs) = or_false (has_float (g x)) (items_have_float (items_of (map g xs))) (h x) (items_whole g h xs)

number_whole : (z : ℤ) → IsWhole (number (of_integer z))
number_whole (pos n) = refl
number_whole (negsuc n) = refl

whole_whole : (z : ℤ) → IsWhole (whole_data z)
whole_whole z =
    if_cases IsWhole (int_lt z (pos 0)) (if int_le (negsuc 9223372036854775807) z then number (of_integer z) else null) (if int_lt z (pos 18446744073709551616) then number (of_integer z) else null)
    (λ e. if_cases IsWhole (int_le (negsuc 9223372036854775807) z) (number (of_integer z)) null (λ f. number_whole z) (λ f. refl))
    (λ e. if_cases IsWhole (int_lt z (pos 18446744073709551616)) (number (of_integer z)) null (λ f. number_whole z) (λ f. refl))

term_whole : (t : Term) → IsWhole (term_data t)
term_whole t = or_false (has_float (whole_data t.factor)) false (whole_whole t.factor) refl

flag_whole : (b : Bool) → IsWhole (flag_data b)
flag_whole true = refl
flag_whole false = refl

row_whole : (r : Row) → IsWhole (row_data r)
row_whole r =
    or_false (has_float (flag_data r.equal)) (has_float (whole_data r.bound) || (has_float (list_data (map term_data r.terms)) || false)) (flag_whole r.equal)
    (or_false (has_float (whole_data r.bound)) (has_float (list_data (map term_data r.terms)) || false) (whole_whole r.bound)
    (or_false (has_float (list_data (map term_data r.terms))) false (items_whole term_data term_whole r.terms) refl))

pub system_whole : (s : System) → IsWhole (system_data s)
system_whole s = or_false (has_float (list_data (map row_data s.rows))) false (items_whole row_data row_whole s.rows) refl

variables_whole : (names : List (List ℕ)) (vs : List Variable) → IsWhole (list_data (map (variable_data names) vs))
variables_whole names vs = items_whole (variable_data names) (λ v. refl) vs

effects_whole : (names : List (List ℕ)) (e : EffectSet) → IsWhole (effects_data names e)
effects_whole names e =
    or_false (has_float (list_data (map (variable_data names) e.reads))) (has_float (list_data (map (variable_data names) e.writes)) || false) (variables_whole names e.reads)
    (or_false (has_float (list_data (map (variable_data names) e.writes))) false (variables_whole names e.writes) refl)

transformer_whole : (t : Transformer) → IsWhole (transformer_data t)
transformer_whole t =
    or_false (has_float (list_data (map number_data t.cells))) (has_float (list_data (map unit_data t.foreign)) || (has_float (system_data t.system) || false)) (items_whole number_data (λ n. refl) t.cells)
    (or_false (has_float (list_data (map unit_data t.foreign))) (has_float (system_data t.system) || false) (items_whole unit_data (λ u. refl) t.foreign)
    (or_false (has_float (system_data t.system)) false (system_whole t.system) refl))

region_whole : (names : List (List ℕ)) (r : Region) → IsWhole (region_data names r)
region_whole names r = or_false (has_float (pieces_data r.pieces)) false (items_whole system_data system_whole r.pieces) refl

regions_whole : (names : List (List ℕ)) (rs : List Region) → IsWhole (regions_data names rs)
regions_whole names rs = items_whole (region_data names) (region_whole names) rs

conflict_whole : (k : Kinds) → IsWhole (conflict_data k)
conflict_whole k = refl

reason_whole : (names : List (List ℕ)) (r : Reason) → IsWhole (reason_data names r)
reason_whole names Jump = refl
reason_whole names InputOutput = refl
reason_whole names Step = refl
reason_whole names Index = refl
reason_whole names (Carries v ks p) = or_false (has_float (list_data (map conflict_data ks))) false (items_whole conflict_data conflict_whole ks) refl

pub mark_whole : (names : List (List ℕ)) (m : Mark) → IsWhole (mark_data names m)
mark_whole names (Parallel ns) = items_whole (private_data names) (λ n. refl) ns
mark_whole names (Serial r) = reason_whole names r

at_whole : {T : Type 0} (g : T → Data) → ((x : T) → IsWhole (g x)) → (a : At T) → IsWhole (at_data g a)
at_whole g h a = or_false (has_float (g a.value)) false (h a.value) refl

all_whole : {T : Type 0} (g : T → Data) → ((x : T) → IsWhole (g x)) → (as' : List (At T)) → IsWhole (all_data g as')
all_whole g h as' = items_whole (at_data g) (at_whole g h) as'

results_whole : {T : Type 0} (g : T → Data) → ((x : T) → IsWhole (g x)) → (r : Results T) → IsWhole (results_data g r)
results_whole g h r = or_false (has_float (all_data g r.at)) (has_float (g r.summary) || false) (all_whole g h r.at) (or_false (has_float (g r.summary)) false (h r.summary) refl)

pub written_is_whole : WrittenIsWhole
written_is_whole names (stored.Effects r) = results_whole (effects_data names) (effects_whole names) r
written_is_whole names (stored.Transformers r) = results_whole transformer_data transformer_whole r
written_is_whole names (stored.Preconditions r) =
    or_false (has_float (all_data system_data r.at)) (has_float (system_data r.summary) || false) (all_whole system_data system_whole r.at) (or_false (has_float (system_data r.summary)) false (system_whole r.summary) refl)
written_is_whole names (stored.Regions r) = results_whole (regions_data names) (regions_whole names) r
written_is_whole names (stored.InRegions r) = results_whole (regions_data names) (regions_whole names) r
written_is_whole names (stored.OutRegions r) = results_whole (regions_data names) (regions_whole names) r
written_is_whole names (stored.Marks ms) = all_whole (mark_data names) (mark_whole names) ms
