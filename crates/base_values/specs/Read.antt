-- Results of a module out of JSON data: none where it has another shape, or does not fit the module. The sizes of the numbers of rows are looked at
-- apart.
use Rattle.std.specs.Prelude.{ℕ, Bool, true, false, ◌&&◌, List, [], ◌∷◌, ◌++◌, length, map, Option, Some, None, option_map, option_and_then, codes, nat_eq, nat_lt, bytes_eq, if◌then◌else◌}
use Rattle.serde_json.specs.Data.{Data}
use Rattle.serde_json.specs.Find.{as_bool, as_str}
use Rattle.affine_systems.specs.declared.row.System.{System}
use Rattle.f77_ast.specs.declared.variable.Unit.{Unit as BlockUnit}
use Rattle.f77_ast.specs.declared.variable.Variable.{Variable}
use Rattle.f77_ast.specs.declared.variable.Variable.TheVariants.{Own, Block, Saved}
use Rattle.f77_ast.specs.declared.effect_set.EffectSet.{EffectSet}
use Rattle.f77_ast.specs.declared.results.At.{At}
use Rattle.f77_ast.specs.declared.results.Results.{Results}
use Rattle.pipsmake_rules.specs.declared.kind.Kind.{Kind}
use Rattle.pipsmake_rules.specs.declared.kind.Kind.TheVariants.{Parsed, Lines, Symbols, CallGraph, Effects, Transformers, Preconditions, Regions, InRegions, OutRegions, Marks, Printed}
use Rattle.pipsmake_rules.specs.Kinds.{same_kind}
use Rattle.preconditions.specs.transformer_algebra.declared.transformer.Transformer.{Transformer}
use Rattle.region_sets.specs.declared.region.Access.{Access}
use Rattle.region_sets.specs.declared.region.Region.{Region}
use Rattle.region_sets.specs.Regions.{region}
use Rattle.region_sets.specs.Written.{access_text, name_text}
use Rattle.f77_ast.specs.declared.marks.Kinds.{Kinds}
use Rattle.f77_ast.specs.declared.marks.Private.{Private}
use Rattle.f77_ast.specs.declared.marks.Reason.{Reason}
use Rattle.f77_ast.specs.declared.marks.Reason.TheVariants.{Carries}
use Rattle.f77_ast.specs.declared.marks.Mark.{Mark}
use Rattle.f77_ast.specs.declared.marks.Mark.TheVariants.{Parallel, Serial}
use Rattle.base_json.specs.Shapes.{list_of, has_members, pair_of, member_as, each_as, list_as, when, offset_of, text_of}
use Rattle.base_json.specs.Scopes.{ScopeTree, cell_of, is_block, variable_of, cells_alone, with_exits, with_phi}
use Rattle.base_json.specs.Distinct.{are_new}
use Rattle.base_json.specs.Read.{system_of}
use Rattle.base_values.specs.declared.stored.StoredValue.{StoredValue}
use Rattle.base_values.specs.declared.stored.StoredValue.TheVariants as stored
use Rattle.base_values.specs.Modules.{ModuleNames}
use Rattle.base_values.specs.Words.{access_named, result_with, conflict_named, answer_named, reason_named}

-- ---- effects

abbrev pub effect_set : List Variable → List Variable → Bool → Bool → EffectSet
effect_set rs ws io stops = record { reads = rs; writes = ws; io = io; stops = stops }

abbrev pub effects_of : ScopeTree → Data → Option EffectSet
effects_of s d =
    if has_members 4 d
    then option_and_then (λ rs. option_and_then (λ ws. option_and_then (λ io. option_map (effect_set rs ws io) (member_as as_bool (codes "stops") d))
    (member_as as_bool (codes "io") d)) (member_as (list_as (variable_of s)) (codes "writes") d)) (member_as (list_as (variable_of s)) (codes "reads") d)
    else None

-- ---- transformers

abbrev pub block_unit : List ℕ → ℕ → BlockUnit
block_unit b n = record { block = b; offset = n }

-- of a block and an offset
abbrev pub unit_in : Data → Data → Option BlockUnit
unit_in b o = option_and_then (λ x. option_and_then (λ n. when (is_block x) (block_unit x n)) (offset_of o)) (text_of b)

abbrev pub unit_of : Data → Option BlockUnit
unit_of d = option_and_then (λ p. unit_in p.0 p.1) (pair_of d)

abbrev pub transformer : List ℕ → List BlockUnit → System → Transformer
transformer cs us s = record { cells = cs; foreign = us; system = s }

-- its system may name the exits of its cells
abbrev pub transformer_of : ScopeTree → Data → Option Transformer
transformer_of s d =
    if has_members 3 d
    then option_and_then (λ cs. option_and_then (λ us. option_map (transformer cs us) (member_as (system_of (with_exits cs s)) (codes "system") d))
    (member_as (list_as unit_of) (codes "foreign") d)) (member_as (list_as (cell_of s)) (codes "cells") d)
    else None

-- ---- regions

-- a kind of region that results of a kind have
abbrev pub access_of : Kind → Data → Option Access
access_of k d = option_and_then (λ a. when (same_kind (result_with a) k) a) (option_and_then access_named (as_str d))

-- from one system to four
abbrev pub are_few : List System → Bool
are_few ss = nat_lt 0 (length ss) && nat_lt (length ss) 5

-- the systems of a region, which may name subscripts
abbrev pub pieces_of : ScopeTree → Data → Option (List System)
pieces_of s d = option_and_then (λ ss. when (are_few ss) ss) (list_as (system_of (with_phi s)) d)

abbrev pub region_of : ScopeTree → Kind → Data → Option Region
region_of s k d =
    if has_members 4 d
    then option_and_then (λ e. option_and_then (λ a. option_and_then (λ v. option_map (region v a e) (member_as (pieces_of s) (codes "pieces") d))
    (member_as (variable_of s) (codes "of") d)) (member_as (access_of k) (codes "kind") d)) (member_as as_bool (codes "exact") d)
    else None

-- what tells a region from others: its kind and its variable, as they are written
abbrev pub region_key : List (List ℕ) → Region → List ℕ
region_key names r = access_text r.kind ++ name_text names r.variable

-- no two of one kind and variable
abbrev pub are_apart : List (List ℕ) → List Region → Bool
are_apart names rs = are_new [] (map (region_key names) rs)

abbrev pub regions_of : ScopeTree → Kind → Data → Option (List Region)
regions_of s k d = option_and_then (λ rs. when (are_apart s.names rs) rs) (list_as (region_of s k) d)

-- ---- marks

-- the numbers of own variables
abbrev pub with_number : Variable → Option (List ℕ) → Option (List ℕ)
with_number (Own n) ns = option_map (λ ms. n ∷ ms) ns
with_number (Block b) ns = None
with_number (Saved m x) ns = None

abbrev pub numbers_of : List Variable → Option (List ℕ)
numbers_of [] = Some []
numbers_of (v ∷ vs) = with_number v (numbers_of vs)

abbrev pub conflict_of : Data → Option Kinds
conflict_of d = option_and_then conflict_named (as_str d)

abbrev pub answer_of : Data → Option Private
answer_of d = option_and_then answer_named (as_str d)

-- of a variable, the kinds of dependence through it, and whether it may be private
abbrev pub carried_in : ScopeTree → Data → Data → Data → Option Reason
carried_in s v ks p = option_and_then (λ v. option_and_then (λ ks. option_map (Carries v ks) (answer_of p)) (list_as conflict_of ks)) (variable_of s v)

abbrev pub reason_in : ScopeTree → List Data → Option Reason
reason_in s [] = None
reason_in s (d ∷ []) = option_and_then reason_named (as_str d)
reason_in s (d ∷ e ∷ []) = None
reason_in s (d ∷ e ∷ f ∷ []) = carried_in s d e f
reason_in s (d ∷ e ∷ f ∷ g ∷ gs) = None

-- of its first word and what follows it
abbrev pub mark_by : ScopeTree → List Data → List ℕ → Option Mark
mark_by s ds w =
    if bytes_eq w (codes "PARALLEL") then option_map Parallel (option_and_then numbers_of (each_as (variable_of s) ds))
    else if bytes_eq w (codes "SERIAL") then option_map Serial (reason_in s ds)
    else None

abbrev pub mark_in : ScopeTree → List Data → Option Mark
mark_in s [] = None
mark_in s (d ∷ ds) = option_and_then (mark_by s ds) (as_str d)

abbrev pub mark_of : ScopeTree → Data → Option Mark
mark_of s d = option_and_then (mark_in s) (list_of d)

-- ---- at statements

abbrev pub at_number : {T : Type 0} → ℕ → T → At T
at_number n x = record { id = n; value = x }

abbrev pub is_number : ℕ → Option ℕ → Bool
is_number n None = false
is_number n (Some m) = nat_eq n m

-- what is said of the statement with this number, of a pair of a number and the rest
abbrev pub at_in : {T : Type 0} → (Data → Option T) → ℕ → Data → Data → Option (At T)
at_in f n i d = if is_number n (offset_of i) then option_map (at_number n) (f d) else None

abbrev pub at_one : {T : Type 0} → (Data → Option T) → ℕ → Data → Option (At T)
at_one f n d = option_and_then (λ p. at_in f n p.0 p.1) (pair_of d)

-- of just the statements with these numbers, in their order
abbrev pub at_each : {T : Type 0} → (Data → Option T) → List ℕ → List Data → Option (List (At T))
at_each f [] [] = Some []
at_each f [] (d ∷ ds) = None
at_each f (n ∷ ns) [] = None
at_each f (n ∷ ns) (d ∷ ds) = option_and_then (λ a. option_map (λ as'. a ∷ as') (at_each f ns ds)) (at_one f n d)

abbrev pub at_all : {T : Type 0} → (Data → Option T) → List ℕ → Data → Option (List (At T))
at_all f ns d = option_and_then (at_each f ns) (list_of d)

abbrev pub results : {T : Type 0} → List (At T) → T → Results T
results as' x = record { at = as'; summary = x }

-- of a module with these statements; its summary is under a key
abbrev pub results_of : {T : Type 0} → (Data → Option T) → List ℕ → List ℕ → Data → Option (Results T)
results_of f ns key d =
    if has_members 2 d
    then option_and_then (λ as'. option_map (results as') (member_as f key d)) (member_as (at_all f ns) (codes "at") d)
    else None

-- ---- one result of a kind; other kinds are not stored

-- of a module with these statements and loops
abbrev pub value_of : List ℕ → List ℕ → ScopeTree → Kind → Data → Option StoredValue
value_of ns ls s Parsed d = None
value_of ns ls s Lines d = None
value_of ns ls s Symbols d = None
value_of ns ls s CallGraph d = None
value_of ns ls s Effects d = option_map stored.Effects (results_of (effects_of s) ns (codes "summary") d)
value_of ns ls s Transformers d = option_map stored.Transformers (results_of (transformer_of s) ns (codes "summary") d)
value_of ns ls s Preconditions d = option_map stored.Preconditions (results_of (system_of s) ns (codes "entry") d)
value_of ns ls s Regions d = option_map stored.Regions (results_of (regions_of s Regions) ns (codes "summary") d)
value_of ns ls s InRegions d = option_map stored.InRegions (results_of (regions_of s InRegions) ns (codes "summary") d)
value_of ns ls s OutRegions d = option_map stored.OutRegions (results_of (regions_of s OutRegions) ns (codes "summary") d)
value_of ns ls s Marks d = option_map stored.Marks (at_all (mark_of s) ls d)
value_of ns ls s Printed d = None

abbrev pub stored_of : ModuleNames → Kind → Data → Option StoredValue
stored_of m k d = value_of m.statements m.loops (cells_alone m.names) k d
