-- When a result fits the module that it belongs to.
use Rattle.std.specs.Prelude.{◌≡◌, ℕ, true, List, map}
use Rattle.affine_systems.specs.declared.row.System.{System}
use Rattle.f77_ast.specs.declared.variable.Unit.{Unit as BlockUnit}
use Rattle.f77_ast.specs.declared.effect_set.EffectSet.{EffectSet}
use Rattle.f77_ast.specs.declared.results.At.{At}
use Rattle.f77_ast.specs.declared.results.Results.{Results}
use Rattle.pipsmake_rules.specs.declared.kind.Kind.{Kind}
use Rattle.pipsmake_rules.specs.declared.kind.Kind.TheVariants.{Regions, InRegions, OutRegions}
use Rattle.pipsmake_rules.specs.Kinds.{same_kind}
use Rattle.preconditions.specs.transformer_algebra.declared.transformer.Transformer.{Transformer}
use Rattle.region_sets.specs.declared.region.Region.{Region}
use Rattle.f77_ast.specs.declared.marks.Reason.{Reason}
use Rattle.f77_ast.specs.declared.marks.Reason.TheVariants.{Jump, InputOutput, Step, Index, Carries}
use Rattle.f77_ast.specs.declared.marks.Mark.{Mark}
use Rattle.f77_ast.specs.declared.marks.Mark.TheVariants.{Parallel, Serial}
use Rattle.base_json.specs.Scopes.{is_symbol, is_block, cells_alone, with_exits, with_phi}
use Rattle.base_values.specs.declared.stored.StoredValue.{StoredValue}
use Rattle.base_values.specs.declared.stored.StoredValue.TheVariants as stored
use Rattle.base_values.specs.Modules.{ModuleNames}
use Rattle.base_values.specs.Words.{result_with}
use Rattle.base_values.specs.Naming.{Each, VariableFits, SystemFits}
use Rattle.base_values.specs.Read.{are_few, are_apart}

-- ---- results

abbrev pub EffectsFit : List (List ℕ) → EffectSet → Type 0
EffectsFit names e = Each (VariableFits names) e.reads × Each (VariableFits names) e.writes

-- its cells are symbols, and exits are of its cells
abbrev pub TransformerFits : List (List ℕ) → Transformer → Type 0
TransformerFits names t =
    Each (λ n. is_symbol names n ≡ true) t.cells × Each (λ (u : BlockUnit). is_block u.block ≡ true) t.foreign × SystemFits (with_exits t.cells (cells_alone names)) t.system

-- from one system to four, on cells and subscripts
abbrev pub PiecesFit : List (List ℕ) → List System → Type 0
PiecesFit names ss = Each (SystemFits (with_phi (cells_alone names))) ss × (are_few ss ≡ true)

abbrev pub RegionFits : List (List ℕ) → Kind → Region → Type 0
RegionFits names k r = VariableFits names r.variable × (same_kind (result_with r.kind) k ≡ true) × PiecesFit names r.pieces

-- at most one of a variable and kind
abbrev pub RegionsFit : List (List ℕ) → Kind → List Region → Type 0
RegionsFit names k rs = Each (RegionFits names k) rs × (are_apart names rs ≡ true)

abbrev pub ReasonFits : List (List ℕ) → Reason → Type 0
ReasonFits names Jump = Unit {0}
ReasonFits names InputOutput = Unit {0}
ReasonFits names Step = Unit {0}
ReasonFits names Index = Unit {0}
ReasonFits names (Carries v ks p) = VariableFits names v

-- private variables are symbols
abbrev pub MarkFits : List (List ℕ) → Mark → Type 0
MarkFits names (Parallel ns) = Each (λ n. is_symbol names n ≡ true) ns
MarkFits names (Serial r) = ReasonFits names r

-- ---- at statements

-- just the statements with these numbers, in their order
abbrev pub AllFit : {T : Type 0} → (T → Type 0) → List ℕ → List (At T) → Type 0
AllFit P ns as' = (map (λ (a : At _). a.id) as' ≡ ns) × Each (λ (a : At _). P a.value) as'

abbrev pub ResultsFit : {T : Type 0} → (T → Type 0) → List ℕ → Results T → Type 0
ResultsFit P ns r = AllFit P ns r.at × P r.summary

-- a result fits its module: it speaks of just the executable statements (of marks, the DO statements), and names what is there
abbrev pub StoredFits : ModuleNames → StoredValue → Type 0
StoredFits m (stored.Effects r) = ResultsFit (EffectsFit m.names) m.statements r
StoredFits m (stored.Transformers r) = ResultsFit (TransformerFits m.names) m.statements r
StoredFits m (stored.Preconditions r) = ResultsFit (SystemFits (cells_alone m.names)) m.statements r
StoredFits m (stored.Regions r) = ResultsFit (RegionsFit m.names Regions) m.statements r
StoredFits m (stored.InRegions r) = ResultsFit (RegionsFit m.names InRegions) m.statements r
StoredFits m (stored.OutRegions r) = ResultsFit (RegionsFit m.names OutRegions) m.statements r
StoredFits m (stored.Marks ms) = AllFit (MarkFits m.names) m.loops ms
