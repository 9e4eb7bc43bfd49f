-- That the numbers of statements and the offsets in a result fit 64 bits, as their types have it.
use Rattle.std.specs.Prelude.{◌<◌, ◌^◌, List}
use Rattle.f77_ast.specs.declared.variable.Unit.{Unit as BlockUnit}
use Rattle.f77_ast.specs.declared.results.At.{At}
use Rattle.preconditions.specs.transformer_algebra.declared.transformer.Transformer.{Transformer}
use Rattle.base_values.specs.declared.stored.StoredValue.{StoredValue}
use Rattle.base_values.specs.declared.stored.StoredValue.TheVariants as stored
use Rattle.base_values.specs.Naming.{Each}

abbrev pub IdsFit : {T : Type 0} → List (At T) → Type 0
IdsFit as' = Each (λ (a : At _). a.id < 2 ^ 64) as'

abbrev pub OffsetsFit : List BlockUnit → Type 0
OffsetsFit us = Each (λ (u : BlockUnit). u.offset < 2 ^ 64) us

abbrev pub TransformersFit : List (At Transformer) → Type 0
TransformersFit as' = Each (λ (a : At Transformer). OffsetsFit a.value.foreign) as'

abbrev pub NumbersFit : StoredValue → Type 0
NumbersFit (stored.Effects r) = IdsFit r.at
NumbersFit (stored.Transformers r) = IdsFit r.at × TransformersFit r.at × OffsetsFit r.summary.foreign
NumbersFit (stored.Preconditions r) = IdsFit r.at
NumbersFit (stored.Regions r) = IdsFit r.at
NumbersFit (stored.InRegions r) = IdsFit r.at
NumbersFit (stored.OutRegions r) = IdsFit r.at
NumbersFit (stored.Marks ms) = IdsFit ms
