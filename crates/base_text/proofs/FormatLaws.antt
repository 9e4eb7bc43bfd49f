-- Kinds of stored results and their current format numbers, as they are written and read.
use Rattle.std.proofs.Common.{◌≡◌, ◌<◌, ◌^◌, false, Some, refl, arith, ℤ, pos}
use Rattle.std.specs.Prelude.{int_lt}
use Rattle.std.proofs.lemmas.Int.{ints}
use Rattle.serde_json.specs.Data.{string}
use Rattle.session_texts.specs.pipsmake_rules.declared.kind.Kind.{Kind}
use Rattle.session_texts.specs.pipsmake_rules.declared.kind.Kind.TheVariants.{Parsed, Lines, Symbols, CallGraph, Effects, Transformers, Preconditions, Regions, InRegions, OutRegions, Marks, Printed}
use Rattle.session_texts.specs.pipsmake_rules.Kinds.{name_of}
use Rattle.base_json.specs.Written.{number_data}
use Rattle.base_values.specs.declared.stored.StoredValue.{StoredValue}
use Rattle.base_values.specs.declared.stored.StoredValue.TheVariants as stored
use Rattle.base_values.specs.Sizes.{kind_of}
use Rattle.base_text.specs.Formats.{format_of}
use Rattle.base_text.specs.Entries.{kind_in, positive_of}

-- the kind of a result is a stored one
pub kind_back : (v : StoredValue) → kind_in (string (name_of (kind_of v))) ≡ Some (kind_of v)
kind_back (stored.Effects r) = refl
kind_back (stored.Transformers r) = refl
kind_back (stored.Preconditions r) = refl
kind_back (stored.Regions r) = refl
kind_back (stored.InRegions r) = refl
kind_back (stored.OutRegions r) = refl
kind_back (stored.Marks ms) = refl

-- a format number is at least 1
pub format_back : (k : Kind) → positive_of (number_data (format_of k)) ≡ Some (pos (format_of k))
format_back Parsed = refl
format_back Lines = refl
format_back Symbols = refl
format_back CallGraph = refl
format_back Effects = refl
format_back Transformers = refl
format_back Preconditions = refl
format_back Regions = refl
format_back InRegions = refl
format_back OutRegions = refl
format_back Marks = refl
format_back Printed = refl

-- and fits 64 bits
pub format_fits : (k : Kind) → format_of k < 2 ^ 64
format_fits Parsed = omega arith
format_fits Lines = omega arith
format_fits Symbols = omega arith
format_fits CallGraph = omega arith
format_fits Effects = omega arith
format_fits Transformers = omega arith
format_fits Preconditions = omega arith
format_fits Regions = omega arith
format_fits InRegions = omega arith
format_fits OutRegions = omega arith
format_fits Marks = omega arith
format_fits Printed = omega arith

-- no number is below itself
pub not_below : (z : ℤ) → int_lt z z ≡ false
not_below z = grind (arith, ints)
