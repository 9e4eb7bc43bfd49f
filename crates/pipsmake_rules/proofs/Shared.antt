-- Lemmas that several crates use.
use Rattle.std.proofs.Common.{Some, refl, ◌≡◌}
use Rattle.pipsmake_rules.specs.Kinds.{kind_with, name_of}
use Rattle.pipsmake_rules.specs.declared.kind.Kind.{Kind}
use Rattle.pipsmake_rules.specs.declared.kind.Kind.TheVariants.{CallGraph, Effects, InRegions, Lines, Marks, OutRegions, Parsed, Preconditions, Printed, Regions, Symbols, Transformers}

pub named_back : (k : Kind) → kind_with (name_of k) ≡ Some k
named_back Parsed = refl
named_back Lines = refl
named_back Symbols = refl
named_back CallGraph = refl
named_back Effects = refl
named_back Transformers = refl
named_back Preconditions = refl
named_back Regions = refl
named_back InRegions = refl
named_back OutRegions = refl
named_back Marks = refl
named_back Printed = refl
