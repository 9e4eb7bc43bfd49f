-- Which kinds of results a base has, and in which format their values are written.
use Rattle.std.specs.Prelude.{ℕ, Bool, true, false}
use Rattle.session_texts.specs.pipsmake_rules.declared.kind.Kind.{Kind}
use Rattle.session_texts.specs.pipsmake_rules.declared.kind.Kind.TheVariants.{Parsed, Lines, Symbols, CallGraph, Effects, Transformers, Preconditions, Regions, InRegions, OutRegions, Marks, Printed}

-- results of the other kinds are not kept in bases
abbrev pub is_stored : Kind → Bool
is_stored Parsed = false
is_stored Lines = false
is_stored Symbols = false
is_stored CallGraph = false
is_stored Effects = true
is_stored Transformers = true
is_stored Preconditions = true
is_stored Regions = true
is_stored InRegions = true
is_stored OutRegions = true
is_stored Marks = true
is_stored Printed = false

-- the current format number of a kind, from 1: a kind whose values get another JSON text gets the next number
abbrev pub format_of : Kind → ℕ
format_of Parsed = 1
format_of Lines = 1
format_of Symbols = 1
format_of CallGraph = 1
format_of Effects = 1
format_of Transformers = 1
format_of Preconditions = 1
format_of Regions = 2
format_of InRegions = 2
format_of OutRegions = 2
format_of Marks = 2
format_of Printed = 1
