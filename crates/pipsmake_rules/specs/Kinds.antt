-- The kinds of results: their order and their names.
use Rattle.std.specs.Prelude.{ℕ, Bool, List, [], ◌∷◌, Option, codes, find, nat_eq, bytes_eq}
use Rattle.pipsmake_rules.specs.declared.kind.Kind.{Kind}
use Rattle.pipsmake_rules.specs.declared.kind.Kind.TheVariants.{Parsed, Lines, Symbols, CallGraph, Effects, Transformers, Preconditions, Regions, InRegions, OutRegions, Marks, Printed}

-- the place in their order, from 0
abbrev pub number_of : Kind → ℕ
number_of Parsed = 0
number_of Lines = 1
number_of Symbols = 2
number_of CallGraph = 3
number_of Effects = 4
number_of Transformers = 5
number_of Preconditions = 6
number_of Regions = 7
number_of InRegions = 8
number_of OutRegions = 9
number_of Marks = 10
number_of Printed = 11

abbrev pub name_of : Kind → List ℕ
name_of Parsed = codes "PARSED"
name_of Lines = codes "LINES"
name_of Symbols = codes "SYMBOLS"
name_of CallGraph = codes "CALLGRAPH"
name_of Effects = codes "EFFECTS"
name_of Transformers = codes "TRANSFORMERS"
name_of Preconditions = codes "PRECONDITIONS"
name_of Regions = codes "REGIONS"
name_of InRegions = codes "IN_REGIONS"
name_of OutRegions = codes "OUT_REGIONS"
name_of Marks = codes "MARKS"
name_of Printed = codes "PRINTED"

abbrev pub kinds : List Kind
kinds = Parsed ∷ Lines ∷ Symbols ∷ CallGraph ∷ Effects ∷ Transformers ∷ Preconditions ∷ Regions ∷ InRegions ∷ OutRegions ∷ Marks ∷ Printed ∷ []

abbrev pub same_kind : Kind → Kind → Bool
same_kind a b = nat_eq (number_of a) (number_of b)

-- the kind of a name
abbrev pub kind_with : List ℕ → Option Kind
kind_with x = find (λ k. bytes_eq (name_of k) x) kinds
