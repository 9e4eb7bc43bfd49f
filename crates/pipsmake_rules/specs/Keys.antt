-- Results by kind and module.
use Rattle.std.specs.Prelude.{ℕ, Bool, ◌&&◌, List, [], ◌∷◌, codes, bytes_eq}
use Rattle.std.specs.List.{list_any}
use Rattle.pipsmake_rules.specs.declared.kind.Kind.{Kind}
use Rattle.pipsmake_rules.specs.declared.kind.Kind.TheVariants.{Parsed, Lines, Symbols, CallGraph, Effects, Transformers, Preconditions, Regions, InRegions, OutRegions, Marks, Printed}
use Rattle.pipsmake_rules.specs.declared.key.Key.{Key}
use Rattle.pipsmake_rules.specs.Kinds.{number_of, same_kind}

-- the name of a result of a module; the graph is of no module
abbrev pub key_name : Kind → List ℕ → List ℕ
key_name Parsed x = x
key_name Lines x = x
key_name Symbols x = x
key_name CallGraph x = codes "*"
key_name Effects x = x
key_name Transformers x = x
key_name Preconditions x = x
key_name Regions x = x
key_name InRegions x = x
key_name OutRegions x = x
key_name Marks x = x
key_name Printed x = x

-- the result of a kind that is needed of a module
abbrev pub key_of : Kind → List ℕ → Key
key_of k x = record { kind = k; name = key_name k x }

abbrev pub same_key : Key → Key → Bool
same_key a b = same_kind a.kind b.kind && bytes_eq a.name b.name

-- whether a result is in a list
abbrev pub holds : List Key → Key → Bool
holds ks k = list_any (λ j. same_key j k) ks

-- the number of the kind, and then the name
abbrev pub code_of : Key → List ℕ
code_of k = number_of k.kind ∷ k.name
