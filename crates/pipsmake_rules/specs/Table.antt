-- What a result of each kind needs.
use Rattle.std.specs.Prelude.{ℕ, Bool, ◌&&◌, nat_eq, List, [], ◌∷◌, ◌++◌, if◌then◌else◌}
use Rattle.pipsmake_rules.specs.declared.kind.Kind.{Kind}
use Rattle.pipsmake_rules.specs.declared.kind.Kind.TheVariants.{Parsed, Lines, Symbols, CallGraph, Effects, Transformers, Preconditions, Regions, InRegions, OutRegions, Marks, Printed}
use Rattle.pipsmake_rules.specs.declared.table.Whose.{Whose}
use Rattle.pipsmake_rules.specs.declared.table.Whose.TheVariants.{Own, All, Callees, Callers}
use Rattle.pipsmake_rules.specs.declared.table.Rule.{Rule}
use Rattle.pipsmake_rules.specs.Kinds.{same_kind}

-- of its own module, in order; the statements and the lines of a module need its text alone
abbrev pub own_needs : Kind → List Kind
own_needs Parsed = []
own_needs Lines = []
own_needs Symbols = Parsed ∷ []
own_needs CallGraph = []
own_needs Effects = Parsed ∷ Symbols ∷ CallGraph ∷ []
own_needs Transformers = Parsed ∷ Symbols ∷ CallGraph ∷ Effects ∷ []
own_needs Preconditions = Parsed ∷ Symbols ∷ CallGraph ∷ Transformers ∷ []
own_needs Regions = Parsed ∷ Symbols ∷ CallGraph ∷ Transformers ∷ []
own_needs InRegions = Parsed ∷ Symbols ∷ CallGraph ∷ Transformers ∷ Regions ∷ []
own_needs OutRegions = Parsed ∷ Symbols ∷ CallGraph ∷ Transformers ∷ Regions ∷ InRegions ∷ []
own_needs Marks = Parsed ∷ Symbols ∷ CallGraph ∷ Effects ∷ Transformers ∷ Preconditions ∷ Regions ∷ InRegions ∷ OutRegions ∷ []
own_needs Printed = Parsed ∷ Lines ∷ Symbols ∷ Transformers ∷ Preconditions ∷ Regions ∷ InRegions ∷ OutRegions ∷ Marks ∷ []

-- of all modules
abbrev pub program_needs : Kind → List Kind
program_needs Parsed = []
program_needs Lines = []
program_needs Symbols = []
program_needs CallGraph = Parsed ∷ Symbols ∷ []
program_needs Effects = []
program_needs Transformers = []
program_needs Preconditions = []
program_needs Regions = []
program_needs InRegions = []
program_needs OutRegions = []
program_needs Marks = []
program_needs Printed = []

-- of each module that its module calls
abbrev pub callee_needs : Kind → List Kind
callee_needs Parsed = []
callee_needs Lines = []
callee_needs Symbols = []
callee_needs CallGraph = []
callee_needs Effects = Symbols ∷ Effects ∷ []
callee_needs Transformers = Symbols ∷ Transformers ∷ []
callee_needs Preconditions = []
callee_needs Regions = Symbols ∷ Regions ∷ []
callee_needs InRegions = Symbols ∷ InRegions ∷ []
callee_needs OutRegions = []
callee_needs Marks = []
callee_needs Printed = []

-- of each module that calls its module
abbrev pub caller_needs : Kind → List Kind
caller_needs Parsed = []
caller_needs Lines = []
caller_needs Symbols = []
caller_needs CallGraph = []
caller_needs Effects = []
caller_needs Transformers = []
caller_needs Preconditions = Parsed ∷ Symbols ∷ Preconditions ∷ []
caller_needs Regions = []
caller_needs InRegions = []
caller_needs OutRegions = Parsed ∷ Symbols ∷ Transformers ∷ OutRegions ∷ []
caller_needs Marks = []
caller_needs Printed = []

abbrev pub kinds_needed : Kind → Whose → List Kind
kinds_needed k Own = own_needs k
kinds_needed k All = program_needs k
kinds_needed k Callees = callee_needs k
kinds_needed k Callers = caller_needs k

-- ---- the same as entries of a table

abbrev pub whose_number : Whose → ℕ
whose_number Own = 0
whose_number All = 1
whose_number Callees = 2
whose_number Callers = 3

abbrev pub same_whose : Whose → Whose → Bool
same_whose a b = nat_eq (whose_number a) (whose_number b)

-- what a rule needs, if it is of a kind and of these modules
abbrev pub entry : Kind → Whose → Rule → List Kind
entry k w r = if same_kind r.kind k && same_whose r.whose w then r.need ∷ [] else []

-- what the rules of a kind for these modules need, in order
abbrev pub entries : Kind → Whose → List Rule → List Kind
entries k w [] = []
entries k w (r ∷ rs) = entry k w r ++ entries k w rs
