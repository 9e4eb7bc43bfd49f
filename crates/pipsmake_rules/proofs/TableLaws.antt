-- The table of rules, entry by entry.
use Rattle.std.proofs.Common.{◌≡◌, Bool, true, false, ◌&&◌, List, [], ◌∷◌, refl}
use Rattle.pipsmake_rules.specs.declared.kind.Kind.{Kind}
use Rattle.pipsmake_rules.specs.declared.kind.Kind.TheVariants.{Parsed, Lines, Symbols, CallGraph, Effects, Transformers, Preconditions, Regions, InRegions, OutRegions, Marks, Printed}
use Rattle.pipsmake_rules.specs.declared.table.Whose.{Whose}
use Rattle.pipsmake_rules.specs.declared.table.Whose.TheVariants.{Own, All, Callees, Callers}
use Rattle.pipsmake_rules.specs.declared.table.TheConstants.{RULES}
use Rattle.pipsmake_rules.specs.Table.{kinds_needed, entries}
use Rattle.pipsmake_rules.specs.Laws.{RulesAreRanked, has_kind}

-- the entries of the table are the needs of the rules
pub table : (k : Kind) (w : Whose) → entries k w RULES ≡ kinds_needed k w
table Parsed Own = refl
table Parsed All = refl
table Parsed Callees = refl
table Parsed Callers = refl
table Lines Own = refl
table Lines All = refl
table Lines Callees = refl
table Lines Callers = refl
table Symbols Own = refl
table Symbols All = refl
table Symbols Callees = refl
table Symbols Callers = refl
table CallGraph Own = refl
table CallGraph All = refl
table CallGraph Callees = refl
table CallGraph Callers = refl
table Effects Own = refl
table Effects All = refl
table Effects Callees = refl
table Effects Callers = refl
table Transformers Own = refl
table Transformers All = refl
table Transformers Callees = refl
table Transformers Callers = refl
table Preconditions Own = refl
table Preconditions All = refl
table Preconditions Callees = refl
table Preconditions Callers = refl
table Regions Own = refl
table Regions All = refl
table Regions Callees = refl
table Regions Callers = refl
table InRegions Own = refl
table InRegions All = refl
table InRegions Callees = refl
table InRegions Callers = refl
table OutRegions Own = refl
table OutRegions All = refl
table OutRegions Callees = refl
table OutRegions Callers = refl
table Marks Own = refl
table Marks All = refl
table Marks Callees = refl
table Marks Callers = refl
table Printed Own = refl
table Printed All = refl
table Printed Callees = refl
table Printed Callers = refl

pub ranked : RulesAreRanked
ranked = (refl, one_side)
  where
    one_side : (k : Kind) → (has_kind (kinds_needed k Callees) k && has_kind (kinds_needed k Callers) k) ≡ false
    one_side Parsed = refl
    one_side Lines = refl
    one_side Symbols = refl
    one_side CallGraph = refl
    one_side Effects = refl
    one_side Transformers = refl
    one_side Preconditions = refl
    one_side Regions = refl
    one_side InRegions = refl
    one_side OutRegions = refl
    one_side Marks = refl
    one_side Printed = refl
