-- What the lines on a loop are read as, and what is asked of them for that.
use Rattle.std.specs.Prelude.{ℕ, List, map}
use Rattle.std.specs.List.{AllByRecursion}
use Rattle.f77_ast.specs.declared.results.At.{At}
use Rattle.f77_ast.specs.declared.marks.Reason.{Reason}
use Rattle.f77_ast.specs.declared.marks.Reason.TheVariants.{Jump, InputOutput, Step, Index, Carries}
use Rattle.system_text.specs.SystemText.{name_at}
use Rattle.result_lines.specs.ReductionLines.{LoopSaid, Directed, Obstructed}
use Rattle.result_lines.specs.declared.reduction.Part.{Part}
use Rattle.system_text.specs.Reading.{Bytes}
use Rattle.system_text.specs.Printed.{IsNumber, AreNumbers}
use Rattle.laws_lines.specs.RegionTexts.Laws.{IsShownVariable}
use Rattle.laws_lines.specs.Marks.Directives.{Clause, Clauses}

-- ---- what a directive says

abbrev pub clause_of : List Bytes → Part → Clause
clause_of names p = record { op = p.op; name = name_at names p.cell }

-- with these private symbols and these reduction variables
abbrev pub clauses_of : List Bytes → List ℕ → List Part → Clauses
clauses_of names ns ps = record { private = map (name_at names) ns; reductions = map (clause_of names) ps }

-- ---- printable ASCII

-- the variable of an obstacle is a symbol, or has a name of printable ASCII
abbrev pub IsShownReason : Reason → Type 0
IsShownReason Jump = Unit {0}
IsShownReason InputOutput = Unit {0}
IsShownReason Step = Unit {0}
IsShownReason Index = Unit {0}
IsShownReason (Carries v ks p) = IsShownVariable v

abbrev pub IsShownSaid : LoopSaid → Type 0
IsShownSaid (Directed ns ps) = Unit {0}
IsShownSaid (Obstructed r) = IsShownReason r

abbrev pub AreShownSaid : List (At LoopSaid) → Type 0
AreShownSaid ss = AllByRecursion (λ (s : At LoopSaid). IsShownSaid s.value) ss

-- ---- symbols

-- reduction variables are symbols
abbrev pub AreNumberedParts : List Bytes → List Part → Type 0
AreNumberedParts names ps = AllByRecursion (λ (p : Part). IsNumber names p.cell) ps

-- and so are private variables
abbrev pub IsNumberedSaid : List Bytes → LoopSaid → Type 0
IsNumberedSaid names (Directed ns ps) = AreNumbers names ns × AreNumberedParts names ps
IsNumberedSaid names (Obstructed r) = Unit {0}

abbrev pub AreNumberedSaid : List Bytes → List (At LoopSaid) → Type 0
AreNumberedSaid names ss = AllByRecursion (λ (s : At LoopSaid). IsNumberedSaid names s.value) ss
