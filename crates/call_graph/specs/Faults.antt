-- What may be wrong with the links of modules, and what linking returns beside what the definition gives.
use Rattle.std.specs.Prelude.{◌≡◌, ℕ, Option, Some, None, Result, Ok, Err}
use Rattle.call_graph.specs.declared.graph.Graph.{Graph}
use Rattle.fx_lists.specs.declared.code.Code.{Code}
use Rattle.fx_lists.specs.Refusals.{number_of}
use Rattle.call_graph.specs.declared.refusal.Fault.{Fault}
use Rattle.call_graph.specs.declared.refusal.Fault.TheVariants as fault
use Rattle.call_graph.specs.declared.refusal.LinkRefusal.{LinkRefusal}
use Rattle.call_graph.specs.declared.refusal.LinkRefusal.TheVariants as refusal

abbrev pub refusal_of : Fault → LinkRefusal
refusal_of fault.NoMain = refusal.NoMain
refusal_of (fault.At place line code) = refusal.At place line (number_of code)

-- the first of two
abbrev pub or_fault : Option Fault → Option Fault → Option Fault
or_fault None later = later
or_fault (Some f) later = Some f

-- what follows, unless something is wrong
abbrev pub unless : {A : Type 0} → Option Fault → Result A Fault → Result A Fault
unless None r = r
unless (Some f) r = Err f

-- refused at this line of this module, with the code of this number
abbrev pub IsAt : ℕ → ℕ → ℕ → Result Graph Fault → Type 0
IsAt place line number linked = (c : Code) × (number_of c ≡ number) × (linked ≡ Err (fault.At place line c))

-- what was linked or refused, unless memory ran out
abbrev pub Gives : Result Graph LinkRefusal → Result Graph Fault → Type 0
Gives (Ok g) linked = linked ≡ Ok g
Gives (Err refusal.NoMain) linked = linked ≡ Err fault.NoMain
Gives (Err (refusal.At place line number)) linked = IsAt place line number linked
Gives (Err refusal.Memory) linked = Unit {0}
