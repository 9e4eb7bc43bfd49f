-- The words of stored results for kinds of access and of dependence, and for why a loop is serial.
use Rattle.std.specs.Prelude.{ℕ, List, Option, Some, None, codes, bytes_eq, if◌then◌else◌}
use Rattle.pipsmake_rules.specs.declared.kind.Kind.{Kind}
use Rattle.pipsmake_rules.specs.declared.kind.Kind.TheVariants.{Regions, InRegions, OutRegions}
use Rattle.region_sets.specs.declared.region.Access.{Access}
use Rattle.region_sets.specs.declared.region.Access.TheVariants.{Read, Write, In, Out}
use Rattle.f77_ast.specs.declared.marks.Kinds.{Kinds}
use Rattle.f77_ast.specs.declared.marks.Kinds.TheVariants.{WriteRead, ReadWrite, WriteWrite}
use Rattle.f77_ast.specs.declared.marks.Private.{Private}
use Rattle.f77_ast.specs.declared.marks.Private.TheVariants.{Yes, Name, Carried, Live}
use Rattle.f77_ast.specs.declared.marks.Reason.{Reason}
use Rattle.f77_ast.specs.declared.marks.Reason.TheVariants.{Jump, InputOutput, Step, Index}

abbrev pub access_word : Access → List ℕ
access_word Read = codes "READ"
access_word Write = codes "WRITE"
access_word In = codes "IN"
access_word Out = codes "OUT"

abbrev pub access_named : List ℕ → Option Access
access_named w =
    if bytes_eq w (codes "READ") then Some Read
    else if bytes_eq w (codes "WRITE") then Some Write
    else if bytes_eq w (codes "IN") then Some In
    else if bytes_eq w (codes "OUT") then Some Out
    else None

-- the kind of result that has regions of this kind
abbrev pub result_with : Access → Kind
result_with Read = Regions
result_with Write = Regions
result_with In = InRegions
result_with Out = OutRegions

abbrev pub conflict_word : Kinds → List ℕ
conflict_word WriteRead = codes "W-R"
conflict_word ReadWrite = codes "R-W"
conflict_word WriteWrite = codes "W-W"

abbrev pub conflict_named : List ℕ → Option Kinds
conflict_named w =
    if bytes_eq w (codes "W-R") then Some WriteRead
    else if bytes_eq w (codes "R-W") then Some ReadWrite
    else if bytes_eq w (codes "W-W") then Some WriteWrite
    else None

abbrev pub answer_word : Private → List ℕ
answer_word Yes = codes "Yes"
answer_word Name = codes "Name"
answer_word Carried = codes "Carried"
answer_word Live = codes "Live"

abbrev pub answer_named : List ℕ → Option Private
answer_named w =
    if bytes_eq w (codes "Yes") then Some Yes
    else if bytes_eq w (codes "Name") then Some Name
    else if bytes_eq w (codes "Carried") then Some Carried
    else if bytes_eq w (codes "Live") then Some Live
    else None

-- a reason that names no variable
abbrev pub reason_named : List ℕ → Option Reason
reason_named w =
    if bytes_eq w (codes "Jump") then Some Jump
    else if bytes_eq w (codes "InputOutput") then Some InputOutput
    else if bytes_eq w (codes "Step") then Some Step
    else if bytes_eq w (codes "Index") then Some Index
    else None
