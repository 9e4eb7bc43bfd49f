-- What the plans of statements are like.
use Rattle.std.specs.Prelude.{◌≡◌, ℕ, Bool, true, false, nat_eq, List}
use Rattle.f77_ast.specs.Trees.{StmtTree, StmtTrees}
use Rattle.f77_ast.specs.Store.{Content, Store}
use Rattle.f77_ast.specs.Runs.{store_of}
use Rattle.f77_ast.specs.Places.{Places}
use Rattle.f77_ast.specs.Writes.{Locks}
use Rattle.f77_ast.specs.Plans.{Plan}
use Rattle.f77_ast.specs.Statements.{Scope, statement_plan, body_plan}
use Rattle.f77_ast.specs.Programs.{Routine, Program, program_plan, meanings, program_run}
use Rattle.laws_interleavings.specs.MarkedPrograms.{Directives, marked_meanings}
use Rattle.laws_interleavings.specs.Typed.{TagsStand, AllTagged}
use Rattle.laws_interleavings.specs.Plans.Fine.{MeaningFine}
use Rattle.laws_interleavings.specs.Plans.Touched.{IsOther, AnyNumber, Avoids, Suits, StatementLeaves, MeaningAvoids, AllUnused, HasNumbers, AllHaveNumbers, DifferAt, RunsAlike, Ranged, StoreInRange, EventsInRange}
use Rattle.laws_interleavings.specs.Plans.Cleared.{Cleared, Off, EndsWell, MeaningCleared, AllApart, AllEnd}

-- modules whose variables have types read no unit without a value but to fault, write no unit that is locked, and change without an event only units of their own
abbrev pub ModulesAreFine : Type 0
ModulesAreFine = (rs : List Routine) → AllTagged rs → (turns : ℕ) (marks : Directives) (free own : ℕ → Bool) (x : List ℕ) → ((u : ℕ) → (marked_meanings rs turns marks x).own u ≡ true → own u ≡ true) →
    MeaningFine free own (meanings rs turns x)

-- a unit of a local that is not saved, or of an expression that is an actual, of modules that are not active: what is called leaves it without a value, where it is no unit
-- of what it is called with, unless it is locked
abbrev pub CallsLeaveUnitsCleared : Type 0
CallsLeaveUnitsCleared = (rs : List Routine) → AllTagged rs → (turns : ℕ) → AllEnd turns rs → (u : ℕ) → nat_eq 0 u ≡ false → AllApart u rs → (x : List ℕ) → MeaningCleared u (meanings rs turns x)

-- so does a list of statements, such as the body of a DO, where it is no unit of the module's variables, unless it is locked
abbrev pub ListsLeaveUnitsCleared : Type 0
ListsLeaveUnitsCleared = (sc : Scope) (u : ℕ) → ((x : List ℕ) → MeaningCleared u (sc.callee x)) → ((x : List ℕ) → EndsWell (sc.callee x)) → (at : Places) → TagsStand sc.names at → (ss : StmtTrees) (locked : Locks) →
    Off u locked sc.names at → Cleared u (body_plan ss sc at locked)

-- modules of whose variables but dummies, locals that are not saved, and units of expressions none is the unit: what is called does not touch it, where it is no unit of what it is called with
abbrev pub ModulesAvoid : Type 0
ModulesAvoid = (rs : List Routine) (turns v : ℕ) → IsOther v 0 → AllUnused v rs → (x : List ℕ) → MeaningAvoids v (meanings rs turns x)

-- nor does a statement of whose names none reaches it
abbrev pub StatementsAvoid : Type 0
StatementsAvoid = (sc : Scope) (v : ℕ) → ((x : List ℕ) → MeaningAvoids v (sc.callee x)) → ((n k : ℕ) → IsOther v (sc.own_unit n k)) → (at : Places) (s : StmtTree) (locked : Locks) →
    StatementLeaves (λ x. Suits (IsOther v) AnyNumber at (sc.names x)) AnyNumber s → Avoids v (statement_plan s sc at locked)

-- so its runs from stores that differ at the unit alone are the same
abbrev pub AvoidingRuns : Type 0
AvoidingRuns = (v : ℕ) (t : Plan) → Avoids v t → (s z : Store) → DifferAt v s z → (i : List Content) → RunsAlike v t s z i

-- where numbers of 32 bits are read, a program whose constants and literals are such writes such
abbrev pub ProgramsAreRanged : Type 0
ProgramsAreRanged = (p : Program) (turns : ℕ) → HasNumbers p.main → AllHaveNumbers p.others → Ranged (program_plan p turns)

-- in every run of a program whose constants, literals and first contents are numbers of 32 bits, such numbers alone are read and written, and are in the units
abbrev pub NumbersStayInRange : Type 0
NumbersStayInRange = (p : Program) (turns : ℕ) (input : List Content) → HasNumbers p.main → AllHaveNumbers p.others → StoreInRange p.initial →
    EventsInRange (program_run p turns input).trace × StoreInRange (store_of (program_run p turns input).memory)
