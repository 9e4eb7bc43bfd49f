-- What plans ask of modules holds of programs that are read; and units of modules and CALLs that are not active have no value in their runs.
use Rattle.std.specs.Prelude.{◌≡◌, ◌⊎◌, ℕ, true, false, nat_eq, List, []}
use Rattle.f77_ast.specs.Trees.{StmtTrees}
use Rattle.f77_ast.specs.DeclTrees.{ParsedTree}
use Rattle.f77_ast.specs.Programs.{Routine, Program, meanings}
use Rattle.f77_ast.specs.Symbols.{SymbolTree}
use Rattle.call_graph.specs.declared.graph.Graph.{Graph}
use Rattle.f77_meaning.specs.Modules.{known_of}
use Rattle.f77_meaning.specs.Linked.{program_of}
use Rattle.laws_programs.specs.Programs.{IsProgram}
use Rattle.laws_interleavings.specs.MarkedStatements.{own_in}
use Rattle.laws_interleavings.specs.MarkedPrograms.{Directives, marked_scope, marked_meanings}
use Rattle.laws_interleavings.specs.Typed.{IsTagged, AllTagged}
use Rattle.laws_interleavings.specs.Plans.Cleared.{HasNoValue, AllApart, AllEnd}
use Rattle.laws_marks.specs.ConflictExecutions.{InEachExecution}
use Rattle.laws_marks.specs.Inactive.{IsOfExpression, IsOfSome, InactiveHaveNone}

-- what is said of programs that are read
abbrev pub OfPrograms : (Program → Type 0) → Type 0
OfPrograms P = (ps : List ParsedTree) (sss : List (List SymbolTree)) (g : Graph) → IsProgram ps sss g → P (program_of (known_of ps sss) g)

-- their variables have types, and their main program has no dummies
pub record AreTyped (p : Program) : Type 0 where
  pub no_dummies : p.main.dummies ≡ []
  pub main : IsTagged p.main
  pub others : AllTagged p.others

abbrev pub VariablesHaveTypes : Type 0
VariablesHaveTypes = OfPrograms AreTyped

-- no CALL ends by a GO TO
abbrev pub CallsEnd : Type 0
CallsEnd = OfPrograms (λ p. (turns : ℕ) → AllEnd turns p.others)

-- a unit of a local that is not saved, or of an expression, is none of another module's variables; it is not the unit of what has none
abbrev pub UnitsAreApart : Type 0
UnitsAreApart = OfPrograms (λ p. (u : ℕ) → IsOfExpression p.main u ⊎ IsOfSome p.others u → AllApart u p.others × (nat_eq 0 u ≡ false))

-- DATA gives it no value
abbrev pub UnitsBeginUnset : Type 0
UnitsBeginUnset = OfPrograms (λ p. (u : ℕ) → IsOfExpression p.main u ⊎ IsOfSome p.others u → HasNoValue p.initial u)

-- in every run, up to its first fault, units of modules and CALLs that are not active have no value
abbrev pub InactiveUnitsHaveNone : Type 0
InactiveUnitsHaveNone = (ps : List ParsedTree) (sss : List (List SymbolTree)) (g : Graph) → IsProgram ps sss g → InEachExecution (known_of ps sss) g (InactiveHaveNone (program_of (known_of ps sss) g))

-- the units of an iteration's own that belong to CALLs, as of the body of a DO, are such: rs are the modules that stand behind it
abbrev pub OwnUnitsAreInactive : Type 0
OwnUnitsAreInactive = (r : Routine) (rs : List Routine) (turns : ℕ) (marks : Directives) (body : StmtTrees) (u : ℕ) → own_in (marked_scope r turns marks (meanings rs turns) (marked_meanings rs turns marks)) body u ≡ true → IsOfExpression r u ⊎ IsOfSome rs u
