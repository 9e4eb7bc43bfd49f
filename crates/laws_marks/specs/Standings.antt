-- Locals that are not saved, and the other variables of the module that runs.
use Rattle.std.specs.Prelude.{◌≡◌, ℕ, List, Some, slice_get}
use Rattle.f77_ast.specs.DeclTrees.{ParsedTree}
use Rattle.f77_ast.specs.Places.{Variable, Places}
use Rattle.f77_ast.specs.Symbols.{SymbolTree}
use Rattle.f77_ast.specs.declared.variable.Variable.TheVariants.{Own}
use Rattle.call_graph.specs.declared.graph.Graph.{Graph}
use Rattle.f77_meaning.specs.Modules.{Known, known_of, names}
use Rattle.laws_programs.specs.Programs.{IsProgram}
use Rattle.laws_interleavings.specs.Plans.Touched.{IsOther, Reaches, StoreInRange}
use Rattle.laws_marks.specs.ConflictClaims.{IsSole}
use Rattle.laws_marks.specs.ConflictExecutions.{Execution, InEachExecution}
use Rattle.laws_marks.specs.Units.{IsPassing}

-- no other variable of the module reaches the first unit of this one
abbrev pub OthersAreApart : List SymbolTree → Places → ℕ → Type 0
OthersAreApart ss at n = (y : List ℕ) (v : ℕ) → names ss y ≡ Variable v → (v ≡ n → ⊥) → Reaches (IsOther (at n).first) (at v)

-- of an execution in a module: so it is of each local that is not saved, and that no other variable overlaps by the tables; dummies too do not reach it
abbrev pub LocalsAreApart : Known → Execution → Type 0
LocalsAreApart k x = k.read.name ≡ x.spot.module_name → (n : ℕ) → IsPassing k.symbols n → IsSole k.symbols (Own n) → OthersAreApart k.symbols x.places n

abbrev pub AllLocalsAreApart : List Known → Execution → Type 0
AllLocalsAreApart ks x = (i : ℕ) (k : Known) → slice_get ks i ≡ Some k → LocalsAreApart k x

-- in every run of a program that is read
abbrev pub LocalsStayApart : Type 0
LocalsStayApart = (ps : List ParsedTree) (sss : List (List SymbolTree)) (g : Graph) → IsProgram ps sss g → InEachExecution (known_of ps sss) g (AllLocalsAreApart (known_of ps sss))

-- the units have numbers of 32 bits alone where an execution begins
abbrev pub StoresStayInRange : Type 0
StoresStayInRange = (ps : List ParsedTree) (sss : List (List SymbolTree)) (g : Graph) → IsProgram ps sss g → InEachExecution (known_of ps sss) g (λ x. StoreInRange x.start)
