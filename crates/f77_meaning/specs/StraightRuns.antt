-- A straight main program alone, with its symbols and links: its runs are those of the straight program.
use Rattle.std.specs.Prelude.{◌≡◌, ℕ, suc, Bool, true, false, not, ◌&&◌, List, [], ◌∷◌, ◌++◌, is_some}
use Rattle.f77_ast.specs.declared.decl.Scalar.TheVariants.{Int}
use Rattle.f77_ast.specs.DeclTrees.{ModuleTree}
use Rattle.f77_ast.specs.Store.{Content}
use Rattle.f77_ast.specs.Steps.{Shown}
use Rattle.f77_ast.specs.Numbers.{intrinsic_named}
use Rattle.f77_ast.specs.Runs.{Event, Arrived, Read, Wrote, Printed, Took}
use Rattle.f77_ast.specs.Programs.{Program, program_run}
use Rattle.f77_ast.specs.Straight.{is_straight, variables, straight_program}
use Rattle.f77_ast.specs.declared.symbol.Place.TheVariants.{Local}
use Rattle.f77_ast.specs.Symbols.{SymbolTree}
use Rattle.call_graph.specs.declared.graph.Graph.{Graph}
use Rattle.f77_meaning.specs.Modules.{Known}
use Rattle.f77_meaning.specs.Linked.{program_of}

-- an INTEGER scalar alone in its storage group
abbrev pub scalar_alone : ℕ → List ℕ → SymbolTree
scalar_alone n x = record { name = x; scalar = Int; bounds = []; place = Local n 0; saved = false; initial = [] }

-- such symbols with these names, in storage groups from n on
abbrev pub scalars_from : ℕ → List (List ℕ) → List SymbolTree
scalars_from n [] = []
scalars_from n (x ∷ xs) = scalar_alone n x ∷ scalars_from (suc n) xs

-- a straight program with the symbols of its variables, in order of first appearance
abbrev pub straight_known : ModuleTree → Known
straight_known m = record { read = m; symbols = scalars_from 1 (variables m.body) }

-- the links of a module that calls none and has no COMMON
abbrev pub alone : List ℕ → Graph
alone x = record { order = x ∷ []; edges = []; blocks = []; untracked = [] }

abbrev pub known_program : ModuleTree → Program
known_program m = program_of (straight_known m ∷ []) (alone m.name)

-- no name is that of an intrinsic function, which reading refuses of a variable
abbrev pub have_no_function : List (List ℕ) → Bool
have_no_function [] = true
have_no_function (x ∷ xs) = not (is_some (intrinsic_named x)) && have_no_function xs

-- what a run prints
abbrev pub printed : List Event → List Shown
printed [] = []
printed (Arrived p ∷ es) = printed es
printed (Read u c ∷ es) = printed es
printed (Wrote u c ∷ es) = printed es
printed (Printed xs ∷ es) = xs ++ printed es
printed (Took o ∷ es) = printed es

-- the same outcome, the same rest of the input, the same printed values
abbrev pub StraightRunsAgree : Type 0
StraightRunsAgree = (m : ModuleTree) → is_straight m ≡ true → have_no_function (variables m.body) ≡ true → (turns : ℕ) (input : List Content) →
    let a = program_run (known_program m) turns input in
    let b = program_run (straight_program m) turns input in
    (a.answer ≡ b.answer) × (a.input ≡ b.input) × (printed a.trace ≡ printed b.trace)
