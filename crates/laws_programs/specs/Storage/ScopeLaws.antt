-- The tracked cells of modules that link, as transformers and preconditions look them up.
use Rattle.std.specs.Prelude.{◌≡◌, ℕ, true, List, [], ◌∷◌, Some}
use Rattle.f77_ast.specs.DeclTrees.{ParsedTree}
use Rattle.f77_ast.specs.Store as tag
use Rattle.f77_ast.specs.Store.{content}
use Rattle.f77_ast.specs.declared.symbol.Place.TheVariants.{Block}
use Rattle.f77_ast.specs.declared.symbol.InitialRun.{InitialRun}
use Rattle.f77_ast.specs.Symbols.{SymbolTree}
use Rattle.f77_ast.specs.Shared.{symbol_at}
use Rattle.tracked_cells.specs.Tracked.{tracked_of}
use Rattle.call_graph.specs.declared.graph.Graph.{Graph}
use Rattle.f77_meaning.specs.Modules.{known_of, fixed}
use Rattle.f77_meaning.specs.Linked.{initial}
use Rattle.affine_forms.specs.Scalars.{is_cell}
use Rattle.call_translation.specs.Scopes.{ScopeTree}
use Rattle.call_translation.specs.Common.{tracked_at, declares}
use Rattle.laws_programs.specs.Storage.Programs.{IsLinked, IsModule, IsCell, known}
use Rattle.laws_programs.specs.Storage.CellLaws.{units}
use Rattle.laws_programs.specs.Storage.Initial.{DataLies}

-- the symbols and the flags of a scope are those of a module
pub record IsScopeOf (g : Graph) (p : ParsedTree) (ss : List SymbolTree) (m : ScopeTree) : Type 0 where
  pub symbols : m.symbols ≡ ss
  pub tracked : m.tracked ≡ tracked_of p.module_read ss g.untracked

-- the flags tell the tracked cells
abbrev pub FlagsTellCells : Type 0
FlagsTellCells = (g : Graph) (p : ParsedTree) (ss : List SymbolTree) (m : ScopeTree) → IsScopeOf g p ss m → (n : ℕ) → is_cell m.tracked n ≡ true → (s : SymbolTree) × IsCell g p ss n s

abbrev pub CellsHaveFlags : Type 0
CellsHaveFlags = (g : Graph) (p : ParsedTree) (ss : List SymbolTree) (m : ScopeTree) → IsScopeOf g p ss m → (n : ℕ) (s : SymbolTree) → IsCell g p ss n s → is_cell m.tracked n ≡ true

-- ---- COMMON (ANSI X3.9-1978 §8.3)

-- what is found at a unit of a block is a tracked cell that lies there
abbrev pub FoundIsCell : Type 0
FoundIsCell = (g : Graph) (p : ParsedTree) (ss : List SymbolTree) (m : ScopeTree) → IsScopeOf g p ss m → (b : List ℕ) (o n : ℕ) → tracked_at m b o ≡ Some n → (s : SymbolTree) × IsCell g p ss n s × (s.place ≡ Block b o)

-- and each tracked cell in a block is what is found at its unit
abbrev pub CellsAreFound : Type 0
CellsAreFound = (ps : List ParsedTree) (sss : List (List SymbolTree)) (g : Graph) → IsLinked ps sss g → (i : ℕ) (p : ParsedTree) (ss : List SymbolTree) → IsModule ps sss i p ss → (m : ScopeTree) → IsScopeOf g p ss m →
    (n : ℕ) (s : SymbolTree) (b : List ℕ) (o : ℕ) → IsCell g p ss n s → s.place ≡ Block b o → tracked_at m b o ≡ Some n

-- where a module tracks a unit, each other module that has a variable there finds a tracked cell
abbrev pub CommonScalarsAreTrackedTogether : Type 0
CommonScalarsAreTrackedTogether = (ps : List ParsedTree) (sss : List (List SymbolTree)) (g : Graph) → IsLinked ps sss g → (i j : ℕ) (p q : ParsedTree) (ss tt' : List SymbolTree) → IsModule ps sss i p ss → IsModule ps sss j q tt' → (m : ScopeTree) → IsScopeOf g q tt' m →
    (n : ℕ) (s : SymbolTree) (b : List ℕ) (o : ℕ) → IsCell g p ss n s → s.place ≡ Block b o → declares m b o ≡ true → (k : ℕ) × (tracked_at m b o ≡ Some k)

-- ---- the store at the start

-- a tracked cell begins with the first value that DATA gives it (§9)
abbrev pub DataInitialisesScalars : Type 0
DataInitialisesScalars = (ps : List ParsedTree) (sss : List (List SymbolTree)) (g : Graph) → IsLinked ps sss g → DataLies ps sss → (i : ℕ) (p : ParsedTree) (ss : List SymbolTree) → IsModule ps sss i p ss → (m : ScopeTree) → IsScopeOf g p ss m →
    (n : ℕ) (s : SymbolTree) (r : InitialRun) (rs : List InitialRun) → is_cell m.tracked n ≡ true → symbol_at m.symbols n ≡ Some s → s.initial ≡ r ∷ rs →
    initial (known_of ps sss) g (fixed (units ps sss g) (known p ss) n).first ≡ content tag.Int r.value
