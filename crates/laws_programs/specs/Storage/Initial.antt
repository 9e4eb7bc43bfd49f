-- What tracked cells begin with (ANSI X3.9-1978 §9, §17.2).
use Rattle.std.specs.Prelude.{◌≡◌, ℕ, ◌+◌, ◌<◌, ◌≤◌, List, [], ◌∷◌, slice_get, Some}
use Rattle.f77_ast.specs.DeclTrees.{ParsedTree}
use Rattle.f77_ast.specs.Store as tag
use Rattle.f77_ast.specs.Store.{content}
use Rattle.f77_ast.specs.declared.symbol.InitialRun.{InitialRun}
use Rattle.f77_ast.specs.Symbols.{SymbolTree}
use Rattle.f77_ast.specs.Units.{units_in}
use Rattle.f77_ast.specs.Shared.{symbol_at}
use Rattle.call_graph.specs.declared.graph.Graph.{Graph}
use Rattle.f77_meaning.specs.Areas.{Area, group, unit_at}
use Rattle.f77_meaning.specs.Modules.{known_of}
use Rattle.f77_meaning.specs.Linked.{offset_in, initial}
use Rattle.f77_meaning.specs.Laws.{area_of, DataFits}
use Rattle.laws_programs.specs.Storage.Programs.{IsLinked, IsModule, IsCell}
use Rattle.laws_programs.specs.Storage.CellLaws.{units}

-- a run of values is given to units of a local, to some, and to none past its end
pub record LiesInside (p : ParsedTree) (ss : List SymbolTree) (s : SymbolTree) (r : InitialRun) : Type 0 where
  pub storage : ℕ
  pub is_local : area_of p.module_read.name s.place ≡ Some (group p.module_read.name storage)
  pub within : r.offset + r.count ≤ units_in ss s
  pub some : 0 < r.count

-- so does DATA in each module
abbrev pub DataLies : List ParsedTree → List (List SymbolTree) → Type 0
DataLies ps sss = (i : ℕ) (p : ParsedTree) (ss : List SymbolTree) → IsModule ps sss i p ss → (n : ℕ) (s : SymbolTree) → symbol_at ss n ≡ Some s → (j : ℕ) (r : InitialRun) → slice_get s.initial j ≡ Some r → LiesInside p ss s r

-- then the values of DATA lie within variables
abbrev pub DataLiesInVariables : Type 0
DataLiesInVariables = (ps : List ParsedTree) (sss : List (List SymbolTree)) → DataLies ps sss → DataFits (known_of ps sss)

-- and a tracked cell to which DATA gives a value begins with it, whatever else DATA says
abbrev pub CellsBeginWithData : Type 0
CellsBeginWithData = (ps : List ParsedTree) (sss : List (List SymbolTree)) (g : Graph) → IsLinked ps sss g → DataLies ps sss → (i : ℕ) (p : ParsedTree) (ss : List SymbolTree) → IsModule ps sss i p ss →
    (n : ℕ) (s : SymbolTree) (a : Area) (r : InitialRun) (rs : List InitialRun) → IsCell g p ss n s → area_of p.module_read.name s.place ≡ Some a → s.initial ≡ r ∷ rs →
    initial (known_of ps sss) g (unit_at (units ps sss g) a (offset_in s.place)) ≡ content tag.Int r.value
