-- The memo cells of the code: a row of them for each name.
use Rattle.std.specs.Prelude.{◌≡◌, ℕ, List, [], ◌∷◌, map, length, slice_get, Option, Some, None, option_map, unwrap_or, bytes_eq, if◌then◌else◌}
use Rattle.std.specs.List.{AllByRecursion}
use Rattle.f77_ast.specs.declared.name_index.NameIndex.{NameIndex}
use Rattle.f77_ast.specs.Index.{Indexes}
use Rattle.pipsmake_rules.specs.Kinds.{number_of}
use Rattle.pipsmake_meaning.specs.MemoCells.{MemoCell, MemoCells, no_memo_cell}
use Rattle.pipsmake_meaning.specs.Values.{Item, text, result}
use Rattle.result_store.specs.declared.memo_cell.MemoCell as code
use Rattle.result_store.specs.declared.row.Row.{Row}
use Rattle.result_store.specs.Values.{value_tree, kept_tree}
use Rattle.result_store.specs.Fits.{MemoCellFits}

abbrev pub memo_cell_tree : code.MemoCell → MemoCell
memo_cell_tree s = record { values = map value_tree s.values; kept = option_map kept_tree s.kept }

-- the memo cells of a name: that of its text, and those of its results in the order of the kinds
pub record RowTree : Type 0 where
  pub name : List ℕ
  pub text : MemoCell
  pub results : List MemoCell

abbrev pub row_tree : Row → RowTree
row_tree r = record { name = r.name; text = memo_cell_tree r.text; results = map memo_cell_tree r.results.items }

abbrev pub memo_cell_or_none : Option MemoCell → MemoCell
memo_cell_or_none s = unwrap_or s no_memo_cell

abbrev pub memo_cell_at : RowTree → Item → MemoCell
memo_cell_at r text = r.text
memo_cell_at r (result kind) = memo_cell_or_none (slice_get r.results (number_of kind))

-- the row of a name
abbrev pub row_in : List RowTree → List ℕ → Option RowTree
row_in [] x = None
row_in (r ∷ rs) x = if bytes_eq x r.name then Some r else row_in rs x

abbrev pub memo_cell_in : Option RowTree → Item → MemoCell
memo_cell_in None item = no_memo_cell
memo_cell_in (Some r) item = memo_cell_at r item

-- what the rows have of each item and name
abbrev pub memo_cells_of : List Row → MemoCells
memo_cells_of rows item x = memo_cell_in (row_in (map row_tree rows) x) item

-- ---- what always holds of them

abbrev pub names_of : List Row → List (List ℕ)
names_of rows = map (λ r. r.name) rows

-- a memo cell for each kind, and values that calls take
pub record RowFits (r : RowTree) : Type 0 where
  pub kinds : length r.results ≡ 12
  pub text : MemoCellFits r.text
  pub results : AllByRecursion MemoCellFits r.results

pub record AreRows (i : NameIndex) (rows : List Row) : Type 0 where
  pub index : Indexes i (names_of rows)
  pub fits : AllByRecursion RowFits (map row_tree rows)
