-- What calls change in a row of memo cells.
use Rattle.std.specs.Prelude.{◌≡◌, ℕ, List}
use Rattle.pipsmake_rules.specs.declared.kind.Kind.{Kind}
use Rattle.pipsmake_meaning.specs.Values.{Item, result}
use Rattle.pipsmake_meaning.specs.MemoCells.{no_memo_cell, forgotten}
use Rattle.result_store.specs.Rows.{RowTree, memo_cell_at, RowFits}

-- the row of a name of which nothing was seen
pub record IsEmptyRow (x : List ℕ) (r : RowTree) : Type 0 where
  pub name : r.name ≡ x
  pub memo_cells : (item : Item) → memo_cell_at r item ≡ no_memo_cell
  pub fits : RowFits r

-- no memo cell but this one was changed
pub record ChangesAt (item : Item) (old new : RowTree) : Type 0 where
  pub name : new.name ≡ old.name
  pub others : (other : Item) → (other ≡ item → ⊥) → memo_cell_at new other ≡ memo_cell_at old other
  pub fits : RowFits new

-- no result is kept; what was seen stays, and what is kept of the text
pub record ForgetsAll (old new : RowTree) : Type 0 where
  pub name : new.name ≡ old.name
  pub text : new.text ≡ old.text
  pub results : (kind : Kind) → memo_cell_at new (result kind) ≡ forgotten (memo_cell_at old (result kind))
  pub fits : RowFits new
