-- The entries of which the symbols of a table are made.
use Rattle.std.proofs.Common.{◌≡◌, ℕ, zero, suc, ◌+◌, List, [], ◌∷◌, Some, refl, sym, ap, ◌∙◌, arith}
use Rattle.std.specs.Prelude.{slice_get}
use Rattle.f77_ast.specs.Symbols.{SymbolTree}
use Rattle.f77_names.specs.Entries.{EntryTree}
use Rattle.storage_layout.specs.Table.{Layout, symbol_of, symbols_from}

-- the entry of a symbol, by its place
pub record EntryOf (l : Layout) (at : ℕ) (es : List EntryTree) (i : ℕ) (s : SymbolTree) : Type 0 where
  pub entry : EntryTree
  pub place : ℕ
  pub is_entry : slice_get es i ≡ Some entry
  pub is_place : place ≡ at + i
  pub symbol : s ≡ symbol_of l place entry

pub entry_of : (l : Layout) (at : ℕ) (es : List EntryTree) (i : ℕ) (s : SymbolTree) → slice_get (symbols_from l at es) i ≡ Some s → EntryOf l at es i s
entry_of l at [] i s e = cc
entry_of l at (x ∷ es) zero s e =
    let same : symbol_of l at x ≡ s = cc in
    record { entry = x; place = at; is_entry = refl; is_place = omega arith; symbol = sym same }
entry_of l at (x ∷ es) (suc i) s e =
    let r = entry_of l (at + 1) es i s e in
    record { entry = r.entry; place = r.place; is_entry = r.is_entry; is_place = omega (arith, r.is_place); symbol = r.symbol }
