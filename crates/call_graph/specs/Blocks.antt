-- The COMMON blocks of a program and their sizes (ANSI X3.9-1978 §8.3).
use Rattle.std.specs.Prelude.{ℕ, ◌+◌, max, List, [], ◌∷◌, Option, Some, None}
use Rattle.std.specs.declared.cmp.Ordering.{Ordering}
use Rattle.std.specs.Ordering.{match_ordering, is_eq, nat_cmp}
use Rattle.std.specs.Cmp.Lexicographic.{slice_cmp}
use Rattle.f77_ast.specs.declared.symbol.Place.{Place}
use Rattle.f77_ast.specs.declared.symbol.Place.TheVariants.{Local, Dummy, Block as Common, Constant}
use Rattle.f77_ast.specs.Symbols.{SymbolTree}
use Rattle.f77_ast.specs.Units.{units_in}
pub use Rattle.tracked_cells.specs.Scalars.{name_cmp}
use Rattle.call_graph.specs.declared.graph.Block.{Block}

abbrev pub block : List ℕ → ℕ → Block
block x n = record { name = x; size = n }

-- the size that a block has so far
abbrev pub known_size : List ℕ → List Block → ℕ
known_size x [] = 0
known_size x (b ∷ bs) = match_ordering (name_cmp x b.name) (known_size x bs) b.size (known_size x bs)

-- a block of this size at its place in the order of names
abbrev pub block_put : List ℕ → ℕ → List Block → List Block
block_put x n [] = block x n ∷ []
block_put x n (b ∷ bs) = match_ordering (name_cmp x b.name) (block x n ∷ b ∷ bs) (block b.name n ∷ bs) (b ∷ block_put x n bs)

-- the larger of the sizes counts
abbrev pub block_grown : List ℕ → ℕ → List Block → List Block
block_grown x n bs = block_put x (max (known_size x bs) n) bs

-- a block reaches to the end of each variable that lies in it
abbrev pub place_grown : Place → ℕ → List Block → List Block
place_grown (Local g o) n bs = bs
place_grown (Dummy m) n bs = bs
place_grown (Common x o) n bs = block_grown x (o + n) bs
place_grown (Constant m) n bs = bs

-- the blocks so far and those of these symbols, of a table with these symbols
abbrev pub symbols_grown : List SymbolTree → List SymbolTree → List Block → List Block
symbols_grown ss [] bs = bs
symbols_grown ss (s ∷ rest) bs = symbols_grown ss rest (place_grown s.place (units_in ss s) bs)

abbrev pub tables_grown : List (List SymbolTree) → List Block → List Block
tables_grown [] bs = bs
tables_grown (ss ∷ sss) bs = tables_grown sss (symbols_grown ss ss bs)

-- the blocks in the order of their names, each with the largest size that a module gives it
abbrev pub blocks_of : List (List SymbolTree) → List Block
blocks_of sss = tables_grown sss []
