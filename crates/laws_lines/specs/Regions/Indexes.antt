-- Which DOs have an index that is a symbol.
use Rattle.std.specs.Prelude.{◌≡◌, Bool, false, is_none, ℕ, List, Ok}
use Rattle.f77_ast.specs.Trees.{WhatTree, LoopTree}
use Rattle.f77_ast.specs.Trees as tree
use Rattle.f77_ast.specs.DeclTrees.{ParsedTree}
use Rattle.f77_ast.specs.Symbols.{SymbolTree, number_from}
use Rattle.f77_meaning.specs.Modules.{symbol_names}
use Rattle.storage_layout.specs.Symbols.{symbols_of}
use Rattle.preconditions.specs.transformers.Jumps.{list_has}

-- the index is none of these names
abbrev pub has_other_index : List (List ℕ) → LoopTree → Bool
has_other_index names (tree.loop index first last step body) = is_none (number_from 1 names index)

-- a DO whose index is none of these names
abbrev pub counts_other : List (List ℕ) → WhatTree → Bool
counts_other names (tree.assign a b) = false
counts_other names (tree.block_if arms other) = false
counts_other names (tree.logical_if e s) = false
counts_other names (tree.do_loop l) = has_other_index names l
counts_other names (tree.call x es) = false
counts_other names (tree.goto l) = false
counts_other names tree.continue = false
counts_other names tree.return = false
counts_other names (tree.stop text) = false
counts_other names (tree.print es) = false
counts_other names (tree.read es) = false

-- in a module that is not refused the index of each DO is a symbol (ANSI X3.9-1978 §11.10)
abbrev pub IndexesAreSymbols : Type 0
IndexesAreSymbols = (p : ParsedTree) (ss : List SymbolTree) → symbols_of p ≡ Ok ss → list_has (counts_other (symbol_names ss)) p.module_read.body ≡ false
