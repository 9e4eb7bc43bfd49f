-- The grammar of specification statements (ANSI X3.9-1978 §8 and §9).
use Rattle.std.specs.Prelude.{[], ◌∷◌, length, Some, None, codes}
use Rattle.f77_ast.specs.DeclTrees.{DeclTree, implicit, integer, logical, dimension, parameter, common, equivalence, save, initial}
use Rattle.f77_exprs.specs.State.{Reader, parse_word, or_else, ◌>>=◌}
use Rattle.f77_exprs.specs.Grammar.{items, items_by, more_by}
use Rattle.f77_statements.specs.Lists.{ending, items_left}
use Rattle.f77_statements.specs.Parts.{implicit_part, entity, array, setting, group, save_item, first_block, block, next_block, data_group, next_group}

-- types with letter ranges
unfoldable pub implicit_parts : Reader DeclTree
implicit_parts s = items implicit_part s >>= λ ps. Some (implicit (Some ps.0), ps.1)

-- IMPLICIT NONE, or types with letter ranges
unfoldable pub implicit_statement : Reader DeclTree
implicit_statement s = do
  t ← parse_word (codes "IMPLICIT") s
  or_else (parse_word (codes "NONE") t) (λ u. Some (implicit None, u)) (implicit_parts t)

-- names with bounds or without
unfoldable pub integer_statement : Reader DeclTree
integer_statement s = do
  t ← parse_word (codes "INTEGER") s
  es ← items entity t
  Some (integer es.0, es.1)

unfoldable pub logical_statement : Reader DeclTree
logical_statement s = do
  t ← parse_word (codes "LOGICAL") s
  es ← items entity t
  Some (logical es.0, es.1)

-- names with bounds
unfoldable pub dimension_statement : Reader DeclTree
dimension_statement s = do
  t ← parse_word (codes "DIMENSION") s
  es ← items array t
  Some (dimension es.0, es.1)

-- (n=e,..)
unfoldable pub parameter_statement : Reader DeclTree
parameter_statement s = do
  t ← parse_word (codes "PARAMETER(") s
  ss ← ending (codes ")") (items setting) t
  Some (parameter ss.0, ss.1)

-- blocks with their members
unfoldable pub common_statement : Reader DeclTree
common_statement s = do
  t ← parse_word (codes "COMMON") s
  b ← first_block t
  bs ← more_by next_block block (length b.1.rest) (b.0 ∷ []) b.1
  Some (common bs.0, bs.1)

-- groups of names and elements
unfoldable pub equivalence_statement : Reader DeclTree
equivalence_statement s = do
  t ← parse_word (codes "EQUIVALENCE") s
  gs ← items group t
  Some (equivalence gs.0, gs.1)

-- nothing, or names and blocks
unfoldable pub save_statement : Reader DeclTree
save_statement s = do
  t ← parse_word (codes "SAVE") s
  is ← items_left save_item t
  Some (save is.0, is.1)

-- groups of names and elements with their values
unfoldable pub data_statement : Reader DeclTree
data_statement s = do
  t ← parse_word (codes "DATA") s
  gs ← items_by next_group data_group t
  Some (initial gs.0, gs.1)
