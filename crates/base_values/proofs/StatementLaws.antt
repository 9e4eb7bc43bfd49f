-- The numbers of statements, for code that goes down by `shape_of`.
use Rattle.std.proofs.Common.{◌≡◌, ℕ, Option, List, [], ◌∷◌, ◌++◌, append_assoc, append-nil, refl}
use Rattle.f77_ast.specs.Trees.{WhatTree}
use Rattle.f77_ast.specs.Trees as tree
use Rattle.f77_ast.specs.Shapes.{IsLeaf}
use Rattle.f77_ast.specs.StatementNumbers.{part_numbers}
use Rattle.f77_ast.proofs.WalkLaws.{shape_calls}

-- a statement without others inside has no further numbers
pub leaf_numbers : (w : WhatTree) → IsLeaf w → part_numbers w ≡ []
leaf_numbers (tree.assign a b) h = refl
leaf_numbers (tree.block_if as' other) h = cc
leaf_numbers (tree.logical_if test s) h = cc
leaf_numbers (tree.do_loop l) h = cc
leaf_numbers (tree.call x es) h = refl
leaf_numbers (tree.goto l) h = refl
leaf_numbers tree.continue h = refl
leaf_numbers tree.return h = refl
leaf_numbers (tree.stop text) h = refl
leaf_numbers (tree.print es) h = refl
leaf_numbers (tree.read es) h = refl

pub ruleset number_calls = (shape_calls, leaf_numbers, append_assoc, append-nil)
