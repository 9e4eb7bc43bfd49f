-- A statement without statements inside it has no such part.
use Rattle.std.proofs.Common.{◌≡◌, Bool, false, refl}
use Rattle.f77_ast.specs.Trees.{WhatTree}
use Rattle.f77_ast.specs.Trees as tree
use Rattle.f77_ast.specs.Shapes.{IsLeaf}
use Rattle.f77_ast.proofs.WalkLaws.{shape_calls}
use Rattle.transformers.specs.Jumps.{parts_have}

pub leaf_has : (such : WhatTree → Bool) (w : WhatTree) → IsLeaf w → parts_have such w ≡ false
leaf_has such (tree.assign a b) h = refl
leaf_has such (tree.block_if arms other) h = cc
leaf_has such (tree.logical_if test s) h = cc
leaf_has such (tree.do_loop l) h = cc
leaf_has such (tree.call x es) h = refl
leaf_has such (tree.goto l) h = refl
leaf_has such tree.continue h = refl
leaf_has such tree.return h = refl
leaf_has such (tree.stop text) h = refl
leaf_has such (tree.print es) h = refl
leaf_has such (tree.read es) h = refl

pub ruleset part_calls = (shape_calls, leaf_has)
