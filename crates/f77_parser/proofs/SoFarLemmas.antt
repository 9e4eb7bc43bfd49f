-- What the statements of a module made so far.
use Rattle.std.proofs.lemmas.List.{map-append, length-map}
use Rattle.f77_ast.proofs.PlainlyStmt.{what_tree-logical_if, what_tree-do, what_tree-if_alone, what_tree-if_else, what_tree-continue, arm_tree-roll}

pub ruleset lists = (map-append)

pub ruleset arms = (map-append, arm_tree-roll)

pub ruleset wholes = (what_tree-do, what_tree-if_alone, what_tree-if_else)

pub ruleset parts = (map-append, length-map)

pub ruleset continues = (what_tree-continue)

pub ruleset logical_ifs = (what_tree-logical_if)
