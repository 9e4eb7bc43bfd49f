-- Control that leaves the body of a DO, and input and output.
use Rattle.std.specs.Prelude.{ℕ, Bool, true, false, ◌||◌, List, [], ◌∷◌, Option, Some, None}
use Rattle.f77_ast.specs.Trees.{StmtTrees, LoopTree}
use Rattle.f77_ast.specs.Trees as tree
use Rattle.f77_ast.specs.declared.effect_set.EffectSet.{EffectSet}
use Rattle.f77_ast.specs.declared.results.At.{At}
use Rattle.transformers.specs.Jumps.{list_has, goes_to}
use Rattle.transformers.specs.Lists.{value_at, number_of}
use Rattle.out_regions.specs.Leaving.{leaves}

-- a GO TO of the list names the label, where there is one (ANSI X3.9-1978 §11.1)
abbrev pub is_jumped_to : StmtTrees → Option ℕ → Bool
is_jumped_to list None = false
is_jumped_to list (Some l) = list_has (goes_to (l ∷ [])) list

-- the effects of a statement, with its parts and what these call
abbrev pub stops : Option EffectSet → Bool
stops None = false
stops (Some e) = e.stops

abbrev pub has_io : Option EffectSet → Bool
has_io None = false
has_io (Some e) = e.io

-- a statement of the list may end the run by STOP (§11.12)
abbrev pub may_stop : List (At EffectSet) → StmtTrees → Bool
may_stop es tree.no_stmts = false
may_stop es (tree.more_stmts s rest) = stops (value_at es (number_of s)) || may_stop es rest

-- a statement of the list may read input or print (§12)
abbrev pub may_have_io : List (At EffectSet) → StmtTrees → Bool
may_have_io es tree.no_stmts = false
may_have_io es (tree.more_stmts s rest) = has_io (value_at es (number_of s)) || may_have_io es rest

abbrev pub body_of : LoopTree → StmtTrees
body_of (tree.loop index first last step body) = body

-- of a DO with this label, in a module with this body: a GO TO leads to the DO, or control may leave its body, by GO TO, RETURN (§15.8) or STOP
abbrev pub may_jump : StmtTrees → List (At EffectSet) → Option ℕ → LoopTree → Bool
may_jump whole es label l = is_jumped_to whole label || (leaves false (body_of l) || may_stop es (body_of l))
