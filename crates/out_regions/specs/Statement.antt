-- OUT at each statement, in the order of the text, from OUT of what it is a part of (ANSI X3.9-1978 §7.1).
use Rattle.std.specs.Prelude.{ℕ, Bool, false, List, [], ◌∷◌, ◌++◌, if◌then◌else◌}
use Rattle.f77_ast.specs.Trees.{StmtTree, WhatTree, ArmTree, ArmTrees, ElseTree, LoopTree, StmtTrees}
use Rattle.f77_ast.specs.Trees as tree
use Rattle.f77_ast.specs.declared.results.At.{At}
use Rattle.affine_forms.specs.Scalars.{is_cell}
use Rattle.in_out_regions.specs.transformers.Jumps.{unstructured}
use Rattle.in_out_regions.specs.transformers.Lists.{number_of}
use Rattle.in_out_regions.specs.transformers.Statement.{at}
use Rattle.in_out_regions.specs.region_sets.declared.range.Range.{Range}
use Rattle.in_out_regions.specs.region_sets.declared.region.Region.{Region}
use Rattle.in_out_regions.specs.region_sets.Lists.{accesses_at, list_regions, all_forgetting, set_at}
use Rattle.in_out_regions.specs.array_regions.Loops.{range_of}
use Rattle.in_out_regions.specs.Lists.{list_in}
use Rattle.out_regions.specs.Known.{KnownTree}
use Rattle.out_regions.specs.Used.{all_out, used}
use Rattle.out_regions.specs.declared.rest.Rest.{Rest}
use Rattle.out_regions.specs.Lists.{writes, rest_of, first_out, rest_out, may_leave, used_around, any_out}
use Rattle.out_regions.specs.Later.{all_later}

-- ---- a list that is a part of a statement, or the body of the module

abbrev pub body_writes : KnownTree → Bool → StmtTrees → List Region
body_writes k whole body = writes (list_regions k.does (accesses_at k.accesses) whole body)

-- OUT of the list, of which these regions may be read behind it
abbrev pub body_out : KnownTree → Bool → StmtTrees → List Region → List Region
body_out k whole body us = used k.scope.symbols us (body_writes k whole body)

abbrev pub body_in : KnownTree → StmtTrees → List Region
body_in k body = list_in k.scope.symbols k.does (set_at k.accesses) (set_at k.ins) false body

-- behind an iteration: behind the DO, for any numbers of the cells that it changes, or in later iterations
abbrev pub used_after : KnownTree → Range → StmtTrees → List Region → List Region
used_after k g body out = all_out (all_forgetting g.turn.cells out) ++ all_out (all_later (is_cell k.scope.tracked g.index) g (body_in k body))

abbrev pub loop_out : KnownTree → LoopTree → List Region → List Region
loop_out k (tree.loop index first last step body) out = body_out k false body (used_after k (range_of (tree.loop index first last step body) k.scope k.does) body out)

-- of the statement of a logical IF, by its number, as of a list of it alone
abbrev pub only_out : KnownTree → ℕ → List Region → List Region
only_out k n out = any_out k (all_out (any_out k out n)) n

-- ---- handed down: each function with OUT of what it is of, but for statements, of which that is made

abbrev mutual
  -- of the parts of a statement
  pub at_parts : WhatTree → KnownTree → List Region → List (At (List Region))
  at_parts (tree.assign a b) k out = []
  at_parts (tree.block_if arms other) k out = at_arms arms k out ++ at_else other k out
  at_parts (tree.logical_if e s) k out = at_only s k out
  at_parts (tree.do_loop l) k out = at_loop l k (loop_out k l out)
  at_parts (tree.call x es) k out = []
  at_parts (tree.goto l) k out = []
  at_parts tree.continue k out = []
  at_parts tree.return k out = []
  at_parts (tree.stop text) k out = []
  at_parts (tree.print es) k out = []
  at_parts (tree.read es) k out = []

  pub at_arms : ArmTrees → KnownTree → List Region → List (At (List Region))
  at_arms tree.no_arms k out = []
  at_arms (tree.more_arms a rest) k out = at_arm a k out ++ at_arms rest k out

  -- the lists of a statement: what follows is `at_list` of each
  pub at_arm : ArmTree → KnownTree → List Region → List (At (List Region))
  at_arm (tree.arm e body) k out =
      let own = body_out k false body out in
      if unstructured false body then at_any body k (used_around k false body own) else at_rest false body k own

  pub at_else : ElseTree → KnownTree → List Region → List (At (List Region))
  at_else tree.no_else k out = []
  at_else (tree.otherwise body) k out =
      let own = body_out k false body out in
      if unstructured false body then at_any body k (used_around k false body own) else at_rest false body k own

  -- of the body of a DO, which has this OUT
  pub at_loop : LoopTree → KnownTree → List Region → List (At (List Region))
  at_loop (tree.loop index first last step body) k out = if unstructured false body then at_any body k (used_around k false body out) else at_rest false body k out

  -- the statement of a logical IF
  pub at_only : StmtTree → KnownTree → List Region → List (At (List Region))
  at_only (tree.stmt n label w) k out = at n (only_out k n out) ∷ at_parts w k (only_out k n out)

  -- a list in any order, where this may be read after each statement
  pub at_any : StmtTrees → KnownTree → List Region → List (At (List Region))
  at_any tree.no_stmts k us = []
  at_any (tree.more_stmts s rest) k us = at_used s k us ++ at_any rest k us

  pub at_used : StmtTree → KnownTree → List Region → List (At (List Region))
  at_used (tree.stmt n label w) k us = at n (any_out k us n) ∷ at_parts w k (any_out k us n)

  -- a list one after the other
  pub at_rest : Bool → StmtTrees → KnownTree → List Region → List (At (List Region))
  at_rest whole tree.no_stmts k out = []
  at_rest whole (tree.more_stmts s rest) k out = at_first whole s k (rest_of k whole rest) out ++ at_rest whole rest k (rest_out k (number_of s) (rest_of k whole rest) out)

  -- the first, with the rest after it
  pub at_first : Bool → StmtTree → KnownTree → Rest → List Region → List (At (List Region))
  at_first whole (tree.stmt n label w) k r out =
      let own = first_out k (may_leave whole (tree.stmt n label w) r) n r out in
      at n own ∷ at_parts w k own

-- a statement
abbrev pub at_stmt : StmtTree → KnownTree → List Region → List (At (List Region))
at_stmt (tree.stmt n label w) k out = at n out ∷ at_parts w k out

-- a list
abbrev pub at_list : Bool → StmtTrees → KnownTree → List Region → List (At (List Region))
at_list whole body k out = if unstructured whole body then at_any body k (used_around k whole body out) else at_rest whole body k out
