-- The numbers at which OUT is found are those of the statements, in the order of the text.
use Rattle.std.proofs.Common.{◌≡◌, List, ◌∷◌, Bool, true, false, refl, ap}
use Rattle.std.specs.Prelude.{if◌then◌else◌}
use Rattle.f77_ast.specs.Trees.{StmtTree, WhatTree, ArmTree, ArmTrees, ElseTree, LoopTree, StmtTrees}
use Rattle.f77_ast.specs.Trees as tree
use Rattle.f77_ast.specs.StatementNumbers.{part_numbers, list_numbers, arms_numbers, arm_numbers, else_numbers}
use Rattle.preconditions.specs.transformers.Jumps.{unstructured}
use Rattle.in_out_regions.specs.region_sets.declared.region.Region.{Region}
use Rattle.loop_marker.specs.out_regions.Known.{KnownTree}
use Rattle.loop_marker.specs.out_regions.Lists.{rest_of, first_out, rest_out, may_leave, used_around, any_out}
use Rattle.loop_marker.specs.out_regions.Statement.{body_out, only_out, loop_out, at_parts, at_arms, at_arm, at_else, at_any, at_used, at_rest, at_first, at_list}
use Rattle.laws_analyses.proofs.Statements.NumberLaws.{ids}
use Rattle.laws_analyses.proofs.Regions.Numbering.{ids_parts}

module _ (t : KnownTree) where
  mutual
    o_parts : (w : WhatTree) (out : List Region) → ids (at_parts w t out) ≡ part_numbers w
    o_parts (tree.assign a b) out = refl
    o_parts (tree.block_if arms other) out = ids_parts (at_arms arms t out) (at_else other t out) (arms_numbers arms) (else_numbers other) (o_arms arms out) (o_else other out)
    o_parts (tree.logical_if e (tree.stmt n label w)) out = ap (λ l. n ∷ l) (o_parts w (only_out t n out))
    o_parts (tree.do_loop (tree.loop index first last step body)) out =
        let own = loop_out t (tree.loop index first last step body) out in
        go own (unstructured false body) (o_any body (used_around t false body own)) (o_rest false body own)
      where
        go : (own : List Region) (b : Bool) → ids (at_any body t (used_around t false body own)) ≡ list_numbers body → ids (at_rest false body t own) ≡ list_numbers body → ids (if b then at_any body t (used_around t false body own) else at_rest false body t own) ≡ list_numbers body
        go own true a r = a
        go own false a r = r
    o_parts (tree.call x es) out = refl
    o_parts (tree.goto l) out = refl
    o_parts tree.continue out = refl
    o_parts tree.return out = refl
    o_parts (tree.stop text) out = refl
    o_parts (tree.print es) out = refl
    o_parts (tree.read es) out = refl

    o_arms : (arms : ArmTrees) (out : List Region) → ids (at_arms arms t out) ≡ arms_numbers arms
    o_arms tree.no_arms out = refl
    o_arms (tree.more_arms a rest) out = ids_parts (at_arm a t out) (at_arms rest t out) (arm_numbers a) (arms_numbers rest) (o_arm a out) (o_arms rest out)

    o_arm : (a : ArmTree) (out : List Region) → ids (at_arm a t out) ≡ arm_numbers a
    o_arm (tree.arm e body) out =
        let own = body_out t false body out in
        go own (unstructured false body) (o_any body (used_around t false body own)) (o_rest false body own)
      where
        go : (own : List Region) (b : Bool) → ids (at_any body t (used_around t false body own)) ≡ list_numbers body → ids (at_rest false body t own) ≡ list_numbers body → ids (if b then at_any body t (used_around t false body own) else at_rest false body t own) ≡ list_numbers body
        go own true a r = a
        go own false a r = r

    o_else : (other : ElseTree) (out : List Region) → ids (at_else other t out) ≡ else_numbers other
    o_else tree.no_else out = refl
    o_else (tree.otherwise body) out =
        let own = body_out t false body out in
        go own (unstructured false body) (o_any body (used_around t false body own)) (o_rest false body own)
      where
        go : (own : List Region) (b : Bool) → ids (at_any body t (used_around t false body own)) ≡ list_numbers body → ids (at_rest false body t own) ≡ list_numbers body → ids (if b then at_any body t (used_around t false body own) else at_rest false body t own) ≡ list_numbers body
        go own true a r = a
        go own false a r = r

    o_any : (ss : StmtTrees) (us : List Region) → ids (at_any ss t us) ≡ list_numbers ss
    o_any tree.no_stmts us = refl
    o_any (tree.more_stmts (tree.stmt n label w) rest) us = ids_parts (at_used (tree.stmt n label w) t us) (at_any rest t us) (n ∷ part_numbers w) (list_numbers rest) (ap (λ l. n ∷ l) (o_parts w (any_out t us n))) (o_any rest us)

    o_rest : (whole : Bool) (ss : StmtTrees) (out : List Region) → ids (at_rest whole ss t out) ≡ list_numbers ss
    o_rest whole tree.no_stmts out = refl
    o_rest whole (tree.more_stmts (tree.stmt n label w) rest) out =
        let r = rest_of t whole rest in
        ids_parts (at_first whole (tree.stmt n label w) t r out) (at_rest whole rest t (rest_out t n r out)) (n ∷ part_numbers w) (list_numbers rest)
        (ap (λ l. n ∷ l) (o_parts w (first_out t (may_leave whole (tree.stmt n label w) r) n r out))) (o_rest whole rest (rest_out t n r out))

  pub o_list : (whole : Bool) (ss : StmtTrees) (out : List Region) → ids (at_list whole ss t out) ≡ list_numbers ss
  o_list whole ss out = go (unstructured whole ss)
    where
      go : (b : Bool) → ids (if b then at_any ss t (used_around t whole ss out) else at_rest whole ss t out) ≡ list_numbers ss
      go true = o_any ss (used_around t whole ss out)
      go false = o_rest whole ss out
