-- The variables of OUT regions at statements, and of the set that callers see.
use Rattle.std.proofs.Common.{ℕ, Bool, true, false, List, [], ◌++◌}
use Rattle.affine_systems.proofs.Basics.{if_cases}
use Rattle.f77_ast.specs.Trees.{StmtTree, WhatTree, ArmTree, ArmTrees, ElseTree, LoopTree, StmtTrees}
use Rattle.f77_ast.specs.Trees as tree
use Rattle.f77_ast.specs.declared.variable.Variable.{Variable}
use Rattle.f77_ast.specs.declared.results.At.{At}
use Rattle.affine_forms.specs.Scalars.{is_cell}
use Rattle.preconditions.specs.transformer_algebra.Transformers.{without}
use Rattle.preconditions.specs.call_translation.Scopes.{ScopeTree}
use Rattle.preconditions.specs.transformers.Jumps.{unstructured}
use Rattle.preconditions.specs.transformers.Lists.{number_of, list_at}
use Rattle.in_out_regions.specs.region_sets.declared.region.Region.{Region}
use Rattle.in_out_regions.specs.region_sets.Compose.{compose}
use Rattle.in_out_regions.specs.region_sets.Lists.{accesses_at, list_regions, numbers, all_composed, forgetting, all_forgetting, all_accesses, set_at}
use Rattle.in_out_regions.specs.region_sets.Sets.{unite_all}
use Rattle.in_out_regions.specs.array_regions.Loops.{range_of}
use Rattle.in_out_regions.specs.array_regions.Entry.{seen, locals}
use Rattle.loop_marker.specs.out_regions.Known.{KnownTree}
use Rattle.loop_marker.specs.out_regions.Used.{all_out}
use Rattle.loop_marker.specs.out_regions.Lists.{writes_at, rest_of, left_over, used_behind, first_out, rest_out, may_leave, used_around, any_out, all_applied}
use Rattle.loop_marker.specs.out_regions.Later.{all_later}
use Rattle.loop_marker.specs.out_regions.Statement.{body_writes, body_out, body_in, used_after, loop_out, only_out, at_parts, at_arms, at_arm, at_else, at_loop, at_only, at_any, at_used, at_rest, at_first, at_list}
use Rattle.loop_marker.specs.out_regions.Modules.{outs_of}
use Rattle.loop_marker.specs.out_regions.declared.rest.Rest.{Rest}
use Rattle.laws_lines.proofs.RuleVars.{IsDone, without_neat}
use Rattle.laws_lines.proofs.StatementVars.{AllAt, all_at-append, Scope}
use Rattle.laws_lines.proofs.PhaseVars.{value_is}
use Rattle.laws_lines.specs.Regions.Places.{IsPlaceOf}
use Rattle.laws_lines.proofs.Regions.RegionVars.{map_all, IsFine, composed_fine, mapped_fine, united_fine, at_fine, order_fine, each_fine, list_fine}
use Rattle.laws_lines.proofs.Regions.AccessVars.{IsNamedBy, FewBounds, Fine}
use Rattle.laws_lines.proofs.Regions.StatementRegions.{range_is, seen_fine}
use Rattle.laws_lines.proofs.Ins.InSets.{set_fine, list_in_fine}
use Rattle.laws_lines.proofs.Ins.InSets as in_sets
use Rattle.laws_lines.proofs.Outs.OutSets.{out_fine, used_fine, writes_fine, left_over_fine, applied_fine, later_fine}
use Rattle.fx_lists.proofs.Lists.{each_append as both_all}

module _ (Name : List ℕ → Type 0) (ok : ℕ → Type 0) (k : KnownTree) (a : Scope ok k.scope) (few : FewBounds k.scope.symbols) (done : (n : ℕ) → IsDone ok (k.does n))
    (accesses : AllAt (Fine Name ok k.scope a few) k.accesses) (ins : AllAt (Fine Name ok k.scope a few) k.ins) where
  abbrev m : ScopeTree
  m = k.scope

  abbrev N : Variable → Type 0
  N = IsNamedBy Name m.names

  abbrev F : List Region → Type 0
  F rs = Fine Name ok m a few rs

  abbrev All : List (At (List Region)) → Type 0
  All xs = AllAt F xs

  join : (xs ys : List Region) → F xs → F ys → F (xs ++ ys)
  join xs ys h i = both_all (IsFine N ok) xs ys h i

  -- ---- what is known at statements

  accessed : (n : ℕ) → F (set_at k.accesses n)
  accessed n = set_fine N ok k.accesses (λ i rs e. value_is F k.accesses i rs accesses e) n

  taken : (n : ℕ) → F (set_at k.ins n)
  taken n = set_fine N ok k.ins (λ i rs e. value_is F k.ins i rs ins e) n

  written : (n : ℕ) → F (writes_at k n)
  written n = writes_fine N ok (set_at k.accesses n) (accessed n)

  bodies : (whole : Bool) (body : StmtTrees) → F (body_writes k whole body)
  bodies whole body =
      writes_fine N ok (list_regions k.does (accesses_at k.accesses) whole body)
      (list_fine N ok k.does (accesses_at k.accesses) done (at_fine N ok k.accesses (λ n rs e. value_is F k.accesses n rs accesses e)) whole body)

  composed : (n : ℕ) (rs : List Region) → F rs → F (all_composed (k.does n) rs)
  composed n rs h = map_all (IsFine N ok) (λ r. compose r (k.does n)) (composed_fine N ok (k.does n) (done n)) rs h

  forgotten : (cs : List ℕ) (rs : List Region) → F rs → F (all_forgetting cs rs)
  forgotten cs rs h = map_all (IsFine N ok) (forgetting cs) (λ r i. mapped_fine N ok (without cs) (without_neat (IsPlaceOf ok) cs) false r i) rs h

  -- ---- lists

  record RestFine (r : Rest) : Type 0 where
    reads : F r.ins
    writes : F r.writes

  rest_fine : (whole : Bool) (rest : StmtTrees) → RestFine (rest_of k whole rest)
  rest_fine whole rest = record {
    reads = in_sets.order_fine N ok m.symbols k.does (set_at k.accesses) (set_at k.ins) done accessed taken (numbers rest);
    writes = order_fine N ok k.does (writes_at k) done written (numbers rest);
  }

  behind_fine : (leaving : Bool) (n : ℕ) (r : Rest) (out : List Region) → RestFine r → F out → F (used_behind k leaving n r out)
  behind_fine leaving n r out h i =
      let before = all_composed (k.does n) r.ins in
      let left = left_over leaving (all_composed (k.does n) r.writes) out in
      join (all_out before) (all_out left) (out_fine N ok before (composed n r.ins h.reads))
      (out_fine N ok left (left_over_fine N ok leaving (all_composed (k.does n) r.writes) out (composed n r.writes h.writes) i))

  first_out_fine : (leaving : Bool) (n : ℕ) (r : Rest) (out : List Region) → RestFine r → F out → F (first_out k leaving n r out)
  first_out_fine leaving n r out h i = used_fine N ok m.symbols (used_behind k leaving n r out) (writes_at k n) (behind_fine leaving n r out h i) (written n)

  rest_out_fine : (n : ℕ) (r : Rest) (out : List Region) → RestFine r → F out → F (rest_out k n r out)
  rest_out_fine n r out h i =
      let after = all_applied (k.does n) out in
      used_fine N ok m.symbols (all_out after) r.writes (out_fine N ok after (applied_fine N ok (k.does n) (done n) out i)) h.writes

  around_fine : (whole : Bool) (body : StmtTrees) (out : List Region) → F out → F (used_around k whole body out)
  around_fine whole body out h =
      let cs = (list_at k.does whole body).cells in
      let others = all_forgetting cs (all_accesses (set_at k.ins) (numbers body)) in
      let behind = all_forgetting cs out in
      join (all_out others) (all_out behind) (out_fine N ok others (forgotten cs (all_accesses (set_at k.ins) (numbers body)) (each_fine N ok k.does (set_at k.ins) done taken (numbers body))))
      (out_fine N ok behind (forgotten cs out h))

  any_out_fine : (us : List Region) (n : ℕ) → F us → F (any_out k us n)
  any_out_fine us n h = used_fine N ok m.symbols us (writes_at k n) h (written n)

  only_out_fine : (n : ℕ) (out : List Region) → F out → F (only_out k n out)
  only_out_fine n out h = any_out_fine (all_out (any_out k out n)) n (out_fine N ok (any_out k out n) (any_out_fine out n h))

  body_out_fine : (whole : Bool) (body : StmtTrees) (us : List Region) → F us → F (body_out k whole body us)
  body_out_fine whole body us h = used_fine N ok m.symbols us (body_writes k whole body) h (bodies whole body)

  loop_out_fine : (l : LoopTree) (out : List Region) → F out → F (loop_out k l out)
  loop_out_fine (tree.loop index first last step body) out h =
      let l = tree.loop index first last step body in
      let g = range_of l m k.does in
      let behind = all_forgetting g.turn.cells out in
      let further = all_later (is_cell m.tracked g.index) g (body_in k body) in
      body_out_fine false body (used_after k g body out)
      (join (all_out behind) (all_out further) (out_fine N ok behind (forgotten g.turn.cells out h))
      (out_fine N ok further
      (later_fine N ok g (range_is Name ok m a few k.does done (λ x es. []) (λ x es. tt) l) (is_cell m.tracked g.index) (λ e. a.flags g.index e) (body_in k body)
      (list_in_fine N ok m.symbols k.does (set_at k.accesses) (set_at k.ins) done accessed taken false body))))

  -- ---- handed down

  -- a list, in its order or in any
  either_fine : (whole : Bool) (body : StmtTrees) (out : List Region) → All (at_any body k (used_around k whole body out)) → All (at_rest whole body k out) → All (at_list whole body k out)
  either_fine whole body out h i = if_cases All (unstructured whole body) (at_any body k (used_around k whole body out)) (at_rest whole body k out) (λ e. h) (λ e. i)

  mutual
    parts_fine : (w : WhatTree) (out : List Region) → F out → All (at_parts w k out)
    parts_fine (tree.assign x e) out h = tt
    parts_fine (tree.block_if arms other) out h = all_at-append F (at_arms arms k out) (at_else other k out) (arms_fine arms out h) (else_fine other out h)
    parts_fine (tree.logical_if e s) out h = only_fine s out h
    parts_fine (tree.do_loop l) out h = loop_fine l (loop_out k l out) (loop_out_fine l out h)
    parts_fine (tree.call x es) out h = tt
    parts_fine (tree.goto l) out h = tt
    parts_fine tree.continue out h = tt
    parts_fine tree.return out h = tt
    parts_fine (tree.stop text) out h = tt
    parts_fine (tree.print es) out h = tt
    parts_fine (tree.read es) out h = tt

    arms_fine : (xs : ArmTrees) (out : List Region) → F out → All (at_arms xs k out)
    arms_fine tree.no_arms out h = tt
    arms_fine (tree.more_arms x rest) out h = all_at-append F (at_arm x k out) (at_arms rest k out) (arm_fine x out h) (arms_fine rest out h)

    arm_fine : (x : ArmTree) (out : List Region) → F out → All (at_arm x k out)
    arm_fine (tree.arm e body) out h =
        let own = body_out k false body out in
        let fine = body_out_fine false body out h in
        either_fine false body own (any_fine body (used_around k false body own) (around_fine false body own fine)) (rests_fine false body own fine)

    else_fine : (x : ElseTree) (out : List Region) → F out → All (at_else x k out)
    else_fine tree.no_else out h = tt
    else_fine (tree.otherwise body) out h =
        let own = body_out k false body out in
        let fine = body_out_fine false body out h in
        either_fine false body own (any_fine body (used_around k false body own) (around_fine false body own fine)) (rests_fine false body own fine)

    loop_fine : (l : LoopTree) (out : List Region) → F out → All (at_loop l k out)
    loop_fine (tree.loop index first last step body) out h = either_fine false body out (any_fine body (used_around k false body out) (around_fine false body out h)) (rests_fine false body out h)

    only_fine : (s : StmtTree) (out : List Region) → F out → All (at_only s k out)
    only_fine (tree.stmt n label w) out h = let own = only_out_fine n out h in (own, parts_fine w (only_out k n out) own)

    any_fine : (ss : StmtTrees) (us : List Region) → F us → All (at_any ss k us)
    any_fine tree.no_stmts us h = tt
    any_fine (tree.more_stmts s rest) us h = all_at-append F (at_used s k us) (at_any rest k us) (each_used_fine s us h) (any_fine rest us h)

    each_used_fine : (s : StmtTree) (us : List Region) → F us → All (at_used s k us)
    each_used_fine (tree.stmt n label w) us h = let own = any_out_fine us n h in (own, parts_fine w (any_out k us n) own)

    rests_fine : (whole : Bool) (ss : StmtTrees) (out : List Region) → F out → All (at_rest whole ss k out)
    rests_fine whole tree.no_stmts out h = tt
    rests_fine whole (tree.more_stmts s rest) out h =
        let r = rest_of k whole rest in
        all_at-append F (at_first whole s k r out) (at_rest whole rest k (rest_out k (number_of s) r out)) (begun_fine whole s r out (rest_fine whole rest) h)
        (rests_fine whole rest (rest_out k (number_of s) r out) (rest_out_fine (number_of s) r out (rest_fine whole rest) h))

    begun_fine : (whole : Bool) (s : StmtTree) (r : Rest) (out : List Region) → RestFine r → F out → All (at_first whole s k r out)
    begun_fine whole (tree.stmt n label w) r out i h =
        let leaving = may_leave whole (tree.stmt n label w) r in
        let own = first_out_fine leaving n r out i h in
        (own, parts_fine w (first_out k leaving n r out) own)

  -- ---- of a module

  module _ (body : StmtTrees) (us : List Region) (h : F us) where
    pub outs_at_fine : All (outs_of body k us).at
    outs_at_fine =
        let out = body_out k true body us in
        let fine = body_out_fine true body us h in
        either_fine true body out (any_fine body (used_around k true body out) (around_fine true body out fine)) (rests_fine true body out fine)

    pub outs_summary_fine : F (outs_of body k us).summary
    outs_summary_fine =
        let out = body_out k true body us in
        united_fine N ok (seen m.symbols (locals m.symbols) (unite_all out))
        (seen_fine Name ok m a few k.does done (λ x es. []) (λ x es. tt) m.symbols (locals m.symbols) (unite_all out) (united_fine N ok out (body_out_fine true body us h)))
