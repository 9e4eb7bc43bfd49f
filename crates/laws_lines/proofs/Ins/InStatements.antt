-- The variables of IN regions of statements and of modules.
use Rattle.std.proofs.Common.{◌≡◌, ℕ, Bool, true, false, List, ◌∷◌, ◌++◌, length, Option, Some, None}
use Rattle.f77_ast.specs.Trees.{ExprTrees, StmtTree, WhatTree, ArmTree, ArmTrees, ElseTree, LoopTree, StmtTrees}
use Rattle.f77_ast.specs.Trees as tree
use Rattle.f77_ast.specs.declared.variable.Unit.{Unit as BlockUnit}
use Rattle.f77_ast.specs.declared.variable.Variable.{Variable}
use Rattle.f77_ast.specs.declared.results.At.{At}
use Rattle.f77_ast.specs.Summaries.{SummaryTree}
use Rattle.affine_forms.specs.Scalars.{is_cell}
use Rattle.preconditions.specs.call_translation.Scopes.{ScopeTree}
use Rattle.in_out_regions.specs.region_sets.declared.region.Access.TheVariants.{Write}
use Rattle.in_out_regions.specs.region_sets.declared.region.Region.{Region}
use Rattle.in_out_regions.specs.region_sets.Lists.{accesses_at, set_at}
use Rattle.in_out_regions.specs.region_sets.Sets.{unite_all}
use Rattle.in_out_regions.specs.array_regions.declared.arms.Reached.{Reached}
use Rattle.in_out_regions.specs.array_regions.References.{scalar, named}
use Rattle.in_out_regions.specs.array_regions.Reads.{reads, inner_reads}
use Rattle.in_out_regions.specs.array_regions.Simple.{item_does}
use Rattle.in_out_regions.specs.array_regions.Arms.{always, if_true, into_arm, past_arm, past_arms, all_met, tests_reads}
use Rattle.in_out_regions.specs.array_regions.Loops.{range_of, loop_reads}
use Rattle.in_out_regions.specs.array_regions.Calls.{Callees, actuals_reads, sides, all_in_caller}
use Rattle.in_out_regions.specs.array_regions.Entry.{symbols_reads, seen, locals}
use Rattle.in_out_regions.specs.Kinds.{all_in}
use Rattle.in_out_regions.specs.Known.{KnownTree}
use Rattle.in_out_regions.specs.Simple.{item_in, item_written, reading}
use Rattle.in_out_regions.specs.Loops.{all_iterations, do_united, do_in}
use Rattle.in_out_regions.specs.Calls.{summary_in, call_in}
use Rattle.in_out_regions.specs.Statement.{list_of, only_in, what_in, arms_in, arm_in, else_in, body_accesses, do_of, at_stmt, at_parts, at_list, at_arms, at_arm, at_else, at_loop, list_set}
use Rattle.in_out_regions.specs.Modules.{ins_of}
use Rattle.laws_lines.proofs.RuleVars.{IsDone}
use Rattle.laws_lines.proofs.StatementVars.{AllAt, all_at-append, Scope}
use Rattle.laws_lines.proofs.PhaseVars.{value_is}
use Rattle.laws_lines.proofs.Regions.RegionVars.{IsFine, united_fine, at_fine, list_fine}
use Rattle.laws_lines.proofs.Regions.AccessVars.{IsNamedBy, FewBounds, Fine, reads_fine, inner_fine, named_fine, item_done, ReachedOk, true_ok, into_ok, past_ok, all_past_ok, always_ok, met_fine, tests_fine}
use Rattle.laws_lines.proofs.Regions.CallRegions.{MaybeFine, CalleesFine, actuals_fine, all_fine_in}
use Rattle.laws_lines.proofs.Regions.StatementRegions.{range_is, loop_reads_fine, symbols_fine, seen_fine}
use Rattle.laws_lines.proofs.Ins.InSets.{all_in_fine, first_fine, set_fine, overlapped_fine, before_fine, list_in_fine}
use Rattle.laws_lines.proofs.Ins.Iterations.{iterations_fine}
use Rattle.fx_lists.proofs.Lists.{each_append as both_all}

-- ---- CALLs

module _ (Name : List ℕ → Type 0) (ok : ℕ → Type 0) (m : ScopeTree) (a : Scope ok m) (few : FewBounds m.symbols) (long : length m.symbols ≡ length m.names) (changed : List ℕ) (untracked : List BlockUnit) where
  summary_fine : (x : List ℕ) (es : ExprTrees) (o : Option (SummaryTree (List Region))) → MaybeFine Name x o → Fine Name ok m a few (summary_in m changed untracked x es o)
  summary_fine x es None h = tt
  summary_fine x es (Some s) h =
      let N = IsNamedBy Name m.names in
      let own = all_in (actuals_reads es m) in
      let others = all_in_caller (sides m changed untracked x es s.symbols) s.value in
      united_fine N ok (own ++ others)
      (both_all (IsFine N ok) own others (all_in_fine N ok (actuals_reads es m) (actuals_fine Name ok m a few long es)) (all_fine_in Name ok m a few long changed untracked x es s h s.value h.value))

  pub call_in_fine : (cs : Callees) → CalleesFine Name cs → (x : List ℕ) (es : ExprTrees) → Fine Name ok m a few (call_in m changed untracked cs x es)
  call_in_fine cs h x es = summary_fine x es (cs x) (h x)

-- ---- statements

module _ (Name : List ℕ → Type 0) (ok : ℕ → Type 0) (k : KnownTree) (a : Scope ok k.scope) (few : FewBounds k.scope.symbols) (done : (n : ℕ) → IsDone ok (k.does n))
    (accesses : AllAt (Fine Name ok k.scope a few) k.accesses) (called : (x : List ℕ) (es : ExprTrees) → Fine Name ok k.scope a few (k.called x es)) where
  abbrev m : ScopeTree
  m = k.scope

  abbrev N : Variable → Type 0
  N = IsNamedBy Name m.names

  abbrev F : List Region → Type 0
  F rs = Fine Name ok m a few rs

  abbrev W : Reached → Type 0
  W w = ReachedOk Name ok m a few w

  abbrev All : List (At (List Region)) → Type 0
  All xs = AllAt F xs

  join : (xs ys : List Region) → F xs → F ys → F (xs ++ ys)
  join xs ys h i = both_all (IsFine N ok) xs ys h i

  -- READ and WRITE of the statement of a number, and of a body
  accessed : (n : ℕ) → F (set_at k.accesses n)
  accessed n = set_fine N ok k.accesses (λ i rs e. value_is F k.accesses i rs accesses e) n

  bodies : (body : StmtTrees) → F (body_accesses body k)
  bodies body = list_fine N ok k.does (accesses_at k.accesses) done (at_fine N ok k.accesses (λ n rs e. value_is F k.accesses n rs accesses e)) false body

  lists : (body : StmtTrees) (whole : Bool) (as' : List (At (List Region))) → All as' → F (list_of whole body k as')
  lists body whole as' h = list_in_fine N ok m.symbols k.does (set_at k.accesses) (set_at as') done accessed (set_fine N ok as' (λ n rs e. value_is F as' n rs h e)) whole body

  reading_fine : (es : ExprTrees) → F (reading es m)
  reading_fine tree.no_exprs = tt
  reading_fine (tree.more_exprs e es) =
      before_fine N ok m.symbols (item_in m e) (item_written m e) (item_does m e) (reading es m)
      (united_fine N ok (all_in (inner_reads e m)) (all_in_fine N ok (inner_reads e m) (inner_fine Name ok m a few e)))
      (united_fine N ok (named e m Write) (named_fine Name ok m a few e Write))
      (item_done Name ok m a few e) (reading_fine es)

  do_fine : (l : LoopTree) (ws is : List Region) → F ws → F is → F (do_in l k ws is)
  do_fine l ws is h i =
      let g = range_of l m k.does in
      let own = all_in (loop_reads l m) in
      let each = all_iterations (is_cell m.tracked g.index) g m.symbols ws is in
      overlapped_fine N ok m.symbols (scalar Write g.index ∷ ws) (do_united m l g ws is)
      (united_fine N ok (own ++ each)
      (join own each (all_in_fine N ok (loop_reads l m) (loop_reads_fine Name ok m a few k.does done k.called called l))
      (iterations_fine N ok g (range_is Name ok m a few k.does done k.called called l) (is_cell m.tracked g.index) (λ e. a.flags g.index e) m.symbols ws is h i)))

  mutual
    what_fine : (n : ℕ) (w : WhatTree) → F (what_in n w k)
    what_fine n (tree.assign x y) = first_fine N ok (set_at k.accesses n) (accessed n)
    what_fine n (tree.block_if arms other) =
        let tests = all_in (tests_reads arms m always) in
        let sets = arms_in arms k always in
        let rest = else_in other k (past_arms arms m always) in
        united_fine N ok (tests ++ (sets ++ rest))
        (join tests (sets ++ rest) (all_in_fine N ok (tests_reads arms m always) (tests_fine Name ok m a few arms always (always_ok Name ok m a few)))
        (join sets rest (arms_fine arms always (always_ok Name ok m a few)) (else_fine other (past_arms arms m always) (all_past_ok Name ok m a few arms always (always_ok Name ok m a few)))))
    what_fine n (tree.logical_if e s) =
        let own = all_in (reads e m) in
        let rest = all_met (if_true m e always) (only_in s k) in
        united_fine N ok (own ++ rest)
        (join own rest (all_in_fine N ok (reads e m) (reads_fine Name ok m a few e)) (met_fine Name ok m a few (if_true m e always) (true_ok Name ok m a few e always (always_ok Name ok m a few)) (only_in s k) (only_fine s)))
    what_fine n (tree.do_loop l) = loop_fine l
    what_fine n (tree.call x es) = called x es
    what_fine n (tree.goto l) = first_fine N ok (set_at k.accesses n) (accessed n)
    what_fine n tree.continue = first_fine N ok (set_at k.accesses n) (accessed n)
    what_fine n tree.return = first_fine N ok (set_at k.accesses n) (accessed n)
    what_fine n (tree.stop text) = first_fine N ok (set_at k.accesses n) (accessed n)
    what_fine n (tree.print es) = first_fine N ok (set_at k.accesses n) (accessed n)
    what_fine n (tree.read es) = reading_fine es

    only_fine : (s : StmtTree) → F (only_in s k)
    only_fine (tree.stmt n label w) = overlapped_fine N ok m.symbols (set_at k.accesses n) (unite_all (what_in n w k)) (united_fine N ok (what_in n w k) (what_fine n w))

    arms_fine : (xs : ArmTrees) (w : Reached) → W w → F (arms_in xs k w)
    arms_fine tree.no_arms w h = tt
    arms_fine (tree.more_arms x rest) w h =
        join (arm_in x k (into_arm x m w)) (arms_in rest k (past_arm x m w)) (arm_fine x (into_arm x m w) (into_ok Name ok m a few x w h)) (arms_fine rest (past_arm x m w) (past_ok Name ok m a few x w h))

    arm_fine : (x : ArmTree) (w : Reached) → W w → F (arm_in x k w)
    arm_fine (tree.arm e body) w h = met_fine Name ok m a few w h (list_of false body k (at_list body k)) (lists body false (at_list body k) (list_at_fine body))

    else_fine : (x : ElseTree) (w : Reached) → W w → F (else_in x k w)
    else_fine tree.no_else w h = tt
    else_fine (tree.otherwise body) w h = met_fine Name ok m a few w h (list_of false body k (at_list body k)) (lists body false (at_list body k) (list_at_fine body))

    loop_fine : (l : LoopTree) → F (do_of l k (at_loop l k))
    loop_fine (tree.loop index first last step body) =
        do_fine (tree.loop index first last step body) (body_accesses body k) (list_of false body k (at_list body k)) (bodies body) (lists body false (at_list body k) (list_at_fine body))

    -- ---- at each statement

    at_stmt_fine : (s : StmtTree) → All (at_stmt s k)
    at_stmt_fine (tree.stmt n label w) = (what_fine n w, at_parts_fine w)

    at_parts_fine : (w : WhatTree) → All (at_parts w k)
    at_parts_fine (tree.assign x e) = tt
    at_parts_fine (tree.block_if arms other) = all_at-append F (at_arms arms k) (at_else other k) (at_arms_fine arms) (at_else_fine other)
    at_parts_fine (tree.logical_if e s) = at_stmt_fine s
    at_parts_fine (tree.do_loop l) = at_loop_fine l
    at_parts_fine (tree.call x es) = tt
    at_parts_fine (tree.goto l) = tt
    at_parts_fine tree.continue = tt
    at_parts_fine tree.return = tt
    at_parts_fine (tree.stop text) = tt
    at_parts_fine (tree.print es) = tt
    at_parts_fine (tree.read es) = tt

    list_at_fine : (ss : StmtTrees) → All (at_list ss k)
    list_at_fine tree.no_stmts = tt
    list_at_fine (tree.more_stmts s rest) = all_at-append F (at_stmt s k) (at_list rest k) (at_stmt_fine s) (list_at_fine rest)

    at_arms_fine : (xs : ArmTrees) → All (at_arms xs k)
    at_arms_fine tree.no_arms = tt
    at_arms_fine (tree.more_arms x rest) = all_at-append F (at_arm x k) (at_arms rest k) (at_arm_fine x) (at_arms_fine rest)

    at_arm_fine : (x : ArmTree) → All (at_arm x k)
    at_arm_fine (tree.arm e body) = list_at_fine body

    at_else_fine : (x : ElseTree) → All (at_else x k)
    at_else_fine tree.no_else = tt
    at_else_fine (tree.otherwise body) = list_at_fine body

    at_loop_fine : (l : LoopTree) → All (at_loop l k)
    at_loop_fine (tree.loop index first last step body) = list_at_fine body

  -- ---- of a module

  pub ins_at_fine : (body : StmtTrees) → All (ins_of body k).at
  ins_at_fine body = list_at_fine body

  pub ins_summary_fine : (body : StmtTrees) → F (ins_of body k).summary
  ins_summary_fine body =
      let rs = list_set true body k in
      let own = all_in (symbols_reads m.symbols m) in
      let all = own ++ rs in
      united_fine N ok (seen m.symbols (locals m.symbols) (unite_all all))
      (seen_fine Name ok m a few k.does done k.called called m.symbols (locals m.symbols) (unite_all all)
      (united_fine N ok all (join own rs (all_in_fine N ok (symbols_reads m.symbols m) (symbols_fine Name ok m a few k.does done k.called called m.symbols)) (lists body true (at_list body k) (list_at_fine body)))))
