-- The variables of the regions of statements and of modules.
use Rattle.std.proofs.Common.{◌≡◌, ℕ, Bool, true, false, List, [], ◌∷◌, ◌++◌, Option, Some, None, refl}
use Rattle.std.specs.Prelude.{◌||◌, is_none, unwrap_or}
use Rattle.std.proofs.lemmas.Bool.{or_parts}
use Rattle.affine_systems.proofs.Basics.{if_cases}
use Rattle.f77_ast.specs.Trees.{ExprTrees, StmtTree, WhatTree, ArmTree, ArmTrees, ElseTree, LoopTree, StmtTrees}
use Rattle.f77_ast.specs.Trees as tree
use Rattle.f77_ast.specs.declared.variable.Variable.{Variable}
use Rattle.f77_ast.specs.Symbols.{BoundTree, SymbolTree, number_from}
use Rattle.f77_ast.specs.declared.results.At.{At}
use Rattle.preconditions.specs.transformer_algebra.declared.transformer.Transformer.{Transformer}
use Rattle.preconditions.specs.transformer_algebra.Transformers.{without}
use Rattle.preconditions.specs.call_translation.Scopes.{ScopeTree}
use Rattle.preconditions.specs.transformers.Jumps.{stmt_has, parts_have, list_has, arms_have, arm_has, else_has, loop_has}
use Rattle.preconditions.specs.transformers.Lists.{each_at, list_at, number_of}
use Rattle.preconditions.specs.transformers.Loops.{loop_parts}
use Rattle.in_out_regions.specs.region_sets.declared.region.Access.TheVariants.{Write}
use Rattle.in_out_regions.specs.region_sets.declared.region.Region.{Region}
use Rattle.in_out_regions.specs.region_sets.Loops.{over_loop}
use Rattle.in_out_regions.specs.region_sets.Lists.{accesses_at, list_regions}
use Rattle.in_out_regions.specs.region_sets.Sets.{unite_all}
use Rattle.in_out_regions.specs.array_regions.declared.arms.Reached.{Reached}
use Rattle.in_out_regions.specs.array_regions.References.{scalar}
use Rattle.in_out_regions.specs.array_regions.Reads.{reads, maybe_reads}
use Rattle.in_out_regions.specs.array_regions.Arms.{always, into_arm, past_arm, past_arms, tests_reads}
use Rattle.in_out_regions.specs.array_regions.Loops.{range_of, loop_reads, all_over, do_set}
use Rattle.in_out_regions.specs.array_regions.Calls.{Called}
use Rattle.in_out_regions.specs.array_regions.Statement.{stmt_set, what_set, arm_sets, arm_set, else_set, body_set, at_stmt, at_parts, at_list, at_arms, at_arm, at_else, at_loop, list_set}
use Rattle.in_out_regions.specs.array_regions.Entry.{bounds_reads, symbols_reads, locals, for_callers, seen, summary_of}
use Rattle.affine_forms.specs.Conditions.{no_rows}
use Rattle.laws_lines.proofs.SystemVars.{IsNeat}
use Rattle.laws_lines.proofs.FormVars.{none_neat}
use Rattle.laws_lines.proofs.RuleVars.{IsDone, AreDone, without_neat}
use Rattle.laws_lines.proofs.LoopVars.{iteration_done}
use Rattle.laws_lines.proofs.StatementVars.{AllAt, all_at-append, Scope, parts_of_loop, list_done}
use Rattle.laws_lines.proofs.PhaseVars.{value_is}
use Rattle.system_text.specs.Printed.{IsNumber}
use Rattle.laws_lines.specs.Regions.Indexes.{has_other_index, counts_other}
use Rattle.laws_lines.specs.Regions.Places.{IsPlaceOf}
use Rattle.laws_lines.proofs.Regions.PieceVars.{IsRangeOf}
use Rattle.laws_lines.proofs.Regions.RegionVars.{map_all, one_few, IsFine, looped_fine, mapped_fine, united_fine, at_fine, list_fine}
use Rattle.laws_lines.proofs.Regions.AccessVars.{IsNamedBy, named_number, FewBounds, Fine, reads_fine, maybe_fine, assignment_fine, printing_fine, reading_fine, ReachedOk, into_ok, past_ok, all_past_ok, always_ok, met_fine, tests_fine, if_fine}
use Rattle.fx_lists.proofs.Lists.{each_append as both_all}
use Rattle.call_graph.specs.Visible.{is_visible_to_callers}

module _ (Name : List ℕ → Type 0) (ok : ℕ → Type 0) (m : ScopeTree) (a : Scope ok m) (few : FewBounds m.symbols) (t : ℕ → Transformer) (done : (n : ℕ) → IsDone ok (t n)) (c : Called) (called : (x : List ℕ) (es : ExprTrees) → Fine Name ok m a few (c x es)) where
  abbrev IsNamedOne : Variable → Type 0
  IsNamedOne = IsNamedBy Name m.names

  -- a DO whose index is no symbol
  abbrev such : WhatTree → Bool
  such = counts_other m.names

  abbrev F : List Region → Type 0
  F rs = Fine Name ok m a few rs

  abbrev join : (xs ys : List Region) → F xs → F ys → F (xs ++ ys)
  join xs ys h k = both_all (IsFine IsNamedOne ok) xs ys h k

  abbrev W : Reached → Type 0
  W w = ReachedOk Name ok m a few w

  each_done : (body : StmtTrees) → AreDone ok (each_at t body)
  each_done tree.no_stmts = tt
  each_done (tree.more_stmts s rest) = (done (number_of s), each_done rest)

  -- ---- a DO

  pub range_is : (l : LoopTree) → IsRangeOf ok (range_of l m t)
  range_is (tree.loop index first last step body) =
      let parts = parts_of_loop ok m a (tree.loop index first last step body) (list_at t false body) (list_done ok false body (each_at t body) (each_done body)) in
      record { first = parts.first; last = parts.last; turn = iteration_done ok (loop_parts m (tree.loop index first last step body) (list_at t false body)) parts }

  pub loop_reads_fine : (l : LoopTree) → F (loop_reads l m)
  loop_reads_fine (tree.loop index first last step body) =
      join (reads first m) (reads last m ++ maybe_reads step m) (reads_fine Name ok m a few first) (join (reads last m) (maybe_reads step m) (reads_fine Name ok m a few last) (maybe_fine Name ok m a few step))

  index_number : (l : LoopTree) → has_other_index m.names l ≡ false → IsNumber m.names (range_of l m t).index
  index_number (tree.loop index first last step body) i = go (number_from 1 m.names index) refl i
    where
      go : (o : Option ℕ) → number_from 1 m.names index ≡ o → is_none o ≡ false → IsNumber m.names (unwrap_or o 0)
      go None q k = cc
      go (Some n) q k = named_number m.names index n q

  do_fine : (l : LoopTree) → has_other_index m.names l ≡ false → (rs : List Region) → F rs → F (do_set l m t rs)
  do_fine l i rs h =
      let over = all_over (range_of l m t) rs in
      united_fine IsNamedOne ok (loop_reads l m ++ (scalar Write (range_of l m t).index ∷ over))
      (join (loop_reads l m) (scalar Write (range_of l m t).index ∷ over) (loop_reads_fine l)
      ((index_number l i, one_few (IsNeat (IsPlaceOf ok)) no_rows (none_neat (IsPlaceOf ok))), map_all (IsFine IsNamedOne ok) (λ r. over_loop r (range_of l m t)) (looped_fine IsNamedOne ok (range_of l m t) (range_is l)) rs h))

  -- ---- statements

  abbrev All : List (At (List Region)) → Type 0
  All xs = AllAt F xs

  lists : (body : StmtTrees) (whole : Bool) → All (at_list body m t c) → F (list_regions t (accesses_at (at_list body m t c)) whole body)
  lists body whole h =
      list_fine IsNamedOne ok t (accesses_at (at_list body m t c)) done (at_fine IsNamedOne ok (at_list body m t c) (λ n rs e. value_is F (at_list body m t c) n rs h e)) whole body

  mutual
    stmt_fine : (s : StmtTree) → stmt_has such s ≡ false → F (stmt_set s m t c)
    stmt_fine (tree.stmt n label w) i = what_fine w i

    what_fine : (w : WhatTree) → (such w || parts_have such w) ≡ false → F (what_set w m t c)
    what_fine (tree.assign x y) i = assignment_fine Name ok m a few x y
    what_fine (tree.block_if arms other) i =
        let p = or_parts (arms_have such arms) (else_has such other) i in
        let sets = arm_sets arms m t c always in
        let rest = else_set other m t c (past_arms arms m always) in
        united_fine IsNamedOne ok (tests_reads arms m always ++ (sets ++ rest))
        (join (tests_reads arms m always) (sets ++ rest) (tests_fine Name ok m a few arms always (always_ok Name ok m a few))
        (join sets rest (arms_fine arms p.0 always (always_ok Name ok m a few)) (else_fine other p.1 (past_arms arms m always) (all_past_ok Name ok m a few arms always (always_ok Name ok m a few)))))
    what_fine (tree.logical_if e s) i = if_fine Name ok m a few e (stmt_set s m t c) (stmt_fine s i)
    what_fine (tree.do_loop l) i = let p = or_parts (has_other_index m.names l) (loop_has such l) i in loop_fine l p.0 p.1
    what_fine (tree.call x es) i = called x es
    what_fine (tree.goto l) i = tt
    what_fine tree.continue i = tt
    what_fine tree.return i = tt
    what_fine (tree.stop text) i = tt
    what_fine (tree.print es) i = printing_fine Name ok m a few es
    what_fine (tree.read es) i = reading_fine Name ok m a few es

    arms_fine : (xs : ArmTrees) → arms_have such xs ≡ false → (w : Reached) → W w → F (arm_sets xs m t c w)
    arms_fine tree.no_arms i w h = tt
    arms_fine (tree.more_arms x rest) i w h =
        let p = or_parts (arm_has such x) (arms_have such rest) i in
        join (arm_set x m t c (into_arm x m w)) (arm_sets rest m t c (past_arm x m w)) (arm_fine x p.0 (into_arm x m w) (into_ok Name ok m a few x w h)) (arms_fine rest p.1 (past_arm x m w) (past_ok Name ok m a few x w h))

    arm_fine : (x : ArmTree) → arm_has such x ≡ false → (w : Reached) → W w → F (arm_set x m t c w)
    arm_fine (tree.arm e body) i w h = met_fine Name ok m a few w h (list_regions t (accesses_at (at_list body m t c)) false body) (lists body false (list_at_fine body i))

    else_fine : (x : ElseTree) → else_has such x ≡ false → (w : Reached) → W w → F (else_set x m t c w)
    else_fine tree.no_else i w h = tt
    else_fine (tree.otherwise body) i w h = met_fine Name ok m a few w h (list_regions t (accesses_at (at_list body m t c)) false body) (lists body false (list_at_fine body i))

    loop_fine : (l : LoopTree) → has_other_index m.names l ≡ false → loop_has such l ≡ false → F (body_set l m t c)
    loop_fine (tree.loop index first last step body) j i =
        do_fine (tree.loop index first last step body) j (list_regions t (accesses_at (at_list body m t c)) false body) (lists body false (list_at_fine body i))

    -- ---- at each statement

    at_stmt_fine : (s : StmtTree) → stmt_has such s ≡ false → All (at_stmt s m t c)
    at_stmt_fine (tree.stmt n label w) i = (what_fine w i, at_parts_fine w (or_parts (such w) (parts_have such w) i).1)

    at_parts_fine : (w : WhatTree) → parts_have such w ≡ false → All (at_parts w m t c)
    at_parts_fine (tree.assign x e) i = tt
    at_parts_fine (tree.block_if arms other) i =
        let p = or_parts (arms_have such arms) (else_has such other) i in
        all_at-append F (at_arms arms m t c) (at_else other m t c) (at_arms_fine arms p.0) (at_else_fine other p.1)
    at_parts_fine (tree.logical_if e s) i = at_stmt_fine s i
    at_parts_fine (tree.do_loop l) i = at_loop_fine l i
    at_parts_fine (tree.call x es) i = tt
    at_parts_fine (tree.goto l) i = tt
    at_parts_fine tree.continue i = tt
    at_parts_fine tree.return i = tt
    at_parts_fine (tree.stop text) i = tt
    at_parts_fine (tree.print es) i = tt
    at_parts_fine (tree.read es) i = tt

    pub list_at_fine : (ss : StmtTrees) → list_has such ss ≡ false → All (at_list ss m t c)
    list_at_fine tree.no_stmts i = tt
    list_at_fine (tree.more_stmts s rest) i =
        let p = or_parts (stmt_has such s) (list_has such rest) i in
        all_at-append F (at_stmt s m t c) (at_list rest m t c) (at_stmt_fine s p.0) (list_at_fine rest p.1)

    at_arms_fine : (xs : ArmTrees) → arms_have such xs ≡ false → All (at_arms xs m t c)
    at_arms_fine tree.no_arms i = tt
    at_arms_fine (tree.more_arms x rest) i =
        let p = or_parts (arm_has such x) (arms_have such rest) i in
        all_at-append F (at_arm x m t c) (at_arms rest m t c) (at_arm_fine x p.0) (at_arms_fine rest p.1)

    at_arm_fine : (x : ArmTree) → arm_has such x ≡ false → All (at_arm x m t c)
    at_arm_fine (tree.arm e body) i = list_at_fine body i

    at_else_fine : (x : ElseTree) → else_has such x ≡ false → All (at_else x m t c)
    at_else_fine tree.no_else i = tt
    at_else_fine (tree.otherwise body) i = list_at_fine body i

    at_loop_fine : (l : LoopTree) → loop_has such l ≡ false → All (at_loop l m t c)
    at_loop_fine (tree.loop index first last step body) i = list_at_fine body i

  -- ---- what callers see

  bounds_fine : (bs : List BoundTree) → F (bounds_reads bs m)
  bounds_fine [] = tt
  bounds_fine (b ∷ bs) =
      join (reads b.low m) (maybe_reads b.high m ++ bounds_reads bs m) (reads_fine Name ok m a few b.low) (join (maybe_reads b.high m) (bounds_reads bs m) (maybe_fine Name ok m a few b.high) (bounds_fine bs))

  pub symbols_fine : (ss : List SymbolTree) → F (symbols_reads ss m)
  symbols_fine [] = tt
  symbols_fine (s ∷ ss) = join (bounds_reads s.bounds m) (symbols_reads ss m) (bounds_fine s.bounds) (symbols_fine ss)

  pub seen_fine : (ss : List SymbolTree) (cs : List ℕ) (rs : List Region) → F rs → F (seen ss cs rs)
  seen_fine ss cs [] h = tt
  seen_fine ss cs (r ∷ rs) h =
      let others = seen_fine ss cs rs h.1 in
      if_cases F (is_visible_to_callers ss r.variable) (for_callers cs r ∷ seen ss cs rs) (seen ss cs rs) (λ e. (mapped_fine IsNamedOne ok (without cs) (without_neat (IsPlaceOf ok) cs) false r h.0, others)) (λ e. others)

  pub summary_fine : (body : StmtTrees) → list_has such body ≡ false → F (summary_of m (list_set true body m t c))
  summary_fine body i =
      let all = symbols_reads m.symbols m ++ list_set true body m t c in
      united_fine IsNamedOne ok (seen m.symbols (locals m.symbols) (unite_all all))
      (seen_fine m.symbols (locals m.symbols) (unite_all all) (united_fine IsNamedOne ok all (join (symbols_reads m.symbols m) (list_set true body m t c) (symbols_fine m.symbols) (lists body true (list_at_fine body i)))))
