-- The sets that IN regions are made from have one WRITE region of a variable, on the subscripts that it has.
use Rattle.std.proofs.Common.{◌≡◌, ℕ, ◌||◌, Bool, true, false, List, [], ◌∷◌, ◌++◌, Option, Some, None, refl, sym, subst}
use Rattle.affine_systems.specs.declared.row.Var.{Var}
use Rattle.affine_systems.specs.declared.row.Var.TheVariants.{Phi}
use Rattle.affine_systems.specs.declared.row.Term.{Term}
use Rattle.affine_systems.specs.declared.row.Row.{Row}
use Rattle.affine_systems.specs.declared.row.System.{System}
use Rattle.affine_systems.specs.Terms.{var_eq}
use Rattle.affine_systems.specs.Rows.{AllRows}
use Rattle.affine_systems.proofs.Basics.{if_cases}
use Rattle.affine_systems.proofs.TermLaws.{var_eq-true}
use Rattle.f77_ast.specs.Trees.{ExprTrees, StmtTree, WhatTree, ArmTree, ArmTrees, ElseTree, LoopTree, StmtTrees}
use Rattle.f77_ast.specs.Trees as tree
use Rattle.f77_ast.specs.Symbols.{SymbolTree}
use Rattle.preconditions.specs.transformer_algebra.declared.transformer.Transformer.{Transformer}
use Rattle.preconditions.specs.transformer_algebra.Laws.{here}
use Rattle.preconditions.specs.call_translation.Scopes.{ScopeTree}
use Rattle.preconditions.specs.transformers.Jumps.{unstructured}
use Rattle.preconditions.specs.transformers.Lists.{value_at, each_at, list_at, number_of}
use Rattle.preconditions.specs.transformers.Loops.{loop_parts}
use Rattle.in_out_regions.specs.region_sets.declared.region.Access.TheVariants.{Write}
use Rattle.in_out_regions.specs.region_sets.declared.region.Region.{Region}
use Rattle.in_out_regions.specs.region_sets.Naming.{in_terms, in_rows}
use Rattle.in_out_regions.specs.region_sets.Sets.{unite_all}
use Rattle.in_out_regions.specs.region_sets.Lists.{or_none, accesses_at, all_composed, in_order, all_forgetting, all_accesses, in_any_order, numbers, list_regions, set_at}
use Rattle.in_out_regions.specs.array_regions.declared.arms.Reached.{Reached}
use Rattle.in_out_regions.specs.array_regions.References.{scalar, named}
use Rattle.in_out_regions.specs.array_regions.Reads.{reads, all_reads, inner_reads, maybe_reads}
use Rattle.in_out_regions.specs.array_regions.Simple.{item_does, reading}
use Rattle.in_out_regions.specs.array_regions.Arms.{always, if_true, into_arm, past_arm, past_arms, all_met, tests_reads}
use Rattle.in_out_regions.specs.array_regions.Loops.{range_of, loop_reads, all_over, do_set}
use Rattle.in_out_regions.specs.array_regions.Calls.{Called}
use Rattle.call_graph.specs.CallsIn.{CallAt, Each, stmt_calls, what_calls, list_calls, arms_calls, arm_calls, else_calls, loop_calls}
use Rattle.laws_analyses.proofs.Statements.Placing.{each_parts}
use Rattle.f77_ast.specs.declared.results.At.{At}
use Rattle.in_out_regions.specs.array_regions.Statement.{stmt_set, what_set, arm_sets, arm_set, else_set, body_set, at_stmt, at_parts, at_list, at_arms, at_arm, at_else, at_loop}
use Rattle.in_out_regions.specs.Simple.{item_written}
use Rattle.laws_lines.specs.Variables.{EachVar}
use Rattle.laws_lines.proofs.SystemVars.{neat_over}
use Rattle.laws_lines.proofs.RuleVars.{IsDone, AreDone}
use Rattle.laws_lines.proofs.LoopVars.{iteration_done}
use Rattle.laws_lines.proofs.StatementVars.{AllAt, all_at-append, Scope, parts_of_loop, list_done}
use Rattle.laws_lines.proofs.PhaseVars.{value_is}
use Rattle.laws_marks.specs.InFrames.{Frame, rank}
use Rattle.laws_marks.specs.InUnits.{IsNarrow, SetFits, SetsFit}
use Rattle.laws_marks.proofs.InUnique.{Ordered, gathered_ordered, inexact_ordered, one_write_of}
use Rattle.laws_marks.proofs.InNarrow.{Upto, IsUpto, IsRangeOver}
use Rattle.laws_marks.proofs.InNarrowed.{MayName, AreNarrowed, inner_narrowed, none_narrowed, both_narrowed, more_narrowed, united_narrowed, looped_narrowed, list_narrowed, scalar_one, named_narrowed, reads_narrowed, all_reads_narrowed, maybe_narrowed, assignment_narrowed, reading_narrowed, ReachedOk, true_ok, into_ok, past_ok, all_past_ok, always_ok, met_narrowed, tests_narrowed}
use Rattle.fx_lists.proofs.Every.{Anything}

-- ---- systems of such rows

named_such : (such : Var → Type 0) (v : Var) (ts : List Term) → EachVar such ts → in_terms v ts ≡ true → such v
named_such such v [] h e = cc
named_such such v (t ∷ ts) h e = go (var_eq v t.var) refl e (λ k. named_such such v ts h.1 k)
  where
    go : (b : Bool) → var_eq v t.var ≡ b → (b || in_terms v ts) ≡ true → (in_terms v ts ≡ true → such v) → such v
    go true q k ih = subst such (sym (var_eq-true v t.var q)) h.0
    go false q k ih = ih k

rows_such : (such : Var → Type 0) (v : Var) (rs : List Row) → AllRows (λ r. EachVar such r.terms) rs → in_rows v rs ≡ true → such v
rows_such such v [] h e = cc
rows_such such v (r ∷ rs) h e = go (in_terms v r.terms) refl e (λ k. rows_such such v rs h.1 k)
  where
    go : (b : Bool) → in_terms v r.terms ≡ b → (b || in_rows v rs) ≡ true → (in_rows v rs ≡ true → such v) → such v
    go true q k ih = named_such such v r.terms h.0 q
    go false q k ih = ih k

pub narrow_of : (n : ℕ) (s : System) → IsUpto n s → IsNarrow n s
narrow_of n s h i e = rows_such (Upto n) (Phi i) s.rows (neat_over (Upto n) s h) e

-- ---- sets

-- ordered, of such variables, on the subscripts that they have
abbrev pub IsFit : MayName → List SymbolTree → List Region → Type 0
IsFit may ss rs = Ordered rs × AreNarrowed may ss rs

pub none_fit : (may : MayName) (ss : List SymbolTree) → IsFit may ss []
none_fit may ss = (tt, none_narrowed may ss)

pub united_fit : (may : MayName) (ss : List SymbolTree) (rs : List Region) → AreNarrowed may ss rs → IsFit may ss (unite_all rs)
united_fit may ss rs h = (gathered_ordered rs, united_narrowed may ss rs h)

pub list_ordered : (t : ℕ → Transformer) (f : ℕ → List Region) (whole : Bool) (body : StmtTrees) → Ordered (list_regions t f whole body)
list_ordered t f whole body =
    if_cases Ordered (unstructured whole body) (in_any_order (list_at t whole body).cells f (numbers body)) (in_order t f (numbers body))
    (λ e. inexact_ordered (unite_all (all_forgetting (list_at t whole body).cells (all_accesses f (numbers body)))) (gathered_ordered (all_forgetting (list_at t whole body).cells (all_accesses f (numbers body)))))
    (λ e. order (numbers body))
  where
    order : (ns : List ℕ) → Ordered (in_order t f ns)
    order [] = tt
    order (n ∷ ns) = gathered_ordered (f n ++ all_composed (t n) (in_order t f ns))

-- c: what a CALL accesses
module _ (may : MayName) (m : ScopeTree) (t : ℕ → Transformer) (c : Called) (done : (n : ℕ) → IsDone Anything (t n)) where
  abbrev F : List Region → Type 0
  F rs = IsFit may m.symbols rs

  abbrev join : (rs qs : List Region) → AreNarrowed may m.symbols rs → AreNarrowed may m.symbols qs → AreNarrowed may m.symbols (rs ++ qs)
  join rs qs h k = both_narrowed may m.symbols rs qs h k

  each_done : (body : StmtTrees) → AreDone Anything (each_at t body)
  each_done tree.no_stmts = tt
  each_done (tree.more_stmts s rest) = (done (number_of s), each_done rest)

  any_scope : Scope Anything m
  any_scope = record { allows = record { names = λ x c e. tt; units = λ b o c e. tt }; flags = λ c e. tt }

  range_is : (l : LoopTree) → IsRangeOver (range_of l m t)
  range_is (tree.loop index first last step body) =
      let parts = parts_of_loop Anything m any_scope (tree.loop index first last step body) (list_at t false body) (list_done Anything false body (each_at t body) (each_done body)) in
      record { first = parts.first; last = parts.last; turn = iteration_done Anything (loop_parts m (tree.loop index first last step body) (list_at t false body)) parts }

  loop_reads_narrowed : (l : LoopTree) → AreNarrowed may m.symbols (loop_reads l m)
  loop_reads_narrowed (tree.loop index first last step body) =
      join (reads first m) (reads last m ++ maybe_reads step m) (reads_narrowed may m first) (join (reads last m) (maybe_reads step m) (reads_narrowed may m last) (maybe_narrowed may m step))

  do_fit : (l : LoopTree) (rs : List Region) → AreNarrowed may m.symbols rs → IsFit may m.symbols (do_set l m t rs)
  do_fit l rs h =
      let over = all_over (range_of l m t) rs in
      let w = scalar Write (range_of l m t).index in
      united_fit may m.symbols (loop_reads l m ++ (w ∷ over))
      (join (loop_reads l m) (w ∷ over) (loop_reads_narrowed l) (more_narrowed may m.symbols w over (scalar_one may m Write (range_of l m t).index w here) (looped_narrowed may m.symbols (range_of l m t) (range_is l) rs h)))

  pub lists : (body : StmtTrees) (whole : Bool) → AllAt F (at_list body m t c) → AreNarrowed may m.symbols (list_regions t (accesses_at (at_list body m t c)) whole body)
  lists body whole h = list_narrowed may m.symbols t done (at_list body m t c) (λ n rs e. (value_is F (at_list body m t c) n rs h e).1) whole body

  reading_ordered : (es : ExprTrees) → Ordered (reading es m)
  reading_ordered tree.no_exprs = tt
  reading_ordered (tree.more_exprs e es) = gathered_ordered (inner_reads e m ++ (named e m Write ++ all_composed (item_does m e) (reading es m)))

  -- the sets of CALLs are such
  abbrev pub CallsFit : List CallAt → Type 0
  CallsFit cs = Each (λ (a : CallAt). IsFit may m.symbols (c a.callee a.actuals)) cs

  abbrev of_parts : (xs ys : List CallAt) → CallsFit (xs ++ ys) → CallsFit xs × CallsFit ys
  of_parts xs ys h = each_parts (λ (a : CallAt). IsFit may m.symbols (c a.callee a.actuals)) xs ys h

  mutual
    stmt_fit : (s : StmtTree) → CallsFit (stmt_calls s) → IsFit may m.symbols (stmt_set s m t c)
    stmt_fit (tree.stmt n label w) h = what_fit w n h

    what_fit : (w : WhatTree) (n : ℕ) → CallsFit (what_calls w n) → IsFit may m.symbols (what_set w m t c)
    what_fit (tree.assign x y) n h = (gathered_ordered (reads y m ++ (inner_reads x m ++ named x m Write)), assignment_narrowed may m x y)
    what_fit (tree.block_if arms other) n h =
        let o = of_parts (arms_calls arms) (else_calls other) h in
        let sets = arm_sets arms m t c always in
        let rest = else_set other m t c (past_arms arms m always) in
        united_fit may m.symbols (tests_reads arms m always ++ (sets ++ rest))
        (join (tests_reads arms m always) (sets ++ rest) (tests_narrowed may m arms always (always_ok may m))
        (join sets rest (arms_fit arms always (always_ok may m) o.0) (else_fit other (past_arms arms m always) (all_past_ok may m arms always (always_ok may m)) o.1)))
    what_fit (tree.logical_if e s) n h =
        let rs = all_met (if_true m e always) (stmt_set s m t c) in
        united_fit may m.symbols (reads e m ++ rs) (join (reads e m) rs (reads_narrowed may m e) (met_narrowed may m (if_true m e always) (true_ok may m e always (always_ok may m)) (stmt_set s m t c) (stmt_fit s h).1))
    what_fit (tree.do_loop l) n h = loop_fit l h
    what_fit (tree.call x es) n h = h.0
    what_fit (tree.goto l) n h = none_fit may m.symbols
    what_fit tree.continue n h = none_fit may m.symbols
    what_fit tree.return n h = none_fit may m.symbols
    what_fit (tree.stop text) n h = none_fit may m.symbols
    what_fit (tree.print es) n h = united_fit may m.symbols (all_reads es m) (all_reads_narrowed may m es)
    what_fit (tree.read es) n h = (reading_ordered es, reading_narrowed may m es)

    arms_fit : (xs : ArmTrees) (w : Reached) → ReachedOk may m w → CallsFit (arms_calls xs) → AreNarrowed may m.symbols (arm_sets xs m t c w)
    arms_fit tree.no_arms w h f = none_narrowed may m.symbols
    arms_fit (tree.more_arms x rest) w h f =
        let o = of_parts (arm_calls x) (arms_calls rest) f in
        join (arm_set x m t c (into_arm x m w)) (arm_sets rest m t c (past_arm x m w)) (arm_fit x (into_arm x m w) (into_ok may m x w h) o.0) (arms_fit rest (past_arm x m w) (past_ok may m x w h) o.1)

    arm_fit : (x : ArmTree) (w : Reached) → ReachedOk may m w → CallsFit (arm_calls x) → AreNarrowed may m.symbols (arm_set x m t c w)
    arm_fit (tree.arm e body) w h f = met_narrowed may m w h (list_regions t (accesses_at (at_list body m t c)) false body) (lists body false (list_fits body f))

    else_fit : (x : ElseTree) (w : Reached) → ReachedOk may m w → CallsFit (else_calls x) → AreNarrowed may m.symbols (else_set x m t c w)
    else_fit tree.no_else w h f = none_narrowed may m.symbols
    else_fit (tree.otherwise body) w h f = met_narrowed may m w h (list_regions t (accesses_at (at_list body m t c)) false body) (lists body false (list_fits body f))

    loop_fit : (l : LoopTree) → CallsFit (loop_calls l) → IsFit may m.symbols (body_set l m t c)
    loop_fit (tree.loop index first last step body) f = do_fit (tree.loop index first last step body) (list_regions t (accesses_at (at_list body m t c)) false body) (lists body false (list_fits body f))

    -- ---- at each statement

    at_stmt_fits : (s : StmtTree) → CallsFit (stmt_calls s) → AllAt F (at_stmt s m t c)
    at_stmt_fits (tree.stmt n label w) f = (what_fit w n f, at_parts_fits w n f)

    at_parts_fits : (w : WhatTree) (n : ℕ) → CallsFit (what_calls w n) → AllAt F (at_parts w m t c)
    at_parts_fits (tree.assign x e) n f = tt
    at_parts_fits (tree.block_if arms other) n f = (let o = of_parts (arms_calls arms) (else_calls other) f in all_at-append F (at_arms arms m t c) (at_else other m t c) (at_arms_fits arms o.0) (at_else_fits other o.1))
    at_parts_fits (tree.logical_if e s) n f = at_stmt_fits s f
    at_parts_fits (tree.do_loop l) n f = at_loop_fits l f
    at_parts_fits (tree.call x es) n f = tt
    at_parts_fits (tree.goto l) n f = tt
    at_parts_fits tree.continue n f = tt
    at_parts_fits tree.return n f = tt
    at_parts_fits (tree.stop text) n f = tt
    at_parts_fits (tree.print es) n f = tt
    at_parts_fits (tree.read es) n f = tt

    list_fits : (ss : StmtTrees) → CallsFit (list_calls ss) → AllAt F (at_list ss m t c)
    list_fits tree.no_stmts f = tt
    list_fits (tree.more_stmts s rest) f = (let o = of_parts (stmt_calls s) (list_calls rest) f in all_at-append F (at_stmt s m t c) (at_list rest m t c) (at_stmt_fits s o.0) (list_fits rest o.1))

    at_arms_fits : (xs : ArmTrees) → CallsFit (arms_calls xs) → AllAt F (at_arms xs m t c)
    at_arms_fits tree.no_arms f = tt
    at_arms_fits (tree.more_arms x rest) f = (let o = of_parts (arm_calls x) (arms_calls rest) f in all_at-append F (at_arm x m t c) (at_arms rest m t c) (at_arm_fits x o.0) (at_arms_fits rest o.1))

    at_arm_fits : (x : ArmTree) → CallsFit (arm_calls x) → AllAt F (at_arm x m t c)
    at_arm_fits (tree.arm e body) f = list_fits body f

    at_else_fits : (x : ElseTree) → CallsFit (else_calls x) → AllAt F (at_else x m t c)
    at_else_fits tree.no_else f = tt
    at_else_fits (tree.otherwise body) f = list_fits body f

    at_loop_fits : (l : LoopTree) → CallsFit (loop_calls l) → AllAt F (at_loop l m t c)
    at_loop_fits (tree.loop index first last step body) f = list_fits body f

  pub at_fits : (ss : StmtTrees) → CallsFit (list_calls ss) → AllAt (IsFit may m.symbols) (at_list ss m t c)
  at_fits ss f = list_fits ss f

-- ---- of a module

abbrev pub may_of : Frame → MayName
may_of k = record { ks = k.ks; g = k.g; such = k.may_name; own = k.own; told = k.told }

module _ (k : Frame) (done : (n : ℕ) → IsDone Anything (k.does n)) where
  pub set_fits : (rs : List Region) → IsFit (may_of k) k.m.symbols rs → SetFits k rs
  set_fits rs h = record { named = λ r i. (h.1 r i).0; one = λ w i e. one_write_of rs h.0 w i e; narrow = λ w i e s j. narrow_of (rank k.ks k.g k.m.symbols w.variable) s ((h.1 w i).1 s j) }

  pub sets_fit : (body : StmtTrees) → CallsFit (may_of k) k.m k.does k.calls done (list_calls body) → SetsFit k (at_list body k.m k.does k.calls)
  sets_fit body f = record {
    sets = λ n. set_fits (set_at (at_list body k.m k.does k.calls) n) (go n (value_at (at_list body k.m k.does k.calls) n) refl);
    items = λ e. set_fits (item_written k.m e) (united_fit (may_of k) k.m.symbols (named e k.m Write) (named_narrowed (may_of k) k.m e Write));
    bodies = λ ss. set_fits (list_regions k.does (accesses_at (at_list body k.m k.does k.calls)) false ss)
        (list_ordered k.does (accesses_at (at_list body k.m k.does k.calls)) false ss, list_narrowed (may_of k) k.m.symbols k.does done (at_list body k.m k.does k.calls) (λ n rs e. (value_is (IsFit (may_of k) k.m.symbols) (at_list body k.m k.does k.calls) n rs fits e).1) false ss);
    exprs = λ e r i. (reads_narrowed (may_of k) k.m e r i).0;
    inner = λ e r i. (inner_narrowed (may_of k) k.m e r i).0;
  }
    where
      fits : AllAt (IsFit (may_of k) k.m.symbols) (at_list body k.m k.does k.calls)
      fits = at_fits (may_of k) k.m k.does k.calls done body f

      go : (n : ℕ) (o : Option (List Region)) → value_at (at_list body k.m k.does k.calls) n ≡ o → IsFit (may_of k) k.m.symbols (or_none o)
      go n None e = none_fit (may_of k) k.m.symbols
      go n (Some rs) e = value_is (IsFit (may_of k) k.m.symbols) (at_list body k.m k.does k.calls) n rs fits e
