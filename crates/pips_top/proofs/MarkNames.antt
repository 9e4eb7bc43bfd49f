-- The variables that marks of loops name are symbols, or those of regions; those of reductions are symbols.
use Rattle.std.proofs.Common.{◌≡◌, ℕ, Bool, true, false, List, [], ◌∷◌, ◌++◌, map, Option, Some, None, refl, subst}
use Rattle.std.specs.Prelude.{if◌then◌else◌}
use Rattle.std.specs.declared.cmp.Ordering.{Ordering}
use Rattle.std.specs.declared.cmp.Ordering.TheVariants.{Less, Equal, Greater}
use Rattle.std.specs.Ordering.{match_ordering}
use Rattle.f77_ast.specs.Trees.{ExprTree, StmtTree, WhatTree, ArmTree, ArmTrees, ElseTree, LoopTree, StmtTrees}
use Rattle.f77_ast.specs.Trees as tree
use Rattle.f77_ast.specs.Shapes.{Walk, walk_stmt, walk_what, walk_body, walk_arms, walk_arm, walk_else, walk_list}
use Rattle.f77_ast.specs.DeclTrees.{ModuleTree}
use Rattle.f77_ast.specs.Symbols.{SymbolTree, number_from}
use Rattle.f77_ast.specs.declared.variable.Unit.{Unit as BlockUnit}
use Rattle.f77_ast.specs.declared.variable.Variable.{Variable}
use Rattle.f77_ast.specs.declared.variable.Variable.TheVariants.{Own, Block, Saved}
use Rattle.f77_meaning.specs.Modules.{Known, symbol_names}
use Rattle.f77_ast.specs.Variables.{variable_cmp, merged, union}
use Rattle.f77_ast.specs.declared.effect_set.EffectSet.{EffectSet}
use Rattle.f77_ast.specs.declared.results.At.{At}
use Rattle.f77_ast.specs.declared.results.Results.{Results}
use Rattle.in_out_regions.specs.transformer_algebra.declared.transformer.Transformer.{Transformer}
use Rattle.in_out_regions.specs.transformers.Lists.{transformer_at, value_at}
use Rattle.pipsmake_base.specs.module_phases.ScalarPhases.{Analysis, scope_of}
use Rattle.in_out_regions.specs.region_sets.declared.region.Region.{Region}
use Rattle.f77_ast.specs.declared.marks.Reason.{Reason}
use Rattle.f77_ast.specs.declared.marks.Reason.TheVariants.{Jump, InputOutput, Step, Index, Carries}
use Rattle.f77_ast.specs.declared.marks.Mark.{Mark}
use Rattle.f77_ast.specs.declared.marks.Mark.TheVariants.{Parallel, Serial}
use Rattle.in_out_regions.specs.region_sets.Lists.{accesses_at, list_regions}
use Rattle.pipsmake_base.specs.privatizer.Functions.{is_one_of, own_functions}
use Rattle.pipsmake_base.specs.privatizer.Uses.{Uses}
use Rattle.pipsmake_base.specs.loop_marker.declared.verdict.Verdict.{Verdict}
use Rattle.pipsmake_base.specs.loop_marker.declared.verdict.Verdict.TheVariants.{Free, Copied, Bad}
use Rattle.pipsmake_base.specs.loop_marker.Jumps.{may_jump, may_have_io, body_of}
use Rattle.pipsmake_base.specs.loop_marker.Variables.{own_variable, index_of, the_indexes, in_order_with, indexes_in, with_names, inner_in, is_write, written_in}
use Rattle.pipsmake_base.specs.loop_marker.Marks.{Knowledge, index_is_bad, with_own, verdict_of, by_verdict, marked, by_variables, has_step, by_index, by_step, by_io, mark_of, the_marks, marks_of}
use Rattle.pipsmake_base.specs.loop_marker.Known.{knowledge_of}
use Rattle.pipsmake_base.specs.module_phases.OutPhases.{ModuleOuts}
use Rattle.pipsmake_base.specs.loop_marker.Phases.{phases_of, analysis_in, known_in, marks_found}
use Rattle.call_graph.specs.declared.graph.Graph.{Graph}
use Rattle.pipsmake_base.specs.loop_marker.dependence_test.Finding.{loop_in}
use Rattle.pipsmake_base.specs.loop_marker.Results.{ModuleResults}
use Rattle.pipsmake_base.specs.result_lines.ReductionLines.{loop_said, loop_said_at}
use Rattle.pipsmake_base.specs.result_lines.declared.reduction.ReduceOp.{ReduceOp}
use Rattle.pipsmake_base.specs.result_lines.declared.reduction.Part.{Part as ReducedPart}
use Rattle.pipsmake_base.specs.result_lines.declared.reduction.Reduction.{Reduction}
use Rattle.reductions.specs.Reduced.{operator_of, part_with, part_of, reduction_with, by_part, by_verdict as by_verdict_of_part, reduction_from, is_carried, reduction_in, at_number, found_at, reduced_of}
use Rattle.laws_bounds.specs.laws_marks.Said.{reduced_in, reductions_of}
use Rattle.laws_lines.specs.Laws.{IsTracked}
use Rattle.laws_lines.proofs.StatementVars.{AllAt, all_at-append}
use Rattle.laws_lines.proofs.PhaseVars.{value_is}
use Rattle.laws_lines.proofs.Regions.AccessVars.{IsNamedBy, named_number}
use Rattle.laws_lines.proofs.Regions.RegionVars.{AreFine, at_fine, list_fine}
use Rattle.laws_lines.proofs.Regions.ProgramRegions.{found_done, IsNamedHere, ModuleFine, ModuleTold}
use Rattle.laws_programs.specs.roundtrip_programs.Statements.Formed.{Each}
use Rattle.laws_programs.proofs.RoundtripPrograms.ModuleTexts.Kept.{Each-append}
use Rattle.laws_programs.specs.roundtrip_programs.Lines.{IsShown}
use Rattle.laws_lines.specs.RegionTexts.Laws.{IsShownVariable}
use Rattle.pipsmake_base.specs.result_lines.ShownMarks.{numbers_without, mark_without, marks_without}
use Rattle.system_text.specs.SystemText.{name_at}
use Rattle.system_text.specs.Printed.{IsNumber, AreNumbers, AreNames}
use Rattle.laws_lines.specs.Marks.Lines.{IsShownSaid, AreShownSaid, AreNumberedParts}
use Rattle.laws_lines.specs.Marks.Laws.{DirectivesReadBack, ReductionsReadBack, ObstaclesAreNoDirectives}
use Rattle.pips_top.specs.MarksRead.{IsMarkRead, AreMarksRead, AreReductionsRead}

-- ---- what holds of each part that a walk puts together

record Keeps {A : Type 0} (P : A → Type 0) (f : Walk (List A)) : Type 0 where
  leaf : (n : ℕ) (label : Option ℕ) (w : WhatTree) → Each P (f.of_leaf n label w)
  inner : (n : ℕ) (label : Option ℕ) (test : ExprTree) (xs : List A) → Each P xs → Each P (f.of_inner n label test xs)
  body : (n : ℕ) (label : Option ℕ) (l : LoopTree) (xs : List A) → Each P xs → Each P (f.of_body n label l xs)
  arms : (n : ℕ) (label : Option ℕ) (xs ys : List A) → Each P xs → Each P ys → Each P (f.of_arms n label xs ys)
  arm : (test : ExprTree) (xs ys : List A) → Each P xs → Each P ys → Each P (f.of_arm test xs ys)
  no_arms : Each P f.of_no_arms
  other : (xs : List A) → Each P xs → Each P (f.of_else xs)
  no_else : Each P f.of_no_else
  more : (xs ys : List A) → Each P xs → Each P ys → Each P (f.of_more xs ys)
  end : Each P f.of_end

module _ {A : Type 0} (P : A → Type 0) (f : Walk (List A)) (k : Keeps P f) where
  mutual
    kept_stmt : (s : StmtTree) → Each P (walk_stmt f s)
    kept_stmt (tree.stmt n label w) = kept_what n label w

    kept_what : (n : ℕ) (label : Option ℕ) (w : WhatTree) → Each P (walk_what f n label w)
    kept_what n label (tree.assign a b) = k.leaf n label (tree.assign a b)
    kept_what n label (tree.block_if arms other) = k.arms n label (walk_arms f arms) (walk_else f other) (kept_arms arms) (kept_else other)
    kept_what n label (tree.logical_if test s) = k.inner n label test (walk_stmt f s) (kept_stmt s)
    kept_what n label (tree.do_loop l) = k.body n label l (walk_body f l) (kept_body l)
    kept_what n label (tree.call x es) = k.leaf n label (tree.call x es)
    kept_what n label (tree.goto l) = k.leaf n label (tree.goto l)
    kept_what n label tree.continue = k.leaf n label tree.continue
    kept_what n label tree.return = k.leaf n label tree.return
    kept_what n label (tree.stop text) = k.leaf n label (tree.stop text)
    kept_what n label (tree.print es) = k.leaf n label (tree.print es)
    kept_what n label (tree.read es) = k.leaf n label (tree.read es)

    kept_body : (l : LoopTree) → Each P (walk_body f l)
    kept_body (tree.loop index first last step body) = kept_list body

    kept_arms : (arms : ArmTrees) → Each P (walk_arms f arms)
    kept_arms tree.no_arms = k.no_arms
    kept_arms (tree.more_arms a rest) = kept_arm a (walk_arms f rest) (kept_arms rest)

    kept_arm : (a : ArmTree) (rest : List A) → Each P rest → Each P (walk_arm f a rest)
    kept_arm (tree.arm test body) rest h = k.arm test (walk_list f body) rest (kept_list body) h

    kept_else : (other : ElseTree) → Each P (walk_else f other)
    kept_else tree.no_else = k.no_else
    kept_else (tree.otherwise body) = k.other (walk_list f body) (kept_list body)

    kept_list : (list : StmtTrees) → Each P (walk_list f list)
    kept_list tree.no_stmts = k.end
    kept_list (tree.more_stmts s rest) = k.more (walk_stmt f s) (walk_list f rest) (kept_stmt s) (kept_list rest)

-- ---- what reductions name

abbrev pub ReductionNamed : List (List ℕ) → Reduction → Type 0
ReductionNamed names r = AreNumbers names r.private × AreNumberedParts names r.parts

abbrev pub ReductionsNamed : List (List ℕ) → List (At Reduction) → Type 0
ReductionsNamed names rs = AllAt (ReductionNamed names) rs

-- ---- what marks name

module _ (Word : List ℕ → Type 0) (names : List (List ℕ)) where
  abbrev N : Variable → Type 0
  N = IsNamedBy Word names

  abbrev AreN : List Variable → Type 0
  AreN vs = Each N vs

  -- an obstacle names a symbol or what has such a name; private variables are symbols
  abbrev pub ReasonNamed : Reason → Type 0
  ReasonNamed Jump = Unit {0}
  ReasonNamed InputOutput = Unit {0}
  ReasonNamed Step = Unit {0}
  ReasonNamed Index = Unit {0}
  ReasonNamed (Carries v ks p) = N v

  abbrev pub MarkNamed : Mark → Type 0
  MarkNamed (Parallel ns) = AreNumbers names ns
  MarkNamed (Serial r) = ReasonNamed r

  abbrev pub MarksNamed : List (At Mark) → Type 0
  MarksNamed ms = Each (λ (m : At Mark). MarkNamed m.value) ms

  -- ---- variables

  ordered_named : (o : Ordering) (xs ys zs : List Variable) → AreN xs → AreN ys → AreN zs → AreN (match_ordering o xs ys zs)
  ordered_named Less xs ys zs h i k = h
  ordered_named Equal xs ys zs h i k = i
  ordered_named Greater xs ys zs h i k = k

  merged_named : (v : Variable) (others : List Variable → List Variable) (ws : List Variable) → N v → ((xs : List Variable) → AreN xs → AreN (others xs)) → AreN ws → AreN (merged v others ws)
  merged_named v others [] h f k = record { first = h; others = f [] tt }
  merged_named v others (w ∷ ws) h f k =
      ordered_named (variable_cmp v w) (v ∷ others (w ∷ ws)) (v ∷ others ws) (w ∷ merged v others ws) (record { first = h; others = f (w ∷ ws) k }) (record { first = h; others = f ws k.others })
      (record { first = k.first; others = merged_named v others ws h f k.others })

  union_named : (vs ws : List Variable) → AreN vs → AreN ws → AreN (union vs ws)
  union_named [] ws h k = k
  union_named (v ∷ vs) ws h k = merged_named v (union vs) ws h.first (λ xs i. union_named vs xs h.others i) k

  in_order_named : (so_far vs : List Variable) → AreN so_far → AreN vs → AreN (in_order_with so_far vs)
  in_order_named so_far [] h k = h
  in_order_named so_far (v ∷ vs) h k = in_order_named (union so_far (v ∷ [])) vs (union_named so_far (v ∷ []) h (record { first = k.first; others = tt })) k.others

  own_named : (o : Option ℕ) → ((n : ℕ) → o ≡ Some n → IsNumber names n) → AreN (own_variable o)
  own_named None f = tt
  own_named (Some n) f = record { first = f n refl; others = tt }

  index_named : (l : LoopTree) → AreN (index_of names l)
  index_named (tree.loop index first last step body) = own_named (number_from 1 names index) (λ n e. named_number names index n e)

  -- the variables of DO statements are symbols
  indexes_named : (list : StmtTrees) → AreN (indexes_in names list)
  indexes_named list =
      in_order_named [] (walk_list (the_indexes names) list) tt
      (kept_list N (the_indexes names) (record {
        leaf = λ n label w. tt;
        inner = λ n label test xs h. h;
        body = λ n label l xs h. Each-append N (index_of names l) xs (index_named l) h;
        arms = λ n label xs ys h i. Each-append N xs ys h i;
        arm = λ test xs ys h i. Each-append N xs ys h i;
        no_arms = tt;
        other = λ xs h. h;
        no_else = tt;
        more = λ xs ys h i. Each-append N xs ys h i;
        end = tt;
      }) list)

  -- and so are functions
  with_names_named : (so_far : List Variable) (xs : List (List ℕ)) → AreN so_far → AreN (with_names names so_far xs)
  with_names_named so_far [] h = h
  with_names_named so_far (x ∷ xs) h =
      let o = number_from 1 names x in
      with_names_named (union so_far (own_variable o)) xs (union_named so_far (own_variable o) h (own_named o (λ n e. named_number names x n e)))

  abbrev RegionsNamed : List Region → Type 0
  RegionsNamed rs = Each (λ (r : Region). N r.variable) rs

  written_named : (rs : List Region) → RegionsNamed rs → AreN (written_in rs)
  written_named [] h = tt
  written_named (r ∷ rs) h = go (is_write r.kind) (written_named rs h.others)
    where
      go : (b : Bool) → AreN (written_in rs) → AreN (if b then r.variable ∷ written_in rs else written_in rs)
      go true k = record { first = h.first; others = k }
      go false k = k

  -- ---- marks

  number_more : (ns : List ℕ) (n : ℕ) → AreNumbers names ns → IsNumber names n → AreNumbers names (ns ++ n ∷ [])
  number_more [] n h k = (k, tt)
  number_more (m ∷ ns) n h k = (h.0, number_more ns n h.1 k)

  with_named : (ns : List ℕ) (v : Variable) → AreNumbers names ns → N v → AreNumbers names (with_own ns v)
  with_named ns (Own n) h k = number_more ns n h k
  with_named ns (Block b) h k = h
  with_named ns (Saved s x) h k = h

  verdict_named : (v : Variable) (next copied : Mark) (t : Verdict) → N v → MarkNamed next → MarkNamed copied → MarkNamed (by_verdict v next copied t)
  verdict_named v next copied Free h i k = i
  verdict_named v next copied Copied h i k = k
  verdict_named v next copied (Bad ks p) h i k = h

  marked_named : (f : Variable → Verdict) (ns : List ℕ) (vs : List Variable) → AreNumbers names ns → AreN vs → MarkNamed (marked f ns vs)
  marked_named f ns [] h k = h
  marked_named f ns (v ∷ vs) h k =
      verdict_named v (marked f ns vs) (marked f (with_own ns v) vs) (f v) k.first (marked_named f ns vs h k.others) (marked_named f (with_own ns v) vs (with_named ns v h k.first) k.others)

  choice_named : (b : Bool) (x y : Mark) → MarkNamed x → MarkNamed y → MarkNamed (if b then x else y)
  choice_named true x y h k = h
  choice_named false x y h k = k

  -- ---- reductions

  part_more : (ps : List ReducedPart) (p : ReducedPart) → AreNumberedParts names ps → IsNumber names p.cell → AreNumberedParts names (ps ++ p ∷ [])
  part_more [] p h k = (k, tt)
  part_more (q ∷ ps) p h k = (h.0, part_more ps p h.1 k)

  abbrev PartNamed : Option ReducedPart → Type 0
  PartNamed None = Unit {0}
  PartNamed (Some p) = IsNumber names p.cell

  abbrev MaybeNamed : Option Reduction → Type 0
  MaybeNamed None = Unit {0}
  MaybeNamed (Some r) = ReductionNamed names r

  part_with_named : (n : ℕ) (o : Option ReduceOp) → IsNumber names n → PartNamed (part_with n o)
  part_with_named n None h = tt
  part_with_named n (Some p) h = h

  part_named : (m : ModuleTree) (ss : List SymbolTree) (modules : List (List ℕ)) (l : LoopTree) (v : Variable) → N v → PartNamed (part_of m ss modules l v)
  part_named m ss modules l (Own n) h = part_with_named n (operator_of m ss modules l n) h
  part_named m ss modules l (Block b) h = tt
  part_named m ss modules l (Saved s x) h = tt

  by_part_named : (ps : List ReducedPart) (o : Option ReducedPart) (next : List ReducedPart → Option Reduction) → AreNumberedParts names ps → PartNamed o
      → ((qs : List ReducedPart) → AreNumberedParts names qs → MaybeNamed (next qs)) → MaybeNamed (by_part ps o next)
  by_part_named ps None next h k f = tt
  by_part_named ps (Some p) next h k f = f (ps ++ p ∷ []) (part_more ps p h k)

  by_verdict_named : (ns : List ℕ) (ps : List ReducedPart) (v : Variable) (o : Option ReducedPart) (t : Verdict) (next : List ℕ → List ReducedPart → Option Reduction) → AreNumbers names ns → AreNumberedParts names ps → N v
      → PartNamed o → ((ms : List ℕ) (qs : List ReducedPart) → AreNumbers names ms → AreNumberedParts names qs → MaybeNamed (next ms qs)) → MaybeNamed (by_verdict_of_part ns ps v o t next)
  by_verdict_named ns ps v o Free next h i j k f = f ns ps h i
  by_verdict_named ns ps v o Copied next h i j k f = f (with_own ns v) ps (with_named ns v h j) i
  by_verdict_named ns ps v o (Bad ks p) next h i j k f = by_part_named ps o (next ns) i k (λ qs e. f ns qs h e)

  reduction_with_named : (ns : List ℕ) (ps : List ReducedPart) → AreNumbers names ns → AreNumberedParts names ps → MaybeNamed (reduction_with ns ps)
  reduction_with_named ns [] h i = tt
  reduction_with_named ns (p ∷ ps) h i = (h, i)

  reduction_from_named : (k : Knowledge) (modules : List (List ℕ)) (l : LoopTree) (f : Variable → Verdict) (ns : List ℕ) (ps : List ReducedPart) (vs : List Variable) → AreNumbers names ns → AreNumberedParts names ps
      → AreN vs → MaybeNamed (reduction_from k modules l f ns ps vs)
  reduction_from_named k modules l f ns ps [] h i j = reduction_with_named ns ps h i
  reduction_from_named k modules l f ns ps (v ∷ vs) h i j =
      by_verdict_named ns ps v (part_of k.tree k.symbols modules l v) (f v) (λ ms qs. reduction_from k modules l f ms qs vs) h i j.first (part_named k.tree k.symbols modules l v j.first)
      (λ ms qs a b. reduction_from_named k modules l f ms qs vs a b j.others)

  number_named : (n : ℕ) (o : Option Reduction) → MaybeNamed o → ReductionsNamed names (at_number n o)
  number_named n None h = tt
  number_named n (Some r) h = (h, tt)

  unless_named : (b : Bool) (rs : List (At Reduction)) → ReductionsNamed names rs → ReductionsNamed names (if b then rs else [])
  unless_named true rs h = h
  unless_named false rs h = tt

  module _ (k : Knowledge) (own : names ≡ k.names) (told : (l : LoopTree) → RegionsNamed (k.body l).regions) where
    by_step_named : (l : LoopTree) (u : Uses) (inner : List Variable) → AreN inner → MarkNamed (by_step k (k.body l) u l inner)
    by_step_named l u inner h =
        let b = k.body l in
        choice_named (has_step b) (by_index k b u l inner) (Serial Step)
        (choice_named (index_is_bad k b u l) (Serial Index) (by_variables k b u l inner) tt
        (marked_named (verdict_of k b u l inner) [] (union inner (written_in b.regions)) tt (union_named inner (written_in b.regions) h (written_named b.regions (told l))))) tt

    inner_named : (l : LoopTree) → AreN (inner_in k.names k.tree l)
    inner_named l =
        subst (λ (ns : List (List ℕ)). AreN (inner_in ns k.tree l)) own (with_names_named (indexes_in names (body_of l)) (own_functions k.tree (body_of l)) (indexes_named (body_of l)))

    mark_named : (n : ℕ) (label : Option ℕ) (l : LoopTree) → MarkNamed (mark_of k n label l)
    mark_named n label l =
        let step = by_step k (k.body l) (k.uses n l) l (inner_in k.names k.tree l) in
        choice_named (may_jump k.tree.body k.effects label l) (Serial Jump) (by_io k n l) tt
        (choice_named (may_have_io k.effects (body_of l)) (Serial InputOutput) step tt (by_step_named l (k.uses n l) (inner_in k.names k.tree l) (inner_named l)))

    marks_named : MarksNamed (marks_of k)
    marks_named =
        let P : At Mark → Type 0 = λ m. MarkNamed m.value in
        kept_list P (the_marks (mark_of k)) (record {
          leaf = λ n label w. tt;
          inner = λ n label test xs h. h;
          body = λ n label l xs h. record { first = mark_named n label l; others = h };
          arms = λ n label xs ys h i. Each-append P xs ys h i;
          arm = λ test xs ys h i. Each-append P xs ys h i;
          no_arms = tt;
          other = λ xs h. h;
          no_else = tt;
          more = λ xs ys h i. Each-append P xs ys h i;
          end = tt;
        }) k.tree.body

    -- ---- and reductions

    reduction_named : (modules : List (List ℕ)) (n : ℕ) (o : Option LoopTree) → MaybeNamed (reduction_in k modules n o)
    reduction_named modules n None = tt
    reduction_named modules n (Some l) =
        let b = k.body l in
        let inner = inner_in k.names k.tree l in
        reduction_from_named k modules l (verdict_of k b (k.uses n l) l inner) [] [] (union inner (written_in b.regions)) tt tt
        (union_named inner (written_in b.regions) (inner_named l) (written_named b.regions (told l)))

    reductions_named : (modules : List (List ℕ)) (ms : List (At Mark)) → ReductionsNamed names (reduced_of k modules ms)
    reductions_named modules [] = tt
    reductions_named modules (m ∷ ms) =
        let rs = at_number m.id (reduction_in k modules m.id (loop_in m.id k.tree.body)) in
        all_at-append (ReductionNamed names) (found_at k modules m) (reduced_of k modules ms)
        (unless_named (is_carried m.value) rs (number_named m.id (reduction_in k modules m.id (loop_in m.id k.tree.body)) (reduction_named modules m.id (loop_in m.id k.tree.body))))
        (reductions_named modules ms)

-- ---- without functions

module _ (functions names : List (List ℕ)) where
  number_choice : (b : Bool) (n : ℕ) (ns : List ℕ) → IsNumber names n → AreNumbers names ns → AreNumbers names (if b then ns else n ∷ ns)
  number_choice true n ns h k = k
  number_choice false n ns h k = (h, k)

  pub numbers_named : (ns : List ℕ) → AreNumbers names ns → AreNumbers names (numbers_without functions names ns)
  numbers_named [] h = tt
  numbers_named (n ∷ ns) h = number_choice (is_one_of functions (name_at names n)) n (numbers_without functions names ns) h.0 (numbers_named ns h.1)

  without_named : (Word : List ℕ → Type 0) (m : Mark) → MarkNamed Word names m → MarkNamed Word names (mark_without functions names m)
  without_named Word (Parallel ns) h = numbers_named ns h
  without_named Word (Serial r) h = h

  pub all_without_named : (Word : List ℕ → Type 0) (ms : List (At Mark)) → MarksNamed Word names ms → MarksNamed Word names (marks_without functions names ms)
  all_without_named Word [] h = tt
  all_without_named Word (m ∷ ms) h = record { first = without_named Word m.value h.first; others = all_without_named Word ms h.others }

-- ---- modules

fine_named : (Word : List ℕ → Type 0) (names : List (List ℕ)) (ok : ℕ → Type 0) (rs : List Region) → AreFine (IsNamedBy Word names) ok rs → RegionsNamed Word names rs
fine_named Word names ok [] h = tt
fine_named Word names ok (r ∷ rs) h = record { first = h.0.0; others = fine_named Word names ok rs h.1 }

-- the marks and the reductions of a module with such regions, whatever its effects
module _ (Word : List ℕ → Type 0) (untracked : List BlockUnit) (f : ModuleOuts) (e : Results EffectSet) (told : ModuleTold Word untracked (analysis_in f)) (fine : ModuleFine Word untracked f.known.known) where
  abbrev analysed : Analysis
  analysed = analysis_in f

  abbrev looked_at : Known
  looked_at = known_in f

  abbrev own_names : List (List ℕ)
  own_names = symbol_names looked_at.symbols

  abbrev known_there : Knowledge
  known_there = knowledge_of looked_at.read looked_at.symbols own_names (scope_of untracked looked_at) e.at analysed.found.own.at analysed.holds.at f.known.known.regions.at f.known.ins.at f.outs.at

  body_named : (l : LoopTree) → RegionsNamed Word own_names (known_there.body l).regions
  body_named (tree.loop index first last step body) =
      let ok : ℕ → Type 0 = IsTracked untracked looked_at in
      let M : Variable → Type 0 = IsNamedHere Word looked_at in
      let t : ℕ → Transformer = transformer_at analysed.found.own.at in
      let rs : ℕ → List Region = accesses_at f.known.known.regions.at in
      fine_named Word own_names ok (list_regions t rs false body)
      (list_fine M ok t rs (found_done ok analysed.found.own.at told.ok.found.at) (at_fine M ok f.known.known.regions.at (λ n qs q. value_is (AreFine M ok) f.known.known.regions.at n qs fine.at q)) false body)

  pub found_named : MarksNamed Word own_names (marks_found untracked f e)
  found_named = marks_named Word own_names known_there refl body_named

  found_reduced : (modules : List (List ℕ)) (ms : List (At Mark)) → ReductionsNamed own_names (reduced_of known_there modules ms)
  found_reduced modules ms = reductions_named Word own_names known_there refl body_named modules ms

pub reduced_named : (Word : List ℕ → Type 0) (g : Graph) (f : ModuleResults) → ModuleTold Word g.untracked (analysis_in (phases_of f)) → ModuleFine Word g.untracked (phases_of f).known.known
    → ReductionsNamed (symbol_names f.known.symbols) (reduced_in g f)
reduced_named Word g f told fine = found_reduced Word g.untracked (phases_of f) f.effects told fine g.order f.marks

-- where none are asked for, there are none
pub asked_named : (names : List (List ℕ)) (reductions : Bool) (g : Graph) (f : ModuleResults) → ReductionsNamed names (reduced_in g f) → ReductionsNamed names (reductions_of reductions g f)
asked_named names false g f h = tt
asked_named names true g f h = h

-- ---- as laws on their lines ask

shown_variable : (names : List (List ℕ)) (v : Variable) → IsNamedBy IsShown names v → IsShownVariable v
shown_variable names (Own n) h = tt
shown_variable names (Block b) h = h
shown_variable names (Saved s x) h = h

shown_said : (functions names : List (List ℕ)) (m : Mark) (o : Option Reduction) → MarkNamed IsShown names m → IsShownSaid (loop_said functions names m o)
shown_said functions names m (Some r) h = tt
shown_said functions names (Parallel ns) None h = tt
shown_said functions names (Serial Jump) None h = tt
shown_said functions names (Serial InputOutput) None h = tt
shown_said functions names (Serial Step) None h = tt
shown_said functions names (Serial Index) None h = tt
shown_said functions names (Serial (Carries v ks p)) None h = shown_variable names v h

pub all_shown : (functions names : List (List ℕ)) (rs : List (At Reduction)) (ms : List (At Mark)) → MarksNamed IsShown names ms → AreShownSaid (map (loop_said_at functions names rs) ms)
all_shown functions names rs [] h = tt
all_shown functions names rs (m ∷ ms) h = (shown_said functions names m.value (value_at rs m.id) h.first, all_shown functions names rs ms h.others)

-- so they are read as just these marks
mark_read : DirectivesReadBack → ObstaclesAreNoDirectives → (Word : List ℕ → Type 0) (names : List (List ℕ)) → AreNames names → (m : Mark) → MarkNamed Word names m → IsMarkRead names m
mark_read directives obstacles Word names are (Parallel ns) h = directives names ns are h
mark_read directives obstacles Word names are (Serial r) h = obstacles names r

pub marks_read : DirectivesReadBack → ObstaclesAreNoDirectives → (Word : List ℕ → Type 0) (names : List (List ℕ)) → AreNames names → (ms : List (At Mark)) → MarksNamed Word names ms → AreMarksRead names ms
marks_read directives obstacles Word names are [] h = tt
marks_read directives obstacles Word names are (m ∷ ms) h = (mark_read directives obstacles Word names are m.value h.first, marks_read directives obstacles Word names are ms h.others)

-- and as these reductions
pub reductions_read : ReductionsReadBack → (functions names : List (List ℕ)) → AreNames names → (rs : List (At Reduction)) → ReductionsNamed names rs → AreReductionsRead functions names rs
reductions_read law functions names are [] h = tt
reductions_read law functions names are (r ∷ rs) h =
    (law names (numbers_without functions names r.value.private) r.value.parts are (numbers_named functions names r.value.private h.0.0) h.0.1, reductions_read law functions names are rs h.1)
